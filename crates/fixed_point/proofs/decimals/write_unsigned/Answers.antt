use Rattle.std.proofs.Common.{rules, arith, ◌/◌}
use Rattle.std.proofs.lemmas.Fmt.{length-decimal-le}
use Rattle.fixed_point.proofs.decimals.write_unsigned.Goals as goal

pub write_digits-requires : goal.write_digits-requires
write_digits-requires c =
    (omega (arith, length-decimal-le 10 (c.args.millionths / 1_000_000) (omega arith) (omega arith) (omega arith)), search rules)

pub returns-clause-sign_fits : goal.returns-clause-sign_fits
returns-clause-sign_fits c =
    omega (arith, length-decimal-le 10 (c.args.millionths / 1_000_000) (omega arith) (omega arith) (omega arith))
