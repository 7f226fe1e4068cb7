use Rattle.std.proofs.Common.{arith}
use Rattle.std.proofs.lemmas.Grind.{common_steps}
use Rattle.ck_values.specs.Datum.{meant}
use Rattle.ck_store.specs.Operators.{binary}
use Rattle.machine_world.specs.Shown.{operands_of}
use Rattle.machine_world.proofs.Operands.{operand_meant}
use Rattle.machine_world.proofs.Picked.{looked_beneath}
use Rattle.loop_steps.proofs.Found.{operate_fits}
use Rattle.loop_steps.proofs.values.operated.Goals as goal

pub of_ints-requires : goal.of_ints-requires
of_ints-requires c =
    let fits = looked_beneath (binary c.args.operator) (operands_of c.args.shred.now)
    (meant c.operand.result.now) (meant c.operand-2.result.now)
    (operand_meant c.args.shred.now 1 _ c.operand.ensures)
    (operand_meant c.args.shred.now 0 _ c.operand-2.ensures)
    (operate_fits _ _ _ c.args.operator c.requires.is c.requires.can.can.can) in
    grind (arith, common_steps, fits)
