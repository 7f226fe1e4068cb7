use Rattle.std.proofs.Common.{rules, ◌≡◌, ◌<◌, length, false, arith}
use Rattle.std.proofs.lemmas.Bool.Decides.{nat_tests}
use Rattle.check_scope.specs.Scope.{is_empty}
use Rattle.check_scope.specs.View.{all_typed}
use Rattle.check_decls.proofs.Printed.{some_typed}
use Rattle.check_decls.proofs.print.printed.Goals as goal

pub returns-clause-stated : goal.returns-clause-stated
returns-clause-stated c =
    let more : 0 < length c.args.values.items =
    grind (arith, nat_tests, c.if-is_empty.false, c.is_empty.ensures) in
    let some : is_empty (all_typed c.args.values.items) ≡ false =
    some_typed c.args.values.items more in
    search (rules, some)
