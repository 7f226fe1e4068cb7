use Rattle.std.proofs.Common.{◌<◌, ◌∙◌, ap, sym, arith, length}
use Rattle.std.proofs.lemmas.Bool.Decides.{nat_tests}
use Rattle.type_table.specs.Answer.{fault}
use Rattle.check_scope.specs.declared.typed.Typed.{Typed}
use Rattle.check_calls.proofs.Arguments.{param-many}
use Rattle.check_calls.proofs.calls.param_call.Goals as goal

pub returns-then-not-is_empty : goal.returns-then-not-is_empty
returns-then-not-is_empty c =
    let some : 0 < length c.pop.new.self = grind (arith, nat_tests, c.if-not-is_empty.true, c.is_empty.ensures, ap (length {A = Typed}) c.items.ensures) in
    λ _. param-many _ c.args.scope.now _ _ _ _ _ _ c.in-Some.ensures.last some ∙ ap fault (sym c.wrong.ensures)
