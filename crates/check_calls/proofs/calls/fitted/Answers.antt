use Rattle.std.proofs.Common.{◌≡◌, ◌<◌, ◌∙◌, ap, sym, arith, length, Some}
use Rattle.std.proofs.lemmas.Bool.Decides.{nat_tests}
use Rattle.ck_typed.specs.View.{exprs_of}
use Rattle.check_calls.proofs.Arguments.{all_taken, too_few}
use Rattle.check_calls.proofs.calls.fitted.Goals as goal

pub returns-then-is_empty-clause-fitted : goal.returns-then-is_empty-clause-fitted
returns-then-is_empty-clause-fitted c =
    let none : length c.loop-argument.rest.now ≡ 0 = grind (arith, nat_tests, c.if-is_empty.true, c.is_empty.ensures) in
    all_taken _ _ _ _ _ _ c.loop-argument.invariant.3 (sym c.loop-argument.invariant.2 ∙ c.in-None.ensures.steps.0) none ∙ ap (λ es. Some (exprs_of es)) (sym c.from_vec.ensures)

pub returns-else-is_empty-clause-fitted : goal.returns-else-is_empty-clause-fitted
returns-else-is_empty-clause-fitted c =
    let more : 0 < length c.loop-argument.rest.now = grind (arith, nat_tests, c.if-is_empty.false, c.is_empty.ensures) in
    too_few _ _ _ _ _ _ c.loop-argument.invariant.3 (sym c.loop-argument.invariant.2 ∙ c.in-None.ensures.steps.0) more
