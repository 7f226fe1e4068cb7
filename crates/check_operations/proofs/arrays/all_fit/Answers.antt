use Rattle.std.proofs.Common.{◌∙◌, sym}
use Rattle.check_scope.specs.Expressions.{fits}
use Rattle.check_operations.proofs.TypedLists.{all_more, all_done, all_stop}
use Rattle.check_operations.proofs.arrays.all_fit.Goals as goal

pub returns-then-not-fits : goal.returns-then-not-fits
returns-then-not-fits c =
    sym (all_stop (λ x. fits c.args.parents.now x c.args.kind) c.args.values.now c.loop-value.value-index c.value-item.result c.loop-value-test.true c.value-item.is (sym c.fits.ensures ∙ c.if-not-fits.true))

pub loop-value-preserved : goal.loop-value-preserved
loop-value-preserved c =
    all_more (λ x. fits c.args.parents.now x c.args.kind) c.args.values.now c.loop-value.value-index c.value-item.result c.loop-value-test.true c.value-item.is (sym c.fits.ensures ∙ c.if-not-fits.false) c.loop-value.invariant

pub returns : goal.returns
returns c = sym (all_done (λ x. fits c.args.parents.now x c.args.kind) c.args.values.now c.loop-value.value-index c.loop-value-test.false c.loop-value.invariant)
