use Rattle.std.proofs.Common.{◌∙◌, sym}
use Rattle.check_scope.specs.Expressions.{is_row_of}
use Rattle.check_operations.proofs.TypedLists.{all_more, all_done, all_stop}
use Rattle.check_operations.proofs.arrays.are_rows_of.Goals as goal

pub returns-then-not-is_row_of : goal.returns-then-not-is_row_of
returns-then-not-is_row_of c =
    sym (all_stop (is_row_of c.args.elem) c.args.values.now c.loop-value.value-index c.value-item.result c.loop-value-test.true c.value-item.is (sym c.is_row_of.ensures ∙ c.if-not-is_row_of.true))

pub loop-value-preserved : goal.loop-value-preserved
loop-value-preserved c =
    all_more (is_row_of c.args.elem) c.args.values.now c.loop-value.value-index c.value-item.result c.loop-value-test.true c.value-item.is (sym c.is_row_of.ensures ∙ c.if-not-is_row_of.false) c.loop-value.invariant

pub returns : goal.returns
returns c = sym (all_done (is_row_of c.args.elem) c.args.values.now c.loop-value.value-index c.loop-value-test.false c.loop-value.invariant)
