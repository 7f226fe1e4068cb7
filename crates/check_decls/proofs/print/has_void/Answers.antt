use Rattle.std.proofs.Common.{◌∙◌, sym}
use Rattle.check_decls.proofs.Printed.{none_more, none_done, one_void}
use Rattle.check_decls.proofs.print.has_void.Goals as goal

pub returns-then-is_void : goal.returns-then-is_void
returns-then-is_void c =
    sym (one_void c.args.values.now c.loop-value.value-index c.value-item.result
    c.loop-value-test.true c.value-item.is (sym c.is_void.ensures ∙ c.if-is_void.true))

pub loop-value-preserved : goal.loop-value-preserved
loop-value-preserved c =
    none_more c.args.values.now c.loop-value.value-index c.value-item.result c.loop-value-test.true
    c.value-item.is (sym c.is_void.ensures ∙ c.if-is_void.false) c.loop-value.invariant

pub returns : goal.returns
returns c =
    sym (none_done c.args.values.now c.loop-value.value-index c.loop-value-test.false
    c.loop-value.invariant)
