use Rattle.std.proofs.Common.{◌∙◌, sym}
use Rattle.type_rules.specs.Calls.{calls, is_called}
use Rattle.type_rules.specs.CallRows.{row_meant}
use Rattle.ugen_names.proofs.FirstRow.{any_here, any_later}
use Rattle.type_rules.proofs.calls.has_call.Goals as goal

pub returns-then-is_called : goal.returns-then-is_called
returns-then-is_called c =
    sym (c.loop-row.invariant ∙ any_here row_meant _ calls c.rows-row-items.result.now c.rows-row-items.ensures (is_called c.args.holder c.args.name.now) c.loop-row.row-index c.loop-row-test.true (sym c.is_called.ensures ∙ c.if-is_called.true))

pub loop-row-preserved : goal.loop-row-preserved
loop-row-preserved c =
    c.loop-row.invariant ∙ any_later row_meant _ calls c.rows-row-items.result.now c.rows-row-items.ensures (is_called c.args.holder c.args.name.now) c.loop-row.row-index c.loop-row-test.true (sym c.is_called.ensures ∙ c.if-is_called.false)
