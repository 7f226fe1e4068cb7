use Rattle.std.proofs.Common.{◌∙◌, sym, ap}
use Rattle.std.specs.Option.{option_map}
use Rattle.type_rules.specs.Calls.{calls, takes, signature}
use Rattle.type_rules.specs.CallRows.{row_meant}
use Rattle.ugen_names.proofs.FirstRow.{found_here, found_later}
use Rattle.type_rules.proofs.calls.call.Goals as goal

pub returns-then-takes : goal.returns-then-takes
returns-then-takes c =
    sym (ap (option_map signature) (c.loop-row.invariant ∙ found_here row_meant _ calls c.rows-row-items.result.now c.rows-row-items.ensures (takes c.args.holder c.args.name.now c.args.count) c.loop-row.row-index c.loop-row-test.true (sym c.takes.ensures ∙ c.if-takes.true)))

pub loop-row-preserved : goal.loop-row-preserved
loop-row-preserved c =
    c.loop-row.invariant ∙ found_later row_meant _ calls c.rows-row-items.result.now c.rows-row-items.ensures (takes c.args.holder c.args.name.now c.args.count) c.loop-row.row-index c.loop-row-test.true (sym c.takes.ensures ∙ c.if-takes.false)
