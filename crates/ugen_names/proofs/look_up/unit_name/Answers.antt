use Rattle.std.proofs.Common.{◌∙◌, sym, ap}
use Rattle.ugen_names.specs.Rows.{row_meant}
use Rattle.ugen_names.specs.Table.{rows, is_of, name_or_all}
use Rattle.ugen_names.proofs.FirstRow.{found_here, found_later}
use Rattle.ugen_names.proofs.look_up.unit_name.Goals as goal

pub returns-then-is_of : goal.returns-then-is_of
returns-then-is_of c =
    sym (ap (name_or_all) (c.loop-row.invariant ∙ found_here row_meant _ rows c.rows-row-items.result.now c.rows-row-items.ensures (is_of c.args.kind) c.loop-row.row-index c.loop-row-test.true (sym c.is_of.ensures ∙ c.if-is_of.true)))

pub loop-row-preserved : goal.loop-row-preserved
loop-row-preserved c =
    c.loop-row.invariant ∙ found_later row_meant _ rows c.rows-row-items.result.now c.rows-row-items.ensures (is_of c.args.kind) c.loop-row.row-index c.loop-row-test.true (sym c.is_of.ensures ∙ c.if-is_of.false)
