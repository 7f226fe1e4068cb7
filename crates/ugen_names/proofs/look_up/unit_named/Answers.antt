use Rattle.std.proofs.Common.{◌∙◌, sym, ap}
use Rattle.std.specs.Option.{option_map}
use Rattle.ugen_names.specs.Rows.{row_meant}
use Rattle.ugen_names.specs.Table.{Row, rows, is_named}
use Rattle.ugen_names.proofs.FirstRow.{found_here, found_later}
use Rattle.ugen_names.proofs.look_up.unit_named.Goals as goal

pub returns-then-is_named : goal.returns-then-is_named
returns-then-is_named c =
    sym (ap (option_map (λ (r : Row). r.kind)) (c.loop-row.invariant ∙ found_here row_meant _ rows c.rows-row-items.result.now c.rows-row-items.ensures (is_named c.args.name.now) c.loop-row.row-index c.loop-row-test.true (sym c.is_named.ensures ∙ c.if-is_named.true)))

pub loop-row-preserved : goal.loop-row-preserved
loop-row-preserved c =
    c.loop-row.invariant ∙ found_later row_meant _ rows c.rows-row-items.result.now c.rows-row-items.ensures (is_named c.args.name.now) c.loop-row.row-index c.loop-row-test.true (sym c.is_named.ensures ∙ c.if-is_named.false)
