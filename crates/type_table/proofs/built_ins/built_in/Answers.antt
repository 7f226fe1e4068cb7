use Rattle.std.proofs.Common.{◌∙◌, sym, ap, Option, option_map}
use Rattle.ugen_names.specs.Table.{unit_named}
use Rattle.type_table.specs.declared.built_ins.BuiltInName.{BuiltInName}
use Rattle.type_table.specs.Names.{or_else, unit_type, built_in_names}
use Rattle.type_table.specs.NameRows.{row_meant}
use Rattle.type_table.proofs.FirstName.{name_here, name_later}
use Rattle.type_table.proofs.built_ins.built_in.Goals as goal

pub returns-then-eq : goal.returns-then-eq
returns-then-eq c =
    let or_unit : Option BuiltInName → Option BuiltInName =
    λ o. or_else o (option_map unit_type (unit_named c.args.name.now))
    in
    sym (ap or_unit (c.loop-row.invariant ∙ name_here row_meant _ built_in_names c.rows-row-items.result.now c.rows-row-items.ensures c.args.name.now c.loop-row.row-index c.loop-row-test.true (sym c.eq.ensures ∙ c.if-eq.true)))

pub loop-row-preserved : goal.loop-row-preserved
loop-row-preserved c =
    c.loop-row.invariant ∙ name_later row_meant _ built_in_names c.rows-row-items.result.now c.rows-row-items.ensures c.args.name.now c.loop-row.row-index c.loop-row-test.true (sym c.eq.ensures ∙ c.if-eq.false)
