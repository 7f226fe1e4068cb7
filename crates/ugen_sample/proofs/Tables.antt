-- What a unit generator has is as the table of kinds has it.
use Rattle.std.proofs.Common.{◌≡◌, ℕ, List, option_map, IsTrue, refl, ◌∙◌}
use Rattle.std.specs.Prelude.{is_some}
use Rattle.ck_values.specs.Datum.{Datum, AnInt, AFloat}
use Rattle.ugen_names.specs.declared.param.Param.{Param}
use Rattle.ugen_names.specs.declared.param.Param.TheVariants as param
use Rattle.ugen_names.specs.declared.table.UgenKind.{UgenKind}
use Rattle.ugen_names.specs.Table.{common}
use Rattle.ugen_kinds.specs.declared.generator.Generator.{Generator}
use Rattle.ugen_kinds.specs.SoundFile.{SoundFile}
use Rattle.ugen_kinds.specs.Generator.{kind_of, with_own_parameter}
use Rattle.ugen_kinds.specs.Table.{is_in_table, reads, can_be_set, first_by}
use Rattle.ugen_kinds.proofs.Tables.{read_by_table, first_by_table, some_mapped, set_by_table}
use Rattle.ugen_sample.specs.declared.unit.UnitState.{UnitState}
use Rattle.ugen_sample.specs.UnitState.{first_unit}
use Rattle.ugen_sample.specs.Parameters.{unit_parameter, with_unit_parameter}
use Rattle.ugen_sample.specs.Table.{parameter_row}

pub unit_reads : (waves : List SoundFile) (p : Param) (unit : UnitState)
    → IsTrue (is_in_table (kind_of unit.generator))
    → IsTrue (reads (parameter_row (kind_of unit.generator) p) (unit_parameter waves p unit))
unfolding unit_parameter common
unit_reads waves param.Gain unit h = refl
unit_reads waves param.Op unit h = refl
unit_reads waves param.Last unit h = refl
unit_reads waves p unit h = read_by_table waves p unit.generator h

pub unit_at_first : (waves : List SoundFile) (p : Param) (k : UgenKind) (maker number : ℕ)
    → IsTrue (is_in_table k)
    → unit_parameter waves p (first_unit k maker number) ≡ option_map first_by (parameter_row k p)
unfolding unit_parameter common
unit_at_first waves param.Gain k maker number h = refl
unit_at_first waves param.Op k maker number h = refl
unit_at_first waves param.Last k maker number h = refl
unit_at_first waves p k maker number h = first_by_table waves p k number h

abbrev keeping : UnitState → Generator → UnitState
keeping unit g = record unit { generator = g }

pub unit_sets : (waves : List SoundFile) (p : Param) (v : Datum) (unit : UnitState)
    → IsTrue (is_in_table (kind_of unit.generator))
    → is_some (with_unit_parameter waves p v unit)
    ≡ can_be_set (parameter_row (kind_of unit.generator) p) v
unfolding with_unit_parameter common
unit_sets waves param.Gain (AFloat x) unit h = refl
unit_sets waves param.Gain _ unit h = refl
unit_sets waves param.Op (AnInt n) unit h = refl
unit_sets waves param.Op _ unit h = refl
unit_sets waves param.Last v unit h = refl
unit_sets waves p v unit h =
    some_mapped (keeping unit) (with_own_parameter waves p v unit.generator)
    ∙ set_by_table waves p v unit.generator h
