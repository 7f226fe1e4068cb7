-- What every unit generator keeps, whatever its kind.
use Rattle.std.specs.Prelude.{ℕ, List, [], ◌∷◌, Option, Some, None, slice_index_or}
use Rattle.ugen_names.specs.declared.table.UgenKind.{UgenKind}
use Rattle.ugen_names.specs.declared.table.UgenKind.TheVariants.{Dac, Blackhole}
use Rattle.fixed_point.specs.Fix.{one}
use Rattle.ugen_sample.specs.declared.unit.UnitState.{UnitState}
use Rattle.ugen_kinds.specs.Generator.{first_of}
use Rattle.ugen_kinds.specs.Output.{silence}
use Rattle.ugen_sample.specs.declared.choices.Joining.TheVariants.{Sum}

-- one of this kind as a shred makes it, where it is the object with this number
abbrev pub first_unit : UgenKind → (maker number : ℕ) → UnitState
first_unit kind maker number =
    record {
      maker = maker;
      generator = first_of kind number;
      joining = Sum;
      gain = one;
      last = silence;
    }

-- unit generators by their places; a place may be free
abbrev pub Units : Type 0
Units = List (Option UnitState)

abbrev pub unit_at : Units → ℕ → Option UnitState
unit_at units n = slice_index_or units n None

-- those of every run, which no shred makes: the output, and what pulls without being heard
abbrev pub first_units : Units
first_units = Some (first_unit Dac 0 1) ∷ Some (first_unit Blackhole 0 2) ∷ []
