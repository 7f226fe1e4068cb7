-- What of a unit generator stays as long as it is there.
use Rattle.std.specs.Prelude.{ℕ, List, map, Option, option_map}
use Rattle.ugen_names.specs.declared.table.UgenKind.{UgenKind}
use Rattle.ugen_kinds.specs.Generator.{kind_of}
use Rattle.ugen_sample.specs.declared.unit.UnitState.{UnitState}
use Rattle.ugen_sample.specs.UnitState.{Units}

-- the shred that made it, and its kind
abbrev pub origin_of : UnitState → ℕ × UgenKind
origin_of unit = (unit.maker, kind_of unit.generator)

-- those of all, by place
abbrev pub origins_of : Units → List (Option (ℕ × UgenKind))
origins_of units = map (λ u. option_map origin_of u) units
