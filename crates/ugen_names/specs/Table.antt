-- The kinds of unit generators that the language has, and their parameters.
use Rattle.std.specs.Prelude.{ℕ, ℤ, Bool, true, false, not, ◌&&◌, ◌++◌, List, [], ◌∷◌, map, find, is_some, Option, Some, None, option_map, codes}
use Rattle.std.specs.Str.{bytes_eq}
use denote.Enum.Bare.{sameb}
use Rattle.ugen_names.specs.declared.param.ParamType.{ParamType}
use Rattle.ugen_names.specs.contracts.param.Param as param
use Rattle.ugen_names.specs.declared.param.Param.{Param}
use Rattle.ugen_names.specs.contracts.table.UgenKind as ugen_kind
use Rattle.ugen_names.specs.declared.table.UgenKind.{UgenKind}
use Rattle.ugen_names.specs.declared.table.UgenKind.TheVariants.{UGen}
use Rattle.ugen_names.specs.declared.table.TheConstants.{COMMON, UGENS}
use Rattle.ugen_names.specs.ParameterNames.{parameter_name}

-- a parameter: which it is, what its values are, what it reads of a unit generator as it is made
-- (of a float the raw number, of a dur the samples), and whether it can't be set
pub record Parameter : Type 0 where
  pub param : Param
  pub values : ParamType
  pub first : ℤ
  pub is_read_only : Bool

abbrev pub parameter_meant : Param × ParamType × ℤ × Bool → Parameter
parameter_meant p = record { param = p.0; values = p.1; first = p.2; is_read_only = p.3 }

-- a kind, its name, and the parameters that it has of its own
pub record Row : Type 0 where
  pub kind : UgenKind
  pub name : List ℕ
  pub parameters : List Parameter

abbrev pub row : UgenKind → List ℕ → List Parameter → Row
row kind name ps = record { kind = kind; name = name; parameters = ps }

-- the kinds are the rows of the table of src/table.rt
unfoldable pub rows : List Row
rows = map (λ r. row r.0 r.1.now (map parameter_meant r.2.now)) UGENS.now

-- kinds -----------------------------------------------------------------------------------------

abbrev pub is_of : UgenKind → Row → Bool
is_of kind r = sameb ugen_kind.the_type r.kind kind

abbrev pub row_of : UgenKind → Option Row
row_of kind = find (is_of kind) rows

-- the kind is a type of the language
abbrev pub has_row : UgenKind → Bool
has_row kind = is_some (row_of kind)

-- an object of this kind can be made: it is a type, and not the one that all fit
abbrev pub is_made : UgenKind → Bool
is_made UGen = false
is_made kind = has_row kind

-- the name of a type
abbrev pub is_named : List ℕ → Row → Bool
is_named n r = bytes_eq r.name n

abbrev pub unit_named : (name : List ℕ) → Option UgenKind
unit_named n = option_map (λ r. r.kind) (find (is_named n) rows)

-- the name of a kind; one that is no type has the name of all
abbrev pub name_or_all : Option Row → List ℕ
name_or_all None = codes "UGen"
name_or_all (Some r) = r.name

abbrev pub unit_name : UgenKind → List ℕ
unit_name kind = name_or_all (row_of kind)

-- parameters ------------------------------------------------------------------------------------

abbrev pub parameters_or_none : Option Row → List Parameter
parameters_or_none None = []
parameters_or_none (Some r) = r.parameters

-- what every kind has, what one has of its own, and all that it has
unfoldable pub common : List Parameter
common = map parameter_meant COMMON.now

abbrev pub own_parameters : UgenKind → List Parameter
own_parameters kind = parameters_or_none (row_of kind)

abbrev pub parameters : UgenKind → List Parameter
parameters kind = common ++ own_parameters kind

-- a parameter among these
abbrev pub among : Param → List Parameter → Option Parameter
among p ps = find (λ q. sameb param.the_type q.param p) ps

-- the parameter of this name that a kind has
abbrev pub is_called : List ℕ → Parameter → Bool
is_called n q = bytes_eq (parameter_name q.param) n

abbrev pub parameter_named : UgenKind → (name : List ℕ) → Option Parameter
parameter_named kind n = find (is_called n) (parameters kind)

-- laws ------------------------------------------------------------------------------------------

-- none of these stands twice
abbrev pub are_distinct : List Parameter → Bool
are_distinct [] = true
are_distinct (q ∷ ps) = not (is_some (among q.param ps)) && are_distinct ps
