-- The parameters of unit generators as typing asks for them: which one a name is, its type, and
-- whether it can be set.
use Rattle.std.specs.Prelude.{Bool, Option}
use Rattle.std.specs.Option.{option_map}
use Rattle.ck_values.specs.declared.kind.Elem.{Elem}
use Rattle.ck_values.specs.ParamTypes.{elem_of}
use Rattle.ugen_names.specs.declared.param.Param.{Param}
use Rattle.ugen_names.specs.declared.table.UgenKind.{UgenKind}
use Rattle.ck_syntax.specs.Tree.{Name}
use Rattle.ugen_names.specs.Table as table
use Rattle.ugen_names.specs.Table.{parameter_named}

-- which it is, its type, and whether it is read only
pub record Settable : Type 0 where
  pub param : Param
  pub elem : Elem
  pub is_read_only : Bool

abbrev pub settable_of : table.Parameter → Settable
settable_of q = record { param = q.param; elem = elem_of q.values; is_read_only = q.is_read_only }

-- the parameter of this name that a kind has by the table
abbrev pub parameter_of : UgenKind → Name → Option Settable
parameter_of k n = option_map settable_of (parameter_named k n)
