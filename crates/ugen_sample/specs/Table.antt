-- The table of kinds against what every unit generator has.
use Rattle.std.specs.Prelude.{Option}
use Rattle.ugen_names.specs.declared.param.Param.{Param}
use Rattle.ugen_names.specs.declared.table.UgenKind.{UgenKind}
use Rattle.ugen_names.specs.Table.{Parameter, among, parameters}

-- what the table says of a parameter of a kind
abbrev pub parameter_row : UgenKind → Param → Option Parameter
parameter_row kind p = among p (parameters kind)
