-- What the rows of the table stand for as the code has them.
use Rattle.std.specs.Prelude.{ℕ, ℤ, Bool, List, map}
use Rattle.std.specs.Borrow.{Bor}
use Rattle.ugen_names.specs.declared.param.Param.{Param}
use Rattle.ugen_names.specs.declared.param.ParamType.{ParamType}
use Rattle.ugen_names.specs.declared.table.UgenKind.{UgenKind}
use Rattle.ugen_names.specs.Table.{Row, row, parameter_meant}

abbrev pub row_meant : UgenKind × Bor (List ℕ) × Bor (List (Param × ParamType × ℤ × Bool)) → Row
row_meant r = row r.0 r.1.now (map parameter_meant r.2.now)
