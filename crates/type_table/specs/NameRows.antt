-- What the rows of built-in names stand for.
use Rattle.std.specs.Prelude.{ℕ, List}
use Rattle.std.specs.Borrow.{Bor}
use Rattle.ck_syntax.specs.Tree.{Name}
use Rattle.type_table.specs.declared.built_ins.BuiltInName.{BuiltInName}

abbrev pub row_meant : Bor (List ℕ) × BuiltInName → Name × BuiltInName
row_meant r = (r.0.now, r.1)
