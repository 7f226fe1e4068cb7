-- Lines of classes, as the table's look-ups follow them.
use Rattle.std.specs.Prelude.{ℕ, List, [], Option, Some, None}
use Rattle.type_table.specs.declared.line.Line.{Line}
use Rattle.type_table.specs.Table.{Table, line_within}

-- a class and at most so many of its ancestors
unfoldable pub classes_by : (parents : List ℕ) → Line → List ℕ
classes_by parents l = line_within parents l.steps l.class

abbrev pub classes_of : Table → Line → List ℕ
classes_of t l = classes_by t.parents l

-- those above a class, where there are any
abbrev pub above_by : (parents : List ℕ) → Option Line → List ℕ
above_by parents None = []
above_by parents (Some l) = classes_by parents l

abbrev pub above_of : Table → Option Line → List ℕ
above_of t l = above_by t.parents l
