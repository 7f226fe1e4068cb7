use Rattle.std.proofs.Common.{◌≡◌, drop}
use Rattle.ck_syntax.specs.Tree.{no_brackets}
use Rattle.ck_syntax.specs.View.{brackets_of}
use Rattle.type_table.specs.Types.{all_sized}
use Rattle.type_table.proofs.types.are_all_sized.Given as goal

abbrev pub invariant-loop-bracket : goal.invariant-loop-bracket
invariant-loop-bracket l = all_sized (brackets_of no_brackets l.brackets) ≡ all_sized (brackets_of no_brackets (drop l.bracket-index l.brackets))
