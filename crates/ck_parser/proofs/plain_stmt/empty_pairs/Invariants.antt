use Rattle.std.proofs.Common.{◌≡◌, drop}
use Rattle.parse_exprs.specs.Machine.{empty_pairs}
use Rattle.ck_parser.proofs.EmptyPairs.{pairs_on}
use Rattle.ck_syntax.specs.Tree.{no_brackets}
use Rattle.ck_syntax.specs.View.{brackets_of}
use Rattle.ck_parser.proofs.plain_stmt.empty_pairs.Given as goal

abbrev pub invariant-loop-bracket : goal.invariant-loop-bracket
invariant-loop-bracket l = empty_pairs (brackets_of no_brackets l.brackets)
    ≡ pairs_on l.bracket-index (drop l.bracket-index l.brackets)
