use Rattle.ck_lexer.proofs.Comments.{Sought}
use Rattle.ck_lexer.proofs.gap.comment_end.Given as goal

abbrev pub invariant-loop-n : goal.invariant-loop-n
invariant-loop-n l = Sought l.bytes l.n
