use Rattle.std.proofs.Common.{codes, sym, ◌∙◌, ap, arith}
use Rattle.ck_lexer.specs.Gaps.{begins}
use Rattle.ck_lexer.proofs.Comments.{found_end, sought_more, never_closes}
use Rattle.ck_lexer.proofs.gap.comment_end.Goals as goal

pub returns-then-starts_with : goal.returns-then-starts_with
returns-then-starts_with c = found_end _ _ (ap (begins (codes "*/")) (sym c.behind.ensures) ∙ sym c.starts_with.ensures.value ∙ c.if-starts_with.true) c.loop-n.invariant

pub loop-n-preserved : goal.loop-n-preserved
loop-n-preserved c = sought_more _ _ c.loop-n-test.true (ap (begins (codes "*/")) (sym c.behind.ensures) ∙ sym c.starts_with.ensures.value ∙ c.if-starts_with.false) c.loop-n.invariant

pub returns : goal.returns
returns c = never_closes _ c.loop-n.n (omega arith) c.loop-n.invariant
