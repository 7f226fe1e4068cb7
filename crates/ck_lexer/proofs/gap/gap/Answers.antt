use Rattle.std.proofs.Common.{sym, ◌∙◌, ap}
use Rattle.std.specs.List.{prefix_len}
use Rattle.ck_lexer.specs.Bytes.{is_in_line}
use Rattle.ck_lexer.proofs.Comments.{space_gap, line_gap, block_gap}
use Rattle.ck_lexer.proofs.gap.gap.Goals as goal

pub returns-then-is_space : goal.returns-then-is_space
returns-then-is_space c = space_gap _ _ c.in_ok-first.first.now c.in_ok-first.ensures.cases.0 (sym c.is_space.ensures ∙ c.if-is_space.true)

pub returns-then-starts_with : goal.returns-then-starts_with
returns-then-starts_with c = line_gap _ _ (sym c.starts_with.ensures.value ∙ c.if-starts_with.true) (c.line_bytes.ensures.count ∙ ap (prefix_len is_in_line) c.behind.ensures)

pub returns-then-starts_with-2 : goal.returns-then-starts_with-2
returns-then-starts_with-2 c =
    let h = rw c.behind-then-starts_with-2.ensures at c.in_ok-comment_end.ensures in
    block_gap _ _ (sym c.starts_with-2.ensures.value ∙ c.if-starts_with-2.true) h.0 h.1
