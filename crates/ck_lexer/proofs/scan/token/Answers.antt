use Rattle.std.proofs.Common.{sym, ◌∙◌}
use Rattle.ck_lexer.proofs.Stands.{mark_stands, no_mark_stands, no_bytes}
use Rattle.ck_lexer.proofs.scan.token.Goals as goal

pub returns-in_default : goal.returns-in_default
returns-in_default c = no_bytes _ c.in_default.ensures.cases

pub returns-in-Some-mark_at : goal.returns-in-Some-mark_at
returns-in-Some-mark_at c =
    mark_stands _ c.in-Some.behind.now c.in-Some.first.now _ _ c.in-Some.ensures.cases.0 (sym c.begins_name.ensures ∙ c.if-begins_name.false) c.if-first-eq34.false
    (sym c.begins_number.ensures ∙ c.if-begins_number.false) (sym c.opens_comment.ensures ∙ c.if-opens_comment.false) (sym c.in-Some-mark_at.ensures)

pub returns-in-None : goal.returns-in-None
returns-in-None c =
    no_mark_stands _ c.in-Some.behind.now c.in-Some.first.now c.in-Some.ensures.cases.0 (sym c.begins_name.ensures ∙ c.if-begins_name.false) c.if-first-eq34.false
    (sym c.begins_number.ensures ∙ c.if-begins_number.false) (sym c.in-None.ensures)
