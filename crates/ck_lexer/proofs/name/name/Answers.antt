use Rattle.std.proofs.Common.{sym, ◌∙◌}
use Rattle.ck_lexer.proofs.Stands.{word_stands, name_stands, name_too_long}
use Rattle.ck_lexer.proofs.name.name.Goals as goal

pub returns-in-Some : goal.returns-in-Some
returns-in-Some c = word_stands _ c.split_at.result.0.now _ _ c.requires.name c.requires.no_comment c.name_bytes-length.ensures.count c.split_at.ensures.front (sym c.in-Some.ensures)

pub returns-then-not-is_within_limit : goal.returns-then-not-is_within_limit
returns-then-not-is_within_limit c = name_too_long _ c.split_at.result.0.now _ c.requires.name c.name_bytes-length.ensures.count c.split_at.ensures.front (sym c.word_of.ensures ∙ c.in_default.is) (sym c.is_within_limit.ensures ∙ c.if-not-is_within_limit.true)

pub returns : goal.returns
returns c =
    let same = c.in_ok-name.ensures in
    rw same (name_stands _ c.split_at.result.0.now _ c.requires.name c.requires.no_comment c.name_bytes-length.ensures.count c.split_at.ensures.front (sym c.word_of.ensures ∙ c.in_default.is) (sym c.is_within_limit.ensures ∙ c.if-not-is_within_limit.false))
