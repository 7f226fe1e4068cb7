use Rattle.std.proofs.Common.{◌≡◌, ◌∙◌, ap, arith, length, nat_le, sym}
use Rattle.ck_base.specs.declared.limits.TheConstants.{MAX_TEXT_BYTES}
use Rattle.ck_lexer.proofs.Stands.{text_stands, text_too_long, text_unclosed}
use Rattle.ck_lexer.proofs.quoted.text.Goals as goal

pub returns-in_default : goal.returns-in_default
returns-in_default c = text_unclosed _ (rw c.in_default.is at c.in_ok-value.ensures)

pub returns-then-not-is_within_limit : goal.returns-then-not-is_within_limit
returns-then-not-is_within_limit c =
    let same : length c.in-Some.value.items ≡ c.len.result = omega (arith, c.len.ensures, c.in-Some.value.ok.0) in
    let long = ap (λ n. nat_le n MAX_TEXT_BYTES) same ∙ sym c.is_within_limit.ensures ∙ c.if-not-is_within_limit.true in
    text_too_long _ c.in-Some.value.items c.in-Some.length (rw c.in-Some.is at c.in_ok-value.ensures) long

pub returns : goal.returns
returns c =
    let same : length c.in-Some.value.items ≡ c.len.result = omega (arith, c.len.ensures, c.in-Some.value.ok.0) in
    let short = ap (λ n. nat_le n MAX_TEXT_BYTES) same ∙ sym c.is_within_limit.ensures ∙ c.if-not-is_within_limit.false in
    rw (c.in_ok-value-2.ensures, c.as_slice.ensures.value)
    (text_stands _ c.in-Some.value.items c.in-Some.length (rw c.in-Some.is at c.in_ok-value.ensures) short)
