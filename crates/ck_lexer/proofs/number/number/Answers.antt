use Rattle.std.proofs.Common.{sym, ◌∙◌, ap, take}
use Rattle.std.specs.List.{prefix_len}
use Rattle.ck_lexer.specs.Bytes.{is_digit}
use Rattle.ck_lexer.proofs.NumberLemmas.{as_int}
use Rattle.ck_lexer.proofs.Stands.{whole_stands, whole_too_great, float_stands, float_too_great, hexadecimal_stands, hexadecimal_too_great}
use Rattle.ck_lexer.proofs.number.number.Goals as goal

pub returns-in_err-value : goal.returns-in_err-value
returns-in_err-value c =
    let h = c.in-Some.ensures in
    rw c.from_residual.ensures (hexadecimal_too_great _ c.in-Some.hexadecimal.now h.0 h.1 h.2 c.in_err-value.ensures)

pub returns-in-Some : goal.returns-in-Some
returns-in-Some c =
    let h = c.in-Some.ensures in
    let v = c.in_ok-value.ensures in
    let same = as_int _ _ v.0 v.1 in
    rw same (hexadecimal_stands _ c.in-Some.hexadecimal.now c.requires.no_comment h.0 h.1 h.2 v.1)

pub returns-in_err-value-2 : goal.returns-in_err-value-2
returns-in_err-value-2 c =
    rw c.from_residual-in_err-value-2.ensures
    (whole_too_great _ c.split_at.result.0.now _ _ c.requires.number c.in_default.ensures c.digits.ensures.count c.split_at.ensures.front c.split_at.ensures.back
    (sym c.starts_with.ensures.value ∙ c.if-not-starts_with.true) c.in_err-value-2.ensures)

pub returns-then-not-starts_with : goal.returns-then-not-starts_with
returns-then-not-starts_with c =
    let v = c.in_ok-value-2.ensures in
    let same = as_int _ _ v.0 v.1 in
    rw same
    (whole_stands _ c.split_at.result.0.now _ _ c.requires.number c.requires.no_comment c.in_default.ensures c.digits.ensures.count c.split_at.ensures.front c.split_at.ensures.back
    (sym c.starts_with.ensures.value ∙ c.if-not-starts_with.true) v.1)

pub returns-in_err-value-3 : goal.returns-in_err-value-3
returns-in_err-value-3 c =
    rw c.from_residual-in_err-value-3.ensures
    (float_too_great _ c.split_at.result.0.now c.split_at.result.1.now c.split_at-3.result.0.now _ _ c.requires.number c.in_default.ensures c.digits.ensures.count c.split_at.ensures.front c.split_at.ensures.back
    (sym c.starts_with.ensures.value ∙ c.if-not-starts_with.false) (c.digits-2.ensures.count ∙ ap (prefix_len is_digit) c.split_at-2.ensures.back) (c.split_at-3.ensures.front ∙ ap (take c.digits-2.result) c.split_at-2.ensures.back) c.in_err-value-3.ensures)

pub returns : goal.returns
returns c =
    let v = c.in_ok-value-3.ensures in
    rw v.0
    (float_stands _ c.split_at.result.0.now c.split_at.result.1.now c.split_at-3.result.0.now _ _ c.requires.number c.requires.no_comment c.in_default.ensures c.digits.ensures.count c.split_at.ensures.front c.split_at.ensures.back
    (sym c.starts_with.ensures.value ∙ c.if-not-starts_with.false) (c.digits-2.ensures.count ∙ ap (prefix_len is_digit) c.split_at-2.ensures.back) (c.split_at-3.ensures.front ∙ ap (take c.digits-2.result) c.split_at-2.ensures.back) v.1)
