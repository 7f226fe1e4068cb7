-- The lines of places.
use Rattle.std.proofs.Common.{◌≡◌, ℕ, ◌+◌, ◌≤◌, List, [], ◌∷◌, ◌++◌, take, drop, Bool, true, false, ◌==◌, cond, Some, None, refl, ◌∙◌, ap, arith, zero-add, length-take}
use Rattle.std.proofs.Math.Seq.{take-add}
use Rattle.std.specs.List.{list_all, count_by}
use Rattle.std.proofs.lemmas.List.Sums.{sum_by-append, sum_by-cons, count_by-le-length}
use Rattle.std.proofs.lemmas.Bool.Decides.{nat_tests}
use Rattle.ck_lexer.specs.declared.mark.Mark.{Mark}
use Rattle.ck_lexer.specs.declared.token.TokenKind.{TokenKind}
use Rattle.ck_lexer.specs.Bytes.{is_digit, is_hexadecimal, begins_name, continues_name, is_plain, is_line_end}
use Rattle.ck_lexer.specs.Tables.{look_up, marks}
use Rattle.ck_lexer.specs.Texts.{escaped, Quoted, nothing, a_byte, an_escape}
use Rattle.ck_lexer.specs.Forms.{Form, a_word, a_name, a_decimal, a_hexadecimal, a_float, a_text, a_mark}
use Rattle.ck_lexer.specs.Tokens.{line_at}
use Rattle.ck_lexer.proofs.Runs.{both-left, both-right}
use Rattle.ck_lexer.proofs.Classes.{word-name, of_table}
use Rattle.ck_lexer.proofs.Fronts.{continues}

-- the lines that end in the bytes
abbrev pub ends : List ℕ → ℕ
ends bs = count_by is_line_end bs

ends-append : (v w : List ℕ) → ends (v ++ w) ≡ ends v + ends w
ends-append v w = sum_by-append _ v w

one_byte : (b : ℕ) (bs : List ℕ) → is_line_end b ≡ false → ends (b ∷ bs) ≡ ends bs
one_byte b bs h = sum_by-cons (λ x. cond (is_line_end x) 1 0) b bs ∙ rw h (zero-add (ends bs))

-- bytes of a kind that end no line
no_ends : (p : ℕ → Bool) (w : List ℕ) → ((b : ℕ) → p b ≡ true → is_line_end b ≡ false) → list_all p w ≡ true → ends w ≡ 0
no_ends p [] h a = refl
no_ends p (b ∷ bs) h a = one_byte b bs (h b (both-left (p b) _ a)) ∙ no_ends p bs h (both-right (p b) _ a)

-- the kinds of bytes that end no line
digit_in_line : (b : ℕ) → is_digit b ≡ true → is_line_end b ≡ false
digit_in_line b h = grind (arith, nat_tests)

hexadecimal_in_line : (b : ℕ) → is_hexadecimal b ≡ true → is_line_end b ≡ false
hexadecimal_in_line b h = grind (arith, nat_tests)

name_in_line : (b : ℕ) → begins_name b ≡ true → is_line_end b ≡ false
name_in_line b h = grind (arith, nat_tests)

continued_in_line : (b : ℕ) → continues_name b ≡ true → is_line_end b ≡ false
continued_in_line b h = grind (arith, nat_tests)

plain_in_line : (b : ℕ) → is_plain b ≡ true → is_line_end b ≡ false
plain_in_line b h = grind (arith, nat_tests)

escaped_in_line : (e b : ℕ) → escaped e ≡ Some b → is_line_end e ≡ false
escaped_in_line e b h = go (is_line_end e) refl
  where
    other : e ≡ 10 → escaped e ≡ None
    other i = ap escaped i

    go : (c : Bool) → is_line_end e ≡ c → c ≡ false
    go true i = let j : e ≡ 10 = grind (arith, nat_tests) in let k = other j in cc
    go false i = refl

quoted_in_line : {w value : List ℕ} → Quoted w value → ends w ≡ 0
quoted_in_line nothing = refl
quoted_in_line (a_byte {b} {w} h q) = one_byte b w (plain_in_line b h) ∙ quoted_in_line q
quoted_in_line (an_escape {e} {b} {w} h q) = one_byte 92 (e ∷ w) refl ∙ one_byte e w (escaped_in_line e b h) ∙ quoted_in_line q

in_line : List ℕ → Bool
in_line w = ends w == 0

marks-in_line : list_all (λ row. in_line row.0) marks ≡ true
unfolding marks in_line
marks-in_line = refl

mark_in_line : (w : List ℕ) (mark : Mark) → look_up marks w ≡ Some mark → ends w ≡ 0
unfolding in_line
mark_in_line w mark h = let t = of_table in_line marks w mark marks-in_line h in grind (arith, nat_tests)

-- no token goes past its line
pub token_in_line : {w : List ℕ} {k : TokenKind} {f : Bool} → Form w k f → ends w ≡ 0
token_in_line (a_word {w} {word} h) = no_ends continues_name w continued_in_line (continues w (word-name w word h))
token_in_line (a_name {b} {bs} h g i) = one_byte b bs (name_in_line b h) ∙ no_ends continues_name bs continued_in_line g
token_in_line (a_decimal {b} {bs} h) = no_ends is_digit (b ∷ bs) digit_in_line h
token_in_line (a_hexadecimal {b} {bs} h) = one_byte 48 (120 ∷ b ∷ bs) refl ∙ one_byte 120 (b ∷ bs) refl ∙ no_ends is_hexadecimal (b ∷ bs) hexadecimal_in_line h
token_in_line (a_float whole decimals h g i) =
    let l = ends-append whole (46 ∷ decimals) in
    let m = no_ends is_digit whole digit_in_line h in
    let n : ends (46 ∷ decimals) ≡ 0 = one_byte 46 decimals refl ∙ no_ends is_digit decimals digit_in_line g in
    omega (arith, l, m, n)
token_in_line (a_text w value q) =
    let l = ends-append w (34 ∷ []) in
    let m = quoted_in_line q in
    let n : ends (34 ∷ []) ≡ 0 = refl in
    one_byte 34 (w ++ 34 ∷ []) refl ∙ (omega (arith, l, m, n))
token_in_line (a_mark {w} {mark} h) = mark_in_line w mark h

-- the line of a later place
pub line_at-more : (bytes : List ℕ) (n m : ℕ) → line_at bytes (n + m) ≡ line_at bytes n + ends (take m (drop n bytes))
line_at-more bytes n m =
    let l = ends-append (take n bytes) (take m (drop n bytes)) in
    let e = ap ends (take-add n m bytes) in
    omega (arith, l, e)

-- there are at most as many lines as bytes before, and one more
pub line_at-within : (bytes : List ℕ) (n : ℕ) → line_at bytes n ≤ 1 + n
line_at-within bytes n =
    let l = count_by-le-length is_line_end (take n bytes) in
    let m = length-take n bytes in
    omega (arith, l, m)
