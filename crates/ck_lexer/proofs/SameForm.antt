-- What a spelling says is one token.
use Rattle.std.proofs.Common.{◌≡◌, ℕ, ◌+◌, ◌<◌, List, [], ◌∷◌, ◌++◌, length, take, drop, Bool, true, nat_le, pos, Some, refl, sym, ◌∙◌, ap, arith, length-append, append-nil, inl, inr}
use Rattle.std.specs.List.{list_all, prefix_len}
use Rattle.std.proofs.lemmas.Option.{some_pair_parts, same_Some, none-some}
use Rattle.ck_base.specs.declared.limits.TheConstants.{MAX_TEXT_BYTES}
use Rattle.ck_lexer.specs.declared.mark.Mark.{Mark}
use Rattle.ck_lexer.specs.declared.token.TokenKind.{TokenKind}
use Rattle.ck_lexer.specs.declared.token.TokenKind.TheVariants as token
use Rattle.ck_lexer.specs.Bytes.{is_digit}
use Rattle.ck_lexer.specs.Numbers.{number_in, max_int, max_whole, raw_of}
use Rattle.ck_lexer.specs.Tables.{look_up, words, marks}
use Rattle.ck_lexer.specs.Texts.{Quoted}
use Rattle.ck_lexer.specs.Forms.{Form, a_word, a_name, a_decimal, a_hexadecimal, a_float, a_text, a_mark}
use Rattle.ck_lexer.proofs.Runs.{run-front, run-stops, take-front, drop-front}
use Rattle.ck_lexer.proofs.Classes.{first_class, in_class, low, high, float-class, mark-point}
use Rattle.ck_lexer.proofs.TextLemmas.{text_in, text_in-quoted}

Same : TokenKind → Bool → TokenKind → Bool → Type 0
Same k f j g = (k ≡ j) × (f ≡ g)

-- a point is no digit
pointed : (whole decimals : List ℕ) → list_all is_digit whole ≡ true → list_all is_digit (whole ++ 46 ∷ decimals) ≡ true → ⊥
pointed whole decimals h g =
    let i = run-front is_digit (whole ++ 46 ∷ decimals) (whole ++ 46 ∷ decimals) [] (sym (append-nil _)) g in
    let j = run-stops is_digit whole 46 decimals h refl in
    let l = length-append whole (46 ∷ decimals) in
    omega (arith, i, j, l)

hexed : (bs : List ℕ) → list_all is_digit (48 ∷ 120 ∷ bs) ≡ true → ⊥
hexed bs h = cc

-- one float has one whole part
float_parts : (whole decimals v d : List ℕ) → whole ++ 46 ∷ decimals ≡ v ++ 46 ∷ d → list_all is_digit whole ≡ true → list_all is_digit v ≡ true → (whole ≡ v) × (decimals ≡ d)
float_parts whole decimals v d e h g =
    let n : length whole ≡ length v = sym (run-stops is_digit whole 46 decimals h refl) ∙ ap (prefix_len is_digit) e ∙ run-stops is_digit v 46 d g refl in
    let t : whole ≡ v = sym (take-front whole (46 ∷ decimals)) ∙ ap (take (length whole)) e ∙ ap (λ m. take m (v ++ 46 ∷ d)) n ∙ take-front v (46 ∷ d) in
    let r : 46 ∷ decimals ≡ 46 ∷ d = sym (drop-front whole (46 ∷ decimals)) ∙ ap (drop (length whole)) e ∙ ap (λ m. drop m (v ++ 46 ∷ d)) n ∙ drop-front v (46 ∷ d) in
    (t, cc)

zero_x_float : (whole decimals bs : List ℕ) → list_all is_digit whole ≡ true → whole ++ 46 ∷ decimals ≡ 48 ∷ 120 ∷ bs → ⊥
zero_x_float whole decimals bs h e =
    let n : length whole ≡ 1 = sym (run-stops is_digit whole 46 decimals h refl) ∙ ap (prefix_len is_digit) e in
    behind (sym (drop-front whole (46 ∷ decimals)) ∙ ap (drop (length whole)) e ∙ ap (λ m. drop m (48 ∷ 120 ∷ bs)) n)
  where
    behind : 46 ∷ decimals ≡ 120 ∷ bs → ⊥
    behind i = cc

float_mark : (whole decimals w : List ℕ) (mark : Mark) → list_all is_digit whole ≡ true → 0 < length whole + length decimals → whole ++ 46 ∷ decimals ≡ w → look_up marks w ≡ Some mark → ⊥
unfolding low high
float_mark whole decimals w mark h g e i =
    let c = in_class (a_mark i) in
    let s = ap first_class e in
    let l = ap length e in
    let m = length-append whole (46 ∷ decimals) in
    let three : first_class w ≡ 3 = elim (float-class whole decimals h) [ inl j ↦ omega (arith, c.0, s, j) | inr j ↦ omega (arith, s, j) ] in
    let one = mark-point w mark i three in
    omega (arith, g, l, m, one)

float_text : (whole decimals w value : List ℕ) → list_all is_digit whole ≡ true → Quoted w value → first_class (whole ++ 46 ∷ decimals) ≡ first_class (34 ∷ w ++ 34 ∷ []) → ⊥
unfolding low high
float_text whole decimals w value h q e =
    let c = in_class (a_text w value q) in
    elim (float-class whole decimals h) [ inl j ↦ omega (arith, c.0, c.1, e, j) | inr j ↦ omega (arith, c.0, c.1, e, j) ]

text_text : (w value v other : List ℕ) → Quoted w value → Quoted v other → 34 ∷ w ++ 34 ∷ [] ≡ 34 ∷ v ++ 34 ∷ [] → value ≡ other
text_text w value v other p q e =
    let i : w ++ 34 ∷ [] ≡ v ++ 34 ∷ [] = cc in
    (some_pair_parts value other _ _ (sym (text_in-quoted [] p) ∙ ap text_in i ∙ text_in-quoted [] q)).0

-- one spelling is one token, within its limit or not
pub same_form : {w v : List ℕ} {k j : TokenKind} {f g : Bool} → w ≡ v → Form w k f → Form v j g → (k ≡ j) × (f ≡ g)
unfolding low high
same_form e (a_word h) (a_word i) = (ap (λ x. token.Word x) (same_Some _ _ (sym h ∙ ap (look_up words) e ∙ i)), refl)
same_form e (a_word {w} {word} h) (a_name i l m) = absurd (none-some word (sym m ∙ ap (look_up words) (sym e) ∙ h))
same_form e (a_name h n o) (a_word {w} {word} i) = absurd (none-some word (sym o ∙ ap (look_up words) e ∙ i))
same_form e (a_name {b} {bs} h n o) (a_name {b = c} {bs = cs} i l m) = (ap (λ x. token.Name x) e, ap (λ x. nat_le (length x) MAX_TEXT_BYTES) e)
same_form e (a_decimal h) (a_decimal i) = (ap (λ x. token.Int (pos (number_in 10 x))) e, ap (λ x. nat_le (number_in 10 x) max_int) e)
same_form e (a_decimal h) (a_hexadecimal {b = c} {bs = cs} i) = absurd (hexed (c ∷ cs) (ap (list_all is_digit) (sym e) ∙ h))
same_form e (a_decimal h) (a_float whole decimals i l m) = absurd (pointed whole decimals i (ap (list_all is_digit) (sym e) ∙ h))
same_form e (a_hexadecimal {b} {bs} h) (a_decimal i) = absurd (hexed (b ∷ bs) (ap (list_all is_digit) e ∙ i))
same_form e (a_hexadecimal {b} {bs} h) (a_hexadecimal {b = c} {bs = cs} i) =
    let t : b ∷ bs ≡ c ∷ cs = cc in
    (ap (λ x. token.Int (pos (number_in 16 x))) t, ap (λ x. nat_le (number_in 16 x) max_int) t)
same_form e (a_hexadecimal {b} {bs} h) (a_float whole decimals i l m) = absurd (zero_x_float whole decimals (b ∷ bs) i (sym e))
same_form e (a_float whole decimals h n o) (a_decimal i) = absurd (pointed whole decimals h (ap (list_all is_digit) e ∙ i))
same_form e (a_float whole decimals h n o) (a_hexadecimal {b = c} {bs = cs} i) = absurd (zero_x_float whole decimals (c ∷ cs) h e)
same_form e (a_float whole decimals h n o) (a_float v d i l m) =
    let p = float_parts whole decimals v d e h i in
    (ap (λ x. token.Float (pos (raw_of x decimals))) p.0 ∙ ap (λ x. token.Float (pos (raw_of v x))) p.1, ap (λ x. nat_le (number_in 10 x) max_whole) p.0)
same_form e (a_float whole decimals h n o) (a_text w value i) = absurd (float_text whole decimals w value h i (ap first_class e))
same_form e (a_float whole decimals h n o) (a_mark {w} {mark} i) = absurd (float_mark whole decimals w mark h o e i)
same_form e (a_text w value i) (a_float whole decimals h n o) = absurd (float_text whole decimals w value h i (ap first_class (sym e)))
same_form e (a_text w value h) (a_text v other i) =
    let t = text_text w value v other h i e in
    (ap (λ x. token.Text x) t, ap (λ x. nat_le (length x) MAX_TEXT_BYTES) t)
same_form e (a_mark {w} {mark} i) (a_float whole decimals h n o) = absurd (float_mark whole decimals w mark h o (sym e) i)
same_form e (a_mark h) (a_mark i) = (ap (λ x. token.Mark x) (same_Some _ _ (sym h ∙ ap (look_up marks) e ∙ i)), refl)
same_form e x y =
    let p = in_class x in
    let q = in_class y in
    let s = ap first_class e in
    absurd (omega (arith, p.0, p.1, q.0, q.1, s))
