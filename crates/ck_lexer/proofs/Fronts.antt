-- How long a token at a place can be.
use Rattle.std.proofs.Common.{◌≡◌, ℕ, suc, ◌+◌, ◌-◌, ◌<◌, ◌≤◌, List, [], ◌∷◌, ◌++◌, length, drop, Bool, true, ◌||◌, codes, Some, refl, sym, ◌∙◌, ap, arith, append_assoc, length-append, ◌⊎◌, inl, inr}
use Rattle.std.specs.List.{list_all, prefix_len}
use Rattle.ck_lexer.specs.declared.token.TokenKind.{TokenKind}
use Rattle.ck_lexer.specs.declared.token.TokenKind.TheVariants as token
use Rattle.ck_lexer.specs.Bytes.{is_digit, is_hexadecimal, begins_name, continues_name}
use Rattle.ck_lexer.specs.Gaps.{begins}
use Rattle.ck_lexer.specs.Forms.{Form, a_word, a_name, a_decimal, a_hexadecimal, a_float, a_text, a_mark}
use Rattle.ck_lexer.proofs.Runs.{both-left, both-right, list_all-cons, run-front, run-stops, drop-front}
use Rattle.ck_lexer.proofs.Classes.{class, first_class, quote-class, float-class, in_class, first_class-append, low, high, is_name, word-name, mark-point}
use Rattle.ck_lexer.proofs.TextLemmas.{text_in, text_in-quoted}

pub high-bound : (k : TokenKind) → high k ≤ 4
unfolding high
high-bound (token.Word x) = omega arith
high-bound (token.Name x) = omega arith
high-bound (token.Int x) = omega arith
high-bound (token.Float x) = omega arith
high-bound (token.Text x) = omega arith
high-bound (token.Mark x) = omega arith
high-bound token.End = omega arith

-- the class of what begins with a token
pub front_class : {w : List ℕ} {k : TokenKind} {f : Bool} (bytes rest : List ℕ) → bytes ≡ w ++ rest → Form w k f → first_class bytes ≡ first_class w
front_class {w} {k} bytes rest e x =
    let p = in_class x in
    let q = high-bound k in
    ap first_class e ∙ first_class-append w rest (omega (arith, p.1, q))

pub in_front_class : {w : List ℕ} {k : TokenKind} {f : Bool} (bytes rest : List ℕ) → bytes ≡ w ++ rest → Form w k f → (low k ≤ first_class bytes) × (first_class bytes ≤ high k)
in_front_class bytes rest e x = let c = front_class bytes rest e x in let p = in_class x in (omega (arith, c, p.0), omega (arith, c, p.1))

-- a name and what it begins with are made of the same bytes
pub continues : (w : List ℕ) → is_name w ≡ true → list_all continues_name w ≡ true
unfolding is_name
continues [] h = refl
continues (b ∷ bs) h = let i = both-left (begins_name b) _ h in list_all-cons continues_name b bs (ap (λ x. x || is_digit b) i) (both-right (begins_name b) _ h)

-- at a letter or `_` no token is longer than the run of a name's bytes
pub name_front : {w : List ℕ} {k : TokenKind} {f : Bool} (bytes rest : List ℕ) → bytes ≡ w ++ rest → first_class bytes ≡ 0 → Form w k f → length w ≤ prefix_len continues_name bytes
unfolding low
name_front bytes rest e c (a_word {w} {word} h) = run-front continues_name bytes w rest e (continues w (word-name w word h))
name_front bytes rest e c (a_name {b} {bs} h g i) = run-front continues_name bytes (b ∷ bs) rest e (list_all-cons continues_name b bs (ap (λ x. x || is_digit b) h) g)
name_front bytes rest e c x = let p = in_front_class bytes rest e x in absurd (omega (arith, p.0, c))

-- where a float stands the digits of its whole part end at its point
pub point_behind : (bytes whole decimals rest : List ℕ) → bytes ≡ (whole ++ 46 ∷ decimals) ++ rest → list_all is_digit whole ≡ true → (prefix_len is_digit bytes ≡ length whole) × (drop (length whole) bytes ≡ 46 ∷ decimals ++ rest)
point_behind bytes whole decimals rest e h =
    let g : bytes ≡ whole ++ 46 ∷ (decimals ++ rest) = e ∙ append_assoc whole (46 ∷ decimals) rest in
    (ap (prefix_len is_digit) g ∙ run-stops is_digit whole 46 (decimals ++ rest) h refl, ap (drop (length whole)) g ∙ drop-front whole (46 ∷ decimals ++ rest))

-- behind `0x` with a digit no token is longer than the hexadecimal number
zero_x_class : (r : List ℕ) → first_class (48 ∷ 120 ∷ r) ≡ 1
unfolding first_class class
zero_x_class r = refl

zero_x_run : (r : List ℕ) → prefix_len is_digit (48 ∷ 120 ∷ r) ≡ 1
zero_x_run r = refl

zero_x_tail : (r b rest : List ℕ) → 48 ∷ 120 ∷ r ≡ 48 ∷ 120 ∷ b ++ rest → r ≡ b ++ rest
zero_x_tail r b rest e = cc

zero_x_point : (r decimals : List ℕ) → drop 1 (48 ∷ 120 ∷ r) ≡ 46 ∷ decimals → ⊥
zero_x_point r decimals e = cc

pub hexadecimal_front : {w : List ℕ} {k : TokenKind} {f : Bool} (bytes r rest : List ℕ) → bytes ≡ w ++ rest → bytes ≡ 48 ∷ 120 ∷ r → 0 < prefix_len is_hexadecimal r → Form w k f → length w ≤ prefix_len is_hexadecimal r + 2
unfolding low high
hexadecimal_front bytes r rest e z c (a_decimal {b} {bs} h) =
    let i = run-front is_digit bytes (b ∷ bs) rest e h in
    let one = ap (prefix_len is_digit) z ∙ zero_x_run r in
    omega (arith, i, one)
hexadecimal_front bytes r rest e z c (a_hexadecimal {b} {bs} h) =
    let i = run-front is_hexadecimal r (b ∷ bs) rest (zero_x_tail r (b ∷ bs) rest (sym z ∙ e)) h in
    omega (arith, i)
hexadecimal_front bytes r rest e z c (a_float whole decimals h g i) =
    let p = point_behind bytes whole decimals rest e h in
    let one : 1 ≡ length whole = sym (ap (prefix_len is_digit) z ∙ zero_x_run r) ∙ p.0 in
    absurd (zero_x_point r (decimals ++ rest) (ap (drop 1) (sym z) ∙ ap (λ n. drop n bytes) one ∙ p.1))
hexadecimal_front bytes r rest e z c x =
    let one = ap first_class z ∙ zero_x_class r in
    let p = in_front_class bytes rest e x in
    absurd (omega (arith, p.0, p.1, one))

-- a number has class 1, or class 3 where it begins with its point
abbrev pub IsNumbered : List ℕ → Type 0
IsNumbered bytes = (first_class bytes ≡ 1) ⊎ (first_class bytes ≡ 3)

-- no hexadecimal digit stands behind a `0x` at the front
abbrev pub NotHexadecimal : List ℕ → Type 0
NotHexadecimal bytes = begins (codes "0x") bytes ≡ true → prefix_len is_hexadecimal (drop 2 bytes) ≡ 0

hexadecimal_absent : (bytes rest : List ℕ) (b : ℕ) (bs : List ℕ) → NotHexadecimal bytes → bytes ≡ 48 ∷ 120 ∷ b ∷ bs ++ rest → list_all is_hexadecimal (b ∷ bs) ≡ true → ⊥
hexadecimal_absent bytes rest b bs n e h =
    let z : prefix_len is_hexadecimal (b ∷ bs ++ rest) ≡ 0 = ap (λ x. prefix_len is_hexadecimal (drop 2 x)) (sym e) ∙ n (ap (begins (codes "0x")) e) in
    let i = run-front is_hexadecimal (b ∷ bs ++ rest) (b ∷ bs) rest refl h in
    omega (arith, z, i)

-- digits, a point and digits: no token is longer
pub point_front : {w : List ℕ} {k : TokenKind} {f : Bool} (bytes rest r : List ℕ) → bytes ≡ w ++ rest → NotHexadecimal bytes → IsNumbered bytes
    → drop (prefix_len is_digit bytes) bytes ≡ 46 ∷ r → Form w k f → length w ≤ prefix_len is_digit bytes + 1 + prefix_len is_digit r
unfolding low high
point_front bytes rest r e n c d (a_decimal {b} {bs} h) = let i = run-front is_digit bytes (b ∷ bs) rest e h in omega (arith, i)
point_front bytes rest r e n c d (a_hexadecimal {b} {bs} h) = absurd (hexadecimal_absent bytes rest b bs n e h)
point_front bytes rest r e n c d (a_float whole decimals h g i) =
    let p = point_behind bytes whole decimals rest e h in
    let q : 46 ∷ r ≡ 46 ∷ decimals ++ rest = sym d ∙ ap (λ m. drop m bytes) p.0 ∙ p.1 in
    let s : r ≡ decimals ++ rest = cc in
    let j = run-front is_digit r decimals rest s g in
    let l = length-append whole (46 ∷ decimals) in
    omega (arith, p.0, j, l)
point_front bytes rest r e n c d (a_mark {w} {mark} h) =
    let x = a_mark h in
    let p = in_front_class bytes rest e x in
    let q = front_class bytes rest e x in
    let three : first_class w ≡ 3 = elim c [ inl i ↦ omega (arith, p.0, i) | inr i ↦ omega (arith, q, i) ] in
    let l = mark-point w mark h three in
    omega (arith, l)
point_front bytes rest r e n c d x =
    let p = in_front_class bytes rest e x in
    absurd (elim c [ inl i ↦ omega (arith, p.0, p.1, i) | inr i ↦ omega (arith, p.0, p.1, i) ])

-- digits and no point: no token is longer
pub whole_front : {w : List ℕ} {k : TokenKind} {f : Bool} (bytes rest : List ℕ) → bytes ≡ w ++ rest → NotHexadecimal bytes → first_class bytes ≡ 1
    → ((r : List ℕ) → drop (prefix_len is_digit bytes) bytes ≡ 46 ∷ r → ⊥) → Form w k f → length w ≤ prefix_len is_digit bytes
unfolding low high
whole_front bytes rest e n c d (a_decimal {b} {bs} h) = run-front is_digit bytes (b ∷ bs) rest e h
whole_front bytes rest e n c d (a_hexadecimal {b} {bs} h) = absurd (hexadecimal_absent bytes rest b bs n e h)
whole_front bytes rest e n c d (a_float whole decimals h g i) =
    let p = point_behind bytes whole decimals rest e h in
    absurd (d (decimals ++ rest) (ap (λ m. drop m bytes) p.0 ∙ p.1))
whole_front bytes rest e n c d x = let p = in_front_class bytes rest e x in absurd (omega (arith, p.0, p.1, c))

-- at a quote the one token is the text that ends with the first quote that is not escaped
pub text_front : {w : List ℕ} {k : TokenKind} {f : Bool} (bs rest : List ℕ) → 34 ∷ bs ≡ w ++ rest → Form w k f → (v : List ℕ) × (text_in bs ≡ Some (v, length w - 1))
unfolding low high
text_front bs rest e (a_text w value q) =
    let g : bs ≡ w ++ 34 ∷ rest = tail bs (w ++ 34 ∷ []) rest e ∙ append_assoc w (34 ∷ []) rest in
    let l = length-append w (34 ∷ []) in
    let n : suc (length w) ≡ length (w ++ 34 ∷ []) = omega (arith, l) in
    (value, ap text_in g ∙ text_in-quoted rest q ∙ ap (λ n. Some (value, n)) (n ∙ omega arith))
  where
    tail : (bs v rest : List ℕ) → 34 ∷ bs ≡ 34 ∷ v ++ rest → bs ≡ v ++ rest
    tail bs v rest e = cc
text_front bs rest e (a_float whole decimals h g i) =
    let two = quote-class bs in
    let x = front_class (34 ∷ bs) rest e (a_float whole decimals h g i) in
    absurd (elim (float-class whole decimals h) [ inl j ↦ omega (arith, j, two, x) | inr j ↦ omega (arith, j, two, x) ])
text_front bs rest e x =
    let two : first_class (34 ∷ bs) ≡ 2 = quote-class bs in
    let p = in_front_class (34 ∷ bs) rest e x in
    absurd (omega (arith, p.0, p.1, two))
