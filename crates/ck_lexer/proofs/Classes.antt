-- What the first byte of a token tells of its form.
use Rattle.std.proofs.Common.{◌≡◌, ℕ, ◌≤◌, List, [], ◌∷◌, ◌++◌, length, Bool, true, false, ◌&&◌, ◌||◌, ◌==◌, nat_le, cond, Some, refl, sym, ◌∙◌, ap, arith, ◌⊎◌, inl, inr}
use Rattle.std.specs.List.{list_all}
use Rattle.std.specs.Str.{bytes_eq}
use Rattle.std.proofs.lemmas.Bool.Decides.{nat_tests}
use Rattle.std.proofs.lemmas.Slice.Eq.{bytes_eq-Decides}
use Rattle.ck_lexer.specs.declared.mark.Mark.{Mark}
use Rattle.ck_lexer.specs.declared.word.Word.{Word}
use Rattle.ck_lexer.specs.declared.token.TokenKind.{TokenKind}
use Rattle.ck_lexer.specs.declared.token.TokenKind.TheVariants as token
use Rattle.ck_lexer.specs.Bytes.{is_digit, begins_name, continues_name, is_space}
use Rattle.ck_lexer.specs.Tables.{look_up, words, marks}
use Rattle.ck_lexer.specs.Forms.{Form, a_word, a_name, a_decimal, a_hexadecimal, a_float, a_text, a_mark}
use Rattle.ck_lexer.proofs.Runs.{both-left, both-right, list_all-first}

-- by their first byte: names and words 0, numbers 1, texts 2, a point 3, other marks 4
unfoldable pub class : ℕ → ℕ
class b = cond (begins_name b) 0 (cond (is_digit b) 1 (cond (b == 34) 2 (cond (b == 46) 3 (cond (is_space b) 5 4))))

unfoldable pub first_class : List ℕ → ℕ
first_class [] = 9
first_class (b ∷ bs) = class b

pub class_name : (b : ℕ) → begins_name b ≡ true → class b ≡ 0
unfolding class
class_name b h = rw h refl

pub class_digit : (b : ℕ) → is_digit b ≡ true → class b ≡ 1
unfolding class
class_digit b h = let i : begins_name b ≡ false = grind (arith, nat_tests) in rw (i, h) refl

pub class_space : (b : ℕ) → is_space b ≡ true → class b ≡ 5
unfolding class
class_space b h =
    let i : begins_name b ≡ false = grind (arith, nat_tests) in
    let j : is_digit b ≡ false = grind (arith, nat_tests) in
    let k : (b == 34) ≡ false = grind (arith, nat_tests) in
    let l : (b == 46) ≡ false = grind (arith, nat_tests) in
    rw (i, j, k, l, h) refl

-- a spelling of a table has whatever all its spellings have
pub of_table : {A : Type 0} (test : List ℕ → Bool) (rows : List (List ℕ × A)) (w : List ℕ) (a : A) → list_all (λ row. test row.0) rows ≡ true → look_up rows w ≡ Some a → test w ≡ true
of_table test [] w a h e = cc
of_table test (row ∷ rows) w a h e = go (of_table test rows w a (both-right (test row.0) _ h)) (bytes_eq row.0 w) refl e
  where
    go : (look_up rows w ≡ Some a → test w ≡ true) → (c : Bool) → bytes_eq row.0 w ≡ c → cond c (Some row.1) (look_up rows w) ≡ Some a → test w ≡ true
    go behind true i e = ap test (sym ((bytes_eq-Decides row.0 w).0 i)) ∙ both-left (test row.0) _ h
    go behind false i e = behind e

-- the spelling of a word is like a name
unfoldable pub is_name : List ℕ → Bool
is_name [] = false
is_name (b ∷ bs) = begins_name b && list_all continues_name bs

words-names : list_all (λ row. is_name row.0) words ≡ true
unfolding words is_name
words-names = refl

pub word-name : (w : List ℕ) (word : Word) → look_up words w ≡ Some word → is_name w ≡ true
word-name w word h = of_table is_name words w word words-names h

-- the spelling of a mark begins as no other token, but for the point, which stands alone
is_mark : List ℕ → Bool
is_mark [] = false
is_mark (b ∷ bs) = nat_le 3 (class b) && (nat_le (class b) 4 && (nat_le 4 (class b) || nat_le (length bs) 0))

marks-marks : list_all (λ row. is_mark row.0) marks ≡ true
unfolding marks is_mark class
marks-marks = refl

mark-class : (w : List ℕ) → is_mark w ≡ true → (3 ≤ first_class w) × (first_class w ≤ 4)
unfolding is_mark first_class
mark-class [] h = cc
mark-class (b ∷ bs) h = (grind (arith, nat_tests), grind (arith, nat_tests))

point-alone : (w : List ℕ) → is_mark w ≡ true → first_class w ≡ 3 → length w ≤ 1
unfolding is_mark first_class
point-alone [] h e = cc
point-alone (b ∷ bs) h e = grind (arith, nat_tests)

pub mark-point : (w : List ℕ) (mark : Mark) → look_up marks w ≡ Some mark → first_class w ≡ 3 → length w ≤ 1
mark-point w mark h e = point-alone w (of_table is_mark marks w mark marks-marks h) e

-- the classes that a token of this kind may begin with
unfoldable pub low : TokenKind → ℕ
low (token.Word x) = 0
low (token.Name x) = 0
low (token.Int x) = 1
low (token.Float x) = 1
low (token.Text x) = 2
low (token.Mark x) = 3
low token.End = 9

unfoldable pub high : TokenKind → ℕ
high (token.Word x) = 0
high (token.Name x) = 0
high (token.Int x) = 1
high (token.Float x) = 3
high (token.Text x) = 2
high (token.Mark x) = 4
high token.End = 4

named : (w : List ℕ) → is_name w ≡ true → first_class w ≡ 0
unfolding is_name first_class
named [] h = cc
named (b ∷ bs) h = class_name b (both-left (begins_name b) _ h)

pub float-class : (whole decimals : List ℕ) → list_all is_digit whole ≡ true → (first_class (whole ++ 46 ∷ decimals) ≡ 1) ⊎ (first_class (whole ++ 46 ∷ decimals) ≡ 3)
unfolding first_class class
float-class [] decimals h = inr refl
float-class (b ∷ bs) decimals h = inl (class_digit b (list_all-first is_digit b bs h))

floated : (n : ℕ) → (n ≡ 1) ⊎ (n ≡ 3) → (1 ≤ n) × (n ≤ 3)
floated n (inl e) = (omega arith, omega arith)
floated n (inr e) = (omega arith, omega arith)

pub name-class : (b : ℕ) (bs : List ℕ) → begins_name b ≡ true → first_class (b ∷ bs) ≡ 0
unfolding first_class
name-class b bs h = class_name b h

pub digit-class : (b : ℕ) (bs : List ℕ) → is_digit b ≡ true → first_class (b ∷ bs) ≡ 1
unfolding first_class
digit-class b bs h = class_digit b h

pub quote-class : (bs : List ℕ) → first_class (34 ∷ bs) ≡ 2
unfolding first_class class
quote-class bs = refl

-- each token begins with a byte of its class
pub in_class : {w : List ℕ} {k : TokenKind} {f : Bool} → Form w k f → (low k ≤ first_class w) × (first_class w ≤ high k)
unfolding low high
in_class (a_word {w} {word} h) = let i = named w (word-name w word h) in (omega (arith, i), omega (arith, i))
in_class (a_name {b} {bs} h g e) = let i = name-class b bs h in (omega (arith, i), omega (arith, i))
in_class (a_decimal {b} {bs} h) = let i = digit-class b bs (list_all-first is_digit b bs h) in (omega (arith, i), omega (arith, i))
in_class (a_hexadecimal {b} {bs} h) = let i = digit-class 48 (120 ∷ b ∷ bs) refl in (omega (arith, i), omega (arith, i))
in_class (a_float whole decimals h g e) = floated _ (float-class whole decimals h)
in_class (a_text w value h) = let i = quote-class (w ++ 34 ∷ []) in (omega (arith, i), omega (arith, i))
in_class (a_mark {w} {mark} h) = mark-class w (of_table is_mark marks w mark marks-marks h)

-- what stands behind a token doesn't change it
pub first_class-append : (w rest : List ℕ) → first_class w ≤ 8 → first_class (w ++ rest) ≡ first_class w
unfolding first_class
first_class-append [] rest h = absurd (omega arith)
first_class-append (b ∷ bs) rest h = refl
