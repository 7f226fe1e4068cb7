-- Which token stands at a place.
use Rattle.std.proofs.Common.{◌≡◌, ℕ, suc, ◌+◌, ◌-◌, ◌<◌, ◌≤◌, List, [], ◌∷◌, ◌++◌, length, take, drop, Bool, true, false, ◌||◌, ◌&&◌, ◌==◌, nat_le, codes, cond, pos, Some, None, refl, sym, ◌∙◌, ap, subst, arith, length-append, append_assoc, length-drop, one-add, inl, inr}
use Rattle.std.specs.List.{list_all, prefix_len}
use Rattle.std.proofs.lemmas.List.{take-append-drop, length-take-le, take_at}
use Rattle.std.proofs.lemmas.List.Sums.{prefix_len-le-length}
use Rattle.std.proofs.lemmas.Bool.Decides.{nat_tests}
use Rattle.std.proofs.lemmas.Option.{some_pair_parts, none-some}
use Rattle.ck_base.specs.declared.limits.TheConstants.{MAX_TEXT_BYTES}
use Rattle.ck_lexer.specs.declared.mark.Mark.{Mark}
use Rattle.ck_lexer.specs.declared.word.Word.{Word}
use Rattle.ck_lexer.specs.declared.token.TokenKind.{TokenKind}
use Rattle.ck_lexer.specs.declared.token.TokenKind.TheVariants as token
use Rattle.ck_lexer.specs.Bytes.{is_digit, is_hexadecimal, begins_name, continues_name, begins_with, begins_number, is_space}
use Rattle.ck_lexer.specs.Numbers.{number_in, max_int, max_whole, raw_of}
use Rattle.ck_lexer.specs.Texts.{TextStands}
use Rattle.ck_lexer.specs.Tables.{look_up, first_front, words, marks}
use Rattle.ck_lexer.specs.Gaps.{begins, opens_comment}
use Rattle.ck_lexer.specs.Forms.{Form, a_word, a_name, a_decimal, a_hexadecimal, a_float, a_text, a_mark}
use Rattle.ck_lexer.specs.Tokens.{IsLongest, IsToken, BeginsNoToken}
use Rattle.ck_lexer.proofs.Runs.{both-left, either-left, both-right, list_all-first, list_all-run}
use Rattle.ck_lexer.proofs.Classes.{class, first_class, low, high, name-class, digit-class}
use Rattle.ck_lexer.proofs.TextLemmas.{text_in, text_in-is, text_in-closes, text_in-none}
use Rattle.ck_lexer.proofs.MarkLemmas.{begins-so, so-begins, found, found-none, marks-longest}
use Rattle.ck_lexer.proofs.SameForm.{same_form}
use Rattle.ck_lexer.proofs.Fronts.{in_front_class, high-bound, name_front, hexadecimal_front, point_front, whole_front, text_front, IsNumbered, NotHexadecimal}

-- the longest front is one, and says one token
pub record SameLongest (n m : ℕ) (k j : TokenKind) (f g : Bool) : Type 0 where
  pub long : n ≡ m
  pub kind : k ≡ j
  pub fits : f ≡ g

no_longer : {bytes : List ℕ} {n m : ℕ} {k j : TokenKind} {f g : Bool} → IsLongest bytes n k f → IsLongest bytes m j g → n ≤ m
no_longer {bytes} {n} {m} {k} {j} {f} {g} a b =
    let i = b.longest (take n bytes) (drop n bytes) k f (sym (take-append-drop n bytes)) a.form in
    let l = length-take-le n bytes a.within in
    omega (arith, i, l)

pub same_longest : {bytes : List ℕ} {n m : ℕ} {k j : TokenKind} {f g : Bool} → IsLongest bytes n k f → IsLongest bytes m j g → SameLongest n m k j f g
same_longest {bytes} {n} {m} a b =
    let i = no_longer a b in
    let l = no_longer b a in
    let e : n ≡ m = omega (arith, i, l) in
    let s = same_form (ap (λ x. take x bytes) e) a.form b.form in
    record { long = e; kind = s.0; fits = s.1 }

-- a longest front past its limit is no token, and no shorter one is
pub past_limit : {bytes : List ℕ} {n : ℕ} {k : TokenKind} {f : Bool} → IsLongest bytes n k f → f ≡ false → BeginsNoToken bytes
past_limit a e m j t = let s = (same_longest a t.form).fits in cc

pub within_limit : {bytes : List ℕ} {n : ℕ} {k : TokenKind} {f : Bool} → opens_comment bytes ≡ false → f ≡ true → IsLongest bytes n k f → IsToken bytes n k
within_limit {bytes} {n} {k} c e a = record { no_comment = c; form = subst (λ x. IsLongest bytes n k x) e a }

-- where no front has a form no token begins
pub no_front : (bytes : List ℕ) → ((w rest : List ℕ) (k : TokenKind) (f : Bool) → bytes ≡ w ++ rest → Form w k f → ⊥) → BeginsNoToken bytes
no_front bytes h n k t = h (take n bytes) (drop n bytes) k true (sym (take-append-drop n bytes)) t.form.form

-- names and words
named : (bytes : List ℕ) → begins_with begins_name bytes ≡ true → first_class bytes ≡ 0
named [] h = cc
named (b ∷ bs) h = name-class b bs h

name_form : (bytes : List ℕ) → begins_with begins_name bytes ≡ true → look_up words (take (prefix_len continues_name bytes) bytes) ≡ None
    → Form (take (prefix_len continues_name bytes) bytes) (token.Name (take (prefix_len continues_name bytes) bytes)) (nat_le (length (take (prefix_len continues_name bytes) bytes)) MAX_TEXT_BYTES)
name_form [] h e = cc
name_form (b ∷ bs) h e =
    let c : continues_name b ≡ true = ap (λ x. x || is_digit b) h in
    let n : prefix_len continues_name (b ∷ bs) ≡ suc (prefix_len continues_name bs) = rw c (one-add (prefix_len continues_name bs)) in
    let t : take (prefix_len continues_name (b ∷ bs)) (b ∷ bs) ≡ b ∷ take (prefix_len continues_name bs) bs = ap (λ m. take m (b ∷ bs)) n in
    let P : List ℕ → Type 0 = λ x. Form x (token.Name x) (nat_le (length x) MAX_TEXT_BYTES) in
    subst P (sym t) (a_name h (list_all-run continues_name bs) (ap (look_up words) (sym t) ∙ e))

pub word_longest : (bytes : List ℕ) (word : Word) → begins_with begins_name bytes ≡ true → look_up words (take (prefix_len continues_name bytes) bytes) ≡ Some word
    → IsLongest bytes (prefix_len continues_name bytes) (token.Word word) true
word_longest bytes word h e = record {
  within = prefix_len-le-length continues_name bytes;
  form = a_word e;
  longest = λ w rest j g i x. name_front bytes rest i (named bytes h) x;
}

pub name_longest : (bytes : List ℕ) → begins_with begins_name bytes ≡ true → look_up words (take (prefix_len continues_name bytes) bytes) ≡ None
    → IsLongest bytes (prefix_len continues_name bytes) (token.Name (take (prefix_len continues_name bytes) bytes)) (nat_le (prefix_len continues_name bytes) MAX_TEXT_BYTES)
name_longest bytes h e =
    let l = length-take-le (prefix_len continues_name bytes) bytes (prefix_len-le-length continues_name bytes) in
    record {
      within = prefix_len-le-length continues_name bytes;
      form = subst (λ n. Form (take (prefix_len continues_name bytes) bytes) (token.Name (take (prefix_len continues_name bytes) bytes)) (nat_le n MAX_TEXT_BYTES)) l (name_form bytes h e);
      longest = λ w rest j g i x. name_front bytes rest i (named bytes h) x;
    }

-- numbers
run_some : (p : ℕ → Bool) (b : ℕ) (bs : List ℕ) → p b ≡ true → 0 < prefix_len p (b ∷ bs)
run_some p b bs h = rw h (omega arith)

point_class : (b : ℕ) (bs : List ℕ) → (b == 46) ≡ true → first_class (b ∷ bs) ≡ 3
unfolding first_class class
point_class b bs h = let e : b ≡ 46 = grind (arith, nat_tests) in rw e refl

numbered : (bytes : List ℕ) → begins_number bytes ≡ true → IsNumbered bytes
numbered [] h = cc
numbered (b ∷ bs) h = go (is_digit b) refl h
  where
    go : (c : Bool) → is_digit b ≡ c → (c || ((b == 46) && begins_with is_digit bs)) ≡ true → IsNumbered (b ∷ bs)
    go true e h = inl (digit-class b bs e)
    go false e h = inr (point_class b bs (both-left (b == 46) _ h))

-- where no point stands behind the digits there is a digit
whole_class : (bytes : List ℕ) → begins_number bytes ≡ true → ((r : List ℕ) → drop (prefix_len is_digit bytes) bytes ≡ 46 ∷ r → ⊥) → first_class bytes ≡ 1
whole_class [] h d = cc
whole_class (b ∷ bs) h d = go (is_digit b) refl h
  where
    go : (c : Bool) → is_digit b ≡ c → (c || ((b == 46) && begins_with is_digit bs)) ≡ true → first_class (b ∷ bs) ≡ 1
    go true e h = digit-class b bs e
    go false e h =
        let i : b ≡ 46 = point_is (both-left (b == 46) _ h) in
        let none : prefix_len is_digit (b ∷ bs) ≡ 0 = rw e refl in
        absurd (d bs (ap (λ n. drop n (b ∷ bs)) none ∙ ap (λ x. x ∷ bs) i))
      where
        point_is : (b == 46) ≡ true → b ≡ 46
        point_is j = grind (arith, nat_tests)

-- with a point there is a digit before or behind it
some_digit : (bytes r : List ℕ) → begins_number bytes ≡ true → drop (prefix_len is_digit bytes) bytes ≡ 46 ∷ r → 0 < prefix_len is_digit bytes + prefix_len is_digit r
some_digit [] r h d = cc
some_digit (b ∷ bs) r h d = go (is_digit b) refl h
  where
    first_digit : (ds : List ℕ) → begins_with is_digit ds ≡ true → 0 < prefix_len is_digit ds
    first_digit [] i = cc
    first_digit (c ∷ cs) i = run_some is_digit c cs i

    go : (c : Bool) → is_digit b ≡ c → (c || ((b == 46) && begins_with is_digit bs)) ≡ true → 0 < prefix_len is_digit (b ∷ bs) + prefix_len is_digit r
    go true e h = let i = run_some is_digit b bs e in omega (arith, i)
    go false e h =
        let none : prefix_len is_digit (b ∷ bs) ≡ 0 = rw e refl in
        let same : b ∷ bs ≡ 46 ∷ r = ap (λ n. drop n (b ∷ bs)) (sym none) ∙ d in
        let tail : bs ≡ r = cc in
        let i = first_digit bs (both-right (b == 46) _ h) in
        let j = ap (prefix_len is_digit) tail in
        omega (arith, i, j)

-- the bytes up to the decimals' end
float_cut : (bytes r : List ℕ) (d p : ℕ) → d ≤ length bytes → p ≤ length r → drop d bytes ≡ 46 ∷ r → take (d + 1 + p) bytes ≡ take d bytes ++ 46 ∷ take p r
float_cut bytes r d p l m e =
    let whole = take d bytes in
    let all : bytes ≡ (whole ++ 46 ∷ take p r) ++ drop p r
    = sym (take-append-drop d bytes) ∙ ap (λ x. whole ++ x) (e ∙ ap (λ x. 46 ∷ x) (sym (take-append-drop p r))) ∙ sym (append_assoc whole (46 ∷ take p r) (drop p r)) in
    let i = length-append whole (46 ∷ take p r) in
    let j = length-take-le d bytes l in
    let k = length-take-le p r m in
    let n : length (whole ++ 46 ∷ take p r) ≡ d + 1 + p = omega (arith, i, j, k) in
    ap (take (d + 1 + p)) all ∙ take_at (whole ++ 46 ∷ take p r) (drop p r) (d + 1 + p) n

float_at : (bytes r : List ℕ) → begins_number bytes ≡ true → NotHexadecimal bytes → drop (prefix_len is_digit bytes) bytes ≡ 46 ∷ r
    → IsLongest bytes (prefix_len is_digit bytes + 1 + prefix_len is_digit r) (token.Float (pos (raw_of (take (prefix_len is_digit bytes) bytes) (take (prefix_len is_digit r) r)))) (nat_le (number_in 10 (take (prefix_len is_digit bytes) bytes)) max_whole)
float_at bytes r h n e =
    let d = prefix_len is_digit bytes in
    let p = prefix_len is_digit r in
    let l = prefix_len-le-length is_digit bytes in
    let m = prefix_len-le-length is_digit r in
    let cut = float_cut bytes r d p l m e in
    let i = length-take-le d bytes l in
    let j = length-take-le p r m in
    let some = some_digit bytes r h e in
    let behind = ap length e in
    let b = length-drop d bytes in
    record {
      within = omega (arith, l, m, behind, b);
      form = subst (λ x. Form x (token.Float (pos (raw_of (take d bytes) (take p r)))) (nat_le (number_in 10 (take d bytes)) max_whole)) (sym cut)
          (a_float (take d bytes) (take p r) (list_all-run is_digit bytes) (list_all-run is_digit r) (omega (arith, i, j, some)));
      longest = λ w rest k g s x. point_front bytes rest r s n (numbered bytes h) e x;
    }

pub float_longest : (bytes whole r decimals : List ℕ) → begins_number bytes ≡ true → NotHexadecimal bytes → whole ≡ take (prefix_len is_digit bytes) bytes
    → drop (prefix_len is_digit bytes) bytes ≡ 46 ∷ r → decimals ≡ take (prefix_len is_digit r) r
    → IsLongest bytes (length whole + 1 + length decimals) (token.Float (pos (raw_of whole decimals))) (nat_le (number_in 10 whole) max_whole)
float_longest bytes whole r decimals h n e d g =
    let i = length-take-le (prefix_len is_digit bytes) bytes (prefix_len-le-length is_digit bytes) in
    let j = length-take-le (prefix_len is_digit r) r (prefix_len-le-length is_digit r) in
    let long : prefix_len is_digit bytes + 1 + prefix_len is_digit r ≡ length whole + 1 + length decimals = omega (arith, i, j, ap length e, ap length g) in
    subst (λ m. IsLongest bytes m (token.Float (pos (raw_of whole decimals))) (nat_le (number_in 10 whole) max_whole)) long
    (subst (λ x. IsLongest bytes (prefix_len is_digit bytes + 1 + prefix_len is_digit r) (token.Float (pos (raw_of x decimals))) (nat_le (number_in 10 x) max_whole)) (sym e)
    (subst (λ y. IsLongest bytes (prefix_len is_digit bytes + 1 + prefix_len is_digit r) (token.Float (pos (raw_of (take (prefix_len is_digit bytes) bytes) y))) (nat_le (number_in 10 (take (prefix_len is_digit bytes) bytes)) max_whole)) (sym g)
    (float_at bytes r h n d)))

decimal_form : (bytes : List ℕ) (n : ℕ) → list_all is_digit (take n bytes) ≡ true → 0 < length (take n bytes) → Form (take n bytes) (token.Int (pos (number_in 10 (take n bytes)))) (nat_le (number_in 10 (take n bytes)) max_int)
decimal_form bytes n h l = go (take n bytes) h l
  where
    go : (ds : List ℕ) → list_all is_digit ds ≡ true → 0 < length ds → Form ds (token.Int (pos (number_in 10 ds))) (nat_le (number_in 10 ds) max_int)
    go [] h l = absurd (omega arith)
    go (b ∷ bs) h l = a_decimal h

digit_first : (bytes : List ℕ) → first_class bytes ≡ 1 → 0 < prefix_len is_digit bytes
unfolding first_class class
digit_first [] h = cc
digit_first (b ∷ bs) h = let i : is_digit b ≡ true = grind (arith, nat_tests) in run_some is_digit b bs i

pub whole_longest : (bytes whole : List ℕ) → begins_number bytes ≡ true → NotHexadecimal bytes → whole ≡ take (prefix_len is_digit bytes) bytes
    → ((r : List ℕ) → drop (prefix_len is_digit bytes) bytes ≡ 46 ∷ r → ⊥)
    → IsLongest bytes (length whole) (token.Int (pos (number_in 10 whole))) (nat_le (number_in 10 whole) max_int)
whole_longest bytes whole h n e d =
    let c = whole_class bytes h d in
    let m = prefix_len is_digit bytes in
    let l = prefix_len-le-length is_digit bytes in
    let i = length-take-le m bytes l in
    let s = digit_first bytes c in
    let long : m ≡ length whole = omega (arith, i, ap length e) in
    subst (λ k. IsLongest bytes k (token.Int (pos (number_in 10 whole))) (nat_le (number_in 10 whole) max_int)) long
    (subst (λ x. IsLongest bytes m (token.Int (pos (number_in 10 x))) (nat_le (number_in 10 x) max_int)) (sym e)
    (record {
      within = l;
      form = decimal_form bytes m (list_all-run is_digit bytes) (omega (arith, i, s));
      longest = λ w rest k g z x. whole_front bytes rest z n c d x;
    }))

hexadecimal_form : (ds : List ℕ) → list_all is_hexadecimal ds ≡ true → 0 < length ds → Form (48 ∷ 120 ∷ ds) (token.Int (pos (number_in 16 ds))) (nat_le (number_in 16 ds) max_int)
hexadecimal_form [] h l = absurd (omega arith)
hexadecimal_form (b ∷ bs) h l = a_hexadecimal h

pub hexadecimal_longest : (bytes digits : List ℕ) → begins (codes "0x") bytes ≡ true → digits ≡ take (prefix_len is_hexadecimal (drop 2 bytes)) (drop 2 bytes) → 0 < length digits
    → IsLongest bytes (length digits + 2) (token.Int (pos (number_in 16 digits))) (nat_le (number_in 16 digits) max_int)
hexadecimal_longest bytes digits h e s =
    let r = drop 2 bytes in
    let m = prefix_len is_hexadecimal r in
    let z : bytes ≡ 48 ∷ 120 ∷ r = begins-so bytes (codes "0x") h in
    let l = prefix_len-le-length is_hexadecimal r in
    let i = length-take-le m r l in
    let two : length digits + 2 ≡ suc (suc m) = omega (arith, i, ap length e) in
    let cut : take (length digits + 2) bytes ≡ 48 ∷ 120 ∷ digits = ap (λ n. take n bytes) two ∙ ap (take (suc (suc m))) z ∙ ap (λ x. 48 ∷ 120 ∷ x) (sym e) in
    let all : list_all is_hexadecimal digits ≡ true = ap (list_all is_hexadecimal) e ∙ list_all-run is_hexadecimal r in
    let some : 0 < m = omega (arith, s, i, ap length e) in
    let b = ap length z in
    record {
      within = omega (arith, two, l, b);
      form = subst (λ x. Form x (token.Int (pos (number_in 16 digits))) (nat_le (number_in 16 digits) max_int)) (sym cut) (hexadecimal_form digits all s);
      longest = λ w rest k g y x. let f = hexadecimal_front bytes r rest y z some x in omega (arith, f, two);
    }

-- texts
text_form : (bs value : List ℕ) (n : ℕ) → text_in bs ≡ Some (value, n) → (n ≤ length bs) × Form (take (suc n) (34 ∷ bs)) (token.Text value) (nat_le (length value) MAX_TEXT_BYTES)
text_form bs value n e =
    let t = text_in-is bs value n e in
    let all : bs ≡ (t.inner ++ 34 ∷ []) ++ t.rest = t.stands ∙ sym (append_assoc t.inner (34 ∷ []) t.rest) in
    let l = length-append t.inner (34 ∷ []) in
    let k = length-append (t.inner ++ 34 ∷ []) t.rest in
    let long : length (t.inner ++ 34 ∷ []) ≡ n = let m = t.long in omega (arith, l, m) in
    let cut : take n bs ≡ t.inner ++ 34 ∷ [] = ap (take n) all ∙ take_at (t.inner ++ 34 ∷ []) t.rest n long in
    (omega (arith, k, long, ap length all), subst (λ x. Form (34 ∷ x) (token.Text value) (nat_le (length value) MAX_TEXT_BYTES)) (sym cut) (a_text t.inner value t.quoted))

pub text_longest : (bs value : List ℕ) (n : ℕ) → text_in bs ≡ Some (value, n) → IsLongest (34 ∷ bs) (n + 1) (token.Text value) (nat_le (length value) MAX_TEXT_BYTES)
text_longest bs value n e =
    let t = text_form bs value n e in
    let one : suc n ≡ n + 1 = omega arith in
    record {
      within = omega (arith, t.0);
      form = subst (λ m. Form (take m (34 ∷ bs)) (token.Text value) (nat_le (length value) MAX_TEXT_BYTES)) one t.1;
      longest = λ w rest k g y x.
          let f = text_front bs rest y x in
          let same = (some_pair_parts value f.0 n (length w - 1) (sym e ∙ f.1)).1 in
          omega (arith, same);
    }

pub no_text : (bs : List ℕ) → text_in bs ≡ None → BeginsNoToken (34 ∷ bs)
no_text bs e = no_front (34 ∷ bs) (λ w rest k f y x. let t = text_front bs rest y x in none-some (t.0, length w - 1) (sym e ∙ t.1))

-- marks
pub record IsOther (bytes : List ℕ) : Type 0 where
  pub no_name : begins_with begins_name bytes ≡ false
  pub no_quote : begins_with (λ b. b == 34) bytes ≡ false
  pub no_number : begins_number bytes ≡ false

other_class : (bytes : List ℕ) → IsOther bytes → 3 ≤ first_class bytes
unfolding first_class class
other_class [] o = omega arith
other_class (b ∷ bs) o =
    let name = o.no_name in
    let quote = o.no_quote in
    let digit : is_digit b ≡ false = either-left (is_digit b) _ o.no_number in
    rw (name, digit, quote) (go (b == 46))
  where
    go : (c : Bool) → 3 ≤ cond c 3 (cond (is_space b) 5 4)
    go true = omega arith
    go false = go' (is_space b)
      where
        go' : (d : Bool) → 3 ≤ cond d 5 4
        go' true = omega arith
        go' false = omega arith

-- a float would be a number
no_float : (bytes whole decimals rest : List ℕ) → IsOther bytes → bytes ≡ (whole ++ 46 ∷ decimals) ++ rest → list_all is_digit whole ≡ true → list_all is_digit decimals ≡ true → 0 < length whole + length decimals → ⊥
no_float bytes [] [] rest o e h g i = omega arith
no_float bytes [] (d ∷ ds) rest o e h g i =
    let n : begins_number (46 ∷ d ∷ ds ++ rest) ≡ false = ap begins_number (sym e) ∙ o.no_number in
    let y : begins_number (46 ∷ d ∷ ds ++ rest) ≡ true = list_all-first is_digit d ds g in
    cc
no_float bytes (b ∷ bs) decimals rest o e h g i =
    let n : begins_number (b ∷ (bs ++ 46 ∷ decimals) ++ rest) ≡ false = ap begins_number (sym e) ∙ o.no_number in
    let y : begins_number (b ∷ (bs ++ 46 ∷ decimals) ++ rest) ≡ true = ap (λ c. c || ((b == 46) && begins_with is_digit ((bs ++ 46 ∷ decimals) ++ rest))) (list_all-first is_digit b bs h) in
    cc

-- only marks stand elsewhere
only_mark : {w : List ℕ} {k : TokenKind} {f : Bool} (bytes rest : List ℕ) → IsOther bytes → bytes ≡ w ++ rest → Form w k f → (mark : Mark) × (look_up marks w ≡ Some mark)
unfolding low high
only_mark bytes rest o e (a_mark {w} {mark} h) = (mark, h)
only_mark bytes rest o e (a_float whole decimals h g i) = absurd (no_float bytes whole decimals rest o e h g i)
only_mark bytes rest o e x =
    let p = in_front_class bytes rest e x in
    let c = other_class bytes o in
    absurd (omega (arith, p.1, c))

pub mark_longest : (bytes : List ℕ) (mark : Mark) (n : ℕ) → IsOther bytes → first_front marks bytes ≡ Some (mark, n) → IsLongest bytes n (token.Mark mark) true
mark_longest bytes mark n o e =
    let p = found marks bytes mark n e in
    record {
      within = p.1;
      form = a_mark p.0;
      longest = λ w rest k f y x. let m = only_mark bytes rest o y x in marks-longest bytes w rest mark m.0 n e y m.1;
    }

pub no_mark : (bytes : List ℕ) → IsOther bytes → first_front marks bytes ≡ None → BeginsNoToken bytes
no_mark bytes o e = no_front bytes (λ w rest k f y x. let m = only_mark bytes rest o y x in found-none marks bytes w rest m.0 e y m.1)

-- what the code finds, in its own terms
below : (n m : ℕ) → n ≤ m → nat_le n m ≡ true
below n m h = grind (arith, nat_tests)

above : (n m : ℕ) → m < n → nat_le n m ≡ false
above n m h = grind (arith, nat_tests)

pub word_stands : (bytes name : List ℕ) (n : ℕ) (word : Word) → begins_with begins_name bytes ≡ true → opens_comment bytes ≡ false → n ≡ prefix_len continues_name bytes → name ≡ take n bytes
    → look_up words name ≡ Some word → IsToken bytes n (token.Word word)
word_stands bytes name n word h c e t l =
    subst (λ m. IsToken bytes m (token.Word word)) (sym e) (within_limit c refl (word_longest bytes word h (ap (λ m. look_up words (take m bytes)) (sym e) ∙ ap (look_up words) (sym t) ∙ l)))

name_at : (bytes name : List ℕ) (n : ℕ) → begins_with begins_name bytes ≡ true → n ≡ prefix_len continues_name bytes → name ≡ take n bytes
    → look_up words name ≡ None → IsLongest bytes n (token.Name name) (nat_le n MAX_TEXT_BYTES)
name_at bytes name n h e t l =
    let m = prefix_len continues_name bytes in
    let same : name ≡ take m bytes = t ∙ ap (λ k. take k bytes) e in
    subst (λ k. IsLongest bytes k (token.Name name) (nat_le k MAX_TEXT_BYTES)) (sym e)
    (subst (λ x. IsLongest bytes m (token.Name x) (nat_le m MAX_TEXT_BYTES)) (sym same) (name_longest bytes h (ap (look_up words) (sym same) ∙ l)))

pub name_stands : (bytes name : List ℕ) (n : ℕ) → begins_with begins_name bytes ≡ true → opens_comment bytes ≡ false → n ≡ prefix_len continues_name bytes → name ≡ take n bytes
    → look_up words name ≡ None → nat_le n MAX_TEXT_BYTES ≡ true → IsToken bytes n (token.Name name)
name_stands bytes name n h c e t l small = within_limit c small (name_at bytes name n h e t l)

pub name_too_long : (bytes name : List ℕ) (n : ℕ) → begins_with begins_name bytes ≡ true → n ≡ prefix_len continues_name bytes → name ≡ take n bytes
    → look_up words name ≡ None → nat_le n MAX_TEXT_BYTES ≡ false → BeginsNoToken bytes
name_too_long bytes name n h e t l long = past_limit (name_at bytes name n h e t l) long

pub text_stands : (bs value : List ℕ) (n : ℕ) → TextStands bs value n → nat_le (length value) MAX_TEXT_BYTES ≡ true → IsToken (34 ∷ bs) (n + 1) (token.Text value)
text_stands bs value n t small = within_limit (no_comment bs) small (text_longest bs value n (text_in-closes bs value n t))
  where
    no_comment : (bs : List ℕ) → opens_comment (34 ∷ bs) ≡ false
    no_comment [] = refl
    no_comment (b ∷ bs) = refl

pub text_too_long : (bs value : List ℕ) (n : ℕ) → TextStands bs value n → nat_le (length value) MAX_TEXT_BYTES ≡ false → BeginsNoToken (34 ∷ bs)
text_too_long bs value n t long = past_limit (text_longest bs value n (text_in-closes bs value n t)) long

pub text_unclosed : (bs : List ℕ) → ((value : List ℕ) (n : ℕ) → TextStands bs value n → ⊥) → BeginsNoToken (34 ∷ bs)
text_unclosed bs h = no_text bs (text_in-none bs h)

no_point : (bytes behind : List ℕ) (n : ℕ) → n ≡ prefix_len is_digit bytes → behind ≡ drop n bytes → begins (codes ".") behind ≡ false → (r : List ℕ) → drop (prefix_len is_digit bytes) bytes ≡ 46 ∷ r → ⊥
no_point bytes behind n e d p r i = let t = so-begins behind (codes ".") r (d ∙ ap (λ m. drop m bytes) e ∙ i) in cc

pub whole_stands : (bytes whole behind : List ℕ) (n : ℕ) → begins_number bytes ≡ true → opens_comment bytes ≡ false → NotHexadecimal bytes → n ≡ prefix_len is_digit bytes
    → whole ≡ take n bytes → behind ≡ drop n bytes → begins (codes ".") behind ≡ false → number_in 10 whole ≤ max_int → IsToken bytes (length whole) (token.Int (pos (number_in 10 whole)))
whole_stands bytes whole behind n h c x e t d p small =
    within_limit c (below (number_in 10 whole) max_int small) (whole_longest bytes whole h x (t ∙ ap (λ m. take m bytes) e) (no_point bytes behind n e d p))

pub whole_too_great : (bytes whole behind : List ℕ) (n : ℕ) → begins_number bytes ≡ true → NotHexadecimal bytes → n ≡ prefix_len is_digit bytes
    → whole ≡ take n bytes → behind ≡ drop n bytes → begins (codes ".") behind ≡ false → max_int < number_in 10 whole → BeginsNoToken bytes
whole_too_great bytes whole behind n h x e t d p great =
    past_limit (whole_longest bytes whole h x (t ∙ ap (λ m. take m bytes) e) (no_point bytes behind n e d p)) (above (number_in 10 whole) max_int great)

float_found : (bytes whole behind decimals : List ℕ) (n m : ℕ) → begins_number bytes ≡ true → NotHexadecimal bytes → n ≡ prefix_len is_digit bytes
    → whole ≡ take n bytes → behind ≡ drop n bytes → begins (codes ".") behind ≡ true → m ≡ prefix_len is_digit (drop 1 behind) → decimals ≡ take m (drop 1 behind)
    → IsLongest bytes (length whole + 1 + length decimals) (token.Float (pos (raw_of whole decimals))) (nat_le (number_in 10 whole) max_whole)
float_found bytes whole behind decimals n m h x e t d p f g =
    float_longest bytes whole (drop 1 behind) decimals h x (t ∙ ap (λ k. take k bytes) e) (ap (λ k. drop k bytes) (sym e) ∙ sym d ∙ begins-so behind (codes ".") p) (g ∙ ap (λ k. take k (drop 1 behind)) f)

pub float_stands : (bytes whole behind decimals : List ℕ) (n m : ℕ) → begins_number bytes ≡ true → opens_comment bytes ≡ false → NotHexadecimal bytes → n ≡ prefix_len is_digit bytes
    → whole ≡ take n bytes → behind ≡ drop n bytes → begins (codes ".") behind ≡ true → m ≡ prefix_len is_digit (drop 1 behind) → decimals ≡ take m (drop 1 behind)
    → nat_le (number_in 10 whole) max_whole ≡ true → IsToken bytes (length whole + 1 + length decimals) (token.Float (pos (raw_of whole decimals)))
float_stands bytes whole behind decimals n m h c x e t d p f g small = within_limit c small (float_found bytes whole behind decimals n m h x e t d p f g)

pub float_too_great : (bytes whole behind decimals : List ℕ) (n m : ℕ) → begins_number bytes ≡ true → NotHexadecimal bytes → n ≡ prefix_len is_digit bytes
    → whole ≡ take n bytes → behind ≡ drop n bytes → begins (codes ".") behind ≡ true → m ≡ prefix_len is_digit (drop 1 behind) → decimals ≡ take m (drop 1 behind)
    → nat_le (number_in 10 whole) max_whole ≡ false → BeginsNoToken bytes
float_too_great bytes whole behind decimals n m h x e t d p f g great = past_limit (float_found bytes whole behind decimals n m h x e t d p f g) great

pub hexadecimal_stands : (bytes digits : List ℕ) → opens_comment bytes ≡ false → begins (codes "0x") bytes ≡ true → digits ≡ take (prefix_len is_hexadecimal (drop 2 bytes)) (drop 2 bytes) → 0 < length digits
    → number_in 16 digits ≤ max_int → IsToken bytes (length digits + 2) (token.Int (pos (number_in 16 digits)))
hexadecimal_stands bytes digits c h e s small = within_limit c (below (number_in 16 digits) max_int small) (hexadecimal_longest bytes digits h e s)

pub hexadecimal_too_great : (bytes digits : List ℕ) → begins (codes "0x") bytes ≡ true → digits ≡ take (prefix_len is_hexadecimal (drop 2 bytes)) (drop 2 bytes) → 0 < length digits
    → max_int < number_in 16 digits → BeginsNoToken bytes
hexadecimal_too_great bytes digits h e s great = past_limit (hexadecimal_longest bytes digits h e s) (above (number_in 16 digits) max_int great)

empty-class : first_class [] ≡ 9
unfolding first_class
empty-class = refl

other : (bytes rest : List ℕ) (b : ℕ) → bytes ≡ b ∷ rest → begins_name b ≡ false → (b ≡ 34 → ⊥) → begins_number bytes ≡ false → IsOther bytes
other bytes rest b e name quote number = record {
  no_name = ap (begins_with begins_name) e ∙ name;
  no_quote = ap (begins_with (λ x. x == 34)) e ∙ grind (arith, nat_tests);
  no_number = number;
}

pub mark_stands : (bytes rest : List ℕ) (b n : ℕ) (mark : Mark) → bytes ≡ b ∷ rest → begins_name b ≡ false → (b ≡ 34 → ⊥) → begins_number bytes ≡ false → opens_comment bytes ≡ false
    → first_front marks bytes ≡ Some (mark, n) → IsToken bytes n (token.Mark mark)
mark_stands bytes rest b n mark e name quote number c f = within_limit c refl (mark_longest bytes mark n (other bytes rest b e name quote number) f)

pub no_mark_stands : (bytes rest : List ℕ) (b : ℕ) → bytes ≡ b ∷ rest → begins_name b ≡ false → (b ≡ 34 → ⊥) → begins_number bytes ≡ false → first_front marks bytes ≡ None → BeginsNoToken bytes
no_mark_stands bytes rest b e name quote number f = no_mark bytes (other bytes rest b e name quote number) f

pub no_bytes : (bytes : List ℕ) → length bytes ≡ 0 → BeginsNoToken bytes
no_bytes [] e = no_front [] (λ w rest k f y x. let p = in_front_class [] rest y x in let l = high-bound k in omega (arith, p.1, l, empty-class))
no_bytes (b ∷ bs) e = absurd (omega arith)
