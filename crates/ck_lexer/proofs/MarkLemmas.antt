-- The longest spelling of a table at a place.
use Rattle.std.proofs.Common.{◌≡◌, ℕ, ◌≤◌, List, [], ◌∷◌, ◌++◌, length, take, drop, Bool, true, false, ◌&&◌, nat_eq, nat_le, cond, Some, None, refl, sym, ◌∙◌, ap, arith, length-append}
use Rattle.std.proofs.lemmas.List.{take-append-drop}
use Rattle.std.specs.List.{list_all, starts_with}
use Rattle.std.specs.Str.{bytes_eq}
use Rattle.std.proofs.lemmas.Bool.Decides.{nat_tests, Decides-eqb}
use Rattle.std.proofs.lemmas.Slice.Eq.{bytes_eq-Decides, starts_is}
use Rattle.std.proofs.lemmas.Option.{some_pair_parts}
use Rattle.ck_lexer.specs.declared.mark.Mark.{Mark}
use Rattle.ck_lexer.specs.Tables.{look_up, first_front, marks}
use Rattle.ck_lexer.proofs.Runs.{both-left, both-right, take-front}
use Rattle.ck_lexer.proofs.Classes.{of_table}

pub begins-so : (bytes w : List ℕ) → starts_with nat_eq bytes w ≡ true → bytes ≡ w ++ drop (length w) bytes
begins-so bytes w h = (starts_is Decides-eqb bytes w (starts_with nat_eq bytes w) refl).0 h

pub so-begins : (bytes w rest : List ℕ) → bytes ≡ w ++ rest → starts_with nat_eq bytes w ≡ true
so-begins bytes w rest e = (starts_is Decides-eqb bytes w (starts_with nat_eq bytes w) refl).1 rest e

same-bytes : (v w : List ℕ) → bytes_eq v w ≡ true → v ≡ w
same-bytes v w h = (bytes_eq-Decides v w).0 h

-- no spelling is longer than one before it
pub falling : {A : Type 0} → List (List ℕ × A) → Bool
falling [] = true
falling (row ∷ rows) = list_all (λ r. nat_le (length r.0) (length row.0)) rows && falling rows

marks-falling : falling marks ≡ true
unfolding falling marks
marks-falling = refl

module _ {A : Type 0} where
  -- what is found has its row, and stands there
  pub found : (rows : List (List ℕ × A)) (bytes : List ℕ) (a : A) (n : ℕ) → first_front rows bytes ≡ Some (a, n) → (look_up rows (take n bytes) ≡ Some a) × (n ≤ length bytes)
  found [] bytes a n h = cc
  found (row ∷ rows) bytes a n h = go (found rows bytes a n) (starts_with nat_eq bytes row.0) refl h
    where
      past : starts_with nat_eq bytes row.0 ≡ false → n ≤ length bytes → (c : Bool) → bytes_eq row.0 (take n bytes) ≡ c → look_up rows (take n bytes) ≡ Some a → cond c (Some row.1) (look_up rows (take n bytes)) ≡ Some a
      past s l true e i = let t = so-begins bytes row.0 (drop n bytes) (sym (take-append-drop n bytes) ∙ ap (λ x. x ++ drop n bytes) (sym (same-bytes row.0 _ e))) in cc
      past s l false e i = i

      go : (first_front rows bytes ≡ Some (a, n) → (look_up rows (take n bytes) ≡ Some a) × (n ≤ length bytes)) → (c : Bool) → starts_with nat_eq bytes row.0 ≡ c → cond c (Some (row.1, length row.0)) (first_front rows bytes) ≡ Some (a, n)
          → (cond (bytes_eq row.0 (take n bytes)) (Some row.1) (look_up rows (take n bytes)) ≡ Some a) × (n ≤ length bytes)
      go behind true s h =
          let p = some_pair_parts row.1 a (length row.0) n h in
          let b = begins-so bytes row.0 s in
          let t : take n bytes ≡ row.0 = ap (λ m. take m bytes) (sym p.1) ∙ ap (take (length row.0)) b ∙ take-front row.0 _ in
          let l = length-append row.0 (drop (length row.0) bytes) in
          (rw (t, (bytes_eq-Decides row.0 row.0).1 refl) (ap (λ x. Some x) p.0), omega (arith, p.1, l, ap length b))
      go behind false s h = let i = behind h in (past s i.1 (bytes_eq row.0 (take n bytes)) refl i.0, i.1)

  -- no spelling that stands there is longer than what is found
  pub found-longest : (rows : List (List ℕ × A)) (bytes w rest : List ℕ) (a b : A) (n : ℕ) → falling rows ≡ true → first_front rows bytes ≡ Some (a, n) → bytes ≡ w ++ rest → look_up rows w ≡ Some b → length w ≤ n
  unfolding falling
  found-longest [] bytes w rest a b n f h e g = cc
  found-longest (row ∷ rows) bytes w rest a b n f h e g = go (λ i j. found-longest rows bytes w rest a b n (both-right _ (falling rows) f) i e j) (starts_with nat_eq bytes row.0) refl h (bytes_eq row.0 w) refl g
    where
      shorter : look_up rows w ≡ Some b → length w ≤ length row.0
      shorter j = let t = of_table (λ v. nat_le (length v) (length row.0)) rows w b (both-left _ (falling rows) f) j in grind (arith, nat_tests)

      go : (first_front rows bytes ≡ Some (a, n) → look_up rows w ≡ Some b → length w ≤ n) → (c : Bool) → starts_with nat_eq bytes row.0 ≡ c → cond c (Some (row.1, length row.0)) (first_front rows bytes) ≡ Some (a, n)
          → (d : Bool) → bytes_eq row.0 w ≡ d → cond d (Some row.1) (look_up rows w) ≡ Some b → length w ≤ n
      go behind true s h true q g = let p = some_pair_parts row.1 a (length row.0) n h in let l = ap length (same-bytes row.0 w q) in omega (arith, p.1, l)
      go behind true s h false q g = let p = some_pair_parts row.1 a (length row.0) n h in let l = shorter g in omega (arith, p.1, l)
      go behind false s h true q g = let t = so-begins bytes row.0 rest (e ∙ ap (λ x. x ++ rest) (sym (same-bytes row.0 w q))) in cc
      go behind false s h false q g = behind h g

  -- where nothing is found no spelling stands
  pub found-none : (rows : List (List ℕ × A)) (bytes w rest : List ℕ) (b : A) → first_front rows bytes ≡ None → bytes ≡ w ++ rest → look_up rows w ≡ Some b → ⊥
  found-none [] bytes w rest b h e g = cc
  found-none (row ∷ rows) bytes w rest b h e g = go (λ i j. found-none rows bytes w rest b i e j) (starts_with nat_eq bytes row.0) refl h (bytes_eq row.0 w) refl g
    where
      go : (first_front rows bytes ≡ None → look_up rows w ≡ Some b → ⊥) → (c : Bool) → starts_with nat_eq bytes row.0 ≡ c → cond c (Some (row.1, length row.0)) (first_front rows bytes) ≡ None
          → (d : Bool) → bytes_eq row.0 w ≡ d → cond d (Some row.1) (look_up rows w) ≡ Some b → ⊥
      go behind true s h d q g = cc
      go behind false s h true q g = let t = so-begins bytes row.0 rest (e ∙ ap (λ x. x ++ rest) (sym (same-bytes row.0 w q))) in cc
      go behind false s h false q g = behind h g

pub marks-longest : (bytes w rest : List ℕ) (a b : Mark) (n : ℕ) → first_front marks bytes ≡ Some (a, n) → bytes ≡ w ++ rest → look_up marks w ≡ Some b → length w ≤ n
marks-longest bytes w rest a b n h e g = found-longest marks bytes w rest a b n marks-falling h e g
