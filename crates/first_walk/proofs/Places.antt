-- Lists by places: what each has, what a change leaves, and what a name finds.
use Rattle.std.proofs.Common.{◌≡◌, ℕ, zero, suc, ◌+◌, ◌<◌, Bool, true, false, List, [], ◌∷◌, ◌++◌, length, slice_get, slice_set, Some, if◌then◌else◌, refl, sym, ap, ◌∙◌, subst, arith, suc-add, zero-add, add-zero, add-one, ⊎_elim}
use Rattle.std.proofs.lemmas.Bool.{cases_eq}
use Rattle.std.proofs.lemmas.List.{length_push}
use Rattle.std.proofs.lemmas.Option.{slice_get_within}
use Rattle.std.proofs.lemmas.Slice.Eq.{bytes_eq-Decides}
use Rattle.std.specs.Str.{bytes_eq}
use Rattle.ck_syntax.specs.Tree.{Name}
use Rattle.type_table.specs.Finished.{numbers}
use Rattle.type_table.specs.Names.{lookup}
use Rattle.type_table.proofs.Ranges.{Each}

pub some_is : {A : Type 0} {x y : A} → Some x ≡ Some y → x ≡ y
some_is is = cc

-- places ----------------------------------------------------------------------------------------

module _ {A : Type 0} where
  pub got : (xs : List A) (i : ℕ) → i < length xs → (x : A) × (slice_get xs i ≡ Some x)
  got [] i lt = absurd (omega (arith, lt))
  got (x ∷ xs) zero lt = (x, refl)
  got (x ∷ xs) (suc i) lt = got xs i (omega (arith, lt))

  pub get_front : (xs ys : List A) (i : ℕ) (x : A) → slice_get xs i ≡ Some x → slice_get (xs ++ ys) i ≡ Some x
  get_front [] ys i x at = absurd (cc)
  get_front (y ∷ xs) ys zero x at = at
  get_front (y ∷ xs) ys (suc i) x at = get_front xs ys i x at

  pub get_within : (xs ys : List A) (i : ℕ) → i < length xs → slice_get (xs ++ ys) i ≡ slice_get xs i
  get_within [] ys i lt = absurd (omega (arith, lt))
  get_within (x ∷ xs) ys zero lt = refl
  get_within (x ∷ xs) ys (suc i) lt = get_within xs ys i (omega (arith, lt))

  pub get_behind : (xs ys : List A) (i : ℕ) → slice_get (xs ++ ys) (length xs + i) ≡ slice_get ys i
  get_behind [] ys i = ap (slice_get ys) (zero-add i)
  get_behind (x ∷ xs) ys i = ap (slice_get (x ∷ (xs ++ ys))) (suc-add (length xs) i) ∙ get_behind xs ys i

  pub get_last : (xs : List A) (x : A) (i : ℕ) → i ≡ length xs → slice_get (xs ++ x ∷ []) i ≡ Some x
  get_last xs x i is = ap (slice_get (xs ++ x ∷ [])) (is ∙ sym (add-zero (length xs))) ∙ get_behind xs (x ∷ []) 0

  -- where a place is written, the others stay
  pub set_keeps : (R : A → A → Type 0) → ((x : A) → R x x) → (xs : List A) (i : ℕ) (y : A) → ((x : A) → slice_get xs i ≡ Some x → R y x)
      → (s : ℕ) (g : A) → slice_get xs s ≡ Some g → (f : A) × (slice_get (slice_set xs i y) s ≡ Some f) × R f g
  set_keeps R same [] i y new s g at = absurd (cc)
  set_keeps R same (x ∷ xs) zero y new zero g at = (y, refl, new g at)
  set_keeps R same (x ∷ xs) zero y new (suc s) g at = (g, at, same g)
  set_keeps R same (x ∷ xs) (suc i) y new zero g at = (g, at, same g)
  set_keeps R same (x ∷ xs) (suc i) y new (suc s) g at = set_keeps R same xs i y new s g at

  pub get_other : (xs : List A) (i : ℕ) (y : A) (s : ℕ) → (i ≡ s → ⊥) → slice_get (slice_set xs i y) s ≡ slice_get xs s
  get_other [] i y s other = refl
  get_other (x ∷ xs) zero y zero other = absurd (other refl)
  get_other (x ∷ xs) zero y (suc s) other = refl
  get_other (x ∷ xs) (suc i) y zero other = refl
  get_other (x ∷ xs) (suc i) y (suc s) other = get_other xs i y s (λ same. other (ap suc same))

-- each ------------------------------------------------------------------------------------------

module _ {A : Type 0} (P : A → Type 0) where
  pub each_at : (xs : List A) (i : ℕ) (x : A) → Each P xs → slice_get xs i ≡ Some x → P x
  each_at [] i x each at = absurd (cc)
  each_at (y ∷ xs) zero x each at = subst P (some_is at) each.0
  each_at (y ∷ xs) (suc i) x each at = each_at xs i x each.1 at

  pub each_append : (xs ys : List A) → Each P xs → Each P ys → Each P (xs ++ ys)
  each_append [] ys each more = more
  each_append (x ∷ xs) ys each more = (each.0, each_append xs ys each.1 more)

  pub each_set : (xs : List A) (i : ℕ) (y : A) → Each P xs → P y → Each P (slice_set xs i y)
  each_set [] i y each new = tt
  each_set (x ∷ xs) zero y each new = (new, each.1)
  each_set (x ∷ xs) (suc i) y each new = (each.0, each_set xs i y each.1 new)

  pub each_also : (Q : A → Type 0) → ((x : A) → P x → Q x) → (xs : List A) → Each P xs → Each Q xs
  each_also Q also [] each = tt
  each_also Q also (x ∷ xs) each = (also x each.0, each_also Q also xs each.1)

-- names -----------------------------------------------------------------------------------------

-- what is found under a name stands there with it
pub each_found : {A : Type 0} (P : Name × A → Type 0) (xs : List (Name × A)) (n : Name) (a : A) → Each P xs → lookup n xs ≡ Some a → P (n, a)
each_found P [] n a each at = absurd (cc)
each_found {A} P ((m, b) ∷ xs) n a each at = go (bytes_eq n m) refl at (each_found P xs n a each.1)
  where
    go : (same : Bool) → bytes_eq n m ≡ same → (if same then Some b else lookup n xs) ≡ Some a → (lookup n xs ≡ Some a → P (n, a)) → P (n, a)
    go true same is rest = subst (λ (x : Name). P (x, a)) (sym ((bytes_eq-Decides n m).0 same)) (subst (λ (x : A). P (m, x)) (some_is is) each.0)
    go false same is rest = rest is

-- the numbers below one -------------------------------------------------------------------------

pub length-numbers : (n : ℕ) → length (numbers n) ≡ n
length-numbers zero = refl
length-numbers (suc n) = length_push (numbers n) n ∙ add-one (length (numbers n)) ∙ ap suc (length-numbers n)

-- each stands in its own place
pub get-numbers : (n i : ℕ) → i < n → slice_get (numbers n) i ≡ Some i
get-numbers zero i lt = absurd (omega (arith, lt))
get-numbers (suc n) i lt = ⊎_elim last (front (get-numbers n i)) (cases_eq i n)
  where
    last : i ≡ n → slice_get (numbers n ++ n ∷ []) i ≡ Some i
    last same = get_last (numbers n) n i (same ∙ sym (length-numbers n)) ∙ ap Some (sym same)

    front : (i < n → slice_get (numbers n) i ≡ Some i) → (i ≡ n → ⊥) → slice_get (numbers n ++ n ∷ []) i ≡ Some i
    front rest other = get_front (numbers n) (n ∷ []) i i (rest (omega (arith, lt, other)))

-- and nothing else stands there
pub numbers_are : (n i k : ℕ) → slice_get (numbers n) i ≡ Some k → k ≡ i
numbers_are n i k at = some_is (sym at ∙ get-numbers n i (subst (λ m. i < m) (length-numbers n) (slice_get_within (numbers n) i k at)))
