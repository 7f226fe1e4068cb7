-- What holds of each item of a list, of the front of a list, and of the first of a name, as lists grow and change.
use Rattle.std.proofs.Common.{◌≡◌, ℕ, zero, suc, ◌<◌, Bool, true, false, List, [], ◌∷◌, ◌++◌, length, Option, Some, None, slice_get, slice_set, if◌then◌else◌, refl, sym, ap, ◌∙◌, subst, ⊎_elim, arith, append_assoc}
use Rattle.std.specs.Str.{bytes_eq}
use Rattle.std.proofs.lemmas.Bool.{cases_eq}
use Rattle.std.proofs.lemmas.List.{append-nil}
use Rattle.std.proofs.lemmas.Option.{slice_get_within, same_Some}
use Rattle.std.proofs.lemmas.Slice.Eq.{bytes_eq-Decides}
use Rattle.ck_syntax.specs.Tree.{Name}
use Rattle.type_table.specs.Names.{lookup, or_else, is_some, and_first}
use Rattle.type_table.proofs.Ranges.{Each, Within}

-- what an option holds, if it holds anything
abbrev pub Holds : {A : Type 0} → (A → Type 0) → Option A → Type 0
Holds P None = Unit {0}
Holds P (Some a) = P a

pub holds_at : {A : Type 0} (P : A → Type 0) (o : Option A) (a : A) → o ≡ Some a → Holds P o → P a
holds_at P o a is holds = subst (Holds P) is holds

pub holds_map : {A : Type 0} (P Q : A → Type 0) → ((a : A) → P a → Q a) → (o : Option A) → Holds P o → Holds Q o
holds_map P Q f None holds = tt
holds_map P Q f (Some a) holds = f a holds

pub holds_else : {A : Type 0} (P : A → Type 0) (o other : Option A) → Holds P o → Holds P other → Holds P (or_else o other)
holds_else P None other a b = b
holds_else P (Some x) other a b = a

-- items of lists ----------------------------------------------------------------------------------

pub get_set_other : {A : Type 0} (xs : List A) (i j : ℕ) (x : A) → (j ≡ i → ⊥) → slice_get (slice_set xs i x) j ≡ slice_get xs j
get_set_other [] i j x other = refl
get_set_other (y ∷ xs) zero zero x other = absurd (other refl)
get_set_other (y ∷ xs) zero (suc j) x other = refl
get_set_other (y ∷ xs) (suc i) zero x other = refl
get_set_other (y ∷ xs) (suc i) (suc j) x other = get_set_other xs i j x (λ e. other (ap suc e))

pub get_set_same : {A : Type 0} (xs : List A) (i : ℕ) (x : A) → i < length xs → slice_get (slice_set xs i x) i ≡ Some x
get_set_same [] i x lt = absurd (omega (arith, lt))
get_set_same (y ∷ xs) zero x lt = refl
get_set_same (y ∷ xs) (suc i) x lt = get_set_same xs i x (omega (arith, lt))

-- what a change keeps of the item, it keeps of all items
pub set_keeps : {A B : Type 0} (g : Option A → B) (xs : List A) (i j : ℕ) (x : A) → g (Some x) ≡ g (slice_get xs i) → g (slice_get (slice_set xs i x) j) ≡ g (slice_get xs j)
set_keeps g [] i j x same = refl
set_keeps g (y ∷ xs) zero zero x same = same
set_keeps g (y ∷ xs) zero (suc j) x same = refl
set_keeps g (y ∷ xs) (suc i) zero x same = refl
set_keeps g (y ∷ xs) (suc i) (suc j) x same = set_keeps g xs i j x same

-- and what holds of the item holds of all still
pub kept_at : {A : Type 0} (P : Option A → Type 0) (xs : List A) (i j : ℕ) (x : A) → (P (slice_get xs i) → P (Some x)) → P (slice_get xs j) → P (slice_get (slice_set xs i x) j)
kept_at P [] i j x here was = was
kept_at P (y ∷ xs) zero zero x here was = here was
kept_at P (y ∷ xs) zero (suc j) x here was = was
kept_at P (y ∷ xs) (suc i) zero x here was = was
kept_at P (y ∷ xs) (suc i) (suc j) x here was = kept_at P xs i j x here was

-- an item is the changed one, or as it was
pub set_cases : {A : Type 0} (P : ℕ → Option A → Type 0) (xs : List A) (i j : ℕ) (x : A) → i < length xs → P i (Some x) → ((j ≡ i → ⊥) → P j (slice_get xs j)) → P j (slice_get (slice_set xs i x) j)
set_cases P xs i j x lt here there = ⊎_elim is_here is_there (cases_eq j i)
  where
    is_here : j ≡ i → P j (slice_get (slice_set xs i x) j)
    is_here e = subst (λ k. P k (slice_get (slice_set xs i x) k)) (sym e) (subst (P i) (sym (get_set_same xs i x lt)) here)

    is_there : (j ≡ i → ⊥) → P j (slice_get (slice_set xs i x) j)
    is_there other = subst (P j) (sym (get_set_other xs i j x other)) (there other)

pub get_front : {A : Type 0} (xs ys : List A) (i : ℕ) → i < length xs → slice_get (xs ++ ys) i ≡ slice_get xs i
get_front [] ys i lt = absurd (omega (arith, lt))
get_front (x ∷ xs) ys zero lt = refl
get_front (x ∷ xs) ys (suc i) lt = get_front xs ys i (omega (arith, lt))

pub get_more : {A : Type 0} (xs ys : List A) (i : ℕ) (x : A) → slice_get xs i ≡ Some x → slice_get (xs ++ ys) i ≡ Some x
get_more xs ys i x is = get_front xs ys i (slice_get_within xs i x is) ∙ is

pub get_last : {A : Type 0} (xs : List A) (x : A) (i : ℕ) → i ≡ length xs → slice_get (xs ++ x ∷ []) i ≡ Some x
get_last [] x i is = ap (slice_get (x ∷ [])) is
get_last (y ∷ xs) x zero is = absurd (omega (arith, is))
get_last (y ∷ xs) x (suc i) is = get_last xs x i (omega (arith, is))

-- an item of a longer list is an old one, or the last
pub push_cases : {A : Type 0} (P : Option A → Type 0) (xs : List A) (x : A) (i : ℕ) → P (slice_get xs i) → P (Some x) → P (slice_get (xs ++ x ∷ []) i)
push_cases P [] x zero old new = new
push_cases P [] x (suc i) old new = old
push_cases P (y ∷ xs) x zero old new = old
push_cases P (y ∷ xs) x (suc i) old new = push_cases P xs x i old new

-- each item ---------------------------------------------------------------------------------------

pub each_map : {A : Type 0} (P Q : A → Type 0) → ((a : A) → P a → Q a) → (xs : List A) → Each P xs → Each Q xs
each_map P Q f [] all = tt
each_map P Q f (x ∷ xs) all = (f x all.0, each_map P Q f xs all.1)

pub each_push : {A : Type 0} (P : A → Type 0) (xs : List A) (x : A) → Each P xs → P x → Each P (xs ++ x ∷ [])
each_push P [] x all one = (one, tt)
each_push P (y ∷ xs) x all one = (all.0, each_push P xs x all.1 one)

pub each_at : {A : Type 0} (P : A → Type 0) (xs : List A) (i : ℕ) (x : A) → Each P xs → slice_get xs i ≡ Some x → P x
each_at P [] i x all is = absurd (cc)
each_at P (y ∷ xs) zero x all is = subst P (same_Some y x is) all.0
each_at P (y ∷ xs) (suc i) x all is = each_at P xs i x all.1 is

pub each_set : {A : Type 0} (P : A → Type 0) (xs : List A) (i : ℕ) (x : A) → Each P xs → P x → Each P (slice_set xs i x)
each_set P [] i x all one = tt
each_set P (y ∷ xs) zero x all one = (one, all.1)
each_set P (y ∷ xs) (suc i) x all one = (all.0, each_set P xs i x all.1 one)

-- the front of a list -----------------------------------------------------------------------------

pub within_same : {A : Type 0} (xs : List A) → Within xs xs
within_same xs = ([], sym (append-nil xs))

pub within_is : {A : Type 0} (xs ys : List A) → ys ≡ xs → Within xs ys
within_is xs ys is = ([], is ∙ sym (append-nil xs))

pub within_push : {A : Type 0} (xs : List A) (x : A) → Within xs (xs ++ x ∷ [])
within_push xs x = (x ∷ [], refl)

pub within_then : {A : Type 0} (xs ys zs : List A) → Within xs ys → Within ys zs → Within xs zs
within_then xs ys zs a b = (a.0 ++ b.0, b.1 ∙ ap (λ l. l ++ b.0) a.1 ∙ append_assoc xs a.0 b.0)

pub get_within : {A : Type 0} (xs ys : List A) (i : ℕ) (x : A) → Within xs ys → slice_get xs i ≡ Some x → slice_get ys i ≡ Some x
get_within xs ys i x w is = ap (λ l. slice_get l i) w.1 ∙ get_more xs w.0 i x is

-- names -------------------------------------------------------------------------------------------

pub same_name : (n : Name) → bytes_eq n n ≡ true
same_name n = (bytes_eq-Decides n n).1 refl

module _ {A : Type 0} where
  pub lookup_more : (n : Name) (known more : List (Name × A)) (a : A) → lookup n known ≡ Some a → lookup n (known ++ more) ≡ Some a
  lookup_more n [] more a is = absurd (cc)
  lookup_more n (m ∷ known) more a is = go (bytes_eq n m.0) (λ e. lookup_more n known more a e) is
    where
      go : (b : Bool) → (lookup n known ≡ Some a → lookup n (known ++ more) ≡ Some a) → (if b then Some m.1 else lookup n known) ≡ Some a → (if b then Some m.1 else lookup n (known ++ more)) ≡ Some a
      go true later e = e
      go false later e = later e

  pub lookup_within : (n : Name) (known all : List (Name × A)) (a : A) → Within known all → lookup n known ≡ Some a → lookup n all ≡ Some a
  lookup_within n known all a w is = ap (lookup n) w.1 ∙ lookup_more n known w.0 a is

  -- a new name is found
  pub lookup_new : (n : Name) (known : List (Name × A)) (a : A) → lookup n known ≡ None → lookup n (known ++ (n, a) ∷ []) ≡ Some a
  lookup_new n [] a is = ap (λ b. if b then Some a else None) (same_name n)
  lookup_new n (m ∷ known) a is = go (bytes_eq n m.0) (λ e. lookup_new n known a e) is
    where
      go : (b : Bool) → (lookup n known ≡ None → lookup n (known ++ (n, a) ∷ []) ≡ Some a)
          → (if b then Some m.1 else lookup n known) ≡ None → (if b then Some m.1 else lookup n (known ++ (n, a) ∷ [])) ≡ Some a
      go true later e = absurd (cc)
      go false later e = later e

  pub and_new : (n : Name) (a : A) (known : List (Name × A)) → lookup n known ≡ None → and_first n a known ≡ known ++ (n, a) ∷ []
  and_new n a known is = ap (λ o. if is_some o then known else known ++ (n, a) ∷ []) is

  -- what holds of each, and of this one
  pub each_first : (P : Name × A → Type 0) (n : Name) (a : A) (known : List (Name × A)) → Each P known → P (n, a) → Each P (and_first n a known)
  each_first P n a known all one = go (is_some (lookup n known))
    where
      go : (b : Bool) → Each P (if b then known else known ++ (n, a) ∷ [])
      go true = all
      go false = each_push P known (n, a) all one

  -- what holds of the values holds of what is found
  pub found_holds : (P : A → Type 0) (n : Name) (known : List (Name × A)) → Each (λ (e : Name × A). P e.1) known → Holds P (lookup n known)
  found_holds P n [] all = tt
  found_holds P n (m ∷ known) all = go (bytes_eq n m.0) (found_holds P n known all.1)
    where
      go : (b : Bool) → Holds P (lookup n known) → Holds P (if b then Some m.1 else lookup n known)
      go true later = all.0
      go false later = later

  -- and with its name
  pub found_is : (P : Name → A → Type 0) (n : Name) (known : List (Name × A)) → Each (λ (e : Name × A). P e.0 e.1) known → Holds (P n) (lookup n known)
  found_is P n [] all = tt
  found_is P n (m ∷ known) all = go (bytes_eq n m.0) refl (found_is P n known all.1)
    where
      go : (b : Bool) → bytes_eq n m.0 ≡ b → Holds (P n) (lookup n known) → Holds (P n) (if b then Some m.1 else lookup n known)
      go true same later = subst (λ x. P x m.1) (sym ((bytes_eq-Decides n m.0).0 same)) all.0
      go false same later = later
