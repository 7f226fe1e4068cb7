-- What is among the items of a list.
use Rattle.std.proofs.Common.{◌≡◌, ℕ, zero, suc, ◌<◌, Bool, true, false, cond, List, [], ◌∷◌, map, filter, find, is_some, length, slice_index_or, All, Some, ◌⊎◌, inl, inr, refl, sym, ap, ◌∙◌, subst, arith}
use Rattle.std.specs.List.{IsAmong}
use Rattle.std.proofs.lemmas.List.Elements.{All-head, All-tail}

abbrev pub Among : {A : Type 0} → List A → A → Type 0
Among [] x = ⊥
Among (y ∷ ys) x = (x ≡ y) ⊎ Among ys x

pub among : {A : Type 0} (xs : List A) (x : A) → IsAmong xs x → Among xs x
among xs x is = at xs is.0 is.1.0 is.1.1
  where
    at : {A : Type 0} {x : A} → (xs : List A) (i : ℕ) → i < length xs → x ≡ slice_index_or xs i x → Among xs x
    at [] i lt is = absurd (omega (arith, lt))
    at (y ∷ xs) zero lt is = inl is
    at (y ∷ xs) (suc i) lt is = inr (at xs i (omega (arith, lt)) is)

pub all_at : {A : Type 0} (P : A → Type 0) (xs : List A) (x : A) → All P xs → Among xs x → P x
all_at P [] x all is = absurd is
all_at P (y ∷ xs) x all (inl is) = subst P (sym is) (All-head P y xs all)
all_at P (y ∷ xs) x all (inr more) = all_at P xs x (All-tail P y xs all) more

pub among-map : {A B : Type 0} (f : A → B) (xs : List A) (x : A) → Among xs x → Among (map f xs) (f x)
among-map f [] x is = is
among-map f (y ∷ xs) x (inl is) = inl (ap f is)
among-map f (y ∷ xs) x (inr more) = inr (among-map f xs x more)

-- what is among those that a test passes is among all, and passes
pub among-filter : {A : Type 0} (p : A → Bool) (xs : List A) (x : A) → Among (filter p xs) x
    → Among xs x × (p x ≡ true)
among-filter p [] x is = absurd is
among-filter {A} p (y ∷ xs) x is = by (p y) refl is (among-filter p xs x)
  where
    by : (b : Bool) → p y ≡ b → Among (cond b (y ∷ filter p xs) (filter p xs)) x
        → (Among (filter p xs) x → Among xs x × (p x ≡ true)) → Among (y ∷ xs) x × (p x ≡ true)
    by true e (inl is) ih = (inl is, ap p is ∙ e)
    by true e (inr more) ih = (inr (ih more).0, (ih more).1)
    by false e more ih = (inr (ih more).0, (ih more).1)

pub filter-among : {A : Type 0} (p : A → Bool) (xs : List A) (x : A) → Among xs x → p x ≡ true
    → Among (filter p xs) x
filter-among p [] x is passes = is
filter-among {A} p (y ∷ xs) x is passes = by (p y) refl is (λ more. filter-among p xs x more passes)
  where
    by : (b : Bool) → p y ≡ b → (x ≡ y) ⊎ Among xs x → (Among xs x → Among (filter p xs) x)
        → Among (cond b (y ∷ filter p xs) (filter p xs)) x
    by true e (inl is) ih = inl is
    by true e (inr more) ih = inr (ih more)
    by false e (inl is) ih = absurd (let fails : p x ≡ false = ap p is ∙ e in cc (passes, fails))
    by false e (inr more) ih = ih more

-- what is there is found
pub among-find : {A : Type 0} (p : A → Bool) (xs : List A) (x : A) → Among xs x → p x ≡ true
    → is_some (find p xs) ≡ true
among-find p [] x is passes = absurd is
among-find {A} p (y ∷ xs) x is passes = by (p y) refl is (λ more. among-find p xs x more passes)
  where
    by : (b : Bool) → p y ≡ b → (x ≡ y) ⊎ Among xs x → (Among xs x → is_some (find p xs) ≡ true)
        → is_some (cond b (Some y) (find p xs)) ≡ true
    by true e is ih = refl
    by false e (inl is) ih = absurd (let fails : p x ≡ false = ap p is ∙ e in cc (passes, fails))
    by false e (inr more) ih = ih more

pub find-among : {A : Type 0} (p : A → Bool) (xs : List A) → is_some (find p xs) ≡ true
    → (x : A) × Among xs x × (p x ≡ true)
find-among p [] is = absurd (cc is)
find-among {A} p (y ∷ xs) is = by (p y) refl is (find-among p xs)
  where
    by : (b : Bool) → p y ≡ b → is_some (cond b (Some y) (find p xs)) ≡ true
        → (is_some (find p xs) ≡ true → (x : A) × Among xs x × (p x ≡ true))
        → (x : A) × Among (y ∷ xs) x × (p x ≡ true)
    by true e is ih = (y, inl refl, e)
    by false e is ih = let more = ih is in (more.0, inr more.1, more.2)

length-filter : {A : Type 0} (p : A → Bool) (xs : List A) → length (filter p xs) < suc (length xs)
length-filter p [] = omega arith
length-filter {A} p (y ∷ xs) = by (p y) (length-filter p xs)
  where
    by : (b : Bool) → length (filter p xs) < suc (length xs)
        → length (cond b (y ∷ filter p xs) (filter p xs)) < suc (suc (length xs))
    by true ih = omega (arith, ih)
    by false ih = omega (arith, ih)

-- a filter that takes one out leaves fewer
pub fewer : {A : Type 0} (p : A → Bool) (xs : List A) (x : A) → Among xs x → p x ≡ false
    → length (filter p xs) < length xs
fewer p [] x is fails = absurd is
fewer {A} p (y ∷ xs) x is fails = by (p y) refl is (λ more. fewer p xs x more fails)
  where
    by : (b : Bool) → p y ≡ b → (x ≡ y) ⊎ Among xs x → (Among xs x → length (filter p xs) < length xs)
        → length (cond b (y ∷ filter p xs) (filter p xs)) < suc (length xs)
    by true e (inl is) ih = absurd (let passes : p x ≡ true = ap p is ∙ e in cc (passes, fails))
    by true e (inr more) ih = omega (arith, ih more)
    by false e is ih = length-filter p xs
