-- Lists: how often numbers stand in them, sums over them, and what is found in them.
use Rattle.std.proofs.Common.{◌≡◌, ℕ, ◌+◌, ◌≤◌, Bool, true, false, cond, nat_eq, List, [], ◌∷◌, ◌++◌, All, filter, find, Some, None, inl, inr, refl, sym, ap, ◌∙◌, subst, arith}
use Rattle.std.proofs.lemmas.Bool.{ne_eqb, eq-eqb, eqb-true, cases_eq}
use Rattle.std.proofs.lemmas.List.Elements.{All-nil, All-cons, All-head, All-tail}
use Rattle.ck_store.specs.Steps.{pick}
use Rattle.ck_run.specs.Counts.{hit, times, weight}

pub hit-same : (m n : ℕ) → m ≡ n → hit m n ≡ 1
unfolding hit
hit-same m n e = ap (λ b. pick b 1 0) (eq-eqb m n e)

pub hit-other : (m n : ℕ) → (m ≡ n → ⊥) → hit m n ≡ 0
unfolding hit
hit-other m n ne = ap (λ b. pick b 1 0) (ne_eqb m n ne)

-- a number is hit or not
pub data Turn (m n : ℕ) : Type 0 where
  same : m ≡ n → hit m n ≡ 1 → Turn m n
  other : (m ≡ n → ⊥) → hit m n ≡ 0 → Turn m n

pub turn : (m n : ℕ) → Turn m n
turn m n = elim (cases_eq m n) [ inl e ↦ same e (hit-same m n e) | inr ne ↦ other ne (hit-other m n ne) ]

module _ {A : Type 0} (f : A → ℕ) (m : ℕ) where
  pub times-append : (xs ys : List A) → times f m (xs ++ ys) ≡ times f m xs + times f m ys
  times-append [] ys = omega arith
  times-append (x ∷ xs) ys = omega (arith, times-append xs ys)

  -- a filter by the numbers
  pub times-filter : (keep : ℕ → Bool) (xs : List A) → times f m (filter (λ x. keep (f x)) xs) ≡ pick (keep m)
      (times f m xs) 0
  times-filter keep [] = by (keep m)
    where
      by : (b : Bool) → times f m [] ≡ pick b (times f m []) 0
      by true = refl
      by false = refl
  times-filter keep (x ∷ xs) = by (keep (f x)) refl (keep m) refl (turn m (f x)) (times-filter keep xs)
    where
      by : (b : Bool) → keep (f x) ≡ b → (c : Bool) → keep m ≡ c → Turn m (f x)
          → times f m (filter (λ x. keep (f x)) xs) ≡ pick c (times f m xs) 0
          → times f m (cond b (x ∷ filter (λ x. keep (f x)) xs) (filter (λ x. keep (f x)) xs)) ≡ pick c
          (hit m (f x) + times f m xs) 0
      by true e true e2 t ih = omega (arith, ih)
      by true e false e2 (same is h) ih = absurd (let bad : keep (f x) ≡ keep m = ap keep (sym is) in cc)
      by true e false e2 (other ne h) ih = omega (arith, ih, h)
      by false e true e2 (same is h) ih = absurd (let bad : keep (f x) ≡ keep m = ap keep (sym is) in cc)
      by false e true e2 (other ne h) ih = omega (arith, ih, h)
      by false e false e2 t ih = ih

  -- any filter leaves no more
  pub times-filter_le : (test : A → Bool) (xs : List A) → times f m (filter test xs) ≤ times f m xs
  times-filter_le test [] = omega arith
  times-filter_le test (x ∷ xs) = by (test x) (times-filter_le test xs)
    where
      by : (b : Bool) → times f m (filter test xs) ≤ times f m xs
          → times f m (cond b (x ∷ filter test xs) (filter test xs)) ≤ hit m (f x) + times f m xs
      by true ih = omega (arith, ih)
      by false ih = omega (arith, ih)

-- what is found passes the test, and what all items have
pub found_has : {A : Type 0} (P : A → Type 0) (test : A → Bool) (xs : List A) (x : A) → All P xs
    → find test xs ≡ Some x → (test x ≡ true) × P x
found_has P test [] x all is = absurd (cc is)
found_has P test (y ∷ ys) x all is = by (test y) refl is (found_has P test ys x (All-tail P y ys all))
  where
    by : (b : Bool) → test y ≡ b → cond b (Some y) (find test ys) ≡ Some x
        → (find test ys ≡ Some x → (test x ≡ true) × P x) → (test x ≡ true) × P x
    by true e is ih = let same : y ≡ x =
        cc is in (subst (λ z. test z ≡ true) same e, subst P same (All-head P y ys all))
    by false e is ih = ih is

-- what is found by its number
pub found_times : {A : Type 0} (f : A → ℕ) (n : ℕ) (xs : List A) (x : A) → find (λ y. nat_eq (f y) n) xs ≡ Some x
    → (f x ≡ n) × (1 ≤ times f n xs)
found_times f n [] x is = absurd (cc is)
found_times f n (y ∷ ys) x is = by (nat_eq (f y) n) refl is (found_times f n ys x)
  where
    by : (b : Bool) → nat_eq (f y) n ≡ b → cond b (Some y) (find (λ y. nat_eq (f y) n) ys) ≡ Some x
        → (find (λ y. nat_eq (f y) n) ys ≡ Some x → (f x ≡ n) × (1 ≤ times f n ys)) → (f x ≡ n)
        × (1 ≤ hit n (f y) + times f n ys)
    by true e is ih =
        let same : y ≡ x = cc is in
        (ap f (sym same) ∙ eqb-true (f y) n e, omega (arith, hit-same n (f y) (sym (eqb-true (f y) n e))))
    by false e is ih = ((ih is).0, omega (arith, (ih is).1))

-- what is found stands in the list
pub found_among : {A : Type 0} (f : A → ℕ) (test : A → Bool) (xs : List A) (x : A) → find test xs ≡ Some x
    → 1 ≤ times f (f x) xs
found_among f test [] x is = absurd (cc is)
found_among f test (y ∷ ys) x is = by (test y) is (found_among f test ys x)
  where
    by : (b : Bool) → cond b (Some y) (find test ys) ≡ Some x → (find test ys ≡ Some x → 1 ≤ times f (f x) ys)
        → 1 ≤ hit (f x) (f y) + times f (f x) ys
    by true found ih = let at : y ≡ x = cc found in omega (arith, hit-same (f x) (f y) (ap f (sym at)))
    by false found ih = omega (arith, ih found)

pub none_times : {A : Type 0} (f : A → ℕ) (n : ℕ) (xs : List A) → find (λ y. nat_eq (f y) n) xs ≡ None
    → times f n xs ≡ 0
none_times f n [] is = refl
none_times f n (y ∷ ys) is = by (nat_eq (f y) n) refl is (none_times f n ys)
  where
    by : (b : Bool) → nat_eq (f y) n ≡ b → cond b (Some y) (find (λ y. nat_eq (f y) n) ys) ≡ None
        → (find (λ y. nat_eq (f y) n) ys ≡ None → times f n ys ≡ 0) → hit n (f y) + times f n ys ≡ 0
    by true e is ih = absurd (cc is)
    by false e is ih =
        omega (
          arith,
          ih is,
          hit-other n (f y) (λ s. let t : nat_eq (f y) n ≡ true =
              eq-eqb (f y) n (sym s) in absurd (cc)),
        )

pub All-filter : {A : Type 0} (P Q : A → Type 0) (test : A → Bool) → ((x : A) → test x ≡ true → P x → Q x)
    → (xs : List A) → All P xs → All Q (filter test xs)
All-filter P Q test gives [] all = All-nil Q
All-filter P Q test gives (x ∷ xs) all = by (test x) refl (All-filter P Q test gives xs (All-tail P x xs all))
  where
    by : (b : Bool) → test x ≡ b → All Q (filter test xs) → All Q (cond b (x ∷ filter test xs) (filter test xs))
    by true e ih = All-cons Q x (filter test xs) (gives x e (All-head P x xs all)) ih
    by false e ih = ih

module _ {A : Type 0} where
  pub weight-append : (f : A → ℕ) (xs ys : List A) → weight f (xs ++ ys) ≡ weight f xs + weight f ys
  weight-append f [] ys = omega arith
  weight-append f (x ∷ xs) ys = omega (arith, weight-append f xs ys)

  -- what stays weighs no more, where each that stays doesn't
  pub weight-filter : (f g : A → ℕ) (test : A → Bool) → ((x : A) → test x ≡ true → g x ≤ f x) → (xs : List A)
      → weight g (filter test xs) ≤ weight f xs
  weight-filter f g test le [] = omega arith
  weight-filter f g test le (x ∷ xs) = by (test x) refl (weight-filter f g test le xs)
    where
      by : (b : Bool) → test x ≡ b → weight g (filter test xs) ≤ weight f xs
          → weight g (cond b (x ∷ filter test xs) (filter test xs)) ≤ f x + weight f xs
      by true e ih = omega (arith, ih, le x e)
      by false e ih = omega (arith, ih)

  pub weight-le : (f g : A → ℕ) (xs : List A) → All (λ x. g x ≤ f x) xs → weight g xs ≤ weight f xs
  weight-le f g [] all = omega arith
  weight-le f g (x ∷ xs) all = omega (
    arith,
    weight-le f g xs (All-tail (λ x. g x ≤ f x) x xs all),
    All-head (λ x. g x ≤ f x) x xs all,
  )
