-- A walk over a list, from its front to its end.
use Rattle.std.proofs.Common.{◌≡◌, ℕ, zero, suc, ◌+◌, ◌<◌, ◌≤◌, List, [], ◌∷◌, length, drop, get_or, refl, sym, ap, ◌∙◌, arith, add-one}
use Rattle.type_table.specs.Answer.{Answer, Fault, gives, refused, and_then}

cut : {X : Type 0} (xs : List X) (i : ℕ) (x : X) → i < length xs → x ≡ get_or xs i x → drop i xs ≡ x ∷ drop (i + 1) xs
cut [] i x lt is = absurd (omega (arith, lt))
cut (y ∷ xs) zero x lt is = ap (λ z. z ∷ xs) (sym is)
cut (y ∷ xs) (suc i) x lt is = rw add-one (cut xs i x (omega (arith, lt)) is ∙ rw add-one refl)

past : {X : Type 0} (xs : List X) (i : ℕ) → length xs ≤ i → drop i xs ≡ []
past [] zero le = refl
past [] (suc i) le = refl
past (x ∷ xs) zero le = absurd (omega (arith, le))
past (x ∷ xs) (suc i) le = past xs i (omega (arith, le))

abbrev pub run : {T X : Type 0} → (T → X → T) → T → List X → T
run g t [] = t
run g t (x ∷ xs) = run g (g t x) xs

-- so far, from begin to now
pub record Ran {T X : Type 0} (g : T → X → T) (begin : T) (xs : List X) (i : ℕ) (now : T) : Type 0 where
  pub is : run g begin xs ≡ run g now (drop i xs)

pub ran_none : {T X : Type 0} (g : T → X → T) (t : T) (xs : List X) → Ran g t xs 0 t
ran_none g t xs = record { is = refl }

module _ {T X : Type 0} (g : T → X → T) (begin : T) (xs : List X) (i : ℕ) (now : T) where
  pub ran_more : (x : X) (next : T) → i < length xs → x ≡ get_or xs i x → g now x ≡ next → Ran g begin xs i now → Ran g begin xs (i + 1) next
  ran_more x next lt is step so = record { is = so.is ∙ ap (run g now) (cut xs i x lt is) ∙ ap (λ t. run g t (drop (i + 1) xs)) step }

  pub ran_all : length xs ≤ i → Ran g begin xs i now → run g begin xs ≡ now
  ran_all le so = so.is ∙ ap (run g now) (past xs i le)

  -- from where nothing changes any more
  pub ran_stop : (x : X) (stopped : T) → i < length xs → x ≡ get_or xs i x → g now x ≡ stopped → ((y : X) → g stopped y ≡ stopped) → Ran g begin xs i now → run g begin xs ≡ stopped
  ran_stop x stopped lt is step stays so = so.is ∙ ap (run g now) (cut xs i x lt is) ∙ ap (λ t. run g t (drop (i + 1) xs)) step ∙ still (drop (i + 1) xs)
    where
      still : (ys : List X) → run g stopped ys ≡ stopped
      still [] = refl
      still (y ∷ ys) = ap (λ t. run g t ys) (stays y) ∙ still ys

-- a step on what is found
abbrev pub on : {A X : Type 0} → (A → X → Answer A) → Answer A → X → Answer A
on step a x = and_then a (λ u. step u x)

pub ran_fault : {A X : Type 0} (step : A → X → Answer A) (begin : Answer A) (xs : List X) (i : ℕ) (now : A) (x : X) (why : Fault) → i < length xs → x ≡ get_or xs i x → step now x ≡ refused why
    → Ran (on step) begin xs i (gives now) → run (on step) begin xs ≡ refused why
ran_fault step begin xs i now x why lt is stops so = ran_stop (on step) begin xs i (gives now) x (refused why) lt is stops (λ y. refl) so
