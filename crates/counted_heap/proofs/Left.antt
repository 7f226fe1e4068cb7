-- What counting leaves is what is reached.
use Rattle.std.specs.Prelude.{cond, filter, ◌||◌, false}
use Rattle.std.specs.List.{list_any}
use Rattle.std.proofs.Common.{◌≡◌, ◌⊎◌, ◌↔◌, inl, inr, Bool, true, ℕ, zero, suc, ◌<◌, ◌≤◌, List, [], ◌∷◌, length, refl, sym, ap, subst, ◌∙◌, arith}
use Rattle.object_heap.specs.Objects.{Objects}
use Rattle.counted_heap.specs.Counted.{Counted, live}
use Rattle.counted_heap.specs.Stands.{Points, Step, More, StandsFor}
use Rattle.counted_heap.specs.Reach.{IsRooted, Reached, Rooted, Round, Along, In, Distinct, LiveIsNumber}
use Rattle.counted_heap.specs.Left.{stays, left_after, all_left}
use Rattle.counted_heap.proofs.Standing.{lead_on}
use Rattle.counted_heap.proofs.Reach.{reached_from}

-- what passes a test stands in what it leaves, and nothing else does
pub passes : (p : ℕ → Bool) (xs : List ℕ) (y : ℕ) → In y xs → p y ≡ true → In y (filter p xs)
passes p [] y at so = absurd at
passes p (x ∷ xs) y at so = go (p x) refl at (λ later. passes p xs y later so)
  where
    go : (b : Bool) → p x ≡ b → In y (x ∷ xs) → (In y xs → In y (filter p xs))
        → In y (cond b (x ∷ filter p xs) (filter p xs))
    go true e (inl here) rest = inl here
    go true e (inr later) rest = inr (rest later)
    go false e (inl here) rest = let clash : false ≡ true = sym e ∙ ap p (sym here) ∙ so in absurd (cc)
    go false e (inr later) rest = rest later

pub passed : (p : ℕ → Bool) (xs : List ℕ) (y : ℕ) → In y (filter p xs) → In y xs × (p y ≡ true)
passed p [] y at = absurd at
passed p (x ∷ xs) y at = go (p x) refl at (λ later. passed p xs y later)
  where
    go : (b : Bool) → p x ≡ b → In y (cond b (x ∷ filter p xs) (filter p xs))
        → (In y (filter p xs) → In y xs × (p y ≡ true)) → In y (x ∷ xs) × (p y ≡ true)
    go true e (inl here) rest = (inl here, ap p here ∙ e)
    go true e (inr later) rest = let so = rest later in (inr so.0, so.1)
    go false e later rest = let so = rest later in (inr so.0, so.1)

distinct_passed : (p : ℕ → Bool) (xs : List ℕ) → Distinct xs → Distinct (filter p xs)
distinct_passed p [] d = tt
distinct_passed p (x ∷ xs) d = go (p x) (distinct_passed p xs d.1)
  where
    go : (b : Bool) → Distinct (filter p xs) → Distinct (cond b (x ∷ filter p xs) (filter p xs))
    go true rest = (λ at. d.0 (passed p xs x at).0, rest)
    go false rest = rest

-- one goes, or all pass
fewer_or_all : (p : ℕ → Bool) (xs : List ℕ) → (length (filter p xs) < length xs) ⊎ (filter p xs ≡ xs)
fewer_or_all p [] = inr refl
fewer_or_all p (x ∷ xs) = go (p x) (fewer_or_all p xs)
  where
    go : (b : Bool) → (length (filter p xs) < length xs) ⊎ (filter p xs ≡ xs)
        → (length (cond b (x ∷ filter p xs) (filter p xs)) < suc (length xs))
        ⊎ (cond b (x ∷ filter p xs) (filter p xs) ≡ x ∷ xs)
    go true (inl less) = inl (omega (arith, less))
    go true (inr same) = inr (ap (λ (ys : List ℕ). x ∷ ys) same)
    go false (inl less) = inl (omega (arith, less))
    go false (inr same) = inl (omega (arith, ap length same))

either : (a b : Bool) → (a || b) ≡ true → (a ≡ true) ⊎ (b ≡ true)
either true b so = inl refl
either false b so = inr so

or_else : (a b : Bool) → b ≡ true → (a || b) ≡ true
or_else true b so = refl
or_else false b so = so

one_of : (p : ℕ → Bool) (xs : List ℕ) → list_any p xs ≡ true → (x : ℕ) × In x xs × (p x ≡ true)
one_of p [] so = absurd (cc)
one_of p (x ∷ xs) so = elim (either (p x) (list_any p xs) so) [
  | inl here ↦ (x, inl refl, here)
  | inr later ↦ let one = one_of p xs later in (one.0, inr one.1, one.2)
]

any_in : (p : ℕ → Bool) (xs : List ℕ) (y : ℕ) → In y xs → p y ≡ true → list_any p xs ≡ true
any_in p [] y at so = absurd at
any_in p (x ∷ xs) y (inl here) so = ap (λ (b : Bool). b || list_any p xs) (ap p (sym here) ∙ so)
any_in p (x ∷ xs) y (inr later) so = or_else (p x) (list_any p xs) (any_in p xs y later so)

-- what is reached is held from outside, or another one that is reached refers to it
reached_by : (h : Counted) (s : Objects) (m : ℕ) → Reached h s m
    → IsRooted h m ⊎ ((x : ℕ) × Reached h s x × Points s x m)
reached_by h s m (Rooted rooted) = inl rooted
reached_by h s m (Along {x = x} before points) = inr (x, before, points)
reached_by h s m (Round (Step points)) = inr (m, Round (Step points), points)
reached_by h s m (Round (More {y = y} leads points)) =
    inr (y, Round (lead_on s y m y points leads), points)

module _ (h : Counted) (s : Objects) (is_held : ℕ → Bool) (refers : (x y : ℕ) → Bool)
    (held_is : (m : ℕ) → (is_held m ≡ true) ↔ IsRooted h m)
    (refers_is : (x y : ℕ) → (refers x y ≡ true) ↔ Points s x y) where
  -- what is reached stays
  reached_once : (ms : List ℕ) → ((y : ℕ) → Reached h s y → In y ms) → (m : ℕ) → Reached h s m
      → In m (filter (stays is_held refers ms) ms)
  reached_once ms all m reached =
      passes (stays is_held refers ms) ms m (all m reached) (elim (reached_by h s m reached) [
        | inl rooted ↦
            ap (λ (b : Bool). b || list_any (λ x. refers x m) ms) ((held_is m).1 rooted)
        | inr (x, before, points) ↦
            or_else (is_held m) _
            (any_in (λ x. refers x m) ms x (all x before) ((refers_is x m).1 points))
      ])

  reached_stays : (rounds : ℕ) (ms : List ℕ) → ((y : ℕ) → Reached h s y → In y ms) → (m : ℕ)
      → Reached h s m → In m (left_after is_held refers rounds ms)
  reached_stays zero ms all m reached = all m reached
  reached_stays (suc rounds) ms all m reached =
      reached_stays rounds (filter (stays is_held refers ms) ms) (reached_once ms all) m reached

  -- one more round than there are numbers changes nothing
  abbrev IsStill : List ℕ → Type 0
  IsStill ms = filter (stays is_held refers ms) ms ≡ ms

  still : (rounds : ℕ) (ms : List ℕ) → IsStill ms → left_after is_held refers rounds ms ≡ ms
  still zero ms same = refl
  still (suc rounds) ms same = ap (left_after is_held refers rounds) same ∙ still rounds ms same

  still_after : (rounds : ℕ) (ms : List ℕ) → length ms ≤ rounds
      → IsStill (left_after is_held refers rounds ms)
  still_after zero [] few = refl
  still_after zero (x ∷ ms) few = absurd (omega arith)
  still_after (suc rounds) ms few = elim (fewer_or_all (stays is_held refers ms) ms) [
    | inl less ↦ still_after rounds (filter (stays is_held refers ms) ms) (omega (arith, less))
    | inr same ↦ subst IsStill (sym (still (suc rounds) ms same)) same
  ]

  distinct_after : (rounds : ℕ) (ms : List ℕ) → Distinct ms
      → Distinct (left_after is_held refers rounds ms)
  distinct_after zero ms d = d
  distinct_after (suc rounds) ms d =
      distinct_after rounds (filter (stays is_held refers ms) ms) (distinct_passed _ ms d)

  -- what stays is reached
  stays_by : (ms : List ℕ) → IsStill ms → (m : ℕ) → In m ms
      → IsRooted h m ⊎ ((x : ℕ) × In x ms × Points s x m)
  stays_by ms same m at =
      let now = passed (stays is_held refers ms) ms m (subst (λ (xs : List ℕ). In m xs) (sym same) at) in
      elim (either (is_held m) _ now.1) [
        | inl rooted ↦ inl ((held_is m).0 rooted)
        | inr any ↦
            let one = one_of (λ x. refers x m) ms any in
            inr (one.0, one.1, (refers_is one.0 m).0 one.2)
      ]

  pub left_are_live : (ms : List ℕ) → LiveIsNumber h → StandsFor h s → Distinct ms
      → ((y : ℕ) → Reached h s y → In y ms) → live h ≡ length (all_left is_held refers ms)
  left_are_live ms number stands once all =
      let left = all_left is_held refers ms in
      let same = still_after (length ms) ms (omega arith) in
      number s stands left (distinct_after (length ms) ms once) (λ m. (
        λ at. reached_from h s (λ y. In y left) (stays_by left same) m at left (λ y there. there),
        reached_stays (length ms) ms all m,
      ))
