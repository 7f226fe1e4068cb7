-- Between two turns the places of a function fall in rank.
use Rattle.std.proofs.Common.{◌≡◌, ℕ, zero, suc, ◌+◌, ◌-◌, ◌*◌, ◌<◌, ◌≤◌, Bool, true, false, List, [], ◌∷◌, length, Option, Some, None, refl, sym, ap, ◌∙◌, subst, arith, true≢false, ◌⊎◌, inl, inr, slice_get, nat_lt}
use Rattle.std.proofs.lemmas.Bool.{lt-ltb, le-ltb, ltb-true, ltb-false}
use Rattle.std.proofs.Math.Nat.{mul-le-mul_right}
use Rattle.ck_store.specs.Steps.{pick}
use Rattle.ck_typed.specs.WellFormed.{FoundWhere}
use Rattle.ck_code.specs.declared.instr.Instr.{Instr}
use Rattle.ck_code.specs.declared.instr.Instr.TheVariants.{Jump, JumpZero, Turn, Each}
use Rattle.ck_code.specs.declared.code.Step.{Step}
use Rattle.ck_code.specs.Potential.{is_inside, target, jump_of, ends_turn, is_turn, stays_out, all_stay_out, serves, sought, turn_to, turn_of, one_if, loops, rank, rank_of}
use Rattle.ck_code.specs.Verified.{JumpsTo, HasJump, HasTurnBetween}
use Rattle.ck_code.proofs.Standing.{where_found, same_found}

-- one number is below another, or not
pub lt_or_le : (a b : ℕ) → (a < b) ⊎ (b ≤ a)
lt_or_le a b = go (nat_lt a b) refl
  where
    go : (t : Bool) → nat_lt a b ≡ t → (a < b) ⊎ (b ≤ a)
    go true e = inl (ltb-true a b e)
    go false e = inr (ltb-false a b e)

-- of a test and of one that follows from it, the second counts no less
one_le : (a b : Bool) → (a ≡ true → b ≡ true) → one_if a ≤ one_if b
one_le true true h = omega arith
one_le true false h = absurd (true≢false (sym (h refl)))
one_le false b h = omega arith

-- what the test means
inside_to : (q p x : ℕ) → is_inside q p x ≡ true → (q < x) × (x ≤ p)
inside_to q p x h = go (nat_lt q x) refl h
  where
    go : (t : Bool) → nat_lt q x ≡ t → pick t (nat_lt x (suc p)) false ≡ true → (q < x) × (x ≤ p)
    go true e h = (ltb-true q x e, omega (arith, ltb-true x (suc p) h))
    go false e h = absurd (true≢false (sym h))

-- such a place is inside
inside_from : (q p x : ℕ) → q < x → x ≤ p → is_inside q p x ≡ true
inside_from q p x lt le =
    ap (λ t. pick t (nat_lt x (suc p)) false) (lt-ltb q x lt) ∙ lt-ltb x (suc p) (omega arith)

-- a place up to the turn isn't inside
outside : (q p x : ℕ) → x ≤ q → is_inside q p x ≡ false
outside q p x le = ap (λ t. pick t (nat_lt x (suc p)) false) (le-ltb q x le)

module _ (len : ℕ) (q : ℕ → ℕ) where
  -- wherever one place is inside the other is
  abbrev Within : (x y : ℕ) → Type 0
  Within x y = (p : ℕ) → is_inside (q p) p y ≡ true → is_inside (q p) p x ≡ true

  -- no fewer jump back over it
  loops_le : (n x y : ℕ) → Within x y → loops q n y ≤ loops q n x
  loops_le zero x y h = omega arith
  loops_le (suc n) x y h =
      omega (arith, one_le (is_inside (q n) n y) (is_inside (q n) n x) (h n), loops_le n x y h)

  -- more jump back over it, where one of them is inside and the other isn't
  loops_lt : (n x y p : ℕ) → p < n → is_inside (q p) p x ≡ true → is_inside (q p) p y ≡ false
      → Within x y → suc (loops q n y) ≤ loops q n x
  loops_lt zero x y p lt at_x at_y h = absurd (omega arith)
  loops_lt (suc n) x y p lt at_x at_y h =
      go (λ lt2. loops_lt n x y p lt2 at_x at_y h) (lt_or_le p n)
    where
      go : (p < n → suc (loops q n y) ≤ loops q n x) → (p < n) ⊎ (n ≤ p)
          → suc (loops q (suc n) y) ≤ loops q (suc n) x
      go less (inl below) =
          omega (arith, one_le (is_inside (q n) n y) (is_inside (q n) n x) (h n), less below)
      go less (inr le) =
          let e : p ≡ n = omega arith in
          let ex : one_if (is_inside (q n) n x) ≡ 1 =
          ap one_if (subst (λ m. is_inside (q m) m x ≡ true) e at_x) in
          let ey : one_if (is_inside (q n) n y) ≡ 0 =
          ap one_if (subst (λ m. is_inside (q m) m y ≡ false) e at_y) in
          omega (arith, ex, ey, loops_le n x y h)

  -- no more than there are
  loops_few : (n x : ℕ) → loops q n x ≤ n
  loops_few zero x = omega arith
  loops_few (suc n) x = omega (arith, one_le (is_inside (q n) n x) true (λ e. refl), loops_few n x)

  -- the greatest rank
  pub rank_few : (x : ℕ) → rank len q x ≤ len * len + len
  rank_few x = let m = mul-le-mul_right len (loops_few len x) in omega (arith, m)

  -- a place of the function has a rank
  pub rank_some : (x : ℕ) → x < len → 1 ≤ rank len q x
  rank_some x lt = omega arith

  -- a step forward
  rank_on : (x y : ℕ) → x < y → x < len → Within x y → rank len q y < rank len q x
  rank_on x y lt within h = let m = mul-le-mul_right len (loops_le len x y h) in omega (arith, m)

  -- a step back
  rank_back : (x y : ℕ) → x < len → is_inside (q x) x x ≡ true → is_inside (q x) x y ≡ false
      → Within x y → rank len q y < rank len q x
  rank_back x y within at_x at_y h = let m =
      mul-le-mul_right len (loops_lt len x y x within at_x at_y h) in omega (arith, m)

-- what the search finds ----------------------------------------------------------------------------

-- it jumps there
target_is : (i : Instr) (t : ℕ) → JumpsTo i t → target i ≡ Some t
target_is (Jump u) t h = ap Some h
target_is (JumpZero u) t h = ap Some h
target_is (Each u) t h = ap Some h
target_is _ t h = absurd h

-- it jumps there, the other way around
jumps_to : (i : Instr) (t : ℕ) → target i ≡ Some t → JumpsTo i t
jumps_to (Jump u) t e = cc
jumps_to (JumpZero u) t e = cc
jumps_to (Each u) t e = cc
jumps_to _ t e = cc

both_true : (a b : Bool) → pick a b false ≡ true → (a ≡ true) × (b ≡ true)
both_true true b e = (refl, e)
both_true false b e = absurd (true≢false (sym e))

turn_is : (o : Option Step) → is_turn o ≡ true → FoundWhere o (λ step. step.instr ≡ Turn)
turn_is None e = absurd (true≢false (sym e))
turn_is (Some step) e = is step.instr e
  where
    is : (i : Instr) → ends_turn i ≡ true → i ≡ Turn
    is Turn e = refl
    is _ e = absurd (true≢false (sym e))

turn_so : (o : Option Step) → FoundWhere o (λ step. step.instr ≡ Turn) → is_turn o ≡ true
turn_so None h = absurd h
turn_so (Some step) h = ap ends_turn h

-- each jump that comes in after q up to p comes from the places q to p
abbrev Stays : (q p from : ℕ) → (to : ℕ) → Type 0
Stays q p from to = q < to → to ≤ p → (q ≤ from) × (from ≤ p)

stays_is : (q p from : ℕ) (o : Option ℕ) (to : ℕ) → stays_out q p from o ≡ true → o ≡ Some to
    → Stays q p from to
stays_is q p from None to e is lt le = absurd cc
stays_is q p from (Some u) to e is lt le =
    let same : u ≡ to = cc in
    let inside : is_inside q p u ≡ true =
    subst (λ v. is_inside q p v ≡ true) (sym same) (inside_from q p to lt le) in
    comes (nat_lt from q) refl
    (ap (λ b. pick b (pick (nat_lt from q) false (nat_lt from (suc p))) true) (sym inside) ∙ e)
  where
    comes : (b : Bool) → nat_lt from q ≡ b
        → pick (nat_lt from q) false (nat_lt from (suc p)) ≡ true → (q ≤ from) × (from ≤ p)
    comes true at e =
        absurd (true≢false (sym (ap (λ b. pick b false (nat_lt from (suc p))) (sym at) ∙ e)))
    comes false at e = (
      ltb-false from q at,
      omega (
        arith,
        ltb-true from (suc p) (ap (λ b. pick b false (nat_lt from (suc p))) (sym at) ∙ e),
      ),
    )

stays_so : (q p from : ℕ) (o : Option ℕ) → ((to : ℕ) → o ≡ Some to → Stays q p from to)
    → stays_out q p from o ≡ true
stays_so q p from None h = refl
stays_so q p from (Some to) h = go (is_inside q p to) refl
  where
    go : (b : Bool) → is_inside q p to ≡ b
        → pick (is_inside q p to) (pick (nat_lt from q) false (nat_lt from (suc p))) true ≡ true
    go false at = ap (λ b. pick b (pick (nat_lt from q) false (nat_lt from (suc p))) true) at
    go true at =
        let in_to = inside_to q p to at in
        let from_is = h to refl in_to.0 in_to.1 in
        ap (λ b. pick b (pick (nat_lt from q) false (nat_lt from (suc p))) true) at
        ∙ ap (λ b. pick b false (nat_lt from (suc p))) (le-ltb from q from_is.0)
        ∙ lt-ltb from (suc p) (omega (arith, from_is.1))

-- the same of the steps that stand from a place on
all_stay_is : (q p k : ℕ) (steps : List Step) (i to : ℕ) → all_stay_out q p k steps ≡ true
    → HasJump steps i to → Stays q p (k + i) to
all_stay_is q p k [] i to e jump = absurd jump
all_stay_is q p k (step ∷ steps) zero to e jump =
    subst (λ from. Stays q p from to) (omega arith)
    (stays_is q p k (target step.instr) to (both_true _ _ e).0 (target_is step.instr to jump))
all_stay_is q p k (step ∷ steps) (suc i) to e jump =
    subst (λ from. Stays q p from to) (omega arith)
    (all_stay_is q p (suc k) steps i to (both_true (stays_out q p k (target step.instr)) _ e).1 jump)

all_stay_so : (q p k : ℕ) (steps : List Step)
    → ((i to : ℕ) → HasJump steps i to → Stays q p (k + i) to) → all_stay_out q p k steps ≡ true
all_stay_so q p k [] h = refl
all_stay_so q p k (step ∷ steps) h =
    ap (λ b. pick b (all_stay_out q p (suc k) steps) false)
    (stays_so q p k (target step.instr) (λ to is.
    subst (λ from. Stays q p from to) (omega arith) (h zero to (jumps_to step.instr to is))))
    ∙ all_stay_so q p (suc k) steps (λ i to jump.
    subst (λ from. Stays q p from to) (omega arith) (h (suc i) to jump))

-- a turn between a place that jumps back and where it jumps; the place itself, where it doesn't
pub record Between (steps : List Step) (p q : ℕ) : Type 0 where
  pub turn : q < p → FoundWhere (slice_get steps q) (λ step. step.instr ≡ Turn)
  pub back : (t : ℕ) → HasJump steps p t → t ≤ p → (t ≤ q) × (q < p)
  pub only : (from to : ℕ) → HasJump steps from to → Stays q p from to

module _ (steps : List Step) (p : ℕ) where
  serves_so : (q : ℕ) → FoundWhere (slice_get steps q) (λ step. step.instr ≡ Turn)
      → ((from to : ℕ) → HasJump steps from to → Stays q p from to) → serves steps p q ≡ true
  serves_so q turn only =
      ap (λ b. pick b (all_stay_out q p 0 steps) false) (turn_so (slice_get steps q) turn)
      ∙ all_stay_so q p 0 steps (λ i to jump.
      subst (λ from. Stays q p from to) (omega arith) (only i to jump))

  -- the search finds a place that serves, where there is one
  record Found (left first q : ℕ) : Type 0 where
    from : first ≤ q
    below : q < first + left
    good : serves steps p q ≡ true

  -- one that isn't the first is past it
  past_first : (first q : ℕ) → serves steps p first ≡ false → serves steps p q ≡ true → first ≤ q
      → suc first ≤ q
  past_first first q at good le = go (lt_or_le first q)
    where
      go : (first < q) ⊎ (q ≤ first) → suc first ≤ q
      go (inl lt) = lt
      go (inr ge) =
          let e : q ≡ first = omega (arith, le, ge) in
          absurd (true≢false (sym good ∙ ap (serves steps p) e ∙ at))

  found_later : (left first q : ℕ) → serves steps p first ≡ false → Found (suc left) first q
      → Found left (suc first) q
  found_later left first q at h = record {
    from = past_first first q at h.good h.from;
    below = omega (arith, h.below);
    good = h.good;
  }

  sought_then : (left first q : ℕ) (b : Bool) → serves steps p first ≡ b → Found (suc left) first q
      → (Found left (suc first) q → Found left (suc first) (sought steps p left (suc first)))
      → Found (suc left) first (pick b first (sought steps p left (suc first)))
  sought_then left first q true at h rest = record { from = omega arith; below = omega arith; good = at }
  sought_then left first q false at h rest =
      let later = rest (found_later left first q at h) in
      record { from = omega (arith, later.from); below = omega (arith, later.below); good = later.good }

  sought_is : (left first q : ℕ) → Found left first q → Found left first (sought steps p left first)
  sought_is zero first q h = absurd (omega (arith, h.from, h.below))
  sought_is (suc left) first q h =
      sought_then left first q (serves steps p first) refl h
      (λ later. sought_is left (suc first) q later)

  found_between : (t : ℕ) (q : ℕ) → t ≤ p → Found (p - t) t q
      → ((u : ℕ) → HasJump steps p u → u ≡ t) → Between steps p q
  found_between t q le h same =
      let both = both_true (is_turn (slice_get steps q)) (all_stay_out q p 0 steps) h.good in
      record {
        turn = λ lt. turn_is (slice_get steps q) both.0;
        back = λ u jump le2. (omega (arith, same u jump, h.from), omega (arith, h.below, le));
        only = λ from to jump.
            subst (λ x. Stays q p x to) (omega arith) (all_stay_is q p 0 steps from to both.1 jump);
      }

  -- a place that doesn't jump back
  no_jump : ((t : ℕ) → HasJump steps p t → t ≤ p → ⊥) → Between steps p p
  no_jump none = record {
    turn = λ lt. absurd (omega arith);
    back = λ t jump le. absurd (none t jump le);
    only = λ from to jump lt le. absurd (omega (arith, lt, le));
  }

  -- where a place jumps
  jump_is : (o : Option Step) (t : ℕ) → FoundWhere o (λ step. JumpsTo step.instr t) → jump_of o ≡ Some t
  jump_is None t h = absurd h
  jump_is (Some step) t h = target_is step.instr t h

  jump_so : (o : Option Step) (t : ℕ) → jump_of o ≡ Some t → FoundWhere o (λ step. JumpsTo step.instr t)
  jump_so None t e = absurd cc
  jump_so (Some step) t e = jumps_to step.instr t e

module _ (steps : List Step) (turns : (p t : ℕ) → HasJump steps p t → t ≤ p
    → HasTurnBetween steps t p) where
  turned : (p t : ℕ) → HasJump steps p t → ((u : ℕ) → HasJump steps p u → u ≡ t)
      → (p < t) ⊎ (t ≤ p) → Between steps p (sought steps p (p - t) t)
  turned p t jump same (inl lt) =
      let none : p - t ≡ 0 = omega arith in
      subst (λ left. Between steps p (sought steps p left t)) (sym none)
      (no_jump steps p (λ u jump_u le. absurd (omega (arith, same u jump_u, lt, le))))
  turned p t jump same (inr le) =
      let h = turns p t jump le in
      found_between steps p t (sought steps p (p - t) t) le
      (sought_is steps p (p - t) t h.q (record {
        from = h.after;
        below = omega (arith, h.before, le);
        good = serves_so steps p h.q h.turn h.only;
      })) same

  between_to : (p : ℕ) (o : Option ℕ) → jump_of (slice_get steps p) ≡ o
      → Between steps p (turn_to steps p o)
  between_to p None at =
      no_jump steps p (λ t jump le.
      let is = jump_is steps p (slice_get steps p) t jump in absurd (unlike (sym at ∙ is)))
    where
      unlike : {t : ℕ} → None ≡ Some t → ⊥
      unlike e = cc
  between_to p (Some t) at =
      turned p t (jump_so steps p (slice_get steps p) t at)
      (λ u jump. let is = jump_is steps p (slice_get steps p) u jump in
      same_target (sym is ∙ at)) (lt_or_le p t)
    where
      same_target : {u : ℕ} → Some u ≡ Some t → u ≡ t
      same_target e = cc

  pub between : (p : ℕ) → Between steps p (turn_of steps p)
  between p = between_to p (jump_of (slice_get steps p)) refl

module _ (steps : List Step) (between_at : (p : ℕ) → Between steps p (turn_of steps p)) where
  -- a place from the turn on that isn't a turn is after the turn
  after_turn : (p x : ℕ) (step : Step) → slice_get steps x ≡ Some step → (step.instr ≡ Turn → ⊥)
      → turn_of steps p ≤ x → turn_of steps p < p → turn_of steps p < x
  after_turn p x step at other le lt = go (lt_or_le (turn_of steps p) x)
    where
      go : (turn_of steps p < x) ⊎ (x ≤ turn_of steps p) → turn_of steps p < x
      go (inl lt) = lt
      go (inr ge) =
          let e : turn_of steps p ≡ x = omega arith in
          let turn = (between_at p).turn (omega arith) in
          absurd (other (same_found (slice_get steps x) (λ step. step.instr
          ≡ Turn) step at (subst (λ y. FoundWhere (slice_get steps y) (λ step. step.instr
          ≡ Turn)) e turn)))

  -- an instruction that is no turn leads to a lower rank at the next place
  pub rank_next : (x : ℕ) (step : Step) → slice_get steps x ≡ Some step → x < length steps
      → (step.instr ≡ Turn → ⊥) → rank_of steps (x + 1) < rank_of steps x
  rank_next x step at within other =
      rank_on (length steps) (turn_of steps) x (x + 1) (omega arith) within (λ p inside.
      let in_y = inside_to (turn_of steps p) p (x + 1) inside in
      inside_from (turn_of steps p) p x (after_turn p x step at other (omega (arith, in_y.0))
      (omega (arith, in_y.1))) (omega (arith, in_y.1)))

  -- a jump leads to a lower rank, forward and back
  pub rank_jump : (x t : ℕ) (step : Step) → slice_get steps x ≡ Some step → x < length steps
      → JumpsTo step.instr t → (step.instr ≡ Turn → ⊥) → rank_of steps t < rank_of steps x
  rank_jump x t step at within jumps other = go (lt_or_le x t)
    where
      jump : HasJump steps x t
      jump = where_found (slice_get steps x) (λ step. JumpsTo step.instr t) step at jumps

      same_inside : (p : ℕ) → is_inside (turn_of steps p) p t ≡ true
          → is_inside (turn_of steps p) p x ≡ true
      same_inside p inside =
          let in_t = inside_to (turn_of steps p) p t inside in
          let only = (between_at p).only x t jump in_t.0 in_t.1 in
          inside_from (turn_of steps p) p x (after_turn p x step at other only.0 (omega (
            arith,
            in_t.0,
            in_t.1,
          ))) only.1

      go : (x < t) ⊎ (t ≤ x) → rank_of steps t < rank_of steps x
      go (inl lt) = rank_on (length steps) (turn_of steps) x t lt within same_inside
      go (inr le) =
          let back = (between_at x).back t jump le in
          rank_back (length steps) (turn_of steps) x t within
          (inside_from (turn_of steps x) x x back.1 (omega arith))
          (outside (turn_of steps x) x t back.0) same_inside
