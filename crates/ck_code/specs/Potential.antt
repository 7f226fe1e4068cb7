-- What a slice can do yet: a number that each instruction of a verified code makes smaller. It is made of
-- the code, the turns and the frames alone.
use Rattle.std.specs.Prelude.{ℕ, zero, suc, ◌+◌, ◌-◌, ◌*◌, Bool, true, false, nat_lt, List, [], ◌∷◌, length, Option, Some, None, slice_get}
use Rattle.ck_store.specs.Steps.{pick}
use Rattle.ck_code.specs.declared.instr.Instr.{Instr}
use Rattle.ck_code.specs.declared.instr.Instr.TheVariants.{Jump, JumpZero, Turn, Each}
use Rattle.ck_code.specs.declared.code.Step.{Step}
use Rattle.ck_code.specs.declared.code.CodeParts.{CodeParts}
use Rattle.ck_code.specs.Machine.{Frame, steps_of, longest}

-- a place is after the turn of a place that jumps back, and not past the jump
abbrev pub is_inside : (q p x : ℕ) → Bool
is_inside q p x = pick (nat_lt q x) (nat_lt x (suc p)) false

-- where an instruction jumps
abbrev pub target : Instr → Option ℕ
target (Jump t) = Some t
target (JumpZero t) = Some t
target (Each t) = Some t
target _ = None

-- where the step of a place jumps
abbrev pub jump_of : Option Step → Option ℕ
jump_of None = None
jump_of (Some step) = target step.instr

abbrev pub ends_turn : Instr → Bool
ends_turn Turn = true
ends_turn _ = false

-- a turn stands there
abbrev pub is_turn : Option Step → Bool
is_turn None = false
is_turn (Some step) = ends_turn step.instr

-- a jump from a place doesn't come in after q up to p, or comes from the places q to p
abbrev pub stays_out : (q p from : ℕ) → Option ℕ → Bool
stays_out q p from None = true
stays_out q p from (Some to) =
    pick (is_inside q p to) (pick (nat_lt from q) false (nat_lt from (suc p))) true

-- none of these steps, which stand from a place on, comes in
abbrev pub all_stay_out : (q p from : ℕ) → List Step → Bool
all_stay_out q p from [] = true
all_stay_out q p from (step ∷ steps) =
    pick (stays_out q p from (target step.instr)) (all_stay_out q p (suc from) steps) false

-- place q is a turn that no jump passes by on the way to p
abbrev pub serves : List Step → (p q : ℕ) → Bool
serves steps p q = pick (is_turn (slice_get steps q)) (all_stay_out q p 0 steps) false

-- the first of so many places from q on that serves, and p where none does
abbrev pub sought : List Step → (p left q : ℕ) → ℕ
sought steps p zero q = p
sought steps p (suc left) q = pick (serves steps p q) q (sought steps p left (suc q))

abbrev pub turn_to : List Step → (p : ℕ) → Option ℕ → ℕ
turn_to steps p None = p
turn_to steps p (Some t) = sought steps p (p - t) t

-- the turn between a place that jumps back and where it jumps; the place itself, where it doesn't
abbrev pub turn_of : List Step → (p : ℕ) → ℕ
turn_of steps p = turn_to steps p (jump_of (slice_get steps p))

-- 1 for true and 0 for false
abbrev pub one_if : Bool → ℕ
one_if true = 1
one_if false = 0

-- of the first n places, each with its turn q, those that jump back over x with no turn between
abbrev pub loops : (q : ℕ → ℕ) → (n x : ℕ) → ℕ
loops q zero x = 0
loops q (suc n) x = one_if (is_inside (q n) n x) + loops q n x

-- the rank of a place among so many
abbrev pub rank : (len : ℕ) → (q : ℕ → ℕ) → (x : ℕ) → ℕ
rank len q x = loops q len x * len + (len - x)

-- the rank of a place of these steps
abbrev pub rank_of : List Step → ℕ → ℕ
rank_of steps x = rank (length steps) (turn_of steps) x

-- slices ----------------------------------------------------------------------------------------

module _ (code : CodeParts) where
  -- the steps of a function
  abbrev pub steps : ℕ → List Step
  steps f = steps_of (slice_get code.funs f)

  -- the rank of a place of a function
  abbrev pub rank_at : (f p : ℕ) → ℕ
  rank_at f = rank_of (steps f)

  -- the sum of the ranks of the frames' places
  abbrev pub ranks : List Frame → ℕ
  ranks [] = 0
  ranks (top ∷ rest) = rank_at top.fun top.place + ranks rest

  -- the greatest rank
  abbrev pub greatest : ℕ
  greatest = longest code.funs * suc (longest code.funs)

  -- the potential: what the turns are worth, and the ranks of the frames' places
  unfoldable pub potential : (turns : ℕ) → List Frame → ℕ
  potential turns frames = turns * suc greatest + ranks frames
