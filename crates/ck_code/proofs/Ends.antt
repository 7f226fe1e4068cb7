-- Each instruction of a verified code lowers a potential, and so each slice ends.
use Rattle.std.proofs.Common.{◌≡◌, inl, inr, nat_eq, nat_lt, ℕ, zero, suc, ◌+◌, ◌*◌, ◌<◌, ◌≤◌, Bool, true, false, List, [], ◌∷◌, length, Option, Some, None, refl, sym, ap, ◌∙◌, subst, arith, slice_get}
use Rattle.std.proofs.lemmas.Option.{slice_get_within}
use Rattle.std.proofs.Math.Nat.{mul-le-mul, mul-le-mul_right}
use Rattle.ck_base.specs.declared.limits.TheConstants.{MAX_CALLS, MAX_SPORKS, FRESH_TURNS}
use Rattle.ck_values.specs.declared.trap.Trap.TheVariants.{SporkLimit}
use Rattle.ck_values.specs.declared.trap.Place.{Place}
use Rattle.ck_values.specs.Datum.{Datum}
use Rattle.ck_store.specs.Store.{State, Try, Gives, Fails, Misfit, Shapes, shapes_of}
use Rattle.ck_store.specs.Steps.{pick, int_units, float_units, is_zero, local_of, with_local, static_of, with_static, wait_dur, wait_time, spent_from, turn_spent, room_for_call}
use Rattle.ck_store.specs.Operators.{unary, binary}
use Rattle.ck_store.specs.Shreds.{Child, wait_event, sporked}
use Rattle.ck_store.specs.Natives.{Given as Result, operand_count, native}
use Rattle.ck_store.specs.Objects.{field_of, with_field, object_made, method_of}
use Rattle.ck_store.specs.Arrays.{item_of, with_item, appended, row_made, array_made, grid_made, has_item, filled}
use Rattle.ck_store.specs.Graph.{unit_made, connected, disconnected, parameter_of, parameter_set}
use Rattle.ck_code.specs.declared.instr.Instr.{Instr}
use Rattle.ck_code.specs.declared.instr.Instr.TheVariants.{Int, Float, Dur, Time, Text, Null, NoShred, Now, Me, Dac, Hole, Local, Static, SetLocal, SetStatic, OpLocal, OpStatic, Field, SetField, OpField, Item, SetItem, OpItem, Dup, Drop, Swap, Op1, Op2, UnitInt, UnitFix, Jump, JumpZero, Turn, Call, Virtual, Native, Return, New, Ugen, Row, Grid, Lit, LitGrid, Each, Fill, Append, Spork, SporkVirtual, WaitDur, WaitTime, WaitEvent, Print, Connect, Disconnect, Param, SetParam}
use Rattle.ck_code.specs.declared.code.Step.{Step}
use Rattle.ck_code.specs.declared.code.Fun.{Fun}
use Rattle.ck_code.specs.declared.code.CodeParts.{CodeParts}
use Rattle.ck_code.specs.Machine.{Frame, frame, Effect, Next, Stops, Over, Breaks, Bad, tried, on_top, taken, text_at, with_fun, entered, returned, sporks_child, effect, steps_of, step_at, with_step, next_effect, Halt, Unfinished, go_on, exec, longest, enough}
use Rattle.ck_code.specs.Verified.{JumpsTo, HasJump, HasTurnBetween, IsVerified}
use Rattle.ck_code.specs.Fitting.{AreFit}
use Rattle.ck_code.specs.Potential.{turn_of, steps, rank_at, ranks, greatest, potential}
use Rattle.ck_code.proofs.Tables.{get_within}
use Rattle.ck_code.proofs.Natives.{Given, KeepsRest, native_keeps}
use Rattle.ck_code.proofs.Rank.{Between, between, rank_few, rank_some, rank_next, rank_jump}

-- each function is as long as the longest at most
longest_is : (funs : List Fun) (f : ℕ) → length (steps_of (slice_get funs f)) ≤ longest funs
longest_is [] f = omega arith
longest_is (fn ∷ funs) zero = omega arith
longest_is (fn ∷ funs) (suc f) = omega (arith, longest_is funs f)

-- of which nothing is said
given_any : {A : Type 0} (t : Try A) → Given (λ a. Unit {0}) t
given_any (Gives a) = tt
given_any (Fails trap) = tt
given_any Misfit = tt

-- a turn fewer
spent_given : (turns : ℕ) (s : State) → Given (λ s1. suc s1.turns ≡ turns) (spent_from turns s)
spent_given zero s = tt
spent_given (suc turns) s = refl

-- a child leaves the turns
pub sporked_given : (g : ℕ) (arguments : List Datum) (s : State)
    → Given (λ child. child.state.turns ≡ s.turns) (sporked g arguments s)
unfolding sporked
sporked_given g arguments s = child_where (nat_lt s.store.sporks MAX_SPORKS) _ refl
  where
    child_where : (b : Bool) (child : Child) → child.state.turns ≡ s.turns
        → Given (λ child. child.state.turns ≡ s.turns) (pick b (Gives child) (Fails SporkLimit))
    child_where true child same = same
    child_where false child same = tt

-- and so does a built-in call
pub kept_turns : (s : State) (given : Result) → KeepsRest s given → given.state.turns ≡ s.turns
kept_turns s given kept = elim kept [
  | inl same ↦ ap (λ s1. s1.turns) same
  | inr acted ↦ ap (λ s1. s1.turns) acted.2
]

-- the same turns and a lower rank
on_less : (t R a b rest : ℕ) → a < b → t * suc R + (a + rest) < t * suc R + (b + rest)
on_less t R a b rest lt = omega (arith, lt)

-- a turn fewer, and any rank
turn_less : (t t1 R a b rest : ℕ) → suc t1 ≡ t → a ≤ R
    → t1 * suc R + (a + rest) < t * suc R + (b + rest)
turn_less t t1 R a b rest e le =
    subst (λ t. t1 * suc R + (a + rest) < t * suc R + (b + rest)) e (omega arith)

-- a turn fewer, a frame more, and a lower rank beneath it
call_less : (t t1 R a b c rest : ℕ) → suc t1 ≡ t → a ≤ R → b < c
    → t1 * suc R + (a + (b + rest)) < t * suc R + (c + rest)
call_less t t1 R a b c rest e le lt =
    subst (λ t. t1 * suc R + (a + (b + rest)) < t * suc R + (c + rest)) e (omega arith)

-- a frame fewer
return_less : (t R c rest : ℕ) → 1 ≤ c → t * suc R + rest < t * suc R + (c + rest)
return_less t R c rest le = omega arith

-- a frame more
frame_more : (R a sum n : ℕ) → a ≤ R → sum ≤ n * R → a + sum ≤ suc n * R
frame_more R a sum n le few = omega arith

-- at the start of a slice
start_less : (t R frames sum : ℕ) → t < FRESH_TURNS → frames ≤ suc MAX_CALLS → sum ≤ frames * R
    → t * suc R + sum < 1_001_002 * suc R
start_less t R frames sum lt few le =
    let turns : t * suc R ≤ 999_999 * suc R = mul-le-mul_right (suc R) (omega (arith, lt)) in
    let calls : frames * R ≤ 1_001 * R = mul-le-mul_right R (omega (arith, few)) in
    omega arith

module _ (code : CodeParts) where
  -- no rank is greater
  rank_at_few : (f p : ℕ) → rank_at code f p ≤ greatest code
  rank_at_few f p =
      let len = length (steps code f) in
      let long = longest_is code.funs f in
      let few = rank_few len (turn_of (steps code f)) p in
      let more : len * suc len ≤ longest code.funs * suc (longest code.funs) =
      mul-le-mul long (omega (arith, long)) in
      omega (arith, few, more)

  -- the potential as it is made
  abbrev left : (turns : ℕ) → List Frame → ℕ
  left turns frames = turns * suc (greatest code) + ranks code frames

-- of a verified code ------------------------------------------------------------------------------

module _ (code : CodeParts) (verified : IsVerified code) where
  -- each jump back has a turn between
  pub turns_of : (f : ℕ) (o : Option Fun) → slice_get code.funs f ≡ o → (p t : ℕ)
      → HasJump (steps_of o) p t → t ≤ p → HasTurnBetween (steps_of o) t p
  turns_of f None at p t jump le = absurd jump
  turns_of f (Some fn) at p t jump le =
      let within : f < length verified.typing.operands =
      omega (arith, slice_get_within code.funs f fn at, verified.same_places) in
      let places = get_within verified.typing.operands f within in
      (verified.funs f fn places.0 at places.1).turns p t jump le

  -- so the search for the turn of a place that jumps back finds one
  turn_at : (f p : ℕ) → Between (steps code f) p (turn_of (steps code f) p)
  turn_at f = between (steps code f) (turns_of f (slice_get code.funs f) refl)

  -- what it leads to has a potential below n
  abbrev pub Lowers : ℕ → Effect → Type 0
  Lowers n (Next frames s) = left code s.turns frames < n
  Lowers n _ = Unit {0}

  -- after a step that gives what is said
  lower_try : {A : Type 0} (n : ℕ) (P : A → Type 0) (t : Try A) (place : Place) (s : State)
      (go : A → Effect) → Given P t → ((a : A) → P a → Lowers n (go a))
      → Lowers n (tried t place s go)
  lower_try n P (Gives a) place s go given next = next a given
  lower_try n P (Fails trap) place s go given next = tt
  lower_try n P Misfit place s go given next = tt

  -- after any step
  lower_any : {A : Type 0} (n : ℕ) (t : Try A) (place : Place) (s : State) (go : A → Effect)
      → ((a : A) → Lowers n (go a)) → Lowers n (tried t place s go)
  lower_any {A} n t place s go next =
      lower_try n (λ (a : A). Unit {0}) t place s go (given_any t) (λ a given. next a)

  -- after the top operand is taken
  lower_top : (n : ℕ) (ops : List Datum) (go : Datum → List Datum → Effect)
      → ((v : Datum) (under : List Datum) → Lowers n (go v under)) → Lowers n (on_top ops go)
  lower_top n [] go next = tt
  lower_top n (v ∷ under) go next = next v under

  -- where the function is found
  lower_fun : (n : ℕ) (o : Option Fun) (go : Fun → Effect) → ((fn : Fun) → Lowers n (go fn))
      → Lowers n (with_fun o go)
  lower_fun n None go next = tt
  lower_fun n (Some fn) go next = next fn

  -- one of two
  pick_effect : (n : ℕ) (b : Bool) (e1 e2 : Effect) → Lowers n e1 → Lowers n e2
      → Lowers n (pick b e1 e2)
  pick_effect n true e1 e2 h g = h
  pick_effect n false e1 e2 h g = g

  module _ (shred f p : ℕ) (rest : List Frame) (step : Step)
      (at : slice_get (steps code f) p ≡ Some step) where
    -- the place is within its function
    within : p < length (steps code f)
    within = slice_get_within (steps code f) p step at

    -- the next place has a lower rank
    next_lower : (step.instr ≡ Turn → ⊥) → (turns : ℕ)
        → turns * suc (greatest code) + (rank_at code f (p + 1) + ranks code rest) < turns * suc (greatest code) +
        (rank_at code f p + ranks code rest)
    next_lower other turns =
        on_less turns (greatest code) (rank_at code f (p + 1)) (rank_at code f p) (ranks code rest)
        (rank_next (steps code f) (turn_at f) p step at within other)

    -- and so has the place of a jump
    jump_lower : (t : ℕ) → JumpsTo step.instr t → (step.instr ≡ Turn → ⊥) → (turns : ℕ)
        → turns * suc (greatest code) + (rank_at code f t + ranks code rest) < turns * suc (greatest code) +
        (rank_at code f p + ranks code rest)
    jump_lower t jumps other turns =
        on_less turns (greatest code) (rank_at code f t) (rank_at code f p) (ranks code rest)
        (rank_jump (steps code f) (turn_at f) p t step at within jumps other)

    -- one of the two
    pick_lower : (b : Bool) (t : ℕ) → JumpsTo step.instr t → (step.instr ≡ Turn → ⊥) → (turns : ℕ)
        → turns * suc (greatest code) + (rank_at code f
        (pick b t (p + 1)) + ranks code rest) < turns * suc (greatest code) + (rank_at code f p + ranks code rest)
    pick_lower true t jumps other turns = jump_lower t jumps other turns
    pick_lower false t jumps other turns = next_lower other turns

    -- the value goes to the frame beneath
    returned_lowers : (v : Datum) (s : State) (rest : List Frame)
        → Lowers (s.turns * suc (greatest code) + (rank_at code f p + ranks code rest)) (returned v rest s)
    returned_lowers v s [] = tt
    returned_lowers v s (below ∷ rest) =
        return_less s.turns (greatest code) (rank_at code f p) (ranks code (below ∷ rest))
        (rank_some (length (steps code f)) (turn_of (steps code f)) p within)

    -- a function begins: a turn fewer, and a frame more
    entered_lowers : (callee : Fun) (g : ℕ) (arguments : List Datum) (place : Place)
        (l beneath : List Datum) (s : State) → (step.instr ≡ Turn → ⊥)
        → Lowers (s.turns * suc (greatest code) + (rank_at code f p + ranks code rest))
        (entered callee g arguments place f p l beneath rest s)
    entered_lowers callee g arguments place l beneath s other =
        lower_try _ (λ (s1 : State). suc s1.turns
        ≡ s.turns) (turn_spent s) place s _ (spent_given s.turns s) (λ s1 e.
        lower_any _ (room_for_call (length rest)) place s1 _ (λ ok.
        call_less s.turns s1.turns (greatest code) (rank_at code g 0) (rank_at code f (p + 1)) (rank_at code f p)
        (ranks code rest) e (rank_at_few code g 0)
        (rank_next (steps code f) (turn_at f) p step at within other)))

    -- a child is sporked: a turn fewer
    child_lowers : (g : ℕ) (arguments : List Datum) (place : Place) (l beneath : List Datum)
        (s : State) → Lowers (s.turns * suc (greatest code) + (rank_at code f p + ranks code rest))
        (sporks_child place g arguments f p l beneath rest s)
    child_lowers g arguments place l beneath s =
        lower_try _ (λ (s1 : State). suc s1.turns
        ≡ s.turns) (turn_spent s) place s _ (spent_given s.turns s) (λ s1 e.
        lower_try _ (λ (child : Child). child.state.turns
        ≡ s1.turns) (sporked g arguments s1) place s1 _ (sporked_given g arguments s1)
        (λ child same.
        turn_less s.turns child.state.turns (greatest code) (rank_at code f (p + 1)) (rank_at code f p)
        (ranks code rest) (ap suc same ∙ e) (rank_at_few code f (p + 1))))

    -- each instruction
    effect_lowers : (i : Instr) (place : Place) (l ops : List Datum) (s : State) → step.instr ≡ i
        → Lowers (s.turns * suc (greatest code) + (rank_at code f p + ranks code rest))
        (effect code shred i place f p l ops rest s)
    effect_lowers (Int n) place l ops s is = next_lower (λ e. cc) s.turns
    effect_lowers (Float x) place l ops s is = next_lower (λ e. cc) s.turns
    effect_lowers (Dur samples) place l ops s is = next_lower (λ e. cc) s.turns
    effect_lowers (Time samples) place l ops s is = next_lower (λ e. cc) s.turns
    effect_lowers (Text k) place l ops s is =
        lower_any _ (text_at code.texts k) place s _ (λ v. next_lower (λ e. cc) s.turns)
    effect_lowers NoShred place l ops s is = next_lower (λ e. cc) s.turns
    effect_lowers Now place l ops s is = next_lower (λ e. cc) s.turns
    effect_lowers Me place l ops s is = next_lower (λ e. cc) s.turns
    effect_lowers Dac place l ops s is = next_lower (λ e. cc) s.turns
    effect_lowers Hole place l ops s is = next_lower (λ e. cc) s.turns
    effect_lowers (Local i) place l ops s is =
        lower_any _ (local_of l i) place s _ (λ v. next_lower (λ e. cc) s.turns)
    effect_lowers (Static i) place l ops s is =
        lower_any _ (static_of s.store i) place s _ (λ v. next_lower (λ e. cc) s.turns)
    effect_lowers (SetLocal i) place l ops s is =
        lower_top _ ops _ (λ v under. lower_any _ (with_local l i v) place s _ (λ l1.
        next_lower (λ e. cc) s.turns))
    effect_lowers (SetStatic i) place l ops s is =
        lower_top _ ops _ (λ v under. lower_any _ (with_static s.store i v) place s _ (λ store.
        next_lower (λ e. cc) s.turns))
    effect_lowers (OpLocal i o) place l ops s is =
        lower_top _ ops _ (λ e1 under. lower_any _ (local_of l i) place s _ (λ old.
        lower_any _ (binary o old e1) place s _ (λ w.
        lower_any _ (with_local l i w) place s _ (λ l1. next_lower (λ e. cc) s.turns))))
    effect_lowers (OpStatic i o) place l ops s is =
        lower_top _ ops _ (λ e1 under. lower_any _ (static_of s.store i) place s _ (λ old.
        lower_any _ (binary o old e1) place s _ (λ w.
        lower_any _ (with_static s.store i w) place s _ (λ store. next_lower (λ e. cc) s.turns))))
    effect_lowers (Field i) place l ops s is =
        lower_top _ ops _ (λ r under. lower_any _ (field_of s.store r i) place s _ (λ v.
        next_lower (λ e. cc) s.turns))
    effect_lowers (SetField i) place l ops s is =
        lower_top _ ops _ (λ r under. lower_top _ under _ (λ v beneath.
        lower_any _ (with_field s.store r i v) place s _ (λ store. next_lower (λ e. cc) s.turns)))
    effect_lowers (OpField i o) place l ops s is =
        lower_top _ ops _ (λ r under. lower_top _ under _ (λ e1 beneath.
        lower_any _ (field_of s.store r i) place s _ (λ old.
        lower_any _ (binary o old e1) place s _ (λ w.
        lower_any _ (with_field s.store r i w) place s _ (λ store.
        next_lower (λ e. cc) s.turns)))))
    effect_lowers Item place l ops s is =
        lower_top _ ops _ (λ i under. lower_top _ under _ (λ r beneath.
        lower_any _ (item_of s.store.objects r i) place s _ (λ v. next_lower (λ e. cc) s.turns)))
    effect_lowers SetItem place l ops s is =
        lower_top _ ops _ (λ i under. lower_top _ under _
        (λ r lower. lower_top _ lower _ (λ v beneath.
        lower_any _ (with_item s.store r i v) place s _ (λ store. next_lower (λ e. cc) s.turns))))
    effect_lowers (OpItem o) place l ops s is =
        lower_top _ ops _ (λ i under. lower_top _ under _
        (λ r lower. lower_top _ lower _ (λ e1 beneath.
        lower_any _ (item_of s.store.objects r i) place s _ (λ old.
        lower_any _ (binary o old e1) place s _ (λ w.
        lower_any _ (with_item s.store r i w) place s _ (λ store.
        next_lower (λ e. cc) s.turns))))))
    effect_lowers Swap place l ops s is =
        lower_top _ ops _ (λ y under. lower_top _ under _ (λ x beneath.
        next_lower (λ e. cc) s.turns))
    effect_lowers Dup place l ops s is =
        lower_top _ ops _ (λ v under. next_lower (λ e. cc) s.turns)
    effect_lowers Drop place l ops s is =
        lower_top _ ops _ (λ v under. next_lower (λ e. cc) s.turns)
    effect_lowers (Op2 o) place l ops s is =
        lower_top _ ops _ (λ y under. lower_top _ under _ (λ x beneath.
        lower_any _ (binary o x y) place s _ (λ v. next_lower (λ e. cc) s.turns)))
    effect_lowers (Op1 o) place l ops s is =
        lower_top _ ops _ (λ x under. lower_any _ (unary o x) place s _ (λ v.
        next_lower (λ e. cc) s.turns))
    effect_lowers (UnitInt n d) place l ops s is =
        lower_top _ ops _ (λ x under. lower_any _ (int_units n d x) place s _ (λ v.
        next_lower (λ e. cc) s.turns))
    effect_lowers (UnitFix n d) place l ops s is =
        lower_top _ ops _ (λ x under. lower_any _ (float_units n d x) place s _ (λ v.
        next_lower (λ e. cc) s.turns))
    effect_lowers (Native call) place l ops s is =
        lower_any _ (taken (operand_count call) [] ops) place s _ (λ t.
        lower_try _ (KeepsRest s) (native call t.arguments s) place s _
        (native_keeps call t.arguments s) (λ given kept.
        subst (λ turns. turns * suc (greatest code) + (rank_at code f (p + 1) + ranks code rest)
        < s.turns * suc (greatest code) + (rank_at code f p + ranks code rest)) (sym (kept_turns s given kept))
        (next_lower (λ e. cc) s.turns)))
    effect_lowers (Print kinds) place l ops s is =
        lower_any _ (taken (length kinds) [] ops) place s _ (λ t. next_lower (λ e. cc) s.turns)
    effect_lowers (Jump t) place l ops s is =
        jump_lower t (subst (λ i. JumpsTo i t) (sym is) refl) (λ e. cc) s.turns
    effect_lowers (JumpZero t) place l ops s is =
        lower_top _ ops _ (λ v under. lower_any _ (is_zero v) place s _ (λ b.
        pick_lower b t (subst (λ i. JumpsTo i t) (sym is) refl) (λ e. cc) s.turns))
    effect_lowers Turn place l ops s is =
        lower_try _ (λ (s1 : State). suc s1.turns
        ≡ s.turns) (turn_spent s) place s _ (spent_given s.turns s) (λ s1 e.
        turn_less s.turns s1.turns (greatest code) (rank_at code f (p + 1)) (rank_at code f p) (ranks code rest) e
        (rank_at_few code f (p + 1)))
    effect_lowers (Call g) place l ops s is =
        lower_fun _ (slice_get code.funs g) _ (λ callee.
        lower_any _ (taken callee.params [] ops) place s _ (λ t.
        entered_lowers callee g t.arguments place l t.beneath s (λ e. cc)))
    effect_lowers (Virtual slot n) place l ops s is =
        lower_any _ (taken n [] ops) place s _ (λ t. lower_top _ t.arguments _ (λ r others.
        lower_any _ (method_of code.classes s.store.objects r slot) place s _ (λ g.
        lower_fun _ (slice_get code.funs g) _ (λ callee.
        pick_effect _ (nat_eq (length (r ∷ others)) callee.params)
        (entered callee g (r ∷ others) place f p l t.beneath rest s) Bad
        (entered_lowers callee g (r ∷ others) place l t.beneath s (λ e. cc)) tt))))
    effect_lowers (Spork g) place l ops s is =
        lower_fun _ (slice_get code.funs g) _ (λ callee.
        lower_any _ (taken callee.params [] ops) place s _ (λ t.
        child_lowers g t.arguments place l t.beneath s))
    effect_lowers (SporkVirtual slot n) place l ops s is =
        lower_any _ (taken n [] ops) place s _ (λ t. lower_top _ t.arguments _ (λ r others.
        lower_any _ (method_of code.classes s.store.objects r slot) place s _ (λ g.
        lower_fun _ (slice_get code.funs g) _ (λ callee.
        pick_effect _ (nat_eq (length (r ∷ others)) callee.params)
        (sporks_child place g (r ∷ others) f p l t.beneath rest s) Bad
        (child_lowers g (r ∷ others) place l t.beneath s) tt))))
    effect_lowers (New c) place l ops s is =
        lower_any _ (object_made code.classes c s.store) place s _ (λ made.
        next_lower (λ e. cc) s.turns)
    effect_lowers (Ugen kind) place l ops s is =
        lower_any _ (unit_made kind shred s.store) place s _ (λ made.
        next_lower (λ e. cc) s.turns)
    effect_lowers (Row e) place l ops s is =
        lower_top _ ops _ (λ n under. lower_any _ (row_made e n s.store) place s _ (λ made.
        next_lower (λ e. cc) s.turns))
    effect_lowers (Grid e) place l ops s is =
        lower_top _ ops _ (λ m under. lower_top _ under _ (λ n beneath.
        lower_any _ (grid_made e n m s.store).end place _ _ (λ r. next_lower (λ e. cc) s.turns)))
    effect_lowers (Lit e n) place l ops s is =
        lower_any _ (taken n [] ops) place s _ (λ t.
        lower_any _ (array_made e false t.arguments s.store) place s _ (λ made.
        next_lower (λ e. cc) s.turns))
    effect_lowers (LitGrid e n) place l ops s is =
        lower_any _ (taken n [] ops) place s _ (λ t.
        lower_any _ (array_made e true t.arguments s.store) place s _ (λ made.
        next_lower (λ e. cc) s.turns))
    effect_lowers (Each t) place l ops s is =
        lower_top _ ops _ (λ i under. lower_top _ under _ (λ r beneath.
        lower_any _ (has_item s.store.objects r i) place s _ (λ has.
        pick_effect _ has (Next (frame f (p + 1) l (i ∷ r ∷ beneath) ∷ rest) s)
        (Next (frame f t l (r ∷ beneath) ∷ rest) s) (next_lower (λ e. cc) s.turns)
        (jump_lower t (subst (λ i. JumpsTo i t) (sym is) refl) (λ e. cc) s.turns))))
    effect_lowers Fill place l ops s is =
        lower_top _ ops _ (λ v under. lower_top _ under _
        (λ i lower. lower_top _ lower _ (λ r beneath.
        lower_any _ (filled s.store r i v) place s _ (λ done. next_lower (λ e. cc) s.turns))))
    effect_lowers Append place l ops s is =
        lower_top _ ops _ (λ v under. lower_top _ under _ (λ r beneath.
        lower_any _ (appended s.store r v) place s _ (λ store. next_lower (λ e. cc) s.turns)))
    effect_lowers Connect place l ops s is =
        lower_top _ ops _ (λ b under. lower_top _ under _ (λ a beneath.
        lower_any _ (connected a b s.store) place s _ (λ store. next_lower (λ e. cc) s.turns)))
    effect_lowers Disconnect place l ops s is =
        lower_top _ ops _ (λ b under. lower_top _ under _ (λ a beneath.
        lower_any _ (disconnected a b s.store) place s _ (λ store. next_lower (λ e. cc) s.turns)))
    effect_lowers (Param q) place l ops s is =
        lower_top _ ops _ (λ u under. lower_any _ (parameter_of q u s.store) place s _ (λ v.
        next_lower (λ e. cc) s.turns))
    effect_lowers (SetParam q) place l ops s is =
        lower_top _ ops _ (λ v under. lower_top _ under _ (λ u beneath.
        lower_any _ (parameter_set q u v s.store) place s _ (λ set. next_lower (λ e. cc) s.turns)))
    effect_lowers Null place l ops s is = next_lower (λ e. cc) s.turns
    effect_lowers Return place l ops s is = lower_top _ ops _ (λ v under. returned_lowers v s rest)
    effect_lowers WaitDur place l ops s is =
        lower_top _ ops _ (λ d under. lower_any _ (wait_dur d s.store) place s _ (λ q. tt))
    effect_lowers WaitTime place l ops s is =
        lower_top _ ops _ (λ t under. lower_any _ (wait_time t s.store) place s _ (λ q. tt))
    effect_lowers WaitEvent place l ops s is =
        lower_top _ ops _ (λ r under. lower_any _ (wait_event r) place s _ (λ q. tt))
    effect_lowers _ place l ops s is = tt

  -- where there is an instruction
  step_lowers : (shred : ℕ) (top : Frame) (rest : List Frame) (s : State) (o : Option Step)
      → slice_get (steps code top.fun) top.place ≡ o
      → Lowers (left code s.turns (top ∷ rest))
      (with_step o (λ step.
      effect code shred step.instr step.place top.fun top.place top.locals top.operands rest s))
  step_lowers shred top rest s None at = tt
  step_lowers shred top rest s (Some step) at =
      effect_lowers shred top.fun top.place rest step at step.instr step.place top.locals
      top.operands s refl

  -- the next instruction
  pub next_effect_lowers : (shred : ℕ) (frames : List Frame) (s : State)
      → Lowers (left code s.turns frames) (next_effect code shred frames s)
  next_effect_lowers shred [] s = tt
  next_effect_lowers shred (top ∷ rest) s =
      step_lowers shred top rest s (step_at code top.fun top.place) refl

  -- an instruction after which a slice goes on leaves a lower potential
  pub leads_lower : (shred : ℕ) (frames frames1 : List Frame) (s s1 : State)
      → next_effect code shred frames s ≡ Next frames1 s1
      → potential code s1.turns frames1 < potential code s.turns frames
  unfolding potential
  leads_lower shred frames frames1 s s1 is =
      subst (Lowers (left code s.turns frames)) is (next_effect_lowers shred frames s)

  -- a slice goes on with fewer instructions and a lower potential
  go_on_ends : (n k : ℕ) (e : Effect) (next : List Frame → State → Halt) → Lowers n e → n ≤ k
      → ((frames : List Frame) (s : State) → left code s.turns frames < k
      → next frames s ≡ Unfinished → ⊥) → go_on e next ≡ Unfinished → ⊥
  go_on_ends n k (Next frames s) next lower le after = after frames s (omega (arith, lower))
  go_on_ends n k (Stops q place frames s) next lower le after = λ e. cc
  go_on_ends n k (Over v s) next lower le after = λ e. cc
  go_on_ends n k (Breaks trap place s) next lower le after = λ e. cc
  go_on_ends n k Bad next lower le after = λ e. cc

  -- a slice of more instructions than the potential ends
  pub exec_ends : (shred k : ℕ) (frames : List Frame) (s : State) → left code s.turns frames < k
      → exec code shred k frames s ≡ Unfinished → ⊥
  exec_ends shred zero frames s lt = absurd (omega (arith, lt))
  exec_ends shred (suc k) frames s lt =
      go_on_ends (left code s.turns frames) k (next_effect code shred frames s) (exec code shred k)
      (next_effect_lowers shred frames s) (omega (arith, lt)) (exec_ends shred k)

  -- the ranks code of so many frames
  ranks_few : (frames : List Frame) → ranks code frames ≤ length frames * (greatest code)
  ranks_few [] = omega arith
  ranks_few (top ∷ rest) =
      frame_more (greatest code) (rank_at code top.fun top.place) (ranks code rest) (length rest)
      (rank_at_few code top.fun top.place) (ranks_few rest)

  -- at most a thousand calls are active
  frames_few : (main : ℕ) (shapes : Shapes) (frames : List Frame)
      → AreFit code verified.typing main shapes frames → length frames ≤ suc MAX_CALLS
  frames_few main shapes [] fits = absurd fits
  frames_few main shapes (top ∷ rest) fits = omega (arith, fits.2)

  -- a slice ends
  pub slice_ends : (main shred : ℕ) (frames : List Frame) (s : State)
      → AreFit code verified.typing main (shapes_of s.store) frames → s.turns < FRESH_TURNS
      → exec code shred (enough code) frames s ≡ Unfinished → ⊥
  unfolding enough
  slice_ends main shred frames s fits turns =
      exec_ends shred (enough code) frames s
      (start_less s.turns (greatest code) (length frames) (ranks code frames) turns
      (frames_few main (shapes_of s.store) frames fits) (ranks_few frames))
