-- Slices of at most so many instructions.
use Rattle.std.proofs.Common.{◌≡◌, ℕ, zero, suc, List, [], ◌∷◌, Option, Some, None, IsSome, slice_get}
use Rattle.std.proofs.Common.{refl, sym, ap, ◌∙◌, subst, arith}
use Rattle.ck_values.specs.declared.operator.Op2.{Op2 as Operator}
use Rattle.ck_values.specs.declared.trap.Place.{Place}
use Rattle.ck_values.specs.Datum.{Datum}
use Rattle.ck_store.specs.Operators.{binary}
use Rattle.ck_store.specs.Store.{State, Store, IsFitting}
use Rattle.ck_code.specs.declared.code.CodeParts.{CodeParts}
use Rattle.ck_code.specs.declared.code.Fun.{Fun}
use Rattle.ck_code.specs.declared.code.Step.{Step}
use Rattle.ck_code.specs.Machine.{Frame, Effect, Next, Stops, Over, Breaks, Bad, replaces_two}
use Rattle.ck_code.specs.Machine.{step_at, steps_of, with_step, next_effect, go_on}
use Rattle.ck_code.specs.Machine.{exec, one_more, begun, enough}
use Rattle.shred_state.specs.Frames.{Standing}
use Rattle.machine_world.specs.Shown.{shown, frames_of}
use Rattle.machine_world.specs.declared.acts.Act.{Act}
use Rattle.machine_world.specs.Steps.{IsGood, state_of}
use Rattle.machine_world.proofs.Changed.{effect_on}
use Rattle.machine_world.specs.Steps.{of_two}
use Rattle.loop_steps.specs.Runs.{IsOver, run_of}
use Rattle.machine_world.specs.Worlds.{counted}
use Rattle.machine_world.proofs.Sends.{good_fits}

-- two operands that an operator can take
pub two_fit : (o : Operator) (place : Place) (y : Datum) (under : List Datum) (f p : ℕ) (l : List Datum)
    (rest : List Frame) (s : State) → IsGood (replaces_two place (binary o) f p l (y ∷ under) rest s)
    → IsFitting (of_two (y ∷ under) (binary o))
two_fit o place y [] f p l rest s is = absurd is
two_fit o place y (x ∷ under) f p l rest s is = good_fits (binary o x y) place s _ is

module _ (code : CodeParts) (n : ℕ) where
  effect_more : (b : ℕ) (e : Effect) → ((fs : List Frame) (s : State) → IsOver (exec code n b fs s)
      → exec code n (suc b) fs s ≡ exec code n b fs s) → IsOver (go_on e (exec code n b))
      → go_on e (exec code n (suc b)) ≡ go_on e (exec code n b)
  effect_more b (Next fs s) more over = more fs s over
  effect_more b (Stops q place fs s) more over = refl
  effect_more b (Over v s) more over = refl
  effect_more b (Breaks trap place s) more over = refl
  effect_more b Bad more over = refl

  -- more instructions change nothing of a slice that is over
  exec_more : (b : ℕ) (fs : List Frame) (s : State) → IsOver (exec code n b fs s)
      → exec code n (suc b) fs s ≡ exec code n b fs s
  exec_more zero fs s over = absurd over
  exec_more (suc b) fs s over = effect_more b (next_effect code n fs s) (exec_more b) over

  count_more : (b : ℕ) (e : Effect) → ((fs : List Frame) (s : State) → IsOver (exec code n b fs s)
      → begun code n (suc b) fs s ≡ begun code n b fs s) → IsOver (go_on e (exec code n b))
      → one_more e (begun code n (suc b)) ≡ one_more e (begun code n b)
  count_more b (Next fs s) more over = ap suc (more fs s over)
  count_more b (Stops q place fs s) more over = refl
  count_more b (Over v s) more over = refl
  count_more b (Breaks trap place s) more over = refl
  count_more b Bad more over = refl

  begun_more : (b : ℕ) (fs : List Frame) (s : State) → IsOver (exec code n b fs s)
      → begun code n (suc b) fs s ≡ begun code n b fs s
  begun_more zero fs s over = absurd over
  begun_more (suc b) fs s over = count_more b (next_effect code n fs s) (begun_more b) over

  effect_good : (b : ℕ) (e : Effect) → IsOver (go_on e (exec code n b)) → IsGood e
  effect_good b (Next fs s) over = tt
  effect_good b (Stops q place fs s) over = tt
  effect_good b (Over v s) over = tt
  effect_good b (Breaks trap place s) over = tt
  effect_good b Bad over = over

  -- a slice that is over goes by good effects
  pub good : (b : ℕ) (fs : List Frame) (s : State) → IsOver (exec code n b fs s)
      → IsGood (next_effect code n fs s)
  good zero fs s over = absurd over
  good (suc b) fs s over = effect_good b (next_effect code n fs s) over

  -- one instruction on
  pub same_on : (b : ℕ) (fs fs1 : List Frame) (s s1 : State) → next_effect code n fs s ≡ Next fs1 s1
      → IsOver (exec code n b fs s) → exec code n b fs1 s1 ≡ exec code n b fs s
  same_on zero fs fs1 s s1 e over = absurd over
  same_on (suc b) fs fs1 s s1 e over =
      let step : exec code n (suc b) fs s ≡ exec code n b fs1 s1 =
      ap (λ e. go_on e (exec code n b)) e in
      exec_more b fs1 s1 (subst IsOver step over) ∙ sym step

  pub begun_on : (b : ℕ) (fs fs1 : List Frame) (s s1 : State)
      → next_effect code n fs s ≡ Next fs1 s1 → IsOver (exec code n b fs s)
      → begun code n b fs s ≡ suc (begun code n b fs1 s1)
  begun_on zero fs fs1 s s1 e over = absurd over
  begun_on (suc b) fs fs1 s s1 e over =
      let step : exec code n (suc b) fs s ≡ exec code n b fs1 s1 =
      ap (λ e. go_on e (exec code n b)) e in
      ap (λ e. one_more e (begun code n b)) e
      ∙ ap suc (sym (begun_more b fs1 s1 (subst IsOver step over)))

  -- the effect of the instruction at the place
  pub effect_is : (shred : Standing) (store : Store) (acts : List Act) (step : Step)
      → n ≡ (shown shred).number → step_at code (shown shred).top.fun (shown shred).top.place ≡ Some step
      → next_effect code n (frames_of (shown shred)) (state_of shred store acts)
      ≡ effect_on code step shred store acts
  effect_is shred store acts step same at =
      ap (λ m. next_effect code m (frames_of (shown shred)) (state_of shred store acts)) same
      ∙ ap (λ o. with_step o (λ step. effect_on code step shred store acts)) at

  -- there is an instruction at the place
  pub with_good : (o : Option Step) (go : Step → Effect) → IsGood (with_step o go) → IsSome o
  with_good None go is = absurd is
  with_good (Some step) go is = refl

  pub has_step : (b : ℕ) (shred : Standing) (s : State) → IsOver (exec code n b (frames_of (shown shred)) s)
      → IsSome (step_at code (shown shred).top.fun (shown shred).top.place)
  has_step b shred s over =
      with_good (step_at code (shown shred).top.fun (shown shred).top.place) _ (good b (frames_of (shown shred)) s over)

-- the instruction that was found at the place is the next one
pub found_in : (code : CodeParts) (shred : Standing) (steps : List Step) (p : ℕ) (at : Step)
    → steps_of (slice_get code.funs (shown shred).top.fun) ≡ steps → p ≡ (shown shred).top.place
    → slice_get steps p ≡ Some at
    → step_at code (shown shred).top.fun (shown shred).top.place ≡ Some at
found_in code shred steps p at is_steps is_place found =
    ap (λ ss. slice_get ss (shown shred).top.place) is_steps
    ∙ ap (slice_get steps) (sym is_place) ∙ found

pub next_in : (parts code : CodeParts) (shred : Standing) (store : Store) (acts : List Act)
    (at : Step) → parts ≡ code
    → step_at code (shown shred).top.fun (shown shred).top.place ≡ Some at
    → next_effect code (shown shred).number (frames_of (shown shred)) (state_of shred store acts)
    ≡ effect_on parts at shred store acts
next_in parts code shred store acts at is_code found =
    effect_is code (shown shred).number shred store acts at refl found
    ∙ ap (λ parts. effect_on parts at shred store acts) (sym is_code)

-- a function in which there is an instruction is there
pub some_fun : (o : Option Fun) (p : ℕ) → IsSome (slice_get (steps_of o) p) → IsSome o
some_fun None p is = is
some_fun (Some fn) p is = refl

pub has_fun : (code : CodeParts) (shred : Standing) (s : State) → IsOver (run_of code shred s)
    → IsSome (slice_get code.funs (shown shred).top.fun)
has_fun code shred s over =
    some_fun (slice_get code.funs (shown shred).top.fun) (shown shred).top.place
    (has_step code (shown shred).number (enough code) shred s over)

-- what was counted apart is counted in one
pub counted_twice : (ran more : ℕ) → counted ran (counted 0 more) ≡ counted ran more
counted_twice ran more = omega arith
