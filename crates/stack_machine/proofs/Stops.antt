-- A slice that stops at an instruction.
use Rattle.std.proofs.Common.{◌≡◌, ℕ, zero, suc, pred, List, Some}
use Rattle.std.proofs.Common.{sym, ap, ◌∙◌, subst, inl, inr, arith}
use Rattle.ck_values.specs.declared.trap.Place.{Place}
use Rattle.ck_store.specs.Store.{State, Store, Request, At, On}
use Rattle.ck_code.specs.declared.code.CodeParts.{CodeParts}
use Rattle.ck_code.specs.declared.code.Step.{Step}
use Rattle.ck_code.specs.Machine.{Frame, Effect, Stops}
use Rattle.ck_code.specs.Machine.{step_at, next_effect, go_on}
use Rattle.ck_code.specs.Machine.{Waits, source_of, stopped_at, exec, one_more, begun}
use Rattle.shred_state.specs.Frames.{Standing}
use Rattle.machine_world.specs.Shown.{shown, frames_of}
use Rattle.machine_world.specs.declared.acts.Act.{Act}
use Rattle.machine_world.specs.Steps.{IsBehind, StopsBehind, Matches, Stays, state_of}
use Rattle.loop_steps.specs.Runs.{IsOver}
use Rattle.stack_machine.specs.Slices.{EndsAs}
use Rattle.machine_world.specs.declared.course.Stop.{Stop}
use Rattle.machine_world.specs.declared.course.Stop.TheVariants.{At as StopsAt, On as StopsOn, Ended as HasEnded, Trapped}
use Rattle.machine_world.specs.declared.course.Then.{Then}
use Rattle.machine_world.specs.declared.course.Then.TheVariants.{Stopped}

module _ (code : CodeParts) (n : ℕ) where
  -- a shred that waits stops at the place of its wait
  waits_there : (old new : Standing) (step : Step)
      → step_at code (shown old).top.fun (shown old).top.place ≡ Some step → IsBehind old new
      → step.place ≡ stopped_at code (frames_of (shown new))
  waits_there old new step at behind =
      let back : pred (shown new).top.place ≡ (shown old).top.place = omega (arith, behind.place) in
      sym (ap (λ p. source_of (step_at code (shown new).top.fun p)) back
      ∙ ap (λ f. source_of (step_at code f (shown old).top.place)) behind.fun ∙ ap source_of at)

  -- a slice that stops
  module _ (old shred1 : Standing) (store1 : Store) (acts : List Act) (step : Step)
      (at : step_at code (shown old).top.fun (shown old).top.place ≡ Some step) where
    abbrev left : State
    left = state_of shred1 store1 acts

    waits_as : (q : Request) (b : ℕ) (e : Effect) → IsBehind old shred1
        → e ≡ Stops q step.place (frames_of (shown shred1)) left
        → go_on e (exec code n b)
        ≡ Waits q (stopped_at code (frames_of (shown shred1))) (frames_of (shown shred1)) left
    waits_as q b e behind is =
        ap (λ e. go_on e (exec code n b)) is
        ∙ ap (λ place. Waits q place (frames_of (shown shred1)) left)
        (waits_there old shred1 step at behind)

    stop_ends : (stop : Stop) (b : ℕ) (e : Effect) → StopsBehind stop old shred1
        → Matches (Stopped stop) e step.place shred1 store1 acts
        → EndsAs stop (go_on e (exec code n b)) code shred1 left
    stop_ends (StopsAt time) b e behind is = waits_as (At time) b e behind is
    stop_ends (StopsOn event) b e behind is = waits_as (On event.serial) b e behind is
    stop_ends HasEnded b e behind (inl over) =
        inl (over.0, ap (λ e. go_on e (exec code n b)) over.1)
    stop_ends HasEnded b e behind (inr exits) =
        inr (exits.0, exits.1, ap (λ e. go_on e (exec code n b)) exits.2)
    stop_ends (Trapped trap place) b e behind is = ap (λ e. go_on e (exec code n b)) is

    pub stops : (stop : Stop) (b : ℕ) (fs : List Frame) (s : State)
        → IsOver (exec code n b fs s) → StopsBehind stop old shred1
        → Matches (Stopped stop) (next_effect code n fs s) step.place shred1 store1 acts
        → EndsAs stop (exec code n b fs s) code shred1 left
    stops stop zero fs s over behind is = absurd over
    stops stop (suc b) fs s over behind is = stop_ends stop b (next_effect code n fs s) behind is

  stop_begun : (stop : Stop) (b : ℕ) (e : Effect) (place : Place) (shred1 : Standing)
      (store1 : Store) (acts : List Act) → Matches (Stopped stop) e place shred1 store1 acts
      → one_more e (begun code n b) ≡ 1
  stop_begun (StopsAt time) b e place shred1 store1 acts is =
      ap (λ e. one_more e (begun code n b)) is
  stop_begun (StopsOn event) b e place shred1 store1 acts is =
      ap (λ e. one_more e (begun code n b)) is
  stop_begun HasEnded b e place shred1 store1 acts (inl over) =
      ap (λ e. one_more e (begun code n b)) over.1
  stop_begun HasEnded b e place shred1 store1 acts (inr exits) =
      ap (λ e. one_more e (begun code n b)) exits.2
  stop_begun (Trapped trap at) b e place shred1 store1 acts is =
      ap (λ e. one_more e (begun code n b)) is

  pub begun_one : (stop : Stop) (b : ℕ) (fs : List Frame) (s : State) (place : Place)
      (shred1 : Standing) (store1 : Store) (acts : List Act) → IsOver (exec code n b fs s)
      → Matches (Stopped stop) (next_effect code n fs s) place shred1 store1 acts
      → begun code n b fs s ≡ 1
  begun_one stop zero fs s place shred1 store1 acts over is = absurd over
  begun_one stop (suc b) fs s place shred1 store1 acts over is =
      stop_begun stop b (next_effect code n fs s) place shred1 store1 acts is

-- what comes after an instruction, by the answer that it gave
pub follows_as : (then is_then : Then) (e e1 : Effect) (place : Place) (shred1 : Standing)
    (store1 : Store) (acts : List Act) → then ≡ is_then → e ≡ e1
    → Matches then e1 place shred1 store1 acts → Matches is_then e place shred1 store1 acts
follows_as then is_then e e1 place shred1 store1 acts is same follows =
    subst (λ then. Matches then e place shred1 store1 acts) is
    (subst (λ e. Matches then e place shred1 store1 acts) (sym same) follows)

pub stays_as : (then is_then : Then) (old new : Standing) → then ≡ is_then → Stays then old new
    → Stays is_then old new
stays_as then is_then old new is stays = subst (λ then. Stays then old new) is stays
