use Rattle.std.proofs.Common.{◌≡◌, ◌≤◌, ◌-◌, slice_get}
use Rattle.std.specs.Bool.{OnFalse}
use Rattle.ck_code.specs.Machine.{steps_of}
use Rattle.ck_code.specs.Potential.{potential}
use Rattle.ck_store.specs.Store.{State}
use Rattle.machine_world.specs.Shown.{shown, frames_of}
use Rattle.machine_world.specs.Steps.{IsSame}
use Rattle.loop_steps.specs.Ints.{holding, state_with, HasGoneOn}
use Rattle.loop_steps.specs.Runs.{IsOver, run_of}
use Rattle.loop_steps.proofs.ints.go_on_with_int.Given as goal

abbrev pub invariant-line : goal.invariant-line
invariant-line l =
    let first = holding l.initial.shred l.initial.top l.initial.here in
    let now = holding l.shred l.top l.here in
    record {
      steps : steps_of (slice_get l.code.funs l.shred.top.fun) ≡ l.steps;
      from : l.from ≤ l.here;
      over : (s : State) × IsOver (run_of l.code first (state_with s l.initial.shred));
      gone : (s : State) → IsOver (run_of l.code first (state_with s l.initial.shred))
          → HasGoneOn l.code l.initial.begun (l.initial.here - l.initial.from) first
          (state_with s l.initial.shred) l.begun (l.here - l.from) now (state_with s l.shred);
      fun : OnFalse l.moved (l.shred.top.fun ≡ l.initial.shred.top.fun);
      same : IsSame l.initial.shred l.shred;
    }

abbrev pub decreases-line : goal.decreases-line
decreases-line l =
    potential l.code (shown l.shred).turns (frames_of (shown (holding l.shred l.top l.here)))
