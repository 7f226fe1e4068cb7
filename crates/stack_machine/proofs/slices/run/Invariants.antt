use Rattle.std.proofs.Common.{◌≡◌, ◌≤◌, ◌-◌, slice_get}
use Rattle.ck_code.specs.Machine.{steps_of}
use Rattle.ck_code.specs.Potential.{potential}
use Rattle.ck_store.specs.Store.{Store}
use Rattle.machine_world.specs.Shown.{shown, frames_of}
use Rattle.machine_world.specs.Steps.{state_of, IsSame}
use Rattle.machine_world.specs.Tries.{HasStore}
use Rattle.machine_world.specs.Worlds.{StandsFor}
use Rattle.loop_steps.specs.Ints.{HasGoneOn}
use Rattle.loop_steps.specs.Runs.{IsOver, run_of}
use Rattle.stack_machine.proofs.slices.run.Given as goal

abbrev pub invariant-run : goal.invariant-run
invariant-run l =
    record {
      steps : steps_of (slice_get l.code.funs l.shred.top.fun) ≡ l.steps;
      here : l.here ≡ l.shred.top.place;
      from : l.from ≤ l.here;
      same : IsSame l.initial.shred l.shred;
      ran : l.world.ran ≡ l.initial.world.ran;
      over : HasStore l.world (λ s. IsOver (run_of l.code l.shred (state_of l.shred s l.acts)));
      gone : (store : Store) → StandsFor l.initial.world store
          → IsOver (run_of l.code l.initial.shred (state_of l.initial.shred store l.initial.acts))
          → HasStore l.world (λ s. HasGoneOn l.code 0 0 l.initial.shred
          (state_of l.initial.shred store l.initial.acts) l.begun (l.here - l.from)
          l.shred (state_of l.shred s l.acts));
    }

abbrev pub decreases-run : goal.decreases-run
decreases-run l = potential l.code (shown l.shred).turns (frames_of (shown l.shred))
