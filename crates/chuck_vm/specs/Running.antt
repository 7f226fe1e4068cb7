-- What running a slice needs of a machine, and does to it.
use Rattle.std.specs.Prelude.{◌≡◌, ℕ, ◌+◌, ◌≤◌, ℤ, ◌<ℤ◌, List, None}
use Rattle.ck_code.specs.declared.code.CodeParts.{CodeParts}
use Rattle.ck_code.specs.Verified.{IsVerified}
use Rattle.ck_meaning.specs.Replay.{Stopped, by_code}
use Rattle.ck_run.specs.Run.{Run, live, run_slice, first_due, settled}
use Rattle.ck_run.specs.Sound.{IsOrderly, IsSound, measure, times_due, times_waiting}
use Rattle.ck_run.specs.Told.{silent}
use Rattle.run_laws.specs.FitRuns.{IsRunStore, IsFitShred, turns_at}
use Rattle.machine_world.specs.declared.acts.Act.{Act}
use Rattle.machine_world.specs.declared.course.Stop.{Stop}
use Rattle.live_shreds.specs.Slices as slices
use Rattle.chuck_vm.specs.declared.machine.Machine.{Machine}
use Rattle.chuck_vm.specs.Machine.{HasRun, OfEach}

-- the run of a verified code is sound
pub record CanRun (code : CodeParts) (run : Run Stopped) : Type 0 where
  pub verified : IsVerified code
  pub sound : IsSound (IsRunStore code) (IsFitShred code verified.typing) run

-- the machine stands for a run that is orderly, where the next shred has this number
abbrev pub IsNumbered : (next : ℕ) → Machine → Type 0
IsNumbered next machine = HasRun machine (IsOrderly next)

-- the shred is neither due nor waits
abbrev pub IsIdle : (number : ℕ) → Run Stopped → Type 0
IsIdle number run = times_due number run + times_waiting number run ≡ 0

-- the run is sound, and the shred idle, so that it can run its next slice
pub record CanRunSlice (code : CodeParts) (number : ℕ) (run : Run Stopped) : Type 0 where
  pub can : CanRun code run
  pub idle : IsIdle number run

-- each run that the machine stands for becomes such by the next slice of the shred, where it can
-- run that one and has told nothing before
abbrev pub OfSlice : Machine → (number : ℕ) → (such : Run Stopped → Type 0) → Type 0
OfSlice machine number such = OfEach machine (λ run. CanRunSlice machine.code number run →
    such (run_slice (by_code machine.code) (silent run) (live run number)))

-- each sound run that the machine stands for becomes such by all slices that are due, with any
-- bound that is enough, where it has told nothing before
abbrev pub OfSettled : Machine → (such : Run Stopped → Type 0) → Type 0
OfSettled machine such = OfEach machine (λ run. CanRun machine.code run →
    (bound : ℕ) → measure turns_at run ≤ bound →
    such (settled (by_code machine.code) bound (silent run)))

-- before this time nothing is due
abbrev pub IsQuietBefore : (time : ℤ) → Machine → Type 0
IsQuietBefore time machine = OfEach machine (λ run.
    (now : ℤ) → now <ℤ time → first_due now run.due ≡ None)

-- the live shred with a number ran its next slice: it stands anew where it stood, the world is what
-- the slice left, and nothing else has changed
pub record Ran (stop : Stop) (number : ℕ) (old new : Machine) (acts : List Act) : Type 0 where
  pub slice : slices.Ran stop number old.code old.shreds new.shreds old.world new.world acts
  pub due_is : new.due ≡ old.due
  pub waits_are : new.waits ≡ old.waits
  pub code_is : new.code ≡ old.code
