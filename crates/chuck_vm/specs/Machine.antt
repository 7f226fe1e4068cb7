-- What a machine of many shreds stands for.
use Rattle.std.specs.Prelude.{◌≡◌, ℕ, ℤ, List, map, filter, nat_eq}
use Rattle.std.specs.Ordering.{int_eq}
use Rattle.ck_code.specs.declared.code.CodeParts.{CodeParts}
use Rattle.ck_code.specs.Machine.{stopped_at}
use Rattle.ck_meaning.specs.Replay.{Stopped}
use Rattle.ck_run.specs.Run.{Shred, Due, Wait, Run}
use Rattle.shred_state.specs.Frames.{Standing}
use Rattle.shreduler.specs.Queue as queue
use Rattle.event_queue.specs.Waiters as waiters
use Rattle.machine_world.specs.Shown.{shown, frames_of}
use Rattle.machine_world.specs.Worlds.{StandsFor}
use Rattle.chuck_vm.specs.declared.machine.Machine.{Machine}

-- how far a shred of the machine came
abbrev pub stopped_of : CodeParts → Standing → Stopped
stopped_of code shred =
    let frames = frames_of (shown shred) in record {
      frames = frames;
      turns = shred.turns;
      last = shred.last;
      place = stopped_at code frames;
    }

-- a shred of the machine, as a run has it
abbrev pub shred_of : CodeParts → Standing → Shred Stopped
shred_of code shred =
    record { number = shred.number; parent = shred.parent; progress = stopped_of code shred }

abbrev pub shreds_of : CodeParts → List Standing → List (Shred Stopped)
shreds_of code shreds = map (shred_of code) shreds

-- what is due and what waits, as a run has them
abbrev pub due_of : queue.Due → Due
due_of due = record { time = due.time; shred = due.shred }

abbrev pub wait_of : waiters.Wait → Wait
wait_of wait = record { event = wait.event.serial; shred = wait.shred }

-- the shreds that are due at a time, in their order
abbrev pub shreds_due : (time : ℤ) → List Due → List ℕ
shreds_due time due = map (λ due. due.shred) (filter (λ due. int_eq due.time time) due)

-- at each time the same shreds are due, in the same order
abbrev pub AreDueAlike : (one two : List Due) → Type 0
AreDueAlike one two = (time : ℤ) → shreds_due time one ≡ shreds_due time two

-- the shreds that wait on an event, in their order
abbrev pub shreds_waiting : (event : ℕ) → List Wait → List ℕ
shreds_waiting event waits = map (λ wait. wait.shred) (filter (λ wait. nat_eq wait.event event) waits)

-- on each event the same shreds wait, in the same order
abbrev pub WaitAlike : (one two : List Wait) → Type 0
WaitAlike one two = (event : ℕ) → shreds_waiting event one ≡ shreds_waiting event two

-- the machine stands for a run, whatever that one has told: its world stands for the run's store,
-- the same shreds are live, and at each time the same are due, and on each event the same wait, in
-- the same order
pub record Stands (machine : Machine) (run : Run Stopped) : Type 0 where
  pub store : StandsFor machine.world run.store
  pub shreds : shreds_of machine.code machine.shreds ≡ run.shreds
  pub due : AreDueAlike (map due_of machine.due) run.due
  pub waits : WaitAlike (map wait_of machine.waits) run.waits

-- some run that the machine stands for is such
pub record HasRun (machine : Machine) (such : Run Stopped → Type 0) : Type 0 where
  pub run : Run Stopped
  pub stands : Stands machine run
  pub so : such run

-- each run that the machine stands for is such
abbrev pub OfEach : Machine → (such : Run Stopped → Type 0) → Type 0
OfEach machine such = (run : Run Stopped) → Stands machine run → such run

-- this is what is read of each run that the machine stands for
abbrev pub Reads : {A : Type 0} → Machine → (of : Run Stopped → A) → A → Type 0
Reads machine of a = OfEach machine (λ run. a ≡ of run)

-- the new machine stands for each run that the old one stood for, once this is done to it
abbrev pub Does : (old : Machine) → (step : Run Stopped → Run Stopped) → (new : Machine) → Type 0
Does old step new = OfEach old (λ run. Stands new (step run))
