-- What a machine has of the runs that it stands for.
use Rattle.std.proofs.Common.{◌≡◌, ℕ, suc, ◌+◌, ◌-◌, ◌*◌, ℤ, not, nat_eq, List, map, find, is_some, Option, option_map, refl, sym, ap, ◌∙◌, subst}
use Rattle.ck_base.specs.declared.limits.TheConstants.{MAX_SPORKS}
use Rattle.ck_code.specs.declared.code.CodeParts.{CodeParts}
use Rattle.ck_store.specs.Steps.{fresh}
use Rattle.ck_store.specs.Store.{Store}
use Rattle.ck_meaning.specs.Replay.{Stopped}
use Rattle.ck_run.specs.Counts.{weight}
use Rattle.ck_run.specs.Family.{AreInOrder, IsFamily}
use Rattle.ck_run.specs.Run.{Shred, Due, Wait, Run, live, first_due}
use Rattle.ck_run.specs.Sound.{IsSound, measure, times_due, times_waiting}
use Rattle.ck_run.specs.Told.{silent}
use Rattle.run_laws.specs.FitRuns.{turns_at}
use Rattle.live_shreds.specs.Live.{numbered}
use Rattle.shreduler.specs.Queue as queue
use Rattle.event_queue.specs.Waiters as waiters
use Rattle.machine_world.specs.Worlds.{Parts, StandsFor, store_of}
use Rattle.chuck_vm.specs.declared.machine.Machine.{Machine}
use Rattle.chuck_vm.specs.Machine.{shred_of, shreds_of, due_of, wait_of, AreDueAlike, WaitAlike, Stands}
use Rattle.chuck_vm.specs.Running.{CanRun, IsQuietBefore}
use Rattle.chuck_vm.proofs.Dues.{none_due, first_alike, same_due, joined_due, stay_due}
use Rattle.chuck_vm.proofs.Ends.{dues_but, waits_but}
use Rattle.chuck_vm.proofs.Positions.{live_is, some_map}
use Rattle.chuck_vm.proofs.Waits.{joined_waits, same_waits, stay_waits, times_waits}
use Rattle.chuck_vm.proofs.Queues.{waits_without, dues_times, waits_times, dues_without, first_number}

-- the time and the sporks of a store are those of each world that stands for it
time_of : (world : Parts) → (store_of world).now ≡ world.time
unfolding store_of
time_of world = refl

sporks_of : (world : Parts) → (store_of world).sporks ≡ world.sporks
unfolding store_of
sporks_of world = refl

pub now_is : (world : Parts) (store : Store) → StandsFor world store → store.now ≡ world.time
now_is world store stands = sym (ap (λ (s : Store). s.now) stands.is) ∙ time_of world

pub sporks_is : (world : Parts) (store : Store) → StandsFor world store → store.sporks ≡ world.sporks
sporks_is world store stands = sym (ap (λ (s : Store). s.sporks) stands.is) ∙ sporks_of world

-- so a machine has the measure of its run
abbrev measured : ℤ → List (Shred Stopped) → (sporks : ℕ) → ℕ
measured now shreds sporks =
    weight (λ (s : Shred Stopped). suc (turns_at now s.progress)) shreds + suc fresh * (MAX_SPORKS - sporks)

abbrev pub turns_left : Machine → ℕ
turns_left machine =
    measured machine.world.time (shreds_of machine.code machine.shreds) machine.world.sporks

pub measure_is : (machine : Machine) (run : Run Stopped) → Stands machine run
    → measure turns_at run ≡ turns_left machine
measure_is machine run stands =
    let world = machine.world in
    ap (λ now. measured now run.shreds run.store.sporks) (now_is world run.store stands.store)
    ∙ ap (λ ss. measured world.time ss run.store.sporks) (sym stands.shreds)
    ∙ ap (measured world.time (shreds_of machine.code machine.shreds))
    (sporks_is world run.store stands.store)

-- whatever a run has told
pub told_alike : (machine : Machine) (one two : Run Stopped) → silent one ≡ silent two → Stands machine one
    → Stands machine two
told_alike machine one two same stands = record {
  store = subst (λ (r : Run Stopped). StandsFor machine.world r.store) same stands.store;
  shreds = stands.shreds ∙ ap (λ (r : Run Stopped). r.shreds) same;
  due = subst (λ (r : Run Stopped). AreDueAlike (map due_of machine.due) r.due) same stands.due;
  waits = subst (λ (r : Run Stopped). WaitAlike (map wait_of machine.waits) r.waits) same stands.waits;
}

pub quiet_stands : (machine : Machine) (run : Run Stopped) → Stands machine run → Stands machine (silent run)
quiet_stands machine run stands = told_alike machine run (silent run) refl stands

pub quiet_sound : (FitStore : Store → Type 0) (Fits : Store → Stopped → Type 0) (run : Run Stopped)
    → IsSound FitStore Fits run → IsSound FitStore Fits (silent run)
quiet_sound FitStore Fits run sound =
    record { store = sound.store; family = sound.family; once = sound.once; fits = sound.fits }

pub unquiet_can : (code : CodeParts) (run : Run Stopped) → CanRun code (silent run) → CanRun code run
unquiet_can code run can = record {
  verified = can.verified;
  sound = record {
    store = can.sound.store;
    family = can.sound.family;
    once = can.sound.once;
    fits = can.sound.fits;
  };
}

-- the live shreds of each run are those of the machine
pub order_stands : (machine : Machine) (run : Run Stopped) (next : ℕ) → Stands machine run
    → AreInOrder 1 next run.shreds → AreInOrder 1 next (shreds_of machine.code machine.shreds)
order_stands machine run next stands order = subst (AreInOrder 1 next) (sym stands.shreds) order

-- so one is live where the machine has its number
pub live_stands : (machine : Machine) (run : Run Stopped) (n : ℕ) → Stands machine run
    → live run n ≡ option_map (shred_of machine.code) (numbered n machine.shreds)
live_stands machine run n stands =
    ap (find (λ (s : Shred Stopped). nat_eq s.number n)) (sym stands.shreds)
    ∙ live_is machine.code n machine.shreds

pub is_live_stands : (machine : Machine) (run : Run Stopped) (n : ℕ) → Stands machine run
    → is_some (numbered n machine.shreds) ≡ is_some (live run n)
is_live_stands machine run n stands =
    sym (some_map (shred_of machine.code) (numbered n machine.shreds))
    ∙ sym (ap is_some (live_stands machine run n stands))

pub family_stands : (machine : Machine) (one two : Run Stopped) (next : ℕ) → Stands machine one
    → Stands machine two → IsFamily next one.shreds → IsFamily next two.shreds
family_stands machine one two next stands stands2 family =
    subst (IsFamily next) (sym stands.shreds ∙ stands2.shreds) family

-- a shred that isn't due in the run isn't due in the machine
pub not_due : (machine : Machine) (run : Run Stopped) (n : ℕ) → Stands machine run → times_due n run ≡ 0
    → queue.times_due n machine.due ≡ 0
not_due machine run n stands none =
    dues_times n machine.due ∙ none_due n (map due_of machine.due) run.due stands.due none

pub not_waiting : (machine : Machine) (run : Run Stopped) (n : ℕ) → Stands machine run
    → times_waiting n run ≡ 0 → waiters.times_waiting n machine.waits ≡ 0
not_waiting machine run n stands none =
    waits_times n machine.waits ∙ times_waits n (map wait_of machine.waits) run.waits stands.waits ∙ none

-- what comes first in the machine comes first in the run
pub first_stands : (machine : Machine) (run : Run Stopped) (now : ℤ) → Stands machine run
    → now ≡ machine.world.time
    → option_map (λ (d : queue.Due). d.shred) (queue.first_due now machine.due)
    ≡ option_map (λ (d : Due). d.shred) (first_due run.store.now run.due)
first_stands machine run now stands is =
    let first : ℤ → Option ℕ =
    λ t. option_map (λ (d : queue.Due). d.shred) (queue.first_due t machine.due) in
    ap first (is ∙ sym (now_is machine.world run.store stands.store))
    ∙ first_number run.store.now machine.due
    ∙ ap (option_map (λ (d : Due). d.shred))
    (first_alike run.store.now (map due_of machine.due) run.due stands.due)

-- a shred is taken from what is due
pub taken_due : (n : ℕ) (dues left : List queue.Due) (due : List Due) → left ≡ queue.without n dues
    → AreDueAlike (map due_of dues) due → AreDueAlike (map due_of left) (dues_but n due)
taken_due n dues left due taken alike =
    joined_due (map due_of left) (dues_but n (map due_of dues)) (dues_but n due)
    (same_due (map due_of left) (dues_but n (map due_of dues)) (ap (map due_of) taken ∙ dues_without n dues))
    (stay_due (λ m. not (nat_eq m n)) (map due_of dues) due alike)

pub taken_stands : (machine : Machine) (run : Run Stopped) (n : ℕ) (left : List queue.Due)
    → Stands machine run → left ≡ queue.without n machine.due
    → Stands (record machine { due = left }) (record run { due = dues_but n run.due })
taken_stands machine run n left stands taken = record {
  store = stands.store;
  shreds = stands.shreds;
  due = taken_due n machine.due left run.due taken stands.due;
  waits = stands.waits;
}

-- and from what waits
pub taken_waits : (n : ℕ) (waits left : List waiters.Wait) (waiting : List Wait) → left ≡ waiters.without n waits
    → WaitAlike (map wait_of waits) waiting → WaitAlike (map wait_of left) (waits_but n waiting)
taken_waits n waits left waiting taken alike =
    joined_waits (map wait_of left) (waits_but n (map wait_of waits)) (waits_but n waiting)
    (same_waits (map wait_of left) (waits_but n (map wait_of waits)) (ap (map wait_of) taken ∙ waits_without n waits))
    (stay_waits (λ m. not (nat_eq m n)) (map wait_of waits) waiting alike)

-- nothing is due before a time, where the same is due
pub quiet_on : (old new : Machine) (run : Run Stopped) (time : ℤ) → new.due ≡ old.due → Stands old run
    → IsQuietBefore time old → IsQuietBefore time new
quiet_on old new run time same stands quiet = λ run2 stands2 now lt.
    sym (first_alike now (map due_of new.due) run2.due stands2.due)
    ∙ ap (λ dues. first_due now (map due_of dues)) same
    ∙ first_alike now (map due_of old.due) run.due stands.due ∙ quiet run stands now lt
