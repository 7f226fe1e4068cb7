-- What comes after an instruction.
use Rattle.std.specs.Prelude.{◌≡◌, ◌⊎◌, ◌+◌, pos, ◌≤ℤ◌, List, [], ◌∷◌}
use Rattle.ck_values.specs.declared.trap.Place.{Place}
use Rattle.ck_values.specs.declared.value.Value.{Value}
use Rattle.ck_values.specs.Datum.{Datum}
use Rattle.ck_values.specs.declared.operator.Op2.{Op2}
use Rattle.ck_store.specs.Steps.{and_then}
use Rattle.ck_store.specs.Operators.{binary}
use Rattle.ck_store.specs.Store.{State, Store, At, On, End, Try, Gives, Fails, Misfit}
use Rattle.ck_code.specs.declared.instr.Instr.{Instr}
use Rattle.ck_code.specs.declared.instr.Instr.TheVariants.{UnitInt, UnitFix, Ugen}
use Rattle.ck_code.specs.declared.code.CodeParts.{CodeParts}
use Rattle.ck_typed.specs.WellFormed.{IsMade}
use Rattle.ck_code.specs.Machine.{Frame, Effect, Next, Stops, Over, Breaks, Bad, frame, effect}
use Rattle.shred_state.specs.Frames.{Standing, frame as held_frame}
use Rattle.machine_world.specs.Acts.{all_acts_meant}
use Rattle.machine_world.specs.Shown.{Shown, shown, frames_of}
use Rattle.machine_world.specs.Tries.{HasStore}
use Rattle.machine_world.specs.Worlds.{Parts}
use Rattle.machine_world.specs.declared.acts.Act.{Act}
use Rattle.machine_world.specs.declared.course.Stop.{Stop}
use Rattle.machine_world.specs.declared.course.Stop.TheVariants.{At as StopsAt, On as StopsOn, Ended, Trapped}
use Rattle.machine_world.specs.declared.course.Course.{Course}
use Rattle.machine_world.specs.declared.course.Course.TheVariants.{Ahead, Apart, Elsewhere, Over as IsOver}
use Rattle.machine_world.specs.declared.course.Then.{Then}
use Rattle.machine_world.specs.declared.course.Then.TheVariants.{GoesOn, Moves, Stopped}

-- what a slice works on, over a store
abbrev pub state_of : Standing → Store → List Act → State
state_of shred store acts =
    record { store = store; acts = all_acts_meant acts; turns = (shown shred).turns }

-- what an instruction at this place of the source does to the shred
abbrev pub effect_in : CodeParts → Instr → Place → Shown → State → Effect
effect_in code instr place s state =
    let top = s.top in
    effect code s.number instr place top.fun top.place top.locals top.operands s.below state

-- it finds operands that it can take
abbrev pub IsGood : Effect → Type 0
IsGood (Next frames s) = Unit {0}
IsGood (Stops q place frames s) = Unit {0}
IsGood (Over v s) = Unit {0}
IsGood (Breaks trap place s) = Unit {0}
IsGood Bad = ⊥

-- a unit's divisor is above 0, and a unit generator is of a kind that can be made
abbrev pub IsRunnable : Instr → Type 0
IsRunnable (UnitInt n d) = pos 1 ≤ℤ d
IsRunnable (UnitFix n d) = pos 1 ≤ℤ d
IsRunnable (Ugen kind) = IsMade kind
IsRunnable _ = Unit {0}

-- the slice stops at this place of the source as the effect says, and these are the frames, the
-- store, the acts and the turns that it leaves
abbrev pub StopsAs : Stop → Effect → Place → Standing → Store → List Act → Type 0
StopsAs (StopsAt time) e place shred store acts =
    e ≡ Stops (At time) place (frames_of (shown shred)) (state_of shred store acts)
StopsAs (StopsOn event) e place shred store acts =
    e ≡ Stops (On event.serial) place (frames_of (shown shred)) (state_of shred store acts)
StopsAs Ended e place shred store acts =
    ((v : Datum) × (e ≡ Over v (state_of shred store acts)))
    ⊎ ((at : Place) × (frames : List Frame) × (e ≡ Stops End at frames (state_of shred store acts)))
StopsAs (Trapped trap at) e place shred store acts =
    e ≡ Breaks trap at (state_of shred store acts)

-- what comes after the instruction at this place of the source is as the effect says, and so is
-- what it leaves
abbrev pub Matches : Then → Effect → Place → Standing → Store → List Act → Type 0
Matches GoesOn e place shred store acts =
    e ≡ Next (frames_of (shown shred)) (state_of shred store acts)
Matches Moves e place shred store acts =
    e ≡ Next (frames_of (shown shred)) (state_of shred store acts)
Matches (Stopped stop) e place shred store acts = StopsAs stop e place shred store acts

-- the same, and the store that it leaves is one that the world stands for
abbrev pub Follows : Then → Effect → Place → Standing → Parts → List Act → Type 0
Follows then e place shred world acts =
    HasStore world (λ store. Matches then e place shred store acts)

-- what comes after an instruction, by its course and the stop
abbrev pub joined : Course → Stop → Then
joined Ahead stop = GoesOn
joined Apart stop = GoesOn
joined Elsewhere stop = Moves
joined IsOver stop = Stopped stop

-- where the answer says so, the shred goes on with its next instruction
abbrev pub IsAhead : Course → (old new : Standing) → Type 0
IsAhead Ahead old new = (shown new).top.place ≡ (shown old).top.place + 1
IsAhead _ old new = Unit {0}

-- the same function goes on at the next place
pub record IsBehind (old new : Standing) : Type 0 where
  pub fun : (shown new).top.fun ≡ (shown old).top.fun
  pub place : (shown new).top.place ≡ (shown old).top.place + 1

-- a shred that waits goes on behind its wait, and one that trapped has the frames beneath as they were
abbrev pub StopsBehind : Stop → (old new : Standing) → Type 0
StopsBehind (StopsAt time) old new = IsBehind old new
StopsBehind (StopsOn event) old new = IsBehind old new
StopsBehind Ended old new = Unit {0}
StopsBehind (Trapped trap place) old new = new.below ≡ old.below

-- the function that runs stays the same one, where the answer says so
abbrev pub Stays : Then → (old new : Standing) → Type 0
Stays GoesOn old new = (shown new).top.fun ≡ (shown old).top.fun
Stays Moves old new = Unit {0}
Stays (Stopped stop) old new = StopsBehind stop old new

-- the shred is the same one, and its slice too
pub record IsSame (old new : Standing) : Type 0 where
  pub number : (shown new).number ≡ (shown old).number
  pub parent : (shown new).parent ≡ (shown old).parent
  pub last : (shown new).last ≡ (shown old).last

-- the shred before its next instruction, with these locals and operands
abbrev pub next_standing : Standing → (locals operands : List Value) → Standing
next_standing shred locals operands =
    record shred { top = held_frame shred.top.fun (shred.top.place + 1) locals operands }

-- what a step on the top operand gives
abbrev pub of_top : {A : Type 0} → List Datum → (Datum → Try A) → Try A
of_top [] go = Misfit
of_top (v ∷ beneath) go = go v

-- what a step on the two topmost operands gives, the lower one first
abbrev pub of_two : {A : Type 0} → List Datum → (Datum → Datum → Try A) → Try A
of_two [] go = Misfit
of_two (y ∷ under) go = of_top under (λ x. go x y)

-- what a step gives on what an operator makes of a variable's old value and of an operand
abbrev pub updated : {A : Type 0} → (old : Try Datum) → Op2 → (Datum → Try A) → (operand : Datum) →
    Try A
updated old o put e = and_then old (λ v. and_then (binary o v e) put)

-- the step gave a value, which was put on these operands before the next instruction
abbrev pub IsPut : Try Datum → (old : Standing) → (beneath : List Datum) → (new : Standing) → Type 0
IsPut (Gives v) old beneath new =
    let s = shown old in
    shown new ≡ record s { top = frame s.top.fun (s.top.place + 1) s.top.locals (v ∷ beneath) }
IsPut (Fails trap) old beneath new = ⊥
IsPut Misfit old beneath new = ⊥
