-- Words of proofs: a shred that was changed, by what its values mean, and what is done to it.
use Rattle.std.specs.Prelude.{ℕ, ℤ, negsuc, int_lt, ◌≡◌, List, [], ◌∷◌}
use Rattle.ck_values.specs.declared.kind.Kind.{Kind}
use Rattle.ck_values.specs.Datum.{Datum, first_locals}
use Rattle.ck_store.specs.Store.{State, Store, Try, Gives, Fails, Misfit}
use Rattle.ck_store.specs.Steps.{pick, fresh, and_then}
use Rattle.ck_store.specs.Natives.{Given, operand_count, native}
use Rattle.ck_typed.specs.declared.native.Native.{Native}
use Rattle.ck_code.specs.declared.code.CodeParts.{CodeParts}
use Rattle.ck_code.specs.declared.code.Step.{Step}
use Rattle.ck_code.specs.Machine.{Effect, Action, Taken, frame, taken}
use Rattle.shred_state.specs.Frames.{Standing}
use Rattle.machine_world.specs.Shown.{Shown, shown}
use Rattle.machine_world.specs.Steps.{effect_in, state_of, of_two}
use Rattle.machine_world.specs.declared.acts.Act.{Act}

-- a shred before its first slice, which will run a function on these arguments
abbrev pub newly_shown : (number parent fun : ℕ) → List Kind → (arguments : List Datum) → Shown
newly_shown number parent fun kinds arguments = record {
  number = number;
  parent = parent;
  top = frame fun 0 (first_locals kinds arguments) [];
  below = [];
  turns = fresh;
  last = negsuc 0;
}

-- the shred with these operands
abbrev pub with_operands : Shown → List Datum → Shown
with_operands shred operands = record shred { top = record shred.top { operands = operands } }

-- the shred with these locals
abbrev pub with_locals : Shown → List Datum → Shown
with_locals shred locals = record shred { top = record shred.top { locals = locals } }

-- the shred at this place of the function that runs
abbrev pub at_place : Shown → (place : ℕ) → Shown
at_place shred place = record shred { top = record shred.top { place = place } }

-- the shred in its slice at this time, with fresh turns where time has gone on since the last one
abbrev pub resumed_at : (now : ℤ) → Shown → Shown
resumed_at now shred =
    record shred { turns = pick (int_lt shred.last now) fresh shred.turns; last = now }

-- a function with locals of these kinds was entered with the arguments that were taken
abbrev pub IsEntered : Try Taken → (fun : ℕ) → List Kind → (old new : Shown) → Type 0
IsEntered (Gives t) fun kinds old new = new ≡ record old {
  top = frame fun 0 (first_locals kinds t.arguments) [];
  below = record old.top { operands = t.beneath } ∷ old.below;
}
IsEntered (Fails trap) fun kinds old new = ⊥
IsEntered Misfit fun kinds old new = ⊥

-- what an instruction does to a shred, over a store
abbrev pub effect_on : CodeParts → Step → Standing → Store → List Act → Effect
effect_on code step shred store acts =
    effect_in code step.instr step.place (shown shred) (state_of shred store acts)

-- what is done to the shred in place of an instruction
abbrev pub action_on : Action → Standing → Store → List Act → Effect
action_on action shred store acts =
    let s = shown shred in
    action s.top.fun s.top.place s.top.locals s.top.operands s.below (state_of shred store acts)

-- what a step on the three topmost operands gives, the lowest one first
abbrev pub of_three : {A : Type 0} → List Datum → (Datum → Datum → Datum → Try A) → Try A
of_three [] go = Misfit
of_three (z ∷ under) go = of_two under (λ x y. go x y z)

-- what a built-in call gives on the topmost operands
abbrev pub called : Native → List Datum → State → Try Given
called call operands s =
    and_then (taken (operand_count call) [] operands) (λ t. native call t.arguments s)
