-- Lines of instructions on ints, with the int on the top held apart.
use Rattle.std.specs.Prelude.{◌≡◌, ℕ, ℤ, ◌+◌, ◌≤◌, List, ◌∷◌, Some, slice_get}
use Rattle.ck_values.specs.declared.operator.Op2.{Op2}
use Rattle.ck_values.specs.declared.value.Value.TheVariants.{Int as AValue}
use Rattle.ck_values.specs.Datum.{Datum, AnInt}
use Rattle.ck_store.specs.Operators.{binary}
use Rattle.ck_store.specs.Steps.{local_of, with_local}
use Rattle.ck_store.specs.Store.{State, Gives, IsFitting}
use Rattle.ck_code.specs.declared.instr.Instr.{Instr}
use Rattle.ck_code.specs.declared.instr.Instr.TheVariants.{Int, Local, Op2 as OnTwo}
use Rattle.ck_code.specs.declared.code.Step.{Step}
use Rattle.ck_code.specs.declared.code.CodeParts.{CodeParts}
use Rattle.ck_code.specs.Potential.{potential}
use Rattle.shred_state.specs.Frames.{Standing, frame}
use Rattle.machine_world.specs.Shown.{shown, frames_of}
use Rattle.loop_steps.specs.Runs.{IsOver, run_of, begun_by}
use Rattle.machine_world.specs.Worlds.{counted}

-- where it reads a local, the local is there
abbrev pub CanPut : Instr → (locals : List Datum) → Type 0
CanPut (Local i) locals = IsFitting (local_of locals i)
CanPut _ locals = Unit {0}

-- it puts this int on the top
abbrev pub PutsInt : Instr → (locals : List Datum) → ℤ → Type 0
PutsInt (Int m) locals n = m ≡ n
PutsInt (Local i) locals n = local_of locals i ≡ Gives (AnInt n)
PutsInt _ locals n = ⊥

-- the instruction at this place is an operator that gives this for two ints
pub record HasOperated (steps : List Step) (place : ℕ) (a b n : ℤ) : Type 0 where
  pub at : Step
  pub found : slice_get steps place ≡ Some at
  pub operator : Op2
  pub is : at.instr ≡ OnTwo operator
  pub gives : binary operator (AnInt a) (AnInt b) ≡ Gives (AnInt n)

-- a local was an int, and is now what the operator gives for it and another one
pub record HasUpdated (locals : List Datum) (i : ℕ) (o : Op2) (b n : ℤ) (new : List Datum)
    : Type 0 where
  pub a : ℤ
  pub was : local_of locals i ≡ Gives (AnInt a)
  pub gives : binary o (AnInt a) (AnInt b) ≡ Gives (AnInt n)
  pub set : with_local locals i (AnInt n) ≡ Gives new

-- the shred with this int on the top, at this place
abbrev pub holding : Standing → ℤ → (place : ℕ) → Standing
holding shred n place = record shred {
  top = frame shred.top.fun place shred.top.locals (AValue n ∷ shred.top.operands);
}

-- the state with the turns of this shred
abbrev pub state_with : State → Standing → State
state_with s shred = record s { turns = (shown shred).turns }

-- some instructions later a slice is over too, and ends alike; of those that it begins so many were
-- counted before, so many stand in a line that isn't counted yet, and all come to the same count; what
-- it can do yet is no more
pub record HasGoneOn (code : CodeParts) (ran line : ℕ) (old : Standing) (s : State)
    (ran1 line1 : ℕ) (new : Standing) (s1 : State) : Type 0 where
  pub over : IsOver (run_of code new s1)
  pub alike : run_of code new s1 ≡ run_of code old s
  pub counts : counted ran1 (line1 + begun_by code new s1)
      ≡ counted ran (line + begun_by code old s)
  pub lower : potential code s1.turns (frames_of (shown new))
      ≤ potential code s.turns (frames_of (shown old))
