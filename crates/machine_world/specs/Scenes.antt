-- A shred in its slice, what an instruction needs then, and what carrying it out does.
use Rattle.std.specs.Prelude.{◌-◌, ◌^◌, ◌<◌, ◌≡◌, List}
use Rattle.ck_code.specs.declared.code.CodeParts.{CodeParts}
use Rattle.ck_code.specs.declared.code.Step.{Step}
use Rattle.ck_code.specs.Machine.{Effect}
use Rattle.ck_store.specs.Store.{State, Store}
use Rattle.shred_state.specs.Frames.{Standing}
use Rattle.machine_world.specs.Shown.{shown}
use Rattle.machine_world.specs.Steps.{state_of, effect_in, IsGood, IsRunnable, Follows, IsSame, Stays}
use Rattle.machine_world.specs.Worlds.{Parts, StandsFor}
use Rattle.machine_world.specs.declared.acts.Act.{Act}
use Rattle.machine_world.specs.declared.course.Then.{Then}

-- where the shred stands, the world, and the acts that its slice has recorded
pub record Scene : Type 0 where
  pub shred : Standing
  pub world : Parts
  pub acts : List Act

abbrev pub scene : Standing → Parts → List Act → Scene
scene shred world acts = record { shred = shred; world = world; acts = acts }

-- the scene's state, over a store
abbrev pub state_over : Store → Scene → State
state_over store now = state_of now.shred store now.acts

-- what an instruction leads to there, over a store
abbrev pub effect_over : CodeParts → Step → Scene → Store → Effect
effect_over code step now store =
    effect_in code step.instr step.place (shown now.shred) (state_over store now)

-- the instruction can be carried out: over some store that the world stands for it finds operands
-- that it can take, and there is a place behind it
pub record CanRun (code : CodeParts) (step : Step) (now : Scene) : Type 0 where
  pub store : Store
  pub stands : StandsFor now.world store
  pub good : IsGood (effect_over code step now store)
  pub runs : IsRunnable step.instr
  pub room : now.shred.top.place < 2 ^ 64 - 1

-- the instruction was carried out: over each store that the world stood for, what comes after it
-- and what it leaves are as its effect says; the shred and its slice are the same
pub record Carries (code : CodeParts) (step : Step) (then : Then) (old new : Scene) : Type 0 where
  pub follows : (store : Store) → StandsFor old.world store →
      Follows then (effect_over code step old store) step.place new.shred new.world new.acts
  pub same : IsSame old.shred new.shred
  pub stays : Stays then old.shred new.shred
  pub ran : new.world.ran ≡ old.world.ran

-- the same of an instruction that looks at the shred and the world alone, and changes nothing else:
-- for some code and acts it can be carried out, and for all it was
pub record CanRunIn (world : Parts) (step : Step) (shred : Standing) : Type 0 where
  pub code : CodeParts
  pub acts : List Act
  pub can : CanRun code step (scene shred world acts)

abbrev pub CarriesIn : (before : Parts) → Step → Then → (old new : Standing) → (after : Parts) → Type 0
CarriesIn before step then old new after = (code : CodeParts) (acts : List Act) →
    Carries code step then (scene old before acts) (scene new after acts)

-- and of one that looks at the shred alone
pub record CanRunAlone (step : Step) (shred : Standing) : Type 0 where
  pub world : Parts
  pub can : CanRunIn world step shred

abbrev pub CarriesAlone : Step → Then → (old new : Standing) → Type 0
CarriesAlone step then old new = (world : Parts) → CarriesIn world step then old new world
