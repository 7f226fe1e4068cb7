-- The operand on the top, put once more.
use Rattle.std.proofs.Common.{◌≡◌, List, [], ◌∷◌, refl, ap, ◌∙◌}
use Rattle.ck_values.specs.Datum.{Datum}
use Rattle.ck_code.specs.declared.code.CodeParts.{CodeParts}
use Rattle.ck_code.specs.declared.code.Step.{Step}
use Rattle.ck_code.specs.declared.instr.Instr.TheVariants.{Dup}
use Rattle.ck_code.specs.Machine.{tried, doubles, pushes}
use Rattle.ck_store.specs.Store.{State, Gives}
use Rattle.ck_values.specs.declared.trap.Place.{Place}
use Rattle.shred_state.specs.Frames.{Standing}
use Rattle.machine_world.specs.Scenes.{Scene, scene, state_over, Carries}
use Rattle.machine_world.specs.Shown.{Shown, shown, operands_of}
use Rattle.machine_world.specs.Steps.{effect_in, of_top, IsPut}
use Rattle.machine_world.specs.declared.course.Then.TheVariants.{GoesOn}
use Rattle.machine_world.proofs.Carried.{carries_put}

doubles_so : (s : Shown) (place : Place) (state : State) (operands : List Datum)
    → doubles s.top.fun s.top.place s.top.locals operands s.below state
    ≡ tried (of_top operands (λ v. Gives v)) place state (λ v.
    pushes v s.top.fun s.top.place s.top.locals operands s.below state)
doubles_so s place state [] = refl
doubles_so s place state (v ∷ operands) = refl

pub carries_double : (code : CodeParts) (step : Step) (old : Scene) (new : Standing)
    → step.instr ≡ Dup
    → IsPut (of_top (operands_of old.shred) (λ v. Gives v)) old.shred (operands_of old.shred) new
    → Carries code step GoesOn old (scene new old.world old.acts)
carries_double code step old new is put =
    carries_put code step old new (operands_of old.shred)
    (λ store. of_top (operands_of old.shred) (λ v. Gives v))
    (λ store. ap (λ instr. effect_in code instr step.place (shown old.shred) (state_over store old)) is
    ∙ doubles_so (shown old.shred) step.place (state_over store old) (operands_of old.shred))
    (λ store stands. put)
