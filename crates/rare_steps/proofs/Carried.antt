-- An instruction that was carried out where there was memory for it.
use Rattle.std.proofs.Common.{◌≡◌, ◌∙◌, refl, ap, sym, subst, List, [], ◌∷◌, drop, Some, slice_get, unwrap_or, Result}
use Rattle.std.proofs.Common.{Ok, Err, IfOk, OnOk}
use Rattle.ck_values.specs.declared.value.Value.{Value}
use Rattle.ck_code.specs.declared.code.CodeParts.{CodeParts}
use Rattle.ck_code.specs.declared.code.Step.{Step}
use Rattle.ck_store.specs.Store.{Store}
use Rattle.fixed_point.specs.declared.memory.Memory.{Memory}
use Rattle.shred_state.specs.Frames.{Standing}
use Rattle.machine_world.specs.Scenes.{Scene, scene, effect_over, Carries, CarriesIn, CarriesAlone}
use Rattle.machine_world.specs.Steps.{Follows, IsSame, Stays}
use Rattle.machine_world.specs.Worlds.{Parts, StandsFor}
use Rattle.machine_world.specs.declared.acts.Act.{Act}
use Rattle.machine_world.specs.declared.course.Then.{Then}
use Rattle.machine_world.proofs.Results.{ok_then}

pub carried : (result : Result Then Memory) (code : CodeParts) (step : Step) (old new : Scene)
    → OnOk result (IsSame old.shred new.shred)
    → IfOk result (λ then. Stays then old.shred new.shred) → new.world.ran ≡ old.world.ran
    → ((store : Store) → StandsFor old.world store → IfOk result (λ then.
    Follows then (effect_over code step old store) step.place new.shred new.world new.acts))
    → IfOk result (λ then. Carries code step then old new)
carried (Ok then) code step old new same stays ran follows =
    record { follows = follows; same = same; stays = stays; ran = ran }
carried (Err memory) code step old new same stays ran follows = tt

-- the same of one that looks at the shred and the world alone
pub carried_in : (result : Result Then Memory) (step : Step) (before after : Parts)
    (old new : Standing) → OnOk result (IsSame old new)
    → IfOk result (λ then. Stays then old new) → after.ran ≡ before.ran
    → ((code : CodeParts) (acts : List Act) (store : Store) → StandsFor before store →
    IfOk result (λ then. Follows then (effect_over code step (scene old before acts) store)
    step.place new after acts))
    → IfOk result (λ then. CarriesIn before step then old new after)
carried_in (Ok then) step before after old new same stays ran follows = λ code acts.
    record { follows = follows code acts; same = same; stays = stays; ran = ran }
carried_in (Err memory) step before after old new same stays ran follows = tt

-- and of one that looks at the shred alone
pub carried_alone : (result : Result Then Memory) (step : Step) (old new : Standing)
    → OnOk result (IsSame old new) → IfOk result (λ then. Stays then old new)
    → ((world : Parts) (code : CodeParts) (acts : List Act) (store : Store) →
    StandsFor world store → IfOk result (λ then. Follows then
    (effect_over code step (scene old world acts) store) step.place new world acts))
    → IfOk result (λ then. CarriesAlone step then old new)
carried_alone (Ok then) step old new same stays follows = λ world code acts.
    record { follows = follows world code acts; same = same; stays = stays; ran = refl }
carried_alone (Err memory) step old new same stays follows = tt

-- from where it began to where it came
pub carries_between : (code : CodeParts) (step : Step) (then goes : Then) (old was new comes : Scene)
    → then ≡ goes → old ≡ was → new ≡ comes → Carries code step goes was comes
    → Carries code step then old new
carries_between code step then goes old was new comes is began came so =
    subst (λ then. Carries code step then old new) (sym is)
    (subst (λ s. Carries code step goes s new) (sym began)
    (subst (λ s. Carries code step goes was s) (sym came) so))

-- the two operands on the top, and those beneath
pub split_two : (operands : List Value) (v w : Value) → slice_get operands 0 ≡ Some v
    → slice_get operands 1 ≡ Some w → operands ≡ v ∷ w ∷ drop 2 operands
split_two [] v w top under = absurd (cc)
split_two (x ∷ []) v w top under = absurd (cc)
split_two (x ∷ y ∷ operands) v w top under =
    ap (λ x. x ∷ y ∷ operands) (ap (λ o. unwrap_or o x) top)
    ∙ ap (λ y. v ∷ y ∷ operands) (ap (λ o. unwrap_or o y) under)

-- what was carried out for all code and acts was for these
pub in_scene : (result : Result Then Memory) (code : CodeParts) (acts : List Act) (step : Step)
    (old new : Standing) (before after : Parts)
    → IfOk result (λ then. CarriesIn before step then old new after)
    → IfOk result (λ then. Carries code step then (scene old before acts) (scene new after acts))
in_scene result code acts step old new before after =
    ok_then result (λ then. CarriesIn before step then old new after) _ (λ then all. all code acts)

pub alone_in_scene : (result : Result Then Memory) (code : CodeParts) (acts : List Act)
    (step : Step) (old new : Standing) (world : Parts)
    → IfOk result (λ then. CarriesAlone step then old new)
    → IfOk result (λ then. Carries code step then (scene old world acts) (scene new world acts))
alone_in_scene result code acts step old new world =
    ok_then result (λ then. CarriesAlone step then old new) _ (λ then all. all world code acts)

pub ruleset arms = (in_scene, alone_in_scene)
