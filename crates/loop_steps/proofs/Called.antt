-- A call from where a shred stands, once its turn is spent.
use Rattle.std.proofs.Common.{◌≡◌, ◌<◌, ◌≤◌, ◌+◌, ℕ, suc, List, [], ◌∷◌, Some, length, reverse, take, drop, slice_get, ap, sym, ◌∙◌, subst, arith}
use Rattle.std.proofs.lemmas.Grind.{common_steps}
use Rattle.ck_base.specs.declared.limits.TheConstants.{MAX_CALLS}
use Rattle.ck_values.specs.Datum.{first_locals}
use Rattle.ck_values.specs.declared.trap.Trap.TheVariants.{CallDepth}
use Rattle.ck_code.specs.declared.code.CodeParts.{CodeParts}
use Rattle.ck_code.specs.declared.code.Fun.{Fun}
use Rattle.ck_code.specs.declared.code.Step.{Step}
use Rattle.ck_code.specs.declared.instr.Instr.TheVariants.{Call}
use Rattle.ck_code.specs.Machine.{Effect, Taken, Next, Breaks, frame, tried, with_fun, taken, entered}
use Rattle.ck_store.specs.Steps.{room_for_call}
use Rattle.ck_store.specs.Store.{Store, State, Gives, Fails, IsFitting}
use Rattle.shred_state.specs.Frames.{Standing, at_place, entered as standing_entered}
use Rattle.machine_world.specs.Acts.{all_acts_meant}
use Rattle.machine_world.specs.Scenes.{Scene, scene, effect_over, state_over}
use Rattle.machine_world.specs.Shown.{Shown, shown, frames_of, operands_of}
use Rattle.machine_world.proofs.Changed.{at_place as shown_at, IsEntered}
use Rattle.machine_world.specs.Steps.{state_of}
use Rattle.machine_world.specs.Worlds.{Parts}
use Rattle.machine_world.specs.declared.acts.Act.{Act}
use Rattle.machine_world.proofs.Kept.{length-shown, is_entered}
use Rattle.machine_world.proofs.Taken.{taken_gives}

module _ (code : CodeParts) (step : Step) (g : ℕ) (fn : Fun) (spent : Standing) (world : Parts)
    (acts : List Act) (store : Store) (found : slice_get code.funs g ≡ Some fn)
    (takes : IsFitting (taken fn.params [] (operands_of spent))) where
  abbrev call : Step
  call = record step { instr = Call g }

  abbrev before : Scene
  before = scene (record spent { turns = suc spent.turns }) world acts

  abbrev left : State
  left = state_of spent store acts

  -- its frame above the caller's
  abbrev begins : Taken → Effect
  begins t =
      let top = (shown spent).top in
      Next (frame g 0 (first_locals fn.locals t.arguments) []
      ∷ frame top.fun (top.place + 1) top.locals t.beneath ∷ (shown spent).below) left

  abbrev held : Taken
  held = record {
    arguments = reverse (take fn.params (operands_of spent));
    beneath = drop fn.params (operands_of spent);
  }

  calls_on : effect_over code call before store
      ≡ tried (room_for_call (length (shown spent).below)) step.place left (λ ok. begins held)
  unfolding shown
  calls_on =
      let s = state_over store before in
      let top = (shown spent).top in
      let then : Fun → Taken → Effect = λ fn t.
      entered fn g t.arguments step.place top.fun top.place top.locals t.beneath
      (shown spent).below s in
      ap (λ o. with_fun o (λ fn. tried (taken fn.params [] (operands_of spent)) step.place s (then fn)))
      found
      ∙ ap (λ t. tried t step.place s (then fn)) (taken_gives fn.params (operands_of spent) takes)

  pub calls_begin : (new : Standing) → length spent.below < MAX_CALLS
      → new ≡ standing_entered (at_place spent (spent.top.place + 1)) g fn.params fn.locals
      → effect_over code call before store ≡ Next (frames_of (shown new)) (state_of new store acts)
  unfolding shown
  calls_begin new few is =
      let room : room_for_call (length (shown spent).below) ≡ Gives tt =
      grind (arith, common_steps, length-shown spent.below, few) in
      let back = spent.top.place + 1 in
      let there = subst (λ t. IsEntered t g fn.locals (shown_at (shown spent) back) (shown new))
      (taken_gives fn.params (operands_of spent) takes)
      (is_entered spent new back g fn.params fn.locals takes is) in
      let goes : Shown → Effect = λ (s : Shown).
      Next (frames_of s) (record { store = store; acts = all_acts_meant acts; turns = s.turns }) in
      calls_on
      ∙ ap (λ r. tried r step.place left (λ ok. begins held)) room
      ∙ ap goes (sym there)

  pub calls_break : MAX_CALLS ≤ length spent.below
      → effect_over code call before store ≡ Breaks CallDepth step.place left
  unfolding shown
  calls_break many =
      let full : room_for_call (length (shown spent).below) ≡ Fails CallDepth =
      grind (arith, common_steps, length-shown spent.below, many) in
      calls_on ∙ ap (λ r. tried r step.place left (λ ok. begins held)) full
