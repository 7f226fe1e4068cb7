-- An array of operands that were taken.
use Rattle.std.proofs.Common.{◌≡◌, ℕ, ◌+◌, Bool, true, false, List, [], ◌∷◌, take, drop, reverse, refl, ap, sym, ◌∙◌}
use Rattle.std.proofs.lemmas.List.{append-nil as append_nil, take-map, drop-map}
use Rattle.ck_values.specs.declared.kind.Elem.{Elem}
use Rattle.ck_values.specs.declared.reference.Ref.{Ref}
use Rattle.ck_values.specs.declared.trap.Trap.{Trap}
use Rattle.ck_values.specs.declared.value.Value.{Value}
use Rattle.ck_values.specs.declared.value.Value.TheVariants.{Ref as To}
use Rattle.ck_values.specs.Datum.{Datum, ARef, meant, all_meant}
use Rattle.ck_store.specs.Store.{State, Store, Try, Gives, Fails, IsFitting}
use Rattle.ck_store.specs.Objects.{Made}
use Rattle.ck_store.specs.Arrays.{array_made}
use Rattle.ck_code.specs.declared.code.CodeParts.{CodeParts}
use Rattle.ck_code.specs.declared.code.Step.{Step}
use Rattle.ck_code.specs.Machine.{Effect, Next, Breaks, frame, Taken, taken, tried, makes_array, pushes_made}
use Rattle.machine_world.specs.Scenes.{Scene, state_over, effect_over}
use Rattle.machine_world.specs.Shown.{shown, operands_of, frames_of}
use Rattle.machine_world.specs.Steps.{effect_in, next_standing}
use Rattle.machine_world.proofs.Changed.{action_on}
use Rattle.machine_world.proofs.Taken.{taken_all, taken_gives}
use Rattle.rare_steps.specs.Rare.{literal}

-- the operands that are taken, the deepest first, and what they mean
pub meant_taken : (n : ℕ) (operands : List Value)
    → all_meant (reverse (take n operands)) ≡ reverse (take n (all_meant operands))
meant_taken n operands =
    let front = take n operands in
    let values = all_meant front in
    taken_all front (reverse front) 0 [] values refl refl (append_nil values)
    ∙ ap reverse (sym (take-map meant n operands))

-- an instruction that makes an array of so many operands, once they are taken
module _ (code : CodeParts) (step : Step) (now : Scene) (e : Elem) (two : Bool) (n : ℕ)
    (store : Store) (values : List Value) (is : step.instr ≡ literal e two n)
    (fits : IsFitting (taken n [] (operands_of now.shred)))
    (are : values ≡ reverse (take n now.shred.top.operands)) where
  abbrev state : State
  state = state_over store now

  abbrev made_then : Try Made → Effect
  made_then made =
      let s = shown now.shred in
      pushes_made made step.place s.top.fun s.top.place s.top.locals (drop n s.top.operands) s.below
      state

  makes : (two : Bool) → effect_in code (literal e two n) step.place (shown now.shred) state
      ≡ action_on (makes_array step.place e two n) now.shred store now.acts
  makes true = refl
  makes false = refl

  made_first : effect_over code step now store ≡ made_then (array_made e two (all_meant values) store)
  unfolding shown
  made_first =
      let s = shown now.shred in
      ap (λ instr. effect_in code instr step.place s state) is
      ∙ makes two
      ∙ ap (λ t. tried t step.place state (λ (t : Taken).
      pushes_made (array_made e two t.arguments store) step.place s.top.fun s.top.place
      s.top.locals t.beneath s.below state)) (taken_gives n s.top.operands fits)
      ∙ ap (λ vs. made_then (array_made e two vs store))
      (sym (ap all_meant are ∙ meant_taken n now.shred.top.operands))

  -- it is pushed
  pub array_pushed : (later : Store) (at : Ref) → array_made e two (all_meant values) store
      ≡ Gives (record { reference = ARef at.serial; store = later })
      → let top = now.shred.top in effect_over code step now store
      ≡ Next (frames_of (shown (next_standing now.shred top.locals (To at ∷ drop n top.operands))))
      (state_over later now)
  unfolding shown
  array_pushed later at made =
      let s = shown now.shred in
      let goes : List Datum → Effect = λ beneath.
      Next (frame s.top.fun (s.top.place + 1) s.top.locals (ARef at.serial ∷ beneath) ∷ s.below)
      (state_over later now) in
      made_first ∙ ap made_then made ∙ ap goes (drop-map meant n now.shred.top.operands)

  -- or there may be no more objects
  pub array_refused : (trap : Trap) → array_made e two (all_meant values) store ≡ Fails trap
      → effect_over code step now store ≡ Breaks trap step.place state
  array_refused trap fails = made_first ∙ ap made_then fails
