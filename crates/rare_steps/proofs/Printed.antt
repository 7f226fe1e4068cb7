-- What a print leaves.
use Rattle.std.proofs.Common.{◌≡◌, ℕ, ◌+◌, List, [], ◌∷◌, ◌++◌, length, take, drop, reverse, refl, ap, sym, ◌∙◌}
use Rattle.std.proofs.lemmas.List.{map-append, drop-map}
use Rattle.ck_values.specs.declared.kind.Kind.{Kind}
use Rattle.ck_values.specs.Datum.{Datum, meant}
use Rattle.ck_store.specs.Store.{Act as Recorded, Printed, IsFitting}
use Rattle.ck_store.specs.Prints.{print_line, with_line}
use Rattle.ck_code.specs.declared.code.CodeParts.{CodeParts}
use Rattle.ck_code.specs.declared.code.Step.{Step}
use Rattle.ck_code.specs.declared.instr.Instr.TheVariants.{Print}
use Rattle.ck_code.specs.Machine.{Effect, Next, Taken, frame, taken, tried, goes_on}
use Rattle.shred_state.specs.Frames.{Standing}
use Rattle.machine_world.specs.Acts.{act_meant, all_acts_meant}
use Rattle.machine_world.specs.Scenes.{scene, Carries}
use Rattle.machine_world.specs.Shown.{shown, operands_of}
use Rattle.machine_world.specs.Steps.{effect_in, next_standing, state_of}
use Rattle.machine_world.specs.Worlds.{Parts}
use Rattle.machine_world.specs.declared.acts.Act.{Act}
use Rattle.machine_world.specs.declared.acts.Act.TheVariants.{Print as Line}
use Rattle.machine_world.specs.declared.course.Then.TheVariants.{GoesOn}
use Rattle.machine_world.proofs.Taken.{taken_gives}

-- the operands are taken, and the line is recorded
pub prints : (code : CodeParts) (step : Step) (kinds : List Kind) (old : Standing) (world : Parts)
    (acts : List Act) (line : List ℕ) → step.instr ≡ Print kinds
    → IsFitting (taken (length kinds) [] (operands_of old))
    → line ≡ print_line code.classes kinds (reverse (take (length kinds) (operands_of old)))
    → Carries code step GoesOn (scene old world acts) (scene
    (next_standing old old.top.locals (drop (length kinds) old.top.operands)) world
    (acts ++ Line line ∷ []))
unfolding shown
prints code step kinds old world acts line is fits is_line = record {
  follows = λ store stands.
      let s = shown old in
      let n = length kinds in
      let state = state_of old store acts in
      let goes : List Datum → List Recorded → Effect = λ left recorded.
      Next (frame s.top.fun (s.top.place + 1) s.top.locals left ∷ s.below)
      (record state { acts = recorded }) in
      record {
        store = store;
        stands = stands;
        so = ap (λ instr. effect_in code instr step.place s state) is
            ∙ ap (λ t. tried t step.place state (λ (t : Taken).
            goes_on s.top.fun s.top.place s.top.locals t.beneath s.below
            (with_line (print_line code.classes kinds t.arguments) state)))
            (taken_gives n s.top.operands fits)
            ∙ ap (λ l. goes (drop n s.top.operands) (all_acts_meant acts ++ Printed l ∷ []))
            (sym is_line)
            ∙ ap (goes (drop n s.top.operands)) (sym (map-append act_meant acts (Line line ∷ [])))
            ∙ ap (λ left. goes left (all_acts_meant (acts ++ Line line ∷ [])))
            (drop-map meant n old.top.operands);
      };
  same = record { number = refl; parent = refl; last = refl };
  stays = refl;
  ran = refl;
}
