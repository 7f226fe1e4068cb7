use Rattle.std.proofs.Common.{◌≡◌, ◌≤◌, ℕ, [], length, drop, refl, ap, ◌∙◌, arith}
use Rattle.ck_code.specs.Machine.{taken}
use Rattle.ck_store.specs.Store.{IsFitting}
use Rattle.shred_state.specs.Frames.{Standing}
use Rattle.machine_world.specs.Scenes.{scene}
use Rattle.machine_world.specs.Shown.{shown, operands_of}
use Rattle.machine_world.specs.Steps.{next_standing}
use Rattle.machine_world.specs.declared.course.Then.TheVariants.{GoesOn}
use Rattle.machine_world.proofs.Numbered.{length-meant}
use Rattle.machine_world.proofs.Taken.{taken_within}
use Rattle.rare_steps.proofs.Carried.{carries_between}
use Rattle.rare_steps.proofs.Found.{print_fits}
use Rattle.rare_steps.proofs.Printed.{prints}
use Rattle.rare_steps.proofs.print.print.Goals as goal

within : (shred : Standing) (n : ℕ) → IsFitting (taken n [] (operands_of shred))
    → n ≤ length shred.top.operands
unfolding shown
within shred n fits =
    omega (arith, length-meant shred.top.operands, taken_within n [] (operands_of shred) fits)

pub line_of-requires : goal.line_of-requires
line_of-requires c =
    within c.args.shred.now _ (print_fits _ _ _ c.args.kinds.now c.requires.is c.requires.can.can.can)

pub drop_operands-requires : goal.drop_operands-requires
drop_operands-requires c =
    within c.args.shred.now _ (print_fits _ _ _ c.args.kinds.now c.requires.is c.requires.can.can.can)

pub returns : goal.returns
returns c =
    let code = c.args.code.now in
    let kinds = c.args.kinds.now in
    let old = c.args.shred.now in
    let acts = c.args.acts.now in
    let line = c.in_ok-line.line in
    let new : c.go_on.new.shred
    ≡ next_standing old old.top.locals (drop (length kinds) old.top.operands) =
    c.go_on.ensures.next
    ∙ ap (λ (s : Standing). next_standing s s.top.locals s.top.operands) c.drop_operands.ensures in
    record {
      carries = λ world.
          carries_between code c.args.at.now c.go_on.result GoesOn (scene old world acts)
          (scene old world acts) (scene c.go_on.new.shred world c.push.new.self) _
          c.go_on.ensures.then refl
          (ap (λ s. scene s world c.push.new.self) new
          ∙ ap (scene (next_standing old old.top.locals (drop (length kinds) old.top.operands)) world)
          c.in_ok-push.ensures)
          (prints code c.args.at.now kinds old world acts line c.requires.is
          (print_fits _ _ _ kinds c.requires.is c.requires.can.can.can) c.in_ok-line.ensures);
    }
