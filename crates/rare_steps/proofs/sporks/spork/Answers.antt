use Rattle.std.proofs.Common.{◌≡◌, [], ◌∷◌, ◌++◌, drop, slice_get, ap, refl, ◌∙◌, arith}
use Rattle.ck_values.specs.declared.value.Value.TheVariants.{Shred as Number}
use Rattle.ck_code.proofs.Standing.{found_is}
use Rattle.shred_state.specs.Frames.{Standing, with_operands}
use Rattle.machine_world.specs.Scenes.{scene}
use Rattle.machine_world.specs.Shown.{shown, operands_of}
use Rattle.machine_world.specs.Steps.{next_standing}
use Rattle.machine_world.specs.declared.acts.Act.TheVariants.{Spork as Begun}
use Rattle.machine_world.specs.declared.course.Stop.TheVariants.{Trapped}
use Rattle.machine_world.specs.declared.course.Then.TheVariants.{GoesOn, Stopped}
use Rattle.machine_world.proofs.Numbered.{length-meant}
use Rattle.machine_world.proofs.Taken.{taken_within}
use Rattle.rare_steps.proofs.Carried.{carries_between}
use Rattle.rare_steps.proofs.Sporked.{spork_at, no_turn, still_takes, child_begins, none_begins}
use Rattle.rare_steps.proofs.sporks.spork.Goals as goal

pub returns-then-not-spend : goal.returns-then-not-spend
returns-then-not-spend c =
    let spent = c.if-not-spend.ensures {u = tt} in
    record {
      carries = no_turn c.args.code.now c.args.at.now c.args.fun c.args.shred.now c.spend.new.self
          c.args.world.now c.args.acts.now c.requires.arguments spent.none spent.same;
    }

pub returns-in-Err : goal.returns-in-Err
returns-in-Err c =
    let code = c.args.code.now in
    let at = c.args.at.now in
    let g = c.args.fun in
    let old = c.args.shred.now in
    let left = c.spend.new.self in
    let before = c.args.world.now in
    let acts = c.args.acts.now in
    let trap = c.in-Err.trap in
    let then = Stopped (Trapped trap at.place) in
    let fn = found_is (slice_get code.funs g) _ c.requires.arguments in
    let spent = (c.if-not-spend.ensures {u = tt}).spent in
    let none = c.in-Err.ensures {u = tt} in
    let takes = still_takes code g fn.0 old left fn.1 c.requires.arguments spent in
    record {
      carries = carries_between code (spork_at at g) then then (scene old before acts) _
          (scene left c.spork.new.self acts) _ refl (ap (λ s. scene s before acts) spent) refl
          (none_begins code at g fn.0 left before c.spork.new.self acts fn.1 takes trap none.full
          none.limit none.same);
    }

pub take_operands-requires : goal.take_operands-requires
unfolding shown
take_operands-requires c =
    let fn = c.fun_at.result.now in
    let spent = (c.if-not-spend.ensures {u = tt}).spent in
    omega (
      arith,
      length-meant c.spend.new.self.top.operands,
      taken_within fn.params [] (operands_of c.spend.new.self)
          (still_takes c.args.code.now c.args.fun fn c.args.shred.now c.spend.new.self c.fun_at.ensures
          c.requires.arguments spent),
    )

pub returns : goal.returns
returns c =
    let code = c.args.code.now in
    let at = c.args.at.now in
    let g = c.args.fun in
    let fn = c.fun_at.result.now in
    let old = c.args.shred.now in
    let left = c.spend.new.self in
    let before = c.args.world.now in
    let after = c.spork.new.self in
    let acts = c.args.acts.now in
    let id = c.in-Ok.id in
    let operands = Number id ∷ drop fn.params left.top.operands in
    let spent = (c.if-not-spend.ensures {u = tt}).spent in
    let one = c.in-Ok.ensures {u = tt} in
    let takes = still_takes code g fn old left c.fun_at.ensures c.requires.arguments spent in
    let pushed : c.push-2.new.self ≡ with_operands left operands =
    (c.in_ok-push-2.ensures {u = tt}).pushed
    ∙ ap (λ (s : Standing). with_operands s (Number id ∷ s.top.operands)) c.in_ok-args.ensures.left in
    let new : c.go_on.new.shred ≡ next_standing left left.top.locals operands =
    c.go_on.ensures.next
    ∙ ap (λ (s : Standing). next_standing s s.top.locals s.top.operands) pushed in
    let recorded = c.in_ok-push.ensures
    ∙ ap (λ values. acts ++ Begun id g values ∷ []) c.in_ok-args.ensures.taken in
    record {
      carries = carries_between code (spork_at at g) c.go_on.result GoesOn (scene old before acts) _
          (scene c.go_on.new.shred after c.push.new.self) _ c.go_on.ensures.then
          (ap (λ s. scene s before acts) spent)
          (ap (λ s. scene s after c.push.new.self) new
          ∙ ap (scene (next_standing left left.top.locals operands) after) recorded)
          (child_begins code at g fn left before after acts c.fun_at.ensures takes id one.room
          one.number one.new);
    }
