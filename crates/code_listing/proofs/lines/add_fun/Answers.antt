use Rattle.std.proofs.Common.{refl}
use Rattle.std.proofs.Math.Seq.{take-length}
use Rattle.code_listing.proofs.Grown.{moved, step_added, steps_over}
use Rattle.code_listing.proofs.Kept.{keeps_longer, keeps_through, on_err}
use Rattle.code_listing.proofs.lines.add_fun.Goals as goal

pub loop-place-init : goal.loop-place-init
loop-place-init c = record {
  left = moved _ _ _ _ _ refl c.in_ok-add_fun_line.ensures.ok;
  kept = rw c.in_ok-add_fun_line.ensures.ok
      (keeps_longer _ _ _ (take-length c.args.into.now.items));
}

pub loop-place-preserved : goal.loop-place-preserved
loop-place-preserved c = record {
  left = step_added c.args.classes.now c.args.fun.now.code c.loop-place.place
      c.step-item.result _ _ _ (rw c.items-step-items.ensures at c.loop-place-test.true)
      (rw c.items-step-items.ensures at c.step-item.is) c.loop-place.invariant.left
      c.in_ok-add_step.ensures.ok;
  kept = rw c.in_ok-add_step.ensures.ok (keeps_longer _ _ _ c.loop-place.invariant.kept);
}

pub returns-in_err-add_step-clause-err : goal.returns-in_err-add_step-clause-err
returns-in_err-add_step-clause-err c =
    on_err c.from_residual-in_err-add_step.result
    (keeps_through _ _ _ c.loop-place.invariant.kept c.in_err-add_step.ensures.err)

pub returns-clause-ok : goal.returns-clause-ok
returns-clause-ok c = steps_over c.args.classes.now c.args.fun.now.code c.loop-place.place _ _
    (rw c.items-step-items.ensures at c.loop-place-test.false) c.loop-place.invariant.left
