use Rattle.std.proofs.Common.{refl}
use Rattle.std.proofs.Math.Seq.{take-length}
use Rattle.code_listing.proofs.Grown.{fun_added, funs_over}
use Rattle.code_listing.proofs.Kept.{keeps_longer, keeps_through, on_err}
use Rattle.code_listing.proofs.lines.add_funs.Goals as goal

pub loop-number-init : goal.loop-number-init
loop-number-init c = record { left = refl; kept = take-length c.args.into.now.items }

pub loop-number-preserved : goal.loop-number-preserved
loop-number-preserved c = record {
  left = fun_added c.args.classes.now c.args.funs.now c.loop-number.number
      c.index-funs-number.result _ _ _ c.loop-number-test.true c.index-funs-number.is
      c.loop-number.invariant.left c.in_ok-add_fun.ensures.ok;
  kept = rw c.in_ok-add_fun.ensures.ok (keeps_longer _ _ _ c.loop-number.invariant.kept);
}

pub returns-in_err-add_fun-clause-err : goal.returns-in_err-add_fun-clause-err
returns-in_err-add_fun-clause-err c =
    on_err c.from_residual.result
    (keeps_through _ _ _ c.loop-number.invariant.kept c.in_err-add_fun.ensures.err)

pub returns-clause-ok : goal.returns-clause-ok
returns-clause-ok c = funs_over c.args.classes.now c.args.funs.now c.loop-number.number _ _
    c.loop-number-test.false c.loop-number.invariant.left
