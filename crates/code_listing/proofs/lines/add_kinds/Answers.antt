use Rattle.std.proofs.Common.{refl}
use Rattle.std.proofs.Math.Seq.{take-length}
use Rattle.code_listing.proofs.Grown.{kind_added, kinds_over}
use Rattle.code_listing.proofs.Kept.{keeps_longer, on_err}
use Rattle.code_listing.proofs.lines.add_kinds.Goals as goal

pub loop-kind-init : goal.loop-kind-init
loop-kind-init c = record { left = refl; kept = take-length c.args.into.now.items }

pub loop-kind-preserved : goal.loop-kind-preserved
loop-kind-preserved c = record {
  left = kind_added c.args.classes.now c.args.kinds.now c.loop-kind.kind-index _ _ _ _ _
      c.loop-kind-test.true c.loop-kind.invariant.left c.in_ok-push.ensures.items
      c.in_ok-add_kind.ensures.ok;
  kept = rw (c.in_ok-add_kind.ensures.ok, c.in_ok-push.ensures.items)
      (keeps_longer _ _ _ (keeps_longer _ _ _ c.loop-kind.invariant.kept));
}

pub returns-clause-ok : goal.returns-clause-ok
returns-clause-ok c = kinds_over c.args.classes.now c.args.kinds.now c.loop-kind.kind-index _ _
    c.loop-kind-test.false c.loop-kind.invariant.left

pub returns-in_err-add_kind-clause-err : goal.returns-in_err-add_kind-clause-err
returns-in_err-add_kind-clause-err c = on_err c.from_residual-in_err-add_kind.result
    (rw (c.in_err-add_kind.ensures.err, c.in_ok-push.ensures.items)
    (keeps_longer _ _ _ c.loop-kind.invariant.kept))
