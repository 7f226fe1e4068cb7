use Rattle.std.proofs.Common.{ap}
use Rattle.ck_typed.specs.View.{view_expr}
use Rattle.check_decls.proofs.Printed.{one_more_item}
use Rattle.check_decls.proofs.print.items.Goals as goal

pub loop-value-preserved : goal.loop-value-preserved
loop-value-preserved c =
    one_more_item c.loop-value.items.items c.push.new.items.items c.into_inner.result
    c.loop-value.yielded c.in-Some.value c.in_ok-push.ensures.items
    (ap view_expr c.into_inner.ensures) c.loop-value.invariant
