use Rattle.std.proofs.Common.{◌∙◌, ap}
use Rattle.ck_typed.specs.View.{view_expr}
use Rattle.check_operations.proofs.TypedLists.{one_more_taken}
use Rattle.check_operations.proofs.arrays.all_taken_as.Goals as goal

pub loop-value-preserved : goal.loop-value-preserved
loop-value-preserved c =
    one_more_taken c.loop-value.taken.items c.push.new.items.items c.into_inner.result c.loop-value.yielded c.in-Some.value c.args.kind
    c.in_ok-push.ensures.items (ap view_expr c.into_inner.ensures ∙ c.in_ok-expr.ensures.made) c.loop-value.invariant
