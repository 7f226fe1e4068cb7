use Rattle.std.proofs.Common.{◌≡◌, ◌++◌, ◌+◌, ◌*◌, max, drop, vec_len}
use Rattle.ck_typed.specs.declared.expr.TypedExpr.{size-TypedExpr}
use Rattle.ck_scheme.specs.Scheme.{args_end, args_code}
use Rattle.ck_typed.specs.View.{exprs_of}
use Rattle.emit_code.proofs.expr.+exprs.Given as goal

abbrev pub invariant-emit_all-loop-e : goal.invariant-emit_all-loop-e
invariant-emit_all-loop-e l = record {
  len : args_end l.tables.classes.now (vec_len l.code) (exprs_of (drop l.e-index l.all))
      ≡ args_end l.tables.classes.now (vec_len l.initial.code) (exprs_of l.all);
  code : l.code.items
      ++ args_code l.tables.classes.now l.tables.texts.now (vec_len l.code) (exprs_of (drop l.e-index l.all))
      ≡ l.initial.code.items
      ++ args_code l.tables.classes.now l.tables.texts.now (vec_len l.initial.code) (exprs_of l.all);
}

abbrev pub decreases-emit_expr : goal.decreases-emit_expr
decreases-emit_expr l = 4 * size-TypedExpr l.e.now

abbrev pub decreases-emit_all : goal.decreases-emit_all
decreases-emit_all l = 4 * goal.size-emit_all l + 2

abbrev pub decreases-emit_and : goal.decreases-emit_and
decreases-emit_and l = 4 * max (size-TypedExpr l.left.now) (size-TypedExpr l.right.now) + 2

abbrev pub decreases-emit_or : goal.decreases-emit_or
decreases-emit_or l = 4 * max (size-TypedExpr l.left.now) (size-TypedExpr l.right.now) + 2

abbrev pub decreases-emit_choice : goal.decreases-emit_choice
decreases-emit_choice l =
    4 * max (size-TypedExpr l.test.now)
    (max (size-TypedExpr l.then.now) (size-TypedExpr l.otherwise.now)) + 2

abbrev pub decreases-emit_assign : goal.decreases-emit_assign
decreases-emit_assign l = 4 * max (goal.size-emit_assign l) (size-TypedExpr l.value.now) + 3

abbrev pub decreases-emit_updated : goal.decreases-emit_updated
decreases-emit_updated l = 4 * max (goal.size-emit_updated l) (size-TypedExpr l.value.now) + 3

abbrev pub decreases-emit_declared : goal.decreases-emit_declared
decreases-emit_declared l =
    4 * max (goal.size-emit_declared l)
    (max (size-TypedExpr l.value.now) (size-TypedExpr l.declaration.now)) + 3

abbrev pub decreases-emit_prefix : goal.decreases-emit_prefix
decreases-emit_prefix l = 4 * goal.size-emit_prefix l + 3

abbrev pub decreases-emit_postfix : goal.decreases-emit_postfix
decreases-emit_postfix l = 4 * goal.size-emit_postfix l + 3

abbrev pub decreases-emit_objects : goal.decreases-emit_objects
decreases-emit_objects l = 4 * size-TypedExpr l.size.now + 2

abbrev pub decreases-emit_units : goal.decreases-emit_units
decreases-emit_units l = 4 * size-TypedExpr l.size.now + 2

abbrev pub decreases-emit_call_of : goal.decreases-emit_call_of
decreases-emit_call_of l = 4 * max (goal.size-emit_call_of l) (size-TypedExpr l.object.now) + 3

abbrev pub decreases-emit_spork_of : goal.decreases-emit_spork_of
decreases-emit_spork_of l = 4 * max (goal.size-emit_spork_of l) (size-TypedExpr l.object.now) + 3
