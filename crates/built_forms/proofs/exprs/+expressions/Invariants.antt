use Rattle.std.proofs.Common.{true}
use Rattle.type_table.proofs.Walks.{Ran}
use Rattle.built_forms.proofs.Runs.{one_expr, one_bracket}
use Rattle.built_forms.proofs.exprs.+expressions.Given as goal

abbrev pub invariant-are_brackets_built-loop-bracket : goal.invariant-are_brackets_built-loop-bracket
invariant-are_brackets_built-loop-bracket l = Ran one_bracket true l.all l.bracket-index true

abbrev pub invariant-are_exprs_built-loop-e : goal.invariant-are_exprs_built-loop-e
invariant-are_exprs_built-loop-e l = Ran one_expr true l.all l.e-index true
