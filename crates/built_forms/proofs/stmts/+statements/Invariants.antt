use Rattle.std.proofs.Common.{true}
use Rattle.type_table.proofs.Walks.{Ran}
use Rattle.built_forms.proofs.Runs.{one_stmt}
use Rattle.built_forms.proofs.stmts.+statements.Given as goal

abbrev pub invariant-are_stmts_built-loop-s : goal.invariant-are_stmts_built-loop-s
invariant-are_stmts_built-loop-s l = Ran one_stmt true l.all l.s-index true
