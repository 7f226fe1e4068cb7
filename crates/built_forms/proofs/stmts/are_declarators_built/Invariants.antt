use Rattle.std.proofs.Common.{true}
use Rattle.type_table.proofs.Walks.{Ran}
use Rattle.built_forms.proofs.Runs.{one_declr}
use Rattle.built_forms.proofs.stmts.are_declarators_built.Given as goal

abbrev pub invariant-loop-declarator : goal.invariant-loop-declarator
invariant-loop-declarator l = Ran one_declr true l.all l.declarator-index true
