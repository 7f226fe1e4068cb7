use Rattle.std.proofs.Common.{Some, []}
use Rattle.type_table.proofs.Walks.{Ran}
use Rattle.first_walk.proofs.MemberWalks.{one_kind}
use Rattle.first_walk.proofs.heads.param_kinds.Given as goal

abbrev pub invariant-loop-param : goal.invariant-loop-param
invariant-loop-param l = Ran (one_kind l.table l.file) (Some []) l.params l.param-index (Some l.kinds.items)
