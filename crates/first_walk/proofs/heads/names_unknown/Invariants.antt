use Rattle.std.proofs.Common.{false}
use Rattle.type_table.proofs.Walks.{Ran}
use Rattle.first_walk.proofs.MemberWalks.{one_unknown}
use Rattle.first_walk.proofs.heads.names_unknown.Given as goal

abbrev pub invariant-loop-param : goal.invariant-loop-param
invariant-loop-param l = Ran (one_unknown l.table l.file) false l.params l.param-index false
