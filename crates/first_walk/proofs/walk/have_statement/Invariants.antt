use Rattle.std.proofs.Common.{false}
use Rattle.type_table.proofs.Walks.{Ran}
use Rattle.first_walk.proofs.MemberWalks.{one_statement}
use Rattle.first_walk.proofs.walk.have_statement.Given as goal

abbrev pub invariant-loop-member : goal.invariant-loop-member
invariant-loop-member l = Ran one_statement false l.members l.member-index false
