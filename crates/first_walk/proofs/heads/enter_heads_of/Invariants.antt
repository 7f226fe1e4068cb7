use Rattle.type_table.proofs.Walks.{Ran}
use Rattle.first_walk.proofs.MemberWalks.{one_head}
use Rattle.first_walk.proofs.heads.enter_heads_of.Given as goal

abbrev pub invariant-loop-member : goal.invariant-loop-member
invariant-loop-member l = Ran (one_head l.file l.class) l.fn.table l.members l.member-index l.table
