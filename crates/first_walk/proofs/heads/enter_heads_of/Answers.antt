use Rattle.std.proofs.Common.{◌∙◌, sym}
use Rattle.ck_syntax.specs.Tree.{no_members}
use Rattle.type_table.proofs.Walks.{ran_all}
use Rattle.first_walk.proofs.MemberWalks.{one_head, heads_run}
use Rattle.first_walk.proofs.heads.enter_heads_of.Goals as goal

pub returns-clause-added : goal.returns-clause-added
returns-clause-added c =
    sym (heads_run c.args.file c.args.class c.args.table.now no_members c.args.members.now ∙ ran_all (one_head c.args.file c.args.class) c.args.table.now c.args.members.now c.loop-member.member-index c.loop-member.table c.loop-member-test.false c.loop-member.invariant)
