use Rattle.std.proofs.Common.{◌∙◌, sym, ap, true, false}
use Rattle.ck_syntax.specs.Tree.{no_members}
use Rattle.type_table.proofs.Walks.{ran_all, ran_stop}
use Rattle.first_walk.proofs.MemberWalks.{one_statement, statements_run, has_one}
use Rattle.first_walk.proofs.walk.have_statement.Goals as goal

pub returns-in-Stmt : goal.returns-in-Stmt
returns-in-Stmt c =
    sym (statements_run no_members c.args.members.now ∙ ran_stop one_statement false c.args.members.now c.loop-member.member-index false c.member-item.result true c.loop-member-test.true c.member-item.is (ap (one_statement false) c.in-Stmt.is) has_one c.loop-member.invariant)

pub returns : goal.returns
returns c =
    sym (statements_run no_members c.args.members.now ∙ ran_all one_statement false c.args.members.now c.loop-member.member-index false c.loop-member-test.false c.loop-member.invariant)
