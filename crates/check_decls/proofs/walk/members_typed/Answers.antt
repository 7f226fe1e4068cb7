use Rattle.std.proofs.Common.{rules, ◌≡◌, ◌∙◌, Some, None, arith}
use Rattle.ck_syntax.specs.Tree.{no_members}
use Rattle.ck_syntax.specs.View.{members_of}
use Rattle.type_table.specs.Answer.{Fault, gives, refused}
use Rattle.type_table.proofs.Walks.{on, ran_more, ran_all, ran_fault}
use Rattle.type_table.proofs.Weights.{weight_next}
use Rattle.check_scope.specs.Scope.{new_scope}
use Rattle.program_laws.specs.Programs.{begun, with_this, members_typed}
use Rattle.check_decls.specs.ProgramView.{view_walked}
use Rattle.check_decls.proofs.DeclWalks.{one_member, members_run}
use Rattle.check_decls.proofs.Settling.{class_settles}
use Rattle.type_table.proofs.Weights as weights
use Rattle.type_table.proofs.Weights.{members_weigh}
use Rattle.check_decls.proofs.walk.members_typed.Goals as goal

pub returns-in_err-add_member-clause-refused : goal.returns-in_err-add_member-clause-refused
returns-in_err-add_member-clause-refused c =
    let stop : (why : Fault)
    → one_member c.args.table.now c.args.file c.args.class c.args.first
    (view_walked c.loop-member.walked) c.member-item.result ≡ refused why
    → members_typed c.args.table.now c.args.file c.args.class c.args.first
    c.args.settled (members_of no_members c.args.members.now) ≡ refused why =
    λ why is. members_run c.args.table.now c.args.file c.args.class c.args.first
    c.args.settled no_members c.args.members.now
    ∙ ran_fault (one_member c.args.table.now c.args.file c.args.class c.args.first)
    (gives (begun (with_this
    (new_scope c.args.file (Some c.args.class) None c.args.settled) c.args.class))) c.args.members.now
    c.loop-member.member-index
    (view_walked c.loop-member.walked) c.member-item.result why
    c.loop-member-test.true c.member-item.is is c.loop-member.invariant.so_far in
    search (rules, stop)

pub returns-clause-typed : goal.returns-clause-typed
returns-clause-typed c =
    members_run c.args.table.now c.args.file c.args.class c.args.first c.args.settled no_members
    c.args.members.now
    ∙ ran_all (on (one_member c.args.table.now c.args.file c.args.class c.args.first))
    (gives (begun (with_this (new_scope c.args.file (Some c.args.class) None c.args.settled) c.args.class)))
    c.args.members.now c.loop-member.member-index
    (gives (view_walked c.loop-member.walked)) c.loop-member-test.false c.loop-member.invariant.so_far

pub returns-clause-kept : goal.returns-clause-kept
returns-clause-kept c =
    class_settles c.args.table.now c.args.file c.args.class c.args.first c.args.settled
    (members_of no_members c.args.members.now) (view_walked c.loop-member.walked)
    (returns-clause-typed c)

pub add_member-requires : goal.add_member-requires
add_member-requires c =
    record {
      room =
          omega (
            arith,
            members_weigh c.args.members.now,
            weight_next weights.one_member c.args.members.now c.loop-member.member-index
                c.member-item.result c.loop-member-test.true c.member-item.is,
          );
      numbers =
          omega (
            arith,
            members_weigh c.args.members.now,
            weight_next weights.one_member c.args.members.now c.loop-member.member-index
                c.member-item.result c.loop-member-test.true c.member-item.is,
          );
    }

pub loop-member-preserved : goal.loop-member-preserved
loop-member-preserved c =
    record {
      so_far =
          ran_more (on (one_member c.args.table.now c.args.file c.args.class c.args.first))
          (gives (begun (with_this
          (new_scope c.args.file (Some c.args.class) None c.args.settled) c.args.class))) c.args.members.now
          c.loop-member.member-index (gives (view_walked c.loop-member.walked))
          c.member-item.result (gives (view_walked c.add_member.new.self))
          c.loop-member-test.true c.member-item.is (search rules)
          c.loop-member.invariant.so_far;
      left =
          omega (
            arith,
            weight_next weights.one_member c.args.members.now
                c.loop-member.member-index c.member-item.result c.loop-member-test.true
                c.member-item.is,
          );
      more =
          omega (
            arith,
            c.in_ok-add_member.ensures.more,
            weight_next weights.one_member c.args.members.now
                c.loop-member.member-index c.member-item.result c.loop-member-test.true
                c.member-item.is,
          );
    }

pub returns-clause-more : goal.returns-clause-more
returns-clause-more c = omega (arith, members_weigh c.args.members.now)
