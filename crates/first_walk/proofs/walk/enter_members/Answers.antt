use Rattle.std.proofs.Common.{rules, ◌≡◌, ◌∙◌, Some, arith}
use Rattle.type_table.specs.Answer.{Fault, gives, refused}
use Rattle.ck_syntax.specs.Tree.{no_members}
use Rattle.ck_syntax.specs.View.{view_member, members_of}
use Rattle.first_walk.specs.FirstWalk.{enter_members}
use Rattle.type_table.proofs.Walks.{on, ran_more, ran_all, ran_fault}
use Rattle.type_table.proofs.Weights as weights
use Rattle.type_table.proofs.Weights.{weight_next, members_weigh}
use Rattle.first_walk.proofs.MemberWalks.{one_member, members_run}
use Rattle.first_walk.specs.Room.{entries, declared}
use Rattle.first_walk.proofs.Measures.{counts_entries, counts_declared}
use Rattle.first_walk.proofs.RoomFacts.{member_grows}
use Rattle.first_walk.proofs.walk.enter_members.Goals as goal

pub returns-in_err-enter_member-clause-refused : goal.returns-in_err-enter_member-clause-refused
returns-in_err-enter_member-clause-refused c =
    let stop : (why : Fault) → one_member c.args.file c.args.class c.loop-member.table c.member-item.result ≡ refused why → enter_members c.args.file c.args.class c.args.table.now (members_of no_members c.args.members.now) ≡ refused why =
    λ why is. members_run c.args.file c.args.class c.args.table.now no_members c.args.members.now ∙ ran_fault (one_member c.args.file c.args.class) (gives c.args.table.now) c.args.members.now c.loop-member.member-index c.loop-member.table c.member-item.result why c.loop-member-test.true c.member-item.is is c.loop-member.invariant.so_far in
    search (rules, stop)

pub returns-clause-entered : goal.returns-clause-entered
returns-clause-entered c =
    members_run c.args.file c.args.class c.args.table.now no_members c.args.members.now ∙ ran_all (on (one_member c.args.file c.args.class)) (gives c.args.table.now) c.args.members.now c.loop-member.member-index (gives c.loop-member.table) c.loop-member-test.false c.loop-member.invariant.so_far

pub enter_member-requires : goal.enter_member-requires
enter_member-requires c =
    record {
      room =
          omega (
            arith,
            members_weigh c.args.members.now,
            weight_next weights.one_member c.args.members.now c.loop-member.member-index c.member-item.result
                c.loop-member-test.true c.member-item.is,
          );
      own =
          omega (
            arith,
            members_weigh c.args.members.now,
            weight_next weights.one_member c.args.members.now c.loop-member.member-index c.member-item.result
                c.loop-member-test.true c.member-item.is,
          );
    }

pub loop-member-preserved : goal.loop-member-preserved
loop-member-preserved c =
    record {
      so_far =
          ran_more (on (one_member c.args.file c.args.class)) (gives c.args.table.now) c.args.members.now
          c.loop-member.member-index
          (gives c.loop-member.table) c.member-item.result (gives c.enter_member.new.table) c.loop-member-test.true
          c.member-item.is c.in_ok-enter_member.ensures.entered c.loop-member.invariant.so_far;
      left =
          omega (
            arith,
            member_grows entries counts_entries c.args.file c.args.class c.loop-member.table c.enter_member.new.table
                (view_member c.member-item.result) c.in_ok-enter_member.ensures.entered,
            weight_next weights.one_member c.args.members.now c.loop-member.member-index c.member-item.result
                c.loop-member-test.true c.member-item.is,
          );
      own =
          omega (
            arith,
            member_grows (declared c.args.class) (counts_declared (Some c.args.class)) c.args.file c.args.class c.loop-member.table c.enter_member.new.table
                (view_member c.member-item.result) c.in_ok-enter_member.ensures.entered,
            weight_next weights.one_member c.args.members.now c.loop-member.member-index c.member-item.result
                c.loop-member-test.true c.member-item.is,
          );
    }
