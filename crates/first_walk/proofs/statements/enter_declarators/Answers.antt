use Rattle.std.proofs.Common.{rules, ◌≡◌, ◌∙◌, arith}
use Rattle.ck_syntax.specs.Tree.{no_declrs}
use Rattle.ck_syntax.specs.View.{view_declr, declrs_of}
use Rattle.type_table.specs.Answer.{Fault, gives, refused}
use Rattle.first_walk.specs.FirstWalk.{enter_declrs}
use Rattle.type_table.proofs.Walks.{on, ran_more, ran_all, ran_fault}
use Rattle.type_table.proofs.Weights as weights
use Rattle.type_table.proofs.Weights.{weight_next, declrs_weigh}
use Rattle.first_walk.proofs.ExprWalks.{one_declr, declrs_run}
use Rattle.first_walk.specs.Room.{entries, declared_by}
use Rattle.first_walk.proofs.Measures.{counts_entries, counts_declared}
use Rattle.first_walk.proofs.RoomFacts.{declr_grows}
use Rattle.first_walk.proofs.statements.enter_declarators.Goals as goal

pub returns-in_err-enter_declarator-clause-refused : goal.returns-in_err-enter_declarator-clause-refused
returns-in_err-enter_declarator-clause-refused c =
    let stop : (why : Fault) → one_declr c.args.file c.args.line c.args.owner c.args.head.now c.loop-declarator.table c.declarator-item.result ≡ refused why → enter_declrs c.args.file c.args.line c.args.owner c.args.head.now c.args.table.now (declrs_of no_declrs c.args.declarators.now) ≡ refused why =
    λ why is. declrs_run c.args.file c.args.line c.args.owner c.args.head.now c.args.table.now no_declrs c.args.declarators.now ∙ ran_fault (one_declr c.args.file c.args.line c.args.owner c.args.head.now) (gives c.args.table.now) c.args.declarators.now c.loop-declarator.declarator-index c.loop-declarator.table c.declarator-item.result why c.loop-declarator-test.true c.declarator-item.is is c.loop-declarator.invariant.so_far in
    search (rules, stop)

pub returns-clause-entered : goal.returns-clause-entered
returns-clause-entered c =
    declrs_run c.args.file c.args.line c.args.owner c.args.head.now c.args.table.now no_declrs c.args.declarators.now ∙ ran_all (on (one_declr c.args.file c.args.line c.args.owner c.args.head.now)) (gives c.args.table.now) c.args.declarators.now c.loop-declarator.declarator-index (gives c.loop-declarator.table) c.loop-declarator-test.false c.loop-declarator.invariant.so_far

pub enter_declarator-requires : goal.enter_declarator-requires
enter_declarator-requires c =
    record {
      room =
          omega (
            arith,
            declrs_weigh c.args.declarators.now,
            weight_next weights.one_declr c.args.declarators.now c.loop-declarator.declarator-index
                c.declarator-item.result c.loop-declarator-test.true c.declarator-item.is,
          );
      own =
          omega (
            arith,
            declrs_weigh c.args.declarators.now,
            weight_next weights.one_declr c.args.declarators.now c.loop-declarator.declarator-index
                c.declarator-item.result c.loop-declarator-test.true c.declarator-item.is,
          );
    }

pub loop-declarator-preserved : goal.loop-declarator-preserved
loop-declarator-preserved c =
    record {
      so_far =
          ran_more (on (one_declr c.args.file c.args.line c.args.owner c.args.head.now)) (gives c.args.table.now)
          c.args.declarators.now c.loop-declarator.declarator-index
          (gives c.loop-declarator.table) c.declarator-item.result (gives c.enter_declarator.new.table)
          c.loop-declarator-test.true
          c.declarator-item.is c.in_ok-enter_declarator.ensures.entered c.loop-declarator.invariant.so_far;
      left =
          omega (
            arith,
            declr_grows entries counts_entries c.args.file c.args.owner c.args.line c.args.head.now c.loop-declarator.table
                c.enter_declarator.new.table (view_declr c.declarator-item.result) c.in_ok-enter_declarator.ensures.entered,
            weight_next weights.one_declr c.args.declarators.now c.loop-declarator.declarator-index
                c.declarator-item.result c.loop-declarator-test.true c.declarator-item.is,
          );
      own =
          omega (
            arith,
            declr_grows (declared_by c.args.owner) (counts_declared c.args.owner) c.args.file c.args.owner c.args.line c.args.head.now c.loop-declarator.table
                c.enter_declarator.new.table (view_declr c.declarator-item.result) c.in_ok-enter_declarator.ensures.entered,
            weight_next weights.one_declr c.args.declarators.now c.loop-declarator.declarator-index
                c.declarator-item.result c.loop-declarator-test.true c.declarator-item.is,
          );
    }
