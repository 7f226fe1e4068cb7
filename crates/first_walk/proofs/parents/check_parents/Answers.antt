use Rattle.std.proofs.Common.{rules, ◌≡◌, ◌∙◌, refl, arith}
use Rattle.ck_syntax.specs.Tree.{no_items}
use Rattle.ck_syntax.specs.View.{items_of}
use Rattle.type_table.specs.Answer.{Fault, gives, refused}
use Rattle.first_walk.specs.FirstWalk.{check_parents}
use Rattle.type_table.proofs.Walks.{on, ran_more, ran_all, ran_fault}
use Rattle.type_table.proofs.Weights as weights
use Rattle.type_table.proofs.Weights.{weight_next, items_weigh}
use Rattle.first_walk.proofs.ItemWalks.{check_item, checks_run}
use Rattle.first_walk.proofs.Numbered.{number_next, numbers_next, few_next}
use Rattle.first_walk.proofs.parents.check_parents.Goals as goal

pub returns-in_err-check_parent-clause-refused : goal.returns-in_err-check_parent-clause-refused
returns-in_err-check_parent-clause-refused c =
    let stop : (why : Fault) → check_item c.args.file c.args.table.now c.item-item.result ≡ refused why → check_parents c.args.file c.args.table.now (items_of no_items c.args.items.now) ≡ refused why =
    λ why is. checks_run c.args.file c.args.table.now no_items c.args.items.now ∙ ran_fault
    (check_item c.args.file) (gives c.args.table.now) c.args.items.now c.loop-item.item-index c.args.table.now
    c.item-item.result why c.loop-item-test.true c.item-item.is is c.loop-item.invariant.so_far in
    search (rules, stop)

pub returns-clause-fine : goal.returns-clause-fine
returns-clause-fine c =
    checks_run c.args.file c.args.table.now no_items c.args.items.now ∙ ran_all (on (check_item c.args.file))
    (gives c.args.table.now) c.args.items.now c.loop-item.item-index (gives c.args.table.now)
    c.loop-item-test.false c.loop-item.invariant.so_far

pub check_parent-requires : goal.check_parent-requires
check_parent-requires c =
    record {
      numbered =
          number_next c.args.table.now c.args.file c.loop-item.class c.args.items.now c.loop-item.item-index
          c.item-item.result c.loop-item-test.true c.item-item.is
          c.loop-item.invariant.numbered;
    }

pub next_class-class-requires : goal.next_class-class-requires
next_class-class-requires c =
    record {
      few =
          omega (
            arith,
            c.requires.few,
            c.loop-item.invariant.few,
            items_weigh c.args.items.now,
            weight_next weights.one_item c.args.items.now c.loop-item.item-index c.item-item.result
                c.loop-item-test.true c.item-item.is,
          );
    }

pub loop-item-preserved : goal.loop-item-preserved
loop-item-preserved c =
    record {
      so_far =
          ran_more (on (check_item c.args.file)) (gives c.args.table.now) c.args.items.now
          c.loop-item.item-index (gives c.args.table.now) c.item-item.result (gives c.args.table.now)
          c.loop-item-test.true c.item-item.is c.in_ok-check_parent.ensures.fine
          c.loop-item.invariant.so_far;
      numbered =
          numbers_next c.args.table.now c.args.table.now c.args.file (λ n. refl) c.loop-item.class
          c.next_class-class.result c.args.items.now c.loop-item.item-index c.item-item.result
          c.loop-item-test.true c.item-item.is c.next_class-class.ensures c.loop-item.invariant.numbered;
      few =
          few_next c.loop-item.class c.next_class-class.result c.args.first c.args.items.now
          c.loop-item.item-index c.item-item.result c.loop-item-test.true c.item-item.is
          c.next_class-class.ensures c.loop-item.invariant.few;
    }
