use Rattle.std.proofs.Common.{rules, ◌≡◌, ◌∙◌, arith}
use Rattle.type_table.specs.Answer.{Fault, gives, refused}
use Rattle.ck_syntax.specs.Tree.{no_items}
use Rattle.ck_syntax.specs.View.{view_item, items_of}
use Rattle.first_walk.specs.FirstWalk.{with_classes}
use Rattle.type_table.proofs.Walks.{on, ran_more, ran_all, ran_fault}
use Rattle.type_table.proofs.Weights as weights
use Rattle.type_table.proofs.Weights.{weight_next, items_weigh}
use Rattle.first_walk.proofs.ItemWalks.{name_item, classes_run}
use Rattle.first_walk.specs.Room.{entries}
use Rattle.first_walk.proofs.Measures.{counts_entries}
use Rattle.first_walk.proofs.RoomFacts.{item_named_grows}
use Rattle.first_walk.proofs.classes.enter_classes.Goals as goal

pub returns-in_err-enter_class_of-clause-refused : goal.returns-in_err-enter_class_of-clause-refused
returns-in_err-enter_class_of-clause-refused c =
    let stop : (why : Fault) → name_item c.args.file c.loop-item.table c.item-item.result ≡ refused why → with_classes c.args.file c.args.table.now (items_of no_items c.args.items.now) ≡ refused why =
    λ why is. classes_run c.args.file c.args.table.now no_items c.args.items.now ∙ ran_fault (name_item c.args.file) (gives c.args.table.now) c.args.items.now c.loop-item.item-index c.loop-item.table c.item-item.result why c.loop-item-test.true c.item-item.is is c.loop-item.invariant.so_far in
    search (rules, stop)

pub returns-clause-entered : goal.returns-clause-entered
returns-clause-entered c =
    classes_run c.args.file c.args.table.now no_items c.args.items.now ∙ ran_all (on (name_item c.args.file)) (gives c.args.table.now) c.args.items.now c.loop-item.item-index (gives c.loop-item.table) c.loop-item-test.false c.loop-item.invariant.so_far

pub enter_class_of-requires : goal.enter_class_of-requires
enter_class_of-requires c =
    record {
      few =
          omega (
            arith,
            items_weigh c.args.items.now,
            weight_next weights.one_item c.args.items.now c.loop-item.item-index c.item-item.result
                c.loop-item-test.true c.item-item.is,
          );
    }

pub loop-item-preserved : goal.loop-item-preserved
loop-item-preserved c =
    record {
      so_far =
          ran_more (on (name_item c.args.file)) (gives c.args.table.now) c.args.items.now c.loop-item.item-index
          (gives c.loop-item.table) c.item-item.result (gives c.enter_class_of.new.table) c.loop-item-test.true
          c.item-item.is c.in_ok-enter_class_of.ensures.entered c.loop-item.invariant.so_far;
      left =
          omega (
            arith,
            item_named_grows entries counts_entries c.args.file c.loop-item.table c.enter_class_of.new.table (view_item
                c.item-item.result) c.in_ok-enter_class_of.ensures.entered,
            weight_next weights.one_item c.args.items.now c.loop-item.item-index c.item-item.result
                c.loop-item-test.true c.item-item.is,
          );
    }
