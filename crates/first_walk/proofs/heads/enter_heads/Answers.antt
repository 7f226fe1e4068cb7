use Rattle.std.proofs.Common.{◌∙◌, sym, ap, arith}
use Rattle.ck_syntax.specs.Tree.{no_items}
use Rattle.ck_syntax.specs.View.{view_item}
use Rattle.type_table.specs.Table.{Table}
use Rattle.type_table.proofs.Walks.{ran_more, ran_all}
use Rattle.type_table.proofs.Weights as weights
use Rattle.type_table.proofs.Weights.{weight_next, items_weigh}
use Rattle.first_walk.proofs.Fresh.{item_heads_files}
use Rattle.first_walk.proofs.ItemWalks.{head_item, heads_run}
use Rattle.first_walk.proofs.Numbered.{number_next, numbers_next, few_next, same_files}
use Rattle.first_walk.proofs.heads.enter_heads.Goals as goal

pub returns-clause-added : goal.returns-clause-added
returns-clause-added c =
    sym (heads_run c.args.file c.args.table.now no_items c.args.items.now ∙ ran_all (head_item c.args.file)
    c.args.table.now c.args.items.now c.loop-item.item-index c.loop-item.table c.loop-item-test.false
    c.loop-item.invariant.so_far)

pub enter_item_heads-requires : goal.enter_item_heads-requires
enter_item_heads-requires c =
    record {
      numbered =
          number_next c.loop-item.table c.args.file c.loop-item.class c.args.items.now c.loop-item.item-index
          c.item-item.result c.loop-item-test.true c.item-item.is
          c.loop-item.invariant.numbered;
    }

pub next_class-class-requires : goal.next_class-class-requires
next_class-class-requires c =
    record {
      few =
          omega (
            arith,
            c.requires.few,
            c.loop-item.invariant.few,
            items_weigh c.args.items.now,
            weight_next weights.one_item c.args.items.now c.loop-item.item-index c.item-item.result
                c.loop-item-test.true c.item-item.is,
          );
    }

pub loop-item-preserved : goal.loop-item-preserved
loop-item-preserved c =
    record {
      so_far =
          ran_more (head_item c.args.file) c.args.table.now c.args.items.now c.loop-item.item-index
          c.loop-item.table c.item-item.result c.enter_item_heads.new.table c.loop-item-test.true
          c.item-item.is (sym c.in_ok-enter_item_heads.ensures.added) c.loop-item.invariant.so_far;
      numbered =
          numbers_next c.loop-item.table c.enter_item_heads.new.table c.args.file
          (same_files c.loop-item.table c.enter_item_heads.new.table c.args.file
          (ap (λ (t : Table). t.files) c.in_ok-enter_item_heads.ensures.added
          ∙ item_heads_files c.args.file c.loop-item.table (view_item c.item-item.result)))
          c.loop-item.class c.next_class-class.result c.args.items.now c.loop-item.item-index c.item-item.result
          c.loop-item-test.true c.item-item.is c.next_class-class.ensures
          c.loop-item.invariant.numbered;
      few =
          few_next c.loop-item.class c.next_class-class.result c.args.first c.args.items.now
          c.loop-item.item-index c.item-item.result c.loop-item-test.true c.item-item.is
          c.next_class-class.ensures c.loop-item.invariant.few;
    }
