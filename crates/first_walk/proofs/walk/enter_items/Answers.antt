use Rattle.std.proofs.Common.{rules, ◌≡◌, ◌∙◌, Some, length, refl, arith}
use Rattle.std.proofs.lemmas.Option.{slice_get_read}
use Rattle.type_table.specs.Answer.{Fault, gives, refused}
use Rattle.ck_syntax.specs.Tree.{no_items}
use Rattle.ck_syntax.specs.View.{view_item, items_of}
use Rattle.first_walk.specs.FirstWalk.{enter_items}
use Rattle.type_table.proofs.Walks.{on, ran_more, ran_all, ran_fault}
use Rattle.type_table.proofs.Weights as weights
use Rattle.type_table.proofs.Weights.{weight_next, items_weigh}
use Rattle.first_walk.proofs.ItemWalks.{one_item, items_run}
use Rattle.ck_syntax.specs.Size.{item_size, items_size}
use Rattle.first_walk.specs.Room.{entries, declared}
use Rattle.first_walk.proofs.DeclaredFrame.{keeps_self, keeps_then, same_own_class}
use Rattle.first_walk.proofs.DeclaredWalks.{file_ready_kept, item_keeps}
use Rattle.first_walk.proofs.Fresh.{item_has, room_later, weight_left}
use Rattle.first_walk.proofs.Numbered.{number_next, numbers_next, few_next}
use Rattle.first_walk.proofs.Measures.{counts_entries, counts_declared}
use Rattle.first_walk.proofs.RoomFacts.{item_grows}
use Rattle.first_walk.proofs.walk.enter_items.Goals as goal

pub returns-in_err-enter_item-clause-refused : goal.returns-in_err-enter_item-clause-refused
returns-in_err-enter_item-clause-refused c =
    let stop : (why : Fault) → one_item c.args.file c.loop-item.table c.item-item.result ≡ refused why → enter_items c.args.file c.args.table.now (items_of no_items c.args.items.now) ≡ refused why =
    λ why is. items_run c.args.file c.args.table.now no_items c.args.items.now ∙ ran_fault (one_item c.args.file) (gives c.args.table.now) c.args.items.now c.loop-item.item-index c.loop-item.table c.item-item.result why c.loop-item-test.true c.item-item.is is c.loop-item.invariant.so_far in
    search (rules, stop)

pub returns-clause-entered : goal.returns-clause-entered
returns-clause-entered c =
    items_run c.args.file c.args.table.now no_items c.args.items.now ∙ ran_all (on (one_item c.args.file)) (gives c.args.table.now) c.args.items.now c.loop-item.item-index (gives c.loop-item.table) c.loop-item-test.false c.loop-item.invariant.so_far

pub enter_item-requires : goal.enter_item-requires
enter_item-requires c =
    let next =
    weight_next weights.one_item c.args.items.now c.loop-item.item-index c.item-item.result c.loop-item-test.true
    c.item-item.is in
    let all = items_weigh c.args.items.now in
    record {
      numbered =
          number_next c.loop-item.table c.args.file c.loop-item.class c.args.items.now c.loop-item.item-index
          c.item-item.result c.loop-item-test.true c.item-item.is
          c.loop-item.invariant.numbered;
      room = omega (arith, all, next);
      own =
          room_later c.args.table.now c.loop-item.table c.args.file (items_size (items_of no_items c.args.items.now))
          (item_size (view_item c.item-item.result)) (view_item c.item-item.result)
          (same_own_class c.args.file c.args.table.now c.loop-item.table c.loop-item.invariant.keeps)
          (λ d. omega (arith, all, next, c.loop-item.invariant.own d))
          (omega (arith, all, next, weight_left weights.one_item c.args.items.now c.loop-item.item-index))
          (item_has c.args.table.now c.args.file (items_size (items_of no_items c.args.items.now)) no_items
          c.args.items.now c.loop-item.item-index c.item-item.result c.requires.own
          (slice_get_read c.args.items.now (length c.args.items.now) c.loop-item.item-index c.item-item.result refl
          c.loop-item-test.true c.item-item.is));
    }

pub next_class-class-requires : goal.next_class-class-requires
next_class-class-requires c =
    record {
      few =
          omega (
            arith,
            c.requires.few,
            c.loop-item.invariant.few,
            items_weigh c.args.items.now,
            weight_next weights.one_item c.args.items.now c.loop-item.item-index c.item-item.result
                c.loop-item-test.true c.item-item.is,
          );
    }

pub loop-item-init : goal.loop-item-init
loop-item-init c =
    record {
      so_far = search rules;
      left = omega arith;
      keeps = keeps_self c.args.file c.args.table.now;
      numbered = c.requires.numbered;
      few = omega arith;
      own = λ d. omega arith;
    }

pub loop-item-preserved : goal.loop-item-preserved
loop-item-preserved c =
    let next =
    weight_next weights.one_item c.args.items.now c.loop-item.item-index c.item-item.result c.loop-item-test.true
    c.item-item.is in
    let kept =
    item_keeps c.args.file c.loop-item.table c.enter_item.new.table (view_item c.item-item.result)
    (file_ready_kept c.args.file c.args.table.now c.loop-item.table c.loop-item.invariant.keeps c.requires.ready)
    c.in_ok-enter_item.ensures.entered in
    record {
      so_far =
          ran_more (on (one_item c.args.file)) (gives c.args.table.now) c.args.items.now c.loop-item.item-index
          (gives c.loop-item.table) c.item-item.result (gives c.enter_item.new.table) c.loop-item-test.true
          c.item-item.is c.in_ok-enter_item.ensures.entered c.loop-item.invariant.so_far;
      left =
          omega (
            arith,
            item_grows entries counts_entries c.args.file c.loop-item.table c.enter_item.new.table
                (view_item c.item-item.result) c.in_ok-enter_item.ensures.entered,
            next,
          );
      keeps =
          keeps_then c.args.file c.args.table.now c.loop-item.table c.enter_item.new.table
          c.loop-item.invariant.keeps kept;
      numbered =
          numbers_next c.loop-item.table c.enter_item.new.table c.args.file
          (same_own_class c.args.file c.loop-item.table c.enter_item.new.table kept) c.loop-item.class
          c.next_class-class.result c.args.items.now c.loop-item.item-index c.item-item.result
          c.loop-item-test.true c.item-item.is c.next_class-class.ensures c.loop-item.invariant.numbered;
      few =
          few_next c.loop-item.class c.next_class-class.result c.args.first c.args.items.now
          c.loop-item.item-index c.item-item.result c.loop-item-test.true c.item-item.is
          c.next_class-class.ensures c.loop-item.invariant.few;
      own =
          λ d. omega (
            arith,
            item_grows (declared d) (counts_declared (Some d)) c.args.file c.loop-item.table c.enter_item.new.table
                (view_item c.item-item.result) c.in_ok-enter_item.ensures.entered,
            next,
            c.loop-item.invariant.own d,
          );
    }
