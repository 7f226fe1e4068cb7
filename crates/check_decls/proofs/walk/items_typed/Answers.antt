use Rattle.std.proofs.Common.{rules, ◌≡◌, ◌∙◌, None, [], refl, arith}
use Rattle.ck_syntax.specs.Tree.{no_items}
use Rattle.ck_syntax.specs.View.{items_of}
use Rattle.type_table.specs.Answer.{Fault, gives, refused}
use Rattle.type_table.proofs.Walks.{on, ran_more, ran_all, ran_fault}
use Rattle.type_table.proofs.Weights.{weight_next}
use Rattle.check_scope.specs.Scope.{new_scope}
use Rattle.first_walk.proofs.Numbered.{number_next, numbers_next, few_next}
use Rattle.program_laws.specs.Programs.{begun, items_typed}
use Rattle.check_decls.specs.ProgramView.{view_walked}
use Rattle.check_decls.proofs.DeclWalks.{one_item, items_run}
use Rattle.type_table.proofs.Weights as weights
use Rattle.type_table.proofs.Weights.{items_weigh}
use Rattle.check_decls.proofs.walk.items_typed.Goals as goal

pub returns-in_err-add_item-clause-refused : goal.returns-in_err-add_item-clause-refused
returns-in_err-add_item-clause-refused c =
    let stop : (why : Fault)
    → one_item c.args.table.now c.args.file (view_walked c.loop-item.walked) c.item-item.result
    ≡ refused why → items_typed c.args.table.now c.args.file (items_of no_items c.args.items.now)
    ≡ refused why =
    λ why is. items_run c.args.table.now c.args.file no_items c.args.items.now
    ∙ ran_fault (one_item c.args.table.now c.args.file)
    (gives (begun (new_scope c.args.file None None []))) c.args.items.now
    c.loop-item.item-index
    (view_walked c.loop-item.walked) c.item-item.result why c.loop-item-test.true
    c.item-item.is is c.loop-item.invariant.so_far in
    search (rules, stop)

pub returns-clause-typed : goal.returns-clause-typed
returns-clause-typed c =
    items_run c.args.table.now c.args.file no_items c.args.items.now
    ∙ ran_all (on (one_item c.args.table.now c.args.file))
    (gives (begun (new_scope c.args.file None None []))) c.args.items.now c.loop-item.item-index
    (gives (view_walked c.loop-item.walked)) c.loop-item-test.false c.loop-item.invariant.so_far

pub add_item-requires : goal.add_item-requires
add_item-requires c =
    record {
      numbered =
          number_next c.args.table.now c.args.file c.loop-item.class c.args.items.now
          c.loop-item.item-index c.item-item.result c.loop-item-test.true c.item-item.is
          c.loop-item.invariant.numbered;
      room =
          omega (
            arith,
            items_weigh c.args.items.now,
            weight_next weights.one_item c.args.items.now c.loop-item.item-index
                c.item-item.result c.loop-item-test.true c.item-item.is,
          );
      numbers =
          omega (
            arith,
            items_weigh c.args.items.now,
            weight_next weights.one_item c.args.items.now c.loop-item.item-index
                c.item-item.result c.loop-item-test.true c.item-item.is,
          );
    }

pub next_class-class-requires : goal.next_class-class-requires
next_class-class-requires c =
    record {
      few =
          omega (
            arith,
            c.requires.few,
            c.loop-item.invariant.few,
            items_weigh c.args.items.now,
            weight_next weights.one_item c.args.items.now c.loop-item.item-index
                c.item-item.result c.loop-item-test.true c.item-item.is,
          );
    }

pub loop-item-preserved : goal.loop-item-preserved
loop-item-preserved c =
    record {
      so_far =
          ran_more (on (one_item c.args.table.now c.args.file))
          (gives (begun (new_scope c.args.file None None []))) c.args.items.now
          c.loop-item.item-index (gives (view_walked c.loop-item.walked)) c.item-item.result
          (gives (view_walked c.add_item.new.self)) c.loop-item-test.true c.item-item.is
          (search rules) c.loop-item.invariant.so_far;
      left =
          omega (
            arith,
            weight_next weights.one_item c.args.items.now c.loop-item.item-index
                c.item-item.result c.loop-item-test.true c.item-item.is,
          );
      more =
          omega (
            arith,
            c.in_ok-add_item.ensures.more,
            weight_next weights.one_item c.args.items.now c.loop-item.item-index
                c.item-item.result c.loop-item-test.true c.item-item.is,
          );
      numbered =
          numbers_next c.args.table.now c.args.table.now c.args.file (λ n. refl)
          c.loop-item.class c.next_class-class.result c.args.items.now c.loop-item.item-index
          c.item-item.result c.loop-item-test.true c.item-item.is c.next_class-class.ensures
          c.loop-item.invariant.numbered;
      few =
          few_next c.loop-item.class c.next_class-class.result c.args.first c.args.items.now
          c.loop-item.item-index c.item-item.result c.loop-item-test.true c.item-item.is
          c.next_class-class.ensures c.loop-item.invariant.few;
    }
