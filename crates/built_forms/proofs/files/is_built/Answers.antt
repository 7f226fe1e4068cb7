use Rattle.std.proofs.Common.{rules, ◌≡◌, ◌∙◌, true, false, List, refl, sym, ap}
use Rattle.ck_syntax.specs.declared.file.Item.{Item}
use Rattle.ck_syntax.specs.Tree.{no_items}
use Rattle.ck_syntax.specs.View.{view_item, items_of}
use Rattle.type_table.proofs.Walks.{ran_stop, ran_all}
use Rattle.built_forms.specs.Built.{item_built, is_built}
use Rattle.built_forms.proofs.Runs.{one_item, items_run}
use Rattle.built_forms.proofs.files.is_built.Goals as goal

pub returns-then-not-is_item_built : goal.returns-then-not-is_item_built
returns-then-not-is_item_built c =
    let no : item_built (view_item c.item-item.result) ≡ false = search rules in
    sym (ap (λ (xs : List Item). is_built (items_of no_items xs)) (sym c.items-item-items.ensures)
    ∙ items_run no_items c.items-item-items.result.now
    ∙ ran_stop one_item true c.items-item-items.result.now c.loop-item.item-index true c.item-item.result false
    c.loop-item-test.true c.item-item.is no (λ y. refl) c.loop-item.invariant)

pub returns : goal.returns
returns c =
    sym (ap (λ (xs : List Item). is_built (items_of no_items xs)) (sym c.items-item-items.ensures)
    ∙ items_run no_items c.items-item-items.result.now
    ∙ ran_all one_item true c.items-item-items.result.now c.loop-item.item-index true
    c.loop-item-test.false c.loop-item.invariant)
