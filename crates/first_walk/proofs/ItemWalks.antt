-- The walks over the items of a file.
use Rattle.std.proofs.Common.{◌≡◌, ℕ, List, [], ◌∷◌, refl}
use Rattle.ck_syntax.specs.declared.file.Item.{Item}
use Rattle.ck_syntax.specs.Tree.{File, and_item}
use Rattle.ck_syntax.specs.View.{view_item, items_of}
use Rattle.type_table.specs.Answer.{Answer}
use Rattle.type_table.specs.Table.{Table}
use Rattle.first_walk.specs.FirstWalk.{with_item_named, with_classes, with_parent, with_parents, check_parent, check_parents, with_item_heads, with_heads, enter_item, enter_items}
use Rattle.type_table.proofs.Walks.{run, on}

module _ (f : ℕ) where
  abbrev pub name_item : Table → Item → Answer Table
  name_item u i = with_item_named f u (view_item i)

  pub classes_run : (t : Table) (before : File) (items : List Item) → with_classes f t (items_of before items) ≡ run (on name_item) (with_classes f t before) items
  classes_run t before [] = refl
  classes_run t before (i ∷ items) = classes_run t (and_item before (view_item i)) items

  abbrev pub parent_item : Table → Item → Table
  parent_item u i = with_parent f u (view_item i)

  pub parents_run : (t : Table) (before : File) (items : List Item) → with_parents f t (items_of before items) ≡ run parent_item (with_parents f t before) items
  parents_run t before [] = refl
  parents_run t before (i ∷ items) = parents_run t (and_item before (view_item i)) items

  abbrev pub check_item : Table → Item → Answer Table
  check_item u i = check_parent f u (view_item i)

  pub checks_run : (t : Table) (before : File) (items : List Item) → check_parents f t (items_of before items) ≡ run (on check_item) (check_parents f t before) items
  checks_run t before [] = refl
  checks_run t before (i ∷ items) = checks_run t (and_item before (view_item i)) items

  abbrev pub head_item : Table → Item → Table
  head_item u i = with_item_heads f u (view_item i)

  pub heads_run : (t : Table) (before : File) (items : List Item) → with_heads f t (items_of before items) ≡ run head_item (with_heads f t before) items
  heads_run t before [] = refl
  heads_run t before (i ∷ items) = heads_run t (and_item before (view_item i)) items

  abbrev pub one_item : Table → Item → Answer Table
  one_item u i = enter_item f u (view_item i)

  pub items_run : (t : Table) (before : File) (items : List Item) → enter_items f t (items_of before items) ≡ run (on one_item) (enter_items f t before) items
  items_run t before [] = refl
  items_run t before (i ∷ items) = items_run t (and_item before (view_item i)) items
