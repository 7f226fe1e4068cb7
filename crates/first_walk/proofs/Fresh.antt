-- As the members of a file begin to be entered, nothing of its classes is declared yet: each has room for all that the
-- text of the file can declare.
use Rattle.std.proofs.Common.{◌≡◌, ℕ, ◌+◌, ◌<◌, ◌≤◌, Bool, false, ◌||◌, List, [], ◌∷◌, length, drop, Some, None, slice_get, zero, suc, refl, ap, subst, ◌∙◌, arith, length-append}
use Rattle.std.proofs.lemmas.Option.{same_Some, slice_get_past}
use Rattle.ck_base.specs.declared.limits.TheConstants.{MAX_FILE_TOKENS}
use Rattle.ck_syntax.specs.declared.file.Item.{Item as FileItem}
use Rattle.ck_syntax.specs.Size.{items_size}
use Rattle.ck_syntax.specs.Tree as tree
use Rattle.ck_syntax.specs.Tree.{Name, Item, Member, Members, no_members, and_member, fun_member, stmt_member, no_items, and_item, class_item, fun_item, stmt_item}
use Rattle.ck_syntax.specs.View.{view_item, items_of}
use Rattle.type_table.specs.Answer.{gives, wrong}
use Rattle.type_table.specs.declared.fault.FaultKind.TheVariants.{Duplicate}
use Rattle.type_table.specs.Names.{lookup, is_some, built_in, and_first}
use Rattle.type_table.specs.Table.{Table, or_no_class, or_no_file, file_of, class_named, named_class}
use Rattle.type_table.proofs.Ranges.{many}
use Rattle.type_table.proofs.Weights.{weight}
use Rattle.first_walk.specs.FirstWalk.{begun, with_new_class, with_item_named, with_classes, or_object, own_class, with_parent, with_parents, with_head, with_heads_of, with_item_heads, with_heads}
use Rattle.first_walk.specs.Room.{declared, HasRoom, HaveRoom, FileReady}
use Rattle.first_walk.proofs.DeclaredFacts.{begun_ready, new_ready, parents_ready, heads_ready}
use Rattle.first_walk.proofs.DeclaredFrame.{changed_at, first_stays, first_found}
use Rattle.first_walk.proofs.Measures.{counts_declared, new_kept}
use Rattle.first_walk.proofs.NamedClasses.{named_kept, not_named, or_false}
use Rattle.first_walk.proofs.RoomFacts.{parents_kept, heads_kept}
use Rattle.first_walk.proofs.SameNames.{GivesSuch, gives_at, gives_then, gives_if}
use Rattle.first_walk.proofs.TextFuns.{ClassHolds, ClassesHold}

-- the files stay ------------------------------------------------------------------------------------

module _ (f : ℕ) where
  pub parent_files : (t : Table) (x : Item) → (with_parent f t x).files ≡ t.files
  parent_files t (class_item (tree.class l p n parent ms)) = refl
  parent_files t (fun_item g) = refl
  parent_files t (stmt_item s) = refl

  pub parents_files : (t : Table) (xs : tree.File) → (with_parents f t xs).files ≡ t.files
  parents_files t no_items = refl
  parents_files t (and_item xs x) = parent_files (with_parents f t xs) x ∙ parents_files t xs

  head_files : (c : ℕ) (t : Table) (m : Member) → (with_head f c t m).files ≡ t.files
  head_files c t (fun_member (tree.fun l s result n ps body)) = refl
  head_files c t (fun_member (tree.constructor l ps body)) = refl
  head_files c t (stmt_member s) = refl

  heads_of_files : (c : ℕ) (t : Table) (ms : Members) → (with_heads_of f c t ms).files ≡ t.files
  heads_of_files c t no_members = refl
  heads_of_files c t (and_member ms m) = head_files c (with_heads_of f c t ms) m ∙ heads_of_files c t ms

  pub item_heads_files : (t : Table) (x : Item) → (with_item_heads f t x).files ≡ t.files
  item_heads_files t (class_item (tree.class l p n parent ms)) = heads_of_files (own_class t f n) t ms
  item_heads_files t (fun_item g) = refl
  item_heads_files t (stmt_item s) = refl

  pub heads_files : (t : Table) (xs : tree.File) → (with_heads f t xs).files ≡ t.files
  heads_files t no_items = refl
  heads_files t (and_item xs x) = item_heads_files (with_heads f t xs) x ∙ heads_files t xs

-- the classes are new -------------------------------------------------------------------------------

module _ (t : Table) (f : ℕ) (some : 0 < many t) where
  abbrev IsNew : ℕ → Type 0
  IsNew c = many t ≤ c

  -- so far these items' classes are named
  record Fresh (xs : tree.File) (u : Table) : Type 0 where
    ready : FileReady f u
    more : many t ≤ many u
    empty : (c : ℕ) → many t ≤ c → declared c u ≡ 0
    own : ClassesHold IsNew u f xs

  module _ (u : Table) (ready : FileReady f u) (p : Bool) (n : Name) where
    abbrev v : Table
    v = with_new_class u f p n

    abbrev known : List (Name × ℕ)
    known = (file_of u f).classes

    changed : slice_get v.files f ≡ Some (record (file_of u f) { classes = and_first n (many u) known })
    changed = changed_at u.files f (record (file_of u f) { classes = and_first n (many u) known }) ready.file

    found_now : (m : Name) → own_class v f m ≡ or_object (lookup m (and_first n (many u) known))
    found_now m = ap (λ o. or_object (lookup m (or_no_file o).classes)) changed

    own_kept : (m : Name) → IsNew (own_class u f m) → IsNew (own_class v f m)
    own_kept m le =
        let was = named_kept (many t) some (lookup m known) le in
        omega (
          arith,
          le,
          ap or_object was.1,
          found_now m ∙ ap or_object (first_stays n (many u) known m was.0 was.1),
        )

    item_kept : (x : Item) → ClassHolds IsNew u f x → ClassHolds IsNew v f x
    item_kept (class_item (tree.class l q m parent ms)) is = own_kept m is
    item_kept (fun_item g) is = tt
    item_kept (stmt_item s) is = tt

    items_kept : (xs : tree.File) → ClassesHold IsNew u f xs → ClassesHold IsNew v f xs
    items_kept no_items is = tt
    items_kept (and_item xs x) is = (items_kept xs is.0, item_kept x is.1)

    own_now : lookup n known ≡ None → own_class v f n ≡ many u
    own_now none = found_now n ∙ ap or_object (first_found n (many u) known none)

  item_fresh : (xs : tree.File) (x : Item) (u : Table) → Fresh xs u
      → GivesSuch (Fresh (and_item xs x)) (with_item_named f u x)
  item_fresh xs (class_item (tree.class l p n parent ms)) u so =
      gives_if (Fresh (and_item xs (class_item (tree.class l p n parent ms))))
      (is_some (class_named u f n) || is_some (built_in n)) (wrong f l Duplicate) (gives (with_new_class u f p n))
      (λ e. tt) goes
    where
      goes : is_some (class_named u f n) || is_some (built_in n) ≡ false
          → Fresh (and_item xs (class_item (tree.class l p n parent ms))) (with_new_class u f p n)
      goes e =
          let none = not_named u f n (or_false (is_some (class_named u f n)) (is_some (built_in n)) e) in
          record {
            ready = new_ready f u p n so.ready;
            more = omega (arith, so.more, length-append u.classes (named_class f p n ∷ []));
            empty = λ c le. omega (arith, so.empty c le, new_kept c u (named_class f p n) refl);
            own = (items_kept u so.ready p n xs so.own, omega (arith, own_now u so.ready p n none, so.more));
          }
  item_fresh xs (fun_item g) u so =
      record { ready = so.ready; more = so.more; empty = so.empty; own = (so.own, tt) }
  item_fresh xs (stmt_item s) u so =
      record { ready = so.ready; more = so.more; empty = so.empty; own = (so.own, tt) }

  classes_fresh : f ≡ length t.files → (xs : tree.File) → GivesSuch (Fresh xs) (with_classes f (begun t) xs)
  classes_fresh is no_items = record {
    ready = begun_ready t f is some;
    more = omega arith;
    empty = λ c le. ap (λ o. length (or_no_class o).fields + (or_no_class o).slots) (slice_get_past t.classes c le);
    own = tt;
  }
  classes_fresh is (and_item xs x) =
      gives_then (Fresh xs) (Fresh (and_item xs x)) (with_classes f (begun t) xs) (λ u. with_item_named f u x)
      (classes_fresh is xs) (λ u so. item_fresh xs x u so)

  -- and have room
  module _ (u b : Table) (files : b.files ≡ u.files) (empty : (c : ℕ) → many t ≤ c → declared c b ≤ 0) (more : ℕ)
      (short : more ≤ MAX_FILE_TOKENS) where
    item_room : (x : Item) → ClassHolds IsNew u f x → HasRoom b f more x
    item_room (class_item (tree.class l p n parent ms)) is =
        let same : own_class b f n ≡ own_class u f n =
        ap (λ fs. or_object (lookup n (or_no_file (slice_get fs f)).classes)) files in
        omega (arith, short, empty (own_class b f n) (omega (arith, is, same)))
    item_room (fun_item g) is = tt
    item_room (stmt_item s) is = short

    items_room : (xs : tree.File) → ClassesHold IsNew u f xs → HaveRoom b f more xs
    items_room no_items is = tt
    items_room (and_item xs x) is = (items_room xs is.0, item_room x is.1)

  module _ (is : f ≡ length t.files) (raw : tree.File) (u : Table) (named : with_classes f (begun t) raw ≡ gives u)
    where
      abbrev heads : Table
      heads = with_heads f (with_parents f u raw) raw

      fresh : Fresh raw u
      fresh = gives_at (Fresh raw) (with_classes f (begun t) raw) u named (classes_fresh is raw)

      pub file_ready : FileReady f heads
      file_ready = heads_ready f (with_parents f u raw) raw (parents_ready f u raw fresh.ready)

      empty_now : (c : ℕ) → many t ≤ c → declared c heads ≤ 0
      empty_now c le =
          omega (
            arith,
            fresh.empty c le,
            parents_kept (declared c) (counts_declared (Some c)) f u raw,
            heads_kept (declared c) (counts_declared (Some c)) f (with_parents f u raw) raw,
          )

      pub file_room : items_size raw ≤ MAX_FILE_TOKENS → HaveRoom heads f (items_size raw) raw
      file_room short =
          items_room u heads (heads_files f (with_parents f u raw) raw ∙ parents_files f u raw) empty_now
          (items_size raw) short raw fresh.own

-- the room of one item ------------------------------------------------------------------------------

item_of : (t : Table) (f more : ℕ) (before : tree.File) (xs : List FileItem) → HaveRoom t f more (items_of before xs)
    → HaveRoom t f more before
item_of t f more before [] have = have
item_of t f more before (x ∷ xs) have = (item_of t f more (and_item before (view_item x)) xs have).0

pub item_has : (t : Table) (f more : ℕ) (before : tree.File) (xs : List FileItem) (i : ℕ) (x : FileItem)
    → HaveRoom t f more (items_of before xs) → slice_get xs i ≡ Some x → HasRoom t f more (view_item x)
item_has t f more before [] i x have is = absurd (cc)
item_has t f more before (y ∷ xs) zero x have is =
    subst (λ z. HasRoom t f more (view_item z)) (same_Some y x is)
    (item_of t f more (and_item before (view_item y)) xs have).1
item_has t f more before (y ∷ xs) (suc i) x have is = item_has t f more (and_item before (view_item y)) xs i x have is

-- what was declared meanwhile is at most what the items between have
pub room_later : (t u : Table) (f more left : ℕ) (x : Item) → ((n : Name) → own_class u f n ≡ own_class t f n)
    → ((c : ℕ) → declared c u + left ≤ declared c t + more) → left ≤ more → HasRoom t f more x → HasRoom u f left x
room_later t u f more left (class_item (tree.class l p n parent ms)) same grown le has =
    omega (arith, has, grown (own_class t f n), ap (λ c. declared c u) (same n))
room_later t u f more left (fun_item g) same grown le has = tt
room_later t u f more left (stmt_item s) same grown le has = omega (arith, le, has)

-- what is left of a list is no larger than the list
pub weight_left : {X : Type 0} (size : X → ℕ) (xs : List X) (i : ℕ) → weight size (drop i xs) ≤ weight size xs
weight_left size [] zero = omega arith
weight_left size [] (suc i) = omega arith
weight_left size (x ∷ xs) zero = omega arith
weight_left size (x ∷ xs) (suc i) = omega (arith, weight_left size xs i)
