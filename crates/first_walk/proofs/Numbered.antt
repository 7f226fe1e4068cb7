-- The classes of a file are numbered in text order, from how many there were before it on, and each
-- keeps its number.
use Rattle.std.proofs.Common.{◌≡◌, ℕ, ◌+◌, ◌<◌, ◌≤◌, Bool, ◌||◌, List, [], ◌∷◌, length, drop, get_or, Option, Some, None, slice_get, refl, sym, ap, subst, ◌∙◌, arith, length-append}
use Rattle.std.proofs.lemmas.List.{drop_more}
use Rattle.ck_syntax.specs.declared.file.Item.{Item as FileItem}
use Rattle.ck_syntax.specs.Size.{item_size}
use Rattle.ck_syntax.specs.Tree as tree
use Rattle.ck_syntax.specs.Tree.{Name, Item, no_items, class_item, fun_item, stmt_item}
use Rattle.ck_syntax.specs.View.{view_item, items_of}
use Rattle.type_table.specs.Answer.{Answer, Fault, gives, refused, wrong}
use Rattle.type_table.specs.declared.fault.FaultKind.TheVariants.{Duplicate}
use Rattle.type_table.specs.Names.{lookup, is_some, built_in, and_first}
use Rattle.type_table.specs.Table.{Table, or_no_file, file_of, class_named, named_class}
use Rattle.type_table.proofs.Ranges.{many}
use Rattle.type_table.proofs.Walks.{run, on}
use Rattle.type_table.proofs.Weights as weights
use Rattle.type_table.proofs.Weights.{weight, weight_next}
use Rattle.first_walk.specs.FirstWalk.{begun, with_new_class, with_item_named, with_classes, or_object, own_class, with_parents, with_heads, enter_items}
use Rattle.first_walk.specs.Room.{FileReady, HasNumber, next_class, AreNumbered}
use Rattle.first_walk.proofs.DeclaredFacts.{begun_ready, new_ready}
use Rattle.first_walk.proofs.DeclaredFrame.{changed_at, first_stays, first_found, same_own_class}
use Rattle.first_walk.proofs.DeclaredWalks.{items_keep}
use Rattle.first_walk.proofs.Fresh.{parents_files, heads_files, file_ready}
use Rattle.first_walk.proofs.ItemWalks.{name_item, classes_run}
use Rattle.first_walk.proofs.NamedClasses.{not_named, or_false}
use Rattle.first_walk.proofs.SameNames.{GivesSuch, gives_if}

-- along the items -------------------------------------------------------------------------------

-- the next item has the next number, and those behind it have theirs
next_two : (t : Table) (f c : ℕ) (xs : List FileItem) (i : ℕ) (x : FileItem) → i < length xs
    → x ≡ get_or xs i x → AreNumbered t f c (drop i xs)
    → HasNumber t f c (view_item x) × AreNumbered t f (next_class c (view_item x)) (drop (i + 1) xs)
next_two t f c xs i x lt is =
    subst (AreNumbered t f c) (drop_more xs i x lt ∙ ap (λ y. y ∷ drop (i + 1) xs) (sym is))

pub number_next : (t : Table) (f c : ℕ) (xs : List FileItem) (i : ℕ) (x : FileItem) → i < length xs
    → x ≡ get_or xs i x → AreNumbered t f c (drop i xs) → HasNumber t f c (view_item x)
number_next t f c xs i x lt is are = (next_two t f c xs i x lt is are).0

-- an item has at most one number
next_within : (c : ℕ) (x : Item) → next_class c x ≤ c + item_size x
next_within c (class_item (tree.class l p n parent ms)) = omega arith
next_within c (fun_item g) = omega arith
next_within c (stmt_item s) = omega arith

-- numbers stay ----------------------------------------------------------------------------------

-- where each name stands for what it stood for
module _ (t u : Table) (f : ℕ) (same : (n : Name) → own_class u f n ≡ own_class t f n) where
  number_stays : (c : ℕ) (x : Item) → HasNumber t f c x → HasNumber u f c x
  number_stays c (class_item (tree.class l p n parent ms)) is = same n ∙ is
  number_stays c (fun_item g) is = tt
  number_stays c (stmt_item s) is = tt

  pub numbers_stay : (c : ℕ) (xs : List FileItem) → AreNumbered t f c xs → AreNumbered u f c xs
  numbers_stay c [] are = tt
  numbers_stay c (x ∷ xs) are =
      (number_stays c (view_item x) are.0, numbers_stay (next_class c (view_item x)) xs are.1)

-- so do those behind the next item
module _ (t u : Table) (f : ℕ) (same : (n : Name) → own_class u f n ≡ own_class t f n)
    (c k : ℕ) (xs : List FileItem) (i : ℕ) (x : FileItem) (lt : i < length xs)
    (is : x ≡ get_or xs i x) (next : k ≡ next_class c (view_item x)) where
  pub numbers_next : AreNumbered t f c (drop i xs) → AreNumbered u f k (drop (i + 1) xs)
  numbers_next are =
      subst (λ d. AreNumbered u f d (drop (i + 1) xs)) (sym next)
      (numbers_stay t u f same (next_class c (view_item x)) (drop (i + 1) xs)
      (next_two t f c xs i x lt is are).1)

-- and few numbers are left
pub few_next : (c k first : ℕ) (xs : List FileItem) (i : ℕ) (x : FileItem) → i < length xs
    → x ≡ get_or xs i x → k ≡ next_class c (view_item x)
    → c + weight weights.one_item (drop i xs) ≤ first + weight weights.one_item xs
    → k + weight weights.one_item (drop (i + 1) xs) ≤ first + weight weights.one_item xs
few_next c k first xs i x lt is next le =
    omega (arith, le, next, next_within c (view_item x), weight_next weights.one_item xs i x lt is)

-- the files stay
pub same_files : (t u : Table) (f : ℕ) → u.files ≡ t.files → (n : Name)
    → own_class u f n ≡ own_class t f n
same_files t u f is n = ap (λ fs. or_object (lookup n (or_no_file (slice_get fs f)).classes)) is

-- classes are named -----------------------------------------------------------------------------

module _ (f : ℕ) where
  -- a class of the file is known by its name
  abbrev IsNamed : Table → Name → ℕ → Type 0
  IsNamed t n c = lookup n (file_of t f).classes ≡ Some c

  -- so is an item that is one
  abbrev IsNamedBy : Table → ℕ → Item → Type 0
  IsNamedBy t c (class_item (tree.class l p n parent ms)) = IsNamed t n c
  IsNamedBy t c (fun_item g) = Unit {0}
  IsNamedBy t c (stmt_item s) = Unit {0}

  -- one item's class was named
  record After (u : Table) (x : Item) (v : Table) : Type 0 where
    ready : FileReady f v
    more : many v ≡ next_class (many u) x
    kept : (m : Name) (c : ℕ) → IsNamed u m c → IsNamed v m c
    named : IsNamedBy v (many u) x

  module _ (u : Table) (ready : FileReady f u) where
    abbrev known : List (Name × ℕ)
    known = (file_of u f).classes

    module _ (p : Bool) (n : Name) where
      abbrev added : Table
      added = with_new_class u f p n

      changed : (m : Name) → lookup m (file_of added f).classes ≡ lookup m (and_first n (many u) known)
      changed m =
          ap (λ o. lookup m (or_no_file o).classes)
          (changed_at u.files f (record (file_of u f) { classes = and_first n (many u) known }) ready.file)

      new_after : (l : ℕ) (parent : Option Name) (ms : tree.Members) → lookup n known ≡ None
          → After u (class_item (tree.class l p n parent ms)) added
      new_after l parent ms none = record {
        ready = new_ready f u p n ready;
        more = length-append u.classes (named_class f p n ∷ []) ∙ omega arith;
        kept = λ m c is. changed m ∙ first_stays n (many u) known m c is;
        named = changed n ∙ first_found n (many u) known none;
      }

    item_after : (x : Item) → GivesSuch (After u x) (with_item_named f u x)
    item_after (class_item (tree.class l p n parent ms)) =
        gives_if (After u (class_item (tree.class l p n parent ms)))
        (is_some (class_named u f n) || is_some (built_in n)) (wrong f l Duplicate)
        (gives (with_new_class u f p n)) (λ e. tt)
        (λ e. new_after p n l parent ms
        (not_named u f n (or_false (is_some (class_named u f n)) (is_some (built_in n)) e)))
    item_after (fun_item g) = record { ready = ready; more = refl; kept = λ m c is. is; named = tt }
    item_after (stmt_item s) = record { ready = ready; more = refl; kept = λ m c is. is; named = tt }

  -- those of all items
  record AllAfter (u : Table) (xs : List FileItem) (v : Table) : Type 0 where
    kept : (m : Name) (c : ℕ) → IsNamed u m c → IsNamed v m c
    numbered : AreNumbered v f (many u) xs

  number_of : (v : Table) (c : ℕ) (x : Item) → IsNamedBy v c x → HasNumber v f c x
  number_of v c (class_item (tree.class l p n parent ms)) is = ap or_object is
  number_of v c (fun_item g) is = tt
  number_of v c (stmt_item s) is = tt

  named_on : (u v : Table) → ((m : Name) (c : ℕ) → IsNamed u m c → IsNamed v m c) → (c : ℕ) (x : Item)
      → IsNamedBy u c x → IsNamedBy v c x
  named_on u v kept c (class_item (tree.class l p n parent ms)) is = kept n c is
  named_on u v kept c (fun_item g) is = tt
  named_on u v kept c (stmt_item s) is = tt

  -- what is refused stays so
  run_refused : (why : Fault) (xs : List FileItem)
      → run (on (name_item f)) (refused why) xs ≡ refused why
  run_refused why [] = refl
  run_refused why (x ∷ xs) = run_refused why xs

  unlike : (why : Fault) (v : Table) → refused why ≡ gives v → ⊥
  unlike why v e = cc

  same_gives : (u v : Table) → gives u ≡ gives v → u ≡ v
  same_gives u v e = cc

  -- those of one item, and then of the others
  after_then : (x : FileItem) (xs : List FileItem) (u w v : Table) → After u (view_item x) w
      → AllAfter w xs v → AllAfter u (x ∷ xs) v
  after_then x xs u w v one rest = record {
    kept = λ m c is. rest.kept m c (one.kept m c is);
    numbered = (
      number_of v (many u) (view_item x) (named_on w v rest.kept (many u) (view_item x) one.named),
      subst (λ c. AreNumbered v f c xs) one.more rest.numbered,
    );
  }

  answered : (x : FileItem) (xs : List FileItem) (u v : Table) (a : Answer Table)
      → GivesSuch (After u (view_item x)) a
      → ((w : Table) → FileReady f w → run (on (name_item f)) (gives w) xs ≡ gives v → AllAfter w xs v)
      → run (on (name_item f)) a xs ≡ gives v → AllAfter u (x ∷ xs) v
  answered x xs u v (refused why) one go gave = absurd (unlike why v (sym (run_refused why xs) ∙ gave))
  answered x xs u v (gives w) one go gave = after_then x xs u w v one (go w one.ready gave)

  all_after : (xs : List FileItem) (u v : Table) → FileReady f u
      → run (on (name_item f)) (gives u) xs ≡ gives v → AllAfter u xs v
  all_after [] u v ready gave =
      subst (AllAfter u []) (same_gives u v gave) (record { kept = λ m c is. is; numbered = tt })
  all_after (x ∷ xs) u v ready gave =
      answered x xs u v (name_item f u x) (item_after u ready (view_item x))
      (λ w ready_w gave_w. all_after xs w v ready_w gave_w) gave

-- at each step of the walk over a file
module _ (t : Table) (f : ℕ) (some : 0 < many t) (next : f ≡ length t.files) (xs : List FileItem) (u : Table)
    (named : with_classes f (begun t) (items_of no_items xs) ≡ gives u) where
  abbrev raw : tree.File
  raw = items_of no_items xs

  abbrev parented : Table
  parented = with_parents f u raw

  abbrev headed : Table
  headed = with_heads f parented raw

  pub named_numbered : AreNumbered u f (many t) xs
  named_numbered =
      (all_after f xs (begun t) u (begun_ready t f next some)
      (sym (classes_run f (begun t) no_items xs) ∙ named)).numbered

  pub parented_numbered : AreNumbered parented f (many t) xs
  parented_numbered =
      numbers_stay u parented f (same_files u parented f (parents_files f u raw)) (many t) xs
      named_numbered

  pub headed_numbered : AreNumbered headed f (many t) xs
  headed_numbered =
      numbers_stay parented headed f (same_files parented headed f (heads_files f parented raw)) (many t)
      xs parented_numbered

  pub entered_numbered : (v : Table) → enter_items f headed raw ≡ gives v
      → AreNumbered v f (many t) xs
  entered_numbered v gave =
      numbers_stay headed v f
      (same_own_class f headed v (items_keep f headed v raw (file_ready t f some next raw u named) gave))
      (many t) xs headed_numbered
