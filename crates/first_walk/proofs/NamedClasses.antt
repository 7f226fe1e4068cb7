-- The classes of a file, entered by name: each has a number of its own behind all older classes, and nothing in it.
use Rattle.std.proofs.Common.{◌≡◌, ℕ, ◌+◌, ◌<◌, ◌≤◌, Bool, true, false, ◌||◌, List, [], ◌∷◌, ◌++◌, length, Option, Some, None, slice_get, refl, sym, ap, ◌∙◌, subst, arith, length-append}
use Rattle.std.proofs.lemmas.List.{length-set}
use Rattle.ck_syntax.specs.Tree as tree
use Rattle.ck_syntax.specs.Tree.{Name, Item, no_items, and_item, class_item, fun_item, stmt_item}
use Rattle.type_rules.specs.Fitting.{parent_or}
use Rattle.type_table.specs.Answer.{gives, wrong}
use Rattle.type_table.specs.declared.fault.FaultKind.TheVariants.{Duplicate}
use Rattle.first_walk.specs.FirstWalk.{with_public, with_new_class, with_item_named, with_classes, or_object, own_class}
use Rattle.type_table.specs.Names.{lookup, or_else, as_class, built_in, is_some, and_first}
use Rattle.type_table.specs.declared.class.Class.{Class}
use Rattle.type_table.specs.declared.class.FileNames.{FileNames as File}
use Rattle.type_table.specs.Table.{Table, no_class, or_no_class, or_no_file, class_of, file_of, class_named, seen_from, plain_head, parent, named_class}
use Rattle.type_table.proofs.Ranges.{Each, Within, many}
use Rattle.first_walk.proofs.TableFacts.{IsFileOf}
use Rattle.type_table.proofs.ListFacts.{push_cases, get_front, get_set_other, get_set_same, each_map, each_push, each_set, within_same, and_new, each_first, lookup_within, lookup_new}
use Rattle.first_walk.proofs.SameNames.{GivesSuch, gives_then, gives_if}
use Rattle.first_walk.proofs.Growth.{file_grows, no_file_is, each_file}
use Rattle.first_walk.proofs.TextFuns.{ClassHolds, ClassesHold}

-- nothing is in a class yet
pub record IsEmpty (k : Class) : Type 0 where
  pub heads : k.heads ≡ []
  pub members : k.members ≡ []
  pub fields : k.fields ≡ []
  pub slots : k.slots ≡ 0
  pub body : k.body ≡ None
  pub constructor_none : k.constructor ≡ None

pub no_class_empty : IsEmpty no_class
no_class_empty = record {
  heads = refl;
  members = refl;
  fields = refl;
  slots = refl;
  body = refl;
  constructor_none =
      refl;
}

-- a number is new and known
abbrev pub IsNew : (low all : ℕ) → ℕ → Type 0
IsNew low all c = (low ≤ c) × (c < all)

-- t is the table before file f
pub record Named (t : Table) (f : ℕ) (owners : List (Option ℕ)) (u : Table) : Type 0 where
  pub funs : u.funs ≡ t.funs ++ plain_head true ∷ []
  pub statics : u.statics ≡ t.statics
  pub more : many t ≤ many u
  pub old : (c : ℕ) → c < many t → class_of u c ≡ class_of t c
  pub empty : (c : ℕ) → many t ≤ c → IsEmpty (class_of u c)
  pub many_parents : length u.parents ≡ many u
  pub old_parents : (c : ℕ) → c < many t → slice_get u.parents c ≡ slice_get t.parents c
  pub new_parents : (c : ℕ) → many t ≤ c → parent u c ≡ 0
  pub inner : Each (λ c. c < many u) u.parents
  pub publics : Each (λ (e : Name × ℕ). e.1 < many u) u.publics
  pub many_files : length u.files ≡ length t.files + 1
  pub main : (file_of u f).main ≡ length t.funs
  pub others : (g : ℕ) → g < f → file_of u g ≡ file_of t g
  pub files : Each (IsFileOf u owners) u.files
  pub classes : Each (λ (e : Name × ℕ). IsNew (many t) (many u) e.1) (file_of u f).classes

pub named_kept : (low : ℕ) → 0 < low → (o : Option ℕ) → low ≤ or_object o → (c : ℕ) × (o ≡ Some c)
named_kept low some None le = absurd (omega (arith, some, le))
named_kept low some (Some c) le = (c, refl)

pub not_named : (t : Table) (f : ℕ) (n : Name) → is_some (class_named t f n) ≡ false
    → lookup n (file_of t f).classes ≡ None
not_named t f n is = go (lookup n (file_of t f).classes)
    (or_else (seen_from t f (lookup n t.publics)) (as_class (built_in n))) is
  where
    go : (o other : Option ℕ) → is_some (or_else o other) ≡ false → o ≡ None
    go None other e = refl
    go (Some c) other e = absurd (cc)

pub or_false : (a b : Bool) → a || b ≡ false → a ≡ false
or_false true b is = absurd (cc)
or_false false b is = refl

module _ (t : Table) (f : ℕ) (owners : List (Option ℕ)) (two : 2 ≤ many t) (f_is : f ≡ length t.files) where
  module _ (u : Table) (so : Named t f owners u) (p : Bool) (n : Name) (new : lookup n (file_of u f).classes ≡ None)
    where
      abbrev one_more : Table
      one_more = with_new_class u f p n

      many_more : many one_more ≡ many u + 1
      many_more = length-append u.classes (named_class f p n ∷ []) ∙ omega arith

      abbrev new_file : File
      new_file = record (file_of u f) { classes = and_first n (many u) (file_of u f).classes }

      in_files : f < length u.files
      in_files = omega (arith, so.many_files, f_is)

      file_is : file_of one_more f ≡ new_file
      file_is = ap or_no_file (get_set_same u.files f new_file in_files)

      pub class_found : lookup n (file_of one_more f).classes ≡ Some (many u)
      class_found = ap (λ (x : File). lookup n x.classes) file_is
          ∙ ap (lookup n) (and_new n (many u) (file_of u f).classes new) ∙ lookup_new n (file_of u f).classes (many u) new

      pub classes_grow : Within (file_of u f).classes (file_of one_more f).classes
      classes_grow = (
        (n, many u) ∷ [],
        ap (λ (x : File). x.classes) file_is
            ∙ and_new n (many u) (file_of u f).classes new,
      )

      empty_more : (c : ℕ) → many t ≤ c → IsEmpty (class_of one_more c)
      empty_more c le = push_cases (λ o. IsEmpty (or_no_class o)) u.classes (named_class f p n) c (so.empty c le)
          (record { heads = refl; members = refl; fields = refl; slots = refl; body = refl; constructor_none = refl })

      new_parents_more : (c : ℕ) → many t ≤ c → parent one_more c ≡ 0
      new_parents_more c le = push_cases (λ o. parent_or o ≡ 0) u.parents 0 c (so.new_parents c le) refl

      old_publics : Each (λ (e : Name × ℕ). e.1 < many one_more) u.publics
      old_publics = each_map (λ (e : Name × ℕ). e.1 < many u) (λ (e : Name × ℕ). e.1 < many one_more)
          (λ e lt. omega (arith, lt, many_more)) u.publics so.publics

      publics_more : (b : Bool) → Each (λ (e : Name × ℕ). e.1 < many one_more) (with_public b n (many u) u.publics)
      publics_more true = each_first (λ (e : Name × ℕ). e.1 < many one_more) n (many u) u.publics old_publics
          (omega (arith, many_more))
      publics_more false = old_publics

      kept_file : (x : File) → IsFileOf u owners x → IsFileOf one_more owners x
      kept_file x is = file_grows u one_more owners owners x (omega (arith, many_more)) (within_same u.statics)
          (within_same owners) is

      new_file_is : IsFileOf one_more owners new_file
      new_file_is = let kept = kept_file (file_of u f)
          (each_file (IsFileOf u owners) u.files f (no_file_is u owners) so.files) in record {
            classes = each_first (λ (e : Name × ℕ). e.1 < many one_more) n (many u) (file_of u f).classes kept.classes
                (omega (arith, many_more));
            funs = kept.funs;
            variables = kept.variables;
          }

      pub named_step : Named t f owners one_more
      named_step = record {
        funs = so.funs;
        statics = so.statics;
        more = omega (arith, so.more, many_more);
        old = λ c lt. ap or_no_class (get_front u.classes (named_class f p n ∷ []) c (omega (arith, lt, so.more)))
            ∙ so.old c lt;
        empty = empty_more;
        many_parents = length-append u.parents (0 ∷ []) ∙ omega (arith, so.many_parents, many_more);
        old_parents = λ c lt. get_front u.parents (0 ∷ []) c (omega (arith, lt, so.more, so.many_parents))
            ∙ so.old_parents c lt;
        new_parents = new_parents_more;
        inner = each_push (λ c. c < many one_more) u.parents 0
            (each_map (λ c. c < many u) (λ c. c < many one_more) (λ c lt. omega (arith, lt, many_more)) u.parents so.inner)
            (omega (arith, many_more));
        publics = publics_more p;
        many_files = length-set u.files f new_file ∙ so.many_files;
        main = ap (λ (x : File). x.main) file_is ∙ so.main;
        others = λ g lt. ap or_no_file (get_set_other u.files f g new_file (λ e. absurd (omega (arith, e, lt))))
            ∙ so.others g lt;
        files = each_set (IsFileOf one_more owners) u.files f new_file
            (each_map (IsFileOf u owners) (IsFileOf one_more owners) kept_file u.files so.files) new_file_is;
        classes = subst (λ (x : File). Each (λ (e : Name × ℕ). IsNew (many t) (many one_more) e.1) x.classes)
            (sym file_is)
            (each_first (λ (e : Name × ℕ). IsNew (many t) (many one_more) e.1) n (many u) (file_of u f).classes
            (each_map (λ (e : Name × ℕ). IsNew (many t) (many u) e.1)
            (λ (e : Name × ℕ). IsNew (many t) (many one_more) e.1)
            (λ e is. (is.0, omega (arith, is.1, many_more))) (file_of u f).classes so.classes)
            (so.more, omega (arith, many_more)));
      }

  -- a class keeps its number
  own_kept : (u v : Table) → Within (file_of u f).classes (file_of v f).classes → many u ≤ many v → (n : Name)
      → IsNew (many t) (many u) (own_class u f n) → IsNew (many t) (many v) (own_class v f n)
  own_kept u v grown le n is =
      let known = named_kept (many t) (omega (arith, two)) (lookup n (file_of u f).classes) is.0 in
      let same : own_class v f n ≡ own_class u f n = ap or_object
      (lookup_within n (file_of u f).classes (file_of v f).classes known.0 grown known.1 ∙ sym known.1) in
      (omega (arith, same, is.0), omega (arith, same, is.1, le))

  item_kept : (u v : Table) → Within (file_of u f).classes (file_of v f).classes → many u ≤ many v
      → (x : Item) → ClassHolds (IsNew (many t) (many u)) u f x → ClassHolds (IsNew (many t) (many v)) v f x
  item_kept u v grown le (class_item (tree.class l p n parent ms)) is = own_kept u v grown le n is
  item_kept u v grown le (fun_item g) is = tt
  item_kept u v grown le (stmt_item s) is = tt

  items_kept : (u v : Table) → Within (file_of u f).classes (file_of v f).classes → many u ≤ many v
      → (xs : tree.File) → ClassesHold (IsNew (many t) (many u)) u f xs → ClassesHold (IsNew (many t) (many v)) v f xs
  items_kept u v grown le no_items is = tt
  items_kept u v grown le (and_item xs x) is = (items_kept u v grown le xs is.0, item_kept u v grown le x is.1)

  abbrev pub NamedAfter : tree.File → Table → Type 0
  NamedAfter xs u = Named t f owners u × ClassesHold (IsNew (many t) (many u)) u f xs

  item_named : (xs : tree.File) (x : Item) (u : Table) → NamedAfter xs u
      → GivesSuch (NamedAfter (and_item xs x)) (with_item_named f u x)
  item_named xs (class_item (tree.class l p n parent ms)) u so =
      gives_if (NamedAfter (and_item xs (class_item (tree.class l p n parent ms))))
      (is_some (class_named u f n) || is_some (built_in n)) (wrong f l Duplicate) (gives (with_new_class u f p n))
      (λ e. tt) goes
    where
      goes : is_some (class_named u f n) || is_some (built_in n) ≡ false
          → NamedAfter (and_item xs (class_item (tree.class l p n parent ms))) (with_new_class u f p n)
      goes e =
          let new = not_named u f n (or_false (is_some (class_named u f n)) (is_some (built_in n)) e) in
          let v = with_new_class u f p n in
          let found : own_class v f n ≡ many u = ap or_object (class_found u so.0 p n new) in
          let more : many v ≡ many u + 1 = many_more u so.0 p n new in (
            named_step u so.0 p n new,
            (
              items_kept u v (classes_grow u so.0 p n new) (omega (arith, more)) xs so.1,
              (omega (arith, found, so.0.more), omega (arith, found, more)),
            ),
          )
  item_named xs (fun_item g) u so = (so.0, (so.1, tt))
  item_named xs (stmt_item s) u so = (so.0, (so.1, tt))

  pub classes_named : (u : Table) → Named t f owners u → (xs : tree.File)
      → GivesSuch (NamedAfter xs) (with_classes f u xs)
  classes_named u so no_items = (so, tt)
  classes_named u so (and_item xs x) = gives_then (NamedAfter xs) (NamedAfter (and_item xs x)) (with_classes f u xs)
      (λ v. with_item_named f v x) (classes_named u so xs) (λ v a. item_named xs x v a)
