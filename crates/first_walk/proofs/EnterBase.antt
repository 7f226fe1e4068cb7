-- As the members of a file begin to be entered, all older classes are right, and the new ones are blank.
use Rattle.std.proofs.Common.{◌≡◌, ℕ, zero, suc, ◌+◌, ◌<◌, ◌≤◌, true, List, [], ◌∷◌, ◌++◌, length, drop, Option, Some, None, slice_get, ⊎_elim, refl, sym, ap, ◌∙◌, subst, arith, length-append}
use Rattle.std.proofs.lemmas.Bool.{cases_lt}
use Rattle.std.proofs.lemmas.List.{append-nil}
use Rattle.std.proofs.lemmas.Option.{slice_get_within}
use Rattle.ck_values.specs.declared.kind.Elem.{Elem}
use Rattle.ck_values.specs.declared.kind.Elem.TheVariants as elem
use Rattle.ck_values.specs.declared.kind.Kind.{Kind}
use Rattle.ck_values.specs.declared.kind.Kind.TheVariants as kind
use Rattle.ck_syntax.specs.Tree as tree
use Rattle.ck_syntax.specs.Tree.{Name}
use Rattle.type_table.specs.declared.class.Own.{Own}
use Rattle.type_table.specs.declared.class.Own.TheVariants as own
use Rattle.type_table.specs.declared.class.Dispatch.{Dispatch}
use Rattle.type_table.specs.declared.class.Dispatch.TheVariants as by
use Rattle.type_table.specs.Finished.{numbers}
use Rattle.type_table.specs.Names.{lookup, or_else}
use Rattle.type_table.specs.declared.class.Class.{Class}
use Rattle.type_table.specs.declared.class.Head.{Head}
use Rattle.type_table.specs.Table.{Table, class_of, file_of, fun_of, or_no_head, plain_head, line, ancestors, overridden}
use Rattle.type_table.proofs.Ranges.{Each, ElemIn, ValueIn, many, ResultIn, HeadIn}
use Rattle.first_walk.proofs.TableFacts.{IsFileOf, IsClassOf, IsTable, Dispatched, Owned, IsOwn, IsBodyOf, IsConstructorOf, new_slots}
use Rattle.type_table.proofs.ListFacts.{each_map, each_push, within_same, within_is, within_push}
use Rattle.first_walk.proofs.SameNames.{same_self}
use Rattle.first_walk.proofs.LinesBelow.{line_by_same, line_in, each_drop}
use Rattle.first_walk.proofs.Growth.{OwnedSoFar, OwnSoFar, BodySoFar, ConstructorSoFar, ClassSoFar, class_grows}
use Rattle.first_walk.proofs.EnterSteps.{Ready, SoFar}
use Rattle.first_walk.proofs.NamedClasses.{IsNew}
use Rattle.first_walk.proofs.Started.{Started, IsBlank}

-- more classes are in range ---------------------------------------------------------------------------

elem_more : (m n : ℕ) → m ≤ n → (e : Elem) → ElemIn m e → ElemIn n e
elem_more m n le (elem.Class c) lt = omega (arith, le, lt)
elem_more m n le _ lt = tt

pub value_more : (m n : ℕ) → m ≤ n → (k : Kind) → ValueIn m k → ValueIn n k
value_more m n le kind.Void is = is
value_more m n le kind.Null is = is
value_more m n le (kind.One e) is = elem_more m n le e is
value_more m n le (kind.Row e) is = elem_more m n le e is
value_more m n le (kind.Grid e) is = elem_more m n le e is

result_more : (m n : ℕ) → m ≤ n → (k : Kind) → ResultIn m k → ResultIn n k
result_more m n le kind.Void is = tt
result_more m n le kind.Null is = is
result_more m n le (kind.One e) is = elem_more m n le e is
result_more m n le (kind.Row e) is = elem_more m n le e is
result_more m n le (kind.Grid e) is = elem_more m n le e is

pub head_more : (m n : ℕ) → m ≤ n → (h : Head) → HeadIn m h → HeadIn n h
head_more m n le h is = (
  each_map (ValueIn m) (ValueIn n) (value_more m n le) h.params is.0,
  result_more m n le h.result
      is.1,
)

pub known_head : (hs : List Head) (g : ℕ) → g < length hs → slice_get hs g ≡ Some (or_no_head (slice_get hs g))
known_head [] g lt = absurd (omega (arith, lt))
known_head (h ∷ hs) zero lt = refl
known_head (h ∷ hs) (suc g) lt = known_head hs g (omega (arith, lt))

-- a member that is right has its function in range
pub owned_in : (t : Table) (owners : List (Option ℕ)) (c : ℕ) (n : Name) (g : ℕ) (d : Dispatch) → Owned t owners c n g d
    → g < length owners
owned_in t owners c n g by.Static so = slice_get_within owners g None so
owned_in t owners c n g (by.NewSlot k) so = slice_get_within owners g (Some c) so.0
owned_in t owners c n g by.Override so = slice_get_within owners g (Some c) so.0

module _ (t : Table) (f : ℕ) (before : List (Option ℕ)) (is : IsTable t before) (raw : tree.File) (b : Table)
    (started : Started t f (before ++ None ∷ []) raw b) where
  abbrev first : List (Option ℕ)
  first = before ++ None ∷ []

  some : 0 < many t
  some = omega (arith, is.two)

  -- what the old classes override
  pub old_line : (c : ℕ) → c < many t → line b c ≡ line t c
  old_line c lt = line_by_same t.parents b.parents (many t) some started.old_parents is.inner c lt

  old_overridden : (n : Name) (above : List ℕ) → Each (λ x. x < many t) above
      → overridden b above n ≡ overridden t above n
  old_overridden n [] all = refl
  old_overridden n (c ∷ above) all =
      ap (λ (k : Class). or_else (lookup n k.heads) (overridden b above n)) (started.old c all.0)
      ∙ ap (or_else (lookup n (class_of t c).heads)) (old_overridden n above all.1)

  above_overridden : (c : ℕ) → c < many t → (n : Name) → overridden b (ancestors b c) n ≡ overridden t (ancestors t c) n
  above_overridden c lt n = ap (λ l. overridden b (drop 1 l) n) (old_line c lt)
      ∙ old_overridden n (ancestors t c) (each_drop (many t) (line t c) (line_in t.parents (many t) some is.inner c lt))

  module _ (c : ℕ) (lt : c < many t) where
    k : IsClassOf t before c
    k = is.classes c lt

    old_owned : (n : Name) (g : ℕ) (d : Dispatch) → Dispatched (fun_of t g) d → Owned t before c n g d
        → OwnedSoFar b before c n g (fun_of t g) d
    old_owned n g by.Static sent owned = (sent, owned)
    old_owned n g (by.NewSlot j) sent owned = (sent, owned.0, above_overridden c lt n ∙ owned.1)
    old_owned n g by.Override sent owned = let over = owned.1 in
        (sent, owned.0, (Some over.0, above_overridden c lt n ∙ over.1, (over.2, over.3)))

    old_own : (m : Name × Own) → IsOwn t before c m → OwnSoFar b t.funs t.statics before c (class_of t c).fields m
    old_own (n, own.Field i x) so = so
    old_own (n, own.Static v) so = (so.0, value_more (many t) (many b) started.more v.kind so.1)
    old_own (n, own.Auto) so = tt
    old_own (n, own.Fun g d) so = (
      fun_of t g,
      known_head t.funs g
          (omega (arith, owned_in t before c n g d so.1, is.count)),
      old_owned n g d so.0 so.1,
    )

    old_body : (o : Option ℕ) → IsBodyOf t before c o → BodySoFar t.funs before c o
    old_body None so = tt
    old_body (Some g) so = so

    old_constructor : (o : Option ℕ) → IsConstructorOf before c o → ConstructorSoFar before c o
    old_constructor None so = tt
    old_constructor (Some g) so = so

    old_class : ClassSoFar b b.funs b.statics first c (class_of b c)
    old_class = subst (ClassSoFar b b.funs b.statics first c) (sym (started.old c lt))
        (class_grows b t.funs b.funs t.statics b.statics before first (plain_head true ∷ [], started.funs)
        (within_is t.statics b.statics started.statics) (within_push before None) c (class_of t c)
        (record {
          members = each_map (IsOwn t before c) (OwnSoFar b t.funs t.statics before c (class_of t c).fields) old_own
              (class_of t c).members k.members;
          found = k.found;
          fields = each_map (ValueIn (many t)) (ValueIn (many b)) (value_more (many t) (many b) started.more)
              (class_of t c).fields k.fields;
          slots = k.slots;
          body = old_body (class_of t c).body k.body;
          constructor_so_far = old_constructor (class_of t c).constructor k.constructor_is;
        }))

  new_class : (c : ℕ) → IsBlank (class_of b c) → ClassSoFar b b.funs b.statics first c (class_of b c)
  new_class c blank = record {
    members = subst (Each (OwnSoFar b b.funs b.statics first c (class_of b c).fields)) (sym blank.members) tt;
    found = subst (λ ms. Each (λ (m : Name × Own). lookup m.0 ms ≡ Some m.1) ms) (sym blank.members) tt;
    fields = subst (Each (ValueIn (many b))) (sym blank.fields) tt;
    slots = ap new_slots blank.members ∙ sym (ap numbers blank.slots);
    body = subst (BodySoFar b.funs first c) (sym blank.body) tt;
    constructor_so_far = subst (ConstructorSoFar first c) (sym blank.constructor_none) tt;
  }

  each_class : (c : ℕ) → c < many b → ClassSoFar b b.funs b.statics first c (class_of b c)
  each_class c lt = ⊎_elim (λ old. old_class c old) (λ le. new_class c (started.blank c le)) (cases_lt c (many t))

  pub base_ready : f ≡ length t.files → Ready b (many t) f first
  base_ready f_is = record {
    in_files = omega (arith, f_is, started.many_files);
    two = omega (arith, is.two, started.more);
    counted = length-append before (None ∷ []) ∙ ap (λ n. n + 1) is.count
        ∙ sym (ap length started.funs ∙ length-append t.funs (plain_head true ∷ []));
    publics = started.publics;
    classes = each_map (λ (e : Name × ℕ). IsNew (many t) (many b) e.1) (λ (e : Name × ℕ). e.1 < many b) (λ e new. new.1)
        (file_of b f).classes started.classes;
  }

  no_more : first ++ [] ≡ first
  no_more = append-nil first

  pub base_so_far : SoFar b (many t) f first [] b
  base_so_far = record {
    names = same_self b;
    funs = sym (append-nil b.funs);
    grown = within_same b.statics;
    files = subst (λ l. Each (IsFileOf b l) b.files) (sym no_more) started.files;
    statics = subst (Each (ResultIn (many b))) (sym started.statics)
        (each_map (ResultIn (many t)) (ResultIn (many b)) (result_more (many t) (many b) started.more) t.statics
        is.statics);
    heads = subst (Each (HeadIn (many b))) (sym started.funs)
        (each_push (HeadIn (many b)) t.funs (plain_head true)
        (each_map (HeadIn (many t)) (HeadIn (many b)) (head_more (many t) (many b) started.more) t.funs is.heads)
        (tt, tt));
    classes = λ c lt. subst (λ l. ClassSoFar b b.funs b.statics l c (class_of b c)) (sym no_more) (each_class c lt);
    older = λ c lt. record {
      name = refl;
      members = refl;
      fields = refl;
      slots = refl;
      body = refl;
      constructor_same =
          refl;
    };
    others = λ g other. refl;
  }
