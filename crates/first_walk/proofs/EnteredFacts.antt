-- After a file is entered, the table is right: its functions stand in the order of the text, its classes are right, and
-- what was there before stays.
use Rattle.std.proofs.Common.{◌≡◌, ℕ, zero, suc, ◌+◌, ◌<◌, ◌≤◌, true, false, List, [], ◌∷◌, ◌++◌, length, drop, Option, Some, None, slice_get, ⊎_elim, refl, sym, ap, ◌∙◌, subst, arith, append_assoc}
use Rattle.std.proofs.lemmas.Bool.{cases_lt}
use Rattle.ck_syntax.specs.Tree as tree
use Rattle.ck_syntax.specs.Tree.{Name, Fun}
use Rattle.type_rules.specs.Fitting.{is_below}
use Rattle.type_table.specs.Answer.{gives, and_then}
use Rattle.type_table.specs.declared.class.Own.{Own}
use Rattle.type_table.specs.declared.class.Own.TheVariants as own
use Rattle.type_table.specs.declared.class.Dispatch.{Dispatch}
use Rattle.type_table.specs.declared.class.Dispatch.TheVariants as by
use Rattle.first_walk.specs.FirstWalk.{with_classes, begun, with_parents, check_parents, with_heads, enter_items, entered}
use Rattle.type_table.specs.Names.{lookup}
use Rattle.type_table.specs.declared.class.Class.{Class}
use Rattle.type_table.specs.declared.class.Head.{Head}
use Rattle.type_table.specs.Table.{Table, class_of, file_of, fun_of, or_no_head, plain_head, line_by, line_within, member_in, member_named, own_member, as_member, ancestors, overridden, new_table}
use Rattle.type_table.proofs.Ranges.{Each, Within, ValueIn, ResultIn, many, HeadIn}
use Rattle.first_walk.proofs.TableFacts.{Entry, items_entries, file_entries, heads_of, owners_of, SameTypes, SameClass, IsClassOf, IsTable, IsLater, Dispatched, Owned, Overrides, IsOwn, IsBodyOf, IsConstructorOf, IsEntered}
use Rattle.type_table.proofs.ListFacts.{Holds, holds_at, holds_else, each_map, within_then, get_within, found_is}
use Rattle.first_walk.proofs.SameNames.{GivesSuch, gives_at, gives_then, gives_map, same_classes, ancestors_same, overridden_same, items_same}
use Rattle.first_walk.proofs.LinesBelow.{child_is_below}
use Rattle.first_walk.proofs.Growth.{MayOverride, OwnedSoFar, OwnSoFar, BodySoFar, ConstructorSoFar, ClassSoFar}
use Rattle.first_walk.proofs.EnterSteps.{Ready, SoFar, counts}
use Rattle.first_walk.proofs.EnterText.{EnteredSoFar, ItemsAfter, items_went}
use Rattle.first_walk.proofs.TextFuns.{FunsHold, ClassesHold, funs_go, funs_keep, classes_keep}
use Rattle.first_walk.proofs.NamedClasses.{IsNew, NamedAfter, classes_named}
use Rattle.first_walk.proofs.Begun.{begun_named}
use Rattle.first_walk.proofs.Extended.{CheckedAfter, all_checked}
use Rattle.first_walk.proofs.Started.{Started, started}
use Rattle.first_walk.proofs.EnterBase.{base_ready, base_so_far, owned_in, known_head}

-- what is right after file f with this text is entered, where t was the table before it
pub record IsEnteredFrom (t : Table) (before : List (Option ℕ)) (f : ℕ) (raw : tree.File) (u : Table) : Type 0 where
  pub table : IsTable u (before ++ owners_of (file_entries u f raw))
  pub funs : u.funs ≡ t.funs ++ heads_of (file_entries u f raw)
  pub main : (file_of u f).main ≡ length t.funs
  pub later : IsLater t u
  pub many_files : length u.files ≡ length t.files + 1
  pub earlier : (g : ℕ) → g < f → file_of u g ≡ file_of t g
  -- each function of the text has types, and is found in its class or its file under a number that has them
  pub functions : FunsHold (EnteredSoFar u f) u f raw
  -- each class of the text is a new one
  pub classes : ClassesHold (IsNew (many t) (many u)) u f raw

holds_from : {A : Type 0} (P : A → Type 0) (o : Option A) → ((a : A) → o ≡ Some a → P a) → Holds P o
holds_from P None f = tt
holds_from P (Some a) f = f a refl

-- what holds of all functions that the texts of these classes have holds of the one that is overridden
overridden_holds : (P : Option Head → Type 0) (u : Table) (n : Name) (above : List ℕ)
    → Each (λ c. (h : Option Head) → lookup n (class_of u c).heads ≡ Some h → P h) above
    → Holds P (overridden u above n)
overridden_holds P u n [] all = tt
overridden_holds P u n (c ∷ above) all = holds_else P (lookup n (class_of u c).heads) (overridden u above n)
    (holds_from P (lookup n (class_of u c).heads) all.0) (overridden_holds P u n above all.1)

module _ (t : Table) (f : ℕ) (before : List (Option ℕ)) (is : IsTable t before) (raw : tree.File) (b : Table)
    (base : Started t f (before ++ None ∷ []) raw b) (f_is : f ≡ length t.files) (u : Table) where
  abbrev es : List Entry
  es = items_entries b f raw

  abbrev owners : List (Option ℕ)
  owners = (before ++ None ∷ []) ++ owners_of es

  module _ (so : SoFar b (many t) f (before ++ None ∷ []) es u) (done : FunsHold (EnteredSoFar u f) b f raw) where
    low_le : many t ≤ many u
    low_le = omega (arith, base.more, so.names.many_same)

    funs_within : Within t.funs u.funs
    funs_within = within_then t.funs b.funs u.funs (plain_head true ∷ [], base.funs) (heads_of es, so.funs)

    -- each function of a class's text was entered: in an older class
    old_entered : (c : ℕ) → c < many t → (n : Name) (h : Option Head) → lookup n (class_of t c).heads ≡ Some h
        → IsEntered u c n h
    old_entered c lt n h at = (
      g,
      d,
      ap (lookup n) same ∙ before_it.2,
      before_it.3
          ∙ ap (λ o. Some (or_no_head o)) (known ∙ sym (get_within t.funs u.funs g (fun_of t g) funs_within known)),
    )
      where
        before_it : IsEntered t c n h
        before_it = (is.classes c lt).heads n h at

        g : ℕ
        g = before_it.0

        d : Dispatch
        d = before_it.1

        same : (class_of u c).members ≡ (class_of t c).members
        same = (so.older c lt).members ∙ ap (λ (k : Class). k.members) (base.old c lt)

        right : IsOwn t before c (n, own.Fun g d)
        right = holds_at (λ o. IsOwn t before c (n, o)) (lookup n (class_of t c).members) (own.Fun g d)
            before_it.2 (found_is (λ m o. IsOwn t before c (m, o)) n (class_of t c).members (is.classes c lt).members)

        known : slice_get t.funs g ≡ Some (fun_of t g)
        known = known_head t.funs g (omega (arith, owned_in t before c n g d right.1, is.count))

    -- and in a class of the file
    new_entered : (c : ℕ) → many t ≤ c → (n : Name) (h : Option Head) → lookup n (class_of b c).heads ≡ Some h
        → IsEntered u c n h
    new_entered c le n h at = (it.0, it.2.0, it.2.1, it.4 ∙ ap (λ o. Some (or_no_head o)) (sym it.3))
      where
        it : EnteredSoFar u f (Some c) n h
        it = holds_at (EnteredSoFar u f (Some c) n) (lookup n (class_of b c).heads) h at
            (found_is (λ m o. EnteredSoFar u f (Some c) m o) n (class_of b c).heads
            (base.noted (EnteredSoFar u f) done c le))

    all_entered : (c : ℕ) (n : Name) (h : Option Head) → lookup n (class_of u c).heads ≡ Some h → IsEntered u c n h
    all_entered c n h at =
        ⊎_elim (λ lt. old_entered c lt n h (ap (λ (k : Class). lookup n k.heads) (sym (base.old c lt)) ∙ noted))
        (λ le. new_entered c le n h noted) (cases_lt c (many t))
      where
        noted : lookup n (class_of b c).heads ≡ Some h
        noted = ap (lookup n) (sym (so.names.heads c)) ∙ at

    each_here : (n : Name) (above : List ℕ) → Each
        (λ c. (h : Option Head) → lookup n (class_of u c).heads ≡ Some h → (x : Head) × (h ≡ Some x)) above
    each_here n [] = tt
    each_here n (c ∷ above) = ((λ h at. let it = all_entered c n h at in (fun_of u it.0, it.3)), each_here n above)

    overrides : (c : ℕ) (n : Name) (h : Head) → MayOverride b c n h → Overrides u (ancestors u c) n h
    overrides c n h may = (old.0, found ∙ ap Some old.1, fits.0, fits.1)
      where
        found : overridden u (ancestors u c) n ≡ Some may.0
        found = overridden_same b u so.names (ancestors u c) n
            ∙ ap (λ l. overridden b l n) (ancestors_same b u so.names c) ∙ may.1

        old : (x : Head) × (may.0 ≡ Some x)
        old = holds_at (λ o. (x : Head) × (o ≡ Some x)) (overridden u (ancestors u c) n) may.0 found
            (overridden_holds (λ o. (x : Head) × (o ≡ Some x)) u n (ancestors u c) (each_here n (ancestors u c)))

        fits : SameTypes h old.0 × (old.0.is_static ≡ false)
        fits = holds_at (λ (x : Head). SameTypes h x × (x.is_static ≡ false)) may.0 old.0 old.1 may.2

    -- each member is right
    fun_is : (g : ℕ) (h : Head) → slice_get u.funs g ≡ Some h → fun_of u g ≡ h
    fun_is g h at = ap or_no_head at

    owned_is : (c : ℕ) (n : Name) (g : ℕ) (h : Head) (d : Dispatch) → fun_of u g ≡ h → OwnedSoFar b owners c n g h d
        → Dispatched (fun_of u g) d × Owned u owners c n g d
    owned_is c n g h by.Static same so_far = (ap (λ (x : Head). x.is_static) same ∙ so_far.0, so_far.1)
    owned_is c n g h (by.NewSlot k) same so_far = (
      ap (λ (x : Head). x.is_static) same ∙ so_far.0,
      (
        so_far.1,
        overridden_same b u so.names (ancestors u c) n
            ∙ ap (λ l. overridden b l n) (ancestors_same b u so.names c) ∙ so_far.2,
      ),
    )
    owned_is c n g h by.Override same so_far = (
      ap (λ (x : Head). x.is_static) same ∙ so_far.0,
      (so_far.1, subst (Overrides u (ancestors u c) n) (sym same) (overrides c n h so_far.2)),
    )

    own_is : (c : ℕ) (m : Name × Own) → OwnSoFar b u.funs u.statics owners c (class_of u c).fields m
        → IsOwn u owners c m
    own_is c (n, own.Field i k) so_far = so_far
    own_is c (n, own.Static v) so_far = (so_far.0, subst (λ m. ValueIn m v.kind) (sym so.names.many_same) so_far.1)
    own_is c (n, own.Auto) so_far = tt
    own_is c (n, own.Fun g d) so_far = owned_is c n g so_far.0 d (fun_is g so_far.0 so_far.1) so_far.2

    body_is : (c : ℕ) (o : Option ℕ) → BodySoFar u.funs owners c o → IsBodyOf u owners c o
    body_is c None so_far = tt
    body_is c (Some g) so_far = so_far

    constructor_is : (c : ℕ) (o : Option ℕ) → ConstructorSoFar owners c o → IsConstructorOf owners c o
    constructor_is c None so_far = tt
    constructor_is c (Some g) so_far = so_far

    class_is : (c : ℕ) → c < many u → IsClassOf u owners c
    class_is c lt = record {
      members = each_map (OwnSoFar b u.funs u.statics owners c (class_of u c).fields) (IsOwn u owners c) (own_is c)
          (class_of u c).members k.members;
      found = k.found;
      fields = subst (λ m. Each (ValueIn m) (class_of u c).fields) (sym so.names.many_same) k.fields;
      slots = k.slots;
      heads = all_entered c;
      body = body_is c (class_of u c).body k.body;
      constructor_is = constructor_is c (class_of u c).constructor k.constructor_so_far;
    }
      where
        k : ClassSoFar b u.funs u.statics owners c (class_of u c)
        k = so.classes c (omega (arith, lt, so.names.many_same))

    parents_within : (c : ℕ) → c < many t → slice_get u.parents c ≡ slice_get t.parents c
    parents_within c lt = ap (λ p. slice_get p c) so.names.parents ∙ base.old_parents c lt

    table_is : IsTable u owners
    table_is = record {
      count = counts b (many t) f (before ++ None ∷ []) (base_ready t f before is raw b base f_is) es u so;
      two = omega (arith, is.two, low_le);
      parents = ap length so.names.parents ∙ base.many_parents ∙ sym so.names.many_same;
      object = parents_within 0 (omega (arith, is.two)) ∙ is.object;
      event = parents_within 1 (omega (arith, is.two)) ∙ is.event;
      inner = subst (λ p. Each (λ c. c < many u) p) (sym so.names.parents)
          (subst (λ m. Each (λ c. c < m) b.parents) (sym so.names.many_same) base.inner);
      lines = λ c lt. subst (λ p. is_below p c 0 ≡ true) (sym so.names.parents)
          (base.lines c (omega (arith, lt, so.names.many_same)));
      publics = subst (λ p. Each (λ (e : Name × ℕ). e.1 < many u) p) (sym so.names.publics)
          (subst (λ m. Each (λ (e : Name × ℕ). e.1 < m) b.publics) (sym so.names.many_same) base.publics);
      files = so.files;
      statics = subst (λ m. Each (ResultIn m) u.statics) (sym so.names.many_same) so.statics;
      heads = subst (λ m. Each (HeadIn m) u.funs) (sym so.names.many_same) so.heads;
      classes = class_is;
    }

    is_later : IsLater t u
    is_later = record {
      more = low_le;
      parents = parents_within;
      funs = funs_within;
      statics = λ i k at some. get_within t.statics u.statics i k
          (subst (λ l. Within l u.statics) base.statics so.grown) at;
      classes = λ c lt. subst (λ k. SameClass k (class_of u c)) (base.old c lt) (so.older c lt);
    }

    -- the entries, named in the table as it is now
    entries_now : es ≡ items_entries u f raw
    entries_now = sym (items_same b u (same_classes b u so.names) f raw)

    owners_now : owners ≡ before ++ owners_of (file_entries u f raw)
    owners_now = append_assoc before (None ∷ []) (owners_of es) ∙ ap (λ l. before ++ (None ∷ owners_of l)) entries_now

    funs_now : u.funs ≡ t.funs ++ heads_of (file_entries u f raw)
    funs_now = so.funs ∙ ap (λ l. l ++ heads_of es) base.funs ∙ append_assoc t.funs (plain_head true ∷ []) (heads_of es)
        ∙ ap (λ l. t.funs ++ (plain_head true ∷ heads_of l)) entries_now

    facts : IsEnteredFrom t before f raw u
    facts = record {
      table = subst (IsTable u) owners_now table_is;
      funs = funs_now;
      main = so.names.mains f ∙ base.main;
      later = is_later;
      many_files = so.names.many_files ∙ base.many_files;
      earlier = λ g lt. so.others g (λ e. absurd (omega (arith, e, lt))) ∙ base.others g lt;
      functions = funs_keep b u f (same_classes b u so.names) (EnteredSoFar u f) raw done;
      classes = classes_keep b u f (same_classes b u so.names) (IsNew (many t) (many u)) raw
          (subst (λ m. ClassesHold (IsNew (many t) m) b f raw) (sym so.names.many_same) base.own);
    }

-- a whole file is entered
module _ (t : Table) (f : ℕ) (before : List (Option ℕ)) (is : IsTable t before) (f_is : f ≡ length t.files)
    (raw : tree.File) where
  abbrev Facts : Table → Type 0
  Facts = IsEnteredFrom t before f raw

  abbrev first : List (Option ℕ)
  first = before ++ None ∷ []

  members_entered : (v : Table) (named : NamedAfter t f first is.two f_is raw v) (w : Table)
      → CheckedAfter t f first is.two v named.0 (with_parents f v raw) raw w
      → GivesSuch Facts (enter_items f (with_heads f w raw) raw)
  members_entered v named w checked =
      subst (λ x. GivesSuch Facts (enter_items f (with_heads f x raw) raw)) (sym checked.0)
      (gives_map (ItemsAfter b (many t) f first ready raw) Facts
      (λ u after. facts t f before is raw b base f_is u after.0 after.1) (enter_items f b raw)
      (items_went b (many t) f first ready raw base.own (base_so_far t f before is raw b base)))
    where
      b : Table
      b = with_heads f (with_parents f v raw) raw

      base : Started t f first raw b
      base = started t f first before is raw v named.0 named.1 checked.1

      ready : Ready b (many t) f first
      ready = base_ready t f before is raw b base f_is

  all_entered_is : GivesSuch Facts (entered t f raw)
  all_entered_is =
      gives_then (NamedAfter t f first is.two f_is raw) Facts (with_classes f (begun t) raw)
      (λ v. and_then (check_parents f (with_parents f v raw) raw) (λ w. enter_items f (with_heads f w raw) raw))
      (classes_named t f first is.two f_is (begun t) (begun_named t before f is f_is) raw)
      (λ v named. gives_then (CheckedAfter t f first is.two v named.0 (with_parents f v raw) raw) Facts
      (check_parents f (with_parents f v raw) raw) (λ w. enter_items f (with_heads f w raw) raw)
      (all_checked t f first is.two v named.0 (with_parents f v raw) raw) (members_entered v named))

  pub entered_facts : (u : Table) → entered t f raw ≡ gives u → IsEnteredFrom t before f raw u
  entered_facts u e = gives_at Facts (entered t f raw) u e all_entered_is

pub entered_is : (t u : Table) (owners : List (Option ℕ)) (f : ℕ) (raw : tree.File) → IsTable t owners
    → f ≡ length t.files → entered t f raw ≡ gives u
    → IsTable u (owners ++ owners_of (file_entries u f raw)) × (u.funs ≡ t.funs ++ heads_of (file_entries u f raw))
    × ((file_of u f).main ≡ length t.funs) × IsLater t u
entered_is t u owners f raw is f_is e = let facts_of = entered_facts t f owners is f_is raw u e in
    (facts_of.table, facts_of.funs, facts_of.main, facts_of.later)

-- each function of the text has types
pub heads_are : (t u : Table) (owners : List (Option ℕ)) (f : ℕ) (raw : tree.File) → IsTable t owners
    → f ≡ length t.files → entered t f raw ≡ gives u → FunsHold (λ c n h. (x : Head) × (h ≡ Some x)) u f raw
heads_are t u owners f raw is f_is e =
    funs_go (EnteredSoFar u f) (λ c n h. (x : Head) × (h ≡ Some x)) u f (λ c n h so. (so.1, so.4)) raw
    (entered_facts t f owners is f_is raw u e).functions

-- and is what its name is to those who call it: in its class, and in its file
pub named_own : (t : Table) (c : ℕ) (n : Name) (o : Own) → lookup n (class_of t c).members ≡ Some o
    → member_named t c n ≡ Some (as_member t (ancestors t c) n o)
unfolding line_by
named_own t c n o at = named_in 127
  where
    named_in : (steps : ℕ) → member_in t (line_within t.parents (suc steps) c) n
        ≡ Some (as_member t (drop 1 (line_within t.parents (suc steps) c)) n o)
    named_in steps = ap (λ x. own_member t (drop 1 (line_within t.parents (suc steps) c)) n x
        (member_in t (drop 1 (line_within t.parents (suc steps) c)) n)) at

-- before any file ---------------------------------------------------------------------------------------

pub new_table_is : IsTable new_table []
new_table_is = record {
  count = refl;
  two = omega arith;
  parents = refl;
  object = refl;
  event = refl;
  inner = (omega arith, (omega arith, tt));
  lines = below_object;
  publics = tt;
  files = tt;
  statics = tt;
  heads = tt;
  classes = empty_class;
}
  where
    below_object : (c : ℕ) → c < 2 → is_below (0 ∷ 0 ∷ []) c 0 ≡ true
    below_object zero lt = child_is_below (0 ∷ 0 ∷ []) 0 refl
    below_object (suc zero) lt = child_is_below (0 ∷ 0 ∷ []) 1 refl
    below_object (suc (suc c)) lt = absurd (omega (arith, lt))

    empty_class : (c : ℕ) → c < 2 → IsClassOf new_table [] c
    empty_class zero lt = record {
      members = tt;
      found = tt;
      fields = tt;
      slots = refl;
      heads = λ n h at. absurd (cc);
      body = tt;
      constructor_is = tt;
    }
    empty_class (suc zero) lt = record {
      members = tt;
      found = tt;
      fields = tt;
      slots = refl;
      heads = λ n h at. absurd
          (cc);
      body = tt;
      constructor_is = tt;
    }
    empty_class (suc (suc c)) lt = absurd (omega (arith, lt))
