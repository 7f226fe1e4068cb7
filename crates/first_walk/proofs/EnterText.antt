-- The walk over a file's text enters its functions in order, keeps the table right, and enters each function of a
-- class.
use Rattle.std.proofs.Common.{◌≡◌, ℕ, ◌<◌, ◌≤◌, Bool, true, false, not, ◌&&◌, ◌||◌, List, [], ◌∷◌, ◌++◌, length, Option, Some, None, slice_get, if◌then◌else◌, refl, sym, ap, ◌∙◌, subst, append_assoc}
use Rattle.std.proofs.lemmas.List.{append-nil}
use Rattle.std.specs.List.{list_any}
use Rattle.ck_values.specs.declared.kind.Kind.{Kind}
use Rattle.ck_values.specs.declared.kind.Kind.TheVariants.{Void}
use Rattle.ck_syntax.specs.declared.declaration.Base.{Base}
use Rattle.ck_syntax.specs.declared.declaration.DeclHead.{DeclHead}
use Rattle.ck_syntax.specs.declared.declaration.TypeName.{TypeName}
use Rattle.ck_syntax.specs.Tree as tree
use Rattle.ck_syntax.specs.Tree.{Name, Declr, declr_name, Stmt, Stmts, Params, Fun, Members, no_members, and_member, fun_member, stmt_member, Item, no_items, and_item, class_item, fun_item, stmt_item}
use Rattle.type_table.specs.Answer.{Answer, gives, wrong}
use Rattle.type_table.specs.declared.class.Own.{Own}
use Rattle.type_table.specs.declared.class.Own.TheVariants as own
use Rattle.type_table.specs.declared.class.Dispatch.{Dispatch}
use Rattle.type_table.specs.declared.class.Dispatch.TheVariants as by
use Rattle.type_table.specs.declared.fault.FaultKind.TheVariants.{UnknownName, Duplicate, BadClass, BadPlace}
use Rattle.first_walk.specs.FirstWalk.{own_class, head_of, has_unknown, is_name_taken, may_override, new_dispatch, old_dispatch, with_method, enter_beside, enter_method_head, with_constructor, enter_constructor_head, enter_method, refuse_constructor, with_fun, enter_fun_head, enter_fun, with_variable, with_static, with_field, with_member, is_taken, enter_of_kind, is_misplaced, enter_written, with_auto, enter_based, enter_declared, enter_stmt, enter_member, enter_members, has_statement, with_body, enter_item, enter_items}
use Rattle.type_table.specs.NameClash.{has_other, is_other, is_taken_below, is_event_call, is_member_taken}
use Rattle.type_table.specs.Names.{lookup, is_some}
use Rattle.type_table.specs.declared.class.Head.{Head}
use Rattle.type_table.specs.Table.{Table, class_of, file_of, or_no_head, ancestors, overridden}
use Rattle.type_table.specs.Types.{named_by, is_unknown, written_kind, may_be_static}
use Rattle.type_table.proofs.Ranges.{ValueIn, many, HeadIn}
use Rattle.first_walk.proofs.TableFacts.{Entry, owner, fun_entry, member_entries, body_entries, item_entries, items_entries}
use Rattle.type_table.proofs.ListFacts.{Holds, get_within, lookup_within}
use Rattle.first_walk.proofs.SameNames.{GivesSuch, gives_then, gives_if, gives_map, SameNames, same_classes, own_same, named_same, head_same, ancestors_same, overridden_same}
use Rattle.first_walk.proofs.TypeRanges.{NamedIn, result_of_value, named_in, written_in, head_in, constructor_in}
use Rattle.first_walk.proofs.Growth.{MayOverride}
use Rattle.first_walk.proofs.SameKinds.{may_is}
use Rattle.first_walk.proofs.EnterSteps.{Grows, grows_self, grows_then, Ready, SoFar}
use Rattle.first_walk.proofs.EnterRows.{RightDispatch, variable_step, auto_step, constructor_step, static_step, field_step, fun_step, fun_entered, method_step, method_entered, body_step}
use Rattle.first_walk.proofs.TextFuns.{MembersHold, ItemHolds, FunsHold, ClassHolds, ClassesHold, members_go, funs_go}
use Rattle.first_walk.proofs.EnterWalks.{stmt_keeps}

-- what a test refuses -----------------------------------------------------------------------------

or_false : (a b : Bool) → a || b ≡ false → (a ≡ false) × (b ≡ false)
or_false true b is = absurd (cc)
or_false false b is = (refl, is)

none_there : (o : Option Own) → is_other false o ≡ false → o ≡ None
none_there None is = refl
none_there (Some o) is = absurd (cc)

free_name : (t : Table) (c : ℕ) (n : Name) (beside : Bool) → is_member_taken t c n beside ≡ false
    → lookup n (class_of t c).members ≡ None
free_name t c n beside free =
    let own = has_other t n false c in
    let above = list_any (has_other t n beside) (ancestors t c) in
    let under = is_taken_below t c n beside in
    let call = not beside && is_event_call t c n in
    none_there (lookup n (class_of t c).members)
    (or_false own above (or_false (own || above) under (or_false (own || above || under) call free).0).0).0

free_fun : (t : Table) (f : ℕ) (n : Name) → is_name_taken t f n ≡ false → lookup n (file_of t f).funs ≡ None
free_fun t f n free =
    let classes = is_some (lookup n (file_of t f).classes) in
    let funs = is_some (lookup n (file_of t f).funs) in
    none_known (lookup n (file_of t f).funs) (or_false classes funs
    (or_false (classes || funs) (is_some (lookup n (file_of t f).variables)) free).0).1
  where
    none_known : (o : Option ℕ) → is_some o ≡ false → o ≡ None
    none_known None is = refl
    none_known (Some g) is = absurd (cc)

-- a function was entered, in its class or its file, under a number that has its types
abbrev pub FoundIn : Table → (file : ℕ) → (class : Option ℕ) → Name → (fun : ℕ) → Type 0
FoundIn t f None n g = lookup n (file_of t f).funs ≡ Some g
FoundIn t f (Some c) n g = (d : Dispatch) × (lookup n (class_of t c).members ≡ Some (own.Fun g d))

abbrev pub EnteredSoFar : Table → (file : ℕ) → Option ℕ → Name → Option Head → Type 0
EnteredSoFar t f c n h = (g : ℕ) × (x : Head) × FoundIn t f c n g × (slice_get t.funs g ≡ Some x) × (h ≡ Some x)

entered_grows : (f : ℕ) (t u : Table) → Grows t u → (c : Option ℕ) (n : Name) (h : Option Head) → EnteredSoFar t f c n h
    → EnteredSoFar u f c n h
entered_grows f t u grown c n h so = (
  so.0,
  so.1,
  found c so.2,
  get_within t.funs u.funs so.0 so.1 grown.funs so.3,
  so.4,
)
  where
    found : (c : Option ℕ) → FoundIn t f c n so.0 → FoundIn u f c n so.0
    found None at = lookup_within n (file_of t f).funs (file_of u f).funs so.0 (grown.named f) at
    found (Some c) at = (
      at.0,
      lookup_within n (class_of t c).members (class_of u c).members (own.Fun so.0 at.0)
          (grown.members c) at.1,
    )

module _ (b : Table) (low f : ℕ) (first : List (Option ℕ)) (ready : Ready b low f first) where
  abbrev Went : (start : Table) → List Entry → Table → Type 0
  Went start es u = SoFar b low f first es u × Grows start u

  went : (start : Table) (es more : List Entry) (u v : Table) → Went start es u → SoFar b low f first more v × Grows u v
      → Went start more v
  went start es more u v so step = (step.0, grows_then start u v so.1 step.1)

  type_range : (u : Table) → SameNames b u → (base : Base) → NamedIn (many b) (named_by u f base)
  type_range u names base = subst (NamedIn (many b)) (sym (named_same b u (same_classes b u names) f base))
      (named_in b f (many b) ready.two ready.classes ready.publics base)

  -- who declares: the file, or a class of it
  abbrev OwnIn : Option ℕ → Type 0
  OwnIn None = Unit {0}
  OwnIn (Some c) = (low ≤ c) × (c < many b)

  module _ (start : Table) (es : List Entry) where
    of_kind : (o : Option ℕ) → OwnIn o → (u : Table) (l : ℕ) (h : DeclHead) (n : Name) (k : Option Kind)
        → Holds (ValueIn (many b)) k → is_taken u f o n ≡ false → Went start es u
        → GivesSuch (Went start es) (enter_of_kind u f l o h n k)
    of_kind o own u l h n None is free so = tt
    of_kind None own u l h n (Some k) is free so = go h.is_static
      where
        go : (s : Bool) → GivesSuch (Went start es) (if s then wrong f l BadPlace else gives (with_variable u f n k))
        go true = tt
        go false = went start es es u (with_variable u f n k) so
            (variable_step b low f first ready u es so.0 n k (result_of_value (many b) k is))
    of_kind (Some c) own u l h n (Some k) is free so = go h.is_static (may_be_static h k)
      where
        new : lookup n (class_of u c).members ≡ None
        new = free_name u c n false free

        go : (s m : Bool) → GivesSuch (Went start es)
            (if not s then gives (with_field u c n k) else if m then gives (with_static u c n k) else wrong f l BadPlace)
        go false m = went start es es u (with_field u c n k) so
            (field_step b low f first ready u es so.0 c own.0 own.1 n new k is)
        go true true = went start es es u (with_static u c n k) so
            (static_step b low f first ready u es so.0 c own.0 own.1 n new k is)
        go true false = tt

    auto_went : (o : Option ℕ) → OwnIn o → (u : Table) (n : Name) → is_taken u f o n ≡ false → Went start es u
        → Went start es (with_auto u f o n)
    auto_went None mine u n free so = went start es es u (with_variable u f n Void) so
        (variable_step b low f first ready u es so.0 n Void tt)
    auto_went (Some c) mine u n free so = went start es es u (with_member u c n own.Auto) so
        (auto_step b low f first ready u es so.0 c mine.0 mine.1 n (free_name u c n false free))

    written_keeps : (o : Option ℕ) → OwnIn o → (u : Table) (l : ℕ) (h : DeclHead) (x : Declr) (k : Option Kind)
        → Holds (ValueIn (many b)) k → is_taken u f o (declr_name x) ≡ false → Went start es u
        → GivesSuch (Went start es) (enter_written u f l o h x k)
    written_keeps o own u l h x k is free so =
        gives_if (Went start es) (is_misplaced h x k) (wrong f l BadPlace) (enter_of_kind u f l o h (declr_name x) k)
        (λ e. tt)
        (λ e. of_kind o own u l h (declr_name x) k is free so)

    based_keeps : (o : Option ℕ) → OwnIn o → (u : Table) (l : ℕ) (h : DeclHead) (base : Option Base) (x : Declr)
        → Went start es u → GivesSuch (Went start es) (enter_based u f l o h base x)
    based_keeps o own u l h None x so =
        gives_if (Went start es) (is_taken u f o (declr_name x)) (wrong f l Duplicate)
        (gives (with_auto u f o (declr_name x))) (λ taken. tt)
        (λ free. auto_went o own u (declr_name x) free so)
    based_keeps o own u l h (Some base) x so =
        gives_if (Went start es) (is_unknown (named_by u f base)) (wrong f l UnknownName)
        (if is_taken u f o (declr_name x) then wrong f l Duplicate else entered) (λ e. tt)
        (λ e. gives_if (Went start es) (is_taken u f o (declr_name x)) (wrong f l Duplicate) entered (λ taken. tt)
        (λ free. written_keeps o own u l h x (written_kind h (named_by u f base) x)
        (written_in (many b) h (named_by u f base) x (type_range u so.0.names base)) free so))
      where
        entered : Answer Table
        entered = enter_written u f l o h x (written_kind h (named_by u f base) x)

    declared_keeps : (o : Option ℕ) → OwnIn o → (u : Table) (l : ℕ) (h : DeclHead) (x : Declr) → Went start es u
        → GivesSuch (Went start es) (enter_declared u f l o h x)
    declared_keeps o own u l h x so = based_keeps o own u l h h.base x so

    stmt_went : (o : Option ℕ) → OwnIn o → (u : Table) (s : Stmt) → Went start es u
        → GivesSuch (Went start es) (enter_stmt f o u s)
    stmt_went o own u s so = stmt_keeps f o (Went start es) (λ t l h x. declared_keeps o own t l h x) u s so

    -- methods
    module _ (c : ℕ) (own : OwnIn (Some c)) (l : ℕ) (s : Bool) (result : TypeName) (n : Name) (ps : Params)
        (body : Stmts) where
      abbrev text : Fun
      text = tree.fun l s result n ps body

      abbrev After : Table → Type 0
      After v = Went start (es ++ fun_entry b f (Some c) text ∷ []) v × EnteredSoFar v f (Some c) n (head_of b f text)

      module _ (u : Table) (so : Went start es u) (free : lookup n (class_of u c).members ≡ None)
          (h : Head) (is : head_of b f text ≡ Some h) (range : HeadIn (many b) h) (static_is : h.is_static ≡ s) where
        entry_is : (h, owner (Some c) h.is_static) ≡ fun_entry b f (Some c) text
        entry_is = ap (λ x. (h, owner (Some c) x)) static_is ∙ ap (λ o. (or_no_head o, owner (Some c) s)) (sym is)

        after : (d : Dispatch) → RightDispatch b c n h (class_of u c) d → After (with_method u c n h d)
        after d right =
            let found = method_entered b low f first ready u es so.0 c own.0 own.1 n free h range d right in (
              went start es (es ++ fun_entry b f (Some c) text ∷ []) u v so
                  (subst (λ e. SoFar b low f first (es ++ e ∷ []) v × Grows u v) entry_is step),
              (length u.funs, h, (d, found.0), found.1, is),
            )
          where
            v : Table
            v = with_method u c n h d

            step : SoFar b low f first (es ++ (h, owner (Some c) h.is_static) ∷ []) v × Grows u v
            step = method_step b low f first ready u es so.0 c own.0 own.1 n free h range d right

        new_right : overridden b (ancestors b c) n ≡ None → (x : Bool) → h.is_static ≡ x
            → RightDispatch b c n h (class_of u c) (if x then by.Static else by.NewSlot (class_of u c).slots)
        new_right none true e = e
        new_right none false e = (e, refl, none)

        old_right : MayOverride b c n h → (x : Bool) → h.is_static ≡ x
            → RightDispatch b c n h (class_of u c) (if x then by.Static else by.Override)
        old_right may true e = e
        old_right may false e = (e, may)

        over : (old : Option (Option Head)) → overridden u (ancestors u c) n ≡ old
            → overridden b (ancestors b c) n ≡ old
        over old is_old = ap (λ above. overridden b above n) (sym (ancestors_same b u so.0.names c))
            ∙ sym (overridden_same b u so.0.names (ancestors u c) n) ∙ is_old

        beside : (old : Option (Option Head)) → overridden u (ancestors u c) n ≡ old
            → GivesSuch After (enter_beside u f l c n h old)
        beside None is_old = after (new_dispatch (class_of u c) h) (new_right (over None is_old) h.is_static refl)
        beside (Some old) is_old =
            gives_if After (may_override h old) (gives (with_method u c n h (old_dispatch h))) (wrong f l BadClass)
            (λ may. after (old_dispatch h) (old_right (old, over (Some old) is_old, may_is h old may) h.is_static refl))
            (λ e. tt)

      method_head : (u : Table) → Went start es u → lookup n (class_of u c).members ≡ None → (o : Option Head)
          → head_of b f text ≡ o → Holds (λ h. HeadIn (many b) h × (h.is_static ≡ s)) o
          → GivesSuch After (enter_method_head u f l c n o)
      method_head u so free None is range = tt
      method_head u so free (Some h) is range =
          gives_if After (is_event_call u c n) (wrong f l BadClass)
          (enter_beside u f l c n h (overridden u (ancestors u c) n))
          (λ e. tt) (λ e. beside u so free h is range.0 range.1 (overridden u (ancestors u c) n) refl)

      method_went : (u : Table) → Went start es u → GivesSuch After (enter_method u f c text)
      method_went u so =
          gives_if After (has_unknown u f text) (wrong f l UnknownName)
          (if is_member_taken u c n true then wrong f l Duplicate else enter_method_head u f l c n (head_of u f text))
          (λ e. tt)
          (λ known. gives_if After (is_member_taken u c n true) (wrong f l Duplicate)
          (enter_method_head u f l c n (head_of u f text)) (λ e. tt)
          (λ free. subst (λ o. GivesSuch After (enter_method_head u f l c n o))
          (sym (head_same b u (same_classes b u so.0.names) f text))
          (method_head u so (free_name u c n true free) (head_of b f text) refl
          (head_in b f (many b) ready.two ready.classes ready.publics l s result n ps body))))

    -- the constructor
    module _ (c : ℕ) (own : OwnIn (Some c)) (l : ℕ) (ps : Params) (body : Stmts) where
      abbrev constructor_text : Fun
      constructor_text = tree.constructor l ps body

      abbrev ConstructorAfter : Table → Type 0
      ConstructorAfter v = Went start (es ++ fun_entry b f (Some c) constructor_text ∷ []) v
          × ((h : Head) × (head_of b f constructor_text ≡ Some h))

      constructor_head : (u : Table) → Went start es u → (o : Option Head)
          → head_of b f constructor_text ≡ o → Holds (HeadIn (many b)) o
          → GivesSuch ConstructorAfter (enter_constructor_head u f l c o)
      constructor_head u so None is range = tt
      constructor_head u so (Some h) is range = (
        went start es (es ++ fun_entry b f (Some c) constructor_text ∷ []) u (with_constructor u c h) so
            (subst (λ x. SoFar b low f first (es ++ (x, Some c) ∷ []) (with_constructor u c h)
            × Grows u (with_constructor u c h)) (sym (ap or_no_head is))
            (constructor_step b low f first ready u es so.0 c own.0 own.1 h range)),
        (h, is),
      )

      constructor_went : (u : Table) → Went start es u
          → GivesSuch ConstructorAfter (enter_method u f c constructor_text)
      constructor_went u so =
          gives_if ConstructorAfter (has_unknown u f constructor_text) (wrong f l UnknownName)
          (if is_some (class_of u c).constructor then wrong f l Duplicate else enter_constructor_head u f l c
          (head_of u f constructor_text)) (λ e. tt)
          (λ known. gives_if ConstructorAfter (is_some (class_of u c).constructor) (wrong f l Duplicate)
          (enter_constructor_head u f l c (head_of u f constructor_text)) (λ e. tt)
          (λ first_one. subst (λ o. GivesSuch ConstructorAfter (enter_constructor_head u f l c o))
          (sym (head_same b u (same_classes b u so.0.names) f constructor_text))
          (constructor_head u so (head_of b f constructor_text) refl
          (constructor_in b f (many b) ready.two ready.classes ready.publics l ps body))))

    -- functions of the file
    module _ (l : ℕ) (s : Bool) (result : TypeName) (n : Name) (ps : Params) (body : Stmts) where
      abbrev fun_text : Fun
      fun_text = tree.fun l s result n ps body

      abbrev FunAfter : Table → Type 0
      FunAfter v = Went start (es ++ fun_entry b f None fun_text ∷ []) v
          × EnteredSoFar v f None n (head_of b f fun_text)

      fun_head : (u : Table) → Went start es u → lookup n (file_of u f).funs ≡ None → (o : Option Head)
          → head_of b f fun_text ≡ o → Holds (λ h. HeadIn (many b) h × (h.is_static ≡ s)) o
          → GivesSuch FunAfter (enter_fun_head u f l n o)
      fun_head u so new None is range = tt
      fun_head u so new (Some h) is range =
          gives_if FunAfter h.is_static (wrong f l BadPlace) (gives (with_fun u f n h)) (λ e. tt)
          (λ e. (
            went start es (es ++ fun_entry b f None fun_text ∷ []) u (with_fun u f n h) so step,
            (length u.funs, h, found.0, found.1, is),
          ))
        where
          no_owner : (x : Bool) → None ≡ owner None x
          no_owner true = refl
          no_owner false = refl

          entry_of : (h, None) ≡ fun_entry b f None fun_text
          entry_of = ap (λ x. (h, x)) (no_owner s) ∙ ap (λ o. (or_no_head o, owner None s)) (sym is)

          found : (lookup n (file_of (with_fun u f n h) f).funs ≡ Some (length u.funs))
              × (slice_get (with_fun u f n h).funs (length u.funs) ≡ Some h)
          found = fun_entered b low f first ready u es so.0 n new h range.0

          step : SoFar b low f first (es ++ fun_entry b f None fun_text ∷ []) (with_fun u f n h)
              × Grows u (with_fun u f n h)
          step = subst (λ x. SoFar b low f first (es ++ x ∷ []) (with_fun u f n h) × Grows u (with_fun u f n h))
              entry_of (fun_step b low f first ready u es so.0 n new h range.0)

      fun_went : (u : Table) → Went start es u → GivesSuch FunAfter (enter_fun u f fun_text)
      fun_went u so =
          gives_if FunAfter (has_unknown u f fun_text) (wrong f l UnknownName)
          (if is_name_taken u f n then wrong f l Duplicate else enter_fun_head u f l n (head_of u f fun_text))
          (λ e. tt)
          (λ known. gives_if FunAfter (is_name_taken u f n) (wrong f l Duplicate)
          (enter_fun_head u f l n (head_of u f fun_text)) (λ e. tt)
          (λ free. subst (λ o. GivesSuch FunAfter (enter_fun_head u f l n o))
          (sym (head_same b u (same_classes b u so.0.names) f fun_text))
          (fun_head u so (free_fun u f n free) (head_of b f fun_text) refl
          (head_in b f (many b) ready.two ready.classes ready.publics l s result n ps body))))

  -- the members of a class, in text order
  module _ (start : Table) (es : List Entry) (c : ℕ) (own : OwnIn (Some c)) where
    abbrev MembersAfter : Members → Table → Type 0
    MembersAfter ms v = Went start (es ++ member_entries b f c ms) v × MembersHold (EnteredSoFar v f) b f c ms

    more_members : (ms : Members) (e : Entry) (v : Table)
        → SoFar b low f first ((es ++ member_entries b f c ms) ++ e ∷ []) v
        → SoFar b low f first (es ++ (member_entries b f c ms ++ e ∷ [])) v
    more_members ms e v so = subst (λ l. SoFar b low f first l v) (append_assoc es (member_entries b f c ms) (e ∷ []))
        so

    member_went : (ms : Members) (m : tree.Member) (v : Table) → MembersAfter ms v
        → GivesSuch (MembersAfter (and_member ms m)) (enter_member f c v m)
    member_went ms (fun_member (tree.fun l s result n ps body)) v so =
        gives_map After next goes (enter_method v f c text)
        (method_went v (es ++ member_entries b f c ms) c own l s result n ps body v (so.0.0, grows_self v))
      where
        text : Fun
        text = tree.fun l s result n ps body

        After : Table → Type 0
        After w = Went v ((es ++ member_entries b f c ms) ++ fun_entry b f (Some c) text ∷ []) w
            × EnteredSoFar w f (Some c) n (head_of b f text)

        next : Table → Type 0
        next = MembersAfter (and_member ms (fun_member text))

        goes : (w : Table) → After w → next w
        goes w x = (
          (more_members ms (fun_entry b f (Some c) text) w x.0.0, grows_then start v w so.0.1 x.0.1),
          (members_go (EnteredSoFar v f) (EnteredSoFar w f) b f (entered_grows f v w x.0.1) c ms so.1, x.1),
        )
    member_went ms (fun_member (tree.constructor l ps body)) v so =
        gives_map After (MembersAfter (and_member ms (fun_member text))) goes (enter_method v f c text)
        (constructor_went v (es ++ member_entries b f c ms) c own l ps body v (so.0.0, grows_self v))
      where
        text : Fun
        text = tree.constructor l ps body

        After : Table → Type 0
        After w = Went v ((es ++ member_entries b f c ms) ++ fun_entry b f (Some c) text ∷ []) w
            × ((h : Head) × (head_of b f text ≡ Some h))

        goes : (w : Table) → After w → MembersAfter (and_member ms (fun_member text)) w
        goes w x = (
          (more_members ms (fun_entry b f (Some c) text) w x.0.0, grows_then start v w so.0.1 x.0.1),
          (members_go (EnteredSoFar v f) (EnteredSoFar w f) b f (entered_grows f v w x.0.1) c ms so.1, x.1),
        )
    member_went ms (stmt_member s) v so =
        gives_map (Went v (es ++ member_entries b f c ms)) (MembersAfter (and_member ms (stmt_member s))) goes
        (enter_stmt f (Some c) v s) (stmt_went v (es ++ member_entries b f c ms) (Some c) own v s
        (so.0.0, grows_self v))
      where
        goes : (w : Table) → Went v (es ++ member_entries b f c ms) w → MembersAfter (and_member ms (stmt_member s)) w
        goes w a = (
          (a.0, grows_then start v w so.0.1 a.1),
          members_go (EnteredSoFar v f) (EnteredSoFar w f) b f
              (entered_grows f v w a.1) c ms so.1,
        )

    members_went : (ms : Members) (u : Table) → Went start es u → GivesSuch (MembersAfter ms) (enter_members f c u ms)
    members_went no_members u so = ((subst (λ l. SoFar b low f first l u) (sym (append-nil es)) so.0, so.1), tt)
    members_went (and_member ms m) u so =
        gives_then (MembersAfter ms) (MembersAfter (and_member ms m)) (enter_members f c u ms)
        (λ v. enter_member f c v m) (members_went ms u so) (λ v a. member_went ms m v a)

  -- all items of the file, in text order
  abbrev pub ItemsAfter : tree.File → Table → Type 0
  ItemsAfter xs v = SoFar b low f first (items_entries b f xs) v × FunsHold (EnteredSoFar v f) b f xs

  abbrev ItemAfter : (start : Table) → List Entry → Item → Table → Type 0
  ItemAfter start es x v = Went start (es ++ item_entries b f x) v × ItemHolds (EnteredSoFar v f) b f x

  -- a constructor outside a class is refused
  constructor_refused : (P : Table → Type 0) (l : ℕ) (ps : Params) (body : Stmts) (v : Table)
      → GivesSuch P (enter_fun v f (tree.constructor l ps body))
  constructor_refused P l ps body v =
      gives_if P (has_unknown v f text) (wrong f l UnknownName) (refuse_constructor f l (head_of v f text)) (λ e. tt)
      (λ e. refused (head_of v f text))
    where
      text : Fun
      text = tree.constructor l ps body

      refused : (o : Option Head) → GivesSuch P (refuse_constructor f l o)
      refused None = tt
      refused (Some h) = tt

  item_went : (es : List Entry) (x : Item) (v : Table) → ClassHolds (λ c. (low ≤ c) × (c < many b)) b f x
      → SoFar b low f first es v → GivesSuch (ItemAfter v es x) (enter_item f v x)
  item_went es (class_item (tree.class l is_public n parent ms)) v own so =
      subst (λ d. GivesSuch (ItemAfter v es (class_item (tree.class l is_public n parent ms)))
      (enter_members f d (with_body v d ms) ms)) (sym (own_same b v (same_classes b v so.names) f n))
      (gives_map (MembersAfter v (es ++ bodies) c own ms)
      (ItemAfter v es (class_item (tree.class l is_public n parent ms))) goes
      (enter_members f c (with_body v c ms) ms)
      (members_went v (es ++ bodies) c own ms (with_body v c ms)
      (body_step b low f first ready v es so c own.0 own.1 ms)))
    where
      c : ℕ
      c = own_class b f n

      bodies : List Entry
      bodies = body_entries (has_statement ms) c

      goes : (w : Table) → MembersAfter v (es ++ bodies) c own ms w
          → ItemAfter v es (class_item (tree.class l is_public n parent ms)) w
      goes w a = (
        (
          subst (λ k. SoFar b low f first k w) (append_assoc es bodies (member_entries b f c ms)) a.0.0,
          a.0.1,
        ),
        a.1,
      )
  item_went es (fun_item (tree.fun l s result n ps body)) v own so = fun_went v es l s result n ps body v
      (so, grows_self v)
  item_went es (fun_item (tree.constructor l ps body)) v own so = constructor_refused
      (ItemAfter v es (fun_item (tree.constructor l ps body))) l ps body v
  item_went es (stmt_item s) v own so =
      gives_map (Went v es) (ItemAfter v es (stmt_item s))
      (λ w a. ((subst (λ k. SoFar b low f first k w) (sym (append-nil es)) a.0, a.1), tt))
      (enter_stmt f None v s) (stmt_went v es None tt v s (so, grows_self v))

  pub items_went : (xs : tree.File) → ClassesHold (λ c. (low ≤ c) × (c < many b)) b f xs → SoFar b low f first [] b
      → GivesSuch (ItemsAfter xs) (enter_items f b xs)
  items_went no_items own so = (so, tt)
  items_went (and_item xs x) own so =
      gives_then (ItemsAfter xs) (ItemsAfter (and_item xs x)) (enter_items f b xs) (λ v. enter_item f v x)
      (items_went xs own.0 so)
      (λ v a. gives_map (ItemAfter v (items_entries b f xs) x) (ItemsAfter (and_item xs x))
      (λ w c. (c.0.0, (funs_go (EnteredSoFar v f) (EnteredSoFar w f) b f (entered_grows f v w c.0.1) xs a.1, c.1)))
      (enter_item f v x)
      (item_went (items_entries b f xs) x v own.1 a.0))
