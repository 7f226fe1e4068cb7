-- Each thing that the first walk enters: a variable, a static member, a field, a function, a method, and the function
-- of
-- the statements in a class's braces.
use Rattle.std.proofs.Common.{◌≡◌, ℕ, ◌<◌, ◌≤◌, Bool, true, false, List, [], ◌∷◌, ◌++◌, length, Option, Some, None, slice_get, slice_set, if◌then◌else◌, refl, sym, ap, ◌∙◌, subst, arith, add-one, length-append}
use Rattle.std.proofs.lemmas.List.{append-nil}
use Rattle.ck_values.specs.declared.kind.Kind.{Kind}
use Rattle.ck_syntax.specs.Tree.{Name, Members}
use Rattle.type_table.specs.declared.class.Own.{Own}
use Rattle.type_table.specs.declared.class.Own.TheVariants as own
use Rattle.type_table.specs.declared.class.Dispatch.{Dispatch}
use Rattle.type_table.specs.declared.class.Dispatch.TheVariants as by
use Rattle.type_table.specs.Finished.{numbers}
use Rattle.first_walk.specs.FirstWalk.{with_class, with_variable, next_static, with_static, with_field, with_fun, with_member, with_dispatch, with_method, with_constructor, slots_with, with_body, has_statement}
use Rattle.type_table.specs.Names.{lookup, and_first}
use Rattle.type_table.specs.declared.class.Class.{Class}
use Rattle.type_table.specs.declared.class.Head.{Head}
use Rattle.type_table.specs.declared.class.FileNames.{FileNames as File}
use Rattle.type_table.specs.Table.{Table, or_no_file, or_no_class, class_of, file_of, plain_head, ancestors, overridden}
use Rattle.type_table.proofs.Ranges.{Each, Within, ValueIn, ResultIn, many, HeadIn}
use Rattle.first_walk.proofs.TableFacts.{Entry, owner, body_entries, heads_of, owners_of, SameClass, new_slots, IsFileOf}
use Rattle.type_table.proofs.ListFacts.{get_set_other, get_set_same, set_keeps, set_cases, get_last, each_map, each_push, each_set, within_same, within_is, within_then, and_new, lookup_new, each_first}
use Rattle.first_walk.proofs.SameNames.{SameNames, same_then}
use Rattle.first_walk.proofs.Growth.{class_names, file_names, MayOverride, OwnedSoFar, ClassSoFar, class_grows, file_grows, no_file_is, each_file}
use Rattle.first_walk.proofs.TypeRanges.{result_of_value}
use Rattle.first_walk.proofs.EnterSteps.{Grows, grows_self, Ready, SoFar, owners_within, funs_more, owner_last, Prepared, member_step, member_grows, member_entered, funs_entered}

rows_names : (t : Table) (funs : List Head) (statics : List Kind)
    → SameNames t (record t { funs = funs; statics = statics })
rows_names t funs statics = record {
  parents = refl;
  publics = refl;
  many_same = refl;
  many_files = refl;
  classes =
      λ g. refl;
  mains = λ g. refl;
  files = λ c. refl;
  heads = λ c. refl;
}

-- a method is called as it may be
abbrev pub RightDispatch : Table → (class : ℕ) → Name → Head → Class → Dispatch → Type 0
RightDispatch b c n h k by.Static = h.is_static ≡ true
RightDispatch b c n h k (by.NewSlot j) = (h.is_static ≡ false) × (j ≡ k.slots) × (overridden b (ancestors b c) n ≡ None)
RightDispatch b c n h k by.Override = (h.is_static ≡ false) × MayOverride b c n h

module _ (b : Table) (low f : ℕ) (first : List (Option ℕ)) (ready : Ready b low f first) where
  -- a file changes, and rows grow
  module _ (t : Table) (es more : List Entry) (funs : List Head) (statics : List Kind) (file : File)
      (so : SoFar b low f first es t)
      (classes : file.classes ≡ (file_of t f).classes) (main : file.main ≡ (file_of t f).main)
      (are : funs ≡ t.funs ++ heads_of more) (grown : Within t.statics statics)
      (values : Each (ResultIn (many b)) statics) (heads : Each (HeadIn (many b)) funs)
      (named : Within (file_of t f).funs file.funs) where
    abbrev changed : Table
    changed = record t { funs = funs; statics = statics; files = slice_set t.files f file }

    changed_names : SameNames t changed
    changed_names = same_then t (record t { funs = funs; statics = statics }) changed (rows_names t funs statics)
        (file_names (record t { funs = funs; statics = statics }) f file classes main)

    file_step : IsFileOf changed (first ++ owners_of (es ++ more)) file → SoFar b low f first (es ++ more) changed
    file_step one = record {
      names = same_then b t changed so.names changed_names;
      funs = funs_more b low f first ready es more t changed so are;
      grown = within_then b.statics t.statics statics so.grown grown;
      files = each_set (IsFileOf changed (first ++ owners_of (es ++ more))) t.files f file
          (each_map (IsFileOf t (first ++ owners_of es)) (IsFileOf changed (first ++ owners_of (es ++ more)))
          (λ x is. file_grows t changed (first ++ owners_of es) (first ++ owners_of (es ++ more)) x (omega arith) grown
          (owners_within b low f first ready es more) is) t.files so.files) one;
      statics = values;
      heads = heads;
      classes =
          λ c lt. class_grows b t.funs funs t.statics statics (first ++ owners_of es) (first ++ owners_of (es ++ more))
          (heads_of more, are) grown (owners_within b low f first ready es more) c (class_of t c) (so.classes c lt);
      older = so.older;
      others = λ g other. ap or_no_file (get_set_other t.files f g file other) ∙ so.others g other;
    }

    file_step_grows : Grows t changed
    file_step_grows = record {
      funs = (heads_of more, are);
      members = λ c. within_same (class_of t c).members;
      named = λ g. set_cases (λ j o. Within (file_of t j).funs (or_no_file o).funs) t.files f g file
          (omega (arith, ready.in_files, so.names.many_files)) named (λ other. within_same (file_of t g).funs);
    }

    -- what the file had is right in it still
    kept_file : IsFileOf changed (first ++ owners_of (es ++ more)) (file_of t f)
    kept_file = file_grows t changed (first ++ owners_of es) (first ++ owners_of (es ++ more)) (file_of t f)
        (omega arith) grown (owners_within b low f first ready es more)
        (each_file (IsFileOf t (first ++ owners_of es)) t.files f (no_file_is t (first ++ owners_of es)) so.files)

  module _ (t : Table) (es : List Entry) (so : SoFar b low f first es t) where
    none_more : (u : Table) → SoFar b low f first (es ++ []) u → SoFar b low f first es u
    none_more u more = subst (λ l. SoFar b low f first l u) (append-nil es) more

    with_kind : (k : Kind) → ResultIn (many b) k → Each (ResultIn (many b)) (t.statics ++ k ∷ [])
    with_kind k is = each_push (ResultIn (many b)) t.statics k so.statics is

    pub variable_step : (n : Name) (k : Kind) → ResultIn (many b) k → SoFar b low f first es (with_variable t f n k)
        × Grows t (with_variable t f n k)
    variable_step n k is = (
      none_more (with_variable t f n k) (file_step t es [] t.funs statics file so refl refl funs grown (with_kind k is)
          so.heads (within_same (file_of t f).funs) one),
      file_step_grows t es [] t.funs statics file so refl refl funs grown (with_kind k is) so.heads
          (within_same (file_of t f).funs),
    )
      where
        statics : List Kind
        statics = t.statics ++ k ∷ []

        file : File
        file = record (file_of t f) { variables = and_first n (length t.statics) (file_of t f).variables }

        grown : Within t.statics statics
        grown = (k ∷ [], refl)

        funs : t.funs ≡ t.funs ++ []
        funs = sym (append-nil t.funs)

        kept : IsFileOf (with_variable t f n k) (first ++ owners_of (es ++ [])) (file_of t f)
        kept = kept_file t es [] t.funs statics file so refl refl funs grown (with_kind k is) so.heads
            (within_same (file_of t f).funs)

        one : IsFileOf (with_variable t f n k) (first ++ owners_of (es ++ [])) file
        one = record {
          classes = kept.classes;
          funs = kept.funs;
          variables =
              each_first (λ (e : Name × ℕ). e.1 < length (t.statics ++ k ∷ [])) n (length t.statics)
              (file_of t f).variables kept.variables
              (omega (arith, length-append t.statics (k ∷ [])));
        }

    with_head : (h : Head) → HeadIn (many b) h → Each (HeadIn (many b)) (t.funs ++ h ∷ [])
    with_head h is = each_push (HeadIn (many b)) t.funs h so.heads is

    module _ (n : Name) (new : lookup n (file_of t f).funs ≡ None) (h : Head) (range : HeadIn (many b) h) where
      abbrev fun_file : File
      fun_file = record (file_of t f) { funs = and_first n (length t.funs) (file_of t f).funs }

      abbrev fun_entries : List Entry
      fun_entries = es ++ (h, None) ∷ []

      named_more : Within (file_of t f).funs fun_file.funs
      named_more = ((n, length t.funs) ∷ [], and_new n (length t.funs) (file_of t f).funs new)

      fun_kept : IsFileOf (with_fun t f n h) (first ++ owners_of fun_entries) (file_of t f)
      fun_kept = kept_file t es ((h, None) ∷ []) (t.funs ++ h ∷ []) t.statics fun_file so refl refl refl
          (within_same t.statics) so.statics (with_head h range) named_more

      fun_one : IsFileOf (with_fun t f n h) (first ++ owners_of fun_entries) fun_file
      fun_one = record {
        classes = fun_kept.classes;
        funs = each_first (λ (e : Name × ℕ). slice_get (first ++ owners_of fun_entries) e.1 ≡ Some None)
            n (length t.funs) (file_of t f).funs fun_kept.funs (owner_last b low f first ready es t h None so);
        variables = fun_kept.variables;
      }

      pub fun_step : SoFar b low f first (es ++ (h, None) ∷ []) (with_fun t f n h) × Grows t (with_fun t f n h)
      fun_step = (
        file_step t es ((h, None) ∷ []) (t.funs ++ h ∷ []) t.statics fun_file so refl refl refl (within_same t.statics)
            so.statics (with_head h range) named_more fun_one,
        file_step_grows t es ((h, None) ∷ []) (t.funs ++ h ∷ []) t.statics fun_file so refl refl refl
            (within_same t.statics) so.statics (with_head h range) named_more,
      )

      -- and it is found
      pub fun_entered : (lookup n (file_of (with_fun t f n h) f).funs ≡ Some (length t.funs))
          × (slice_get (with_fun t f n h).funs (length t.funs) ≡ Some h)
      fun_entered = (
        ap (λ o. lookup n (or_no_file o).funs) (get_set_same t.files f fun_file
            (omega (arith, ready.in_files, so.names.many_files)))
            ∙ ap (lookup n) (and_new n (length t.funs) (file_of t f).funs new)
            ∙ lookup_new n (file_of t f).funs (length t.funs) new,
        get_last t.funs h (length t.funs) refl,
      )

    -- the members of a class
    module _ (c : ℕ) (low_le : low ≤ c) (lt : c < many b) (n : Name) (new : lookup n (class_of t c).members ≡ None)
      where
        in_t : c < many t
        in_t = omega (arith, lt, so.names.many_same)

        same_others : (k : Class) (d : ℕ) → (d ≡ c → ⊥) → class_of (with_class t c k) d ≡ class_of t d
        same_others k d other = ap or_no_class (get_set_other t.classes c d k other)

        pub field_step : (k : Kind) → ValueIn (many b) k → SoFar b low f first es (with_field t c n k)
            × Grows t (with_field t c n k)
        field_step k is = (
          none_more (with_field t c n k) (member_step b low f first ready t v es [] c n o l so prepared),
          member_grows b low f first ready t v es [] c n o l so prepared,
        )
          where
            l : Class
            l = record (class_of t c) { fields = (class_of t c).fields ++ k ∷ [] }

            v : Table
            v = with_class t c l

            o : Own
            o = own.Field (length (class_of t c).fields) k

            prepared : Prepared b low f first ready t v es [] c n o l
            prepared = record {
              low_le = low_le;
              in_range = lt;
              names = class_names t c l refl refl;
              files = refl;
              funs = sym (append-nil t.funs);
              grown = within_same t.statics;
              statics = so.statics;
              heads = so.heads;
              others = same_others l;
              is = ap or_no_class (get_set_same t.classes c l in_t);
              more_fields = (k ∷ [], refl);
              fields = each_push (ValueIn (many b)) (class_of t c).fields k (so.classes c lt).fields is;
              members = refl;
              body = refl;
              constructor_same = refl;
              new = new;
              one = get_last (class_of t c).fields k (length (class_of t c).fields) refl;
              slots = append-nil (numbers (class_of t c).slots);
            }

        pub static_step : (k : Kind) → ValueIn (many b) k → SoFar b low f first es (with_static t c n k)
            × Grows t (with_static t c n k)
        static_step k is = (
          none_more (with_static t c n k)
              (member_step b low f first ready t v es [] c n o l so prepared),
          member_grows b low f first ready t v es [] c n
              o l so prepared,
        )
          where
            l : Class
            l = class_of t c

            v : Table
            v = record t { statics = t.statics ++ k ∷ [] }

            o : Own
            o = own.Static (next_static t k)

            prepared : Prepared b low f first ready t v es [] c n o l
            prepared = record {
              low_le = low_le;
              in_range = lt;
              names = rows_names t t.funs (t.statics ++ k ∷ []);
              files = refl;
              funs = sym (append-nil t.funs);
              grown = (k ∷ [], refl);
              statics = with_kind k (result_of_value (many b) k is);
              heads = so.heads;
              others = λ d other. refl;
              is = refl;
              more_fields = within_same l.fields;
              fields = (so.classes c lt).fields;
              members = refl;
              body = refl;
              constructor_same = refl;
              new = new;
              one = (get_last t.statics k (length t.statics) refl, is);
              slots = append-nil (numbers l.slots);
            }

        -- a declaration with `auto` takes its name alone
        pub auto_step : SoFar b low f first es (with_member t c n own.Auto) × Grows t (with_member t c n own.Auto)
        auto_step = (
          none_more (with_member t c n own.Auto)
              (member_step b low f first ready t t es [] c n own.Auto l so prepared),
          member_grows b low f first ready t t es
              [] c n own.Auto l so prepared,
        )
          where
            l : Class
            l = class_of t c

            prepared : Prepared b low f first ready t t es [] c n own.Auto l
            prepared = record {
              low_le = low_le;
              in_range = lt;
              names = rows_names t t.funs t.statics;
              files = refl;
              funs = sym (append-nil t.funs);
              grown = within_same t.statics;
              statics = so.statics;
              heads = so.heads;
              others = λ d other. refl;
              is = refl;
              more_fields = within_same l.fields;
              fields = (so.classes c lt).fields;
              members = refl;
              body = refl;
              constructor_same = refl;
              new = new;
              one = tt;
              slots = append-nil (numbers l.slots);
            }

        module _ (h : Head) (is : HeadIn (many b) h) where
          abbrev entry : Entry
          entry = (h, owner (Some c) h.is_static)

          owned : (d : Dispatch) → RightDispatch b c n h (class_of t c) d
              → OwnedSoFar b (first ++ owners_of (es ++ entry ∷ [])) c n (length t.funs) h d
          owned by.Static right = (
            right,
            owner_last b low f first ready es t h (owner (Some c) h.is_static) so
                ∙ ap (λ s. Some (owner (Some c) s)) right,
          )
          owned (by.NewSlot j) right = (
            right.0,
            owner_last b low f first ready es t h (owner (Some c) h.is_static) so
                ∙ ap (λ s. Some (owner (Some c) s)) right.0,
            right.2,
          )
          owned by.Override right = (
            right.0,
            owner_last b low f first ready es t h (owner (Some c) h.is_static) so
                ∙ ap (λ s. Some (owner (Some c) s)) right.0,
            right.1,
          )

          slots_are : (d : Dispatch) → RightDispatch b c n h (class_of t c) d → numbers (class_of t c).slots
              ++ new_slots ((n, own.Fun (length t.funs) d) ∷ []) ≡ numbers (slots_with (class_of t c) d)
          slots_are by.Static right = append-nil (numbers (class_of t c).slots)
          slots_are (by.NewSlot j) right = ap (λ i. numbers (class_of t c).slots ++ i ∷ []) right.1
              ∙ sym (ap numbers (add-one (class_of t c).slots))
          slots_are by.Override right = append-nil (numbers (class_of t c).slots)

          module _ (d : Dispatch) (right : RightDispatch b c n h (class_of t c) d) where
            abbrev readied : Class
            readied = record (class_of t c) { slots = slots_with (class_of t c) d }

            prepared : Prepared b low f first ready t (with_dispatch t c h d) es (entry ∷ []) c n
                (own.Fun (length t.funs) d) readied
            prepared = record {
              low_le = low_le;
              in_range = lt;
              names = same_then t (record t { funs = t.funs ++ h ∷ [] }) (with_dispatch t c h d)
                  (rows_names t (t.funs ++ h ∷ []) t.statics)
                  (class_names (record t { funs = t.funs ++ h ∷ [] }) c readied refl refl);
              files = refl;
              funs = refl;
              grown = within_same t.statics;
              statics = so.statics;
              heads = with_head h is;
              others = same_others readied;
              is = ap or_no_class (get_set_same t.classes c readied in_t);
              more_fields = within_same (class_of t c).fields;
              fields = (so.classes c lt).fields;
              members = refl;
              body = refl;
              constructor_same = refl;
              new = new;
              one = (h, get_last t.funs h (length t.funs) refl, owned d right);
              slots = slots_are d right;
            }

            pub method_step : SoFar b low f first (es ++ entry ∷ []) (with_method t c n h d)
                × Grows t (with_method t c n h d)
            method_step = (
              member_step b low f first ready t (with_dispatch t c h d) es (entry ∷ []) c n (own.Fun (length t.funs) d)
                  readied so prepared,
              member_grows b low f first ready t (with_dispatch t c h d) es (entry ∷ []) c n (own.Fun (length t.funs) d)
                  readied so prepared,
            )

            -- and it is found
            pub method_entered : (lookup n (class_of (with_method t c n h d) c).members
                ≡ Some (own.Fun (length t.funs) d)) × (slice_get (with_method t c n h d).funs (length t.funs) ≡ Some h)
            method_entered = (
              member_entered b low f first ready t (with_dispatch t c h d) es (entry ∷ []) c n (own.Fun (length t.funs) d)
                  readied so prepared,
              ap (λ l. slice_get l (length t.funs))
                  (funs_entered b low f first ready t (with_dispatch t c h d) es (entry ∷ []) c n
                  (own.Fun (length t.funs) d) readied so prepared)
                  ∙ get_last t.funs h (length t.funs) refl,
            )

    -- a function of a class that has no name: the class keeps its members, and says which one it is
    module _ (c : ℕ) (low_le : low ≤ c) (lt : c < many b) (h : Head) (range : HeadIn (many b) h) (x : Class) where
      abbrev with_one : Table
      with_one = record t { funs = t.funs ++ h ∷ []; classes = slice_set t.classes c x }

      abbrev one_entry : List Entry
      one_entry = (h, Some c) ∷ []

      abbrev one_owners : List (Option ℕ)
      one_owners = first ++ owners_of (es ++ one_entry)

      module _ (file : x.file ≡ (class_of t c).file) (heads : x.heads ≡ (class_of t c).heads)
          (members : x.members ≡ (class_of t c).members)
          (here : ClassSoFar b with_one.funs t.statics one_owners c (class_of t c)
          → ClassSoFar b with_one.funs t.statics one_owners c x) where
        one_names : SameNames t with_one
        one_names =
            same_then t (record t { funs = t.funs ++ h ∷ [] }) with_one (rows_names t (t.funs ++ h ∷ []) t.statics)
            (class_names (record t { funs = t.funs ++ h ∷ [] }) c x file heads)

        grown_class : (d : ℕ) → d < many b → ClassSoFar b with_one.funs t.statics one_owners d (class_of t d)
        grown_class d at =
            class_grows b t.funs with_one.funs t.statics t.statics (first ++ owners_of es) one_owners
            (h ∷ [], refl) (within_same t.statics) (owners_within b low f first ready es one_entry) d (class_of t d)
            (so.classes d at)

        one_step : SoFar b low f first (es ++ one_entry) with_one
        one_step = record {
          names = same_then b t with_one so.names one_names;
          funs = funs_more b low f first ready es one_entry t with_one so refl;
          grown = so.grown;
          files = each_map (IsFileOf t (first ++ owners_of es)) (IsFileOf with_one one_owners)
              (λ y is. file_grows t with_one (first ++ owners_of es) one_owners y
              (omega (arith, one_names.many_same)) (within_same t.statics)
              (owners_within b low f first ready es one_entry) is) t.files so.files;
          statics = so.statics;
          heads = with_head h range;
          classes =
              λ d at. set_cases (λ e y. e < many b → ClassSoFar b with_one.funs t.statics one_owners e (or_no_class y))
              t.classes c d x (omega (arith, lt, so.names.many_same)) (λ in_b. here (grown_class c in_b))
              (λ other. grown_class d) at;
          older = λ d at. subst (SameClass (class_of b d))
              (sym (ap or_no_class (get_set_other t.classes c d x (λ e. absurd (omega (arith, at, e, low_le))))))
              (so.older d at);
          others = so.others;
        }

        one_grows : Grows t with_one
        one_grows = record {
          funs = (h ∷ [], refl);
          members = λ d. within_is (class_of t d).members (class_of with_one d).members (set_members d);
          named = λ g. within_same (file_of t g).funs;
        }
          where
            set_members : (d : ℕ) → (class_of with_one d).members ≡ (class_of t d).members
            set_members d = set_keeps (λ y. (or_no_class y).members) t.classes c d x members

    module _ (c : ℕ) (low_le : low ≤ c) (lt : c < many b) where
      -- its function is the last one
      module _ (h : Head) where
        abbrev last_owner : Type 0
        last_owner = slice_get (first ++ owners_of (es ++ (h, Some c) ∷ [])) (length t.funs) ≡ Some (Some c)

        last : last_owner
        last = owner_last b low f first ready es t h (Some c) so

      -- the function of the statements in the braces
      abbrev bodied : Class
      bodied = record (class_of t c) { body = Some (length t.funs) }

      abbrev braces : Head
      braces = plain_head false

      bodied_so : ClassSoFar b (t.funs ++ braces ∷ []) t.statics (first ++ owners_of (es ++ (braces, Some c) ∷ [])) c
          (class_of t c)
          → ClassSoFar b (t.funs ++ braces ∷ []) t.statics (first ++ owners_of (es ++ (braces, Some c) ∷ [])) c bodied
      bodied_so k = record {
        members = k.members;
        found = k.found;
        fields = k.fields;
        slots = k.slots;
        body = (last braces, get_last t.funs braces (length t.funs) refl);
        constructor_so_far = k.constructor_so_far;
      }

      pub body_step : (ms : Members) → SoFar b low f first (es ++ body_entries (has_statement ms) c) (with_body t c ms)
          × Grows t (with_body t c ms)
      body_step ms = go (has_statement ms)
        where
          go : (has : Bool) → SoFar b low f first (es ++ body_entries has c)
              (if has then with_one c low_le lt braces (tt, tt) bodied else t)
              × Grows t (if has then with_one c low_le lt braces (tt, tt) bodied else t)
          go true = (
            one_step c low_le lt braces (tt, tt) bodied refl refl refl bodied_so,
            one_grows c low_le lt braces
                (tt, tt) bodied refl refl refl bodied_so,
          )
          go false = (subst (λ l. SoFar b low f first l t) (sym (append-nil es)) so, grows_self t)

      -- the constructor
      module _ (h : Head) (range : HeadIn (many b) h) where
        abbrev made : Class
        made = record (class_of t c) { constructor = Some (length t.funs) }

        made_so : ClassSoFar b (t.funs ++ h ∷ []) t.statics (first ++ owners_of (es ++ (h, Some c) ∷ [])) c
            (class_of t c)
            → ClassSoFar b (t.funs ++ h ∷ []) t.statics (first ++ owners_of (es ++ (h, Some c) ∷ [])) c made
        made_so k = record {
          members = k.members;
          found = k.found;
          fields = k.fields;
          slots = k.slots;
          body = k.body;
          constructor_so_far = last h;
        }

        pub constructor_step : SoFar b low f first (es ++ (h, Some c) ∷ []) (with_constructor t c h)
            × Grows t (with_constructor t c h)
        constructor_step = (
          one_step c low_le lt h range made refl refl refl made_so,
          one_grows c low_le lt h range made
              refl refl refl made_so,
        )
