-- The steps of the first walk that enter something: each keeps the table right so far, and the entries in order.
use Rattle.std.proofs.Common.{◌≡◌, ℕ, ◌+◌, ◌<◌, ◌≤◌, List, [], ◌∷◌, ◌++◌, length, Option, Some, None, slice_get, refl, sym, ap, ◌∙◌, subst, arith, append_assoc, length-append}
use Rattle.std.proofs.lemmas.List.{length-map, map-append}
use Rattle.ck_syntax.specs.Tree.{Name}
use Rattle.type_table.specs.declared.class.Own.{Own}
use Rattle.type_table.specs.Finished.{numbers}
use Rattle.first_walk.specs.FirstWalk.{with_member}
use Rattle.type_table.specs.Names.{lookup, and_first}
use Rattle.type_table.specs.declared.class.Class.{Class}
use Rattle.type_table.specs.declared.class.Head.{Head}
use Rattle.type_table.specs.Table.{Table, or_no_file, or_no_class, class_of, file_of, and_own}
use Rattle.type_table.proofs.Ranges.{Each, Within, ValueIn, ResultIn, many, HeadIn}
use Rattle.first_walk.proofs.TableFacts.{Entry, heads_of, owners_of, SameClass, new_slots, IsFileOf}
use Rattle.type_table.proofs.ListFacts.{get_set_other, get_set_same, set_cases, get_last, each_map, within_same, within_is, within_then, and_new, lookup_new}
use Rattle.first_walk.proofs.SameNames.{SameNames, same_then}
use Rattle.first_walk.proofs.Growth.{class_names, OwnSoFar, ClassSoFar, class_grows, class_more, file_grows}

-- what only grows
pub record Grows (t u : Table) : Type 0 where
  pub funs : Within t.funs u.funs
  pub members : (c : ℕ) → Within (class_of t c).members (class_of u c).members
  pub named : (g : ℕ) → Within (file_of t g).funs (file_of u g).funs

pub grows_self : (t : Table) → Grows t t
grows_self t = record {
  funs = within_same t.funs;
  members = λ c. within_same (class_of t c).members;
  named =
      λ g. within_same (file_of t g).funs;
}

pub grows_then : (t u v : Table) → Grows t u → Grows u v → Grows t v
grows_then t u v x y = record {
  funs = within_then t.funs u.funs v.funs x.funs y.funs;
  members = λ c. within_then (class_of t c).members (class_of u c).members (class_of v c).members (x.members c)
      (y.members c);
  named = λ g. within_then (file_of t g).funs (file_of u g).funs (file_of v g).funs (x.named g) (y.named g);
}

-- b is the table as the members of file f begin to be entered, and its classes from low on are those of the file
pub record Ready (b : Table) (low f : ℕ) (first : List (Option ℕ)) : Type 0 where
  pub two : 2 ≤ many b
  pub counted : length first ≡ length b.funs
  pub in_files : f < length b.files
  pub publics : Each (λ (e : Name × ℕ). e.1 < many b) b.publics
  pub classes : Each (λ (e : Name × ℕ). e.1 < many b) (file_of b f).classes

-- these entries were made
pub record SoFar (b : Table) (low f : ℕ) (first : List (Option ℕ)) (es : List Entry) (t : Table) : Type 0 where
  pub names : SameNames b t
  pub funs : t.funs ≡ b.funs ++ heads_of es
  pub grown : Within b.statics t.statics
  pub files : Each (IsFileOf t (first ++ owners_of es)) t.files
  pub statics : Each (ResultIn (many b)) t.statics
  pub heads : Each (HeadIn (many b)) t.funs
  pub classes : (c : ℕ) → c < many b → ClassSoFar b t.funs t.statics (first ++ owners_of es) c (class_of t c)
  pub older : (c : ℕ) → c < low → SameClass (class_of b c) (class_of t c)
  pub others : (g : ℕ) → (g ≡ f → ⊥) → file_of t g ≡ file_of b g

module _ (b : Table) (low f : ℕ) (first : List (Option ℕ)) (ready : Ready b low f first) where
  pub counts : (es : List Entry) (t : Table) → SoFar b low f first es t → length (first ++ owners_of es) ≡ length t.funs
  counts es t so =
      length-append first (owners_of es) ∙ ap (λ n. length first + n) (length-map es (λ (e : Entry). e.1))
      ∙ ap (λ n. n + length es) ready.counted ∙ sym
      (ap length so.funs ∙ length-append b.funs (heads_of es)
      ∙ ap (λ n. length b.funs + n) (length-map es (λ (e : Entry). e.0)))

  pub owners_more : (es more : List Entry) → first ++ owners_of (es ++ more) ≡ (first ++ owners_of es) ++ owners_of more
  owners_more es more = ap (λ l. first ++ l) (map-append (λ (e : Entry). e.1) es more)
      ∙ sym (append_assoc first (owners_of es) (owners_of more))

  pub owners_within : (es more : List Entry) → Within (first ++ owners_of es) (first ++ owners_of (es ++ more))
  owners_within es more = (owners_of more, owners_more es more)

  pub funs_more : (es more : List Entry) (t u : Table) → SoFar b low f first es t → u.funs ≡ t.funs ++ heads_of more
      → u.funs ≡ b.funs ++ heads_of (es ++ more)
  funs_more es more t u so is = is ∙ ap (λ l. l ++ heads_of more) so.funs
      ∙ append_assoc b.funs (heads_of es) (heads_of more)
      ∙ ap (λ l. b.funs ++ l) (sym (map-append (λ (e : Entry). e.0) es more))

  -- the next function's owner
  pub owner_last : (es : List Entry) (t : Table) (h : Head) (o : Option ℕ) → SoFar b low f first es t
      → slice_get (first ++ owners_of (es ++ (h, o) ∷ [])) (length t.funs) ≡ Some o
  owner_last es t h o so = ap (λ l. slice_get l (length t.funs)) (owners_more es ((h, o) ∷ []))
      ∙ get_last (first ++ owners_of es) o (length t.funs) (sym (counts es t so))

  -- a class is ready for one member more
  pub record Prepared (t v : Table) (es more : List Entry) (c : ℕ) (n : Name) (o : Own) (k : Class) : Type 0 where
    pub low_le : low ≤ c
    pub in_range : c < many b
    pub names : SameNames t v
    pub files : v.files ≡ t.files
    pub funs : v.funs ≡ t.funs ++ heads_of more
    pub grown : Within t.statics v.statics
    pub statics : Each (ResultIn (many b)) v.statics
    pub heads : Each (HeadIn (many b)) v.funs
    pub others : (d : ℕ) → (d ≡ c → ⊥) → class_of v d ≡ class_of t d
    pub is : class_of v c ≡ k
    pub more_fields : Within (class_of t c).fields k.fields
    pub fields : Each (ValueIn (many b)) k.fields
    pub members : k.members ≡ (class_of t c).members
    pub body : k.body ≡ (class_of t c).body
    pub constructor_same : k.constructor ≡ (class_of t c).constructor
    pub new : lookup n (class_of t c).members ≡ None
    pub one : OwnSoFar b v.funs v.statics (first ++ owners_of (es ++ more)) c k.fields (n, o)
    pub slots : numbers (class_of t c).slots ++ new_slots ((n, o) ∷ []) ≡ numbers k.slots

  module _ (t v : Table) (es more : List Entry) (c : ℕ) (n : Name) (o : Own) (k : Class) (so : SoFar b low f first es t)
      (p : Prepared t v es more c n o k) where
    abbrev result : Table
    result = with_member v c n o

    in_v : c < many v
    in_v = omega (arith, p.in_range, p.names.many_same, so.names.many_same)

    result_names : SameNames t result
    result_names = same_then t v result p.names (class_names v c (and_own (class_of v c) n o) refl refl)

    now_members : (and_own (class_of v c) n o).members ≡ (class_of t c).members ++ (n, o) ∷ []
    now_members = ap (λ (x : Class). and_first n o x.members) p.is ∙ ap (and_first n o) p.members
        ∙ and_new n o (class_of t c).members p.new

    result_class : (d : ℕ) → d < many b → ClassSoFar b v.funs v.statics (first ++ owners_of (es ++ more)) d
        (class_of result d)
    result_class d lt = set_cases (λ e x. e < many b
        → ClassSoFar b v.funs v.statics (first ++ owners_of (es ++ more)) e (or_no_class x)) v.classes c d
        (and_own (class_of v c) n o) in_v here there lt
      where
        here : c < many b → ClassSoFar b v.funs v.statics (first ++ owners_of (es ++ more)) c
            (and_own (class_of v c) n o)
        here at =
            class_more b t.funs v.funs t.statics v.statics (first ++ owners_of es) (first ++ owners_of (es ++ more))
            (heads_of more, p.funs) p.grown (owners_within es more) c
            (class_of t c) (and_own (class_of v c) n o) n o
            (subst (λ (x : Class). Within (class_of t c).fields x.fields) (sym p.is) p.more_fields)
            (subst (λ (x : Class). Each (ValueIn (many b)) x.fields) (sym p.is) p.fields)
            now_members p.new
            (subst (λ (x : Class). OwnSoFar b v.funs v.statics (first ++ owners_of (es ++ more)) c x.fields (n, o))
            (sym p.is) p.one)
            (p.slots ∙ sym (ap (λ (x : Class). numbers x.slots) p.is))
            (ap (λ (x : Class). x.body) p.is ∙ p.body)
            (ap (λ (x : Class). x.constructor) p.is ∙ p.constructor_same)
            (so.classes c at)

        there : (d ≡ c → ⊥) → d < many b → ClassSoFar b v.funs v.statics (first ++ owners_of (es ++ more)) d
            (class_of v d)
        there other at =
            subst (ClassSoFar b v.funs v.statics (first ++ owners_of (es ++ more)) d) (sym (p.others d other))
            (class_grows b t.funs v.funs t.statics v.statics (first ++ owners_of es) (first ++ owners_of (es ++ more))
            (heads_of more, p.funs) p.grown (owners_within es more) d (class_of t d) (so.classes d at))

    other_class : (d : ℕ) → (d ≡ c → ⊥) → class_of result d ≡ class_of t d
    other_class d other = ap or_no_class (get_set_other v.classes c d (and_own (class_of v c) n o) other)
        ∙ p.others d other

    pub member_step : SoFar b low f first (es ++ more) (with_member v c n o)
    member_step = record {
      names = same_then b t result so.names result_names;
      funs = funs_more es more t result so p.funs;
      grown = within_then b.statics t.statics result.statics so.grown p.grown;
      files = subst (Each (IsFileOf result (first ++ owners_of (es ++ more)))) (sym p.files)
          (each_map (IsFileOf t (first ++ owners_of es)) (IsFileOf result (first ++ owners_of (es ++ more)))
          (λ file is. file_grows t result (first ++ owners_of es) (first ++ owners_of (es ++ more)) file
          (omega (arith, result_names.many_same)) p.grown (owners_within es more) is)
          t.files so.files);
      statics = p.statics;
      heads = p.heads;
      classes = result_class;
      older = λ d lt. subst (SameClass (class_of b d))
          (sym (other_class d (λ e. absurd (omega (arith, lt, e, p.low_le))))) (so.older d lt);
      others = λ g other. ap (λ l. or_no_file (slice_get l g)) p.files ∙ so.others g other;
    }

    pub member_grows : Grows t (with_member v c n o)
    member_grows = record {
      funs = (heads_of more, p.funs);
      members = λ d.
          set_cases (λ e x. Within (class_of t e).members (or_no_class x).members) v.classes c d
          (and_own (class_of v c) n o) in_v ((n, o) ∷ [], now_members)
          (λ other. subst (λ (x : Class). Within (class_of t d).members x.members) (sym (p.others d other))
          (within_same (class_of t d).members));
      named = λ g. within_is (file_of t g).funs (file_of result g).funs
          (ap (λ l. (or_no_file (slice_get l g)).funs) p.files);
    }

    -- the member is found
    pub member_entered : lookup n (class_of (with_member v c n o) c).members ≡ Some o
    member_entered =
        ap (λ x. lookup n (or_no_class x).members) (get_set_same v.classes c (and_own (class_of v c) n o) in_v)
        ∙ ap (lookup n) now_members ∙ lookup_new n (class_of t c).members o p.new

    pub funs_entered : (with_member v c n o).funs ≡ t.funs ++ heads_of more
    funs_entered = p.funs
