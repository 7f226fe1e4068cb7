-- What is right of a class while its members are entered: all but that each function of its text is there. It stays so
-- as the rows of functions and statics grow.
use Rattle.std.proofs.Common.{◌≡◌, ℕ, zero, suc, ◌<◌, ◌≤◌, true, false, List, [], ◌∷◌, ◌++◌, Option, Some, None, slice_get, slice_set, refl, sym, ap, ◌∙◌, subst, arith, length, length-append}
use Rattle.std.proofs.lemmas.List.{length-set}
use Rattle.ck_values.specs.declared.kind.Kind.{Kind}
use Rattle.ck_syntax.specs.Tree.{Name}
use Rattle.type_table.specs.declared.class.Own.{Own}
use Rattle.type_table.specs.declared.class.Own.TheVariants as own
use Rattle.type_table.specs.declared.class.Dispatch.{Dispatch}
use Rattle.type_table.specs.declared.class.Dispatch.TheVariants as by
use Rattle.type_table.specs.Finished.{numbers}
use Rattle.first_walk.specs.FirstWalk.{with_class}
use Rattle.type_table.specs.Names.{lookup}
use Rattle.type_table.specs.declared.class.Class.{Class}
use Rattle.type_table.specs.declared.class.Head.{Head}
use Rattle.type_table.specs.declared.class.FileNames.{FileNames as File}
use Rattle.type_table.specs.Table.{Table, no_file, or_no_file, or_no_class, class_of, file_of, plain_head, ancestors, overridden}
use Rattle.type_table.proofs.Ranges.{Each, Within, ValueIn, many}
use Rattle.first_walk.proofs.TableFacts.{SameTypes, new_slots, IsFileOf}
use Rattle.type_table.proofs.ListFacts.{Holds, set_keeps, get_within, each_map, each_push, within_same, lookup_within, lookup_new}
use Rattle.first_walk.proofs.SameNames.{SameNames}

-- a class changes but for its file and the types of its functions
pub class_names : (t : Table) (c : ℕ) (k : Class) → k.file ≡ (class_of t c).file → k.heads ≡ (class_of t c).heads
    → SameNames t (with_class t c k)
class_names t c k file heads = record {
  parents = refl;
  publics = refl;
  many_same = length-set t.classes c k;
  many_files = refl;
  classes = λ g. refl;
  mains = λ g. refl;
  files = λ d. set_keeps (λ o. (or_no_class o).file) t.classes c d k file;
  heads = λ d. set_keeps (λ o. (or_no_class o).heads) t.classes c d k heads;
}

-- a file changes but for its classes
pub file_names : (t : Table) (f : ℕ) (file : File) → file.classes ≡ (file_of t f).classes
    → file.main ≡ (file_of t f).main → SameNames t (record t { files = slice_set t.files f file })
file_names t f file classes main = record {
  parents = refl;
  publics = refl;
  many_same = refl;
  many_files = length-set t.files f file;
  classes = λ g. set_keeps (λ o. (or_no_file o).classes) t.files f g file classes;
  mains = λ g. set_keeps (λ o. (or_no_file o).main) t.files f g file main;
  files = λ c. refl;
  heads = λ c. refl;
}

-- a class so far ------------------------------------------------------------------------------------

-- a function may override one that the text of an ancestor has
abbrev pub MayOverride : Table → (class : ℕ) → Name → Head → Type 0
MayOverride b c n h = (old : Option Head) × (overridden b (ancestors b c) n ≡ Some old)
    × Holds (λ (x : Head). SameTypes h x × (x.is_static ≡ false)) old

abbrev pub OwnedSoFar : Table → (owners : List (Option ℕ)) → (class : ℕ) → Name → (fun : ℕ) → Head → Dispatch → Type 0
OwnedSoFar b owners c n f h by.Static = (h.is_static ≡ true) × (slice_get owners f ≡ Some None)
OwnedSoFar b owners c n f h (by.NewSlot k) = (h.is_static ≡ false) × (slice_get owners f ≡ Some (Some c))
    × (overridden b (ancestors b c) n ≡ None)
OwnedSoFar b owners c n f h by.Override = (h.is_static ≡ false) × (slice_get owners f ≡ Some (Some c))
    × MayOverride b c n h

abbrev pub OwnSoFar : Table → (funs : List Head) → (statics : List Kind) → (owners : List (Option ℕ)) → (class : ℕ)
    → (fields : List Kind) → Name × Own → Type 0
OwnSoFar b funs statics owners c fields (n, own.Field i k) = slice_get fields i ≡ Some k
OwnSoFar b funs statics owners c fields (n, own.Static v) = (slice_get statics v.index ≡ Some v.kind)
    × ValueIn (many b) v.kind
OwnSoFar b funs statics owners c fields (n, own.Auto) = Unit {0}
OwnSoFar b funs statics owners c fields (n, own.Fun f d) = (h : Head) × (slice_get funs f ≡ Some h)
    × OwnedSoFar b owners c n f h d

abbrev pub BodySoFar : (funs : List Head) → (owners : List (Option ℕ)) → (class : ℕ) → Option ℕ → Type 0
BodySoFar funs owners c None = Unit {0}
BodySoFar funs owners c (Some f) = (slice_get owners f ≡ Some (Some c)) × (slice_get funs f ≡ Some (plain_head false))

abbrev pub ConstructorSoFar : (owners : List (Option ℕ)) → (class : ℕ) → Option ℕ → Type 0
ConstructorSoFar owners c None = Unit {0}
ConstructorSoFar owners c (Some f) = slice_get owners f ≡ Some (Some c)

pub record ClassSoFar (b : Table) (funs : List Head) (statics : List Kind) (owners : List (Option ℕ)) (c : ℕ)
    (k : Class) : Type 0 where
  pub members : Each (OwnSoFar b funs statics owners c k.fields) k.members
  pub found : Each (λ (m : Name × Own). lookup m.0 k.members ≡ Some m.1) k.members
  pub fields : Each (ValueIn (many b)) k.fields
  pub slots : new_slots k.members ≡ numbers k.slots
  pub body : BodySoFar funs owners c k.body
  pub constructor_so_far : ConstructorSoFar owners c k.constructor

module _ (b : Table) (funs more_funs : List Head) (statics more_statics : List Kind)
    (owners more_owners : List (Option ℕ))
    (wf : Within funs more_funs) (ws : Within statics more_statics) (wo : Within owners more_owners) (c : ℕ) where
  owned_grows : (n : Name) (f : ℕ) (h : Head) (d : Dispatch) → OwnedSoFar b owners c n f h d
      → OwnedSoFar b more_owners c n f h d
  owned_grows n f h by.Static so = (so.0, get_within owners more_owners f None wo so.1)
  owned_grows n f h (by.NewSlot k) so = (so.0, get_within owners more_owners f (Some c) wo so.1, so.2)
  owned_grows n f h by.Override so = (so.0, get_within owners more_owners f (Some c) wo so.1, so.2)

  own_grows : (fields more_fields : List Kind) → Within fields more_fields → (m : Name × Own)
      → OwnSoFar b funs statics owners c fields m → OwnSoFar b more_funs more_statics more_owners c more_fields m
  own_grows fields more wk (n, own.Field i k) so = get_within fields more i k wk so
  own_grows fields more wk (n, own.Static v) so = (get_within statics more_statics v.index v.kind ws so.0, so.1)
  own_grows fields more wk (n, own.Auto) so = tt
  own_grows fields more wk (n, own.Fun f d) so =
      (so.0, get_within funs more_funs f so.0 wf so.1, owned_grows n f so.0 d so.2)

  body_grows : (body : Option ℕ) → BodySoFar funs owners c body → BodySoFar more_funs more_owners c body
  body_grows None so = tt
  body_grows (Some f) so = (
    get_within owners more_owners f (Some c) wo so.0,
    get_within funs more_funs f
        (plain_head false) wf so.1,
  )

  constructor_grows : (o : Option ℕ) → ConstructorSoFar owners c o → ConstructorSoFar more_owners c o
  constructor_grows None so = tt
  constructor_grows (Some f) so = get_within owners more_owners f (Some c) wo so

  pub class_grows : (k : Class) → ClassSoFar b funs statics owners c k
      → ClassSoFar b more_funs more_statics more_owners c k
  class_grows k so = record {
    members = each_map (OwnSoFar b funs statics owners c k.fields)
        (OwnSoFar b more_funs more_statics more_owners c k.fields) (own_grows k.fields k.fields (within_same k.fields))
        k.members so.members;
    found = so.found;
    fields = so.fields;
    slots = so.slots;
    body = body_grows k.body so.body;
    constructor_so_far = constructor_grows k.constructor so.constructor_so_far;
  }

  new_slots_push : (ms : List (Name × Own)) (m : Name × Own) → new_slots (ms ++ m ∷ []) ≡ new_slots ms
      ++ new_slots (m ∷ [])
  new_slots_push [] m = refl
  new_slots_push ((n, own.Field i k) ∷ ms) m = new_slots_push ms m
  new_slots_push ((n, own.Static v) ∷ ms) m = new_slots_push ms m
  new_slots_push ((n, own.Auto) ∷ ms) m = new_slots_push ms m
  new_slots_push ((n, own.Fun f by.Static) ∷ ms) m = new_slots_push ms m
  new_slots_push ((n, own.Fun f (by.NewSlot k)) ∷ ms) m = ap (λ l. k ∷ l) (new_slots_push ms m)
  new_slots_push ((n, own.Fun f by.Override) ∷ ms) m = new_slots_push ms m

  -- a class gets one member more
  pub class_more : (k l : Class) (n : Name) (o : Own) → Within k.fields l.fields → Each (ValueIn (many b)) l.fields
      → l.members ≡ k.members ++ (n, o) ∷ [] → lookup n k.members ≡ None
      → OwnSoFar b more_funs more_statics more_owners c l.fields (n, o) → numbers k.slots
      ++ new_slots ((n, o) ∷ []) ≡ numbers l.slots → l.body ≡ k.body → l.constructor ≡ k.constructor
      → ClassSoFar b funs statics owners c k → ClassSoFar b more_funs more_statics more_owners c l
  class_more k l n o wk fields members new one slots body made so = record {
    members = subst (Each (OwnSoFar b more_funs more_statics more_owners c l.fields)) (sym members)
        (each_push (OwnSoFar b more_funs more_statics more_owners c l.fields) k.members (n, o)
        (each_map (OwnSoFar b funs statics owners c k.fields) (OwnSoFar b more_funs more_statics more_owners c l.fields)
        (own_grows k.fields l.fields wk) k.members so.members) one);
    found = subst (λ ms. Each (λ (m : Name × Own). lookup m.0 ms ≡ Some m.1) ms) (sym members)
        (each_push (λ (m : Name × Own). lookup m.0 all ≡ Some m.1) k.members (n, o)
        (each_map (λ (m : Name × Own). lookup m.0 k.members ≡ Some m.1) (λ (m : Name × Own). lookup m.0 all ≡ Some m.1)
        (λ m e. lookup_within m.0 k.members all m.1 ((n, o) ∷ [], refl) e) k.members so.found)
        (lookup_new n k.members o new));
    fields = fields;
    slots = ap new_slots members ∙ new_slots_push k.members (n, o) ∙ ap (λ s. s ++ new_slots ((n, o) ∷ [])) so.slots
        ∙ slots;
    body = subst (BodySoFar more_funs more_owners c) (sym body) (body_grows k.body so.body);
    constructor_so_far = subst (ConstructorSoFar more_owners c) (sym made)
        (constructor_grows k.constructor so.constructor_so_far);
  }
    where
      all : List (Name × Own)
      all = k.members ++ (n, o) ∷ []

-- files ---------------------------------------------------------------------------------------------

within_length : {A : Type 0} (xs ys : List A) → Within xs ys → length xs ≤ length ys
within_length xs ys more = omega (arith, ap length more.1 ∙ length-append xs more.0)

pub file_grows : (t u : Table) (owners more : List (Option ℕ)) (file : File) → many t ≤ many u
    → Within t.statics u.statics → Within owners more → IsFileOf t owners file → IsFileOf u more file
file_grows t u owners more file le ws wo so = record {
  classes = each_map (λ (e : Name × ℕ). e.1 < many t) (λ (e : Name × ℕ). e.1 < many u) (λ e lt. omega (arith, le, lt))
      file.classes so.classes;
  funs = each_map (λ (e : Name × ℕ). slice_get owners e.1 ≡ Some None)
      (λ (e : Name × ℕ). slice_get more e.1 ≡ Some None) (λ e is. get_within owners more e.1 None wo is) file.funs
      so.funs;
  variables =
      each_map (λ (e : Name × ℕ). e.1 < length t.statics) (λ (e : Name × ℕ). e.1 < length u.statics)
      (λ e lt. omega (arith, lt, within_length t.statics u.statics ws)) file.variables so.variables;
}

pub no_file_is : (t : Table) (owners : List (Option ℕ)) → IsFileOf t owners no_file
no_file_is t owners = record { classes = tt; funs = tt; variables = tt }

pub each_file : (P : File → Type 0) (fs : List File) (i : ℕ) → P no_file → Each P fs → P (or_no_file (slice_get fs i))
each_file P [] i none all = none
each_file P (file ∷ fs) zero none all = all.0
each_file P (file ∷ fs) (suc i) none all = each_file P fs i none all.1
