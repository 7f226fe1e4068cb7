-- The table behind a file: variables with `auto` have got their kinds, and nothing else changed.
use Rattle.std.proofs.Common.{◌≡◌, ℕ, ◌<◌, Bool, true, false, nat_eq, if◌then◌else◌, List, []}
use Rattle.std.proofs.Common.{◌∷◌, ◌++◌, length, map, Option, Some, None, slice_get, slice_set}
use Rattle.std.proofs.Common.{refl, sym, ap, ◌∙◌, subst, le_refl, length-set, eq-eqb}
use Rattle.std.proofs.lemmas.Option.{slice_get_within, slice_get-map}
use Rattle.std.specs.Option.{option_map}
use Rattle.ck_values.specs.declared.kind.Kind.{Kind}
use Rattle.ck_values.specs.declared.kind.Kind.TheVariants.{Void, Null, One, Row, Grid}
use Rattle.ck_syntax.specs.Tree.{Name}
use Rattle.ck_typed.specs.Standing.{given}
use Rattle.type_table.specs.declared.class.Dispatch.{Dispatch}
use Rattle.type_table.specs.declared.class.Dispatch.TheVariants as by
use Rattle.type_table.specs.declared.class.FileNames.{FileNames as File}
use Rattle.type_table.specs.declared.class.Own.{Own}
use Rattle.type_table.specs.declared.class.Own.TheVariants as own
use Rattle.type_table.specs.declared.table.Variable.{Variable}
use Rattle.type_table.specs.Names.{lookup, or_else}
use Rattle.type_table.specs.Table.{Table, class_of, file_of, ancestors, overridden, kind_or_void}
use Rattle.type_table.specs.Table.{settled_statics, with_settled, variable_named}
use Rattle.type_table.proofs.ListFacts.{get_set_same, get_set_other, each_set, each_map}
use Rattle.type_table.proofs.Ranges.{Each, ValueIn, ResultIn, many}
use Rattle.first_walk.proofs.TableFacts.{KindsStay, IsOwn, Owned, IsBodyOf, IsFileOf, IsClassOf}
use Rattle.first_walk.proofs.TableFacts.{IsTable, IsLater}
use Rattle.check_scope.specs.Denotations.{is_void}
use Rattle.check_scope.specs.Expressions.{is_no_type}
use Rattle.check_scope.specs.Scope.{settled_or, settled_at}
use Rattle.expr_laws.proofs.Settling.{Settles, as_before, one_more}
use Rattle.program_laws.proofs.Found.{all_within, found_at, some_is}
use Rattle.program_laws.proofs.Known.{void_is, value_some, number_in}

-- kinds -------------------------------------------------------------------------------------------

pub some_kind : (k : Kind) → is_no_type k ≡ false → k ≡ Void → ⊥
some_kind k some is = absurd (cc (some, ap is_no_type is))

-- what was settled, one after the other -----------------------------------------------------------

-- each of these is of a variable that is void until then, and that gets a kind
abbrev pub Settling : (statics : List Kind) → (settled : List (ℕ × Kind)) → Type 0
Settling statics [] = Unit {0}
Settling statics ((i, k) ∷ rest) =
    (slice_get statics i ≡ Some Void) × (k ≡ Void → ⊥) × Settling (slice_set statics i k) rest

-- what had a kind before keeps it
pub set_stays : (statics : List Kind) (i : ℕ) (k : Kind) → slice_get statics i ≡ Some Void
    → KindsStay statics (slice_set statics i k)
set_stays statics i k void j kind is some =
    get_set_other statics i j k
    (λ same. some (some_is (sym is ∙ ap (slice_get statics) same ∙ void))) ∙ is

pub kinds_stay : (statics : List Kind) (settled : List (ℕ × Kind)) → Settling statics settled
    → KindsStay statics (settled_statics statics settled)
kinds_stay statics [] settling j kind is some = is
kinds_stay statics ((i, k) ∷ rest) settling j kind is some =
    kinds_stay (slice_set statics i k) rest settling.2 j kind
    (set_stays statics i k settling.0 j kind is some) some

-- and each variable has in the end what was settled
abbrev pub HasKind : List Kind → ℕ × Kind → Type 0
HasKind statics one = (slice_get statics one.0 ≡ Some one.1) × (one.1 ≡ Void → ⊥)

pub settled_kinds : (statics : List Kind) (settled : List (ℕ × Kind)) → Settling statics settled
    → Each (HasKind (settled_statics statics settled)) settled
settled_kinds statics [] settling = tt
settled_kinds statics ((i, k) ∷ rest) settling = (
  (
    kinds_stay (slice_set statics i k) rest settling.2 i k
        (get_set_same statics i k (slice_get_within statics i Void settling.0)) settling.1,
    settling.1,
  ),
  settled_kinds (slice_set statics i k) rest settling.2,
)

-- one more
pub settling_more : (statics : List Kind) (settled : List (ℕ × Kind)) (i : ℕ) (k : Kind)
    → Settling statics settled → slice_get (settled_statics statics settled) i ≡ Some Void
    → (k ≡ Void → ⊥) → Settling statics (settled ++ (i, k) ∷ [])
settling_more statics [] i k settling void some = (void, some, tt)
settling_more statics ((j, other) ∷ rest) i k settling void some = (
  settling.0,
  settling.1,
  settling_more (slice_set statics j other) rest i k settling.2 void some,
)

-- what is void by what was settled is void in the table, and stays so
pub void_now : (statics : List Kind) (settled : List (ℕ × Kind)) (i : ℕ) (k : Kind)
    → Settling statics settled → is_void (settled_or k (settled_at i settled)) ≡ true
    → (slice_get (settled_statics statics settled) i ≡ slice_get statics i) × (k ≡ Void)
void_now statics [] i k settling void = (refl, void_is k void)
void_now statics ((j, other) ∷ rest) i k settling void =
    go (nat_eq j i) refl void (void_now (slice_set statics j other) rest i k settling.2)
  where
    Stays : Type 0
    Stays =
        (slice_get (settled_statics (slice_set statics j other) rest) i ≡ slice_get statics i)
        × (k ≡ Void)

    go : (b : Bool) → nat_eq j i ≡ b
        → is_void (settled_or k (if b then Some (j, other) else settled_at i rest)) ≡ true
        → (is_void (settled_or k (settled_at i rest)) ≡ true
        → (slice_get (settled_statics (slice_set statics j other) rest) i
        ≡ slice_get (slice_set statics j other) i) × (k ≡ Void))
        → Stays
    go true same now later = absurd (settling.1 (void_is other now))
    go false differ now later =
        let is = later now in (
          is.0 ∙ get_set_other statics j i other (λ e. absurd (cc (differ, eq-eqb j i (sym e)))),
          is.1,
        )

-- in a program all have a kind: what has none stands as an int -----------------------------------

pub given_kind : (k : Kind) → (k ≡ Void → ⊥) → given k ≡ k
given_kind Void some = absurd (some refl)
given_kind Null some = refl
given_kind (One e) some = refl
given_kind (Row e) some = refl
given_kind (Grid e) some = refl

pub given_stays : (statics more : List Kind) → KindsStay statics more
    → KindsStay statics (map given more)
given_stays statics more stay i k is some =
    slice_get-map given more i ∙ ap (option_map given) (stay i k is some)
    ∙ ap Some (given_kind k some)

pub given_value : (n : ℕ) (k : Kind) → ResultIn n k → ValueIn n (given k)
given_value n Void is = tt
given_value n Null is = is
given_value n (One e) is = is
given_value n (Row e) is = is
given_value n (Grid e) is = is

pub given_values : (n : ℕ) (statics : List Kind) → Each (ResultIn n) statics
    → Each (ValueIn n) (map given statics)
given_values n [] are = tt
given_values n (k ∷ statics) are = (given_value n k are.0, given_values n statics are.1)

-- ranges ------------------------------------------------------------------------------------------

pub settled_length : (statics : List Kind) (settled : List (ℕ × Kind))
    → length (settled_statics statics settled) ≡ length statics
settled_length statics [] = refl
settled_length statics ((i, k) ∷ rest) =
    settled_length (slice_set statics i k) rest ∙ length-set statics i k

pub result_of : (n : ℕ) (k : Kind) → ValueIn n k → ResultIn n k
result_of n Void is = tt
result_of n Null is = is
result_of n (One e) is = is
result_of n (Row e) is = is
result_of n (Grid e) is = is

pub settled_in : (n : ℕ) (statics : List Kind) (settled : List (ℕ × Kind))
    → Each (ResultIn n) statics → Each (λ (one : ℕ × Kind). ValueIn n one.1) settled
    → Each (ResultIn n) (settled_statics statics settled)
settled_in n statics [] are in_range = are
settled_in n statics ((i, k) ∷ rest) are in_range =
    settled_in n (slice_set statics i k) rest
    (each_set (ResultIn n) statics i k are (result_of n k in_range.0)) in_range.1

-- tables ------------------------------------------------------------------------------------------

-- what the walk of a file settled
module _ (t : Table) (owners : List (Option ℕ)) (table : IsTable t owners) where
  void_at : (so_far : List (ℕ × Kind)) (file : ℕ) (n : Name) (v : Variable)
      → Settling t.statics so_far → variable_named t file n ≡ Some v
      → is_void (settled_or v.kind (settled_at v.index so_far)) ≡ true
      → slice_get (settled_statics t.statics so_far) v.index ≡ Some Void
  void_at so_far file n v settling named void =
      let number = number_in t owners table file n (lookup n (file_of t file).variables) v refl named in
      let there = found_at t.statics v.index number.0 in
      let now = void_now t.statics so_far v.index v.kind settling void in
      now.0 ∙ there.1
      ∙ ap Some (sym (ap (λ (w : Variable). w.kind) number.1 ∙ ap kind_or_void there.1) ∙ now.1)

  pub file_settling : {before settled : List (ℕ × Kind)} → Settles t before settled
      → Settling t.statics before → Settling t.statics settled
  file_settling as_before first = first
  file_settling (one_more {so_far = so_far} file n v k before named void some) first =
      settling_more t.statics so_far v.index k (file_settling before first)
      (void_at so_far file n v (file_settling before first) named void) (some_kind k some)

  module _ (settled : List (ℕ × Kind)) (settling : Settling t.statics settled) where
    pub is_behind : IsLater t (with_settled t settled)
    is_behind =
        record {
          more = le_refl (many t);
          parents = λ c lt. refl;
          funs = all_within t.funs;
          statics = kinds_stay t.statics settled settling;
          classes =
              λ c lt. record {
                name = refl;
                members = refl;
                fields = refl;
                slots = refl;
                body = refl;
                constructor_same = refl;
              };
        }

    same_overridden : (above : List ℕ) (n : Name)
        → overridden (with_settled t settled) above n ≡ overridden t above n
    same_overridden [] n = refl
    same_overridden (c ∷ above) n =
        ap (or_else (lookup n (class_of t c).heads)) (same_overridden above n)

    still_owned : (c : ℕ) (n : Name) (f : ℕ) (d : Dispatch) → Owned t owners c n f d
        → Owned (with_settled t settled) owners c n f d
    still_owned c n f by.Static owned = owned
    still_owned c n f (by.NewSlot k) owned =
        (owned.0, same_overridden (ancestors t c) n ∙ owned.1)
    still_owned c n f by.Override owned = (
      owned.0,
      (
        owned.1.0,
        same_overridden (ancestors t c) n ∙ owned.1.1,
        owned.1.2,
        owned.1.3,
      ),
    )

    still_own : (c : ℕ) (m : Name × Own) → IsOwn t owners c m
        → IsOwn (with_settled t settled) owners c m
    still_own c (n, own.Field i k) is = is
    still_own c (n, own.Static v) is = (
      kinds_stay t.statics settled settling v.index v.kind is.0 (value_some (many t) v.kind is.1),
      is.1,
    )
    still_own c (n, own.Auto) is = is
    still_own c (n, own.Fun f d) is = (is.0, still_owned c n f d is.1)

    still_class : (c : ℕ) → IsClassOf t owners c → IsClassOf (with_settled t settled) owners c
    still_class c is =
        record {
          members =
              each_map (IsOwn t owners c) (IsOwn (with_settled t settled) owners c) (still_own c)
              (class_of t c).members is.members;
          found = is.found;
          fields = is.fields;
          slots = is.slots;
          heads = is.heads;
          body = still_body (class_of t c).body is.body;
          constructor_is = is.constructor_is;
        }
      where
        still_body : (o : Option ℕ) → IsBodyOf t owners c o
            → IsBodyOf (with_settled t settled) owners c o
        still_body None body = tt
        still_body (Some f) body = body

    still_file : (file : File) → IsFileOf t owners file
        → IsFileOf (with_settled t settled) owners file
    still_file file is =
        record {
          classes = is.classes;
          funs = is.funs;
          variables =
              subst (λ k. Each (λ (e : Name × ℕ). e.1 < k) file.variables)
              (sym (settled_length t.statics settled)) is.variables;
        }

    -- what is right of the table stays so
    pub settled_table : Each (λ (one : ℕ × Kind). ValueIn (many t) one.1) settled
        → IsTable (with_settled t settled) owners
    settled_table in_range =
        record {
          count = table.count;
          two = table.two;
          parents = table.parents;
          object = table.object;
          event = table.event;
          inner = table.inner;
          lines = table.lines;
          publics = table.publics;
          files =
              each_map (IsFileOf t owners) (IsFileOf (with_settled t settled) owners) still_file
              t.files table.files;
          statics = settled_in (many t) t.statics settled table.statics in_range;
          heads = table.heads;
          classes = λ c lt. still_class c (table.classes c lt);
        }
