-- The program has all that the table after an earlier file names.
use Rattle.std.proofs.Common.{◌≡◌, ℕ, ◌<◌, ◌≤◌, Bool, true, false, nat_lt, if◌then◌else◌, List}
use Rattle.std.proofs.Common.{◌∷◌, ◌++◌, length, drop, Option, Some, None, slice_get, refl, sym, ap, ◌∙◌}
use Rattle.std.proofs.Common.{subst, arith}
use Rattle.std.specs.Option.{option_map}
use Rattle.ck_values.specs.declared.kind.Elem.TheVariants as elem
use Rattle.std.proofs.lemmas.Option.{slice_get_within}
use Rattle.ck_values.specs.declared.kind.Kind.{Kind}
use Rattle.ck_values.specs.declared.kind.Kind.TheVariants.{Void, Null, One, Row, Grid}
use Rattle.ck_syntax.specs.Tree.{Name}
use Rattle.ck_typed.specs.Tree.{Fun, Program}
use Rattle.type_table.specs.declared.built_ins.BuiltInName.{BuiltInName}
use Rattle.type_table.specs.declared.table.Member.{Member}
use Rattle.type_table.specs.declared.table.Member.TheVariants as member
use Rattle.type_table.specs.declared.table.Variable.{Variable}
use Rattle.type_table.specs.Finished.{all_fields, all_slots, finished_class, finished_classes}
use Rattle.type_table.specs.Names.{lookup, or_else, built_in, built_in_names, as_class}
use Rattle.type_table.specs.declared.class.Head.{Head}
use Rattle.type_table.specs.declared.class.FileNames.{FileNames as File}
use Rattle.type_table.specs.Table.{Table, or_no_file, or_no_head, class_of, file_of, fun_of, line}
use Rattle.type_table.specs.Table.{seen_from, class_named, variable_named, static_at, kind_or_void}
use Rattle.type_table.specs.Table.{construct}
use Rattle.type_table.proofs.BuiltIns.{built_in_holds}
use Rattle.type_table.proofs.ListFacts.{holds_at}
use Rattle.type_table.proofs.Ranges.{Each, Within, KindIn, ValueIn, many, ResultIn, HeadIn}
use Rattle.first_walk.proofs.TableFacts.{Entry, heads_of, owners_of, IsFileOf}
use Rattle.first_walk.proofs.TableFacts.{KindsStay, IsTable, IsLater, IsNamed}
use Rattle.first_walk.proofs.Below.{IsBelowBy, itself, up}
use Rattle.check_scope.specs.Denotations.{is_void}
use Rattle.program_laws.specs.Programs.{Checked, program_of}
use Rattle.ck_typed.specs.Standing.{Stands, given}
use Rattle.ck_typed.specs.WellFormed.{FoundWhere, params_of}
use Rattle.program_laws.proofs.BelowOf.{below_of}
use Rattle.expr_laws.proofs.FineCalls.{params_in}
use Rattle.program_laws.proofs.Found.{some_is, found_where, all_within, found_at, found_within}
use Rattle.program_laws.proofs.Found.{each_at, each_named, map_at, zip_at}
use Rattle.program_laws.proofs.Parallel.{Zip, Matches, this_of}
use Rattle.expr_laws.proofs.Premises.{Has, HasStatic, MakerIs, MemberIs, PlainFun, SlotFun}
use Rattle.program_laws.proofs.TableLaws.{IsSlotOf, ClassLaws, LaterLaws}

-- what was checked, with these file variables and static members
abbrev pub with_statics : Checked → List Kind → Program
with_statics c statics = record (program_of c) { statics = statics }

-- the functions of what was checked are those of the table
pub record IsNumbered (c : Checked) (entries : List Entry) : Type 0 where
  pub table : IsTable c.table (owners_of entries)
  pub heads : heads_of entries ≡ c.table.funs
  pub functions : Zip Matches c.funs entries

pub void_is : (k : Kind) → is_void k ≡ true → k ≡ Void
void_is Void is = refl
void_is _ is = absurd (cc)

pub kind_some : (k : Kind) → is_void k ≡ false → k ≡ Void → ⊥
kind_some k some is = absurd (cc (some, ap is_void is))

pub value_some : (n : ℕ) (k : Kind) → ValueIn n k → k ≡ Void → ⊥
value_some n k value is = subst (ValueIn n) is value

-- what isn't void is a value
pub result_value : (n : ℕ) (k : Kind) → ResultIn n k → is_void k ≡ false → ValueIn n k
result_value n Void is some = absurd (cc)
result_value n Null is some = is
result_value n (One e) is some = is
result_value n (Row e) is some = is
result_value n (Grid e) is some = is

-- tables ------------------------------------------------------------------------------------------

pub result_kind_in : (n : ℕ) (k : Kind) → ResultIn n k → KindIn n k
result_kind_in n Void is = tt
result_kind_in n Null is = tt
result_kind_in n (One e) is = is
result_kind_in n (Row e) is = is
result_kind_in n (Grid e) is = is

-- the built-in names of classes are those of the first two
abbrev pub IsFirst : BuiltInName → Type 0
IsFirst b = (c : ℕ) → as_class (Some b) ≡ Some c → c < 2

pub firsts : Each (λ (row : Name × BuiltInName). IsFirst row.1) built_in_names
unfolding built_in_names
firsts = (
  λ c is. subst (λ n. n < 2) (some_is is) (omega arith),
  (
    λ c is. subst (λ n. n < 2) (some_is is) (omega arith),
    (λ c is. absurd (cc), (λ c is. absurd (cc), (λ c is. absurd (cc), (λ c is. absurd (cc), tt)))),
  ),
)

pub built_in_first : (n : Name) (c : ℕ) → as_class (built_in n) ≡ Some c → c < 2
built_in_first n c is = go (built_in n) refl is
  where
    go : (o : Option BuiltInName) → built_in n ≡ o → as_class o ≡ Some c → c < 2
    go None found so = absurd (cc)
    go (Some b) found so =
        holds_at IsFirst (built_in n) b found
        (built_in_holds IsFirst n firsts (λ k named c is. absurd (cc))) c so

pub seen_is : (t : Table) (file : ℕ) (o : Option ℕ) (c : ℕ) → seen_from t file o ≡ Some c
    → o ≡ Some c
seen_is t file None c is = is
seen_is t file (Some d) c is = go (nat_lt (class_of t d).file file) is
  where
    go : (seen : Bool) → (if seen then Some d else None) ≡ Some c → Some d ≡ Some c
    go true so = so
    go false so = absurd (cc)

pub first_or : {A : Type 0} (P : A → Type 0) (one other : Option A) (x : A) → (one ≡ Some x → P x)
    → (other ≡ Some x → P x) → or_else one other ≡ Some x → P x
first_or P None other x first second is = second is
first_or P (Some y) other x first second is = first is

module _ (t : Table) (owners : List (Option ℕ)) (table : IsTable t owners) where
  pub file_is : (f : ℕ) → IsFileOf t owners (file_of t f)
  file_is f = go (slice_get t.files f) refl
    where
      go : (o : Option File) → slice_get t.files f ≡ o → IsFileOf t owners (or_no_file o)
      go None is = record { classes = tt; funs = tt; variables = tt }
      go (Some file) is = each_at (IsFileOf t owners) t.files f file table.files is

  -- a class that is named is there
  pub class_in : (file c : ℕ) (n : Name) → class_named t file n ≡ Some c → c < many t
  class_in file c n =
      first_or (λ d. d < many t) (lookup n (file_of t file).classes)
      (or_else (seen_from t file (lookup n t.publics)) (as_class (built_in n))) c
      (each_named (λ d. d < many t) (file_of t file).classes n c (file_is file).classes)
      (first_or (λ d. d < many t) (seen_from t file (lookup n t.publics)) (as_class (built_in n)) c
      (λ is. each_named (λ d. d < many t) t.publics n c table.publics
      (seen_is t file (lookup n t.publics) c is))
      (λ is. omega (arith, built_in_first n c is, table.two)))

  -- a file variable is void, or has a kind
  pub number_in : (file : ℕ) (n : Name) (o : Option ℕ) (v : Variable)
      → lookup n (file_of t file).variables ≡ o → option_map (static_at t) o ≡ Some v
      → (v.index < length t.statics) × (v ≡ static_at t v.index)
  number_in file n None v is named = absurd (cc)
  number_in file n (Some i) v is named =
      subst (λ (w : Variable). (w.index < length t.statics) × (w ≡ static_at t w.index))
      (some_is named) (
        each_named (λ j. j < length t.statics) (file_of t file).variables n i
            (file_is file).variables is,
        refl,
      )

  -- results of functions have kinds
  pub result_in : (f : ℕ) → KindIn (many t) (fun_of t f).result
  result_in f = go (slice_get t.funs f) refl
    where
      go : (o : Option Head) → slice_get t.funs f ≡ o → KindIn (many t) (or_no_head o).result
      go None is = tt
      go (Some h) is =
          result_kind_in (many t) h.result (each_at (HeadIn (many t)) t.funs f h table.heads is).1

-- a table is as late as itself
pub later_self : (t : Table) → IsLater t t
later_self t =
    record {
      more = omega arith;
      parents = λ c lt. refl;
      funs = all_within t.funs;
      statics = λ i k is some. is;
      classes =
          λ c lt. record {
            name = refl;
            members = refl;
            fields = refl;
            slots = refl;
            body = refl;
            constructor_same = refl;
          };
    }

-- an earlier table
-- ----------------------------------------------------------------------------------

-- a function of the program has these types, and takes such an object first
abbrev pub IsTyped : Checked → Table → (owner : Option ℕ) → (number : ℕ) → Fun → Type 0
IsTyped c t o f fn =
    (params_of fn ≡ this_of o ++ (fun_of t f).params) × (fn.result ≡ given (fun_of t f).result)

module _ (c : Checked) (entries : List Entry) (numbered : IsNumbered c entries)
    (t : Table) (owners : List (Option ℕ)) (table : IsTable t owners)
    (within : Within owners (owners_of entries)) (later : IsLater t c.table) where
  pub owned_in : (f : ℕ) (o : Option ℕ) → slice_get owners f ≡ Some o → f < length t.funs
  owned_in f o is = subst (λ n. f < n) table.count (slice_get_within owners f o is)

  -- what stands above a class stands above it later
  pub still_above : (d a : ℕ) → d < many t → IsBelowBy t.parents d a
      → IsBelowBy c.table.parents d a
  still_above d a lt itself = itself
  still_above d a lt (up k is above) =
      up k (later.parents d lt ∙ is)
      (still_above k a (each_at (λ j. j < many t) t.parents d k table.inner is) above)

  -- a function of the table is one of the program
  pub typed_fun : (f : ℕ) (o : Option ℕ) → slice_get owners f ≡ Some o
      → (fn : Fun) × (slice_get c.funs f ≡ Some fn) × IsTyped c t o f fn
  typed_fun f o is =
      let head = found_at t.funs f (owned_in f o is) in
      let late = found_within t.funs c.table.funs f head.0 later.funs head.1 in
      let one =
      map_at (λ (e : Entry). e.0) entries f head.0
      (subst (λ l. slice_get l f ≡ Some head.0) (sym numbered.heads) late) in
      let other =
      map_at (λ (e : Entry). e.1) entries f o
      (found_within owners (owners_of entries) f o within is) in
      let owner_is : one.0.1 ≡ o =
      ap (λ (e : Entry). e.1) (some_is (sym one.1 ∙ other.1)) ∙ other.2 in
      let head_is : one.0.0 ≡ fun_of t f = one.2 ∙ sym (ap or_no_head head.1) in
      let fn = zip_at Matches c.funs entries f one.0 numbered.functions one.1 in (
        fn.0,
        fn.1,
        (
          fn.2.0 ∙ ap (λ w. this_of w ++ one.0.0.params) owner_is
              ∙ ap (λ (h : Head). this_of o ++ h.params) head_is,
          fn.2.1 ∙ ap (λ (h : Head). given h.result) head_is,
        ),
      )

  -- file variables and static members of the table have their kinds in these statics
  module _ (statics : List Kind) (stay : KindsStay t.statics statics) where
    pub plain_fun : (f : ℕ) → slice_get owners f ≡ Some None → PlainFun (with_statics c statics) t f
    plain_fun f is =
        let fn = typed_fun f None is in (
          found_where (λ g. (params_of g ≡ (fun_of t f).params)
              × (g.result ≡ given (fun_of t f).result)) (slice_get c.funs f) fn.0 fn.1 fn.2,
          result_in t owners table f,
        )

    module _ (last : ClassLaws c.table (owners_of entries)) (laws : ClassLaws t owners)
        (laws_later : LaterLaws t c.table) where
      pub finished_at : (d : ℕ) → d < many t
          → slice_get (finished_classes c.table) d ≡ Some (finished_class c.table d)
      finished_at d lt = last.finished d (omega (arith, lt, later.more))

      -- a function of a slot has the types of the one that was named
      pub slot_fun : (d slot f : ℕ) → d < many t → IsNamed t owners d (member.Fun f (Some slot))
          → SlotFun (with_statics c statics) t d slot f
      slot_fun d slot f lt is =
          let g = is.0.0 in
          let own =
          each_at (IsSlotOf t owners d) (all_slots t (line t d)) slot g
          (laws.virtuals_are d lt) is.0.1 in
          let fn = typed_fun g (Some own.0) own.1 in
          let P =
          λ (h : Fun). (drop 1 (params_of h) ≡ (fun_of t f).params)
          × (h.result ≡ given (fun_of t f).result) in
          let typed : P fn.0 = (ap (drop 1) fn.2.0 ∙ is.0.2.0, fn.2.1 ∙ ap given is.0.2.1) in (
            found_where (λ class. FoundWhere (slice_get class.virtuals slot)
                (λ h. FoundWhere (slice_get c.funs h) P)) (slice_get (finished_classes c.table) d)
                (finished_class c.table d) (finished_at d lt)
                (found_where (λ h. FoundWhere (slice_get c.funs h) P)
                (slice_get (all_slots c.table (line c.table d)) slot) g
                (ap (λ l. slice_get l slot) (laws_later.slots d lt) ∙ is.0.1)
                (found_where P (slice_get c.funs g) fn.0 fn.1 typed)),
            result_in t owners table f,
          )

      pub member_known : (d : ℕ) (m : Member) → d < many t → IsNamed t owners d m
          → MemberIs (with_statics c statics) t d m
      member_known d (member.Field i k) lt is = (
        found_where (λ class. slice_get class.fields i ≡ Some k)
            (slice_get (finished_classes c.table) d) (finished_class c.table d) (finished_at d lt)
            (ap (λ l. slice_get l i) (laws_later.fields d lt) ∙ is),
        each_at (ValueIn (many t)) (all_fields t (line t d)) i k (laws.fields_in d lt) is,
      )
      member_known d (member.Static i k) lt is =
          (stay i k is.0 (value_some (many t) k is.1), is.1)
      member_known d member.Auto lt is = tt
      member_known d (member.Fun f None) lt is = plain_fun f is
      member_known d (member.Fun f (Some slot)) lt is = slot_fun d slot f lt is

      -- a file variable that has a kind
      pub variable_known : (file : ℕ) (n : Name) (x : Variable) → variable_named t file n ≡ Some x
          → is_void x.kind ≡ false → HasStatic (with_statics c statics) t x.index x.kind
      variable_known file n x named some =
          let is = number_in t owners table file n (lookup n (file_of t file).variables) x refl named in
          let there = found_at t.statics x.index is.0 in
          let same : there.0 ≡ x.kind =
          sym (ap (λ (w : Variable). w.kind) is.1 ∙ ap kind_or_void there.1) in
          let known : slice_get t.statics x.index ≡ Some x.kind = there.1 ∙ ap Some same in (
            stay x.index x.kind known (kind_some x.kind some),
            result_value (many t) x.kind
                (each_at (ResultIn (many t)) t.statics x.index x.kind table.statics known) some,
          )

      -- a constructor takes an object of the class
      pub maker_known : (d f : ℕ) → d < many t → construct t d ≡ Some f
          → MakerIs (with_statics c statics) t d f
      maker_known d f lt is =
          let own = laws.maker_is d f lt is in
          let fn = typed_fun f (Some own.0) own.1 in
          found_where (λ (x : Fun). (a : ℕ) × (ks : List Kind)
          × (params_of x ≡ One (elem.Class a) ∷ ks)
          × Stands (finished_classes c.table) (One (elem.Class d)) (One (elem.Class a))
          × (ks ≡ (fun_of t f).params)) (slice_get c.funs f) fn.0 fn.1 (
            own.0,
            (fun_of t f).params,
            fn.2.0,
            below_of c.table (owners_of entries) numbered.table last d own.0
                (omega (arith, lt, later.more)) (still_above d own.0 lt own.2),
            refl,
          )

      -- the program has all that the table names
      pub has : Has (with_statics c statics) t
      has =
          record {
            classes = subst (λ n. many t ≤ n) (sym last.finished_length) later.more;
            two = table.two;
            below =
                λ d a lt is. below_of c.table (owners_of entries) numbered.table last d a
                (omega (arith, lt, later.more)) (laws_later.below d a lt is);
            named = λ file d n is. class_in t owners table file d n is;
            variable = variable_known;
            fun =
                λ file f n is. plain_fun f
                (each_named (λ g. slice_get owners g ≡ Some None) (file_of t file).funs n f
                (file_is t owners table file).funs is);
            params = params_in t table.heads;
            member = λ d n m lt is. member_known d m lt (laws.member_is d n m lt is);
            maker = maker_known;
          }
