-- Names by themselves, and words: what they stand for is what the program has.
use Rattle.std.proofs.Common.{◌≡◌, ◌∙◌, ℕ, zero, suc, ◌<◌, Bool, true, false, ◌&&◌, not, if◌then◌else◌, List, [], ◌∷◌, ◌++◌, length, Option, Some, None, refl, sym, ap, subst, arith}
use Rattle.std.specs.Prelude.{cond, nat_lt, nat_eq, ◌||◌, find, IfSome, slice_get}
use Rattle.std.proofs.lemmas.Bool.{eqb-true}
use Rattle.std.specs.Option.{option_map}
use Rattle.std.specs.Str.{bytes_eq}
use Rattle.ck_values.specs.declared.kind.Elem.TheVariants as elem
use Rattle.ck_values.specs.declared.kind.Kind.{Kind}
use Rattle.ck_values.specs.declared.kind.Kind.TheVariants.{Null, One}
use Rattle.ck_values.specs.declared.trap.Place.{Place}
use Rattle.ugen_names.specs.declared.table.UgenKind.TheVariants.{UGen}
use Rattle.ck_syntax.specs.declared.operator.Constant.{Constant}
use Rattle.ck_syntax.specs.declared.operator.Constant.TheVariants as constant
use Rattle.ck_syntax.specs.Tree.{Name}
use Rattle.ck_typed.specs.declared.expr.Spot.TheVariants as spot
use Rattle.ck_typed.specs.declared.operation.Variadic.TheVariants as variadic
use Rattle.ck_typed.specs.Tree as typed
use Rattle.ck_typed.specs.Tree.{Program, no_exprs}
use Rattle.type_rules.specs.Fitting.{is_below}
use Rattle.type_rules.specs.Calls.{has_call}
use Rattle.type_rules.specs.declared.calls.Holder.TheVariants as on
use Rattle.type_table.specs.Answer.{Answer, gives}
use Rattle.type_table.specs.declared.built_ins.BuiltInName.{BuiltInName}
use Rattle.type_table.specs.declared.built_ins.BuiltInName.TheVariants as name
use Rattle.type_table.specs.declared.table.Member.{Member}
use Rattle.type_table.specs.declared.table.Member.TheVariants as member
use Rattle.type_table.specs.declared.table.Variable.{Variable}
use Rattle.type_table.specs.NameClash.{is_event_call}
use Rattle.type_table.specs.Names.{lookup, or_else, built_in_names, built_in}
use Rattle.type_table.specs.Table.{Table, class_named, fun_named, member_named, variable_named}
use Rattle.type_table.proofs.BuiltIns.{built_in_holds}
use Rattle.type_table.proofs.ListFacts.{holds_at}
use Rattle.type_table.proofs.Ranges.{Each, Within, ValueIn, many}
use Rattle.check_scope.specs.Expressions.{this_value, word_meaning}
use Rattle.check_scope.specs.Denotations as m
use Rattle.check_scope.specs.Denotations.{Denotation, member_here, name_meaning}
use Rattle.check_scope.specs.Scope.{Scope, settled_or, kind_now, or_void, local_in, local_named, local_kind, this_local, is_top, is_unseen, place}
use Rattle.ck_typed.specs.WellFormed.{HasKind}
use Rattle.expr_laws.proofs.Oks.{both, ok_if}
use Rattle.expr_laws.proofs.Premises.{Ends, HasSettled, HasStatic, Ok, PlainFun, MemberIs, Has, IsThis, IsClass, IsScope, Valued, IsValue, IsType, IsMeaning}
use Rattle.expr_laws.proofs.Standing.{stands, gives_stands}

-- what is found ---------------------------------------------------------------------------------

if_named : {A : Type 0} (P : A → Type 0) (same : Bool) (a : A) (other : Option A) → P a → IfSome other P
    → IfSome (if same then Some a else other) P
if_named P true a other is rest = is
if_named P false a other is rest = rest

-- what holds of all that have names holds of what a name is
pub lookup_is : {A : Type 0} (P : A → Type 0) (n : Name) (xs : List (Name × A)) → Each (λ e. P e.1) xs
    → IfSome (lookup n xs) P
lookup_is P n [] are = tt
lookup_is P n ((m, a) ∷ rest) are = if_named P (bytes_eq n m) a (lookup n rest) are.0 (lookup_is P n rest are.1)

or_else_is : {A : Type 0} (P : A → Type 0) (first other : Option A) → IfSome first P → IfSome other P
    → IfSome (or_else first other) P
or_else_is P None other is rest = rest
or_else_is P (Some a) other is rest = is

pub some_is : {A : Type 0} (P : A → Type 0) (found : Option A) → ((a : A) → found ≡ Some a → P a) → IfSome found P
some_is P None is = tt
some_is P (Some a) is = is a refl

if_first : {A : Type 0} (P : A → Type 0) (passes : Bool) (a : A) (other : Option A) → (passes ≡ true → P a)
    → IfSome other P → IfSome (cond passes (Some a) other) P
if_first P true a other is rest = is refl
if_first P false a other is rest = rest

-- what holds of all that pass a test holds of the first of them
pub find_is : {A : Type 0} (P : A → Type 0) (test : A → Bool) (xs : List A) → Each (λ x. test x ≡ true → P x) xs
    → IfSome (find test xs) P
find_is P test [] are = tt
find_is P test (x ∷ rest) are = if_first P (test x) x (find test rest) are.0 (find_is P test rest are.1)

pub some_if : {A : Type 0} (P : A → Type 0) (test : Bool) (a : A) → (test ≡ true → P a)
    → IfSome (if test then Some a else None) P
some_if P true a is = is refl
some_if P false a is = tt

-- what the first place has that has something
pub first_found_is : {A : Type 0} (P : A → Type 0) (places : List (Option A)) → Each (λ found. IfSome found P) places
    → IfSome (m.first_found places) P
first_found_is P [] are = tt
first_found_is P (found ∷ others) are = or_else_is P found (m.first_found others) are.0 (first_found_is P others are.1)

-- what is made of what is found
pub made_is : {A B : Type 0} (P : A → Type 0) (Q : B → Type 0) (f : A → B) (found : Option A)
    → ((a : A) → P a → Q (f a)) → IfSome found P → IfSome (option_map f found) Q
made_is P Q f None follows is = tt
made_is P Q f (Some a) follows is = follows a is

pub map_is : {A B : Type 0} (P : B → Type 0) (f : A → B) (found : Option A) → IfSome found (λ a. P (f a))
    → IfSome (option_map f found) P
map_is P f None is = tt
map_is P f (Some a) is = is

-- locals ----------------------------------------------------------------------------------------

-- the kind of a local by its number
kind_at : (P : Kind → Type 0) (ks : List Kind) (i : ℕ) → Each P ks → i < length ks
    → (slice_get ks i ≡ Some (or_void (slice_get ks i))) × P (or_void (slice_get ks i))
kind_at P [] i are lt = absurd (omega (arith, lt))
kind_at P (k ∷ ks) zero are lt = (refl, are.0)
kind_at P (k ∷ ks) (suc i) are lt = kind_at P ks i are.1 (omega (arith, lt))

-- it stays where more follow
get_before : {A : Type 0} (front rest : List A) (i : ℕ) (a : A) → slice_get front i ≡ Some a
    → slice_get (front ++ rest) i ≡ Some a
get_before [] rest i a is = absurd (cc)
get_before (x ∷ front) rest zero a is = is
get_before (x ∷ front) rest (suc i) a is = get_before front rest i a is

pub get_within : {A : Type 0} (front all : List A) (i : ℕ) (a : A) → Within front all → slice_get front i ≡ Some a
    → slice_get all i ≡ Some a
get_within front all i a within is = subst (λ l. slice_get l i ≡ Some a) (sym within.1)
    (get_before front within.0 i a is)

-- the name of a local gives its number
local_in_is : (P : ℕ → Type 0) (n : Name) (blocks : List (List (Name × ℕ)))
    → Each (Each (λ (e : Name × ℕ). P e.1)) blocks → IfSome (local_in blocks n) P
local_in_is P n [] are = tt
local_in_is P n (block ∷ inner) are = or_else_is P (local_in inner n) (lookup n block) (local_in_is P n inner are.1)
    (lookup_is P n block are.0)

module _ (p : Program) (t : Table) (has : Has p t) (all : List Kind) where
  -- this ------------------------------------------------------------------------------------

  -- the object of a class is one of it
  pub this_valued : (s : Scope) (i c : ℕ) (q : Place) → s.class ≡ Some c → IsThis t s (Some i) s.class → Ends p t s all
      → Valued p t all (typed.Variadic (variadic.Read (spot.Local i)) no_exprs q) (One (elem.Class c))
  this_valued s i c q of is within =
      let this : (slice_get s.locals i ≡ Some (One (elem.Class c)))
      × (c < many t) = subst (IsThis t s (Some i)) of is in (
        One (elem.Class c),
        get_within s.locals all i (One (elem.Class c)) within.locals this.0,
        stands p.classes
            (One (elem.Class c)),
      )

  with_this_is : (s : Scope) (l : ℕ) (c : ℕ) (this : Option ℕ) (named : typed.Expr → Denotation) → s.class ≡ Some c
      → IsThis t s this s.class → Ends p t s all
      → ((e : typed.Expr) → Valued p t all e (One (elem.Class c)) → IsMeaning p t all (named e))
      → Ok (IsMeaning p t all) (m.with_this s l this named)
  with_this_is s l c None named of is within follows = tt
  with_this_is s l c (Some i) named of is within follows =
      follows (typed.Variadic (variadic.Read (spot.Local i)) no_exprs (place s l))
      (this_valued s i c (place s l) of is within)

  -- a class was entered
  pub class_in : (s : Scope) (c : ℕ) → IsScope t s → s.class ≡ Some c → c < many t
  class_in s c is of = subst (IsClass t) of is.class

  -- built-in names ------------------------------------------------------------------------------

  types_are : Each (λ (e : Name × BuiltInName). IsType p t all e.1) built_in_names
  unfolding built_in_names
  types_are = (omega (arith, has.two), (omega (arith, has.two), (tt, (tt, (tt, (tt, tt))))))

  built_in_is : (n : Name) → IfSome (built_in n) (IsType p t all)
  built_in_is n =
      some_is (IsType p t all) (built_in n)
      (λ b is. holds_at (IsType p t all) (built_in n) b is
      (built_in_holds (IsType p t all) n types_are (λ k named. tt)))

  -- an object of a class below Event is an event
  pub event_valued : (c : ℕ) (n : Name) (e : typed.Expr) → c < many t → is_event_call t c n ≡ true
      → Valued p t all e (One (elem.Class c)) → Valued p t all e (One (elem.Class 1))
  event_valued c n e lt is valued =
      gives_stands p (HasKind p all e) (One (elem.Class c)) (One (elem.Class 1)) valued
      (has.below c 1 lt (both (is_below t.parents c 1) (has_call on.Event n) is).0)

  -- names ---------------------------------------------------------------------------------------

  -- what a place has is what the program has
  abbrev pub IsFine : Option (Answer Denotation) → Type 0
  IsFine found = IfSome found (Ok (IsMeaning p t all))

  unless_public_is : (s : Scope) (l : ℕ) (x : Denotation) → IsMeaning p t all x
      → Ok (IsMeaning p t all) (m.unless_public t s l x)
  unless_public_is s l x is = ok_if (IsMeaning p t all) (m.is_public_class t s.class) _ _ (λ _. tt) (λ _. is)

  local_is : (s : Scope) (i : ℕ) → i < length s.locals → IsScope t s → Ends p t s all
      → (slice_get all i ≡ Some (local_kind s i)) × ValueIn (many t) (local_kind s i)
  local_is s i lt is within =
      let found = kind_at (ValueIn (many t)) s.locals i within.kinds lt in
      (get_within s.locals all i (local_kind s i) within.locals found.0, found.1)

  local_named_is : (s : Scope) (n : Name) → IsScope t s → IfSome (local_named s n) (λ i. i < length s.locals)
  local_named_is s n is =
      or_else_is (λ i. i < length s.locals) (local_in s.blocks n) (lookup n s.own)
      (local_in_is (λ i. i < length s.locals) n s.blocks is.blocks)
      (lookup_is (λ i. i < length s.locals) n s.own is.own)

  in_locals_is : (s : Scope) (n : Name) → IsScope t s → Ends p t s all → IsFine (m.in_locals s n)
  in_locals_is s n is within =
      made_is (λ i. i < length s.locals) (Ok (IsMeaning p t all))
      (λ i. gives (m.at (spot.Local i) no_exprs (local_kind s i))) (local_named s n)
      (λ i lt. local_is s i lt is within)
      (local_named_is s n is)

  -- a member of the class around
  abbrev IsHere : Scope → Member → Type 0
  IsHere s x = (c : ℕ) × (s.class ≡ Some c) × MemberIs p t c x

  member_is_here : (s : Scope) (n : Name) (class : Option ℕ) → s.class ≡ class → IsScope t s
      → IfSome (member_here t class n) (IsHere s)
  member_is_here s n None of is = tt
  member_is_here s n (Some c) of is = some_is (IsHere s) (member_named t c n)
      (λ x found. (c, of, has.member c n x (class_in s c is of) found))

  seen_member_is : (s : Scope) (n : Name) (x : Option Member) → IfSome x (IsHere s)
      → IfSome (m.unless_unseen s n x) (IsHere s)
  seen_member_is s n x here = go (is_unseen s n)
    where
      go : (unseen : Bool) → IfSome (if unseen then None else x) (IsHere s)
      go true = tt
      go false = here

  in_fields_is : (s : Scope) (l : ℕ) (x : Option Member) → IfSome x (IsHere s) → IsScope t s → Ends p t s all
      → IsFine (m.in_fields t s l x)
  in_fields_is s l (Some (member.Field i k)) here is within =
      with_this_is s l here.0 (this_local t s) (λ this. m.at (spot.Field i) (m.one this) k) here.1 is.this within
      (λ e valued. ((here.0, valued, here.2.0), here.2.1))
  in_fields_is s l (Some (member.Static i k)) here is within = here.2
  in_fields_is s l _ here is within = tt

  abbrev IsVariable : Variable → Type 0
  IsVariable v = HasStatic p t v.index v.kind

  -- the table's kind is the program's where it is one, and so is a kind that was settled
  abbrev IsNamed : Variable → Type 0
  IsNamed v = m.is_void v.kind ≡ false → IsVariable v

  kind_is : (v : Variable) → IsNamed v → (settled : List (ℕ × Kind)) → Each (HasSettled p t) settled → (k : Kind)
      → settled_or v.kind (find (λ x. nat_eq x.0 v.index) settled) ≡ k → m.is_void k ≡ false → HasStatic p t v.index k
  kind_is v named [] are k is some = subst (HasStatic p t v.index) is (named (ap m.is_void is ∙ some))
  kind_is v named ((i, j) ∷ rest) are k is some = go (nat_eq i v.index) refl is
      (λ it. kind_is v named rest are.1 k it some)
    where
      go : (here : Bool) → nat_eq i v.index ≡ here
          → settled_or v.kind (cond here (Some (i, j)) (find (λ x. nat_eq x.0 v.index) rest)) ≡ k
          → (settled_or v.kind (find (λ x. nat_eq x.0 v.index) rest) ≡ k → HasStatic p t v.index k)
          → HasStatic p t v.index k
      go true so it later = subst (λ x. HasStatic p t x k) (eqb-true i v.index so) (subst (HasStatic p t i) it are.0)
      go false so it later = later it

  seen_is : (s : Scope) → Ends p t s all → (v : Option Variable) → IfSome v IsNamed → IfSome (m.seen s v) IsVariable
  seen_is s within None is = tt
  seen_is s within (Some v) is = go (m.is_void (kind_now s v)) (is_top s && not (nat_lt v.index s.reached)) refl
    where
      go : (no hidden : Bool) → m.is_void (kind_now s v) ≡ no
          → IfSome (if no || hidden then None else Some (record v { kind = kind_now s v })) IsVariable
      go true hidden so = tt
      go false true so = tt
      go false false so = kind_is v is s.settled within.settled (kind_now s v) refl so

  in_variables_is : (s : Scope) (l : ℕ) (n : Name) → Ends p t s all → IsFine (m.in_variables t s l n)
  in_variables_is s l n within =
      made_is IsVariable (Ok (IsMeaning p t all))
      (λ v. m.unless_public t s l (m.at (spot.Static v.index) no_exprs v.kind)) (m.seen s (variable_named t s.file n))
      (λ v is. unless_public_is s l (m.at (spot.Static v.index) no_exprs v.kind) is)
      (seen_is s within (variable_named t s.file n)
      (some_is IsNamed (variable_named t s.file n) (λ v. has.variable s.file n v)))

  in_methods_is : (s : Scope) (l : ℕ) (x : Option Member) → IfSome x (IsHere s) → IsScope t s → Ends p t s all
      → IsFine (m.in_methods t s l x)
  in_methods_is s l (Some (member.Fun f None)) here is within = here.2
  in_methods_is s l (Some (member.Fun f (Some k))) here is within =
      with_this_is s l here.0 (this_local t s) (λ this. m.callable (m.method this f k)) here.1 is.this within
      (λ e valued. (here.0, valued, here.2))
  in_methods_is s l _ here is within = tt

  in_event_calls_is : (s : Scope) (l : ℕ) (n : Name) (class : Option ℕ) → s.class ≡ class → IsScope t s → Ends p t s all
      → IsFine (m.in_event_calls t s l n class)
  in_event_calls_is s l n None of is within = tt
  in_event_calls_is s l n (Some c) of is within =
      some_if (Ok (IsMeaning p t all)) (is_event_call t c n)
      (m.with_this s l (this_local t s) (λ this. m.callable (m.native_on this on.Event n)))
      (λ event. with_this_is s l c (this_local t s) (λ this. m.callable (m.native_on this on.Event n)) of is.this within
      (λ e. event_valued c n e (class_in s c is of) event))

  in_functions_is : (s : Scope) (l : ℕ) (n : Name) → IsFine (m.in_functions t s l n)
  in_functions_is s l n =
      made_is (PlainFun p t) (Ok (IsMeaning p t all)) (λ f. m.unless_public t s l (m.callable (m.numbered f)))
      (fun_named t s.file n)
      (λ f is. unless_public_is s l (m.callable (m.numbered f)) is)
      (some_is (PlainFun p t) (fun_named t s.file n) (λ f. has.fun s.file f n))

  in_classes_is : (s : Scope) (n : Name) → IsFine (m.in_classes t s n)
  in_classes_is s n =
      made_is (λ c. c < many t) (Ok (IsMeaning p t all)) (λ c. gives (m.a_type (name.Elem (elem.Class c))))
      (class_named t s.file n) (λ c lt. lt)
      (some_is (λ c. c < many t) (class_named t s.file n) (λ c. has.named s.file c n))

  in_built_ins_is : (n : Name) → IsFine (m.in_built_ins n)
  in_built_ins_is n = made_is (IsType p t all) (Ok (IsMeaning p t all)) (λ b. gives (m.a_type b)) (built_in n)
      (λ b is. is) (built_in_is n)

  in_places_are : (s : Scope) (l : ℕ) (n : Name) → IsScope t s → Ends p t s all → Each IsFine (m.in_places t s l n)
  in_places_are s l n is within =
      let here = member_is_here s n s.class refl is in (
        in_locals_is s n is within,
        (
          in_fields_is s l (m.unless_unseen s n (member_here t s.class n))
              (seen_member_is s n (member_here t s.class n) here) is within,
          (
            in_variables_is s l n within,
            (
              in_methods_is s l (member_here t s.class n) here is within,
              (
                in_event_calls_is s l n s.class refl is within,
                (in_functions_is s l n, (in_classes_is s n, (in_built_ins_is n, tt))),
              ),
            ),
          ),
        ),
      )

  -- the first place that has a name gives what the program has, or a fault
  pub first_known_is : (s : Scope) (l : ℕ) (places : List (Option (Answer Denotation))) → Each IsFine places
      → Ok (IsMeaning p t all) (m.or_unknown s l (m.first_found places))
  first_known_is s l places are = go (m.first_found places) (first_found_is (Ok (IsMeaning p t all)) places are)
    where
      go : (found : Option (Answer Denotation)) → IsFine found → Ok (IsMeaning p t all) (m.or_unknown s l found)
      go None is = tt
      go (Some answer) is = is

  pub name_meaning_is : (s : Scope) (l : ℕ) (n : Name) → IsScope t s → Ends p t s all
      → Ok (IsMeaning p t all) (name_meaning t s l n)
  name_meaning_is s l n is within = first_known_is s l (m.in_places t s l n) (in_places_are s l n is within)

  -- words ---------------------------------------------------------------------------------------

  this_value_is : (s : Scope) (q : Place) (l : ℕ) (this : Option ℕ) (class : Option ℕ) → s.class ≡ class
      → IsThis t s this class → IsScope t s → Ends p t s all
      → Ok (IsMeaning p t all) (this_value s q l this)
  this_value_is s q l None class of is scope within = tt
  this_value_is s q l (Some i) None of is scope within = absurd is
  this_value_is s q l (Some i) (Some c) of is scope within =
      let same : local_kind s i ≡ One (elem.Class c) = ap or_void is.0 in
      subst (λ k. IsValue p t all (m.typed_as (typed.Variadic (variadic.Read (spot.Local i)) no_exprs q) k q))
      (sym same) (this_valued s i c q of (subst (IsThis t s (Some i)) (sym of) is) within, is.1)

  pub word_meaning_is : (s : Scope) (l : ℕ) (c : Constant) → IsScope t s → Ends p t s all
      → Ok (IsMeaning p t all) (word_meaning t s l c)
  word_meaning_is s l constant.True is within = ((One elem.Int, refl, refl), tt)
  word_meaning_is s l constant.False is within = ((One elem.Int, refl, refl), tt)
  word_meaning_is s l constant.Null is within = ((Null, refl, tt), tt)
  word_meaning_is s l constant.Now is within = ((One elem.Time, refl, refl), tt)
  word_meaning_is s l constant.Me is within = ((One elem.Shred, refl, refl), tt)
  word_meaning_is s l constant.Dac is within = (
    (One (elem.Unit UGen), refl, stands p.classes (One (elem.Unit UGen))),
    tt,
  )
  word_meaning_is s l constant.Blackhole is within =
      ((One (elem.Unit UGen), refl, stands p.classes (One (elem.Unit UGen))), tt)
  word_meaning_is s l constant.This is within = this_value_is s (place s l) l (this_local t s) s.class refl is.this is
      within
