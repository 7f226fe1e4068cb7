-- Declarations: what is declared stands in its place, and its first value fits it.
use Rattle.std.proofs.Common.{◌≡◌, ℕ, ◌+◌, ◌<◌, Bool, true, false, not, ◌&&◌, List, [], ◌∷◌, ◌++◌, length, Option, Some, None, refl, arith, length-append}
use Rattle.ck_values.specs.declared.kind.Elem.{Elem}
use Rattle.ck_values.specs.declared.kind.Elem.TheVariants as elem
use Rattle.ck_values.specs.declared.kind.Kind.{Kind}
use Rattle.ck_values.specs.declared.kind.Kind.TheVariants.{Void, Null, One, Row, Grid}
use Rattle.ck_values.specs.declared.trap.Place.{Place}
use Rattle.ck_syntax.specs.declared.declaration.Base.{Base}
use Rattle.ck_syntax.specs.declared.declaration.DeclHead.{DeclHead}
use Rattle.ck_syntax.specs.Tree.{Name, Brackets, no_brackets, and_empty, and_size, Declr, declr_name, expr_line}
use Rattle.ugen_names.specs.declared.table.UgenKind.TheVariants as ugen
use Rattle.ck_typed.specs.declared.expr.Spot.{Spot}
use Rattle.ck_typed.specs.declared.expr.Spot.TheVariants as spot
use Rattle.ck_typed.specs.declared.operation.Variadic.TheVariants as variadic
use Rattle.ck_typed.specs.Tree as typed
use Rattle.ck_typed.specs.Tree.{Program}
use Rattle.type_table.specs.Answer.{Answer, gives, refused, and_then}
use Rattle.type_table.specs.declared.table.Member.{Member}
use Rattle.type_table.specs.declared.table.Member.TheVariants as member
use Rattle.type_table.specs.declared.table.Variable.{Variable}
use Rattle.type_table.specs.Table.{Table, member_named, variable_named}
use Rattle.type_table.specs.declared.types.Named.{Named}
use Rattle.type_table.specs.Types.{named_by, is_unknown, written_kind}
use Rattle.type_table.proofs.Ranges.{Each, Within, ElemIn, ValueIn, many}
use Rattle.check_scope.specs.Expressions.{Making, with_sizes, with_arguments, default_value, null_of, maker_of, row_of, first_value, declared_at, declared_static, sizes_are_ints, has_place, declared_field, declared_member, declared_variable, declared_global, declared_local, auto_meaning, declared_as, declared_with, AllValued, meaning, value_of, sizes as sizes_of, is_int}
use Rattle.check_scope.specs.Denotations.{Typed, Denotation, one, is_void}
use Rattle.check_scope.specs.Scope.{Scope, reach, place, this_local, is_declared, with_local, declares_globals}
use Rattle.ck_typed.specs.WellFormed.{AreMade, ConstructsEach}
use Rattle.expr_laws.proofs.Oks.{both, ok_then, ok_if}
use Rattle.expr_laws.proofs.Premises.{Leads, Ends, Ok, MemberIs, Has, IsClass, IsThis, IsScope, Valued, IsValue, IsPlace, IsMeaning}
use Rattle.expr_laws.proofs.Results.{IsMeant}
use Rattle.expr_laws.proofs.ScopeLaws.{found_within, grows_refl, reach_is, reach_grows, with_local_is, with_local_grows, new_local, same_ends, local_ends, leads_of, ends_before}
use Rattle.expr_laws.proofs.Standing.{stands}
use Rattle.expr_laws.proofs.FineForms.{elem_there}
use Rattle.expr_laws.proofs.FineMaking.{object_made_is, maker_is}
use Rattle.expr_laws.proofs.FineTypes.{IsNameable, CanBeMade, TakesNull, HasSize, HasFirst, Matches, not_false, sized, NamedIn, named_in, written_kind_in, first_of}
use Rattle.expr_laws.proofs.FineValues.{int_valued}

-- the sizes -------------------------------------------------------------------------------------

abbrev pub HasSizes : Brackets → AllValued → Type 0
HasSizes bs xs = length xs.typed ≡ sized bs

pub anything : {A : Type 0} (a : Answer A) → Ok (λ x. Unit {0}) a
anything (gives x) = tt
anything (refused why) = tt

one_more : (xs : List Typed) (x : Typed) (n : ℕ) → length xs ≡ n → length (xs ++ x ∷ []) ≡ 1 + n
one_more xs x n is = omega (arith, is, length-append xs (x ∷ []))

-- each pair of brackets with a size gives one
pub sizes_count : (t : Table) (s : Scope) (bs : Brackets) → Ok (HasSizes bs) (sizes_of t s bs)
sizes_count t s no_brackets = refl
sizes_count t s (and_empty bs) = sizes_count t s bs
sizes_count t s (and_size bs x) =
    ok_then (HasSizes bs) (HasSizes (and_size bs x)) (sizes_of t s bs) _ (sizes_count t s bs) (λ xs so.
    ok_then (λ v. Unit {0}) (HasSizes (and_size bs x)) (value_of (expr_line x) (meaning t xs.scope x)) _
    (anything (value_of (expr_line x) (meaning t xs.scope x))) (λ v is.
    one_more xs.typed v.typed (sized bs) so))

-- the kind of the file variable or the field of this name
abbrev pub HasGlobal : Table → Scope → Name → (class : Option ℕ) → Kind → Type 0
HasGlobal t s n None k = (v : Variable) × (variable_named t s.file n ≡ Some v) × (v.kind ≡ k)
HasGlobal t s n (Some c) k = (i : ℕ) × (member_named t c n ≡ Some (member.Field i k))

-- what is declared where globals are has a first value
abbrev pub HasForm : Table → Scope → DeclHead → Name → Making → Type 0
HasForm t s h n making = declares_globals s ≡ true → (k : Kind) → HasGlobal t s n s.class k
    → HasFirst h.is_reference k making

-- the values that a first value is made of
abbrev pub parts : Making → List Typed
parts (with_sizes xs) = xs
parts (with_arguments xs) = xs

-- what has the form of a declaration has a type
formed : (r : Bool) (k : Kind) (making : Making) → HasFirst r k making → is_void k ≡ false
formed true Void (with_sizes []) is = absurd is
formed false Void (with_sizes []) is = absurd is
formed true Void (with_sizes (n ∷ [])) is = absurd is
formed false Void (with_sizes (n ∷ [])) is = absurd is
formed r Void (with_sizes (n ∷ m ∷ rest)) is = absurd is
formed r Void (with_arguments xs) is = absurd is
formed r Null making is = refl
formed r (One e) making is = refl
formed r (Row e) making is = refl
formed r (Grid e) making is = refl

-- what holds of an answer whatever is so holds of it for all of that
pub ok_all : {A X : Type 0} (R : X → Type 0) (P : X → A → Type 0) (a : Answer A) → ((x : X) → R x → Ok (P x) a)
    → Ok (λ v. (x : X) → R x → P x v) a
ok_all R P (gives v) is = is
ok_all R P (refused why) is = tt

-- objects that can be made can be named
made_nameable : (i : Elem) → CanBeMade i → IsNameable i
made_nameable (elem.Unit ugen.UGen) made = absurd (cc)
made_nameable (elem.Unit u) made = made
made_nameable (elem.Class c) made = tt
made_nameable _ made = tt

module _ (p : Program) (t : Table) (has : Has p t) where
  -- first values ------------------------------------------------------------------------------

  module _ (all : List Kind) (s : Scope) (l : ℕ) where
    -- a first value of this kind
    abbrev First : Kind → typed.Expr → Type 0
    First k x = Valued p t all x k

    default_is : (e : Elem) → ElemIn (many t) e → CanBeMade e → Ok (First (One e)) (default_value t s l e)
    default_is (elem.Class c) within made = object_made_is p t has all s l (elem.Class c) [] within tt tt
    default_is (elem.Unit u) within made = object_made_is p t has all s l (elem.Unit u) [] within
        (made_nameable (elem.Unit u) made) tt
    default_is elem.Int within made = (One _, refl, refl)
    default_is elem.Float within made = (One _, refl, refl)
    default_is elem.Dur within made = (One _, refl, refl)
    default_is elem.Time within made = (One _, refl, refl)
    default_is elem.Text within made = (One _, refl, refl)
    default_is elem.Shred within made = (One _, refl, refl)

    null_is : (k : Kind) (q : Place) → TakesNull k → First k (null_of k q)
    null_is (One elem.Shred) q takes = (One elem.Shred, refl, refl)
    null_is (One _) q takes = (Null, refl, takes)
    null_is _ q takes = (Null, refl, takes)

    -- an array of objects that are made
    objects_are : (e : Elem) (x : Typed) → ElemIn (many t) e → AreMade p e → First (One elem.Int) x.expr
        → Ok (First (Row e)) (and_then (maker_of t s l e) (λ f. gives (typed.NewObjects e x.expr f (place s l))))
    objects_are e x within made int =
        ok_then (ConstructsEach p e) (First (Row e)) (maker_of t s l e) _ (maker_is p t has all s l e within)
        (λ f constructs. (Row e, (made, int, constructs, refl), stands p.classes (Row e)))

    row_is : (r : Bool) (e : Elem) (x : Typed) → ElemIn (many t) e → HasSize r (Row e) → First (One elem.Int) x.expr
        → Ok (First (Row e)) (row_of t s l r e x.expr)
    row_is true e x within so int = (Row e, (elem_there p t has e within, int, refl), refl)
    row_is false (elem.Class c) x within so int = objects_are (elem.Class c) x within
        (elem_there p t has (elem.Class c) within) int
    row_is false (elem.Unit u) x within so int = objects_are (elem.Unit u) x within so int
    row_is false _ x within so int = (Row _, (tt, int, refl), refl)

    -- it fits what is declared
    pub first_value_is : (r : Bool) (k : Kind) (making : Making) → ValueIn (many t) k → HasFirst r k making
        → Each (IsValue p t all) (parts making) → sizes_are_ints making ≡ true
        → Ok (First k) (first_value t s l r k making)
    first_value_is r (One e) (with_arguments xs) within form are ints = object_made_is p t has all s l e xs within form
        are
    first_value_is r Void (with_arguments xs) within form are ints = absurd form
    first_value_is r Null (with_arguments xs) within form are ints = absurd form
    first_value_is r (Row e) (with_arguments xs) within form are ints = absurd form
    first_value_is r (Grid e) (with_arguments xs) within form are ints = absurd form
    first_value_is true k (with_sizes []) within form are ints = null_is k (place s l) form
    first_value_is false (One e) (with_sizes []) within form are ints = default_is e within form
    first_value_is false k (with_sizes []) within form are ints = null_is k (place s l) form
    first_value_is r (Row e) (with_sizes (n ∷ [])) within form are ints = row_is r e n within form
        (int_valued p t has all n are.0 (both (is_int n.kind) true ints).0)
    first_value_is true _ (with_sizes (n ∷ [])) within form are ints = absurd form
    first_value_is false _ (with_sizes (n ∷ [])) within form are ints = absurd form
    first_value_is r (Grid e) (with_sizes (n ∷ m ∷ rest)) within form are ints =
        let first = both (is_int n.kind) (is_int m.kind && sizes_are_ints (with_sizes rest)) ints in
        let second = both (is_int m.kind) (sizes_are_ints (with_sizes rest)) first.1 in (
          Grid e,
          (
            elem_there p t has e within,
            int_valued p t has all n are.0 first.0,
            int_valued p t has all m are.1.0
                second.0,
            refl,
          ),
          refl,
        )
    first_value_is r _ (with_sizes (n ∷ m ∷ rest)) within form are ints = absurd form

    declared_is : (at : Spot) (address : typed.Exprs) (r : Bool) (k : Kind) (making : Making)
        → IsPlace p t all at address k → HasFirst r k making → Each (IsValue p t all) (parts making)
        → sizes_are_ints making ≡ true → Ok (IsMeaning p t all) (declared_at t s l at address r k making)
    declared_is at address r k making place form are ints =
        ok_then (First k) (IsMeaning p t all) (first_value t s l r k making) _
        (first_value_is r k making place.1 form are ints)
        (λ first is. (place, (k, (place.0, is), stands p.classes k)))

    static_is : (i : ℕ) (r : Bool) (k : Kind) (making : Making) (q : Place)
        → IsPlace p t all (spot.Static i) typed.no_exprs k → IsMeaning p t all (declared_static i r k making q)
    static_is i r k making q place = (place, (k, place.0, stands p.classes k))

  -- declarations ------------------------------------------------------------------------------

  -- what stands in a scope, whatever locals the function has in the end
  abbrev Fits : Scope → Denotation → Type 0
  Fits s m = (all : List Kind) → Ends p t s all → IsMeaning p t all m

  fits_all : (s : Scope) (a : Answer Denotation) → ((all : List Kind) → Ends p t s all → Ok (IsMeaning p t all) a)
      → Ok (Fits s) a
  fits_all s a is = ok_all (Ends p t s) (λ all m. IsMeaning p t all m) a is

  module _ (s : Scope) (l : ℕ) (h : DeclHead) (n : Name) (making : Making) (is : IsScope t s)
      (are : (all : List Kind) → Ends p t s all → Each (IsValue p t all) (parts making))
      (ints : sizes_are_ints making ≡ true) where
    field_is : (c i : ℕ) (k : Kind) (this : Option ℕ) → MemberIs p t c (member.Field i k)
        → HasFirst h.is_reference k making → IsThis t s this (Some c)
        → Ok (Fits s) (declared_field t s l i h.is_reference k making this)
    field_is c i k None found form object = tt
    field_is c i k (Some this) found form object = fits_all s _ (λ all ends.
        declared_is all s l (spot.Field i)
        (one (typed.Variadic (variadic.Read (spot.Local this)) typed.no_exprs (place s l)))
        h.is_reference k making (
          (
            c,
            (
              One (elem.Class c),
              found_within s.locals all this _ ends.locals object.0,
              stands p.classes
                  (One (elem.Class c)),
            ),
            found.0,
          ),
          found.1,
        )
        form (are all ends) ints)

    member_is : (c : ℕ) (m : Option Member) → member_named t c n ≡ m → c < many t → IsThis t s (this_local t s) (Some c)
        → ((k : Kind) → HasGlobal t s n (Some c) k → HasFirst h.is_reference k making)
        → Ok (Fits s) (declared_member t s l h making m)
    member_is c None named within object forms = tt
    member_is c (Some (member.Field i k)) named within object forms = field_is c i k (this_local t s)
        (has.member c n (member.Field i k) within named) (forms k (i, named)) object
    member_is c (Some (member.Static i k)) named within object forms = λ all _. static_is all s l i h.is_reference k
        making (place s l) (has.member c n (member.Static i k) within named)
    member_is c (Some (member.Fun f slot)) named within object forms = tt
    member_is c (Some member.Auto) named within object forms = tt

    variable_is : (v : Option Variable) → variable_named t s.file n ≡ v
        → ((k : Kind) → HasGlobal t s n None k → HasFirst h.is_reference k making)
        → Ok (IsMeant p t s) (declared_variable t s l h making v)
    variable_is None named forms = tt
    variable_is (Some v) named forms =
        let form = forms v.kind (v, named, refl) in
        ok_then (Fits (reach s (v.index + 1))) (IsMeant p t s)
        (declared_at t s l (spot.Static v.index) typed.no_exprs h.is_reference v.kind making) _
        (fits_all (reach s (v.index + 1)) _ (λ all ends.
        declared_is all s l (spot.Static v.index) typed.no_exprs h.is_reference v.kind making
        (has.variable s.file n v named (formed h.is_reference v.kind making form)) form
        (are all (same_ends p t (reach s (v.index + 1)) s all refl refl ends)) ints))
        (λ m fits. (
          (
            reach_is t s (v.index + 1) is,
            reach_grows t s (v.index + 1),
            λ all leads ends. same_ends p t s
                (reach s (v.index + 1)) all refl refl ends,
          ),
          fits,
        ))

    global_is : (class : Option ℕ) → IsClass t class → IsThis t s (this_local t s) class
        → ((k : Kind) → HasGlobal t s n class k → HasFirst h.is_reference k making)
        → Ok (IsMeant p t s) (declared_global t s l h n making class)
    global_is None within object forms = variable_is (variable_named t s.file n) refl forms
    global_is (Some c) within object forms =
        ok_then (Fits s) (IsMeant p t s) (declared_member t s l h making (member_named t c n)) _
        (member_is c (member_named t c n) refl within object forms)
        (λ m fits. ((is, grows_refl s, λ all leads ends. ends), fits))

    new_local_is : (k : Kind) → ValueIn (many t) k → HasFirst h.is_reference k making
        → Ok (Fits (with_local s n k)) (declared_at t s l (spot.Local (length s.locals)) typed.no_exprs h.is_reference k
        making)
    new_local_is k value form = fits_all (with_local s n k) _ (λ all ends.
        declared_is all s l (spot.Local (length s.locals)) typed.no_exprs h.is_reference k making
        (new_local t s n k all (leads_of p t (with_local s n k) all ends), value) form
        (are all (ends_before p t s (with_local s n k) all (with_local_grows t s n k) ends)) ints)

  local_is : (s : Scope) (l : ℕ) (h : DeclHead) (x : Declr) (making : Making) (named : Named) (k : Option Kind)
      → NamedIn (many t) named → IsScope t s
      → ((all : List Kind) → Ends p t s all → Each (IsValue p t all) (parts making)) → Matches x making
      → written_kind h named x ≡ k
      → Ok (IsMeant p t s) (declared_local t s l h (declr_name x) making k)
  local_is s l h x making named None within is are so kind = tt
  local_is s l h x making named (Some k) within is are so kind =
      let n = declr_name x in
      let value = written_kind_in (many t) h named x k within kind in
      let form = first_of (many t) h named x k making within kind so in
      ok_if (IsMeant p t s) (not (sizes_are_ints making)) _ _ (λ _. tt) (λ ints.
      ok_then (Fits (with_local s n k)) (IsMeant p t s)
      (declared_at t s l (spot.Local (length s.locals)) typed.no_exprs h.is_reference k making) _
      (new_local_is s l h n making is are (not_false (sizes_are_ints making) ints) k value form) (λ m fits.
      ok_if (IsMeant p t s) (has_place h making) _ _
      (λ _. (
        (
          with_local_is t s n k is,
          with_local_grows t s n k,
          λ all leads ends. local_ends p t s n k all value leads
              ends,
        ),
        fits,
      )) (λ _. tt)))

  -- a global has the form of its declaration if its kind is what the declaration gives
  pub agreed_form : (s : Scope) (h : DeclHead) (x : Declr) (making : Making) (named : Named) → NamedIn (many t) named
      → Matches x making
      → (declares_globals s ≡ true → (k : Kind) → HasGlobal t s (declr_name x) s.class k
      → written_kind h named x ≡ Some k) → HasForm t s h (declr_name x) making
  agreed_form s h x making named within so agrees = λ global k found. first_of (many t) h named x k making within
      (agrees global k found) so

  -- a declaration with `auto` declares nothing yet
  auto_is : (s : Scope) (l : ℕ) (h : DeclHead) (x : Declr) → IsScope t s → Ok (IsMeant p t s) (auto_meaning s l h x)
  auto_is s l h x is =
      ok_if (IsMeant p t s) (not (declares_globals s) && is_declared s (declr_name x)) _ _ (λ _. tt)
      (λ _. ((is, grows_refl s, λ all leads ends. ends), λ all ends. tt))

  -- what a declaration stands for, where each global has the form of its declaration
  declared_as_is : (s : Scope) (l : ℕ) (h : DeclHead) (x : Declr) (making : Making) (named : Named)
      → NamedIn (many t) named → IsScope t s
      → ((all : List Kind) → Ends p t s all → Each (IsValue p t all) (parts making)) → Matches x making
      → HasForm t s h (declr_name x) making
      → Ok (IsMeant p t s) (declared_as t s l h x making named)
  declared_as_is s l h x making named within is are so forms =
      ok_if (IsMeant p t s) (declares_globals s) _ _
      (λ global. ok_if (IsMeant p t s) (sizes_are_ints making) _ _
      (λ ints. global_is s l h (declr_name x) making is are ints s.class is.class is.this (forms global)) (λ _. tt))
      (λ _. ok_if (IsMeant p t s) (is_unknown named) _ _ (λ _. tt) (λ _.
      ok_if (IsMeant p t s) (is_declared s (declr_name x)) _ _ (λ _. tt)
      (λ _. local_is s l h x making named (written_kind h named x) within is are so refl)))

  pub declared_with_is : (s : Scope) (l : ℕ) (h : DeclHead) (x : Declr) (making : Making) (base : Option Base)
      → IsScope t s
      → ((all : List Kind) → Ends p t s all → Each (IsValue p t all) (parts making)) → Matches x making
      → ((b : Base) → base ≡ Some b → HasForm t s h (declr_name x) making)
      → Ok (IsMeant p t s) (declared_with t s l h x making base)
  declared_with_is s l h x making None is are so forms = auto_is s l h x is
  declared_with_is s l h x making (Some b) is are so forms = declared_as_is s l h x making (named_by t s.file b)
      (named_in p t has s.file b) is are so (forms b refl)
