-- Objects that are made, by a constructor or by none, and `new`.
use Rattle.std.proofs.Common.{◌≡◌, ℕ, ◌<◌, Bool, true, false, ◌&&◌, if◌then◌else◌, List, [], ◌∷◌, Option, Some, None, refl, sym, ◌∙◌, subst, arith}
use Rattle.std.specs.Prelude.{slice_get}
use Rattle.ck_values.specs.declared.kind.Elem.{Elem}
use Rattle.ck_values.specs.declared.kind.Elem.TheVariants as elem
use Rattle.ck_values.specs.declared.kind.Kind.{Kind}
use Rattle.ck_values.specs.declared.kind.Kind.TheVariants.{One, Row, Grid}
use Rattle.ugen_names.specs.declared.table.UgenKind.TheVariants as ugen
use Rattle.ck_typed.specs.declared.operation.Leaf.TheVariants as leaf
use Rattle.ck_typed.specs.Tree as typed
use Rattle.ck_typed.specs.Tree.{Program, Fun}
use Rattle.type_table.specs.Answer.{Answer, gives, refused, and_then}
use Rattle.type_table.specs.declared.types.Named.{Named}
use Rattle.type_table.specs.declared.types.Named.TheVariants as named
use Rattle.type_table.specs.Table.{Table, fun_of, construct}
use Rattle.type_table.proofs.Ranges.{Each, ElemIn, many}
use Rattle.check_scope.specs.Expressions as e
use Rattle.check_scope.specs.Expressions.{fitted}
use Rattle.check_scope.specs.Denotations.{Typed}
use Rattle.check_scope.specs.Scope.{Scope, is_empty, place}
use Rattle.ck_typed.specs.Standing.{Stands}
use Rattle.ck_typed.specs.WellFormed.{FoundWhere, params_of, IsMade, HaveKinds, Constructs, ConstructsEach}
use Rattle.expr_laws.proofs.Oks.{both, ok_then, ok_if}
use Rattle.expr_laws.proofs.Premises.{Ok, MakerIs, Has, Valued, IsValue, IsMeaning}
use Rattle.expr_laws.proofs.Standing.{stands}
use Rattle.expr_laws.proofs.FineCalls.{found_follows, fitted_is}
use Rattle.expr_laws.proofs.FineForms.{elem_there}
use Rattle.expr_laws.proofs.FineTypes.{NamedIn, IsNameable}
use Rattle.expr_laws.proofs.FineValues.{int_valued}

-- a function takes an object of this kind, and such arguments
abbrev Takes : Program → Kind → (List Kind → Type 0) → Fun → Type 0
Takes p k P fn = (a : ℕ) × (ks : List Kind) × (params_of fn ≡ One (elem.Class a) ∷ ks)
    × Stands p.classes k (One (elem.Class a)) × P ks

-- what follows from the arguments of a constructor
constructs_more : (p : Program) (f : ℕ) (k : Kind) (P Q : List Kind → Type 0) → ((ks : List Kind) → P ks → Q ks)
    → Constructs p f k P → Constructs p f k Q
constructs_more p f k P Q follows is = found_follows (Takes p k P) (Takes p k Q) (slice_get p.funs f)
    (λ fn takes. (takes.0, takes.1, takes.2, takes.3, follows takes.1 takes.4)) is

no_items : {A : Type 0} (xs : List A) → is_empty xs ≡ true → xs ≡ []
no_items [] is = refl
no_items (x ∷ xs) is = absurd (cc)

module _ (p : Program) (t : Table) (has : Has p t) (all : List Kind) where
  -- objects -------------------------------------------------------------------------------------

  abbrev Object : Elem → typed.Expr → Type 0
  Object i o = Valued p t all o (One i)

  constructed_is : (s : Scope) (l c f : ℕ) (xs : List Typed) → c < many t → MakerIs p t c f → Each (IsValue p t all) xs
      → Ok (Object (elem.Class c)) (e.constructed s l (typed.New c (place s l)) f
      (fitted t.parents xs (fun_of t f).params))
  constructed_is s l c f xs lt maker are = go (fitted t.parents xs (fun_of t f).params) refl
    where
      go : (es : Option typed.Exprs) → fitted t.parents xs (fun_of t f).params ≡ es
          → Ok (Object (elem.Class c)) (e.constructed s l (typed.New c (place s l)) f es)
      go None is = tt
      go (Some es) is = (
        One (elem.Class c),
        (
          (elem_there p t has (elem.Class c) lt, refl),
          constructs_more p f (One (elem.Class c)) (λ ks. ks ≡ (fun_of t f).params) (HaveKinds p all es)
              (λ ks same. subst (HaveKinds p all es) (sym same)
              (fitted_is p t has all xs (fun_of t f).params es are (has.params f) is)) maker,
        ),
        stands p.classes (One (elem.Class c)),
      )

  made_by_is : (s : Scope) (l c : ℕ) (xs : List Typed) (f : Option ℕ) → construct t c ≡ f → c < many t
      → Each (IsValue p t all) xs
      → Ok (Object (elem.Class c)) (e.made_by t s l (typed.New c (place s l)) xs f)
  made_by_is s l c [] None is lt are = (
    One (elem.Class c),
    (elem_there p t has (elem.Class c) lt, refl),
    stands
        p.classes (One (elem.Class c)),
  )
  made_by_is s l c (x ∷ xs) None is lt are = tt
  made_by_is s l c xs (Some f) is lt are = constructed_is s l c f xs lt (has.maker c f lt is) are

  -- without a constructor
  alone_is : (s : Scope) (l : ℕ) (u : _) (xs : List Typed) → IsMade u
      → Ok (Object (elem.Unit u)) (e.made_by t s l (typed.Leaf (leaf.NewUgen u) (place s l)) xs None)
  alone_is s l u [] made = (One (elem.Unit u), (made, refl), stands p.classes (One (elem.Unit u)))
  alone_is s l u (x ∷ xs) made = tt

  pub object_made_is : (s : Scope) (l : ℕ) (i : Elem) (xs : List Typed) → ElemIn (many t) i → IsNameable i
      → Each (IsValue p t all) xs → Ok (Object i) (e.object_made t s l i xs)
  object_made_is s l (elem.Class c) xs within made are = made_by_is s l c xs (construct t c) refl within are
  object_made_is s l (elem.Unit ugen.UGen) xs within made are = tt
  object_made_is s l (elem.Unit u) xs within made are = alone_is s l u xs made
  object_made_is s l _ xs within made are = tt

  -- what makes the items of an array
  pub maker_is : (s : Scope) (l : ℕ) (i : Elem) → ElemIn (many t) i → Ok (ConstructsEach p i) (e.maker_of t s l i)
  maker_is s l (elem.Class c) within = go (construct t c) refl
    where
      go : (f : Option ℕ) → construct t c ≡ f → Ok (ConstructsEach p (elem.Class c)) (e.made_alone t s l f)
      go None is = tt
      go (Some f) is =
          ok_if (ConstructsEach p (elem.Class c)) (is_empty (fun_of t f).params) _ _
          (λ none. constructs_more p f (One (elem.Class c)) (λ ks. ks ≡ (fun_of t f).params) (λ ks. ks ≡ [])
          (λ ks same. same ∙ no_items (fun_of t f).params none) (has.maker c f within is))
          (λ some. tt)
  maker_is s l _ within = tt

  -- `new` ---------------------------------------------------------------------------------------

  new_object_is : (s : Scope) (l : ℕ) (i : Elem) (xs : List Typed) → ElemIn (many t) i → IsNameable i
      → Each (IsValue p t all) xs
      → Ok (IsMeaning p t all) (e.new_object t s l i xs)
  new_object_is s l i xs within nameable are =
      ok_then (Object i) (IsMeaning p t all) (e.object_made t s l i xs) _ (object_made_is s l i xs within nameable are)
      (λ o is. (is, within))

  new_array_is : (s : Scope) (l : ℕ) (i : Elem) (sizes : List Typed) → ElemIn (many t) i → IsNameable i
      → Each (IsValue p t all) sizes → Ok (IsMeaning p t all) (e.new_array t s l i sizes)
  new_array_is s l i [] within nameable are = new_object_is s l i [] within nameable tt
  new_array_is s l i (n ∷ []) within nameable are =
      ok_if (IsMeaning p t all) (e.is_new_item i && e.is_int n.kind) _ _
      (λ int. (
        (
          Row i,
          (
            elem_there p t has i within,
            int_valued p t has all n are.0
                (both (e.is_new_item i) (e.is_int n.kind) int).1,
            refl,
          ),
          refl,
        ),
        within,
      ))
      (λ other. tt)
  new_array_is s l i (n ∷ m ∷ []) within nameable are =
      ok_if (IsMeaning p t all) (e.is_new_item i && e.are_ints n m) _ _
      (λ int.
      let b = both (e.is_int n.kind) (e.is_int m.kind) (both (e.is_new_item i) (e.are_ints n m) int).1 in (
        (
          Grid i,
          (
            elem_there p t has i within,
            int_valued p t has all n are.0 b.0,
            int_valued p t has all m are.1.0 b.1,
            refl,
          ),
          refl,
        ),
        within,
      ))
      (λ other. tt)
  new_array_is s l i _ within nameable are = tt

  pub new_is : (s : Scope) (l : ℕ) (w : Named) (sizes : List Typed) → NamedIn (many t) w → Each (IsValue p t all) sizes
      → Ok (IsMeaning p t all) (e.new_meaning t s l w sizes)
  new_is s l named.Unknown sizes within are = tt
  new_is s l (named.Elem i) sizes within are = new_array_is s l i sizes within.0 within.1 are
  new_is s l _ sizes within are = tt

  pub new_with_is : (s : Scope) (l : ℕ) (w : Named) (xs : List Typed) → NamedIn (many t) w → Each (IsValue p t all) xs
      → Ok (IsMeaning p t all) (e.new_with_meaning t s l w xs)
  new_with_is s l named.Unknown xs within are = tt
  new_with_is s l (named.Elem i) xs within are = new_object_is s l i xs within.0 within.1 are
  new_with_is s l _ xs within are = tt
