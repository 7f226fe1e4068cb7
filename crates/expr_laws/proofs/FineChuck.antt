-- The chuck operator: what is typed is well formed where its sides are.
use Rattle.std.proofs.Common.{◌≡◌, ◌⊎◌, inl, inr, ℕ, Bool, true, false, not, ◌&&◌, if◌then◌else◌, List, Option, Some, None, refl, sym, subst}
use Rattle.ck_values.specs.declared.kind.Elem.{Elem}
use Rattle.ck_values.specs.declared.kind.Elem.TheVariants as elem
use Rattle.ck_values.specs.declared.kind.Kind.{Kind}
use Rattle.ck_values.specs.declared.kind.Kind.TheVariants.{One}
use Rattle.ck_values.specs.declared.operator.Op2.{Op2}
use Rattle.ck_values.specs.declared.trap.Place.{Place}
use Rattle.ck_syntax.specs.declared.operator.BinaryOp.{BinaryOp}
use Rattle.ck_syntax.specs.declared.operator.BinaryOp.TheVariants as binary_op
use Rattle.ck_syntax.specs.declared.operator.ChuckOp.{ChuckOp}
use Rattle.ck_syntax.specs.declared.operator.ChuckOp.TheVariants as chuck_op
use Rattle.ck_typed.specs.declared.expr.Spot.{Spot}
use Rattle.ck_typed.specs.declared.operation.Unary.TheVariants as unary
use Rattle.ck_typed.specs.declared.operation.Variadic.TheVariants as variadic
use Rattle.ck_typed.specs.Tree as typed
use Rattle.ck_typed.specs.Tree.{Program}
use Rattle.type_rules.specs.Fitting.{is_below, kind_fits}
use Rattle.type_rules.specs.Operators.{row_of, widens, widened, with_row, are_references, are_alike, compared_references, compared_shreds, joined_others}
use Rattle.type_table.specs.Table.{Table}
use Rattle.type_table.proofs.Ranges.{ElemIn, KindIn, ValueIn, many}
use Rattle.check_scope.specs.Expressions as e
use Rattle.check_scope.specs.Denotations.{Typed, typed_as, Callee, Declaration, Denotation, value, at, callable, a_type, declared, an_auto, as_value}
use Rattle.ck_typed.specs.Standing.{given}
use Rattle.check_scope.specs.Scope.{Scope, place}
use Rattle.ck_typed.specs.Signatures.{binary}
use Rattle.ck_typed.specs.Standing.{Stands}
use Rattle.ck_typed.specs.WellFormed.{FoundWhere, Supplies, IsUgen, IsUgenKind, Updates, HasKind}
use Rattle.expr_laws.proofs.Oks.{both, ok_then, ok_if}
use Rattle.expr_laws.proofs.OperatorRows.{operands, row_is, is_updating, gives_no_int}
use Rattle.expr_laws.proofs.Premises.{Ok, Has, Valued, IsValue, IsPlace, IsCallee, IsDeclaration, IsMeaning}
use Rattle.expr_laws.proofs.Standing.{stands, gives_stands, Widens, kind_fit, taken}
use Rattle.expr_laws.proofs.FineTypes.{not_false}
use Rattle.expr_laws.proofs.FineValues.{given_value, value_in, elem_more, kind_valued, as_value_is, side}

same_one : (a b : Elem) → One a ≡ One b → a ≡ b
same_one a b is = cc

-- an operand that isn't widened
kept : (a b : Elem) → not (widens a b) ≡ true → widened a b ≡ a
kept a b is = go (widens a b) is
  where
    go : (c : Bool) → not c ≡ true → (if c then elem.Float else a) ≡ a
    go true is = absurd (cc)
    go false is = refl

-- no updating operator compares
no_references : (o : BinaryOp) → is_updating o ≡ true → compared_references o ≡ None
no_references binary_op.Equal is = absurd (cc)
no_references binary_op.NotEqual is = absurd (cc)
no_references _ is = refl

no_shreds : (o : BinaryOp) → is_updating o ≡ true → compared_shreds o ≡ None
no_shreds binary_op.Equal is = absurd (cc)
no_shreds binary_op.NotEqual is = absurd (cc)
no_shreds _ is = refl

module _ (p : Program) (t : Table) (has : Has p t) (all : List Kind) where
  -- what an expression of this kind gives
  pub value_is : (x : typed.Expr) (k : Kind) (q : Place) → HasKind p all x k → ValueIn (many t) k
      → IsValue p t all (typed_as x k q)
  value_is x k q is within = (
    (
      k,
      is,
      subst (Stands p.classes k) (sym (given_value (many t) k within))
          (stands p.classes k),
    ),
    value_in (many t) k within,
  )

  -- `now` -------------------------------------------------------------------------------------

  wait_is : (s : Scope) (l : ℕ) (x : Typed) (k : Kind) → x.kind ≡ k → IsValue p t all x
      → Ok (IsMeaning p t all) (e.wait_meaning t.parents s l x k)
  wait_is s l x (One elem.Dur) same is =
      value_is (typed.Unary unary.WaitDur x.expr (place s l)) (One elem.Time) (place s l)
      (kind_valued p t has all x (One elem.Dur) same is, refl) tt
  wait_is s l x (One elem.Time) same is =
      value_is (typed.Unary unary.WaitTime x.expr (place s l)) (One elem.Time) (place s l)
      (kind_valued p t has all x (One elem.Time) same is, refl) tt
  wait_is s l x (One (elem.Class c)) same is =
      ok_if (IsMeaning p t all) (is_below t.parents c 1) _ _
      (λ below. value_is (typed.Unary unary.WaitEvent x.expr (place s l)) (One elem.Time) (place s l) (
        gives_stands p (HasKind p all x.expr) (One (elem.Class c)) (One (elem.Class 1))
            (kind_valued p t has all x (One (elem.Class c)) same is)
            (has.below c 1 (subst (KindIn (many t)) same is.1) below),
        refl,
      ) tt)
      (λ _. tt)
  wait_is s l x _ same is = tt

  later_is : (s : Scope) (l : ℕ) (x : Typed) (k : Kind) → x.kind ≡ k → IsValue p t all x
      → Ok (IsMeaning p t all) (e.later_meaning s l x k)
  later_is s l x (One elem.Dur) same is =
      value_is (typed.Unary unary.WaitDur x.expr (place s l)) (One elem.Time) (place s l)
      (kind_valued p t has all x (One elem.Dur) same is, refl) tt
  later_is s l x _ same is = tt

  -- what is chucked to `now`
  pub now_meaning_is : (s : Scope) (l : ℕ) (o : ChuckOp) (x : Typed) → IsValue p t all x
      → Ok (IsMeaning p t all) (e.now_meaning t.parents s l o x)
  now_meaning_is s l chuck_op.Chuck x is = wait_is s l x x.kind refl is
  now_meaning_is s l chuck_op.Add x is = later_is s l x x.kind refl is
  now_meaning_is s l chuck_op.Unchuck x is = tt
  now_meaning_is s l _ x is = tt

  -- connections -------------------------------------------------------------------------------

  pub ugen_is : (x : Typed) (k : Kind) → x.kind ≡ k → e.is_ugen k ≡ true → IsValue p t all x
      → IsUgen p (HasKind p all x.expr)
  ugen_is x (One (elem.Unit u)) same ugen is = (u, kind_valued p t has all x (One (elem.Unit u)) same is)
  ugen_is x _ same ugen is = absurd (cc)

  ugen_kind : (j k : Kind) → e.is_ugen k ≡ true → Stands p.classes j (given k) → IsUgenKind p j
  ugen_kind j (One (elem.Unit u)) ugen is = (u, is)
  ugen_kind j _ ugen is = absurd (cc)

  connected_is : (s : Scope) (l : ℕ) (x y : Typed) → e.is_ugen x.kind ≡ true → e.is_ugen y.kind ≡ true
      → IsValue p t all x → IsValue p t all y → Ok (IsMeaning p t all) (e.connected s l x y)
  connected_is s l x y first second is so = (
    (
      so.0.0,
      (ugen_is x x.kind refl first is, ugen_kind so.0.0 y.kind second so.0.2, so.0.1),
      so.0.2,
    ),
    so.1,
  )

  disconnected_is : (s : Scope) (l : ℕ) (x y : Typed) → IsValue p t all x → IsValue p t all y
      → Ok (IsMeaning p t all) (e.disconnected s l x y)
  disconnected_is s l x y is so =
      ok_if (IsMeaning p t all) (e.is_ugen x.kind && e.is_ugen y.kind) _ _
      (λ ugens.
      let two = both (e.is_ugen x.kind) (e.is_ugen y.kind) ugens in
      ((so.0.0, (ugen_is x x.kind refl two.0 is, ugen_kind so.0.0 y.kind two.1 so.0.2, so.0.1), so.0.2), so.1))
      (λ _. tt)

  -- assignments -------------------------------------------------------------------------------

  pub taken_value : (x : Typed) (k : Kind) → ValueIn (many t) k → IsValue p t all x → e.fits t.parents x k ≡ true
      → Valued p t all (e.taken_as x k) k
  taken_value x k within is fit = subst (Valued p t all (e.taken_as x k)) (given_value (many t) k within)
      (taken p t has all x k is fit)

  assigned_is : (s : Scope) (l : ℕ) (x : Typed) (spot : Spot) (address : typed.Exprs) (k : Kind) → IsValue p t all x
      → IsPlace p t all spot address k
      → Ok (IsMeaning p t all) (e.assigned t.parents s l x spot address k)
  assigned_is s l x spot address k is so =
      ok_if (IsMeaning p t all) (e.fits t.parents x k) _ _
      (λ fit. value_is (typed.Assign (e.taken_as x k) spot address (place s l)) k (place s l)
      (so.0, taken_value x k so.1 is fit) so.1)
      (λ _. tt)

  declared_assigned_is : (s : Scope) (l : ℕ) (x : Typed) (d : Declaration) → IsValue p t all x → IsDeclaration p t all d
      → Ok (IsMeaning p t all) (e.declared_assigned t.parents s l x d)
  declared_assigned_is s l x d is so =
      ok_if (IsMeaning p t all) (not (e.fits t.parents x d.kind)) _ _ (λ _. tt) (λ misfit.
      let value = taken_value x d.kind so.0.1 is (not_false (e.fits t.parents x d.kind) misfit) in
      ok_if (IsMeaning p t all) d.makes _ _
      (λ _. value_is (typed.AssignDeclared (e.taken_as x d.kind) d.alone d.spot d.address (place s l)) d.kind
      (place s l) (so.0.0, value, (so.1.0, so.1.1)) so.0.1)
      (λ _. value_is (typed.Assign (e.taken_as x d.kind) d.spot d.address (place s l)) d.kind (place s l)
      (so.0.0, value) so.0.1))

  -- `=>` --------------------------------------------------------------------------------------

  place_is : (s : Scope) (l k : ℕ) (x : Typed) (m : Denotation) → IsValue p t all x → IsMeaning p t all m
      → Ok (IsMeaning p t all) (e.chuck_place t.parents s l k x m)
  place_is s l k x (at spot address to) is so =
      ok_if (IsMeaning p t all) (e.is_ugen x.kind && e.is_ugen to) _ _
      (λ ugens.
      let two = both (e.is_ugen x.kind) (e.is_ugen to) ugens in
      connected_is s l x (typed_as (typed.Variadic (variadic.Read spot) address (place s k)) to (place s k))
      two.0 two.1 is (as_value_is p t has all s k (at spot address to) so))
      (λ _. ok_if (IsMeaning p t all) (are_references to) _ _ (λ _. tt) (λ _. assigned_is s l x spot address to is so))
  place_is s l k x (declared d) is so =
      ok_if (IsMeaning p t all) (e.is_ugen x.kind && e.is_ugen d.kind) _ _
      (λ ugens.
      let two = both (e.is_ugen x.kind) (e.is_ugen d.kind) ugens in
      connected_is s l x (typed_as d.alone d.kind (place s k)) two.0 two.1 is
      (as_value_is p t has all s k (declared d) so))
      (λ _. ok_if (IsMeaning p t all) (are_references d.kind) _ _ (λ _. tt) (λ _. declared_assigned_is s l x d is so))
  place_is s l k x (value y) is so =
      ok_if (IsMeaning p t all) (e.is_ugen x.kind && e.is_ugen y.kind) _ _
      (λ ugens.
      let two = both (e.is_ugen x.kind) (e.is_ugen y.kind) ugens in
      connected_is s l x y two.0 two.1 is so)
      (λ _. tt)
  place_is s l k x _ is so = tt

  -- `@=>` -------------------------------------------------------------------------------------

  assign_is : (s : Scope) (l : ℕ) (x : Typed) (m : Denotation) → IsValue p t all x → IsMeaning p t all m
      → Ok (IsMeaning p t all) (e.assign_to t.parents s l x m)
  assign_is s l x (at spot address k) is so = assigned_is s l x spot address k is so
  assign_is s l x (declared d) is so = declared_assigned_is s l x d is so
  assign_is s l x _ is so = tt

  -- `op=>` ------------------------------------------------------------------------------------

  -- a row's code takes what stands at the place and the other value, and gives what may stand there
  updates_of : (has_right : Kind → Type 0) (code : Op2) (a b g : Elem) (k : Kind) → binary code ≡ operands a b g
      → Stands p.classes k (One a) → Supplies p has_right (One b) → Stands p.classes (One g) k
      → Updates p code has_right k
  updates_of has_right code a b g k is left right result =
      subst (λ r. FoundWhere r (λ kinds. Stands p.classes k (One kinds.left) × Supplies p has_right (One kinds.right)
      × Stands p.classes (One kinds.result) k)) (sym is) (left, right, result)

  -- what a row gives stands for what it is put into: of a float none gives an int
  result_stands : (o : BinaryOp) (a b : Elem) (code : Op2) (g : Elem) → is_updating o ≡ true
      → row_of o a b ≡ Some (code, g) → ElemIn 0 g
      → kind_fits t.parents (One g) (One a) ≡ true → Stands p.classes (One g) (One a)
  result_stands o a b code g updating row within fit = go
      (kind_fit p t has (One g) (One a) (elem_more (many t) g within) fit)
    where
      go : Widens (One g) (One a) ⊎ Stands p.classes (One g) (One a) → Stands p.classes (One g) (One a)
      go (inl widened) = absurd (gives_no_int o b code g updating
          (subst (λ c. row_of o c b ≡ Some (code, g)) (same_one a elem.Float widened.1) row)
          (same_one g elem.Int widened.0))
      go (inr so) = so

  row_update : (s : Scope) (l : ℕ) (x : Typed) (spot : Spot) (address : typed.Exprs) (a b : Elem) (o : BinaryOp)
      (r : Option (Op2 × Elem)) → is_updating o ≡ true
      → Valued p t all x.expr (One b) → IsPlace p t all spot address (One a) → row_of o (widened a b) (widened b a) ≡ r
      → Ok (IsMeaning p t all) (e.updated_by t.parents s l x spot address (One a) (with_row a b r))
  row_update s l x spot address a b o None updating is so row = tt
  row_update s l x spot address a b o (Some (code, g)) updating is so row =
      ok_if (IsMeaning p t all) (kind_fits t.parents (One g) (One a) && not (widens a b)) _ _
      (λ fit.
      let two = both (kind_fits t.parents (One g) (One a)) (not (widens a b)) fit in
      let same : row_of o a (widened b a) ≡ Some (code, g) = subst (λ c. row_of o c (widened b a) ≡ Some (code, g))
      (kept a b two.1) row in
      let found = row_is o a (widened b a) code g same in
      value_is (typed.Update code (e.widened_if (widens b a) x) spot address (place s l)) (One a) (place s l) (
        so.0,
        updates_of (HasKind p all (e.widened_if (widens b a) x)) code a (widened b a) g (One a) found.0
            (stands p.classes (One a)) (side p t has all x b a is)
            (result_stands o a (widened b a) code g updating same found.1 two.0),
      )
      so.1)
      (λ _. tt)

  others_update : (s : Scope) (l : ℕ) (x : Typed) (spot : Spot) (address : typed.Exprs) (k j : Kind) (o : BinaryOp)
      → is_updating o ≡ true
      → Valued p t all x.expr (given j) → IsPlace p t all spot address k
      → Ok (IsMeaning p t all) (e.updated_by t.parents s l x spot address k (joined_others o k j))
  others_update s l x spot address (One elem.Shred) (One elem.Shred) o updating is so =
      subst (λ r. Ok (IsMeaning p t all) (e.updated_by t.parents s l x spot address (One elem.Shred) r))
      (sym (no_shreds o updating)) tt
  others_update s l x spot address (One a) (One b) o updating is so = row_update s l x spot address a b o
      (row_of o (widened a b) (widened b a)) updating is so refl
  others_update s l x spot address (One a) _ o updating is so = tt
  others_update s l x spot address _ j o updating is so = tt

  joined_update : (s : Scope) (l : ℕ) (x : Typed) (spot : Spot) (address : typed.Exprs) (k : Kind) (o : BinaryOp)
      (alike : Bool) → is_updating o ≡ true
      → IsValue p t all x → IsPlace p t all spot address k
      → Ok (IsMeaning p t all) (e.updated_by t.parents s l x spot address k
      (if alike then compared_references o else joined_others o k x.kind))
  joined_update s l x spot address k o true updating is so = subst
      (λ r. Ok (IsMeaning p t all) (e.updated_by t.parents s l x spot address k r)) (sym (no_references o updating)) tt
  joined_update s l x spot address k o false updating is so = others_update s l x spot address k x.kind o updating is.0
      so

  update_is : (s : Scope) (l : ℕ) (o : BinaryOp) (x : Typed) (m : Denotation) → is_updating o ≡ true → IsValue p t all x
      → IsMeaning p t all m
      → Ok (IsMeaning p t all) (e.update_to t.parents s l o x m)
  update_is s l o x (at spot address k) updating is so = joined_update s l x spot address k o
      (are_alike t.parents k x.kind) updating is so
  update_is s l o x _ updating is so = tt

  module _ (callee_is : (s : Scope) (l : ℕ) (x : Typed) (c : Callee) → IsValue p t all x → IsCallee p t all c
      → Ok (IsMeaning p t all) (e.chuck_callee t s l x c)) where
    to_is : (s : Scope) (l k : ℕ) (x : Typed) (m : Denotation) → IsValue p t all x → IsMeaning p t all m
        → Ok (IsMeaning p t all) (e.chuck_to t s l k x m)
    to_is s l k x (callable c) is so = callee_is s l x c is so
    to_is s l k x (value y) is so = place_is s l k x (value y) is so
    to_is s l k x (at spot address to) is so = place_is s l k x (at spot address to) is so
    to_is s l k x (a_type b) is so = tt
    to_is s l k x (declared d) is so = place_is s l k x (declared d) is so
    to_is s l k x (an_auto n has_form) is so = tt

    -- what is chucked to anything else
    pub chuck_meaning_is : (s : Scope) (l k : ℕ) (o : ChuckOp) (x : Typed) (m : Denotation) → IsValue p t all x
        → IsMeaning p t all m → Ok (IsMeaning p t all) (e.chuck_meaning t s l k o x m)
    chuck_meaning_is s l k chuck_op.Chuck x m is so = to_is s l k x m is so
    chuck_meaning_is s l k chuck_op.Assign x m is so = assign_is s l x m is so
    chuck_meaning_is s l k chuck_op.Unchuck x m is so =
        ok_then (IsValue p t all) (IsMeaning p t all) (as_value s k m) _ (as_value_is p t has all s k m so)
        (λ y other. disconnected_is s l x y is other)
    chuck_meaning_is s l k chuck_op.Add x m is so = update_is s l binary_op.Add x m refl is so
    chuck_meaning_is s l k chuck_op.Sub x m is so = update_is s l binary_op.Sub x m refl is so
    chuck_meaning_is s l k chuck_op.Mul x m is so = update_is s l binary_op.Mul x m refl is so
    chuck_meaning_is s l k chuck_op.Div x m is so = update_is s l binary_op.Div x m refl is so
    chuck_meaning_is s l k chuck_op.Mod x m is so = update_is s l binary_op.Mod x m refl is so
    chuck_meaning_is s l k chuck_op.And x m is so = update_is s l binary_op.And x m refl is so
    chuck_meaning_is s l k chuck_op.Or x m is so = update_is s l binary_op.Or x m refl is so
    chuck_meaning_is s l k chuck_op.Xor x m is so = update_is s l binary_op.Xor x m refl is so
