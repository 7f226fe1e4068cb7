-- Operators on values: what is typed is well formed where its operands are.
use Rattle.std.proofs.Common.{◌≡◌, ℕ, pos, ◌≤ℤ◌, Bool, true, false, ◌&&◌, ◌||◌, if◌then◌else◌, List, Option, Some, None, refl, sym, subst, arith}
use Rattle.std.proofs.lemmas.Int.{ints}
use Rattle.ck_values.specs.declared.kind.Elem.{Elem}
use Rattle.ck_values.specs.declared.kind.Elem.TheVariants as elem
use Rattle.ck_values.specs.declared.kind.Kind.{Kind}
use Rattle.ck_values.specs.declared.kind.Kind.TheVariants.{Void, Null, One, Row, Grid}
use Rattle.ck_values.specs.declared.operator.Op1.{Op1}
use Rattle.ck_values.specs.declared.operator.Op1.TheVariants as op1
use Rattle.ck_values.specs.declared.operator.Op2.{Op2}
use Rattle.ck_values.specs.declared.operator.Op2.TheVariants.{EqRefRef, NeRefRef}
use Rattle.ck_syntax.specs.declared.operator.BinaryOp.{BinaryOp}
use Rattle.ck_syntax.specs.declared.operator.BinaryOp.TheVariants as binary_op
use Rattle.ck_syntax.specs.declared.operator.PostfixOp.{PostfixOp}
use Rattle.ck_syntax.specs.declared.operator.PostfixOp.TheVariants as postfix_op
use Rattle.ck_syntax.specs.declared.operator.PrefixOp.{PrefixOp}
use Rattle.ck_syntax.specs.declared.operator.PrefixOp.TheVariants as prefix_op
use Rattle.ck_syntax.specs.declared.operator.TimeUnit.{TimeUnit}
use Rattle.ck_syntax.specs.declared.operator.TimeUnit.TheVariants as unit
use Rattle.ck_typed.specs.declared.class.Class.{Class}
use Rattle.ck_typed.specs.declared.expr.Direction.TheVariants.{Up, Down}
use Rattle.ck_typed.specs.declared.expr.Spot.{Spot}
use Rattle.ck_typed.specs.declared.operation.Leaf.TheVariants as leaf
use Rattle.ck_typed.specs.declared.operation.Unary.TheVariants as unary
use Rattle.ck_typed.specs.Tree as typed
use Rattle.ck_typed.specs.Tree.{Program}
use Rattle.type_rules.specs.Fitting.{kind_fits}
use Rattle.type_rules.specs.Operators.{row_of, widens, widened, with_row, joined_values, are_references, are_alike, compared_references, compared_shreds, joined_others}
use Rattle.type_table.specs.Answer.{Answer, gives, refused, and_then}
use Rattle.type_table.proofs.Ranges.{ElemIn, KindIn, ValueIn, many}
use Rattle.type_table.specs.Table.{Table}
use Rattle.check_scope.specs.Expressions as e
use Rattle.check_scope.specs.Denotations.{Typed, typed_as, Denotation, value, at, callable, a_type, declared, an_auto, as_value}
use Rattle.ck_typed.specs.Standing.{given}
use Rattle.check_scope.specs.Scope.{Scope, place}
use Rattle.ck_typed.specs.Signatures.{binary}
use Rattle.ck_typed.specs.Standing.{IsReference, Stands}
use Rattle.ck_typed.specs.WellFormed.{FoundWhere, Supplies, Joins, HasKind, IsAt}
use Rattle.expr_laws.proofs.Oks.{both, ok_then, ok_if}
use Rattle.expr_laws.proofs.OperatorRows.{operands, row_is}
use Rattle.expr_laws.proofs.Premises.{Ok, Has, Valued, IsValue, IsMeaning}
use Rattle.expr_laws.proofs.Standing.{stands, taken}

-- kinds -----------------------------------------------------------------------------------------

pub int_is : (k : Kind) → e.is_int k ≡ true → k ≡ One elem.Int
int_is (One elem.Int) is = refl
int_is _ is = absurd (cc)

-- a value's kind is that of its expression
pub given_value : (n : ℕ) (k : Kind) → ValueIn n k → given k ≡ k
given_value n (One e) is = refl
given_value n (Row e) is = refl
given_value n (Grid e) is = refl
given_value n _ is = absurd is

pub value_in : (n : ℕ) (k : Kind) → ValueIn n k → KindIn n k
value_in n (One e) is = is
value_in n (Row e) is = is
value_in n (Grid e) is = is
value_in n _ is = absurd is

-- a type that is no class
pub elem_more : (n : ℕ) (e : Elem) → ElemIn 0 e → ElemIn n e
elem_more n (elem.Class c) is = absurd (omega (arith, is))
elem_more n _ is = tt

-- what stands for a reference is one
pub from_reference : (classes : List Class) (j k : Kind) → Stands classes j k → IsReference k → IsReference j
from_reference classes Null k stands is = tt
from_reference classes (One (elem.Class c)) k stands is = tt
from_reference classes (One (elem.Unit u)) k stands is = tt
from_reference classes (One a) (One b) stands is = subst (λ e. IsReference (One e)) (sym stands) is
from_reference classes (One a) k stands is = absurd (cc)
from_reference classes (Row e) k stands is = tt
from_reference classes (Grid e) k stands is = tt
from_reference classes Void k stands is = subst IsReference (sym stands) is

pub references_are : (k : Kind) → are_references k ≡ true → IsReference k
references_are Null is = tt
references_are (One (elem.Class c)) is = tt
references_are (One (elem.Unit u)) is = tt
references_are (Row e) is = tt
references_are (Grid e) is = tt
references_are _ is = absurd (cc)

pub given_reference : (k : Kind) → are_references k ≡ true → given k ≡ k
given_reference Void is = absurd (cc)
given_reference _ is = refl

-- an answer that is a fault in any case
pub ok_never : {A B : Type 0} (P : B → Type 0) (a : Answer A) (f : A → Answer B) → ((x : A) → Ok P (f x))
    → Ok P (and_then a f)
ok_never P (gives x) f never = never x
ok_never P (refused why) f never = tt

module _ (p : Program) (t : Table) (has : Has p t) (all : List Kind) where
  -- values ------------------------------------------------------------------------------------

  -- an int is an int
  pub int_valued : (x : Typed) → IsValue p t all x → e.is_int x.kind ≡ true → Valued p t all x.expr (One elem.Int)
  int_valued x is int = subst (λ k. Valued p t all x.expr (given k)) (int_is x.kind int) is.0

  pub kind_valued : (x : Typed) (k : Kind) → x.kind ≡ k → IsValue p t all x → Valued p t all x.expr (given k)
  kind_valued x k same is = subst (λ j. Valued p t all x.expr (given j)) same is.0

  -- what stands at a place, a declaration and a value are values
  pub as_value_is : (s : Scope) (l : ℕ) (m : Denotation) → IsMeaning p t all m → Ok (IsValue p t all) (as_value s l m)
  as_value_is s l (value x) is = is
  as_value_is s l (at spot address k) is = (
    (
      k,
      is.0,
      subst (λ j. Stands p.classes k j)
          (sym (given_value (many t) k is.1)) (stands p.classes k),
    ),
    value_in (many t) k is.1,
  )
  as_value_is s l (callable c) is = tt
  as_value_is s l (a_type b) is = tt
  as_value_is s l (an_auto n has_form) is = tt
  as_value_is s l (declared d) is = (
    subst (λ j. Valued p t all d.alone j) (sym (given_value (many t) d.kind is.0.1))
        is.1,
    value_in (many t) d.kind is.0.1,
  )

  -- operators of two operands -------------------------------------------------------------------

  joins_of : (left right : Kind → Type 0) (code : Op2) (a b g : Elem) → binary code ≡ operands a b g
      → Supplies p left (One a) → Supplies p right (One b) → Joins p code left right (One g)
  joins_of left right EqRefRef a b g is one other = absurd (cc)
  joins_of left right NeRefRef a b g is one other = absurd (cc)
  joins_of left right code a b g is one other =
      subst (λ r. FoundWhere r (λ kinds. Supplies p left (One kinds.left) × Supplies p right (One kinds.right)
      × (One g ≡ One kinds.result))) (sym is) (one, other, refl)

  -- an operand beside another one
  pub side : (x : Typed) (a b : Elem) → Valued p t all x.expr (One a)
      → Valued p t all (e.widened_if (widens a b) x) (One (widened a b))
  side x elem.Int elem.Float is = (One elem.Float, (is, refl), refl)
  side x elem.Int _ is = is
  side x _ b is = is

  values_join : (s : Scope) (l : ℕ) (x y : Typed) (a b : Elem) (o : BinaryOp) → Valued p t all x.expr (One a)
      → Valued p t all y.expr (One b)
      → Ok (IsMeaning p t all) (e.joined_meaning s l x y (joined_values o a b))
  values_join s l x y a b o left right = go (row_of o (widened a b) (widened b a)) refl
    where
      go : (r : Option (Op2 × Elem)) → row_of o (widened a b) (widened b a) ≡ r
          → Ok (IsMeaning p t all) (e.joined_meaning s l x y (with_row a b r))
      go None is = tt
      go (Some (code, g)) is =
          let r = row_is o (widened a b) (widened b a) code g is in (
            (
              One g,
              joins_of (HasKind p all (e.widened_if (widens a b) x)) (HasKind p all (e.widened_if (widens b a) y))
                  code (widened a b) (widened b a) g r.0 (side x a b left) (side y b a right),
              stands p.classes (One g),
            ),
            elem_more (many t) g r.1,
          )

  shreds_join : (s : Scope) (l : ℕ) (x y : Typed) (o : BinaryOp) → Valued p t all x.expr (One elem.Shred)
      → Valued p t all y.expr (One elem.Shred)
      → Ok (IsMeaning p t all) (e.joined_meaning s l x y (compared_shreds o))
  shreds_join s l x y binary_op.Equal left right = ((One elem.Int, (left, right, refl), refl), tt)
  shreds_join s l x y binary_op.NotEqual left right = ((One elem.Int, (left, right, refl), refl), tt)
  shreds_join s l x y _ left right = tt

  -- an operand that is a reference
  reference_side : (x : Typed) → IsValue p t all x → are_references x.kind ≡ true → (j : Kind) × HasKind p all x.expr j
      × IsReference j
  reference_side x is reference =
      let v = subst (λ k. Valued p t all x.expr k) (given_reference x.kind reference) is.0 in
      (v.0, v.1, from_reference p.classes v.0 x.kind v.2 (references_are x.kind reference))

  references_join : (s : Scope) (l : ℕ) (x y : Typed) (o : BinaryOp) → IsValue p t all x → IsValue p t all y
      → are_references x.kind ≡ true → are_references y.kind ≡ true
      → Ok (IsMeaning p t all) (e.joined_meaning s l x y (compared_references o))
  references_join s l x y binary_op.Equal left right one other =
      ((One elem.Int, (reference_side x left one, reference_side y right other, refl), refl), tt)
  references_join s l x y binary_op.NotEqual left right one other =
      ((One elem.Int, (reference_side x left one, reference_side y right other, refl), refl), tt)
  references_join s l x y _ left right one other = tt

  others_join : (s : Scope) (l : ℕ) (x y : Typed) (o : BinaryOp) (j k : Kind) → Valued p t all x.expr (given j)
      → Valued p t all y.expr (given k)
      → Ok (IsMeaning p t all) (e.joined_meaning s l x y (joined_others o j k))
  others_join s l x y o (One elem.Shred) (One elem.Shred) left right = shreds_join s l x y o left right
  others_join s l x y o (One a) (One b) left right = values_join s l x y a b o left right
  others_join s l x y o _ _ left right = tt

  -- an operator on two operands
  pub join_is : (s : Scope) (l : ℕ) (o : BinaryOp) (x y : Typed) → IsValue p t all x → IsValue p t all y
      → Ok (IsMeaning p t all) (e.join_meaning t.parents s l o x y)
  join_is s l o x y left right = go (are_alike t.parents x.kind y.kind) refl
    where
      go : (b : Bool) → are_alike t.parents x.kind y.kind ≡ b
          → Ok (IsMeaning p t all) (e.joined_meaning s l x y
          (if b then compared_references o else joined_others o x.kind y.kind))
      go true is =
          let u = both (are_references x.kind && are_references y.kind)
          (kind_fits t.parents x.kind y.kind || kind_fits t.parents y.kind x.kind) is in
          let w = both (are_references x.kind) (are_references y.kind) u.0 in
          references_join s l x y o left right w.0 w.1
      go false is = others_join s l x y o x.kind y.kind left.0 right.0

  append_is : (s : Scope) (l : ℕ) (a : Elem) (x y : Typed) → x.kind ≡ Row a → IsValue p t all x → IsValue p t all y
      → Ok (IsMeaning p t all) (e.append_meaning t.parents s l a x y)
  append_is s l a x y row left right =
      ok_if (IsMeaning p t all) (e.fits t.parents y (One a)) _ _
      (λ fit. (
        (
          x.kind,
          (a, kind_valued x (Row a) row left, taken p t has all y (One a) right fit, row),
          subst
              (λ k. Stands p.classes x.kind k) (sym (given_row x.kind a row)) (stands p.classes x.kind),
        ),
        left.1,
      ))
      (λ not. tt)
    where
      given_row : (k : Kind) (a : Elem) → k ≡ Row a → given k ≡ k
      given_row Void a is = absurd (cc)
      given_row _ a is = refl

  shift_is : (s : Scope) (l : ℕ) (x y : Typed) (k : Kind) → x.kind ≡ k → IsValue p t all x → IsValue p t all y
      → Ok (IsMeaning p t all) (e.shift_meaning t.parents s l x y k)
  shift_is s l x y (Row a) row left right = append_is s l a x y row left right
  shift_is s l x y _ kind left right = join_is s l binary_op.ShiftLeft x y left right

  -- a `null` beside a shred
  pub beside_is : (x : Typed) (k : Kind) → IsValue p t all x → IsValue p t all (e.beside x k)
  beside_is x k is = go (x.is_null && e.is_shred k)
    where
      go : (b : Bool) → IsValue p t all
          (if b then typed_as (typed.Leaf leaf.NoShred x.place) (One elem.Shred) x.place else x)
      go true = ((One elem.Shred, refl, refl), tt)
      go false = is

  ints_are : (x y : Typed) → IsValue p t all x → IsValue p t all y → e.are_ints x y ≡ true
      → Valued p t all x.expr (One elem.Int) × Valued p t all y.expr (One elem.Int)
  ints_are x y left right ints = let b = both (e.is_int x.kind) (e.is_int y.kind) ints in
      (int_valued x left b.0, int_valued y right b.1)

  pub binary_is : (s : Scope) (l : ℕ) (o : BinaryOp) (x y : Typed) → IsValue p t all x → IsValue p t all y
      → Ok (IsMeaning p t all) (e.binary_meaning t.parents s l o x y)
  binary_is s l binary_op.AndAlso x y left right = ok_if (IsMeaning p t all) (e.are_ints x y) _ _
      (λ ints. let i = ints_are x y left right ints in ((One elem.Int, (i.0, i.1, refl), refl), tt)) (λ not. tt)
  binary_is s l binary_op.OrElse x y left right = ok_if (IsMeaning p t all) (e.are_ints x y) _ _
      (λ ints. let i = ints_are x y left right ints in ((One elem.Int, (i.0, i.1, refl), refl), tt)) (λ not. tt)
  binary_is s l binary_op.ShiftLeft x y left right = shift_is s l x y x.kind refl left right
  binary_is s l o x y left right = join_is s l o (e.beside x y.kind) (e.beside y x.kind) (beside_is x y.kind left)
      (beside_is y x.kind right)

  -- operators of one operand --------------------------------------------------------------------

  negated_of : (s : Scope) (l : ℕ) (x : Typed) (o : Op1) (k : Elem) → x.kind ≡ One k
      → HasKind p all (typed.Unary (unary.Operator o) x.expr (place s l)) (One k) → ElemIn 0 k
      → Ok (IsMeaning p t all) (e.value_at s l (typed.Unary (unary.Operator o) x.expr (place s l)) x.kind)
  negated_of s l x o k same is plain =
      subst
      (λ j. IsValue p t all (typed_as (typed.Unary (unary.Operator o) x.expr (place s l)) j (place s l)))
      (sym same) ((One k, is, stands p.classes (One k)), elem_more (many t) k plain)

  negated_is : (s : Scope) (l : ℕ) (x : Typed) (k : Kind) → x.kind ≡ k → IsValue p t all x
      → Ok (IsMeaning p t all) (e.negated s l x k)
  negated_is s l x (One elem.Int) same is = negated_of s l x op1.NegInt elem.Int same
      (kind_valued x (One elem.Int) same is, refl) tt
  negated_is s l x (One elem.Float) same is = negated_of s l x op1.NegFloat elem.Float same
      (kind_valued x (One elem.Float) same is, refl) tt
  negated_is s l x (One elem.Dur) same is = negated_of s l x op1.NegDur elem.Dur same
      (kind_valued x (One elem.Dur) same is, refl) tt
  negated_is s l x _ same is = tt

  inverted_is : (s : Scope) (l : ℕ) (x : Typed) → IsValue p t all x → Ok (IsMeaning p t all) (e.inverted s l x)
  inverted_is s l x is = ok_if (IsMeaning p t all) (e.is_int x.kind) _ _
      (λ int. ((One elem.Int, (int_valued x is int, refl), refl), tt)) (λ not. tt)

  -- a step of what stands at a place
  stepped_is : (s : Scope) (l : ℕ) (m : Denotation) (step : Spot → typed.Exprs → typed.Expr)
      → ((spot : Spot) (address : typed.Exprs) → IsAt p all spot address (One elem.Int)
      → HasKind p all (step spot address) (One elem.Int))
      → IsMeaning p t all m → Ok (IsMeaning p t all) (e.stepped s l m step)
  stepped_is s l (at spot address (One elem.Int)) step steps is = ((One elem.Int, steps spot address is.0, refl), tt)
  stepped_is s l m step steps is = tt

  pub prefix_is : (s : Scope) (l k : ℕ) (o : PrefixOp) (m : Denotation) → IsMeaning p t all m
      → Ok (IsMeaning p t all) (e.prefix_meaning s l k o m)
  prefix_is s l k prefix_op.Negate m is = ok_then (IsValue p t all) (IsMeaning p t all) (as_value s k m)
      (λ x. e.negated s l x x.kind) (as_value_is s k m is) (λ x right. negated_is s l x x.kind refl right)
  prefix_is s l k prefix_op.Not m is = ok_then (IsValue p t all) (IsMeaning p t all) (as_value s k m)
      (λ x. e.inverted s l x) (as_value_is s k m is) (λ x right. inverted_is s l x right)
  prefix_is s l k prefix_op.Increment m is = stepped_is s l m (λ spot address. typed.Prefix Up spot address (place s l))
      (λ spot address right. (right, refl)) is
  prefix_is s l k prefix_op.Decrement m is = stepped_is s l m
      (λ spot address. typed.Prefix Down spot address (place s l)) (λ spot address right. (right, refl)) is

  pub postfix_is : (s : Scope) (l : ℕ) (o : PostfixOp) (m : Denotation) → IsMeaning p t all m
      → Ok (IsMeaning p t all) (e.postfix_meaning s l o m)
  postfix_is s l postfix_op.Increment m is = stepped_is s l m
      (λ spot address. typed.Postfix Up spot address (place s l)) (λ spot address right. (right, refl)) is
  postfix_is s l postfix_op.Decrement m is = stepped_is s l m
      (λ spot address. typed.Postfix Down spot address (place s l)) (λ spot address right. (right, refl)) is

  -- durs ----------------------------------------------------------------------------------------

  one_sample : (u : TimeUnit) → pos 1 ≤ℤ (e.samples_of u).denominator
  one_sample unit.Ms = grind (arith, ints)
  one_sample _ = grind (arith, ints)

  units_is : (s : Scope) (l : ℕ) (x : Typed) (u : TimeUnit) (k : Kind) → x.kind ≡ k → IsValue p t all x
      → Ok (IsMeaning p t all) (e.units_meaning s l x (e.samples_of u) k)
  units_is s l x u (One elem.Int) same is = (
    (
      One elem.Dur,
      (kind_valued x (One elem.Int) same is, one_sample u, refl),
      refl,
    ),
    tt,
  )
  units_is s l x u (One elem.Float) same is = (
    (
      One elem.Dur,
      (kind_valued x (One elem.Float) same is, one_sample u, refl),
      refl,
    ),
    tt,
  )
  units_is s l x u _ same is = tt

  times_is : (s : Scope) (l : ℕ) (x d : Typed) (j k : Kind) → x.kind ≡ j → d.kind ≡ k → IsValue p t all x
      → IsValue p t all d → Ok (IsMeaning p t all) (e.times_meaning s l x d j k)
  times_is s l x d (One elem.Int) (One elem.Dur) same dur left right =
      ((One elem.Dur, (kind_valued x (One elem.Int) same left, kind_valued d (One elem.Dur) dur right, refl), refl), tt)
  times_is s l x d (One elem.Float) (One elem.Dur) same dur left right =
      ((One elem.Dur, (kind_valued x (One elem.Float) same left, kind_valued d (One elem.Dur) dur right, refl), refl), tt)
  times_is s l x d _ _ same dur left right = tt

  pub dur_is : (s : Scope) (l : ℕ) (x d : Typed) (u : Option TimeUnit) → IsValue p t all x → IsValue p t all d
      → Ok (IsMeaning p t all) (e.dur_meaning s l x d u)
  dur_is s l x d (Some u) left right = units_is s l x u x.kind refl left
  dur_is s l x d None left right = times_is s l x d x.kind d.kind refl refl left right
