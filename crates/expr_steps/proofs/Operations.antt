-- What literals, operators, arrays, `new` and calls stand for makes no more steps than their
-- operands and a few.
use Rattle.std.proofs.Common.{ℕ, ◌+◌, ◌≤◌, ◌&&◌, not, if◌then◌else◌, List, [], ◌∷◌, length, map, Option, Some, None}
use Rattle.std.proofs.Common.{arith}
use Rattle.std.specs.List.{list_all}
use Rattle.std.specs.Prelude.{IfSome}
use Rattle.ck_values.specs.declared.kind.Elem.{Elem}
use Rattle.ck_values.specs.declared.kind.Elem.TheVariants as elem
use Rattle.ck_values.specs.declared.kind.Kind.{Kind}
use Rattle.ck_values.specs.declared.kind.Kind.TheVariants.{One, Row, Grid}
use Rattle.ck_values.specs.declared.trap.Place.{Place}
use Rattle.ugen_names.specs.declared.table.UgenKind.TheVariants.{UGen}
use Rattle.ck_syntax.specs.declared.operator.BinaryOp.{BinaryOp}
use Rattle.ck_syntax.specs.declared.operator.BinaryOp.TheVariants as binary_op
use Rattle.ck_syntax.specs.declared.operator.Constant.{Constant}
use Rattle.ck_syntax.specs.declared.operator.Constant.TheVariants as constant
use Rattle.ck_syntax.specs.declared.operator.PostfixOp.{PostfixOp}
use Rattle.ck_syntax.specs.declared.operator.PostfixOp.TheVariants as postfix_op
use Rattle.ck_syntax.specs.declared.operator.PrefixOp.{PrefixOp}
use Rattle.ck_syntax.specs.declared.operator.PrefixOp.TheVariants as prefix_op
use Rattle.ck_syntax.specs.declared.operator.TimeUnit.{TimeUnit}
use Rattle.ck_typed.specs.declared.expr.Direction.TheVariants.{Up, Down}
use Rattle.ck_typed.specs.declared.expr.Spot.{Spot}
use Rattle.ck_typed.specs.declared.native.Native.{Native}
use Rattle.ck_typed.specs.declared.operation.Leaf.TheVariants as leaf
use Rattle.ck_typed.specs.Tree as typed
use Rattle.type_rules.specs.Calls.{Signature, call_of}
use Rattle.type_rules.specs.Fitting.{chosen}
use Rattle.type_rules.specs.Operators.{are_references, joined}
use Rattle.type_rules.specs.Parameters.{Settable}
use Rattle.type_rules.specs.declared.operators.Joined.{Joined}
use Rattle.type_table.specs.declared.types.Named.{Named}
use Rattle.type_table.specs.declared.types.Named.TheVariants as named
use Rattle.type_table.specs.Table.{Table, fun_of, construct}
use Rattle.type_table.specs.Types.{is_unknown, is_plain, value_kind}
use Rattle.check_scope.specs.Denotations.{Typed, Callee, numbered, through, method, native, native_on, param, yields}
use Rattle.check_scope.specs.Denotations.{exits, Denotation, at, callable, as_value}
use Rattle.check_scope.specs.Operations as e
use Rattle.check_scope.specs.Scope.{Scope, place, this_local}
use Rattle.expr_laws.proofs.Oks.{ok_then, ok_map}
use Rattle.expr_laws.proofs.Premises.{Ok}
use Rattle.expr_steps.proofs.Costs.{receiver_most, cost, total, Costs, costs_if, then_any, value_costs, taken_most}
use Rattle.expr_steps.proofs.Costs.{widened_most, beside_most, taken_total, fitted_total}
use Rattle.expr_steps.proofs.Most.{bodies_most, most, all_most}

-- objects -----------------------------------------------------------------------------------------

-- the steps of an object that is made, beside those of its arguments
abbrev pub object_most : ℕ
object_most = bodies_most + 4

constructed_most : (s : Scope) (l : ℕ) (o : typed.Expr) (f : ℕ) (xs : List Typed) (es : Option typed.Exprs)
    → IfSome es (λ es. all_most es ≤ total xs)
    → Ok (λ (x : typed.Expr). most x ≤ most o + total xs + 3) (e.constructed s l o f es)
constructed_most s l o f xs None are = tt
constructed_most s l o f xs (Some es) are = omega (arith, are)

made_by_most : (t : Table) (s : Scope) (l : ℕ) (o : typed.Expr) (xs : List Typed) (c : Option ℕ)
    → Ok (λ (x : typed.Expr). most x ≤ most o + total xs + 3) (e.made_by t s l o xs c)
made_by_most t s l o [] None = omega arith
made_by_most t s l o (x ∷ xs) None = tt
made_by_most t s l o xs (Some f) =
    constructed_most s l o f xs (e.fitted t.parents xs (fun_of t f).params)
    (fitted_total t.parents xs (fun_of t f).params)

pub object_made_most : (t : Table) (s : Scope) (l : ℕ) (i : Elem) (xs : List Typed)
    → Ok (λ (x : typed.Expr). most x ≤ total xs + object_most) (e.object_made t s l i xs)
object_made_most t s l (elem.Class c) xs =
    ok_map (λ (x : typed.Expr). most x ≤ most (typed.New c (place s l)) + total xs + 3)
    (λ (x : typed.Expr). most x ≤ total xs + object_most)
    (e.made_by t s l (typed.New c (place s l)) xs (construct t c)) (λ x few. omega (arith, few))
    (made_by_most t s l (typed.New c (place s l)) xs (construct t c))
object_made_most t s l (elem.Unit UGen) xs = tt
object_made_most t s l (elem.Unit k) xs =
    ok_map (λ (x : typed.Expr). most x ≤ 2 + total xs + 3) (λ (x : typed.Expr). most x ≤ total xs + object_most)
    (e.made_by t s l (typed.Leaf (leaf.NewUgen k) (place s l)) xs None) (λ x few. omega (arith, few))
    (made_by_most t s l (typed.Leaf (leaf.NewUgen k) (place s l)) xs None)
object_made_most t s l _ xs = tt

module _ (n : ℕ) (s : Scope) (l : ℕ) where
  -- words -----------------------------------------------------------------------------------------

  this_costs : (p : Place) (this : Option ℕ) → 4 ≤ n → Costs n (e.this_value s p l this)
  this_costs p None few = tt
  this_costs p (Some i) few = omega arith

  pub word_costs : (t : Table) (c : Constant) → 4 ≤ n → Costs n (e.word_meaning t s l c)
  word_costs t constant.This few = this_costs (place s l) (this_local t s) few
  word_costs t _ few = omega arith

  -- operators -------------------------------------------------------------------------------------

  joined_costs : (a b : Typed) (j : Option Joined) → most a.expr + most b.expr + 8 ≤ n
      → Costs n (e.joined_meaning s l a b j)
  joined_costs a b None few = tt
  joined_costs a b (Some j) few = omega (arith, widened_most j.widens_left a, widened_most j.widens_right b)

  join_costs : (parents : List ℕ) (o : BinaryOp) (a b : Typed)
      → most a.expr + most b.expr + 8 ≤ n → Costs n (e.join_meaning parents s l o a b)
  join_costs parents o a b few = joined_costs a b (joined parents o a.kind b.kind) few

  append_costs : (parents : List ℕ) (i : Elem) (a v : Typed) → most a.expr + most v.expr + 8 ≤ n
      → Costs n (e.append_meaning parents s l i a v)
  append_costs parents i a v few = costs_if n (e.fits parents v (One i)) _ _ (omega (arith, taken_most v (One i))) tt

  shift_costs : (parents : List ℕ) (a b : Typed) (k : Kind) → most a.expr + most b.expr + 8 ≤ n
      → Costs n (e.shift_meaning parents s l a b k)
  shift_costs parents a b (Row i) few = append_costs parents i a b few
  shift_costs parents a b _ few = join_costs parents binary_op.ShiftLeft a b few

  pub binary_costs : (parents : List ℕ) (o : BinaryOp) (a b : Typed)
      → most a.expr + most b.expr + 12 ≤ n → Costs n (e.binary_meaning parents s l o a b)
  binary_costs parents binary_op.AndAlso a b few = costs_if n (e.are_ints a b) _ _ (omega arith) tt
  binary_costs parents binary_op.OrElse a b few = costs_if n (e.are_ints a b) _ _ (omega arith) tt
  binary_costs parents binary_op.ShiftLeft a b few = shift_costs parents a b a.kind (omega arith)
  binary_costs parents o a b few = join_costs parents o (e.beside a b.kind) (e.beside b a.kind)
      (omega (arith, beside_most a b.kind, beside_most b a.kind))

  negated_costs : (x : Typed) (k : Kind) → most x.expr + 4 ≤ n → Costs n (e.negated s l x k)
  negated_costs x (One elem.Int) few = omega arith
  negated_costs x (One elem.Float) few = omega arith
  negated_costs x (One elem.Dur) few = omega arith
  negated_costs x _ few = tt

  inverted_costs : (x : Typed) → most x.expr + 4 ≤ n → Costs n (e.inverted s l x)
  inverted_costs x few = costs_if n (e.is_int x.kind) _ _ (omega arith) tt

  stepped_costs : (x : Denotation) (step : Spot → typed.Exprs → typed.Expr)
      → ((spot : Spot) (address : typed.Exprs) → most (step spot address) ≤ all_most address + 5)
      → cost x + 4 ≤ n → Costs n (e.stepped s l x step)
  stepped_costs (at spot address (One elem.Int)) step steps few = omega (arith, steps spot address)
  stepped_costs _ step steps few = tt

  pub prefix_costs : (k : ℕ) (o : PrefixOp) (x : Denotation) → cost x + 4 ≤ n → Costs n (e.prefix_meaning s l k o x)
  prefix_costs k prefix_op.Negate x few =
      ok_then (λ (y : Typed). most y.expr + 2 ≤ cost x) (λ (z : Denotation). cost z ≤ n)
      (as_value s k x) _ (value_costs s k x) (λ y small. negated_costs y y.kind (omega arith))
  prefix_costs k prefix_op.Not x few =
      ok_then (λ (y : Typed). most y.expr + 2 ≤ cost x) (λ (z : Denotation). cost z ≤ n)
      (as_value s k x) _ (value_costs s k x) (λ y small. inverted_costs y (omega arith))
  prefix_costs k prefix_op.Increment x few = stepped_costs x (λ spot address. typed.Prefix Up spot address (place s l))
      (λ spot address. omega arith) few
  prefix_costs k prefix_op.Decrement x few =
      stepped_costs x (λ spot address. typed.Prefix Down spot address (place s l)) (λ spot address. omega arith) few

  pub postfix_costs : (o : PostfixOp) (x : Denotation) → cost x + 4 ≤ n → Costs n (e.postfix_meaning s l o x)
  postfix_costs postfix_op.Increment x few =
      stepped_costs x (λ spot address. typed.Postfix Up spot address (place s l)) (λ spot address. omega arith) few
  postfix_costs postfix_op.Decrement x few =
      stepped_costs x (λ spot address. typed.Postfix Down spot address (place s l)) (λ spot address. omega arith) few

  -- durs ------------------------------------------------------------------------------------------

  units_costs : (x : Typed) (u : e.Samples) (k : Kind) → most x.expr + 4 ≤ n → Costs n (e.units_meaning s l x u k)
  units_costs x u (One elem.Int) few = omega arith
  units_costs x u (One elem.Float) few = omega arith
  units_costs x u _ few = tt

  times_costs : (x d : Typed) (j k : Kind) → most x.expr + most d.expr + 4 ≤ n → Costs n (e.times_meaning s l x d j k)
  times_costs x d (One elem.Int) (One elem.Dur) few = omega arith
  times_costs x d (One elem.Float) (One elem.Dur) few = omega arith
  times_costs x d _ _ few = tt

  pub dur_costs : (x d : Typed) (u : Option TimeUnit) → most x.expr + most d.expr + 4 ≤ n
      → Costs n (e.dur_meaning s l x d u)
  dur_costs x d (Some u) few = units_costs x (e.samples_of u) x.kind (omega arith)
  dur_costs x d None few = times_costs x d x.kind d.kind few

  -- casts and choices -----------------------------------------------------------------------------

  reference_costs : (parents : List ℕ) (x : Typed) (from to : Kind) → most x.expr + 4 ≤ n
      → Costs n (if are_references from && e.fits parents x to
      then e.value_at s l (e.taken_as x to) to else e.mismatch s l)
  reference_costs parents x from to few = costs_if n (are_references from && e.fits parents x to) _ _
      (omega (arith, taken_most x to)) tt

  cast_value_costs : (parents : List ℕ) (x : Typed) (from to : Kind) → most x.expr + 4 ≤ n
      → Costs n (e.cast_value parents s l x from to)
  cast_value_costs parents x (One elem.Int) (One elem.Int) few = omega arith
  cast_value_costs parents x (One elem.Int) (One elem.Float) few = omega arith
  cast_value_costs parents x (One elem.Float) (One elem.Int) few = omega arith
  cast_value_costs parents x (One elem.Float) (One elem.Float) few = omega arith
  cast_value_costs parents x from to few = reference_costs parents x from to few

  cast_to_costs : (parents : List ℕ) (x : Typed) (k : Option Kind) → most x.expr + 4 ≤ n
      → Costs n (e.cast_to parents s l x k)
  cast_to_costs parents x None few = tt
  cast_to_costs parents x (Some k) few = cast_value_costs parents x x.kind k few

  pub cast_costs : (parents : List ℕ) (x : Typed) (w : Named) (brackets : ℕ)
      → most x.expr + 4 ≤ n → Costs n (e.cast_meaning parents s l x w brackets)
  cast_costs parents x w brackets few =
      costs_if n (is_unknown w) _ _ tt (cast_to_costs parents x (value_kind w brackets) few)

  choice_of_costs : (c a b : Typed) (k : Option Kind)
      → most c.expr + most a.expr + most b.expr + 8 ≤ n → Costs n (e.choice_of s l c a b k)
  choice_of_costs c a b None few = tt
  choice_of_costs c a b (Some k) few = omega (arith, taken_most a k, taken_most b k)

  choice_between_costs : (parents : List ℕ) (c a b : Typed) → most c.expr + most a.expr + most b.expr + 8 ≤ n
      → Costs n (e.choice_between parents s l c a b)
  choice_between_costs parents c a b few = choice_of_costs c a b (chosen parents a.kind b.kind) few

  pub choice_costs : (parents : List ℕ) (c a b : Typed) → most c.expr + most a.expr + most b.expr + 12 ≤ n
      → Costs n (e.choice_meaning parents s l c a b)
  choice_costs parents c a b few = costs_if n (not (e.is_int c.kind)) _ _ tt
      (choice_between_costs parents c (e.beside a b.kind) (e.beside b a.kind)
      (omega (arith, beside_most a b.kind, beside_most b a.kind)))

  -- arrays ----------------------------------------------------------------------------------------

  items_costs : (parents : List ℕ) (i : Elem) (xs : List Typed) → total xs + 4 ≤ n
      → Costs n (e.items_meaning parents s l i xs)
  items_costs parents i xs few = costs_if n (e.all_fit parents xs (One i)) _ _ (omega (arith, taken_total xs (One i)))
      (costs_if n (e.all_fit parents xs (One elem.Float)) _ _ (omega (arith, taken_total xs (One elem.Float))) tt)

  rows_costs : (i : Elem) (xs : List Typed) → total xs + 4 ≤ n → Costs n (e.rows_meaning s l i xs)
  rows_costs i xs few = costs_if n (is_plain i && list_all (e.is_row_of i) xs) _ _
      (omega (arith, taken_total xs (Row i))) tt

  array_of_costs : (parents : List ℕ) (k : Kind) (xs : List Typed) → total xs + 4 ≤ n
      → Costs n (e.array_of parents s l k xs)
  array_of_costs parents (One i) xs few = items_costs parents i xs few
  array_of_costs parents (Row i) xs few = rows_costs i xs few
  array_of_costs parents _ xs few = tt

  pub array_costs : (parents : List ℕ) (xs : List Typed) → total xs + 4 ≤ n → Costs n (e.array_meaning parents s l xs)
  array_costs parents [] few = tt
  array_costs parents (x ∷ xs) few = array_of_costs parents x.kind (x ∷ xs) few

  item_at_costs : (a i : Typed) (k : Kind) → most a.expr + most i.expr + 4 ≤ n → Costs n (e.item_at s l a i k)
  item_at_costs a i (Row j) few = omega arith
  item_at_costs a i (Grid j) few = omega arith
  item_at_costs a i _ few = tt

  pub item_costs : (a i : Typed) → most a.expr + most i.expr + 4 ≤ n → Costs n (e.item_meaning s l a i)
  item_costs a i few = costs_if n (e.is_int i.kind) _ _ (item_at_costs a i a.kind few) tt

  -- `new` -----------------------------------------------------------------------------------------

  new_object_costs : (t : Table) (i : Elem) (xs : List Typed) → total xs + 400 ≤ n → Costs n (e.new_object t s l i xs)
  new_object_costs t i xs few =
      ok_then (λ (x : typed.Expr). most x ≤ total xs + object_most) (λ (y : Denotation). cost y ≤ n)
      (e.object_made t s l i xs) _ (object_made_most t s l i xs) (λ x small. omega (arith, small))

  new_array_costs : (t : Table) (i : Elem) (sizes : List Typed) → total sizes + 400 ≤ n
      → Costs n (e.new_array t s l i sizes)
  new_array_costs t i [] few = new_object_costs t i [] few
  new_array_costs t i (a ∷ []) few = costs_if n (e.is_new_item i && e.is_int a.kind) _ _ (omega arith) tt
  new_array_costs t i (a ∷ b ∷ []) few = costs_if n (e.is_new_item i && e.are_ints a b) _ _ (omega arith) tt
  new_array_costs t i _ few = tt

  pub new_costs : (t : Table) (w : Named) (sizes : List Typed) → total sizes + 400 ≤ n
      → Costs n (e.new_meaning t s l w sizes)
  new_costs t named.Unknown sizes few = tt
  new_costs t (named.Elem i) sizes few = new_array_costs t i sizes few
  new_costs t _ sizes few = tt

  pub new_with_costs : (t : Table) (w : Named) (xs : List Typed) → total xs + 400 ≤ n
      → Costs n (e.new_with_meaning t s l w xs)
  new_with_costs t named.Unknown xs few = tt
  new_with_costs t (named.Elem i) xs few = new_object_costs t i xs few
  new_with_costs t _ xs few = tt

  -- calls -----------------------------------------------------------------------------------------

  called_costs : (xs : List Typed) (k : Kind) (o : Option typed.Exprs) (made : typed.Exprs → typed.Expr)
      → IfSome o (λ es. all_most es ≤ total xs)
      → ((es : typed.Exprs) → all_most es ≤ total xs → most (made es) + 2 ≤ n) → Costs n (e.called s l k o made)
  called_costs xs k None made are few = tt
  called_costs xs k (Some es) made are few = few es are

  -- of a function of the table
  pub table_call_costs : (t : Table) (xs : List Typed) (k : Kind) (f : ℕ) (made : typed.Exprs → typed.Expr)
      → ((es : typed.Exprs) → all_most es ≤ total xs → most (made es) + 2 ≤ n)
      → Costs n (e.called s l k (e.fitted t.parents xs (fun_of t f).params) made)
  table_call_costs t xs k f made few =
      called_costs xs k (e.fitted t.parents xs (fun_of t f).params) made
      (fitted_total t.parents xs (fun_of t f).params) few

  pub native_call_costs : (parents : List ℕ) (xs : List Typed) (g : Option Signature)
      (made : Native → typed.Exprs → typed.Expr)
      → ((k : Native) (es : typed.Exprs) → all_most es ≤ total xs → most (made k es) + 2 ≤ n)
      → Costs n (e.native_call parents s l xs g made)
  native_call_costs parents xs None made few = tt
  native_call_costs parents xs (Some g) made few =
      called_costs xs g.gives (e.fitted parents xs (map One g.params)) (λ es. made g.native es)
      (fitted_total parents xs (map One g.params)) (λ es are. few g.native es are)

  param_call_costs : (parents : List ℕ) (u : typed.Expr) (p : Settable) (xs : List Typed)
      → most u + total xs + 4 ≤ n → Costs n (e.param_call parents s l u p xs)
  param_call_costs parents u p [] few = omega arith
  param_call_costs parents u p (v ∷ []) few =
      costs_if n (e.may_take parents p v) _ _ (omega (arith, taken_most v (One p.elem))) tt
  param_call_costs parents u p _ few = tt

  plain_call_costs : (xs : List Typed) (x : typed.Expr) → most x + 2 ≤ n → Costs n (e.plain_call s l xs x)
  plain_call_costs [] x few = few
  plain_call_costs _ x few = tt

  pub callee_costs : (t : Table) (c : Callee) (xs : List Typed)
      → receiver_most c + total xs + 4 ≤ n → Costs n (e.callee_meaning t s l c xs)
  callee_costs t (numbered f) xs few = table_call_costs t xs (fun_of t f).result f _ (λ es are. omega arith)
  callee_costs t (through o f) xs few = table_call_costs t xs (fun_of t f).result f _ (λ es are. omega arith)
  callee_costs t (method o f k) xs few = table_call_costs t xs (fun_of t f).result f _ (λ es are. omega arith)
  callee_costs t (native h name) xs few =
      native_call_costs t.parents xs (call_of h name (length xs)) _ (λ k es are. omega arith)
  callee_costs t (native_on o h name) xs few =
      native_call_costs t.parents xs (call_of h name (length xs)) _ (λ k es are. omega arith)
  callee_costs t (param u p) xs few = param_call_costs t.parents u p xs few
  callee_costs t yields xs few = plain_call_costs xs (typed.Leaf leaf.Yield (place s l)) (omega arith)
  callee_costs t exits xs few = plain_call_costs xs (typed.Leaf leaf.Exit (place s l)) (omega arith)

  pub call_costs : (t : Table) (x : Denotation) (xs : List Typed) → cost x + total xs + 4 ≤ n
      → Costs n (e.call_meaning t s l x xs)
  call_costs t (callable c) xs few = callee_costs t c xs few
  call_costs t _ xs few = tt

-- a spork stands at its line, and its call at another
module _ (n : ℕ) (t : Table) (s : Scope) (l k : ℕ) where
  sporked_costs : (c : Callee) (xs : List Typed) → receiver_most c + total xs + 4 ≤ n
      → Costs n (e.sporked t s l k c xs)
  sporked_costs (numbered f) xs few = table_call_costs n s k t xs (One elem.Shred) f _ (λ es are. omega arith)
  sporked_costs (through o f) xs few = table_call_costs n s k t xs (One elem.Shred) f _ (λ es are. omega arith)
  sporked_costs (method o f v) xs few = table_call_costs n s k t xs (One elem.Shred) f _ (λ es are. omega arith)
  sporked_costs c xs few = then_any (λ (x : Denotation). cost x ≤ n) (e.callee_meaning t s k c xs) _ (λ x. tt)

  pub spork_costs : (x : Denotation) (xs : List Typed) → cost x + total xs + 4 ≤ n
      → Costs n (e.spork_meaning t s l k x xs)
  spork_costs (callable c) xs few = sporked_costs c xs few
  spork_costs _ xs few = tt
