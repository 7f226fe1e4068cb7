-- What an expression stands for makes at most 512 steps a token.
use Rattle.std.proofs.Common.{ℕ, ◌+◌, ◌*◌, ◌≤◌, Bool, true, false, not, ◌&&◌, ◌||◌, if◌then◌else◌, codes, List, []}
use Rattle.std.proofs.Common.{◌∷◌, length, Option, Some, None, arith}
use Rattle.std.specs.Prelude.{IfSome}
use Rattle.std.specs.Str.{bytes_eq}
use Rattle.ck_values.specs.declared.kind.Elem.{Elem}
use Rattle.ck_values.specs.declared.kind.Elem.TheVariants as elem
use Rattle.ck_values.specs.declared.kind.Kind.{Kind}
use Rattle.ck_values.specs.declared.kind.Kind.TheVariants.{One}
use Rattle.ck_values.specs.declared.trap.Place.{Place}
use Rattle.ck_syntax.specs.declared.declaration.Base.{Base}
use Rattle.ck_syntax.specs.declared.declaration.DeclHead.{DeclHead}
use Rattle.ck_syntax.specs.declared.operator.BinaryOp.{BinaryOp}
use Rattle.ck_syntax.specs.declared.operator.ChuckOp.{ChuckOp}
use Rattle.ck_syntax.specs.declared.operator.ChuckOp.TheVariants as chuck_op
use Rattle.ck_syntax.specs.declared.operator.Constant.TheVariants as constant
use Rattle.ck_syntax.specs.Size.{expr_size, exprs_size, before_comma, bracketed_size, brackets_size, declr_size}
use Rattle.ck_syntax.specs.Tree as tree
use Rattle.ck_syntax.specs.Tree.{Name, Expr, expr_line, Exprs, no_exprs, and_expr, Brackets, no_brackets, and_empty}
use Rattle.ck_syntax.specs.Tree.{and_size, Declr, declr, declr_with, declr_name}
use Rattle.ck_typed.specs.declared.expr.Spot.{Spot}
use Rattle.ck_typed.specs.declared.expr.Spot.TheVariants as spot
use Rattle.ck_typed.specs.declared.operation.Unary.TheVariants as unary
use Rattle.ck_typed.specs.declared.operation.Variadic.TheVariants as variadic
use Rattle.ck_typed.specs.Tree as typed
use Rattle.type_rules.specs.Calls.{call_of}
use Rattle.type_rules.specs.Fitting.{is_below, kind_fits}
use Rattle.type_rules.specs.Operators.{are_references, joined}
use Rattle.type_rules.specs.declared.operators.Joined.{Joined}
use Rattle.type_table.specs.Answer.{Answer, gives, refused, and_then, wrong}
use Rattle.type_table.specs.declared.fault.FaultKind.TheVariants.{NotCallable}
use Rattle.type_table.specs.declared.table.Member.{Member}
use Rattle.type_table.specs.declared.table.Member.TheVariants as member
use Rattle.type_table.specs.declared.table.Variable.{Variable}
use Rattle.type_table.specs.Table.{Table, fun_of, variable_named}
use Rattle.type_table.specs.Types.{named_by, is_unknown, is_plain, written_kind}
use Rattle.check_scope.specs.Denotations as m
use Rattle.check_scope.specs.Denotations.{Typed, Callee, Declaration, Denotation, as_value, is_void, member_here}
use Rattle.check_scope.specs.Expressions as e
use Rattle.check_scope.specs.Expressions.{Making, Meant, Valued, AllValued, in_scope, value_of, meaning, values, sizes}
use Rattle.check_scope.specs.Expressions.{typing}
use Rattle.check_scope.specs.Scope.{Scope, reach, kind_now, is_declared, place, this_local, declares_globals, in_arguments, behind_arguments}
use Rattle.expr_laws.proofs.Oks.{ok_then, ok_map}
use Rattle.expr_laws.proofs.Premises.{Ok}
use Rattle.expr_steps.specs.Tokens.{token_steps}
use Rattle.expr_steps.proofs.Costs.{receiver_most, cost, total, Costs, costs_if, then_any, value_costs, most_if}
use Rattle.expr_steps.proofs.Costs.{taken_most, widened_most, total_more}
use Rattle.expr_steps.proofs.Most.{bodies_most, most, all_most}
use Rattle.expr_steps.proofs.Names.{name_costs, member_costs}
use Rattle.expr_steps.proofs.Operations.{word_costs, binary_costs, prefix_costs, postfix_costs, dur_costs, cast_costs}
use Rattle.expr_steps.proofs.Operations.{choice_costs, array_costs, item_costs, object_most, object_made_most, new_costs, new_with_costs, table_call_costs}
use Rattle.expr_steps.proofs.Operations.{native_call_costs, call_costs, spork_costs}

-- the values that a declaration makes its first value of
abbrev pub total_of : Making → ℕ
total_of (e.with_sizes xs) = total xs
total_of (e.with_arguments xs) = total xs

-- of one argument, or of none where it takes none
first_most : (x : Typed) (es : typed.Exprs) → all_most es ≤ total (x ∷ [])
    → most (e.first_of es x.expr) ≤ most x.expr + 2
first_most x typed.no_exprs are = omega arith
first_most x (typed.more_exprs y rest) are = omega arith

wait_word_most : (o : Expr) (n : Name) → IfSome (e.wait_word o n) (λ c. receiver_most c ≤ 0)
wait_word_most (tree.constant l constant.Me) n = go (bytes_eq n (codes "yield")) (bytes_eq n (codes "exit"))
  where
    go : (a b : Bool) → IfSome (if a then Some m.yields else if b then Some m.exits else None)
        (λ c. receiver_most c ≤ 0)
    go true b = omega arith
    go false true = omega arith
    go false false = tt
wait_word_most _ n = tt

module _ (n : ℕ) (s : Scope) (l : ℕ) where
  -- the chuck operator ----------------------------------------------------------------------------

  wait_costs : (parents : List ℕ) (x : Typed) (k : Kind) → most x.expr + 4 ≤ n
      → Costs n (e.wait_meaning parents s l x k)
  wait_costs parents x (One elem.Dur) few = omega arith
  wait_costs parents x (One elem.Time) few = omega arith
  wait_costs parents x (One (elem.Class c)) few = costs_if n (is_below parents c 1) _ _ (omega arith) tt
  wait_costs parents x _ few = tt

  later_costs : (x : Typed) (k : Kind) → most x.expr + 4 ≤ n → Costs n (e.later_meaning s l x k)
  later_costs x (One elem.Dur) few = omega arith
  later_costs x _ few = tt

  now_costs : (parents : List ℕ) (o : ChuckOp) (x : Typed) → most x.expr + 4 ≤ n
      → Costs n (e.now_meaning parents s l o x)
  now_costs parents chuck_op.Chuck x few = wait_costs parents x x.kind few
  now_costs parents chuck_op.Add x few = later_costs x x.kind few
  now_costs parents _ x few = tt

  chuck_callee_costs : (t : Table) (x : Typed) (c : Callee)
      → most x.expr + receiver_most c + 6 ≤ n → Costs n (e.chuck_callee t s l x c)
  chuck_callee_costs t x (m.numbered f) few =
      table_call_costs n s l t (x ∷ []) (fun_of t f).result f _ (λ es are. omega arith)
  chuck_callee_costs t x (m.through o f) few =
      table_call_costs n s l t (x ∷ []) (fun_of t f).result f _ (λ es are. omega (arith, first_most x es are))
  chuck_callee_costs t x (m.method o f k) few =
      table_call_costs n s l t (x ∷ []) (fun_of t f).result f _ (λ es are. omega (arith, first_most x es are))
  chuck_callee_costs t x (m.native h name) few =
      native_call_costs n s l t.parents (x ∷ []) (call_of h name 1) _ (λ k es are. omega arith)
  chuck_callee_costs t x (m.native_on o h name) few =
      native_call_costs n s l t.parents (x ∷ []) (call_of h name 1) _ (λ k es are. omega (arith, first_most x es are))
  chuck_callee_costs t x (m.param u p) few =
      costs_if n (e.may_take t.parents p x) _ _ (omega (arith, taken_most x (One p.elem))) tt
  chuck_callee_costs t x _ few = tt

  assigned_costs : (parents : List ℕ) (x : Typed) (spot : Spot) (address : typed.Exprs) (k : Kind)
      → most x.expr + all_most address + 6 ≤ n → Costs n (e.assigned parents s l x spot address k)
  assigned_costs parents x spot address k few = costs_if n (e.fits parents x k) _ _ (omega (arith, taken_most x k)) tt

  chuck_assigned_costs : (parents : List ℕ) (x : Typed) (spot : Spot) (address : typed.Exprs)
      (k : Kind) → most x.expr + all_most address + 6 ≤ n
      → Costs n (e.chuck_assigned parents s l x spot address k)
  chuck_assigned_costs parents x spot address k few =
      costs_if n (are_references k) _ _ tt (assigned_costs parents x spot address k few)

  declared_assigned_costs : (parents : List ℕ) (x : Typed) (d : Declaration)
      → most x.expr + most d.alone + all_most d.address + 7 ≤ n → Costs n (e.declared_assigned parents s l x d)
  declared_assigned_costs parents x d few = costs_if n (not (e.fits parents x d.kind)) _ _ tt
      (costs_if n d.makes _ _ (omega (arith, taken_most x d.kind)) (omega (arith, taken_most x d.kind)))

  chuck_place_costs : (parents : List ℕ) (k : ℕ) (x : Typed) (y : Denotation)
      → most x.expr + cost y + 4 ≤ n → Costs n (e.chuck_place parents s l k x y)
  chuck_place_costs parents k x (m.at spot address to) few =
      costs_if n (e.is_ugen x.kind && e.is_ugen to) _ _ (omega arith)
      (chuck_assigned_costs parents x spot address to (omega arith))
  chuck_place_costs parents k x (m.declared d) few =
      costs_if n (e.is_ugen x.kind && e.is_ugen d.kind) _ _ (omega arith) (costs_if n (are_references d.kind) _ _ tt
      (declared_assigned_costs parents x d (omega arith)))
  chuck_place_costs parents k x (m.value y) few =
      costs_if n (e.is_ugen x.kind && e.is_ugen y.kind) _ _ (omega arith) tt
  chuck_place_costs parents k x _ few = tt

  chuck_to_costs : (t : Table) (k : ℕ) (x : Typed) (y : Denotation)
      → most x.expr + cost y + 6 ≤ n → Costs n (e.chuck_to t s l k x y)
  chuck_to_costs t k x (m.callable c) few = chuck_callee_costs t x c few
  chuck_to_costs t k x y few = chuck_place_costs t.parents k x y (omega arith)

  assign_to_costs : (parents : List ℕ) (x : Typed) (y : Denotation)
      → most x.expr + cost y + 6 ≤ n → Costs n (e.assign_to parents s l x y)
  assign_to_costs parents x (m.at spot address k) few = assigned_costs parents x spot address k (omega arith)
  assign_to_costs parents x (m.declared d) few = declared_assigned_costs parents x d (omega arith)
  assign_to_costs parents x _ few = tt

  updated_by_costs : (parents : List ℕ) (x : Typed) (spot : Spot) (address : typed.Exprs)
      (k : Kind) (j : Option Joined) → most x.expr + all_most address + 6 ≤ n
      → Costs n (e.updated_by parents s l x spot address k j)
  updated_by_costs parents x spot address k None few = tt
  updated_by_costs parents x spot address k (Some j) few =
      costs_if n (kind_fits parents (One j.gives) k && not j.widens_left) _ _
      (omega (arith, widened_most j.widens_right x)) tt

  update_to_costs : (parents : List ℕ) (o : BinaryOp) (x : Typed) (y : Denotation)
      → most x.expr + cost y + 6 ≤ n → Costs n (e.update_to parents s l o x y)
  update_to_costs parents o x (m.at spot address k) few =
      updated_by_costs parents x spot address k (joined parents o k x.kind) (omega arith)
  update_to_costs parents o x _ few = tt

  update_or_costs : (parents : List ℕ) (x : Typed) (y : Denotation) (o : Option BinaryOp)
      → most x.expr + cost y + 6 ≤ n → Costs n (e.update_or parents s l x y o)
  update_or_costs parents x y None few = tt
  update_or_costs parents x y (Some o) few = update_to_costs parents o x y few

  disconnected_costs : (x y : Typed) → most x.expr + most y.expr + 4 ≤ n → Costs n (e.disconnected s l x y)
  disconnected_costs x y few = costs_if n (e.is_ugen x.kind && e.is_ugen y.kind) _ _ (omega arith) tt

  chuck_costs : (t : Table) (k : ℕ) (o : ChuckOp) (x : Typed) (y : Denotation)
      → most x.expr + cost y + 6 ≤ n → Costs n (e.chuck_meaning t s l k o x y)
  chuck_costs t k chuck_op.Chuck x y few = chuck_to_costs t k x y few
  chuck_costs t k chuck_op.Assign x y few = assign_to_costs t.parents x y few
  chuck_costs t k chuck_op.Unchuck x y few =
      ok_then (λ (z : Typed). most z.expr + 2 ≤ cost y) (λ (z : Denotation). cost z ≤ n)
      (as_value s k y) _ (value_costs s k y) (λ z small. disconnected_costs x z (omega arith))
  chuck_costs t k o x y few = update_or_costs t.parents x y (e.updating o) few

  member_or_wait_costs : (t : Table) (k : ℕ) (x : Denotation) (name : Name) (c : Option Callee)
      → IfSome c (λ c. receiver_most c ≤ 0) → cost x + 4 ≤ n → Costs n (e.member_or_wait t s l k x name c)
  member_or_wait_costs t k x name (Some c) none few = omega (arith, none)
  member_or_wait_costs t k x name None none few = member_costs n t s l k x name few

  -- declarations ----------------------------------------------------------------------------------

  -- a first value makes so many steps beside those of its sizes or arguments
  abbrev IsFirst : ℕ → Answer typed.Expr → Type 0
  IsFirst k a = Ok (λ (x : typed.Expr). most x ≤ k + bodies_most + 7) a

  first_if : (k : ℕ) (c : Bool) (a b : Answer typed.Expr) → IsFirst k a → IsFirst k b → IsFirst k (if c then a else b)
  first_if k true a b first second = first
  first_if k false a b first second = second

  object_first : (t : Table) (i : Elem) (xs : List Typed) → IsFirst (total xs) (e.object_made t s l i xs)
  object_first t i xs =
      ok_map (λ (x : typed.Expr). most x ≤ total xs + object_most)
      (λ (x : typed.Expr). most x ≤ total xs + bodies_most + 7)
      (e.object_made t s l i xs) (λ x few. omega (arith, few)) (object_made_most t s l i xs)

  default_first : (t : Table) (i : Elem) → IsFirst 0 (e.default_value t s l i)
  default_first t elem.Int = omega arith
  default_first t elem.Float = omega arith
  default_first t elem.Dur = omega arith
  default_first t elem.Time = omega arith
  default_first t elem.Text = omega arith
  default_first t elem.Shred = omega arith
  default_first t (elem.Class c) = object_first t (elem.Class c) []
  default_first t (elem.Unit k) = object_first t (elem.Unit k) []

  null_most : (k : Kind) (p : Place) → most (e.null_of k p) ≤ 2
  null_most (One elem.Shred) p = omega arith
  null_most _ p = omega arith

  row_first : (t : Table) (r : Bool) (i : Elem) (x : typed.Expr) → IsFirst (most x) (e.row_of t s l r i x)
  row_first t r i x =
      first_if (most x) (r || is_plain i) _ _ (omega arith)
      (then_any (λ (y : typed.Expr). most y ≤ most x + bodies_most + 7) (e.maker_of t s l i) _ (λ f. omega arith))

  first_value_first : (t : Table) (r : Bool) (k : Kind) (x : Making) → IsFirst (total_of x) (e.first_value t s l r k x)
  first_value_first t r k (e.with_sizes (a ∷ b ∷ rest)) = omega arith
  first_value_first t r k (e.with_sizes (a ∷ [])) =
      ok_map (λ (x : typed.Expr). most x ≤ most a.expr + bodies_most + 7)
      (λ (x : typed.Expr). most x ≤ total (a ∷ []) + bodies_most + 7)
      (e.row_of t s l r (e.elem_of k) a.expr) (λ x few. omega (arith, few)) (row_first t r (e.elem_of k) a.expr)
  first_value_first t false (One i) (e.with_sizes []) = default_first t i
  first_value_first t r k (e.with_sizes []) = omega (arith, null_most k (place s l))
  first_value_first t r k (e.with_arguments xs) = object_first t (e.elem_of k) xs

  declared_at_costs : (t : Table) (spot : Spot) (address : typed.Exprs) (r : Bool) (k : Kind)
      (x : Making) → all_most address ≤ 2 → total_of x + 410 ≤ n
      → Costs n (e.declared_at t s l spot address r k x)
  declared_at_costs t spot address r k x small few =
      ok_then (λ (y : typed.Expr). most y ≤ total_of x + bodies_most + 7) (λ (d : Denotation). cost d ≤ n)
      (e.first_value t s l r k x) _ (first_value_first t r k x) (λ y first. omega (arith, first, small, few))

  declared_field_costs : (t : Table) (i : ℕ) (r : Bool) (k : Kind) (x : Making) (this : Option ℕ)
      → total_of x + 410 ≤ n → Costs n (e.declared_field t s l i r k x this)
  declared_field_costs t i r k x None few = tt
  declared_field_costs t i r k x (Some this) few = declared_at_costs t (spot.Field i)
      (m.one (typed.Variadic (variadic.Read (spot.Local this)) typed.no_exprs (place s l))) r k x
      (omega arith) few

  declared_member_costs : (t : Table) (h : DeclHead) (xs : Making) (x : Option Member)
      → total_of xs + 410 ≤ n → Costs n (e.declared_member t s l h xs x)
  declared_member_costs t h xs (Some (member.Field i k)) few =
      declared_field_costs t i h.is_reference k xs (this_local t s) few
  declared_member_costs t h xs (Some (member.Static i k)) few = omega arith
  declared_member_costs t h xs _ few = tt

-- expressions -------------------------------------------------------------------------------------

abbrev pub MeantCosts : ℕ → Meant → Type 0
MeantCosts n x = cost x.means ≤ n

abbrev pub ValueCosts : ℕ → Valued → Type 0
ValueCosts n x = most x.typed.expr + 2 ≤ n

abbrev pub AllCost : ℕ → AllValued → Type 0
AllCost n xs = total xs.typed ≤ n

in_scope_costs : (n : ℕ) (s : Scope) (a : Answer Denotation) → Costs n a → Ok (MeantCosts n) (in_scope s a)
in_scope_costs n s (gives x) few = few
in_scope_costs n s (refused why) few = tt

value_of_costs : (n l : ℕ) (a : Answer Meant) → Ok (MeantCosts n) a → Ok (ValueCosts n) (value_of l a)
value_of_costs n l a few = ok_then (MeantCosts n) (ValueCosts n) a _ few (λ x small.
    ok_then (λ (y : Typed). most y.expr + 2 ≤ cost x.means) (ValueCosts n)
    (as_value x.scope l x.means) _ (value_costs x.scope l x.means) (λ y less. omega arith))

-- commas and brackets are tokens of their own
exprs_less : (es : Exprs) → exprs_size es ≤ before_comma es
exprs_less no_exprs = omega arith
exprs_less (and_expr es x) = omega arith

comma_less : (es : Exprs) → before_comma es ≤ bracketed_size es
comma_less no_exprs = omega arith
comma_less (and_expr es x) = omega (arith, comma_less es)

module _ (n : ℕ) (t : Table) where
  -- declarations ----------------------------------------------------------------------------------

  variable_costs : (s : Scope) (l : ℕ) (h : DeclHead) (xs : Making) (v : Option Variable)
      → total_of xs + 410 ≤ n → Ok (MeantCosts n) (e.declared_variable t s l h xs v)
  variable_costs s l h xs None few = tt
  variable_costs s l h xs (Some v) few =
      in_scope_costs n (reach s (v.index + 1)) _
      (declared_at_costs n s l t (spot.Static v.index) typed.no_exprs h.is_reference v.kind xs (omega arith) few)

  global_costs : (s : Scope) (l : ℕ) (h : DeclHead) (name : Name) (xs : Making)
      (class : Option ℕ) → total_of xs + 410 ≤ n
      → Ok (MeantCosts n) (e.declared_global t s l h name xs class)
  global_costs s l h name xs None few = variable_costs s l h xs (variable_named t s.file name) few
  global_costs s l h name xs (Some c) few =
      in_scope_costs n s _ (declared_member_costs n s l t h xs (member_here t (Some c) name) few)

  ok_either : (c : Bool) (a b : Answer Meant) → Ok (MeantCosts n) a → Ok (MeantCosts n) b
      → Ok (MeantCosts n) (if c then a else b)
  ok_either true a b first second = first
  ok_either false a b first second = second

  local_costs : (s : Scope) (l : ℕ) (h : DeclHead) (name : Name) (xs : Making)
      (k : Option Kind) → total_of xs + 410 ≤ n
      → Ok (MeantCosts n) (e.declared_local t s l h name xs k)
  local_costs s l h name xs None few = tt
  local_costs s l h name xs (Some k) few = ok_either (not (e.sizes_are_ints xs)) _ _ tt
      (ok_then (λ (d : Denotation). cost d ≤ n) (MeantCosts n)
      (e.declared_at t s l (spot.Local (length s.locals)) typed.no_exprs h.is_reference k xs) _
      (declared_at_costs n s l t (spot.Local (length s.locals)) typed.no_exprs h.is_reference k xs (omega arith) few)
      (λ d small. ok_either (e.has_place h xs) _ _ small tt))

  auto_costs : (s : Scope) (l : ℕ) (h : DeclHead) (x : Declr) → Ok (MeantCosts n) (e.auto_meaning s l h x)
  auto_costs s l h x = ok_either (not (declares_globals s) && is_declared s (declr_name x)) _ _ tt (omega arith)

  based_costs : (s : Scope) (l : ℕ) (h : DeclHead) (x : Declr) (xs : Making) (base : Option Base)
      → total_of xs + 410 ≤ n → Ok (MeantCosts n) (e.declared_with t s l h x xs base)
  based_costs s l h x xs None few = auto_costs s l h x
  based_costs s l h x xs (Some base) few = ok_either (declares_globals s) _ _
      (ok_either (e.sizes_are_ints xs) _ _ (global_costs s l h (declr_name x) xs s.class few) tt)
      (ok_either (is_unknown (named_by t s.file base)) _ _ tt (ok_either (is_declared s (declr_name x)) _ _ tt
      (local_costs s l h (declr_name x) xs (written_kind h (named_by t s.file base) x) few)))

  declaration_costs : (s : Scope) (l : ℕ) (h : DeclHead) (x : Declr) (xs : Making)
      → total_of xs + 410 ≤ n → Ok (MeantCosts n) (e.declaration_meaning t s l h x xs)
  declaration_costs s l h x xs few = based_costs s l h x xs h.base few

  -- the chuck operator ----------------------------------------------------------------------------

  auto_variable_costs : (s : Scope) (l k : ℕ) (x : Typed) (v : Option Variable)
      → most x.expr + 4 ≤ n → Ok (MeantCosts n) (e.auto_variable s l k x v)
  auto_variable_costs s l k x None few = tt
  auto_variable_costs s l k x (Some v) few = ok_either (is_void (kind_now s v)) _ _ (omega arith) tt

  auto_global_costs : (s : Scope) (l k : ℕ) (x : Typed) (name : Name) (c : Option ℕ)
      → most x.expr + 4 ≤ n → Ok (MeantCosts n) (e.auto_global t s l k x name c)
  auto_global_costs s l k x name None few =
      auto_variable_costs s l k x (variable_named t s.file name) few
  auto_global_costs s l k x name (Some c) few = tt

  auto_declared_costs : (s : Scope) (l k : ℕ) (x : Typed) (name : Name)
      → most x.expr + 4 ≤ n → Ok (MeantCosts n) (e.auto_declared t s l k x name)
  auto_declared_costs s l k x name few = ok_either (declares_globals s) _ _
      (auto_global_costs s l k x name s.class few)
      (ok_either (is_declared s name) _ _ tt (omega arith))

  auto_assigned_costs : (s : Scope) (l k : ℕ) (r : Bool) (x : Typed) (name : Name) (has_form : Bool)
      → most x.expr + 4 ≤ n → Ok (MeantCosts n) (e.auto_assigned t s l k r x name has_form)
  auto_assigned_costs s l k r x name has_form few = ok_either (e.is_no_type x.kind) _ _ tt
      (ok_either (not has_form) _ _ tt (ok_either (not r && are_references x.kind) _ _ tt
      (auto_declared_costs s l k x name few)))

  auto_chucked_costs : (s : Scope) (l k : ℕ) (o : ChuckOp) (x : Typed) (name : Name) (has_form : Bool)
      → most x.expr + 4 ≤ n → Ok (MeantCosts n) (e.auto_chucked t s l k o x name has_form)
  auto_chucked_costs s l k chuck_op.Chuck x name has_form few = auto_assigned_costs s l k false x name has_form few
  auto_chucked_costs s l k chuck_op.Assign x name has_form few = auto_assigned_costs s l k true x name has_form few
  auto_chucked_costs s l k _ x name has_form few = tt

  chucked_costs : (s : Scope) (l : ℕ) (o : ChuckOp) (x : Typed) (b : Expr) (y : Denotation)
      → most x.expr + cost y + 6 ≤ n → Ok (MeantCosts n) (e.chucked t s l o x b y)
  chucked_costs s l o x b (m.an_auto name has_form) few = auto_chucked_costs s l (expr_line b) o x name has_form
      (omega arith)
  chucked_costs s l o x b y few =
      in_scope_costs n s _ (costs_if n (e.is_now b) _ _
      (now_costs n s l t.parents o x (omega arith)) (chuck_costs n s l t (expr_line b) o x y few))

-- so many tokens' steps of what an expression means, of its value, and of values
abbrev pub MeansWithin : (tokens : ℕ) → Meant → Type 0
MeansWithin tokens = MeantCosts (token_steps * tokens)

abbrev pub ValueWithin : (tokens : ℕ) → Valued → Type 0
ValueWithin tokens = ValueCosts (token_steps * tokens)

abbrev pub AllWithin : (tokens : ℕ) → AllValued → Type 0
AllWithin tokens = AllCost (token_steps * tokens)

module _ (t : Table) where
  -- one value more
  and_costs : (k : ℕ) (a : Answer AllValued) (x : Expr) (all : ℕ) → Ok (AllWithin k) a → k + expr_size x ≤ all
      → ((s : Scope) → Ok (MeansWithin (expr_size x)) (meaning t s x)) → Ok (AllWithin all) (and_then a (λ xs.
      and_then (value_of (expr_line x) (meaning t xs.scope x)) (λ y. gives (e.and_valued xs y))))
  and_costs k a x all few more means = ok_then (AllWithin k) (AllWithin all) a _ few (λ xs before.
      ok_then (ValueWithin (expr_size x)) (AllWithin all) (value_of (expr_line x) (meaning t xs.scope x)) _
      (value_of_costs (token_steps * expr_size x) (expr_line x) (meaning t xs.scope x) (means xs.scope))
      (λ y small. omega (arith, total_more xs.typed y.typed)))

  -- what comes next, given that an expression's meaning costs so much
  after_value : (s : Scope) (x : Expr) (all : ℕ) (f : Valued → Answer Meant)
      → Ok (MeansWithin (expr_size x)) (meaning t s x)
      → ((y : Valued) → ValueWithin (expr_size x) y → Ok (MeansWithin all) (f y))
      → Ok (MeansWithin all) (and_then (value_of (expr_line x) (meaning t s x)) f)
  after_value s x all f means goes =
      ok_then (ValueWithin (expr_size x)) (MeansWithin all) (value_of (expr_line x) (meaning t s x)) f
      (value_of_costs (token_steps * expr_size x) (expr_line x) (meaning t s x) means) goes

  mutual
    meaning_costs : (s : Scope) (x : Expr) → Ok (MeansWithin (expr_size x)) (meaning t s x)
    meaning_costs s (tree.int l v) = omega arith
    meaning_costs s (tree.float l v) = omega arith
    meaning_costs s (tree.text l v) = omega arith
    meaning_costs s (tree.name l name) =
        in_scope_costs token_steps s _ (name_costs token_steps t s l name (omega arith))
    meaning_costs s (tree.constant l c) = in_scope_costs token_steps s _ (word_costs token_steps s l t c (omega arith))
    meaning_costs s (tree.time_unit l u) = omega arith
    meaning_costs s (tree.paren l x) = after_value s x (expr_size x + 2) _ (meaning_costs s x) (λ y few. omega arith)
    meaning_costs s (tree.array l xs) =
        let all = exprs_size xs + 2 in
        ok_then (AllWithin (exprs_size xs)) (MeansWithin all) (values t s xs) _ (values_cost s xs) (λ ys few.
        in_scope_costs (token_steps * all) ys.scope _
        (array_costs (token_steps * all) ys.scope l t.parents ys.typed (omega arith)))
    meaning_costs s (tree.call l f xs) =
        let all = expr_size f + exprs_size xs + 2 in
        ok_then (MeansWithin (expr_size f)) (MeansWithin all) (meaning t s f) _ (meaning_costs s f) (λ y few.
        ok_then (AllWithin (exprs_size xs)) (MeansWithin all) (values t y.scope xs) _
        (values_cost y.scope xs) (λ ys less.
        in_scope_costs (token_steps * all) ys.scope _
        (call_costs (token_steps * all) ys.scope l t y.means ys.typed (omega arith))))
    meaning_costs s (tree.index l a i) =
        let all = expr_size a + expr_size i + 2 in
        after_value s a all _ (meaning_costs s a) (λ x few.
        after_value x.scope i all _ (meaning_costs x.scope i) (λ y less.
        in_scope_costs (token_steps * all) y.scope _
        (item_costs (token_steps * all) y.scope l x.typed y.typed (omega arith))))
    meaning_costs s (tree.member l o name) =
        let all = expr_size o + 2 in
        ok_then (MeansWithin (expr_size o)) (MeansWithin all) (meaning t s o) _ (meaning_costs s o) (λ x few.
        in_scope_costs (token_steps * all) x.scope _
        (member_or_wait_costs (token_steps * all) x.scope l t (expr_line o) x.means name
        (e.wait_word o name) (wait_word_most o name) (omega arith)))
    meaning_costs s (tree.postfix l x o) =
        let all = expr_size x + 1 in
        ok_then (MeansWithin (expr_size x)) (MeansWithin all) (meaning t s x) _ (meaning_costs s x) (λ y few.
        in_scope_costs (token_steps * all) y.scope _
        (postfix_costs (token_steps * all) y.scope l o y.means (omega arith)))
    meaning_costs s (tree.dur l x d) =
        let all = expr_size x + expr_size d + 1 in
        after_value s x all _ (meaning_costs s x) (λ y few.
        after_value y.scope d all _ (meaning_costs y.scope d) (λ z less.
        in_scope_costs (token_steps * all) z.scope _
        (dur_costs (token_steps * all) z.scope l y.typed z.typed (e.unit_in d) (omega arith))))
    meaning_costs s (tree.prefix l o x) =
        let all = expr_size x + 1 in
        ok_then (MeansWithin (expr_size x)) (MeansWithin all) (meaning t s x) _ (meaning_costs s x) (λ y few.
        in_scope_costs (token_steps * all) y.scope _
        (prefix_costs (token_steps * all) y.scope l (expr_line x) o y.means (omega arith)))
    meaning_costs s (tree.new l b xs) =
        let all = bracketed_size xs + 2 in
        ok_then (AllWithin (exprs_size xs)) (MeansWithin all) (values t s xs) _ (values_cost s xs) (λ ys few.
        in_scope_costs (token_steps * all) ys.scope _
        (new_costs (token_steps * all) ys.scope l t (named_by t ys.scope.file b) ys.typed
        (omega (arith, exprs_less xs, comma_less xs))))
    meaning_costs s (tree.new_with l b xs) =
        let all = exprs_size xs + 4 in
        ok_then (AllWithin (exprs_size xs)) (MeansWithin all) (values t s xs) _ (values_cost s xs) (λ ys few.
        in_scope_costs (token_steps * all) ys.scope _
        (new_with_costs (token_steps * all) ys.scope l t (named_by t ys.scope.file b) ys.typed (omega arith)))
    meaning_costs s (tree.spork l (tree.call k f xs)) =
        let all = expr_size f + exprs_size xs + 2 + 2 in
        ok_then (MeansWithin (expr_size f)) (MeansWithin all) (meaning t s f) _ (meaning_costs s f) (λ y few.
        ok_then (AllWithin (exprs_size xs)) (MeansWithin all) (values t y.scope xs) _
        (values_cost y.scope xs) (λ ys less.
        in_scope_costs (token_steps * all) ys.scope _
        (spork_costs (token_steps * all) t ys.scope l k y.means ys.typed (omega arith))))
    meaning_costs s (tree.spork l x) =
        then_any (MeansWithin (expr_size x + 2)) (value_of (expr_line x) (meaning t s x))
        (λ y. wrong s.file l NotCallable) (λ y. tt)
    meaning_costs s (tree.cast l x k) =
        let all = expr_size (tree.cast l x k) in
        after_value s x all _ (meaning_costs s x) (λ y few.
        in_scope_costs (token_steps * all) y.scope _
        (cast_costs (token_steps * all) y.scope l t.parents y.typed
        (named_by t y.scope.file k.base) k.brackets (omega arith)))
    meaning_costs s (tree.binary l a o b) =
        let all = expr_size a + expr_size b + 1 in
        after_value s a all _ (meaning_costs s a) (λ x few.
        after_value x.scope b all _ (meaning_costs x.scope b) (λ y less.
        in_scope_costs (token_steps * all) y.scope _
        (binary_costs (token_steps * all) y.scope l t.parents o x.typed y.typed (omega arith))))
    meaning_costs s (tree.choice l c a b) =
        let all = expr_size c + expr_size a + expr_size b + 2 in
        after_value s c all _ (meaning_costs s c) (λ x few.
        after_value x.scope a all _ (meaning_costs x.scope a) (λ y less.
        after_value y.scope b all _ (meaning_costs y.scope b) (λ z least.
        in_scope_costs (token_steps * all) z.scope _
        (choice_costs (token_steps * all) z.scope l t.parents x.typed y.typed z.typed
        (omega arith)))))
    meaning_costs s (tree.declare l h (declr name bs)) =
        let all = expr_size (tree.declare l h (declr name bs)) in
        ok_then (AllWithin (brackets_size bs)) (MeansWithin all) (sizes t s bs) _ (sizes_cost s bs) (λ xs few.
        declaration_costs (token_steps * all) t xs.scope l h (declr name bs) (e.with_sizes xs.typed) (omega arith))
    meaning_costs s (tree.declare l h (declr_with name es)) =
        let all = expr_size (tree.declare l h (declr_with name es)) in
        let inner = in_arguments s name in
        ok_then (AllWithin (exprs_size es)) (MeansWithin all) (values t inner es) _ (values_cost inner es) (λ xs few.
        declaration_costs (token_steps * all) t (behind_arguments xs.scope) l h (declr_with name es)
        (e.with_arguments xs.typed) (omega arith))
    meaning_costs s (tree.chuck l a o b) =
        let all = expr_size a + expr_size b + 1 in
        after_value s a all _ (meaning_costs s a) (λ x few.
        ok_then (MeansWithin (expr_size b)) (MeansWithin all) (meaning t x.scope b) _
        (meaning_costs x.scope b) (λ y less.
        chucked_costs (token_steps * all) t y.scope l o x.typed b y.means (omega arith)))

    pub values_cost : (s : Scope) (xs : Exprs) → Ok (AllWithin (exprs_size xs)) (values t s xs)
    values_cost s no_exprs = omega arith
    values_cost s (and_expr xs x) = and_costs (exprs_size xs) (values t s xs) x (before_comma xs + expr_size x)
        (values_cost s xs) (omega (arith, exprs_less xs)) (λ u. meaning_costs u x)

    sizes_cost : (s : Scope) (bs : Brackets) → Ok (AllWithin (brackets_size bs)) (sizes t s bs)
    sizes_cost s no_brackets = omega arith
    sizes_cost s (and_empty bs) =
        ok_map (AllWithin (brackets_size bs)) (AllWithin (brackets_size bs + 2)) (sizes t s bs) (λ xs few. omega arith)
        (sizes_cost s bs)
    sizes_cost s (and_size bs x) = and_costs (brackets_size bs) (sizes t s bs) x (brackets_size bs + expr_size x + 2)
        (sizes_cost s bs) (omega arith) (λ u. meaning_costs u x)

  pub typing_costs : (s : Scope) (x : Expr) → Ok (ValueWithin (expr_size x)) (typing t s x)
  typing_costs s x = value_of_costs (token_steps * expr_size x) (expr_line x) (meaning t s x) (meaning_costs s x)

  -- a declaration has its head's tokens in common with others: without them it has steps enough
  pub declared_costs : (s : Scope) (l : ℕ) (h : DeclHead) (d : Declr)
      → Ok (ValueWithin (declr_size d)) (typing t s (tree.declare l h d))
  declared_costs s l h (declr name bs) =
      let all = brackets_size bs + 1 in
      value_of_costs (token_steps * all) l (meaning t s (tree.declare l h (declr name bs)))
      (ok_then (AllWithin (brackets_size bs)) (MeansWithin all) (sizes t s bs) _ (sizes_cost s bs) (λ xs few.
      declaration_costs (token_steps * all) t xs.scope l h (declr name bs) (e.with_sizes xs.typed) (omega arith)))
  declared_costs s l h (declr_with name es) =
      let all = exprs_size es + 3 in
      let inner = in_arguments s name in
      value_of_costs (token_steps * all) l (meaning t s (tree.declare l h (declr_with name es)))
      (ok_then (AllWithin (exprs_size es)) (MeansWithin all) (values t inner es) _ (values_cost inner es) (λ xs few.
      declaration_costs (token_steps * all) t (behind_arguments xs.scope) l h (declr_with name es)
      (e.with_arguments xs.typed) (omega arith)))
