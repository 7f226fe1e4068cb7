-- What expressions stand for: declarations, the chuck operator, and at the end each expression from
-- what its operands stand for. Operands come first, from left to right, and then the expression.
use Rattle.std.specs.Prelude.{ℕ, ◌+◌, pos, Bool, true, false, ◌&&◌, ◌||◌, not, codes, List, [], ◌∷◌, ◌++◌, length, Option, Some, None, if◌then◌else◌}
use Rattle.std.specs.List.{list_all}
use Rattle.std.specs.Str.{bytes_eq}
use Rattle.ck_values.specs.declared.kind.Elem.{Elem}
use Rattle.ck_values.specs.declared.kind.Elem.TheVariants as elem
use Rattle.ck_values.specs.declared.kind.Kind.{Kind}
use Rattle.ck_values.specs.declared.kind.Kind.TheVariants as kind
use Rattle.ck_values.specs.declared.trap.Place.{Place}
use Rattle.ck_syntax.specs.declared.declaration.Base.{Base}
use Rattle.ck_syntax.specs.declared.declaration.DeclHead.{DeclHead}
use Rattle.ck_syntax.specs.declared.operator.BinaryOp.{BinaryOp}
use Rattle.ck_syntax.specs.declared.operator.BinaryOp.TheVariants as binary_op
use Rattle.ck_syntax.specs.declared.operator.ChuckOp.{ChuckOp}
use Rattle.ck_syntax.specs.declared.operator.ChuckOp.TheVariants as chuck_op
use Rattle.ck_syntax.specs.declared.operator.Constant.TheVariants as constant
use Rattle.ck_syntax.specs.Tree as tree
use Rattle.ck_syntax.specs.Tree.{Name, Expr, expr_line, Exprs, no_exprs, and_expr, Brackets, no_brackets, and_empty, and_size, Declr, declr, declr_with, declr_name}
use Rattle.ck_typed.specs.declared.expr.Spot.{Spot}
use Rattle.ck_typed.specs.declared.expr.Spot.TheVariants as spot
use Rattle.ck_typed.specs.declared.operation.Leaf.TheVariants as leaf
use Rattle.ck_typed.specs.declared.operation.Unary.TheVariants as unary
use Rattle.ck_typed.specs.declared.operation.Binary.TheVariants as binary
use Rattle.ck_typed.specs.declared.operation.Variadic.TheVariants as variadic
use Rattle.ck_typed.specs.Tree as typed
use Rattle.type_rules.specs.Calls.{call_of}
use Rattle.type_rules.specs.Fitting.{is_below, is_reference, kind_fits}
use Rattle.type_rules.specs.Operators.{are_references, joined}
use Rattle.type_rules.specs.declared.operators.Joined.{Joined}
use Rattle.type_table.specs.Answer.{Answer, gives, and_then, wrong}
use Rattle.type_table.specs.declared.fault.FaultKind.TheVariants.{UnknownName, Duplicate, Mismatch, Arguments, NotAssignable, NotCallable, BadPlace}
use Rattle.type_table.specs.declared.table.Member.{Member}
use Rattle.type_table.specs.declared.table.Member.TheVariants as member
use Rattle.type_table.specs.declared.table.Variable.{Variable}
use Rattle.type_table.specs.Table.{Table, fun_of, variable_named}
use Rattle.type_table.specs.declared.types.Named.{Named}
use Rattle.type_table.specs.Names.{is_some}
use Rattle.type_table.specs.Types.{named_by, is_unknown, is_plain, has_none, written_kind}
use Rattle.check_scope.specs.Denotations.{Typed, Callee, numbered, through, method, native, native_on, param, yields, exits, Declaration, Denotation, value, at, callable, declared, an_auto, is_void, one, as_value, name_meaning, member_here, member_meaning}
use Rattle.check_scope.specs.Scope.{Scope, reach, settle, kind_now, is_declared, with_local, place, this_local, declares_globals, in_arguments, behind_arguments}
pub use Rattle.check_scope.specs.Operations.{is_shred, is_int, fits, widened, taken_as, this_value, word_meaning, Samples, samples, samples_of, whole_samples, unit_in, value_at, mismatch, beside, widened_if, joined_meaning, join_meaning, append_meaning, shift_meaning, are_ints, binary_meaning, negated, inverted, stepped, prefix_meaning, postfix_meaning, units_meaning, times_meaning, dur_meaning, cast_value, cast_to, cast_meaning, choice_of, choice_between, choice_meaning, all_taken_as, all_fit, is_row_with, is_row_of, items_meaning, rows_meaning, array_of, array_meaning, item_at, item_meaning, and_fitting, fitted, constructed, made_by, object_made, made_alone, maker_of, is_new_item, new_object, new_array, new_meaning, new_with_meaning, called, native_call, may_take, param_call, plain_call, callee_meaning, call_meaning, sporked, spork_meaning}

-- declarations ----------------------------------------------------------------------------------

abbrev pub elem_of : Kind → Elem
elem_of (kind.One e) = e
elem_of (kind.Row e) = e
elem_of (kind.Grid e) = e
elem_of _ = elem.Int

-- what a declaration makes its first value of: the sizes in its brackets, or the arguments of a
-- constructor
pub data Making : Type 0 where
  with_sizes : List Typed → Making
  with_arguments : List Typed → Making

-- the first value of a variable without brackets and `@`
abbrev pub default_value : Table → Scope → (line : ℕ) → Elem → Answer typed.Expr
default_value t s l elem.Int = gives (typed.Leaf (leaf.Int (pos 0)) (place s l))
default_value t s l elem.Float = gives (typed.Leaf (leaf.Float (pos 0)) (place s l))
default_value t s l elem.Dur = gives (typed.Leaf (leaf.Dur (pos 0)) (place s l))
default_value t s l elem.Time = gives (typed.Leaf (leaf.Time (pos 0)) (place s l))
default_value t s l elem.Text = gives (typed.Text [] (place s l))
default_value t s l elem.Shred = gives (typed.Leaf leaf.NoShred (place s l))
default_value t s l e = object_made t s l e []

-- with `@`
abbrev pub null_of : Kind → Place → typed.Expr
null_of (kind.One elem.Shred) p = typed.Leaf leaf.NoShred p
null_of _ p = typed.Leaf leaf.Null p

-- an array of plain values or of nulls, or of objects
abbrev pub row_of : Table → Scope → (line : ℕ) → (is_reference : Bool) → Elem → typed.Expr →
    Answer typed.Expr
row_of t s l is_reference e n =
    if is_reference || is_plain e then gives (typed.Unary (unary.NewRow e) n (place s l))
    else and_then (maker_of t s l e) (λ f. gives (typed.NewObjects e n f (place s l)))

-- the first value of a declaration
abbrev pub first_value : Table → Scope → (line : ℕ) → (is_reference : Bool) → Kind → Making →
    Answer typed.Expr
first_value t s l r k (with_sizes (n ∷ m ∷ rest)) =
    gives (typed.Binary (binary.NewGrid (elem_of k)) n.expr m.expr (place s l))
first_value t s l r k (with_sizes (n ∷ [])) = row_of t s l r (elem_of k) n.expr
first_value t s l false (kind.One e) (with_sizes []) = default_value t s l e
first_value t s l r k (with_sizes []) = gives (null_of k (place s l))
first_value t s l r k (with_arguments xs) = object_made t s l (elem_of k) xs

abbrev pub is_object : Kind → Bool
is_object (kind.One e) = is_reference e
is_object _ = false

-- it makes an object or has a size
abbrev pub makes_object : (is_reference : Bool) → Kind → Making → Bool
makes_object r k (with_sizes []) = not r && is_object k
makes_object r k _ = true

abbrev pub declared_at : Table → Scope → (line : ℕ) → Spot → typed.Exprs → (is_reference : Bool) →
    Kind → Making → Answer Denotation
declared_at t s l spot address r k making =
    and_then (first_value t s l r k making) (λ first.
    gives (declared (record {
      spot = spot;
      address = address;
      kind = k;
      alone =
          typed.Assign first spot address (place s l);
      makes = makes_object r k making;
    })))

-- the declaration of a static member by itself leaves it as it is
abbrev pub declared_static : ℕ → (is_reference : Bool) → Kind → Making → Place → Denotation
declared_static i r k making p =
    declared (record {
      spot = spot.Static i;
      address = typed.no_exprs;
      kind = k;
      alone = typed.Variadic (variadic.Read (spot.Static i)) typed.no_exprs p;
      makes = makes_object r k making;
    })

abbrev pub sizes_are_ints : Making → Bool
sizes_are_ints (with_sizes xs) = list_all (λ x. is_int x.kind) xs
sizes_are_ints (with_arguments xs) = true

-- only members are static, and what is constructed has no `@`
abbrev pub has_place : DeclHead → Making → Bool
has_place h (with_sizes xs) = not h.is_static
has_place h (with_arguments xs) = not h.is_static && not h.is_reference

-- what an expression stands for, and the scope behind it
pub record Meant : Type 0 where
  pub means : Denotation
  pub scope : Scope

abbrev pub in_scope : Scope → Answer Denotation → Answer Meant
in_scope s a = and_then a (λ m. gives (record { means = m; scope = s }))

abbrev pub declared_field : Table → Scope → (line : ℕ) → (field : ℕ) → (is_reference : Bool) →
    Kind → Making → Option ℕ → Answer Denotation
declared_field t s l i r k making None = wrong s.file l BadPlace
declared_field t s l i r k making (Some this) =
    declared_at t s l (spot.Field i)
    (one (typed.Variadic (variadic.Read (spot.Local this)) typed.no_exprs (place s l)))
    r k making

abbrev pub declared_member : Table → Scope → (line : ℕ) → DeclHead → Making → Option Member →
    Answer Denotation
declared_member t s l h making (Some (member.Field i k)) =
    declared_field t s l i h.is_reference k making (this_local t s)
declared_member t s l h making (Some (member.Static i k)) =
    gives (declared_static i h.is_reference k making (place s l))
declared_member t s l h making _ = wrong s.file l UnknownName

abbrev pub declared_variable : Table → Scope → (line : ℕ) → DeclHead → Making → Option Variable →
    Answer Meant
declared_variable t s l h making None = wrong s.file l UnknownName
declared_variable t s l h making (Some v) =
    in_scope (reach s (v.index + 1))
    (declared_at t s l (spot.Static v.index) typed.no_exprs h.is_reference v.kind making)

abbrev pub declared_global : Table → Scope → (line : ℕ) → DeclHead → Name → Making → Option ℕ →
    Answer Meant
declared_global t s l h n making None =
    declared_variable t s l h making (variable_named t s.file n)
declared_global t s l h n making (Some c) =
    in_scope s (declared_member t s l h making (member_here t (Some c) n))

abbrev pub declared_local : Table → Scope → (line : ℕ) → DeclHead → Name → Making → Option Kind →
    Answer Meant
declared_local t s l h n making None = wrong s.file l Mismatch
declared_local t s l h n making (Some k) =
    if not (sizes_are_ints making) then wrong s.file l Mismatch
    else and_then
    (declared_at t s l (spot.Local (length s.locals)) typed.no_exprs h.is_reference k making) (λ m.
    if has_place h making then gives (record { means = m; scope = with_local s n k })
    else wrong s.file l BadPlace)

-- `auto` is written with nothing but its name, and is no member of a class
abbrev pub is_bare : Declr → Bool
is_bare (declr n bs) = has_none bs
is_bare (declr_with n es) = false

abbrev pub has_auto_form : Scope → DeclHead → Declr → Bool
has_auto_form s h x =
    not h.is_static && not h.is_reference && is_bare x
    && not (declares_globals s && is_some s.class)

-- it isn't declared before it has a kind
abbrev pub auto_meaning : Scope → (line : ℕ) → DeclHead → Declr → Answer Meant
auto_meaning s l h x =
    if not (declares_globals s) && is_declared s (declr_name x) then wrong s.file l Duplicate
    else gives (record { means = an_auto (declr_name x) (has_auto_form s h x); scope = s })

abbrev pub declared_as : Table → Scope → (line : ℕ) → DeclHead → Declr → Making → Named →
    Answer Meant
declared_as t s l h x making named =
    if declares_globals s
    then (if sizes_are_ints making then declared_global t s l h (declr_name x) making s.class
    else wrong s.file l Mismatch)
    else if is_unknown named then wrong s.file l UnknownName
    else if is_declared s (declr_name x) then wrong s.file l Duplicate
    else declared_local t s l h (declr_name x) making (written_kind h named x)

abbrev pub declared_with : Table → Scope → (line : ℕ) → DeclHead → Declr → Making → Option Base →
    Answer Meant
declared_with t s l h x making None = auto_meaning s l h x
declared_with t s l h x making (Some base) =
    declared_as t s l h x making (named_by t s.file base)

abbrev pub declaration_meaning : Table → Scope → (line : ℕ) → DeclHead → Declr → Making →
    Answer Meant
declaration_meaning t s l h x making = declared_with t s l h x making h.base

-- the chuck operator ----------------------------------------------------------------------------

abbrev pub not_assignable : Scope → (line : ℕ) → Answer Denotation
not_assignable s l = wrong s.file l NotAssignable

abbrev pub is_ugen : Kind → Bool
is_ugen (kind.One (elem.Unit k)) = true
is_ugen _ = false

-- `l => now`: a dur, a time or an event is waited for
abbrev pub wait_meaning : (parents : List ℕ) → Scope → (line : ℕ) → Typed → Kind → Answer Denotation
wait_meaning parents s l x (kind.One elem.Dur) =
    value_at s l (typed.Unary unary.WaitDur x.expr (place s l)) (kind.One elem.Time)
wait_meaning parents s l x (kind.One elem.Time) =
    value_at s l (typed.Unary unary.WaitTime x.expr (place s l)) (kind.One elem.Time)
wait_meaning parents s l x (kind.One (elem.Class c)) =
    if is_below parents c 1
    then value_at s l (typed.Unary unary.WaitEvent x.expr (place s l)) (kind.One elem.Time)
    else not_assignable s l
wait_meaning parents s l x _ = not_assignable s l

-- `l +=> now` takes a dur
abbrev pub later_meaning : Scope → (line : ℕ) → Typed → Kind → Answer Denotation
later_meaning s l x (kind.One elem.Dur) =
    value_at s l (typed.Unary unary.WaitDur x.expr (place s l)) (kind.One elem.Time)
later_meaning s l x _ = mismatch s l

-- what is chucked to `now`
abbrev pub now_meaning : (parents : List ℕ) → Scope → (line : ℕ) → ChuckOp → Typed → Answer Denotation
now_meaning parents s l chuck_op.Chuck x = wait_meaning parents s l x x.kind
now_meaning parents s l chuck_op.Add x = later_meaning s l x x.kind
now_meaning parents s l chuck_op.Unchuck x = mismatch s l
now_meaning parents s l _ x = not_assignable s l

-- the one of one
abbrev pub first_of : typed.Exprs → typed.Expr → typed.Expr
first_of typed.no_exprs other = other
first_of (typed.more_exprs e es) other = e

-- `l => f`: the call with one argument
abbrev pub chuck_callee : Table → Scope → (line : ℕ) → Typed → Callee → Answer Denotation
chuck_callee t s l x (numbered f) =
    called s l (fun_of t f).result (fitted t.parents (x ∷ []) (fun_of t f).params)
    (λ es. typed.Variadic (variadic.Call f) es (place s l))
chuck_callee t s l x (through o f) =
    called s l (fun_of t f).result (fitted t.parents (x ∷ []) (fun_of t f).params)
    (λ es. typed.Binary (binary.ChuckCallOf f) (first_of es x.expr) o (place s l))
chuck_callee t s l x (method o f k) =
    called s l (fun_of t f).result (fitted t.parents (x ∷ []) (fun_of t f).params)
    (λ es. typed.Binary (binary.ChuckMethod k) (first_of es x.expr) o (place s l))
chuck_callee t s l x (native h n) =
    native_call t.parents s l (x ∷ []) (call_of h n 1)
    (λ k es. typed.Variadic (variadic.Native k) es (place s l))
chuck_callee t s l x (native_on o h n) =
    native_call t.parents s l (x ∷ []) (call_of h n 1)
    (λ k es. typed.Binary (binary.ChuckNative k) (first_of es x.expr) o (place s l))
chuck_callee t s l x (param u p) =
    if may_take t.parents p x
    then value_at s l
    (typed.Binary (binary.ChuckParam p.param) (taken_as x (kind.One p.elem)) u (place s l))
    (kind.One p.elem)
    else wrong s.file l Arguments
chuck_callee t s l x _ = wrong s.file l Arguments

-- a value to a variable, field or item
abbrev pub assigned : (parents : List ℕ) → Scope → (line : ℕ) → Typed → Spot → typed.Exprs → Kind →
    Answer Denotation
assigned parents s l x spot address k =
    if fits parents x k then value_at s l (typed.Assign (taken_as x k) spot address (place s l)) k
    else mismatch s l

-- `=>` assigns no references
abbrev pub chuck_assigned : (parents : List ℕ) → Scope → (line : ℕ) → Typed → Spot → typed.Exprs →
    Kind → Answer Denotation
chuck_assigned parents s l x spot address k =
    if are_references k then not_assignable s l else assigned parents s l x spot address k

-- to a declaration
abbrev pub declared_assigned : (parents : List ℕ) → Scope → (line : ℕ) → Typed → Declaration →
    Answer Denotation
declared_assigned parents s l x d =
    if not (fits parents x d.kind) then mismatch s l
    else if d.makes
    then value_at s l
    (typed.AssignDeclared (taken_as x d.kind) d.alone d.spot d.address (place s l)) d.kind
    else value_at s l (typed.Assign (taken_as x d.kind) d.spot d.address (place s l)) d.kind

abbrev pub connected : Scope → (line : ℕ) → (from to : Typed) → Answer Denotation
connected s l x y = value_at s l (typed.Binary binary.Connect x.expr y.expr (place s l)) y.kind

-- `l => r` to what isn't called: a connection, or an assignment
abbrev pub chuck_place : (parents : List ℕ) → Scope → (line right_line : ℕ) → Typed → Denotation →
    Answer Denotation
chuck_place parents s l k x (at spot address to) =
    if is_ugen x.kind && is_ugen to
    then and_then (as_value s k (at spot address to)) (λ y. connected s l x y)
    else chuck_assigned parents s l x spot address to
chuck_place parents s l k x (declared d) =
    if is_ugen x.kind && is_ugen d.kind
    then and_then (as_value s k (declared d)) (λ y. connected s l x y)
    else if are_references d.kind then not_assignable s l else declared_assigned parents s l x d
chuck_place parents s l k x (value y) =
    if is_ugen x.kind && is_ugen y.kind then connected s l x y else not_assignable s l
chuck_place parents s l k x _ = not_assignable s l

abbrev pub chuck_to : Table → Scope → (line right_line : ℕ) → Typed → Denotation → Answer Denotation
chuck_to t s l k x (callable c) = chuck_callee t s l x c
chuck_to t s l k x m = chuck_place t.parents s l k x m

-- `l @=> r`
abbrev pub assign_to : (parents : List ℕ) → Scope → (line : ℕ) → Typed → Denotation → Answer Denotation
assign_to parents s l x (at spot address k) = assigned parents s l x spot address k
assign_to parents s l x (declared d) = declared_assigned parents s l x d
assign_to parents s l x _ = not_assignable s l

-- the operator in `op=>`
abbrev pub updating : ChuckOp → Option BinaryOp
updating chuck_op.Add = Some binary_op.Add
updating chuck_op.Sub = Some binary_op.Sub
updating chuck_op.Mul = Some binary_op.Mul
updating chuck_op.Div = Some binary_op.Div
updating chuck_op.Mod = Some binary_op.Mod
updating chuck_op.And = Some binary_op.And
updating chuck_op.Or = Some binary_op.Or
updating chuck_op.Xor = Some binary_op.Xor
updating _ = None

-- `r op l` fits r; no row that fits widens r
abbrev pub updated_by : (parents : List ℕ) → Scope → (line : ℕ) → Typed → Spot → typed.Exprs →
    Kind → Option Joined → Answer Denotation
updated_by parents s l x spot address k None = mismatch s l
updated_by parents s l x spot address k (Some j) =
    if kind_fits parents (kind.One j.gives) k && not j.widens_left
    then value_at s l
    (typed.Update j.code (widened_if j.widens_right x) spot address (place s l)) k
    else mismatch s l

abbrev pub update_to : (parents : List ℕ) → Scope → (line : ℕ) → BinaryOp → Typed → Denotation →
    Answer Denotation
update_to parents s l o x (at spot address k) =
    updated_by parents s l x spot address k (joined parents o k x.kind)
update_to parents s l o x _ = not_assignable s l

-- `=<` takes two unit generators
abbrev pub disconnected : Scope → (line : ℕ) → (from to : Typed) → Answer Denotation
disconnected s l x y =
    if is_ugen x.kind && is_ugen y.kind
    then value_at s l (typed.Binary binary.Disconnect x.expr y.expr (place s l)) y.kind
    else mismatch s l

abbrev pub update_or : (parents : List ℕ) → Scope → (line : ℕ) → Typed → Denotation → Option BinaryOp →
    Answer Denotation
update_or parents s l x m None = not_assignable s l
update_or parents s l x m (Some o) = update_to parents s l o x m

abbrev pub chuck_meaning : Table → Scope → (line right_line : ℕ) → ChuckOp → Typed → Denotation →
    Answer Denotation
chuck_meaning t s l k chuck_op.Chuck x m = chuck_to t s l k x m
chuck_meaning t s l k chuck_op.Assign x m = assign_to t.parents s l x m
chuck_meaning t s l k chuck_op.Unchuck x m = and_then (as_value s k m) (λ y. disconnected s l x y)
chuck_meaning t s l k o x m = update_or t.parents s l x m (updating o)

abbrev pub is_now : Expr → Bool
is_now (tree.constant l constant.Now) = true
is_now _ = false

-- `me.yield` and `me.exit` are forms of the word `me`
abbrev pub wait_word : Expr → Name → Option Callee
wait_word (tree.constant l constant.Me) n =
    if bytes_eq n (codes "yield") then Some yields else if bytes_eq n (codes "exit") then Some exits
    else None
wait_word _ n = None

abbrev pub member_or_wait : Table → Scope → (line object_line : ℕ) → Denotation → Name → Option Callee →
    Answer Denotation
member_or_wait t s l k m n (Some c) = gives (callable c)
member_or_wait t s l k m n None = member_meaning t s l k m n

-- to a declaration with `auto` -----------------------------------------------------------------

-- the value is assigned to what has been declared here with its kind
abbrev pub assigned_to : Spot → Typed → (line : ℕ) → Scope → Answer Meant
assigned_to to x l s =
    in_scope s (value_at s l (typed.Assign x.expr to typed.no_exprs (place s l)) x.kind)

abbrev pub auto_variable : Scope → (line auto_line : ℕ) → Typed → Option Variable → Answer Meant
auto_variable s l k x None = wrong s.file k UnknownName
auto_variable s l k x (Some v) =
    if is_void (kind_now s v) then assigned_to (spot.Static v.index) x l (settle s v.index x.kind)
    else wrong s.file k Duplicate

-- a class has no such member
abbrev pub auto_global : Table → Scope → (line auto_line : ℕ) → Typed → Name → Option ℕ →
    Answer Meant
auto_global t s l k x n None = auto_variable s l k x (variable_named t s.file n)
auto_global t s l k x n (Some c) = wrong s.file k BadPlace

abbrev pub auto_declared : Table → Scope → (line auto_line : ℕ) → Typed → Name → Answer Meant
auto_declared t s l k x n =
    if declares_globals s then auto_global t s l k x n s.class
    else if is_declared s n then wrong s.file k Duplicate
    else assigned_to (spot.Local (length s.locals)) x l (with_local s n x.kind)

-- void, and the literal `null`, are no types of a variable
abbrev pub is_no_type : Kind → Bool
is_no_type kind.Void = true
is_no_type kind.Null = true
is_no_type _ = false

abbrev pub auto_assigned : Table → Scope → (line auto_line : ℕ) → (takes_references : Bool) →
    Typed → Name → (has_form : Bool) → Answer Meant
auto_assigned t s l k takes_references x n has_form =
    if is_no_type x.kind then wrong s.file k Mismatch
    else if not has_form then wrong s.file k BadPlace
    else if not takes_references && are_references x.kind then wrong s.file l NotAssignable
    else auto_declared t s l k x n

-- only `=>` and `@=>` give a kind
abbrev pub auto_chucked : Table → Scope → (line auto_line : ℕ) → ChuckOp → Typed → Name →
    (has_form : Bool) → Answer Meant
auto_chucked t s l k chuck_op.Chuck x n has_form = auto_assigned t s l k false x n has_form
auto_chucked t s l k chuck_op.Assign x n has_form = auto_assigned t s l k true x n has_form
auto_chucked t s l k _ x n has_form = wrong s.file k BadPlace

abbrev pub chucked : Table → Scope → (line : ℕ) → ChuckOp → Typed → Expr → Denotation →
    Answer Meant
chucked t s l o x b (an_auto n has_form) = auto_chucked t s l (expr_line b) o x n has_form
chucked t s l o x b m =
    in_scope s
    (if is_now b then now_meaning t.parents s l o x
    else chuck_meaning t s l (expr_line b) o x m)

-- all expressions -------------------------------------------------------------------------------

-- an expression's value, and the scope behind it
pub record Valued : Type 0 where
  pub typed : Typed
  pub scope : Scope

abbrev pub value_of : (line : ℕ) → Answer Meant → Answer Valued
value_of l a =
    and_then a (λ m. and_then (as_value m.scope l m.means)
    (λ x. gives (record { typed = x; scope = m.scope })))

-- the values of a list
pub record AllValued : Type 0 where
  pub typed : List Typed
  pub scope : Scope

abbrev pub none_valued : Scope → AllValued
none_valued s = record { typed = []; scope = s }

abbrev pub and_valued : AllValued → Valued → AllValued
and_valued all x = record { typed = all.typed ++ x.typed ∷ []; scope = x.scope }

abbrev mutual
  pub meaning : Table → Scope → Expr → Answer Meant
  meaning t s (tree.int l v) =
      in_scope s (value_at s l (typed.Leaf (leaf.Int v) (place s l)) (kind.One elem.Int))
  meaning t s (tree.float l v) =
      in_scope s (value_at s l (typed.Leaf (leaf.Float v) (place s l)) (kind.One elem.Float))
  meaning t s (tree.text l v) =
      in_scope s (value_at s l (typed.Text v (place s l)) (kind.One elem.Text))
  meaning t s (tree.name l n) = in_scope s (name_meaning t s l n)
  meaning t s (tree.constant l c) = in_scope s (word_meaning t s l c)
  meaning t s (tree.time_unit l u) =
      in_scope s (value_at s l (typed.Leaf (leaf.Dur (pos (whole_samples u))) (place s l))
      (kind.One elem.Dur))
  meaning t s (tree.paren l e) =
      and_then (value_of (expr_line e) (meaning t s e)) (λ x.
      in_scope x.scope (gives (value (record x.typed { place = place s l }))))
  meaning t s (tree.array l es) =
      and_then (values t s es) (λ xs.
      in_scope xs.scope (array_meaning t.parents xs.scope l xs.typed))
  meaning t s (tree.call l f es) =
      and_then (meaning t s f) (λ m.
      and_then (values t m.scope es) (λ xs.
      in_scope xs.scope (call_meaning t xs.scope l m.means xs.typed)))
  meaning t s (tree.index l a i) =
      and_then (value_of (expr_line a) (meaning t s a)) (λ x.
      and_then (value_of (expr_line i) (meaning t x.scope i)) (λ y.
      in_scope y.scope (item_meaning y.scope l x.typed y.typed)))
  meaning t s (tree.member l o n) =
      and_then (meaning t s o) (λ m.
      in_scope m.scope (member_or_wait t m.scope l (expr_line o) m.means n (wait_word o n)))
  meaning t s (tree.postfix l e o) =
      and_then (meaning t s e) (λ m.
      in_scope m.scope (postfix_meaning m.scope l o m.means))
  meaning t s (tree.dur l e d) =
      and_then (value_of (expr_line e) (meaning t s e)) (λ x.
      and_then (value_of (expr_line d) (meaning t x.scope d)) (λ y.
      in_scope y.scope (dur_meaning y.scope l x.typed y.typed (unit_in d))))
  meaning t s (tree.prefix l o e) =
      and_then (meaning t s e) (λ m.
      in_scope m.scope (prefix_meaning m.scope l (expr_line e) o m.means))
  meaning t s (tree.new l b es) =
      and_then (values t s es) (λ xs.
      in_scope xs.scope (new_meaning t xs.scope l (named_by t xs.scope.file b) xs.typed))
  meaning t s (tree.new_with l b es) =
      and_then (values t s es) (λ xs.
      in_scope xs.scope (new_with_meaning t xs.scope l (named_by t xs.scope.file b) xs.typed))
  meaning t s (tree.spork l (tree.call k f es)) =
      and_then (meaning t s f) (λ m.
      and_then (values t m.scope es) (λ xs.
      in_scope xs.scope (spork_meaning t xs.scope l k m.means xs.typed)))
  meaning t s (tree.spork l e) =
      and_then (value_of (expr_line e) (meaning t s e)) (λ x.
      wrong s.file l NotCallable)
  meaning t s (tree.cast l e target) =
      and_then (value_of (expr_line e) (meaning t s e)) (λ x.
      in_scope x.scope
      (cast_meaning t.parents x.scope l x.typed (named_by t x.scope.file target.base)
      target.brackets))
  meaning t s (tree.binary l a o b) =
      and_then (value_of (expr_line a) (meaning t s a)) (λ x.
      and_then (value_of (expr_line b) (meaning t x.scope b)) (λ y.
      in_scope y.scope (binary_meaning t.parents y.scope l o x.typed y.typed)))
  meaning t s (tree.choice l c a b) =
      and_then (value_of (expr_line c) (meaning t s c)) (λ x.
      and_then (value_of (expr_line a) (meaning t x.scope a)) (λ y.
      and_then (value_of (expr_line b) (meaning t y.scope b)) (λ z.
      in_scope z.scope (choice_meaning t.parents z.scope l x.typed y.typed z.typed))))
  meaning t s (tree.declare l h (declr n bs)) =
      and_then (sizes t s bs) (λ xs.
      declaration_meaning t xs.scope l h (declr n bs) (with_sizes xs.typed))
  meaning t s (tree.declare l h (declr_with n es)) =
      and_then (values t (in_arguments s n) es) (λ xs.
      declaration_meaning t (behind_arguments xs.scope) l h (declr_with n es)
      (with_arguments xs.typed))
  meaning t s (tree.chuck l a o b) =
      and_then (value_of (expr_line a) (meaning t s a)) (λ x.
      and_then (meaning t x.scope b) (λ m.
      chucked t m.scope l o x.typed b m.means))

  -- the values of a list
  pub values : Table → Scope → Exprs → Answer AllValued
  values t s no_exprs = gives (none_valued s)
  values t s (and_expr es e) =
      and_then (values t s es) (λ xs.
      and_then (value_of (expr_line e) (meaning t xs.scope e)) (λ x.
      gives (and_valued xs x)))

  -- the sizes in brackets
  pub sizes : Table → Scope → Brackets → Answer AllValued
  sizes t s no_brackets = gives (none_valued s)
  sizes t s (and_empty bs) = sizes t s bs
  sizes t s (and_size bs e) =
      and_then (sizes t s bs) (λ xs.
      and_then (value_of (expr_line e) (meaning t xs.scope e)) (λ x.
      gives (and_valued xs x)))

-- the value of an expression
abbrev pub typing : Table → Scope → Expr → Answer Valued
typing t s e = value_of (expr_line e) (meaning t s e)
