-- What an expression stands for lies in the files of the program, and what is wrong with it stands
-- in the file of its scope, which is also that of the scope behind it.
use Rattle.std.proofs.Common.{◌≡◌, ◌∙◌, ℕ, ◌+◌, ◌<◌, Bool, true, false, not, ◌&&◌, ◌||◌, if◌then◌else◌, List, [], ◌∷◌, length, Option, Some, None, refl, sym, subst}
use Rattle.std.specs.Prelude.{IfSome, codes}
use Rattle.std.specs.Str.{bytes_eq}
use Rattle.ck_values.specs.declared.kind.Elem.{Elem}
use Rattle.ck_values.specs.declared.kind.Elem.TheVariants as elem
use Rattle.ck_values.specs.declared.kind.Kind.{Kind}
use Rattle.ck_values.specs.declared.kind.Kind.TheVariants.{One}
use Rattle.ck_values.specs.declared.trap.Place.{Place}
use Rattle.ck_syntax.specs.declared.declaration.Base.{Base}
use Rattle.ck_syntax.specs.declared.declaration.DeclHead.{DeclHead}
use Rattle.ck_syntax.specs.declared.operator.BinaryOp.{BinaryOp}
use Rattle.ck_syntax.specs.declared.operator.ChuckOp.{ChuckOp}
use Rattle.ck_syntax.specs.declared.operator.ChuckOp.TheVariants as chuck_op
use Rattle.ck_syntax.specs.declared.operator.Constant.TheVariants as constant
use Rattle.ck_syntax.specs.Tree as tree
use Rattle.ck_syntax.specs.Tree.{Name, Expr, expr_line, Exprs, no_exprs, and_expr, Brackets, no_brackets, and_empty, and_size, Declr, declr, declr_with, declr_name}
use Rattle.ck_typed.specs.declared.expr.Spot.{Spot}
use Rattle.ck_typed.specs.declared.expr.Spot.TheVariants as spot
use Rattle.ck_typed.specs.declared.operation.Unary.TheVariants as unary
use Rattle.ck_typed.specs.declared.operation.Variadic.TheVariants as variadic
use Rattle.ck_typed.specs.Tree as typed
use Rattle.ck_typed.specs.WellFormed.{LiesIn, ExprLies, ExprsLie}
use Rattle.type_rules.specs.Calls.{call_of}
use Rattle.type_rules.specs.Fitting.{is_below, kind_fits}
use Rattle.type_rules.specs.Operators.{are_references, joined}
use Rattle.type_rules.specs.declared.operators.Joined.{Joined}
use Rattle.type_table.specs.Answer.{Answer, gives, refused, and_then, wrong}
use Rattle.type_table.specs.declared.fault.FaultKind.TheVariants.{NotCallable, BadPlace}
use Rattle.type_table.specs.declared.table.Member.{Member}
use Rattle.type_table.specs.declared.table.Member.TheVariants as member
use Rattle.type_table.specs.declared.table.Variable.{Variable}
use Rattle.type_table.specs.Table.{Table, fun_of, variable_named}
use Rattle.type_table.specs.declared.types.Named.{Named}
use Rattle.type_table.specs.Types.{named_by, is_unknown, is_plain, written_kind}
use Rattle.type_table.proofs.FaultFiles.{Placed, placed_then, placed_if}
use Rattle.type_table.proofs.Ranges.{Each}
use Rattle.check_scope.specs.Expressions as e
use Rattle.check_scope.specs.Expressions.{Making, with_sizes, with_arguments, Meant, Valued, AllValued, in_scope, value_of, meaning, values, sizes, typing}
use Rattle.check_scope.specs.Denotations.{Typed, Callee, numbered, through, method, native, native_on, param, yields, exits, Declaration, Denotation, value, at, callable, a_type, declared, an_auto, is_void, one, as_value, member_here}
use Rattle.check_scope.specs.Scope.{Scope, reach, settle, kind_now, place, is_declared, with_local, this_local, declares_globals, in_arguments, behind_arguments}
use Rattle.expr_laws.proofs.NameFiles.{TypedLies, CalleeLies, Lies, IsIn, as_value_in, name_in, member_in}
use Rattle.expr_laws.proofs.OperationFiles.{taken_lies, widened_lies, fitted_lie, word_in, binary_in, prefix_in, postfix_in, dur_in, cast_in, choice_in, array_in, item_in, object_made_in, maker_in, new_in, new_with_in, called_in, native_call_in, call_in, spork_in}
use Rattle.expr_laws.proofs.ScopeLaws.{each_and}

module _ (files : ℕ) where
  -- the first of some, or another
  first_lies : (es : typed.Exprs) (other : typed.Expr) → ExprsLie files es → ExprLies files other
      → ExprLies files (e.first_of es other)
  first_lies typed.no_exprs other lie lies = lies
  first_lies (typed.more_exprs x es) other lie lies = lie.0

  -- `me.yield` and `me.exit`
  wait_word_lies : (o : Expr) (n : Name) → IfSome (e.wait_word o n) (CalleeLies files)
  wait_word_lies (tree.constant l constant.Me) n =
      go (bytes_eq n (codes "yield")) (bytes_eq n (codes "exit"))
    where
      go : (a b : Bool)
          → IfSome (if a then Some yields else if b then Some exits else None) (CalleeLies files)
      go true b = tt
      go false true = tt
      go false false = tt
  wait_word_lies _ n = tt

  -- first values ----------------------------------------------------------------------------------

  null_lies : (k : Kind) (p : Place) → LiesIn files p → ExprLies files (e.null_of k p)
  null_lies (One elem.Shred) p lies = lies
  null_lies (One _) p lies = lies
  null_lies _ p lies = lies

  -- what a first value is made of
  abbrev pub PartsLie : Making → Type 0
  PartsLie (with_sizes xs) = Each (TypedLies files) xs
  PartsLie (with_arguments xs) = Each (TypedLies files) xs

module _ (files : ℕ) (s : Scope) (here : s.file < files) (l : ℕ) where
  -- an answer that lies here
  abbrev Is : Answer Denotation → Type 0
  Is a = IsIn files s.file a

  if_is : (c : Bool) (a b : Answer Denotation) → Is a → Is b → Is (if c then a else b)
  if_is c a b one other = placed_if (Lies files) s.file c a b one other

  -- first values ----------------------------------------------------------------------------------

  abbrev First : Answer typed.Expr → Type 0
  First a = Placed (ExprLies files) s.file a

  default_in : (t : Table) (i : Elem) → First (e.default_value t s l i)
  default_in t (elem.Class c) = object_made_in files s here l t (elem.Class c) [] tt
  default_in t (elem.Unit k) = object_made_in files s here l t (elem.Unit k) [] tt
  default_in t elem.Int = here
  default_in t elem.Float = here
  default_in t elem.Dur = here
  default_in t elem.Time = here
  default_in t elem.Text = here
  default_in t elem.Shred = here

  row_in : (t : Table) (r : Bool) (i : Elem) (x : typed.Expr) → ExprLies files x
      → First (e.row_of t s l r i x)
  row_in t r i x size =
      placed_if (ExprLies files) s.file (r || is_plain i) _ _ (size, here)
      (placed_then (λ _. Unit {0}) (ExprLies files) s.file (e.maker_of t s l i) _
      (maker_in files s here l t i) (λ c so. (size, here)))

  first_value_in : (t : Table) (r : Bool) (k : Kind) (making : Making) → PartsLie files making
      → First (e.first_value t s l r k making)
  first_value_in t r k (with_arguments xs) lie =
      object_made_in files s here l t (e.elem_of k) xs lie
  first_value_in t true k (with_sizes []) lie = null_lies files k (place s l) here
  first_value_in t false (One i) (with_sizes []) lie = default_in t i
  first_value_in t false k (with_sizes []) lie = null_lies files k (place s l) here
  first_value_in t r k (with_sizes (x ∷ [])) lie = row_in t r (e.elem_of k) x.expr lie.0.0
  first_value_in t r k (with_sizes (x ∷ y ∷ rest)) lie = (lie.0.0, lie.1.0.0, here)

  declared_at_in : (t : Table) (spot : Spot) (address : typed.Exprs) (r : Bool) (k : Kind)
      (making : Making) → ExprsLie files address → PartsLie files making
      → Is (e.declared_at t s l spot address r k making)
  declared_at_in t spot address r k making so lie =
      placed_then (ExprLies files) (Lies files) s.file (e.first_value t s l r k making) _
      (first_value_in t r k making lie) (λ x lies. (so, (lies, so, here)))

  -- the chuck operator ----------------------------------------------------------------------------

  wait_in : (parents : List ℕ) (x : Typed) (k : Kind) → TypedLies files x
      → Is (e.wait_meaning parents s l x k)
  wait_in parents x (One elem.Dur) lies = ((lies.0, here), here)
  wait_in parents x (One elem.Time) lies = ((lies.0, here), here)
  wait_in parents x (One (elem.Class c)) lies =
      if_is (is_below parents c 1) _ _ ((lies.0, here), here) refl
  wait_in parents x _ lies = refl

  later_in : (x : Typed) (k : Kind) → TypedLies files x → Is (e.later_meaning s l x k)
  later_in x (One elem.Dur) lies = ((lies.0, here), here)
  later_in x _ lies = refl

  now_in : (parents : List ℕ) (o : ChuckOp) (x : Typed) → TypedLies files x
      → Is (e.now_meaning parents s l o x)
  now_in parents chuck_op.Chuck x lies = wait_in parents x x.kind lies
  now_in parents chuck_op.Add x lies = later_in x x.kind lies
  now_in parents _ x lies = refl

  chuck_callee_in : (t : Table) (x : Typed) (c : Callee) → TypedLies files x → CalleeLies files c
      → Is (e.chuck_callee t s l x c)
  chuck_callee_in t x (numbered f) lies so =
      called_in files s here l (fun_of t f).result
      (e.fitted t.parents (x ∷ []) (fun_of t f).params) _
      (fitted_lie files t.parents (x ∷ []) (fun_of t f).params (lies, tt)) (λ es are. (are, here))
  chuck_callee_in t x (through o f) lies so =
      called_in files s here l (fun_of t f).result
      (e.fitted t.parents (x ∷ []) (fun_of t f).params) _
      (fitted_lie files t.parents (x ∷ []) (fun_of t f).params (lies, tt))
      (λ es are. (first_lies files es x.expr are lies.0, so, here))
  chuck_callee_in t x (method o f k) lies so =
      called_in files s here l (fun_of t f).result
      (e.fitted t.parents (x ∷ []) (fun_of t f).params) _
      (fitted_lie files t.parents (x ∷ []) (fun_of t f).params (lies, tt))
      (λ es are. (first_lies files es x.expr are lies.0, so, here))
  chuck_callee_in t x (native h n) lies so =
      native_call_in files s here l t.parents (x ∷ []) (call_of h n 1) _ (lies, tt)
      (λ k es are. (are, here))
  chuck_callee_in t x (native_on o h n) lies so =
      native_call_in files s here l t.parents (x ∷ []) (call_of h n 1) _ (lies, tt)
      (λ k es are. (first_lies files es x.expr are lies.0, so, here))
  chuck_callee_in t x (param u p) lies so =
      if_is (not p.is_read_only && e.fits t.parents x (One p.elem)) _ _
      ((taken_lies files x (One p.elem) lies, so, here), here) refl
  chuck_callee_in t x _ lies so = refl

  assigned_in : (parents : List ℕ) (x : Typed) (spot : Spot) (address : typed.Exprs) (k : Kind)
      → TypedLies files x → ExprsLie files address → Is (e.assigned parents s l x spot address k)
  assigned_in parents x spot address k lies so =
      if_is (e.fits parents x k) _ _ ((taken_lies files x k lies, so, here), here) refl

  chuck_assigned_in : (parents : List ℕ) (x : Typed) (spot : Spot) (address : typed.Exprs) (k : Kind)
      → TypedLies files x → ExprsLie files address
      → Is (e.chuck_assigned parents s l x spot address k)
  chuck_assigned_in parents x spot address k lies so =
      if_is (are_references k) _ _ refl (assigned_in parents x spot address k lies so)

  declared_assigned_in : (parents : List ℕ) (x : Typed) (d : Declaration) → TypedLies files x
      → Lies files (declared d) → Is (e.declared_assigned parents s l x d)
  declared_assigned_in parents x d lies so =
      let taken = taken_lies files x d.kind lies in
      if_is (not (e.fits parents x d.kind)) _ _ refl
      (if_is d.makes _ _ ((taken, so.1, so.0, here), here) ((taken, so.0, here), here))

  chuck_place_in : (parents : List ℕ) (k : ℕ) (x : Typed) (y : Denotation) → TypedLies files x
      → Lies files y → Is (e.chuck_place parents s l k x y)
  chuck_place_in parents k x (at spot address to) lies so =
      if_is (e.is_ugen x.kind && e.is_ugen to) _ _ ((lies.0, (so, here), here), here)
      (chuck_assigned_in parents x spot address to lies so)
  chuck_place_in parents k x (declared d) lies so =
      if_is (e.is_ugen x.kind && e.is_ugen d.kind) _ _ ((lies.0, so.1, here), here)
      (if_is (are_references d.kind) _ _ refl (declared_assigned_in parents x d lies so))
  chuck_place_in parents k x (value y) lies so =
      if_is (e.is_ugen x.kind && e.is_ugen y.kind) _ _ ((lies.0, so.0, here), here) refl
  chuck_place_in parents k x _ lies so = refl

  chuck_to_in : (t : Table) (k : ℕ) (x : Typed) (y : Denotation) → TypedLies files x → Lies files y
      → Is (e.chuck_to t s l k x y)
  chuck_to_in t k x (callable c) lies so = chuck_callee_in t x c lies so
  chuck_to_in t k x y lies so = chuck_place_in t.parents k x y lies so

  assign_to_in : (parents : List ℕ) (x : Typed) (y : Denotation) → TypedLies files x → Lies files y
      → Is (e.assign_to parents s l x y)
  assign_to_in parents x (at spot address k) lies so = assigned_in parents x spot address k lies so
  assign_to_in parents x (declared d) lies so = declared_assigned_in parents x d lies so
  assign_to_in parents x _ lies so = refl

  updated_by_in : (parents : List ℕ) (x : Typed) (spot : Spot) (address : typed.Exprs) (k : Kind)
      (j : Option Joined) → TypedLies files x → ExprsLie files address
      → Is (e.updated_by parents s l x spot address k j)
  updated_by_in parents x spot address k None lies so = refl
  updated_by_in parents x spot address k (Some j) lies so =
      if_is (kind_fits parents (One j.gives) k && not j.widens_left) _ _
      ((widened_lies files j.widens_right x lies, so, here), here) refl

  update_to_in : (parents : List ℕ) (o : BinaryOp) (x : Typed) (y : Denotation)
      → TypedLies files x → Lies files y → Is (e.update_to parents s l o x y)
  update_to_in parents o x (at spot address k) lies so =
      updated_by_in parents x spot address k (joined parents o k x.kind) lies so
  update_to_in parents o x _ lies so = refl

  update_or_in : (parents : List ℕ) (x : Typed) (y : Denotation) (o : Option BinaryOp)
      → TypedLies files x → Lies files y → Is (e.update_or parents s l x y o)
  update_or_in parents x y None lies so = refl
  update_or_in parents x y (Some o) lies so = update_to_in parents o x y lies so

  disconnected_in : (x y : Typed) → TypedLies files x → TypedLies files y
      → Is (e.disconnected s l x y)
  disconnected_in x y lies so =
      if_is (e.is_ugen x.kind && e.is_ugen y.kind) _ _ ((lies.0, so.0, here), here) refl

  chuck_in : (t : Table) (k : ℕ) (o : ChuckOp) (x : Typed) (y : Denotation) → TypedLies files x
      → Lies files y → Is (e.chuck_meaning t s l k o x y)
  chuck_in t k chuck_op.Chuck x y lies so = chuck_to_in t k x y lies so
  chuck_in t k chuck_op.Assign x y lies so = assign_to_in t.parents x y lies so
  chuck_in t k chuck_op.Unchuck x y lies so =
      placed_then (TypedLies files) (Lies files) s.file (as_value s k y) _
      (as_value_in files s here k y so) (λ z it. disconnected_in x z lies it)
  chuck_in t k o x y lies so = update_or_in t.parents x y (e.updating o) lies so

  member_or_wait_in : (t : Table) (k : ℕ) (x : Denotation) (n : Name) (c : Option Callee)
      → IfSome c (CalleeLies files) → Lies files x → Is (e.member_or_wait t s l k x n c)
  member_or_wait_in t k x n (Some c) waits lies = waits
  member_or_wait_in t k x n None waits lies = member_in files t s here l k x n lies

  -- members that are declared ---------------------------------------------------------------------

  declared_field_in : (t : Table) (i : ℕ) (r : Bool) (k : Kind) (making : Making)
      (this : Option ℕ) → PartsLie files making → Is (e.declared_field t s l i r k making this)
  declared_field_in t i r k making None lie = refl
  declared_field_in t i r k making (Some this) lie =
      let object = typed.Variadic (variadic.Read (spot.Local this)) typed.no_exprs (place s l) in
      declared_at_in t (spot.Field i) (one object) r k making ((tt, here), tt) lie

  declared_member_in : (t : Table) (h : DeclHead) (making : Making) (x : Option Member)
      → PartsLie files making → Is (e.declared_member t s l h making x)
  declared_member_in t h making (Some (member.Field i k)) lie =
      declared_field_in t i h.is_reference k making (this_local t s) lie
  declared_member_in t h making (Some (member.Static i k)) lie = (tt, (tt, here))
  declared_member_in t h making _ lie = refl

-- scopes of this file -----------------------------------------------------------------------------

module _ (files f : ℕ) where
  abbrev pub MeantIn : Meant → Type 0
  MeantIn x = (x.scope.file ≡ f) × Lies files x.means

  abbrev pub ValuedIn : Valued → Type 0
  ValuedIn x = (x.scope.file ≡ f) × TypedLies files x.typed

  abbrev pub AllIn : AllValued → Type 0
  AllIn xs = (xs.scope.file ≡ f) × Each (TypedLies files) xs.typed

-- a file of the program
module _ (files f : ℕ) (known : f < files) where
  pub inside : (s : Scope) → s.file ≡ f → s.file < files
  inside s here = subst (λ file. file < files) (sym here) known

  abbrev M : Meant → Type 0
  M x = MeantIn files f x

  abbrev V : Valued → Type 0
  V x = ValuedIn files f x

  abbrev A : AllValued → Type 0
  A xs = AllIn files f xs

  in_scope_in : (s : Scope) (a : Answer Denotation) → s.file ≡ f → IsIn files s.file a
      → Placed M f (in_scope s a)
  in_scope_in s (gives x) here is = (here, is)
  in_scope_in s (refused why) here is = is ∙ here

  valued_in : (x : Meant) (a : Answer Typed) → x.scope.file ≡ f
      → Placed (TypedLies files) x.scope.file a
      → Placed V f (and_then a (λ y. gives (record { typed = y; scope = x.scope })))
  valued_in x (gives y) here is = (here, is)
  valued_in x (refused why) here is = is ∙ here

  value_in : (l : ℕ) (a : Answer Meant) → Placed M f a → Placed V f (value_of l a)
  value_in l a is =
      placed_then M V f a _ is (λ x so. valued_in x (as_value x.scope l x.means) so.0
      (as_value_in files x.scope (inside x.scope so.0) l x.means so.1))

  module _ (t : Table) where
    -- declarations --------------------------------------------------------------------------------

    variable_in : (s : Scope) (l : ℕ) (h : DeclHead) (making : Making) (v : Option Variable)
        → s.file ≡ f → PartsLie files making → Placed M f (e.declared_variable t s l h making v)
    variable_in s l h making None here lie = here
    variable_in s l h making (Some v) here lie =
        in_scope_in (reach s (v.index + 1)) _ here
        (declared_at_in files s (inside s here) l t (spot.Static v.index) typed.no_exprs
        h.is_reference v.kind making tt lie)

    global_in : (s : Scope) (l : ℕ) (h : DeclHead) (n : Name) (making : Making) (class : Option ℕ)
        → s.file ≡ f → PartsLie files making
        → Placed M f (e.declared_global t s l h n making class)
    global_in s l h n making None here lie =
        variable_in s l h making (variable_named t s.file n) here lie
    global_in s l h n making (Some c) here lie =
        in_scope_in s _ here
        (declared_member_in files s (inside s here) l t h making (member_here t (Some c) n) lie)

    behind_in : (s : Scope) (a : Answer Denotation) (next : Denotation → Answer Meant) → s.file ≡ f
        → IsIn files s.file a → ((m : Denotation) → Lies files m → Placed M f (next m))
        → Placed M f (and_then a next)
    behind_in s (gives m) next here is goes = goes m is
    behind_in s (refused why) next here is goes = is ∙ here

    local_in : (s : Scope) (l : ℕ) (h : DeclHead) (n : Name) (making : Making) (k : Option Kind)
        → s.file ≡ f → PartsLie files making → Placed M f (e.declared_local t s l h n making k)
    local_in s l h n making None here lie = here
    local_in s l h n making (Some k) here lie =
        placed_if M f (not (e.sizes_are_ints making)) _ _ here
        (behind_in s _ _ here (declared_at_in files s (inside s here) l t
        (spot.Local (length s.locals)) typed.no_exprs h.is_reference k making tt lie)
        (λ m lies. placed_if M f (e.has_place h making) _ _ (here, lies) here))

    auto_in : (s : Scope) (l : ℕ) (h : DeclHead) (x : Declr) → s.file ≡ f
        → Placed M f (e.auto_meaning s l h x)
    auto_in s l h x here =
        placed_if M f (not (declares_globals s) && is_declared s (declr_name x)) _ _ here (here, tt)

    declared_as_in : (s : Scope) (l : ℕ) (h : DeclHead) (x : Declr) (making : Making)
        (named : Named) → s.file ≡ f → PartsLie files making
        → Placed M f (e.declared_as t s l h x making named)
    declared_as_in s l h x making named here lie =
        placed_if M f (declares_globals s) _ _
        (placed_if M f (e.sizes_are_ints making) _ _
        (global_in s l h (declr_name x) making s.class here lie) here)
        (placed_if M f (is_unknown named) _ _ here
        (placed_if M f (is_declared s (declr_name x)) _ _ here
        (local_in s l h (declr_name x) making (written_kind h named x) here lie)))

    declared_with_in : (s : Scope) (l : ℕ) (h : DeclHead) (x : Declr) (making : Making)
        (base : Option Base) → s.file ≡ f → PartsLie files making
        → Placed M f (e.declared_with t s l h x making base)
    declared_with_in s l h x making None here lie = auto_in s l h x here
    declared_with_in s l h x making (Some b) here lie =
        declared_as_in s l h x making (named_by t s.file b) here lie

    declaration_in : (s : Scope) (l : ℕ) (h : DeclHead) (x : Declr) (making : Making)
        → s.file ≡ f → PartsLie files making → Placed M f (e.declaration_meaning t s l h x making)
    declaration_in s l h x making here lie = declared_with_in s l h x making h.base here lie

    -- a value to a declaration with `auto` --------------------------------------------------------

    assigned_to_in : (to : Spot) (x : Typed) (l : ℕ) (s : Scope) → s.file ≡ f
        → TypedLies files x → Placed M f (e.assigned_to to x l s)
    assigned_to_in to x l s here lies =
        in_scope_in s
        (e.value_at s l (typed.Assign x.expr to typed.no_exprs (place s l)) x.kind) here
        ((lies.0, tt, inside s here), inside s here)

    auto_variable_in : (s : Scope) (l k : ℕ) (x : Typed) (v : Option Variable) → s.file ≡ f
        → TypedLies files x → Placed M f (e.auto_variable s l k x v)
    auto_variable_in s l k x None here lies = here
    auto_variable_in s l k x (Some v) here lies =
        placed_if M f (is_void (kind_now s v)) _ _
        (assigned_to_in (spot.Static v.index) x l (settle s v.index x.kind) here lies) here

    auto_global_in : (s : Scope) (l k : ℕ) (x : Typed) (n : Name) (class : Option ℕ) → s.file ≡ f
        → TypedLies files x → Placed M f (e.auto_global t s l k x n class)
    auto_global_in s l k x n None here lies =
        auto_variable_in s l k x (variable_named t s.file n) here lies
    auto_global_in s l k x n (Some c) here lies = here

    auto_assigned_in : (s : Scope) (l k : ℕ) (r : Bool) (x : Typed) (n : Name) (has_form : Bool)
        → s.file ≡ f → TypedLies files x → Placed M f (e.auto_assigned t s l k r x n has_form)
    auto_assigned_in s l k r x n has_form here lies =
        placed_if M f (e.is_no_type x.kind) _ _ here (placed_if M f (not has_form) _ _ here
        (placed_if M f (not r && are_references x.kind) _ _ here
        (placed_if M f (declares_globals s) _ _
        (auto_global_in s l k x n s.class here lies)
        (placed_if M f (is_declared s n) _ _ here
        (assigned_to_in (spot.Local (length s.locals)) x l (with_local s n x.kind) here lies)))))

    auto_chucked_in : (s : Scope) (l k : ℕ) (o : ChuckOp) (x : Typed) (n : Name) (has_form : Bool)
        → s.file ≡ f → TypedLies files x → Placed M f (e.auto_chucked t s l k o x n has_form)
    auto_chucked_in s l k chuck_op.Chuck x n has_form here lies =
        auto_assigned_in s l k false x n has_form here lies
    auto_chucked_in s l k chuck_op.Assign x n has_form here lies =
        auto_assigned_in s l k true x n has_form here lies
    auto_chucked_in s l k _ x n has_form here lies = here

    module _ (s : Scope) (here : s.file ≡ f) (l : ℕ) (o : ChuckOp) (x : Typed) (b : Expr)
        (lies : TypedLies files x) where
      -- to anything else
      other_chucked_in : (m : Denotation) → Lies files m → Placed M f
          (in_scope s
          (if e.is_now b then e.now_meaning t.parents s l o x
          else e.chuck_meaning t s l (expr_line b) o x m))
      other_chucked_in m so =
          in_scope_in s _ here
          (placed_if (Lies files) s.file (e.is_now b) _ _
          (now_in files s (inside s here) l t.parents o x lies)
          (chuck_in files s (inside s here) l t (expr_line b) o x m lies so))

      chucked_in : (m : Denotation) → Lies files m → Placed M f (e.chucked t s l o x b m)
      chucked_in (an_auto n has_form) so =
          auto_chucked_in s l (expr_line b) o x n has_form here lies
      chucked_in (value y) so = other_chucked_in (value y) so
      chucked_in (at spot address k) so = other_chucked_in (at spot address k) so
      chucked_in (callable c) so = other_chucked_in (callable c) so
      chucked_in (a_type c) so = other_chucked_in (a_type c) so
      chucked_in (declared d) so = other_chucked_in (declared d) so

    -- all expressions -----------------------------------------------------------------------------

    mutual
      meaning_in : (s : Scope) → s.file ≡ f → (x : Expr) → Placed M f (meaning t s x)
      meaning_in s here (tree.int l v) = (here, (inside s here, inside s here))
      meaning_in s here (tree.float l v) = (here, (inside s here, inside s here))
      meaning_in s here (tree.text l v) = (here, (inside s here, inside s here))
      meaning_in s here (tree.name l n) =
          in_scope_in s _ here (name_in files t s (inside s here) l n)
      meaning_in s here (tree.constant l c) =
          in_scope_in s _ here (word_in files s (inside s here) l t c)
      meaning_in s here (tree.time_unit l u) = (here, (inside s here, inside s here))
      meaning_in s here (tree.paren l x) =
          placed_then V M f _ _ (value_in (expr_line x) _ (meaning_in s here x))
          (λ y so. (so.0, (so.1.0, inside s here)))
      meaning_in s here (tree.array l xs) =
          placed_then A M f _ _ (values_in s here xs) (λ ys so.
          in_scope_in ys.scope _ so.0
          (array_in files ys.scope (inside ys.scope so.0) l t.parents ys.typed so.1))
      meaning_in s here (tree.call l c xs) =
          placed_then M M f _ _ (meaning_in s here c) (λ m so.
          placed_then A M f _ _ (values_in m.scope so.0 xs) (λ ys too.
          in_scope_in ys.scope _ too.0
          (call_in files ys.scope (inside ys.scope too.0) l t m.means ys.typed so.1 too.1)))
      meaning_in s here (tree.index l a i) =
          placed_then V M f _ _ (value_in (expr_line a) _ (meaning_in s here a)) (λ x so.
          placed_then V M f _ _ (value_in (expr_line i) _ (meaning_in x.scope so.0 i)) (λ y too.
          in_scope_in y.scope _ too.0
          (item_in files y.scope (inside y.scope too.0) l x.typed y.typed so.1 too.1)))
      meaning_in s here (tree.member l o n) =
          placed_then M M f _ _ (meaning_in s here o) (λ m so.
          in_scope_in m.scope _ so.0
          (member_or_wait_in files m.scope (inside m.scope so.0) l t (expr_line o) m.means n
          (e.wait_word o n) (wait_word_lies files o n) so.1))
      meaning_in s here (tree.postfix l x o) =
          placed_then M M f _ _ (meaning_in s here x) (λ m so.
          in_scope_in m.scope _ so.0
          (postfix_in files m.scope (inside m.scope so.0) l o m.means so.1))
      meaning_in s here (tree.dur l x d) =
          placed_then V M f _ _ (value_in (expr_line x) _ (meaning_in s here x)) (λ y so.
          placed_then V M f _ _ (value_in (expr_line d) _ (meaning_in y.scope so.0 d)) (λ z too.
          in_scope_in z.scope _ too.0
          (dur_in files z.scope (inside z.scope too.0) l y.typed z.typed (e.unit_in d)
          so.1 too.1)))
      meaning_in s here (tree.prefix l o x) =
          placed_then M M f _ _ (meaning_in s here x) (λ m so.
          in_scope_in m.scope _ so.0
          (prefix_in files m.scope (inside m.scope so.0) l (expr_line x) o m.means so.1))
      meaning_in s here (tree.new l b xs) =
          placed_then A M f _ _ (values_in s here xs) (λ ys so.
          in_scope_in ys.scope _ so.0
          (new_in files ys.scope (inside ys.scope so.0) l t (named_by t ys.scope.file b) ys.typed
          so.1))
      meaning_in s here (tree.new_with l b xs) =
          placed_then A M f _ _ (values_in s here xs) (λ ys so.
          in_scope_in ys.scope _ so.0
          (new_with_in files ys.scope (inside ys.scope so.0) l t (named_by t ys.scope.file b)
          ys.typed so.1))
      meaning_in s here (tree.spork l (tree.call k c xs)) =
          placed_then M M f _ _ (meaning_in s here c) (λ m so.
          placed_then A M f _ _ (values_in m.scope so.0 xs) (λ ys too.
          in_scope_in ys.scope _ too.0
          (spork_in files t ys.scope (inside ys.scope too.0) l k m.means ys.typed so.1 too.1)))
      meaning_in s here (tree.spork l x) =
          placed_then V M f (value_of (expr_line x) (meaning t s x))
          (λ y. wrong s.file l NotCallable)
          (value_in (expr_line x) (meaning t s x) (meaning_in s here x)) (λ y so. here)
      meaning_in s here (tree.cast l x k) =
          placed_then V M f _ _ (value_in (expr_line x) _ (meaning_in s here x)) (λ y so.
          in_scope_in y.scope _ so.0
          (cast_in files y.scope (inside y.scope so.0) l t.parents y.typed
          (named_by t y.scope.file k.base) k.brackets so.1))
      meaning_in s here (tree.binary l a o b) =
          placed_then V M f _ _ (value_in (expr_line a) _ (meaning_in s here a)) (λ x so.
          placed_then V M f _ _ (value_in (expr_line b) _ (meaning_in x.scope so.0 b)) (λ y too.
          in_scope_in y.scope _ too.0
          (binary_in files y.scope (inside y.scope too.0) l t.parents o x.typed y.typed
          so.1 too.1)))
      meaning_in s here (tree.choice l c a b) =
          placed_then V M f _ _ (value_in (expr_line c) _ (meaning_in s here c)) (λ x so.
          placed_then V M f _ _ (value_in (expr_line a) _ (meaning_in x.scope so.0 a)) (λ y too.
          placed_then V M f _ _ (value_in (expr_line b) _ (meaning_in y.scope too.0 b)) (λ z last.
          in_scope_in z.scope _ last.0
          (choice_in files z.scope (inside z.scope last.0) l t.parents x.typed y.typed z.typed
          so.1 too.1 last.1))))
      meaning_in s here (tree.declare l h (declr n bs)) =
          placed_then A M f _ _ (sizes_in s here bs) (λ xs so.
          declaration_in xs.scope l h (declr n bs) (with_sizes xs.typed) so.0 so.1)
      meaning_in s here (tree.declare l h (declr_with n es)) =
          placed_then A M f _ _ (values_in (in_arguments s n) here es) (λ xs so.
          declaration_in (behind_arguments xs.scope) l h (declr_with n es) (with_arguments xs.typed)
          so.0 so.1)
      meaning_in s here (tree.chuck l a o b) =
          placed_then V M f _ _ (value_in (expr_line a) _ (meaning_in s here a)) (λ x so.
          placed_then M M f _ _ (meaning_in x.scope so.0 b) (λ m too.
          chucked_in m.scope too.0 l o x.typed b so.1 m.means too.1))

      pub values_in : (s : Scope) → s.file ≡ f → (xs : Exprs) → Placed A f (values t s xs)
      values_in s here no_exprs = (here, tt)
      values_in s here (and_expr xs x) =
          placed_then A A f _ _ (values_in s here xs) (λ ys so.
          placed_then V A f _ _ (value_in (expr_line x) _ (meaning_in ys.scope so.0 x))
          (λ y too. (too.0, each_and (TypedLies files) ys.typed y.typed so.1 too.1)))

      sizes_in : (s : Scope) → s.file ≡ f → (bs : Brackets) → Placed A f (sizes t s bs)
      sizes_in s here no_brackets = (here, tt)
      sizes_in s here (and_empty bs) = sizes_in s here bs
      sizes_in s here (and_size bs x) =
          placed_then A A f _ _ (sizes_in s here bs) (λ ys so.
          placed_then V A f _ _ (value_in (expr_line x) _ (meaning_in ys.scope so.0 x))
          (λ y too. (too.0, each_and (TypedLies files) ys.typed y.typed so.1 too.1)))

    pub typing_in : (s : Scope) → s.file ≡ f → (x : Expr) → Placed V f (typing t s x)
    typing_in s here x = value_in (expr_line x) (meaning t s x) (meaning_in s here x)
