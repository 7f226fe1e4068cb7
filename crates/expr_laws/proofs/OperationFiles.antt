-- What an operation stands for lies in the files of the program where its operands do, and what is
-- wrong with it stands in the file of its scope.
use Rattle.std.proofs.Common.{ℕ, ◌<◌, Bool, true, false, not, ◌&&◌, if◌then◌else◌, List, [], ◌∷◌, length, map, Option, Some, None, refl}
use Rattle.std.specs.Prelude.{IfSome}
use Rattle.std.specs.List.{list_all}
use Rattle.ck_values.specs.declared.kind.Elem.{Elem}
use Rattle.ck_values.specs.declared.kind.Elem.TheVariants as elem
use Rattle.ck_values.specs.declared.kind.Kind.{Kind}
use Rattle.ck_values.specs.declared.kind.Kind.TheVariants.{One, Row, Grid}
use Rattle.ck_values.specs.declared.trap.Place.{Place}
use Rattle.ugen_names.specs.declared.table.UgenKind.TheVariants.{UGen}
use Rattle.ck_syntax.specs.declared.operator.BinaryOp.{BinaryOp}
use Rattle.ck_syntax.specs.declared.operator.BinaryOp.TheVariants as binary_op
use Rattle.ck_syntax.specs.declared.operator.Constant.{Constant}
use Rattle.ck_syntax.specs.declared.operator.Constant.TheVariants as constant
use Rattle.ck_syntax.specs.declared.operator.PostfixOp.{PostfixOp}
use Rattle.ck_syntax.specs.declared.operator.PostfixOp.TheVariants as postfix_op
use Rattle.ck_syntax.specs.declared.operator.PrefixOp.{PrefixOp}
use Rattle.ck_syntax.specs.declared.operator.PrefixOp.TheVariants as prefix_op
use Rattle.ck_syntax.specs.declared.operator.TimeUnit.{TimeUnit}
use Rattle.ck_typed.specs.declared.expr.Direction.TheVariants.{Up, Down}
use Rattle.ck_typed.specs.declared.expr.Spot.{Spot}
use Rattle.ck_typed.specs.declared.native.Native.{Native}
use Rattle.ck_typed.specs.declared.operation.Leaf.TheVariants as leaf
use Rattle.ck_typed.specs.Tree as typed
use Rattle.ck_typed.specs.WellFormed.{LiesIn, ExprLies, ExprsLie}
use Rattle.type_rules.specs.Calls.{Signature, call_of}
use Rattle.type_rules.specs.Fitting.{chosen}
use Rattle.type_rules.specs.Operators.{are_references, joined}
use Rattle.type_rules.specs.Parameters.{Settable}
use Rattle.type_rules.specs.declared.operators.Joined.{Joined}
use Rattle.type_table.specs.Answer.{Answer}
use Rattle.type_table.specs.declared.types.Named.{Named}
use Rattle.type_table.specs.declared.types.Named.TheVariants as named
use Rattle.type_table.specs.Table.{Table, fun_of, construct}
use Rattle.type_table.specs.Types.{is_unknown, is_plain, value_kind}
use Rattle.type_table.proofs.FaultFiles.{Placed, InFile, placed_then, placed_if, if_in}
use Rattle.type_table.proofs.Ranges.{Each}
use Rattle.check_scope.specs.Denotations.{Typed, typed_as, Callee, numbered, through, method, native, native_on, param, yields, exits, Denotation, at, callable, as_value}
use Rattle.check_scope.specs.Operations as e
use Rattle.check_scope.specs.Scope.{Scope, is_empty, place, this_local}
use Rattle.expr_laws.proofs.NameFiles.{TypedLies, CalleeLies, Lies, IsIn, as_value_in}

-- both ways of a test
pub either : {A : Type 0} (P : A → Type 0) (c : Bool) (a b : A) → P a → P b → P (if c then a else b)
either P true a b one other = one
either P false a b one other = other

module _ (files : ℕ) where
  -- operands as they are taken --------------------------------------------------------------------

  pub taken_lies : (x : Typed) (k : Kind) → TypedLies files x → ExprLies files (e.taken_as x k)
  taken_lies x (One elem.Float) lies =
      either (ExprLies files) (e.is_int x.kind) (e.widened x) x.expr lies lies.0
  taken_lies x (One elem.Shred) lies =
      either (ExprLies files) x.is_null (typed.Leaf leaf.NoShred x.place) x.expr lies.1 lies.0
  taken_lies x _ lies = lies.0

  pub widened_lies : (widens : Bool) (x : Typed) → TypedLies files x
      → ExprLies files (e.widened_if widens x)
  widened_lies true x lies = lies
  widened_lies false x lies = lies.0

  beside_lies : (x : Typed) (k : Kind) → TypedLies files x → TypedLies files (e.beside x k)
  beside_lies x k lies =
      either (TypedLies files) (x.is_null && e.is_shred k)
      (typed_as (typed.Leaf leaf.NoShred x.place) (One elem.Shred) x.place) x (lies.1, lies.1) lies

  all_taken_lie : (xs : List Typed) (k : Kind) → Each (TypedLies files) xs
      → ExprsLie files (e.all_taken_as xs k)
  all_taken_lie [] k lie = tt
  all_taken_lie (x ∷ xs) k lie = (taken_lies x k lie.0, all_taken_lie xs k lie.1)

  fitting_lie : (fits : Bool) (x : typed.Expr) (rest : Option typed.Exprs) → ExprLies files x
      → IfSome rest (ExprsLie files) → IfSome (e.and_fitting fits x rest) (ExprsLie files)
  fitting_lie true x None lies lie = tt
  fitting_lie true x (Some xs) lies lie = (lies, lie)
  fitting_lie false x rest lies lie = tt

  pub fitted_lie : (parents : List ℕ) (xs : List Typed) (ks : List Kind) → Each (TypedLies files) xs
      → IfSome (e.fitted parents xs ks) (ExprsLie files)
  fitted_lie parents [] [] lie = tt
  fitted_lie parents [] (k ∷ ks) lie = tt
  fitted_lie parents (x ∷ xs) [] lie = tt
  fitted_lie parents (x ∷ xs) (k ∷ ks) lie =
      fitting_lie (e.fits parents x k) (e.taken_as x k) (e.fitted parents xs ks)
      (taken_lies x k lie.0) (fitted_lie parents xs ks lie.1)

module _ (files : ℕ) (s : Scope) (here : s.file < files) (l : ℕ) where
  -- an answer that lies here
  abbrev Is : Answer Denotation → Type 0
  Is a = IsIn files s.file a

  if_is : (c : Bool) (a b : Answer Denotation) → Is a → Is b → Is (if c then a else b)
  if_is c a b one other = placed_if (Lies files) s.file c a b one other

  -- words -----------------------------------------------------------------------------------------

  this_in : (p : Place) (this : Option ℕ) → LiesIn files p → Is (e.this_value s p l this)
  this_in p None lies = refl
  this_in p (Some i) lies = ((tt, lies), lies)

  pub word_in : (t : Table) (c : Constant) → Is (e.word_meaning t s l c)
  word_in t constant.This = this_in (place s l) (this_local t s) here
  word_in t _ = (here, here)

  -- operators -------------------------------------------------------------------------------------

  joined_in : (a b : Typed) (j : Option Joined) → TypedLies files a → TypedLies files b
      → Is (e.joined_meaning s l a b j)
  joined_in a b None left right = refl
  joined_in a b (Some j) left right =
      ((widened_lies files j.widens_left a left, widened_lies files j.widens_right b right, here), here)

  join_in : (parents : List ℕ) (o : BinaryOp) (a b : Typed) → TypedLies files a → TypedLies files b
      → Is (e.join_meaning parents s l o a b)
  join_in parents o a b left right = joined_in a b (joined parents o a.kind b.kind) left right

  append_in : (parents : List ℕ) (i : Elem) (a v : Typed) → TypedLies files a → TypedLies files v
      → Is (e.append_meaning parents s l i a v)
  append_in parents i a v left right =
      if_is (e.fits parents v (One i)) _ _
      ((left.0, taken_lies files v (One i) right, here), here) refl

  shift_in : (parents : List ℕ) (a b : Typed) (k : Kind) → TypedLies files a → TypedLies files b
      → Is (e.shift_meaning parents s l a b k)
  shift_in parents a b (Row i) left right = append_in parents i a b left right
  shift_in parents a b _ left right = join_in parents binary_op.ShiftLeft a b left right

  pub binary_in : (parents : List ℕ) (o : BinaryOp) (a b : Typed) → TypedLies files a
      → TypedLies files b → Is (e.binary_meaning parents s l o a b)
  binary_in parents binary_op.AndAlso a b left right =
      if_is (e.are_ints a b) _ _ ((left.0, right.0, here), here) refl
  binary_in parents binary_op.OrElse a b left right =
      if_is (e.are_ints a b) _ _ ((left.0, right.0, here), here) refl
  binary_in parents binary_op.ShiftLeft a b left right = shift_in parents a b a.kind left right
  binary_in parents o a b left right =
      join_in parents o (e.beside a b.kind) (e.beside b a.kind) (beside_lies files a b.kind left)
      (beside_lies files b a.kind right)

  negated_in : (x : Typed) (k : Kind) → TypedLies files x → Is (e.negated s l x k)
  negated_in x (One elem.Int) lies = ((lies.0, here), here)
  negated_in x (One elem.Float) lies = ((lies.0, here), here)
  negated_in x (One elem.Dur) lies = ((lies.0, here), here)
  negated_in x _ lies = refl

  inverted_in : (x : Typed) → TypedLies files x → Is (e.inverted s l x)
  inverted_in x lies = if_is (e.is_int x.kind) _ _ ((lies.0, here), here) refl

  stepped_in : (x : Denotation) (step : Spot → typed.Exprs → typed.Expr) → Lies files x
      → ((spot : Spot) (address : typed.Exprs) → ExprsLie files address
      → ExprLies files (step spot address)) → Is (e.stepped s l x step)
  stepped_in (at spot address (One elem.Int)) step lies steps = (steps spot address lies, here)
  stepped_in _ step lies steps = refl

  pub prefix_in : (k : ℕ) (o : PrefixOp) (x : Denotation) → Lies files x
      → Is (e.prefix_meaning s l k o x)
  prefix_in k prefix_op.Negate x lies =
      placed_then (TypedLies files) (Lies files) s.file (as_value s k x) _
      (as_value_in files s here k x lies) (λ y so. negated_in y y.kind so)
  prefix_in k prefix_op.Not x lies =
      placed_then (TypedLies files) (Lies files) s.file (as_value s k x) _
      (as_value_in files s here k x lies) (λ y so. inverted_in y so)
  prefix_in k prefix_op.Increment x lies =
      stepped_in x (λ spot address. typed.Prefix Up spot address (place s l)) lies
      (λ spot address so. (so, here))
  prefix_in k prefix_op.Decrement x lies =
      stepped_in x (λ spot address. typed.Prefix Down spot address (place s l)) lies
      (λ spot address so. (so, here))

  pub postfix_in : (o : PostfixOp) (x : Denotation) → Lies files x → Is (e.postfix_meaning s l o x)
  postfix_in postfix_op.Increment x lies =
      stepped_in x (λ spot address. typed.Postfix Up spot address (place s l)) lies
      (λ spot address so. (so, here))
  postfix_in postfix_op.Decrement x lies =
      stepped_in x (λ spot address. typed.Postfix Down spot address (place s l)) lies
      (λ spot address so. (so, here))

  -- durs ------------------------------------------------------------------------------------------

  units_in : (x : Typed) (u : e.Samples) (k : Kind) → TypedLies files x
      → Is (e.units_meaning s l x u k)
  units_in x u (One elem.Int) lies = ((lies.0, here), here)
  units_in x u (One elem.Float) lies = ((lies.0, here), here)
  units_in x u _ lies = refl

  times_in : (x d : Typed) (j k : Kind) → TypedLies files x → TypedLies files d
      → Is (e.times_meaning s l x d j k)
  times_in x d (One elem.Int) (One elem.Dur) count dur = ((count.0, dur.0, here), here)
  times_in x d (One elem.Float) (One elem.Dur) count dur = ((count.0, dur.0, here), here)
  times_in x d _ _ count dur = refl

  pub dur_in : (x d : Typed) (u : Option TimeUnit) → TypedLies files x → TypedLies files d
      → Is (e.dur_meaning s l x d u)
  dur_in x d (Some u) count dur = units_in x (e.samples_of u) x.kind count
  dur_in x d None count dur = times_in x d x.kind d.kind count dur

  -- casts and choices -----------------------------------------------------------------------------

  reference_in : (parents : List ℕ) (x : Typed) (from to : Kind) → TypedLies files x
      → Is (if are_references from && e.fits parents x to then e.value_at s l (e.taken_as x to) to
      else e.mismatch s l)
  reference_in parents x from to lies =
      if_is (are_references from && e.fits parents x to) _ _ (taken_lies files x to lies, here) refl

  cast_value_in : (parents : List ℕ) (x : Typed) (from to : Kind) → TypedLies files x
      → Is (e.cast_value parents s l x from to)
  cast_value_in parents x (One elem.Int) (One elem.Int) lies = (lies.0, here)
  cast_value_in parents x (One elem.Int) (One elem.Float) lies = (lies, here)
  cast_value_in parents x (One elem.Float) (One elem.Int) lies = (lies, here)
  cast_value_in parents x (One elem.Float) (One elem.Float) lies = (lies.0, here)
  cast_value_in parents x from to lies = reference_in parents x from to lies

  cast_to_in : (parents : List ℕ) (x : Typed) (k : Option Kind) → TypedLies files x
      → Is (e.cast_to parents s l x k)
  cast_to_in parents x None lies = refl
  cast_to_in parents x (Some k) lies = cast_value_in parents x x.kind k lies

  pub cast_in : (parents : List ℕ) (x : Typed) (n : Named) (brackets : ℕ) → TypedLies files x
      → Is (e.cast_meaning parents s l x n brackets)
  cast_in parents x n brackets lies =
      if_is (is_unknown n) _ _ refl (cast_to_in parents x (value_kind n brackets) lies)

  choice_of_in : (c a b : Typed) (k : Option Kind) → TypedLies files c → TypedLies files a
      → TypedLies files b → Is (e.choice_of s l c a b k)
  choice_of_in c a b None test left right = refl
  choice_of_in c a b (Some k) test left right =
      ((test.0, taken_lies files a k left, taken_lies files b k right, here), here)

  choice_between_in : (parents : List ℕ) (c a b : Typed) → TypedLies files c → TypedLies files a
      → TypedLies files b → Is (e.choice_between parents s l c a b)
  choice_between_in parents c a b test left right =
      choice_of_in c a b (chosen parents a.kind b.kind) test left right

  pub choice_in : (parents : List ℕ) (c a b : Typed) → TypedLies files c → TypedLies files a
      → TypedLies files b → Is (e.choice_meaning parents s l c a b)
  choice_in parents c a b test left right =
      if_is (not (e.is_int c.kind)) _ _ refl
      (choice_between_in parents c (e.beside a b.kind) (e.beside b a.kind) test
      (beside_lies files a b.kind left) (beside_lies files b a.kind right))

  -- arrays ----------------------------------------------------------------------------------------

  items_in : (parents : List ℕ) (i : Elem) (xs : List Typed) → Each (TypedLies files) xs
      → Is (e.items_meaning parents s l i xs)
  items_in parents i xs lie =
      if_is (e.all_fit parents xs (One i)) _ _ ((all_taken_lie files xs (One i) lie, here), here)
      (if_is (e.all_fit parents xs (One elem.Float)) _ _
      ((all_taken_lie files xs (One elem.Float) lie, here), here) refl)

  rows_in : (i : Elem) (xs : List Typed) → Each (TypedLies files) xs
      → Is (e.rows_meaning s l i xs)
  rows_in i xs lie =
      if_is (is_plain i && list_all (e.is_row_of i) xs) _ _
      ((all_taken_lie files xs (Row i) lie, here), here) refl

  array_of_in : (parents : List ℕ) (k : Kind) (xs : List Typed) → Each (TypedLies files) xs
      → Is (e.array_of parents s l k xs)
  array_of_in parents (One i) xs lie = items_in parents i xs lie
  array_of_in parents (Row i) xs lie = rows_in i xs lie
  array_of_in parents _ xs lie = refl

  pub array_in : (parents : List ℕ) (xs : List Typed) → Each (TypedLies files) xs
      → Is (e.array_meaning parents s l xs)
  array_in parents [] lie = refl
  array_in parents (x ∷ xs) lie = array_of_in parents x.kind (x ∷ xs) lie

  item_at_in : (a i : Typed) (k : Kind) → TypedLies files a → TypedLies files i
      → Is (e.item_at s l a i k)
  item_at_in a i (Row j) array index = (array.0, (index.0, tt))
  item_at_in a i (Grid j) array index = (array.0, (index.0, tt))
  item_at_in a i _ array index = refl

  pub item_in : (a i : Typed) → TypedLies files a → TypedLies files i
      → Is (e.item_meaning s l a i)
  item_in a i array index =
      if_is (e.is_int i.kind) _ _ (item_at_in a i a.kind array index) refl

  -- `new` -----------------------------------------------------------------------------------------

  -- an object that is made
  abbrev pub MadeIn : Answer typed.Expr → Type 0
  MadeIn a = Placed (ExprLies files) s.file a

  constructed_in : (o : typed.Expr) (f : ℕ) (es : Option typed.Exprs) → ExprLies files o
      → IfSome es (ExprsLie files) → MadeIn (e.constructed s l o f es)
  constructed_in o f None lies lie = refl
  constructed_in o f (Some es) lies lie = (lies, lie, here)

  made_by_in : (t : Table) (o : typed.Expr) (xs : List Typed) (f : Option ℕ) → ExprLies files o
      → Each (TypedLies files) xs → MadeIn (e.made_by t s l o xs f)
  made_by_in t o [] None lies lie = lies
  made_by_in t o (x ∷ xs) None lies lie = refl
  made_by_in t o xs (Some f) lies lie =
      constructed_in o f (e.fitted t.parents xs (fun_of t f).params) lies
      (fitted_lie files t.parents xs (fun_of t f).params lie)

  pub object_made_in : (t : Table) (i : Elem) (xs : List Typed) → Each (TypedLies files) xs
      → MadeIn (e.object_made t s l i xs)
  object_made_in t (elem.Class c) xs lie =
      made_by_in t (typed.New c (place s l)) xs (construct t c) here lie
  object_made_in t (elem.Unit UGen) xs lie = refl
  object_made_in t (elem.Unit k) xs lie =
      made_by_in t (typed.Leaf (leaf.NewUgen k) (place s l)) xs None here lie
  object_made_in t _ xs lie = refl

  made_alone_in : (t : Table) (f : Option ℕ) → InFile s.file (e.made_alone t s l f)
  made_alone_in t None = tt
  made_alone_in t (Some f) = if_in s.file (is_empty (fun_of t f).params) _ _ tt refl

  pub maker_in : (t : Table) (i : Elem) → InFile s.file (e.maker_of t s l i)
  maker_in t (elem.Class c) = made_alone_in t (construct t c)
  maker_in t _ = tt

  new_object_in : (t : Table) (i : Elem) (xs : List Typed) → Each (TypedLies files) xs
      → Is (e.new_object t s l i xs)
  new_object_in t i xs lie =
      placed_then (ExprLies files) (Lies files) s.file (e.object_made t s l i xs) _
      (object_made_in t i xs lie) (λ o lies. (lies, here))

  new_array_in : (t : Table) (i : Elem) (sizes : List Typed) → Each (TypedLies files) sizes
      → Is (e.new_array t s l i sizes)
  new_array_in t i [] lie = new_object_in t i [] tt
  new_array_in t i (n ∷ []) lie =
      if_is (e.is_new_item i && e.is_int n.kind) _ _ ((lie.0.0, here), here) refl
  new_array_in t i (n ∷ o ∷ []) lie =
      if_is (e.is_new_item i && e.are_ints n o) _ _ ((lie.0.0, lie.1.0.0, here), here) refl
  new_array_in t i _ lie = refl

  pub new_in : (t : Table) (n : Named) (sizes : List Typed) → Each (TypedLies files) sizes
      → Is (e.new_meaning t s l n sizes)
  new_in t named.Unknown sizes lie = refl
  new_in t (named.Elem i) sizes lie = new_array_in t i sizes lie
  new_in t _ sizes lie = refl

  pub new_with_in : (t : Table) (n : Named) (xs : List Typed) → Each (TypedLies files) xs
      → Is (e.new_with_meaning t s l n xs)
  new_with_in t named.Unknown xs lie = refl
  new_with_in t (named.Elem i) xs lie = new_object_in t i xs lie
  new_with_in t _ xs lie = refl

  -- calls -----------------------------------------------------------------------------------------

  pub called_in : (k : Kind) (fit : Option typed.Exprs) (made : typed.Exprs → typed.Expr)
      → IfSome fit (ExprsLie files)
      → ((es : typed.Exprs) → ExprsLie files es → ExprLies files (made es))
      → Is (e.called s l k fit made)
  called_in k None made lie makes = refl
  called_in k (Some es) made lie makes = (makes es lie, here)

  pub native_call_in : (parents : List ℕ) (xs : List Typed) (g : Option Signature)
      (made : Native → typed.Exprs → typed.Expr) → Each (TypedLies files) xs
      → ((k : Native) (es : typed.Exprs) → ExprsLie files es → ExprLies files (made k es))
      → Is (e.native_call parents s l xs g made)
  native_call_in parents xs None made lie makes = refl
  native_call_in parents xs (Some g) made lie makes =
      called_in g.gives (e.fitted parents xs (map One g.params)) (λ es. made g.native es)
      (fitted_lie files parents xs (map One g.params) lie) (λ es so. makes g.native es so)

  param_call_in : (parents : List ℕ) (u : typed.Expr) (p : Settable) (xs : List Typed)
      → ExprLies files u → Each (TypedLies files) xs → Is (e.param_call parents s l u p xs)
  param_call_in parents u p [] lies lie = ((lies, here), here)
  param_call_in parents u p (v ∷ []) lies lie =
      if_is (not p.is_read_only && e.fits parents v (One p.elem)) _ _
      ((lies, taken_lies files v (One p.elem) lie.0, here), here) refl
  param_call_in parents u p _ lies lie = refl

  plain_call_in : (xs : List Typed) (x : typed.Expr) → ExprLies files x → Is (e.plain_call s l xs x)
  plain_call_in [] x lies = (lies, here)
  plain_call_in _ x lies = refl

  callee_in : (t : Table) (c : Callee) (xs : List Typed) → CalleeLies files c
      → Each (TypedLies files) xs → Is (e.callee_meaning t s l c xs)
  callee_in t (numbered f) xs lies lie =
      called_in (fun_of t f).result (e.fitted t.parents xs (fun_of t f).params) _
      (fitted_lie files t.parents xs (fun_of t f).params lie) (λ es so. (so, here))
  callee_in t (through o f) xs lies lie =
      called_in (fun_of t f).result (e.fitted t.parents xs (fun_of t f).params) _
      (fitted_lie files t.parents xs (fun_of t f).params lie) (λ es so. (lies, so, here))
  callee_in t (method o f k) xs lies lie =
      called_in (fun_of t f).result (e.fitted t.parents xs (fun_of t f).params) _
      (fitted_lie files t.parents xs (fun_of t f).params lie) (λ es so. ((lies, so), here))
  callee_in t (native h n) xs lies lie =
      native_call_in t.parents xs (call_of h n (length xs)) _ lie (λ k es so. (so, here))
  callee_in t (native_on o h n) xs lies lie =
      native_call_in t.parents xs (call_of h n (length xs)) _ lie (λ k es so. ((lies, so), here))
  callee_in t (param u p) xs lies lie = param_call_in t.parents u p xs lies lie
  callee_in t yields xs lies lie = plain_call_in xs (typed.Leaf leaf.Yield (place s l)) here
  callee_in t exits xs lies lie = plain_call_in xs (typed.Leaf leaf.Exit (place s l)) here

  pub call_in : (t : Table) (x : Denotation) (xs : List Typed) → Lies files x
      → Each (TypedLies files) xs → Is (e.call_meaning t s l x xs)
  call_in t (callable c) xs lies lie = callee_in t c xs lies lie
  call_in t _ xs lies lie = refl

-- a spork stands at its line, and its call at another
module _ (files : ℕ) (t : Table) (s : Scope) (here : s.file < files) (l k : ℕ) where
  sporked_in : (c : Callee) (xs : List Typed) → CalleeLies files c → Each (TypedLies files) xs
      → IsIn files s.file (e.sporked t s l k c xs)
  sporked_in (numbered f) xs lies lie =
      called_in files s here k (One elem.Shred) (e.fitted t.parents xs (fun_of t f).params) _
      (fitted_lie files t.parents xs (fun_of t f).params lie) (λ es so. (so, here))
  sporked_in (through o f) xs lies lie =
      called_in files s here k (One elem.Shred) (e.fitted t.parents xs (fun_of t f).params) _
      (fitted_lie files t.parents xs (fun_of t f).params lie) (λ es so. (lies, so, here))
  sporked_in (method o f v) xs lies lie =
      called_in files s here k (One elem.Shred) (e.fitted t.parents xs (fun_of t f).params) _
      (fitted_lie files t.parents xs (fun_of t f).params lie) (λ es so. ((lies, so), here))
  sporked_in c xs lies lie =
      placed_then (Lies files) (Lies files) s.file (e.callee_meaning t s k c xs) _
      (callee_in files s here k t c xs lies lie) (λ x so. refl)

  pub spork_in : (x : Denotation) (xs : List Typed) → Lies files x → Each (TypedLies files) xs
      → IsIn files s.file (e.spork_meaning t s l k x xs)
  spork_in (callable c) xs lies lie = sporked_in c xs lies lie
  spork_in _ xs lies lie = refl
