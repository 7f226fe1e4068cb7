-- What a program means: its trees are evaluated from the start, on the stores that the slices of
-- the shred find.
use Rattle.std.specs.Prelude.{ℕ, zero, suc, pred, pos, ◌+◌, ◌*◌, nat_eq, Bool, true, false, List, [], ◌∷◌, length, Option, Some, None, slice_get}
use Rattle.ck_values.specs.declared.kind.Elem.{Elem}
use Rattle.ck_values.specs.declared.kind.Elem.TheVariants as elem
use Rattle.ck_values.specs.declared.trap.Place.{Place}
use Rattle.ck_values.specs.Datum.{Datum, AnInt, AFloat, ADur, ATime, AText, AShred, ARef, first_value, first_locals}
use Rattle.ck_store.specs.Store.{Store, State, Request, At, End, Try}
use Rattle.ck_store.specs.Steps.{pick, found, int_units, float_units, is_zero, local_of, with_local, static_of, with_static, wait_dur, wait_time, where_it_goes_on, fresh, turn_spent, room_for_call, resumed}
use Rattle.ck_store.specs.Operators.{unary, binary}
use Rattle.ck_store.specs.Natives.{native}
use Rattle.ck_store.specs.Prints.{print_line, with_line}
use Rattle.ck_store.specs.Objects.{field_of, with_field, Made, object_made, bodies_of, method_of}
use Rattle.ck_store.specs.Arrays.{item_of, with_item, appended, row_made, array_made, Partly, grid_made, has_item, filled}
use Rattle.ck_store.specs.Shreds.{wait_event, sporked}
use Rattle.ck_store.specs.Graph.{unit_made, connected, disconnected, parameter_of, parameter_set}
use Rattle.ck_values.specs.declared.operator.Op1.TheVariants.{BoolInt, NotInt}
use Rattle.ck_values.specs.declared.operator.Op2.{Op2}
use Rattle.ck_values.specs.declared.operator.Op2.TheVariants.{AddIntInt, SubIntInt, GtIntInt}
use Rattle.ugen_names.specs.declared.param.Param.{Param}
use Rattle.ugen_names.specs.declared.table.UgenKind.{UgenKind}
use Rattle.ck_typed.specs.declared.expr.Spot.{Spot}
use Rattle.ck_typed.specs.declared.expr.Spot.TheVariants.{Local, Static, StaticOf, Field, Item}
use Rattle.ck_typed.specs.declared.expr.Direction.{Direction}
use Rattle.ck_typed.specs.declared.expr.Direction.TheVariants.{Up, Down}
use Rattle.ck_typed.specs.declared.native.Native.{Native as BuiltIn}
use Rattle.ck_typed.specs.declared.operation.Leaf.{Leaf as OfNone}
use Rattle.ck_typed.specs.declared.operation.Leaf.TheVariants as leaf
use Rattle.ck_typed.specs.declared.operation.Unary.{Unary as OfOne}
use Rattle.ck_typed.specs.declared.operation.Unary.TheVariants as unary_op
use Rattle.ck_typed.specs.declared.operation.Binary.{Binary as OfTwo}
use Rattle.ck_typed.specs.declared.operation.Binary.TheVariants as binary_op
use Rattle.ck_typed.specs.declared.operation.Variadic.{Variadic as OfMany}
use Rattle.ck_typed.specs.declared.operation.Variadic.TheVariants as variadic_op
use Rattle.ck_typed.specs.Tree.{Expr, Exprs, no_exprs, more_exprs, Leaf, Text, Unary, Binary, Variadic, And, Or, Choice, Assign, AssignDeclared, Update, Prefix, Postfix, New, NewObjects, Construct, CallOf, SporkOf, Stmt, Stmts, no_stmts, more_stmts, Simple, Block, Print, If, Loop, LoopLast, For, ForEver, Repeat, ForEach, Break, Continue, Return, Fun, Program}
use Rattle.ck_meaning.specs.Outcome.{Point, with_locals, with_state, with_store, Broken, Continued, Returned, Outcome, Done, Left, Asks, Trapped, Wrong, then_do, try}

-- nothing, the value of a statement
abbrev pub Nothing : Type 0
Nothing = Unit {0}

-- what a call does: the function's number, the arguments, the active calls, the place of the
-- call, and where it begins
abbrev pub Calls : Type 0
Calls = (fun : ℕ) → (arguments : List Datum) → (active : ℕ) → Place → Point → Outcome Datum

-- what stays the same in a function: the program, what its calls do, a bound on the rounds of its
-- loops, the shred's number, and the active calls
pub record Setting : Type 0 where
  pub program : Program
  pub call : Calls
  pub bound : ℕ
  pub shred : ℕ
  pub active : ℕ

-- a slice begins on a store that it finds, and spends its turn
abbrev pub next_slice : {W : Type 0} → Store → List Store → Place → Point
    → (Point → Outcome W) → Outcome W
next_slice w ws place point go =
    let s = resumed point.state.store.now point.state.turns w in
    try (turn_spent s) place s
    (λ s1. go (record { locals = point.locals; state = s1; stores = ws }))

-- at a request: the next slice begins on the next store, if there is one, and if the shred doesn't
-- end
abbrev pub asked : {W : Type 0} → List Store → Request → Place → Point
    → (Point → Outcome W) → Outcome W
asked [] q place point go = Asks q place point.state
asked (w ∷ ws) q place point go =
    where_it_goes_on q (Asks q place point.state) (next_slice w ws place point go)

-- a request that has no value
abbrev pub asked_for : Request → Place → Point → Outcome Datum
asked_for q place point =
    asked point.stores q place point (λ later. Done (AnInt (pos 0)) later)

-- a wait, whose value is the time at which it goes on
abbrev pub waited : Try Request → Place → Point → Outcome Datum
waited request place point =
    try request place point.state (λ q.
    asked point.stores q place point (λ later. Done (ATime later.state.store.now) later))

-- what stands at a spot, with the values of its address
abbrev pub read_at : Spot → (address : List Datum) → Point → Try Datum
read_at (Local i) [] point = local_of point.locals i
read_at (Static i) [] point = static_of point.state.store i
read_at (StaticOf i) (r ∷ []) point = static_of point.state.store i
read_at (Field i) (r ∷ []) point = field_of point.state.store r i
read_at Item (r ∷ i ∷ []) point = item_of point.state.store.objects r i
read_at _ address point = found None

-- a value is put where it shall stand
abbrev pub put_at : Spot → (address : List Datum) → Datum → Place → Point → Outcome Datum
put_at (Local i) [] v place point =
    try (with_local point.locals i v) place point.state
    (λ locals. Done v (with_locals point locals))
put_at (Static i) [] v place point =
    try (with_static point.state.store i v) place point.state
    (λ store. Done v (with_store point store))
put_at (StaticOf i) (r ∷ []) v place point =
    try (with_static point.state.store i v) place point.state
    (λ store. Done v (with_store point store))
put_at (Field i) (r ∷ []) v place point =
    try (with_field point.state.store r i v) place point.state
    (λ store. Done v (with_store point store))
put_at Item (r ∷ i ∷ []) v place point =
    try (with_item point.state.store r i v) place point.state
    (λ store. Done v (with_store point store))
put_at _ address v place point = Wrong

-- what stands at a spot is updated by an operator and a value
abbrev pub updated : Spot → (address : List Datum) → Op2 → Datum → Place → Point → Outcome Datum
updated spot vs o x place point =
    try (read_at spot vs point) place point.state (λ old.
    try (binary o old x) place point.state (λ w. put_at spot vs w place point))

-- `++` and `--`: what is done to a variable, and what undoes it
abbrev pub step_of : Direction → Op2
step_of Up = AddIntInt
step_of Down = SubIntInt

abbrev pub undone_by : Direction → Op2
undone_by Up = SubIntInt
undone_by Down = AddIntInt

-- a built-in call on its operands
abbrev pub native_called : BuiltIn → (operands : List Datum) → Place → Point → Outcome Datum
native_called call vs place point =
    try (native call vs point.state) place point.state (λ given.
    Done given.value (with_state point given.state))

-- back in the caller, whose locals are as before
abbrev pub back : List Datum → Outcome Datum → Outcome Datum
back locals (Done v point) = Done v (with_locals point locals)
back locals (Left exit point) = Wrong
back locals (Asks q place s) = Asks q place s
back locals (Trapped trap place s) = Trapped trap place s
back locals Wrong = Wrong

-- a call in a setting
abbrev pub called : Setting → (fun : ℕ) → (arguments : List Datum) → Place → Point → Outcome Datum
called se f vs place point = back point.locals (se.call f vs se.active place point)

-- the statements in the braces of a new object's classes run, one class after another; the value is
-- the object
abbrev pub constructed : Setting → (bodies : List ℕ) → (object : Datum) → Place → Point →
    Outcome Datum
constructed se [] r place point = Done r point
constructed se (f ∷ bodies) r place point =
    then_do (called se f (r ∷ []) place point) (λ v later. constructed se bodies r place later)

-- a new object, its fields with their first values, and then what its classes do with it
abbrev pub new_object : Setting → (class : ℕ) → Place → Point → Outcome Datum
new_object se c place point =
    try (object_made se.program.classes c point.state.store) place point.state (λ made.
    constructed se (bodies_of se.program.classes c) made.reference place
    (with_store point made.store))

-- what was made
abbrev pub made_by : Try Made → Place → Point → (Datum → Point → Outcome Datum) → Outcome Datum
made_by step place point go =
    try step place point.state (λ made. go made.reference (with_store point made.store))

-- what was made by a step that may fail after it has made something
abbrev pub made_partly : Partly → Place → Point → Outcome Datum
made_partly part place point =
    let after = with_store point part.store in
    try part.end place after.state (λ r. Done r after)

-- a new unit generator of this shred
abbrev pub new_unit : Setting → UgenKind → Place → Point → Outcome Datum
new_unit se kind place point =
    made_by (unit_made kind se.shred point.state.store) place point Done

-- a new object of a type
abbrev pub new_of : Setting → Elem → Place → Point → Outcome Datum
new_of se (elem.Class c) place point = new_object se c place point
new_of se (elem.Unit kind) place point = new_unit se kind place point
new_of se e place point = Wrong

-- from an index on, an object is made for each item that the array has by then, and stored where
-- the array has that item still; each spends a turn, so the bound on them is never met. The value
-- is the array
abbrev pub each_made : (bound : ℕ) → Setting → Elem → (array index : Datum) → Place → Point →
    Outcome Datum
each_made zero se e r i place pt = Wrong
each_made (suc bound) se e r i place pt =
    try (has_item pt.state.store.objects r i) place pt.state (λ is. pick is
    (try (turn_spent pt.state) place pt.state (λ s.
    then_do (new_of se e place (with_state pt s)) (λ v pt1.
    try (filled pt1.state.store r i v) place pt1.state (λ done.
    each_made bound se e r done.next place (with_store pt1 done.store)))))
    (Done r pt))

-- a call of the function in a slot of the object that is the first operand
abbrev pub sent_to : Setting → (slot : ℕ) → (operands : List Datum) → Place → Point → Outcome Datum
sent_to se slot [] place point = Wrong
sent_to se slot (r ∷ others) place point =
    try (method_of se.program.classes point.state.store.objects r slot) place point.state (λ f.
    called se f (r ∷ others) place point)

-- a unit generator is connected to another, or no longer: a step on both; the value is the other
abbrev pub joined_by : (Datum → Datum → Store → Try Store) → (from to : Datum) → Place → Point →
    Outcome Datum
joined_by step x y place point =
    try (step x y point.state.store) place point.state (λ store. Done y (with_store point store))

-- a parameter of a unit generator is set, and read back
abbrev pub set_on : Param → (unit value : Datum) → Place → Point → Outcome Datum
set_on q u v place point =
    try (parameter_set q u v point.state.store) place point.state (λ set.
    Done set.value (with_store point set.store))

-- a child is sporked, which will run a function on its arguments: a turn is spent first. The value
-- is the child
abbrev pub child_of : (fun : ℕ) → (arguments : List Datum) → Place → Point → Outcome Datum
child_of f vs place point =
    try (turn_spent point.state) place point.state (λ s. try (sporked f vs s) place s (λ child.
    Done (AShred child.number) (with_state point child.state)))

abbrev pub with_fun : Option Fun → (Fun → Outcome Datum) → Outcome Datum
with_fun None go = Wrong
with_fun (Some fn) go = go fn

-- the same, where the function takes so many arguments
abbrev pub sporked_by : Setting → (fun : ℕ) → (arguments : List Datum) → Place → Point →
    Outcome Datum
sporked_by se f vs place point =
    with_fun (slice_get se.program.funs f) (λ fn. pick (nat_eq (length vs) fn.params)
    (child_of f vs place point) Wrong)

-- a child is sporked for the function in a slot of the object that is the first operand
abbrev pub spork_sent : Setting → (slot : ℕ) → (operands : List Datum) → Place → Point →
    Outcome Datum
spork_sent se slot [] place point = Wrong
spork_sent se slot (r ∷ others) place point =
    try (method_of se.program.classes point.state.store.objects r slot) place point.state (λ f.
    sporked_by se f (r ∷ others) place point)

-- one of two, where the value of a condition is 0 or not
abbrev pub where_zero : {W : Type 0} → Datum → Place → State → Outcome W → Outcome W → Outcome W
where_zero v place s at_zero other = try (is_zero v) place s (λ is. pick is at_zero other)

-- 0 or 1, as an int is 0 or not
abbrev pub truth_of : Place → Datum → Point → Outcome Datum
truth_of place v point = try (unary BoolInt v) place point.state (λ truth. Done truth point)

-- the value of a step that gives one
abbrev pub given : Try Datum → Place → Point → Outcome Datum
given step place pt = try step place pt.state (λ v. Done v pt)

-- what has no operand
abbrev pub of_none : Setting → OfNone → Place → Point → Outcome Datum
of_none se (leaf.Int v) place pt = Done (AnInt v) pt
of_none se (leaf.Float x) place pt = Done (AFloat x) pt
of_none se (leaf.Dur samples) place pt = Done (ADur samples) pt
of_none se (leaf.Time samples) place pt = Done (ATime samples) pt
of_none se leaf.Null place pt = Done (ARef 0) pt
of_none se leaf.NoShred place pt = Done (AShred 0) pt
of_none se leaf.Now place pt = Done (ATime pt.state.store.now) pt
of_none se leaf.Me place pt = Done (AShred se.shred) pt
of_none se leaf.Dac place pt = Done (ARef 1) pt
of_none se leaf.Blackhole place pt = Done (ARef 2) pt
of_none se (leaf.NewUgen kind) place pt = new_unit se kind place pt
of_none se leaf.Yield place pt = asked_for (At pt.state.store.now) place pt
of_none se leaf.Exit place pt = asked_for End place pt

-- an operation on the value of one operand
abbrev pub of_one : OfOne → Datum → Place → Point → Outcome Datum
of_one (unary_op.Operator o) x place pt = given (unary o x) place pt
of_one (unary_op.UnitInt n d) x place pt = given (int_units n d x) place pt
of_one (unary_op.UnitFloat n d) x place pt = given (float_units n d x) place pt
of_one (unary_op.NewRow e) n place pt = made_by (row_made e n pt.state.store) place pt Done
of_one (unary_op.Param q) u place pt = given (parameter_of q u pt.state.store) place pt
of_one unary_op.WaitDur d place pt = waited (wait_dur d pt.state.store) place pt
of_one unary_op.WaitTime t place pt = waited (wait_time t pt.state.store) place pt
of_one unary_op.WaitEvent e place pt = waited (wait_event e) place pt

-- on the values of two
abbrev pub of_two : Setting → OfTwo → (left right : Datum) → Place → Point → Outcome Datum
of_two se (binary_op.Operator o) x y place pt = given (binary o x y) place pt
of_two se (binary_op.NewGrid e) n m place pt = made_partly (grid_made e n m pt.state.store) place pt
of_two se binary_op.Append a v place pt =
    try (appended pt.state.store a v) place pt.state (λ store. Done a (with_store pt store))
of_two se (binary_op.ChuckMethod slot) x r place pt = sent_to se slot (r ∷ x ∷ []) place pt
of_two se (binary_op.ChuckCallOf f) x r place pt = called se f (x ∷ []) place pt
of_two se (binary_op.ChuckNative call) x r place pt = native_called call (r ∷ x ∷ []) place pt
of_two se (binary_op.SetParam q) u v place pt = set_on q u v place pt
of_two se (binary_op.ChuckParam q) v u place pt = set_on q u v place pt
of_two se binary_op.Connect a b place pt = joined_by connected a b place pt
of_two se binary_op.Disconnect a b place pt = joined_by disconnected a b place pt

-- on the values of any number
abbrev pub of_many : Setting → OfMany → (operands : List Datum) → Place → Point → Outcome Datum
of_many se (variadic_op.Read spot) vs place pt = given (read_at spot vs pt) place pt
of_many se (variadic_op.Array e) vs place pt =
    made_by (array_made e false vs pt.state.store) place pt Done
of_many se (variadic_op.ArrayOfRows e) vs place pt =
    made_by (array_made e true vs pt.state.store) place pt Done
of_many se (variadic_op.Call f) vs place pt = called se f vs place pt
of_many se (variadic_op.Method slot) vs place pt = sent_to se slot vs place pt
of_many se (variadic_op.Native call) vs place pt = native_called call vs place pt
of_many se (variadic_op.Spork f) vs place pt = sporked_by se f vs place pt
of_many se (variadic_op.SporkMethod slot) vs place pt = spork_sent se slot vs place pt

abbrev mutual
  -- the value of an expression: its operands are evaluated from the left
  pub eval : Setting → Expr → Point → Outcome Datum
  eval se (Leaf o place) pt = of_none se o place pt
  eval se (Text bytes place) pt = Done (AText bytes) pt
  eval se (Unary o a place) pt = then_do (eval se a pt) (λ x pt1. of_one o x place pt1)
  eval se (Binary o a b place) pt =
      then_do (eval se a pt) (λ x pt1.
      then_do (eval se b pt1) (λ y pt2. of_two se o x y place pt2))
  eval se (Variadic o operands place) pt =
      then_do (eval_all se operands pt) (λ vs pt1. of_many se o vs place pt1)
  eval se (And a b place) pt =
      then_do (eval se a pt) (λ x pt1.
      where_zero x place pt1.state (Done (AnInt (pos 0)) pt1)
      (then_do (eval se b pt1) (truth_of place)))
  eval se (Or a b place) pt =
      then_do (eval se a pt) (λ x pt1.
      where_zero x place pt1.state (then_do (eval se b pt1) (truth_of place))
      (Done (AnInt (pos 1)) pt1))
  eval se (Choice c a b place) pt =
      then_do (eval se c pt) (λ v pt1. where_zero v place pt1.state (eval se b pt1) (eval se a pt1))
  eval se (Assign e spot address place) pt =
      then_do (eval se e pt)
      (λ v pt1. then_do (eval_all se address pt1) (λ vs pt2. put_at spot vs v place pt2))
  eval se (AssignDeclared e declaration spot address place) pt =
      then_do (eval se e pt) (λ v pt1. then_do (eval se declaration pt1) (λ w pt2.
      then_do (eval_all se address pt2) (λ vs pt3. put_at spot vs v place pt3)))
  eval se (Update o e spot address place) pt =
      then_do (eval se e pt) (λ x pt1.
      then_do (eval_all se address pt1) (λ vs pt2. updated spot vs o x place pt2))
  eval se (Prefix direction spot address place) pt =
      then_do (eval_all se address pt) (λ vs pt1.
      updated spot vs (step_of direction) (AnInt (pos 1)) place pt1)
  eval se (Postfix direction spot address place) pt =
      then_do (eval_all se address pt) (λ vs pt1.
      then_do (updated spot vs (step_of direction) (AnInt (pos 1)) place pt1) (λ w pt2.
      try (binary (undone_by direction) w (AnInt (pos 1))) place pt2.state (λ v. Done v pt2)))
  eval se (New c place) pt = new_object se c place pt
  eval se (NewObjects e n constructor place) pt =
      then_do (eval se n pt) (λ x pt1. made_by (row_made e x pt1.state.store) place pt1
      (λ r pt2. each_made se.bound se e r (AnInt (pos 0)) place pt2))
  -- no constructor is called yet: a program that has one isn't run
  eval se (Construct o f arguments place) pt = eval se o pt
  eval se (CallOf o f arguments place) pt =
      then_do (eval se o pt) (λ r pt1.
      then_do (eval_all se arguments pt1) (λ vs pt2. called se f vs place pt2))
  eval se (SporkOf o f arguments place) pt =
      then_do (eval se o pt) (λ r pt1.
      then_do (eval_all se arguments pt1) (λ vs pt2. sporked_by se f vs place pt2))

  -- the values of expressions, from the left
  pub eval_all : Setting → Exprs → Point → Outcome (List Datum)
  eval_all se no_exprs pt = Done [] pt
  eval_all se (more_exprs e rest) pt =
      then_do (eval se e pt) (λ v pt1. then_do (eval_all se rest pt1) (λ vs pt2. Done (v ∷ vs) pt2))

-- after the body of a loop
abbrev pub round_end : Outcome Nothing → (Point → Outcome Nothing) → Outcome Nothing
round_end (Done v point) again = again point
round_end (Left Broken point) again = Done tt point
round_end (Left Continued point) again = again point
round_end (Left (Returned v) point) again = Left (Returned v) point
round_end (Asks q place s) again = Asks q place s
round_end (Trapped trap place s) again = Trapped trap place s
round_end Wrong again = Wrong

-- the rounds of a loop; each spends a turn, so the bound on them is never met
abbrev pub rounds : (bound : ℕ) → Place → (test : Point → Outcome Datum)
    → (body : Point → Outcome Nothing) → Point → Outcome Nothing
rounds zero place test body pt = Wrong
rounds (suc bound) place test body pt =
    then_do (test pt) (λ v pt1. where_zero v place pt1.state (Done tt pt1)
    (try (turn_spent pt1.state) place pt1.state (λ s.
    round_end (body (with_state pt1 s)) (rounds bound place test body))))

-- the same where each round begins with its body, and the test comes after it
abbrev pub rounds_first : (bound : ℕ) → Place → (test : Point → Outcome Datum)
    → (body : Point → Outcome Nothing) → Point → Outcome Nothing
rounds_first zero place test body pt = Wrong
rounds_first (suc bound) place test body pt =
    try (turn_spent pt.state) place pt.state (λ s.
    round_end (body (with_state pt s)) (λ pt1. then_do (test pt1) (λ v pt2.
    where_zero v place pt2.state (Done tt pt2) (rounds_first bound place test body pt2))))

-- so many rounds, from what is left of them
abbrev pub rounds_left : (bound : ℕ) → Place → (left : Datum) → (body : Point → Outcome Nothing)
    → Point → Outcome Nothing
rounds_left zero place left body pt = Wrong
rounds_left (suc bound) place left body pt =
    try (binary GtIntInt left (AnInt (pos 0))) place pt.state (λ more.
    where_zero more place pt.state (Done tt pt) (try (turn_spent pt.state) place pt.state (λ s.
    round_end (body (with_state pt s)) (λ pt1.
    try (binary SubIntInt left (AnInt (pos 1))) place pt1.state (λ fewer.
    rounds_left bound place fewer body pt1)))))

-- the test of a loop, which goes on while it holds or until it does
abbrev pub test_of : (until : Bool) → Place → Outcome Datum → Outcome Datum
test_of false place test = test
test_of true place test = then_do test (λ v pt. given (unary NotInt v) place pt)

-- the test of a loop without one
abbrev pub always : Point → Outcome Datum
always pt = Done (AnInt (pos 1)) pt

-- the body of a `for`, and then its step, which comes after a `continue` too
abbrev pub stepped : Outcome Nothing → (step : Point → Outcome Nothing) → Outcome Nothing
stepped (Done v point) step = step point
stepped (Left Broken point) step = Left Broken point
stepped (Left Continued point) step = step point
stepped (Left (Returned v) point) step = Left (Returned v) point
stepped (Asks q place s) step = Asks q place s
stepped (Trapped trap place s) step = Trapped trap place s
stepped Wrong step = Wrong

abbrev mutual
  -- what a statement does
  pub exec : Setting → Stmt → Point → Outcome Nothing
  exec se (Simple e place) pt = then_do (eval se e pt) (λ v pt1. Done tt pt1)
  exec se (Block all) pt = exec_all se all pt
  exec se (Print items kinds place) pt =
      then_do (eval_all se items pt) (λ vs pt1.
      Done tt (with_state pt1 (with_line (print_line se.program.classes kinds vs) pt1.state)))
  exec se (If c a b place) pt =
      then_do (eval se c pt) (λ v pt1. where_zero v place pt1.state (exec se b pt1) (exec se a pt1))
  exec se (Loop until c body place) pt =
      rounds se.bound place (λ pt1. test_of until place (eval se c pt1)) (exec se body) pt
  exec se (LoopLast until body c place) pt =
      rounds_first se.bound place (λ pt1. test_of until place (eval se c pt1)) (exec se body) pt
  exec se (For start test step body place) pt =
      then_do (exec se start pt) (λ v pt1.
      rounds se.bound place (eval se test) (λ pt2. stepped (exec se body pt2) (exec se step)) pt1)
  exec se (ForEver start step body place) pt =
      then_do (exec se start pt) (λ v pt1.
      rounds se.bound place always (λ pt2. stepped (exec se body pt2) (exec se step)) pt1)
  exec se (Repeat count body place) pt =
      then_do (eval se count pt) (λ v pt1. rounds_left se.bound place v (exec se body) pt1)
  -- nor is a loop over the items of an array run yet
  exec se (ForEach array local widens body place) pt = Done tt pt
  exec se (Break place) pt = Left Broken pt
  exec se (Continue place) pt = Left Continued pt
  exec se (Return e place) pt = then_do (eval se e pt) (λ v pt1. Left (Returned v) pt1)

  pub exec_all : Setting → Stmts → Point → Outcome Nothing
  exec_all se no_stmts pt = Done tt pt
  exec_all se (more_stmts t rest) pt = then_do (exec se t pt) (λ v pt1. exec_all se rest pt1)

-- the value of a function, from how its body ends; the default where it doesn't return one
abbrev pub value_of : (default : Datum) → Outcome Nothing → Outcome Datum
value_of default (Done v point) = Done default point
value_of default (Left Broken point) = Wrong
value_of default (Left Continued point) = Wrong
value_of default (Left (Returned v) point) = Done v point
value_of default (Asks q place s) = Asks q place s
value_of default (Trapped trap place s) = Trapped trap place s
value_of default Wrong = Wrong

-- a function on its arguments
abbrev pub body_of : Setting → Fun → List Datum → Point → Outcome Datum
body_of se fn vs pt =
    value_of (first_value fn.result) (exec se fn.body (with_locals pt (first_locals fn.locals vs)))

-- the setting of a function with so many active calls, where calls and loops have this bound
abbrev pub setting : Program → (shred bound : ℕ) → Calls → (active : ℕ) → Setting
setting program n bound call active =
    record { program = program; call = call; bound = bound; shred = n; active = active }

-- a function begins: a turn is spent, and then there must be room for one more call
abbrev pub in_callee : Place → (active : ℕ) → Point → (Point → Outcome Datum) → Outcome Datum
in_callee place active pt body =
    try (turn_spent pt.state) place pt.state (λ s.
    try (room_for_call active) place s (λ ok. body (with_state pt s)))

-- calls, with a bound on how many may stand in one another and on the rounds of their loops
abbrev pub call_within : Program → (shred bound : ℕ) → Calls
call_within program n zero f vs active place pt = Wrong
call_within program n (suc bound) f vs active place pt =
    with_fun (slice_get program.funs f) (λ fn. pick (nat_eq (length vs) fn.params)
    (in_callee place active pt
    (body_of (setting program n bound (call_within program n bound) (suc active)) fn vs)) Wrong)

-- the fuel: each turn that is spent and each store that is taken lowers it
abbrev pub fuel : (turns : ℕ) → List Store → ℕ
fuel turns ws = turns + suc fresh * length ws

-- a shred's function on its arguments, from the start of its first slice on: its turn is spent,
-- and the bound is above the fuel
abbrev pub shred_from : Program → (shred : ℕ) → Fun → List Datum → Store → List Store →
    Outcome Datum
shred_from program n fn vs w ws =
    let k = suc (fuel (pred fresh) ws) in
    body_of (setting program n k (call_within program n k) 0) fn vs
    (record {
      locals = [];
      state = record { store = w; acts = []; turns = pred fresh };
      stores = ws;
    })
