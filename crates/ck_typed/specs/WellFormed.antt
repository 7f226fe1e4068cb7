-- Which programs are well formed: each node's parts have the kinds that the node says, and each
-- number is in range.
use Rattle.std.specs.Prelude.{◌≡◌, ◌⊎◌, ℕ, ◌<◌, ◌≤◌, pos, ◌≤ℤ◌, Bool, true, false, IsTrue, List, [], ◌∷◌, ◌++◌, length, take, drop, map, All, Option, Some, None, slice_get}
use Rattle.ck_values.specs.declared.kind.Elem.{Elem}
use Rattle.ck_values.specs.declared.kind.Elem.TheVariants as elem
use Rattle.ck_values.specs.declared.kind.Kind.{Kind}
use Rattle.ck_values.specs.declared.kind.Kind.TheVariants.{Void, Null, One, Row, Grid}
use Rattle.ck_base.specs.declared.limits.TheConstants.{MAX_FILES}
use Rattle.ck_values.specs.declared.operator.Op2.{Op2}
use Rattle.ck_values.specs.declared.operator.Op2.TheVariants.{EqRefRef, NeRefRef}
use Rattle.ck_values.specs.declared.trap.Place.{Place}
use Rattle.ugen_names.specs.declared.param.Param.{Param}
use Rattle.ugen_names.specs.declared.table.UgenKind.{UgenKind}
use Rattle.ugen_names.specs.declared.table.UgenKind.TheVariants as ugen
use Rattle.ugen_names.specs.Table.{is_made}
use Rattle.ck_typed.specs.declared.class.Class.{Class}
use Rattle.ck_typed.specs.declared.expr.Spot.{Spot}
use Rattle.ck_typed.specs.declared.expr.Spot.TheVariants as spot
use Rattle.ck_typed.specs.declared.operation.Leaf.{Leaf as OfNone}
use Rattle.ck_typed.specs.declared.operation.Leaf.TheVariants as leaf
use Rattle.ck_typed.specs.declared.operation.Unary.{Unary as OfOne}
use Rattle.ck_typed.specs.declared.operation.Unary.TheVariants as unary_op
use Rattle.ck_typed.specs.declared.operation.Binary.{Binary as OfTwo}
use Rattle.ck_typed.specs.declared.operation.Binary.TheVariants as binary_op
use Rattle.ck_typed.specs.declared.operation.Variadic.{Variadic as OfMany}
use Rattle.ck_typed.specs.declared.operation.Variadic.TheVariants as variadic_op
use Rattle.ck_typed.specs.Tree as tree
use Rattle.ck_typed.specs.Tree.{Expr, Exprs, no_exprs, more_exprs, Stmt, Stmts, no_stmts, more_stmts, Fun, Program}
use Rattle.ck_typed.specs.Standing.{IsBelow, IsReference, Stands}
use Rattle.ck_typed.specs.Signatures as by
use Rattle.ck_typed.specs.Signatures.{unary, binary, On, built_in, Parameter, parameter}

-- kinds -----------------------------------------------------------------------------------------

-- the class that a type names is there
abbrev pub IsNamed : List Class → Elem → Type 0
IsNamed classes (elem.Class c) = c < length classes
IsNamed classes _ = Unit {0}

abbrev pub IsNamedKind : List Class → Kind → Type 0
IsNamedKind classes (One e) = IsNamed classes e
IsNamedKind classes (Row e) = IsNamed classes e
IsNamedKind classes (Grid e) = IsNamed classes e
IsNamedKind classes _ = Unit {0}

-- and a variable may have this kind
abbrev pub IsValueKind : List Class → Kind → Type 0
IsValueKind classes Void = ⊥
IsValueKind classes Null = ⊥
IsValueKind classes k = IsNamedKind classes k

-- it was found, and this holds of it
abbrev pub FoundWhere : {A : Type 0} → Option A → (A → Type 0) → Type 0
FoundWhere None P = ⊥
FoundWhere (Some a) P = P a

-- the kinds of a function's parameters
abbrev pub params_of : Fun → List Kind
params_of fn = take fn.params fn.locals

-- an expression has a kind that may stand where this one is wanted
abbrev pub Supplies : Program → (has : Kind → Type 0) → Kind → Type 0
Supplies program has k = (j : Kind) × has j × Stands program.classes j k

-- expressions -----------------------------------------------------------------------------------

-- an operator takes values of these kinds
abbrev pub Joins : Program → Op2 → (left right : Kind → Type 0) → (result : Kind) → Type 0
Joins program EqRefRef left right k =
    ((j : Kind) × left j × IsReference j) × ((j : Kind) × right j × IsReference j)
    × (k ≡ One elem.Int)
Joins program NeRefRef left right k =
    ((j : Kind) × left j × IsReference j) × ((j : Kind) × right j × IsReference j)
    × (k ≡ One elem.Int)
Joins program o left right k =
    FoundWhere (binary o)
    (λ kinds. Supplies program left (One kinds.left) × Supplies program right (One kinds.right)
    × (k ≡ One kinds.result))

-- an operator takes what stands at a spot and another value, and what it gives may stand there
abbrev pub Updates : Program → Op2 → (right : Kind → Type 0) → (target : Kind) → Type 0
Updates program o right k =
    FoundWhere (binary o)
    (λ kinds. Stands program.classes k (One kinds.left) × Supplies program right (One kinds.right)
    × Stands program.classes (One kinds.result) k)

-- what stands at a spot without address
abbrev pub AtNumber : Program → (locals : List Kind) → Spot → Kind → Type 0
AtNumber program locals (spot.Local i) k = slice_get locals i ≡ Some k
AtNumber program locals (spot.Static i) k = slice_get program.statics i ≡ Some k
AtNumber program locals _ k = ⊥

-- what is reached through one value
abbrev pub Through : Program → Spot → (object : Kind → Type 0) → Kind → Type 0
Through program (spot.StaticOf i) object k =
    ((j : Kind) × object j) × (slice_get program.statics i ≡ Some k)
Through program (spot.Field i) object k =
    (c : ℕ) × Supplies program object (One (elem.Class c))
    × FoundWhere (slice_get program.classes c) (λ class. slice_get class.fields i ≡ Some k)
Through program _ object k = ⊥

-- the items of an array have this kind
abbrev pub HasItems : (array item : Kind) → Type 0
HasItems (Row e) k = k ≡ One e
HasItems (Grid e) k = k ≡ Row e
HasItems _ k = ⊥

-- what is reached by an array and an index
abbrev pub InArray : Program → Spot → (array index : Kind → Type 0) → Kind → Type 0
InArray program spot.Item array index k =
    (j : Kind) × Supplies program array j × HasItems j k × Supplies program index (One elem.Int)
InArray program _ array index k = ⊥

-- a function takes these operands and gives this kind
abbrev pub Calls : Program → (fun : ℕ) → (operands : List Kind → Type 0) → Kind → Type 0
Calls program f operands k =
    FoundWhere (slice_get program.funs f) (λ fn. operands (params_of fn) × (k ≡ fn.result))

-- a member function in a slot of a class
abbrev pub Methods : Program → (class slot : ℕ) → (Fun → Type 0) → Type 0
Methods program c slot P =
    FoundWhere (slice_get program.classes c)
    (λ class. FoundWhere (slice_get class.virtuals slot)
    (λ f. FoundWhere (slice_get program.funs f) P))

-- the first operand is an object of a class, and the others are the parameters of a function in a
-- slot of it
abbrev pub CallsSlot : Program → (slot : ℕ) → (operands : List Kind → Type 0) → (Fun → Type 0) →
    Type 0
CallsSlot program slot operands P =
    (c : ℕ) × Methods program c slot
    (λ fn. operands (One (elem.Class c) ∷ drop 1 (params_of fn)) × P fn)

-- these are the kinds that a built-in call is made on
abbrev pub IsOn : On → List Kind → Type 0
IsOn by.nothing ks = ks ≡ []
IsOn by.shred ks = ks ≡ One elem.Shred ∷ []
IsOn by.event ks = ks ≡ One (elem.Class 1) ∷ []
IsOn by.array ks = ((e : Elem) × (ks ≡ Row e ∷ [])) ⊎ ((e : Elem) × (ks ≡ Grid e ∷ []))
IsOn by.text ks = ks ≡ One elem.Text ∷ []
IsOn by.envelope ks =
    (ks ≡ One (elem.Unit ugen.Envelope) ∷ []) ⊎ (ks ≡ One (elem.Unit ugen.Adsr) ∷ [])
IsOn by.adsr ks = ks ≡ One (elem.Unit ugen.Adsr) ∷ []

-- a unit generator has this parameter
abbrev pub HasParam : Program → (ugen : Kind → Type 0) → Param → (Parameter → Type 0) → Type 0
HasParam program ugen p P =
    (u : UgenKind) × Supplies program ugen (One (elem.Unit u)) × FoundWhere (parameter u p) P

-- and it can be set to this value
abbrev pub Sets : Program → (ugen value : Kind → Type 0) → Param → Kind → Type 0
Sets program ugen value p k =
    HasParam program ugen p
    (λ q. (q.is_read_only ≡ false) × Supplies program value (One q.elem) × (k ≡ One q.elem))

-- an expression gives a unit generator
abbrev pub IsUgen : Program → (has : Kind → Type 0) → Type 0
IsUgen program has = (u : UgenKind) × Supplies program has (One (elem.Unit u))

-- a value of this kind may stand where some unit generator is wanted
abbrev pub IsUgenKind : Program → Kind → Type 0
IsUgenKind program k = (u : UgenKind) × Stands program.classes k (One (elem.Unit u))

-- an object of this unit generator can be made
abbrev pub IsMade : UgenKind → Type 0
IsMade kind = IsTrue (is_made kind)

-- an array of so many objects of this type can be made
abbrev pub AreMade : Program → Elem → Type 0
AreMade program (elem.Class c) = c < length program.classes
AreMade program (elem.Unit k) = IsMade k
AreMade program _ = ⊥

-- a constructor takes an object of this kind, and then these arguments
abbrev pub Constructs : Program → (fun : ℕ) → (object : Kind) → (arguments : List Kind → Type 0) → Type 0
Constructs program f k arguments =
    FoundWhere (slice_get program.funs f)
    (λ fn. (a : ℕ) × (ks : List Kind) × (params_of fn ≡ One (elem.Class a) ∷ ks)
    × Stands program.classes k (One (elem.Class a)) × arguments ks)

-- where there is one, it takes an object of this type and nothing else
abbrev pub ConstructsEach : Program → Elem → Option ℕ → Type 0
ConstructsEach program e None = Unit {0}
ConstructsEach program e (Some f) = Constructs program f (One e) (λ ks. ks ≡ [])

-- what has no operand gives this kind
abbrev pub LeafGives : OfNone → Kind → Type 0
LeafGives (leaf.Int n) k = k ≡ One elem.Int
LeafGives (leaf.Float x) k = k ≡ One elem.Float
LeafGives (leaf.Dur d) k = k ≡ One elem.Dur
LeafGives (leaf.Time t) k = k ≡ One elem.Time
LeafGives leaf.Null k = k ≡ Null
LeafGives leaf.NoShred k = k ≡ One elem.Shred
LeafGives leaf.Now k = k ≡ One elem.Time
LeafGives leaf.Me k = k ≡ One elem.Shred
LeafGives leaf.Dac k = k ≡ One (elem.Unit ugen.UGen)
LeafGives leaf.Blackhole k = k ≡ One (elem.Unit ugen.UGen)
LeafGives (leaf.NewUgen u) k = IsMade u × (k ≡ One (elem.Unit u))
LeafGives leaf.Yield k = k ≡ One elem.Int
LeafGives leaf.Exit k = k ≡ One elem.Int

-- an operation takes an operand that has such a kind, and gives this one
abbrev pub UnaryGives : Program → OfOne → (operand : Kind → Type 0) → Kind → Type 0
UnaryGives program (unary_op.Operator o) a k =
    Supplies program a (One (unary o).operand) × (k ≡ One (unary o).result)
UnaryGives program (unary_op.UnitInt n d) a k =
    Supplies program a (One elem.Int) × (pos 1 ≤ℤ d) × (k ≡ One elem.Dur)
UnaryGives program (unary_op.UnitFloat n d) a k =
    Supplies program a (One elem.Float) × (pos 1 ≤ℤ d) × (k ≡ One elem.Dur)
UnaryGives program (unary_op.NewRow e) n k =
    IsNamed program.classes e × Supplies program n (One elem.Int) × (k ≡ Row e)
UnaryGives program (unary_op.Param p) u k = HasParam program u p (λ q. k ≡ One q.elem)
UnaryGives program unary_op.WaitDur a k = Supplies program a (One elem.Dur) × (k ≡ One elem.Time)
UnaryGives program unary_op.WaitTime a k = Supplies program a (One elem.Time) × (k ≡ One elem.Time)
UnaryGives program unary_op.WaitEvent a k =
    Supplies program a (One (elem.Class 1)) × (k ≡ One elem.Time)

-- two operands
abbrev pub BinaryGives : Program → OfTwo → (left right : Kind → Type 0) → Kind → Type 0
BinaryGives program (binary_op.Operator o) a b k = Joins program o a b k
BinaryGives program (binary_op.NewGrid e) n m k =
    IsNamed program.classes e × Supplies program n (One elem.Int) × Supplies program m (One elem.Int)
    × (k ≡ Grid e)
BinaryGives program binary_op.Append a e k =
    (i : Elem) × Supplies program a (Row i) × Supplies program e (One i) × (k ≡ Row i)
BinaryGives program (binary_op.ChuckMethod slot) e o k =
    (c : ℕ) × (p : Kind) × Supplies program e p × Supplies program o (One (elem.Class c))
    × Methods program c slot (λ fn. (drop 1 (params_of fn) ≡ p ∷ []) × (k ≡ fn.result))
BinaryGives program (binary_op.ChuckCallOf f) e o k =
    (p : Kind) × Supplies program e p × ((j : Kind) × o j)
    × FoundWhere (slice_get program.funs f) (λ fn. (params_of fn ≡ p ∷ []) × (k ≡ fn.result))
BinaryGives program (binary_op.ChuckNative n) e o k =
    (j : Kind) × (p : Elem) × IsOn (built_in n).on (j ∷ []) × Supplies program e (One p)
    × Supplies program o j × ((built_in n).params ≡ p ∷ []) × (k ≡ One (built_in n).gives)
BinaryGives program (binary_op.SetParam p) u e k = Sets program u e p k
BinaryGives program (binary_op.ChuckParam p) e u k = Sets program u e p k
BinaryGives program binary_op.Connect a b k = IsUgen program a × IsUgenKind program k × b k
BinaryGives program binary_op.Disconnect a b k = IsUgen program a × IsUgenKind program k × b k

-- any number: operands of these kinds, or all of one kind, or those that lead to a spot
abbrev pub VariadicGives : Program → OfMany → (operands : List Kind → Type 0)
    → (all : Kind → Type 0) → (at : Spot → Kind → Type 0) → Kind → Type 0
VariadicGives program (variadic_op.Read spot) operands all at k = at spot k
VariadicGives program (variadic_op.Array e) operands all at k =
    IsNamed program.classes e × all (One e) × (k ≡ Row e)
VariadicGives program (variadic_op.ArrayOfRows e) operands all at k =
    IsNamed program.classes e × all (Row e) × (k ≡ Grid e)
VariadicGives program (variadic_op.Call f) operands all at k = Calls program f operands k
VariadicGives program (variadic_op.Method slot) operands all at k =
    CallsSlot program slot operands (λ fn. k ≡ fn.result)
VariadicGives program (variadic_op.Native n) operands all at k =
    (ks : List Kind) × IsOn (built_in n).on ks × operands (ks ++ map One (built_in n).params)
    × (k ≡ One (built_in n).gives)
VariadicGives program (variadic_op.Spork f) operands all at k =
    FoundWhere (slice_get program.funs f) (λ fn. operands (params_of fn)) × (k ≡ One elem.Shred)
VariadicGives program (variadic_op.SporkMethod slot) operands all at k =
    CallsSlot program slot operands (λ fn. k ≡ One elem.Shred)

abbrev mutual
  -- the expression has this kind, in a function with locals of these kinds
  pub HasKind : Program → List Kind → Expr → Kind → Type 0
  HasKind program locals (tree.Leaf o place) k = LeafGives o k
  HasKind program locals (tree.Text s place) k = k ≡ One elem.Text
  HasKind program locals (tree.Unary o a place) k =
      UnaryGives program o (HasKind program locals a) k
  HasKind program locals (tree.Binary o a b place) k =
      BinaryGives program o (HasKind program locals a) (HasKind program locals b) k
  HasKind program locals (tree.Variadic o operands place) k =
      VariadicGives program o (HaveKinds program locals operands)
      (AllGive program locals operands) (λ at. IsAt program locals at operands) k
  HasKind program locals (tree.And a b place) k =
      Supplies program (HasKind program locals a) (One elem.Int)
      × Supplies program (HasKind program locals b) (One elem.Int) × (k ≡ One elem.Int)
  HasKind program locals (tree.Or a b place) k =
      Supplies program (HasKind program locals a) (One elem.Int)
      × Supplies program (HasKind program locals b) (One elem.Int) × (k ≡ One elem.Int)
  HasKind program locals (tree.Choice c a b place) k =
      Supplies program (HasKind program locals c) (One elem.Int)
      × Supplies program (HasKind program locals a) k
      × Supplies program (HasKind program locals b) k
  HasKind program locals (tree.Assign e at address place) k =
      IsAt program locals at address k × Supplies program (HasKind program locals e) k
  HasKind program locals (tree.AssignDeclared e d at address place) k =
      IsAt program locals at address k × Supplies program (HasKind program locals e) k
      × ((j : Kind) × HasKind program locals d j)
  HasKind program locals (tree.Update o e at address place) k =
      IsAt program locals at address k × Updates program o (HasKind program locals e) k
  HasKind program locals (tree.Prefix direction at address place) k =
      IsAt program locals at address k × (k ≡ One elem.Int)
  HasKind program locals (tree.Postfix direction at address place) k =
      IsAt program locals at address k × (k ≡ One elem.Int)
  HasKind program locals (tree.New c place) k =
      (c < length program.classes) × (k ≡ One (elem.Class c))
  HasKind program locals (tree.NewObjects e n constructor place) k =
      AreMade program e × Supplies program (HasKind program locals n) (One elem.Int)
      × ConstructsEach program e constructor × (k ≡ Row e)
  HasKind program locals (tree.Construct o f arguments place) k =
      HasKind program locals o k
      × Constructs program f k (HaveKinds program locals arguments)
  HasKind program locals (tree.CallOf o f arguments place) k =
      ((j : Kind) × HasKind program locals o j)
      × Calls program f (HaveKinds program locals arguments) k
  HasKind program locals (tree.SporkOf o f arguments place) k =
      ((j : Kind) × HasKind program locals o j)
      × FoundWhere (slice_get program.funs f)
      (λ fn. HaveKinds program locals arguments (params_of fn)) × (k ≡ One elem.Shred)

  -- the values of expressions may stand where values of these kinds are wanted
  pub HaveKinds : Program → List Kind → Exprs → List Kind → Type 0
  HaveKinds program locals no_exprs [] = Unit {0}
  HaveKinds program locals no_exprs (k ∷ kinds) = ⊥
  HaveKinds program locals (more_exprs e rest) [] = ⊥
  HaveKinds program locals (more_exprs e rest) (k ∷ kinds) =
      Supplies program (HasKind program locals e) k × HaveKinds program locals rest kinds

  -- all where one kind is wanted
  pub AllGive : Program → List Kind → Exprs → Kind → Type 0
  AllGive program locals no_exprs k = Unit {0}
  AllGive program locals (more_exprs e rest) k =
      Supplies program (HasKind program locals e) k × AllGive program locals rest k

  -- a value of this kind stands at a spot with this address
  pub IsAt : Program → List Kind → Spot → Exprs → Kind → Type 0
  IsAt program locals at no_exprs k = AtNumber program locals at k
  IsAt program locals at (more_exprs a rest) k =
      IsAtObject program locals at (HasKind program locals a) rest k

  pub IsAtObject : Program → List Kind → Spot → (object : Kind → Type 0) → Exprs → Kind → Type 0
  IsAtObject program locals at object no_exprs k = Through program at object k
  IsAtObject program locals at object (more_exprs i rest) k =
      IsAtIndex program locals at object (HasKind program locals i) rest k

  pub IsAtIndex : Program → List Kind → Spot → (array index : Kind → Type 0) → Exprs → Kind → Type 0
  IsAtIndex program locals at array index no_exprs k = InArray program at array index k
  IsAtIndex program locals at array index (more_exprs e rest) k = ⊥

-- statements ------------------------------------------------------------------------------------

-- an item of this kind is bound to a local of that one: as it is, or an int as a float
abbrev pub Binds : List Class → (widens : Bool) → (item local : Kind) → Type 0
Binds classes false item k = Stands classes item k
Binds classes true item k = (item ≡ One elem.Int) × (k ≡ One elem.Float)

-- the items of an array are bound to a local
abbrev pub BindsItems : Program → (locals : List Kind) → (local : ℕ) → (widens : Bool) →
    (array : Kind → Type 0) → Type 0
BindsItems program locals i widens array =
    (j : Kind) × (item : Kind) × Supplies program array j × HasItems j item
    × FoundWhere (slice_get locals i) (Binds program.classes widens item)

-- a condition is an int
abbrev pub IsTest : Program → (locals : List Kind) → Expr → Type 0
IsTest program locals e = Supplies program (HasKind program locals e) (One elem.Int)

abbrev mutual
  -- the statement may stand in a function with locals of these kinds and a result of this kind,
  -- in a loop or not
  pub IsFine : Program → List Kind → Kind → (in_loop : Bool) → Stmt → Type 0
  IsFine program locals result in_loop (tree.Simple e place) =
      (k : Kind) × HasKind program locals e k
  IsFine program locals result in_loop (tree.Block all) = AreFine program locals result in_loop all
  IsFine program locals result in_loop (tree.Print items kinds place) =
      (1 ≤ length kinds) × All (IsNamedKind program.classes) kinds
      × HaveKinds program locals items kinds
  IsFine program locals result in_loop (tree.If c a b place) =
      IsTest program locals c × IsFine program locals result in_loop a
      × IsFine program locals result in_loop b
  IsFine program locals result in_loop (tree.Loop until c body place) =
      IsTest program locals c × IsFine program locals result true body
  IsFine program locals result in_loop (tree.LoopLast until body c place) =
      IsTest program locals c × IsFine program locals result true body
  IsFine program locals result in_loop (tree.For start c step body place) =
      IsTest program locals c × IsFine program locals result in_loop start
      × IsFine program locals result in_loop step × IsFine program locals result true body
  IsFine program locals result in_loop (tree.ForEver start step body place) =
      IsFine program locals result in_loop start × IsFine program locals result in_loop step
      × IsFine program locals result true body
  IsFine program locals result in_loop (tree.Repeat n body place) =
      IsTest program locals n × IsFine program locals result true body
  IsFine program locals result in_loop (tree.ForEach a i widens body place) =
      BindsItems program locals i widens (HasKind program locals a)
      × IsFine program locals result true body
  IsFine program locals result in_loop (tree.Break place) = IsTrue in_loop
  IsFine program locals result in_loop (tree.Continue place) = IsTrue in_loop
  IsFine program locals result in_loop (tree.Return e place) =
      Supplies program (HasKind program locals e) result

  pub AreFine : Program → List Kind → Kind → (in_loop : Bool) → Stmts → Type 0
  AreFine program locals result in_loop no_stmts = Unit {0}
  AreFine program locals result in_loop (more_stmts t rest) =
      IsFine program locals result in_loop t × AreFine program locals result in_loop rest

-- places ----------------------------------------------------------------------------------------

-- a place lies in one of so many files
abbrev pub LiesIn : (files : ℕ) → Place → Type 0
LiesIn files place = place.file < files

abbrev mutual
  -- each place in an expression does
  pub ExprLies : (files : ℕ) → Expr → Type 0
  ExprLies files (tree.Leaf o place) = LiesIn files place
  ExprLies files (tree.Text s place) = LiesIn files place
  ExprLies files (tree.Unary o a place) = ExprLies files a × LiesIn files place
  ExprLies files (tree.Binary o a b place) =
      ExprLies files a × ExprLies files b × LiesIn files place
  ExprLies files (tree.Variadic o operands place) = ExprsLie files operands × LiesIn files place
  ExprLies files (tree.And a b place) = ExprLies files a × ExprLies files b × LiesIn files place
  ExprLies files (tree.Or a b place) = ExprLies files a × ExprLies files b × LiesIn files place
  ExprLies files (tree.Choice c a b place) =
      ExprLies files c × ExprLies files a × ExprLies files b × LiesIn files place
  ExprLies files (tree.Assign e at address place) =
      ExprLies files e × ExprsLie files address × LiesIn files place
  ExprLies files (tree.AssignDeclared e d at address place) =
      ExprLies files e × ExprLies files d × ExprsLie files address × LiesIn files place
  ExprLies files (tree.Update o e at address place) =
      ExprLies files e × ExprsLie files address × LiesIn files place
  ExprLies files (tree.Prefix direction at address place) =
      ExprsLie files address × LiesIn files place
  ExprLies files (tree.Postfix direction at address place) =
      ExprsLie files address × LiesIn files place
  ExprLies files (tree.New c place) = LiesIn files place
  ExprLies files (tree.NewObjects e n constructor place) = ExprLies files n × LiesIn files place
  ExprLies files (tree.Construct o f arguments place) =
      ExprLies files o × ExprsLie files arguments × LiesIn files place
  ExprLies files (tree.CallOf o f arguments place) =
      ExprLies files o × ExprsLie files arguments × LiesIn files place
  ExprLies files (tree.SporkOf o f arguments place) =
      ExprLies files o × ExprsLie files arguments × LiesIn files place

  pub ExprsLie : (files : ℕ) → Exprs → Type 0
  ExprsLie files no_exprs = Unit {0}
  ExprsLie files (more_exprs e rest) = ExprLies files e × ExprsLie files rest

abbrev mutual
  -- each place in a statement does
  pub StmtLies : (files : ℕ) → Stmt → Type 0
  StmtLies files (tree.Simple e place) = ExprLies files e × LiesIn files place
  StmtLies files (tree.Block all) = StmtsLie files all
  StmtLies files (tree.Print items kinds place) = ExprsLie files items × LiesIn files place
  StmtLies files (tree.If c a b place) =
      ExprLies files c × StmtLies files a × StmtLies files b × LiesIn files place
  StmtLies files (tree.Loop until c body place) =
      ExprLies files c × StmtLies files body × LiesIn files place
  StmtLies files (tree.LoopLast until body c place) =
      StmtLies files body × ExprLies files c × LiesIn files place
  StmtLies files (tree.For start c step body place) =
      StmtLies files start × ExprLies files c × StmtLies files step × StmtLies files body
      × LiesIn files place
  StmtLies files (tree.ForEver start step body place) =
      StmtLies files start × StmtLies files step × StmtLies files body × LiesIn files place
  StmtLies files (tree.Repeat n body place) =
      ExprLies files n × StmtLies files body × LiesIn files place
  StmtLies files (tree.ForEach a i widens body place) =
      ExprLies files a × StmtLies files body × LiesIn files place
  StmtLies files (tree.Break place) = LiesIn files place
  StmtLies files (tree.Continue place) = LiesIn files place
  StmtLies files (tree.Return e place) = ExprLies files e × LiesIn files place

  pub StmtsLie : (files : ℕ) → Stmts → Type 0
  StmtsLie files no_stmts = Unit {0}
  StmtsLie files (more_stmts t rest) = StmtLies files t × StmtsLie files rest

-- each place in a function does, and its own
abbrev pub FunLies : (files : ℕ) → Fun → Type 0
FunLies files fn = StmtLies files fn.body × LiesIn files fn.place

-- programs --------------------------------------------------------------------------------------

-- a function is well formed
pub record IsFineFun (program : Program) (fn : Fun) : Type 0 where
  pub params : fn.params ≤ length fn.locals
  pub locals : All (IsValueKind program.classes) fn.locals
  pub result : IsValueKind program.classes fn.result
  pub body : IsFine program fn.locals fn.result false fn.body

-- a file's main takes nothing
abbrev pub IsMain : Program → ℕ → Type 0
IsMain program f = FoundWhere (slice_get program.funs f) (λ fn. fn.params ≡ 0)

-- the function of the statements in a class's braces takes the object alone
abbrev pub IsBody : Program → (class : ℕ) → Option ℕ → Type 0
IsBody program c None = Unit {0}
IsBody program c (Some f) =
    FoundWhere (slice_get program.funs f) (λ fn. params_of fn ≡ One (elem.Class c) ∷ [])

-- the first parameter of a member function is an object of the class, or of an ancestor
abbrev pub IsVirtual : Program → (class fun : ℕ) → Type 0
IsVirtual program c f =
    FoundWhere (slice_get program.funs f)
    (λ fn. (a : ℕ) × (ks : List Kind) × (params_of fn ≡ One (elem.Class a) ∷ ks)
    × IsBelow program.classes c a)

-- two functions have the same types, but for the object
abbrev pub AreSame : Program → (fun other : ℕ) → Type 0
AreSame program f g =
    FoundWhere (slice_get program.funs f) (λ fn. FoundWhere (slice_get program.funs g) (λ old.
    (drop 1 (params_of fn) ≡ drop 1 (params_of old)) × (fn.result ≡ old.result)))

-- a class begins with the fields and the slots of its parent
pub record Extends (program : Program) (class parent : Class) : Type 0 where
  pub fields : (own : List Kind) × (class.fields ≡ parent.fields ++ own)
  pub slots : (s g : ℕ) → slice_get parent.virtuals s ≡ Some g →
      FoundWhere (slice_get class.virtuals s) (λ f. AreSame program f g)

-- a class is well formed
pub record IsFineClass (program : Program) (c : ℕ) (class : Class) : Type 0 where
  pub parent : FoundWhere (slice_get program.classes class.parent)
      (λ parent. Extends program class parent)
  pub line : IsBelow program.classes c 0
  pub fields : All (IsValueKind program.classes) class.fields
  pub virtuals : All (IsVirtual program c) class.virtuals
  pub body : IsBody program c class.body

-- a class stands directly below Object
abbrev pub IsBelowObject : Program → ℕ → Type 0
IsBelowObject program c = FoundWhere (slice_get program.classes c) (λ class. class.parent ≡ 0)

-- a program is well formed
pub record IsWellFormed (program : Program) : Type 0 where
  pub files : program.files ≡ length program.mains
  pub enough : program.files ≤ MAX_FILES
  pub mains : All (IsMain program) program.mains
  pub funs : All (IsFineFun program) program.funs
  pub places : All (FunLies program.files) program.funs
  pub statics : All (IsValueKind program.classes) program.statics
  pub classes : (c : ℕ) (class : Class) → slice_get program.classes c ≡ Some class →
      IsFineClass program c class
  pub object : IsBelowObject program 0
  pub event : IsBelowObject program 1
