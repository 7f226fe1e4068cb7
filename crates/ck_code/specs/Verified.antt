-- Which codes are verified: there is a typing by which each instruction finds operands that it can
-- take, whichever way its place is reached, and each number is in range.
use Rattle.std.specs.Prelude.{◌≡◌, ℕ, suc, ◌+◌, ◌<◌, ◌≤◌, pos, ◌≤ℤ◌, false, List, [], ◌∷◌, ◌++◌, length, take, drop, reverse, map, replicate, All, Option, Some, None, slice_get}
use Rattle.ck_values.specs.declared.kind.Elem.{Elem}
use Rattle.ck_values.specs.declared.kind.Elem.TheVariants.{Int as IntElem, Float as FloatElem, Dur as DurElem, Time as TimeElem, Text as TextElem, Shred as ShredElem, Class as ClassElem, Unit as UnitElem}
use Rattle.ck_values.specs.declared.kind.Kind.{Kind}
use Rattle.ck_values.specs.declared.kind.Kind.TheVariants.{Null as NullKind, One, Row as RowKind, Grid as GridKind}
use Rattle.ck_typed.specs.declared.class.Class.{Class}
use Rattle.ck_typed.specs.Standing.{IsBelow, IsReference, Stands}
use Rattle.ck_typed.specs.WellFormed.{IsNamed, IsNamedKind, IsValueKind, FoundWhere, HasItems, IsOn, IsMade, LiesIn}
use Rattle.ck_typed.specs.Signatures.{unary, binary, built_in, Parameter, parameter}
use Rattle.ck_values.specs.declared.operator.Op2.{Op2 as Operator}
use Rattle.ugen_names.specs.declared.param.Param.{Param}
use Rattle.ugen_names.specs.declared.table.UgenKind.{UgenKind}
use Rattle.ugen_names.specs.declared.table.UgenKind.TheVariants.{UGen}
use Rattle.ck_values.specs.declared.operator.Op2.TheVariants.{EqRefRef, NeRefRef}
use Rattle.ck_code.specs.declared.instr.Instr.{Instr}
use Rattle.ck_code.specs.declared.instr.Instr.TheVariants.{Int, Float, Dur, Time, Text, Null, NoShred, Now, Me, Dac, Hole, Local, Static, SetLocal, SetStatic, OpLocal, OpStatic, Field, SetField, OpField, Item, SetItem, OpItem, Dup, Drop, Swap, Op1, Op2, UnitInt, UnitFix, Jump, JumpZero, Turn, Call, Virtual, Native, Return, New, Ugen, Row, Grid, Lit, LitGrid, Each, Fill, Append, Spork, SporkVirtual, WaitDur, WaitTime, WaitEvent, Yield, Exit, Print, Connect, Disconnect, Param as ReadParam, SetParam}
use Rattle.ck_code.specs.declared.code.Step.{Step}
use Rattle.ck_code.specs.declared.code.Fun.{Fun}
use Rattle.ck_code.specs.declared.code.CodeParts.{CodeParts}

-- the operands at each place of a function, the top first; none at a place that nothing reaches
abbrev pub Places : Type 0
Places = List (Option (List Kind))

-- a typing: the result of each function, and the operands at each place of it
pub record Typing : Type 0 where
  pub results : List Kind
  pub operands : List Places

abbrev pub reached : Option (Option (List Kind)) → Option (List Kind)
reached None = None
reached (Some at) = at

-- the operands with which a place is reached, if it is
abbrev pub operands_at : Places → ℕ → Option (List Kind)
operands_at places p = reached (slice_get places p)

-- the place is reached, and these are its operands
abbrev pub AreAt : Places → ℕ → List Kind → Type 0
AreAt places p operands = operands_at places p ≡ Some operands

-- values of these kinds may stand where values of those are wanted
abbrev pub AllStand : List Class → (from to : List Kind) → Type 0
AllStand classes [] [] = Unit {0}
AllStand classes [] (k ∷ ks) = ⊥
AllStand classes (j ∷ js) [] = ⊥
AllStand classes (j ∷ js) (k ∷ ks) = Stands classes j k × AllStand classes js ks

-- a place is reached with operands of these kinds: they may stand where its own are wanted
abbrev pub Finds : List Class → Places → ℕ → List Kind → Type 0
Finds classes places p kinds =
    FoundWhere (operands_at places p) (λ wanted. AllStand classes kinds wanted)

-- there is a top operand, and this holds of its kind and of those beneath
abbrev pub Topped : List Kind → (Kind → List Kind → Type 0) → Type 0
Topped [] P = ⊥
Topped (k ∷ beneath) P = P k beneath

-- on top are operands that may stand where these are wanted, and this holds of those beneath
abbrev pub OnTop : List Class → (wanted operands : List Kind) → (List Kind → Type 0) → Type 0
OnTop classes [] ops P = P ops
OnTop classes (k ∷ wanted) ops P =
    Topped ops (λ j beneath. Stands classes j k × OnTop classes wanted beneath P)

-- this holds, unless the operand is of the kind of `null`: what uses that always traps
abbrev pub UnlessNull : Kind → Type 0 → Type 0
UnlessNull NullKind P = Unit {0}
UnlessNull _ P = P

-- the kinds of a function's parameters
abbrev pub params_of : Fun → List Kind
params_of fn = take fn.params fn.locals

-- a class has a field of such a kind
abbrev pub HasField : CodeParts → (class i : ℕ) → (Kind → Type 0) → Type 0
HasField code c i P =
    FoundWhere (slice_get code.classes c) (λ class. FoundWhere (slice_get class.fields i) P)

-- a class has such a function in a slot, with such a result
abbrev pub HasSlot : CodeParts → Typing → (class slot : ℕ) → (Fun → Kind → Type 0) → Type 0
HasSlot code typing c slot P =
    FoundWhere (slice_get code.classes c) (λ class.
    FoundWhere (slice_get class.virtuals slot) (λ g.
    FoundWhere (slice_get code.funs g) (λ fn. FoundWhere (slice_get typing.results g) (P fn))))

-- an operand is an object of a class with such a field, or null
abbrev pub OfField : CodeParts → (object : Kind) → (i : ℕ) → (Kind → Type 0) → Type 0
OfField code r i P =
    UnlessNull r ((c : ℕ) × Stands code.classes r (One (ClassElem c)) × HasField code c i P)

-- on top is an index; this holds of the array beneath it and of the operands beneath both
abbrev pub Indexed : List Class → (operands : List Kind) → (Kind → List Kind → Type 0) → Type 0
Indexed classes ops P = OnTop classes (One IntElem ∷ []) ops (λ under. Topped under P)

-- an operand is an array of items of such a kind, or null
abbrev pub OfItems : List Class → (array : Kind) → (Kind → Type 0) → Type 0
OfItems classes r P = UnlessNull r ((j k : Kind) × HasItems j k × Stands classes r j × P k)

-- an operand is an array of such items that are no arrays, or null
abbrev pub OfRow : List Class → (array : Kind) → (Elem → Type 0) → Type 0
OfRow classes r P = UnlessNull r ((e : Elem) × Stands classes r (RowKind e) × P e)

-- on top are two references, and this holds of those beneath
abbrev pub OnReferences : (operands : List Kind) → (List Kind → Type 0) → Type 0
OnReferences ops P =
    Topped ops (λ k under. IsReference k × Topped under (λ j beneath. IsReference j × P beneath))

-- on top are two operands that an operator takes, and this holds of its result and of those
-- beneath; references are compared whatever their types
abbrev pub OnTwo : List Class → Operator → (operands : List Kind) → (Elem → List Kind → Type 0)
    → Type 0
OnTwo classes EqRefRef ops P = OnReferences ops (P IntElem)
OnTwo classes NeRefRef ops P = OnReferences ops (P IntElem)
OnTwo classes o ops P =
    FoundWhere (binary o) (λ kinds.
    OnTop classes (One kinds.right ∷ One kinds.left ∷ []) ops (λ beneath. P kinds.result beneath))

-- an operator takes what stands where a value of this kind does, and the top operand, and what it
-- gives may stand there; this holds of its result and of the operands beneath
abbrev pub UpdatesWith : List Class → Operator → Kind → (operands : List Kind)
    → (Elem → List Kind → Type 0) → Type 0
UpdatesWith classes o k ops P =
    FoundWhere (binary o) (λ kinds. Stands classes k (One kinds.left)
    × Stands classes (One kinds.result) k
    × OnTop classes (One kinds.right ∷ []) ops (λ beneath. P kinds.result beneath))

-- some kind of unit generator has a parameter, and this holds of both
abbrev pub HasParameter : Param → (UgenKind → Parameter → Type 0) → Type 0
HasParameter q P = (u : UgenKind) × FoundWhere (parameter u q) (P u)

-- on top are two unit generators, and where neither is null this holds of the kind of the upper one
-- and of those beneath both
abbrev pub OnUnits : List Class → (operands : List Kind) → (Kind → List Kind → Type 0) → Type 0
OnUnits classes ops P =
    Topped ops (λ j under. Topped under (λ i beneath. (u w : UgenKind)
    × Stands classes j (One (UnitElem w)) × Stands classes i (One (UnitElem u))
    × UnlessNull i (UnlessNull j (P j beneath))))

-- what a call of a member function or a built-in one is made on lies beneath its arguments
abbrev pub Receiver : (arguments : ℕ) → (operands : List Kind) → (Kind → Type 0) → Type 0
Receiver n ops P = FoundWhere (slice_get ops n) P

-- a built-in call is made on nothing, or on an operand that isn't null: then this holds
abbrev pub UnlessOnNull : (on : List Kind) → (arguments : ℕ) → (operands : List Kind) → Type 0
    → Type 0
UnlessOnNull [] n ops P = P
UnlessOnNull (k ∷ ks) n ops P = Receiver n ops (λ r. UnlessNull r P)

-- the instruction at place p finds these operands, and leaves what the next place asks for
abbrev pub Fits : CodeParts → Typing → Fun → (f : ℕ) → Places → (p : ℕ) → Instr
    → List Kind → Type 0
Fits code typing fn f places p (Int n) ops = Finds code.classes places (p + 1) (One IntElem ∷ ops)
Fits code typing fn f places p (Float x) ops =
    Finds code.classes places (p + 1) (One FloatElem ∷ ops)
Fits code typing fn f places p (Dur samples) ops =
    Finds code.classes places (p + 1) (One DurElem ∷ ops)
Fits code typing fn f places p (Time samples) ops =
    Finds code.classes places (p + 1) (One TimeElem ∷ ops)
Fits code typing fn f places p (Text k) ops =
    (k < length code.texts) × Finds code.classes places (p + 1) (One TextElem ∷ ops)
Fits code typing fn f places p Null ops = Finds code.classes places (p + 1) (NullKind ∷ ops)
Fits code typing fn f places p NoShred ops =
    Finds code.classes places (p + 1) (One ShredElem ∷ ops)
Fits code typing fn f places p Now ops = Finds code.classes places (p + 1) (One TimeElem ∷ ops)
Fits code typing fn f places p Me ops = Finds code.classes places (p + 1) (One ShredElem ∷ ops)
Fits code typing fn f places p (Local i) ops =
    FoundWhere (slice_get fn.locals i) (λ k. Finds code.classes places (p + 1) (k ∷ ops))
Fits code typing fn f places p (Static i) ops =
    FoundWhere (slice_get code.statics i) (λ k. Finds code.classes places (p + 1) (k ∷ ops))
Fits code typing fn f places p (SetLocal i) ops =
    FoundWhere (slice_get fn.locals i) (λ k. Topped ops (λ j beneath.
    Stands code.classes j k × Finds code.classes places (p + 1) (j ∷ beneath)))
Fits code typing fn f places p (SetStatic i) ops =
    FoundWhere (slice_get code.statics i) (λ k. Topped ops (λ j beneath.
    Stands code.classes j k × Finds code.classes places (p + 1) (j ∷ beneath)))
Fits code typing fn f places p (OpLocal i o) ops =
    FoundWhere (slice_get fn.locals i) (λ k. UpdatesWith code.classes o k ops (λ result beneath.
    Finds code.classes places (p + 1) (One result ∷ beneath)))
Fits code typing fn f places p (OpStatic i o) ops =
    FoundWhere (slice_get code.statics i) (λ k. UpdatesWith code.classes o k ops (λ result beneath.
    Finds code.classes places (p + 1) (One result ∷ beneath)))
Fits code typing fn f places p (Field i) ops =
    Topped ops (λ r beneath.
    OfField code r i (λ k. Finds code.classes places (p + 1) (k ∷ beneath)))
Fits code typing fn f places p (SetField i) ops =
    Topped ops (λ r under. Topped under (λ j beneath. OfField code r i (λ k.
    Stands code.classes j k × Finds code.classes places (p + 1) (j ∷ beneath))))
Fits code typing fn f places p (OpField i o) ops =
    Topped ops (λ r under. Topped under (λ j lower. OfField code r i (λ k.
    UpdatesWith code.classes o k (j ∷ lower) (λ result beneath.
    Finds code.classes places (p + 1) (One result ∷ beneath)))))
Fits code typing fn f places p Item ops =
    Indexed code.classes ops (λ r beneath.
    OfItems code.classes r (λ k. Finds code.classes places (p + 1) (k ∷ beneath)))
Fits code typing fn f places p SetItem ops =
    Indexed code.classes ops (λ r under. Topped under (λ j beneath.
    OfItems code.classes r (λ k.
    Stands code.classes j k × Finds code.classes places (p + 1) (j ∷ beneath))))
Fits code typing fn f places p (OpItem o) ops =
    Indexed code.classes ops (λ r under. Topped under (λ j lower.
    OfItems code.classes r (λ k. UpdatesWith code.classes o k (j ∷ lower) (λ result beneath.
    Finds code.classes places (p + 1) (One result ∷ beneath)))))
Fits code typing fn f places p Dup ops =
    Topped ops (λ k beneath. Finds code.classes places (p + 1) (k ∷ k ∷ beneath))
Fits code typing fn f places p Drop ops =
    Topped ops (λ k beneath. Finds code.classes places (p + 1) beneath)
Fits code typing fn f places p Swap ops =
    Topped ops (λ j under. Topped under (λ k beneath.
    Finds code.classes places (p + 1) (k ∷ j ∷ beneath)))
Fits code typing fn f places p (Op1 o) ops =
    OnTop code.classes (One (unary o).operand ∷ []) ops (λ beneath.
    Finds code.classes places (p + 1) (One (unary o).result ∷ beneath))
Fits code typing fn f places p (Op2 o) ops =
    OnTwo code.classes o ops (λ result beneath.
    Finds code.classes places (p + 1) (One result ∷ beneath))
Fits code typing fn f places p (UnitInt n d) ops =
    (pos 1 ≤ℤ d) × OnTop code.classes (One IntElem ∷ []) ops (λ beneath.
    Finds code.classes places (p + 1) (One DurElem ∷ beneath))
Fits code typing fn f places p (UnitFix n d) ops =
    (pos 1 ≤ℤ d) × OnTop code.classes (One FloatElem ∷ []) ops (λ beneath.
    Finds code.classes places (p + 1) (One DurElem ∷ beneath))
Fits code typing fn f places p (Jump t) ops = Finds code.classes places t ops
Fits code typing fn f places p (JumpZero t) ops =
    OnTop code.classes (One IntElem ∷ []) ops (λ beneath.
    Finds code.classes places t beneath × Finds code.classes places (p + 1) beneath)
Fits code typing fn f places p Turn ops = Finds code.classes places (p + 1) ops
Fits code typing fn f places p (Call g) ops =
    FoundWhere (slice_get code.funs g) (λ callee. FoundWhere (slice_get typing.results g) (λ result.
    OnTop code.classes (reverse (params_of callee)) ops (λ beneath.
    Finds code.classes places (p + 1) (result ∷ beneath))))
Fits code typing fn f places p (Virtual slot n) ops =
    (m : ℕ) × (n ≡ suc m) × Receiver m ops (λ r. UnlessNull r ((c : ℕ)
    × HasSlot code typing c slot (λ callee result. (n ≡ callee.params)
    × OnTop code.classes (reverse (One (ClassElem c) ∷ drop 1 (params_of callee))) ops (λ beneath.
    Finds code.classes places (p + 1) (result ∷ beneath)))))
Fits code typing fn f places p (Spork g) ops =
    FoundWhere (slice_get code.funs g) (λ callee.
    OnTop code.classes (reverse (params_of callee)) ops (λ beneath.
    Finds code.classes places (p + 1) (One ShredElem ∷ beneath)))
Fits code typing fn f places p (SporkVirtual slot n) ops =
    (m : ℕ) × (n ≡ suc m) × Receiver m ops (λ r. UnlessNull r ((c : ℕ)
    × HasSlot code typing c slot (λ callee result. (n ≡ callee.params)
    × OnTop code.classes (reverse (One (ClassElem c) ∷ drop 1 (params_of callee))) ops (λ beneath.
    Finds code.classes places (p + 1) (One ShredElem ∷ beneath)))))
Fits code typing fn f places p (Native call) ops =
    (on : List Kind) × IsOn (built_in call).on on
    × OnTop code.classes (reverse (on ++ map One (built_in call).params)) ops (λ beneath.
    UnlessOnNull on (length (built_in call).params) ops
    (Finds code.classes places (p + 1) (One (built_in call).gives ∷ beneath)))
Fits code typing fn f places p Return ops =
    FoundWhere (slice_get typing.results f)
    (λ result. Topped ops (λ j beneath. Stands code.classes j result))
Fits code typing fn f places p (New c) ops =
    (c < length code.classes) × Finds code.classes places (p + 1) (One (ClassElem c) ∷ ops)
Fits code typing fn f places p (Row e) ops =
    IsNamed code.classes e × OnTop code.classes (One IntElem ∷ []) ops (λ beneath.
    Finds code.classes places (p + 1) (RowKind e ∷ beneath))
Fits code typing fn f places p (Grid e) ops =
    IsNamed code.classes e
    × OnTop code.classes (One IntElem ∷ One IntElem ∷ []) ops (λ beneath.
    Finds code.classes places (p + 1) (GridKind e ∷ beneath))
Fits code typing fn f places p (Lit e n) ops =
    IsNamed code.classes e × OnTop code.classes (replicate n (One e)) ops (λ beneath.
    Finds code.classes places (p + 1) (RowKind e ∷ beneath))
Fits code typing fn f places p (LitGrid e n) ops =
    IsNamed code.classes e × OnTop code.classes (replicate n (RowKind e)) ops (λ beneath.
    Finds code.classes places (p + 1) (GridKind e ∷ beneath))
Fits code typing fn f places p (Each t) ops =
    (t < length places) × Indexed code.classes ops (λ r beneath. OfRow code.classes r (λ e.
    Finds code.classes places (p + 1) (One IntElem ∷ RowKind e ∷ beneath)
    × Finds code.classes places t (RowKind e ∷ beneath)))
Fits code typing fn f places p Fill ops =
    Topped ops (λ j under. Indexed code.classes under (λ r beneath. OfRow code.classes r (λ e.
    Stands code.classes j (One e)
    × Finds code.classes places (p + 1) (One IntElem ∷ RowKind e ∷ beneath))))
Fits code typing fn f places p Append ops =
    Topped ops (λ j under. Topped under (λ r beneath. OfRow code.classes r (λ e.
    Stands code.classes j (One e) × Finds code.classes places (p + 1) (RowKind e ∷ beneath))))
Fits code typing fn f places p WaitDur ops =
    OnTop code.classes (One DurElem ∷ []) ops (λ beneath. Finds code.classes places (p + 1) beneath)
Fits code typing fn f places p WaitTime ops =
    OnTop code.classes (One TimeElem ∷ []) ops (λ beneath.
    Finds code.classes places (p + 1) beneath)
Fits code typing fn f places p WaitEvent ops =
    Topped ops (λ r beneath. UnlessNull r (Stands code.classes r (One (ClassElem 1))
    × Finds code.classes places (p + 1) beneath))
Fits code typing fn f places p Yield ops = Finds code.classes places (p + 1) ops
Fits code typing fn f places p Exit ops = Unit {0}
Fits code typing fn f places p (Print kinds) ops =
    (1 ≤ length kinds) × All (IsNamedKind code.classes) kinds
    × OnTop code.classes (reverse kinds) ops (λ beneath.
    Finds code.classes places (p + 1) beneath)
Fits code typing fn f places p Dac ops =
    Finds code.classes places (p + 1) (One (UnitElem UGen) ∷ ops)
Fits code typing fn f places p Hole ops =
    Finds code.classes places (p + 1) (One (UnitElem UGen) ∷ ops)
Fits code typing fn f places p (Ugen kind) ops =
    IsMade kind × Finds code.classes places (p + 1) (One (UnitElem kind) ∷ ops)
Fits code typing fn f places p Connect ops =
    OnUnits code.classes ops (λ j beneath. Finds code.classes places (p + 1) (j ∷ beneath))
Fits code typing fn f places p Disconnect ops =
    OnUnits code.classes ops (λ j beneath. Finds code.classes places (p + 1) (j ∷ beneath))
Fits code typing fn f places p (ReadParam q) ops =
    Topped ops (λ r beneath. UnlessNull r (HasParameter q (λ u of_it.
    Stands code.classes r (One (UnitElem u))
    × Finds code.classes places (p + 1) (One of_it.elem ∷ beneath))))
Fits code typing fn f places p (SetParam q) ops =
    Topped ops (λ j under. Topped under (λ r beneath. UnlessNull r (HasParameter q (λ u of_it.
    (of_it.is_read_only ≡ false) × Stands code.classes j (One of_it.elem)
    × Stands code.classes r (One (UnitElem u))
    × Finds code.classes places (p + 1) (One of_it.elem ∷ beneath)))))

-- each number that an instruction has is in range, whether its place is reached or not
abbrev pub IsInRange : CodeParts → Fun → Instr → Type 0
IsInRange code fn (Text k) = k < length code.texts
IsInRange code fn (Local i) = i < length fn.locals
IsInRange code fn (SetLocal i) = i < length fn.locals
IsInRange code fn (OpLocal i o) = i < length fn.locals
IsInRange code fn (Static i) = i < length code.statics
IsInRange code fn (SetStatic i) = i < length code.statics
IsInRange code fn (OpStatic i o) = i < length code.statics
IsInRange code fn (UnitInt n d) = pos 1 ≤ℤ d
IsInRange code fn (UnitFix n d) = pos 1 ≤ℤ d
IsInRange code fn (Jump t) = t < length fn.code
IsInRange code fn (JumpZero t) = t < length fn.code
IsInRange code fn (Each t) = t < length fn.code
IsInRange code fn (Call g) = g < length code.funs
IsInRange code fn (Spork g) = g < length code.funs
IsInRange code fn (New c) = c < length code.classes
IsInRange code fn (Ugen kind) = IsMade kind
IsInRange code fn (Row e) = IsNamed code.classes e
IsInRange code fn (Grid e) = IsNamed code.classes e
IsInRange code fn (Lit e n) = IsNamed code.classes e
IsInRange code fn (LitGrid e n) = IsNamed code.classes e
IsInRange code fn (Print kinds) = (1 ≤ length kinds) × All (IsNamedKind code.classes) kinds
IsInRange code fn _ = Unit {0}

-- the instruction jumps to this place
abbrev pub JumpsTo : Instr → ℕ → Type 0
JumpsTo (Jump t) target = t ≡ target
JumpsTo (JumpZero t) target = t ≡ target
JumpsTo (Each t) target = t ≡ target
JumpsTo _ target = ⊥

-- place p of this code jumps to this place
abbrev pub HasJump : List Step → (p target : ℕ) → Type 0
HasJump code p target = FoundWhere (slice_get code p) (λ step. JumpsTo step.instr target)

-- a place p that jumps back to a place t has a turn between: at a place q from t to below p, such
-- that no jump from outside the places q to p goes to a place after q up to p
pub record HasTurnBetween (code : List Step) (t p : ℕ) : Type 0 where
  pub q : ℕ
  pub after : t ≤ q
  pub before : q < p
  pub turn : FoundWhere (slice_get code q) (λ step. step.instr ≡ Turn)
  pub only : (from to : ℕ) → HasJump code from to → q < to → to ≤ p → (q ≤ from) × (from ≤ p)

-- a function's code fits a typing
pub record IsFunVerified (code : CodeParts) (typing : Typing) (f : ℕ) (fn : Fun)
    (places : Places) : Type 0 where
  pub params : fn.params ≤ length fn.locals
  pub locals : All (IsValueKind code.classes) fn.locals
  pub as_long : length places ≡ length fn.code
  pub first : AreAt places 0 []
  pub each : (p : ℕ) (step : Step) (ops : List Kind) → slice_get fn.code p ≡ Some step
      → AreAt places p ops → Fits code typing fn f places p step.instr ops
  pub ranges : (p : ℕ) (step : Step) → slice_get fn.code p ≡ Some step
      → IsInRange code fn step.instr
  pub files : (p : ℕ) (step : Step) → slice_get fn.code p ≡ Some step
      → LiesIn (length code.mains) step.place
  pub turns : (p t : ℕ) → HasJump fn.code p t → t ≤ p → HasTurnBetween fn.code t p

-- the first parameter of a member function is an object of the class, or of an ancestor
abbrev pub TakesObject : CodeParts → (class fun : ℕ) → Type 0
TakesObject code c f =
    FoundWhere (slice_get code.funs f) (λ fn. (a : ℕ) × (ks : List Kind)
    × (params_of fn ≡ One (ClassElem a) ∷ ks) × IsBelow code.classes c a)

-- the function of the statements in a class's braces takes the object alone
abbrev pub IsBody : CodeParts → (class : ℕ) → Option ℕ → Type 0
IsBody code c None = Unit {0}
IsBody code c (Some f) =
    FoundWhere (slice_get code.funs f) (λ fn. params_of fn ≡ One (ClassElem c) ∷ [])

-- two functions have the same types, but for the object
abbrev pub HaveSameTypes : CodeParts → Typing → (fun other : ℕ) → Type 0
HaveSameTypes code typing f g =
    FoundWhere (slice_get code.funs f) (λ fn. FoundWhere (slice_get code.funs g) (λ old.
    (drop 1 (params_of fn) ≡ drop 1 (params_of old))
    × (slice_get typing.results f ≡ slice_get typing.results g)))

-- a class begins with the fields and the slots of its parent
pub record ExtendsTable (code : CodeParts) (typing : Typing) (class parent : Class) : Type 0 where
  pub fields : (own : List Kind) × (class.fields ≡ parent.fields ++ own)
  pub slots : (s g : ℕ) → slice_get parent.virtuals s ≡ Some g
      → FoundWhere (slice_get class.virtuals s) (λ f. HaveSameTypes code typing f g)

-- a class table is verified
pub record IsClassVerified (code : CodeParts) (typing : Typing) (c : ℕ) (class : Class) : Type 0
  where
    pub parent : FoundWhere (slice_get code.classes class.parent)
        (λ parent. ExtendsTable code typing class parent)
    pub line : IsBelow code.classes c 0
    pub fields : All (IsValueKind code.classes) class.fields
    pub virtuals : (s f : ℕ) → slice_get class.virtuals s ≡ Some f → TakesObject code c f
    pub body : IsBody code c class.body

-- a code is verified
pub record IsVerified (code : CodeParts) : Type 0 where
  pub typing : Typing
  pub results : All (IsValueKind code.classes) typing.results
  pub same_results : length typing.results ≡ length code.funs
  pub same_places : length typing.operands ≡ length code.funs
  pub funs : (f : ℕ) (fn : Fun) (places : Places) → slice_get code.funs f ≡ Some fn
      → slice_get typing.operands f ≡ Some places → IsFunVerified code typing f fn places
  pub classes : (c : ℕ) (class : Class) → slice_get code.classes c ≡ Some class
      → IsClassVerified code typing c class
  pub statics : All (IsValueKind code.classes) code.statics
  pub object : (class : Class) → slice_get code.classes 0 ≡ Some class → class.parent ≡ 0
  pub mains : All (λ f. FoundWhere (slice_get code.funs f) (λ fn. fn.params ≡ 0)) code.mains
