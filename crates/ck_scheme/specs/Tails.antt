-- What the code of an operation has behind the codes of its operands, and the place after it.
use Rattle.std.specs.Prelude.{ℕ, ◌+◌, pos, List, [], ◌∷◌}
use Rattle.ck_values.specs.declared.operator.Op2.{Op2 as Operator}
use Rattle.ck_values.specs.declared.trap.Place.{Place}
use Rattle.ck_typed.specs.declared.expr.Spot.{Spot}
use Rattle.ck_typed.specs.declared.expr.Spot.TheVariants.{Local as LocalSpot, Static as StaticSpot, StaticOf as StaticOfSpot, Field as FieldSpot, Item as ItemSpot}
use Rattle.ck_typed.specs.declared.operation.Leaf.{Leaf as OfNone}
use Rattle.ck_typed.specs.declared.operation.Leaf.TheVariants as leaf
use Rattle.ck_typed.specs.declared.operation.Unary.{Unary as OfOne}
use Rattle.ck_typed.specs.declared.operation.Unary.TheVariants as unary
use Rattle.ck_typed.specs.declared.operation.Binary.{Binary as OfTwo}
use Rattle.ck_typed.specs.declared.operation.Binary.TheVariants as binary
use Rattle.ck_typed.specs.declared.operation.Variadic.{Variadic as OfMany}
use Rattle.ck_typed.specs.declared.operation.Variadic.TheVariants as variadic
use Rattle.ck_code.specs.declared.code.Step.{Step}
use Rattle.ck_code.specs.declared.instr.Instr.{Instr}
use Rattle.ck_code.specs.declared.instr.Instr.TheVariants.{Int, Float, Dur, Time, Null, NoShred, Now, Me, Dac, Hole, Local, Static, SetLocal, SetStatic, OpLocal, OpStatic, Field, SetField, OpField, Item, SetItem, OpItem, Drop, Swap, Op1, Op2, UnitInt, UnitFix, Call, Virtual, Native, Ugen, Row, Grid, Lit, LitGrid, Append, Spork, SporkVirtual, WaitDur, WaitTime, WaitEvent, Yield, Exit, Connect, Disconnect, Param, SetParam}

abbrev pub at : Instr → Place → Step
at i place = record { instr = i; place = place }

-- what reads a spot, and what sets it, after its address
abbrev pub read_code : Spot → Place → List Step
read_code (LocalSpot i) place = at (Local i) place ∷ []
read_code (StaticSpot i) place = at (Static i) place ∷ []
read_code (StaticOfSpot i) place = at Drop place ∷ at (Static i) place ∷ []
read_code (FieldSpot i) place = at (Field i) place ∷ []
read_code ItemSpot place = at Item place ∷ []

abbrev pub set_code : Spot → Place → List Step
set_code (LocalSpot i) place = at (SetLocal i) place ∷ []
set_code (StaticSpot i) place = at (SetStatic i) place ∷ []
set_code (StaticOfSpot i) place = at Drop place ∷ at (SetStatic i) place ∷ []
set_code (FieldSpot i) place = at (SetField i) place ∷ []
set_code ItemSpot place = at SetItem place ∷ []

-- what updates a spot by an operator and the value beneath the address
abbrev pub update_code : Spot → Operator → Place → List Step
update_code (LocalSpot i) o place = at (OpLocal i o) place ∷ []
update_code (StaticSpot i) o place = at (OpStatic i o) place ∷ []
update_code (StaticOfSpot i) o place = at Drop place ∷ at (OpStatic i o) place ∷ []
update_code (FieldSpot i) o place = at (OpField i o) place ∷ []
update_code ItemSpot o place = at (OpItem o) place ∷ []

-- the place after one of them
abbrev pub spot_end : ℕ → Spot → ℕ
spot_end p (LocalSpot i) = p + 1
spot_end p (StaticSpot i) = p + 1
spot_end p (StaticOfSpot i) = p + 1 + 1
spot_end p (FieldSpot i) = p + 1
spot_end p ItemSpot = p + 1

-- operations -----------------------------------------------------------------------------------

-- of what has no operand: all its code
abbrev pub leaf_code : OfNone → Place → List Step
leaf_code (leaf.Int n) place = at (Int n) place ∷ []
leaf_code (leaf.Float x) place = at (Float x) place ∷ []
leaf_code (leaf.Dur samples) place = at (Dur samples) place ∷ []
leaf_code (leaf.Time samples) place = at (Time samples) place ∷ []
leaf_code leaf.Null place = at Null place ∷ []
leaf_code leaf.NoShred place = at NoShred place ∷ []
leaf_code leaf.Now place = at Now place ∷ []
leaf_code leaf.Me place = at Me place ∷ []
leaf_code leaf.Dac place = at Dac place ∷ []
leaf_code leaf.Blackhole place = at Hole place ∷ []
leaf_code (leaf.NewUgen kind) place = at (Ugen kind) place ∷ []
leaf_code leaf.Yield place = at Yield place ∷ at (Int (pos 0)) place ∷ []
leaf_code leaf.Exit place = at Exit place ∷ at (Int (pos 0)) place ∷ []

abbrev pub leaf_end : ℕ → OfNone → ℕ
leaf_end p leaf.Yield = p + 1 + 1
leaf_end p leaf.Exit = p + 1 + 1
leaf_end p _ = p + 1

-- of what has one operand
abbrev pub unary_code : OfOne → Place → List Step
unary_code (unary.Operator o) place = at (Op1 o) place ∷ []
unary_code (unary.UnitInt n d) place = at (UnitInt n d) place ∷ []
unary_code (unary.UnitFloat n d) place = at (UnitFix n d) place ∷ []
unary_code (unary.NewRow e) place = at (Row e) place ∷ []
unary_code (unary.Param q) place = at (Param q) place ∷ []
unary_code unary.WaitDur place = at WaitDur place ∷ at Now place ∷ []
unary_code unary.WaitTime place = at WaitTime place ∷ at Now place ∷ []
unary_code unary.WaitEvent place = at WaitEvent place ∷ at Now place ∷ []

abbrev pub unary_end : ℕ → OfOne → ℕ
unary_end p unary.WaitDur = p + 1 + 1
unary_end p unary.WaitTime = p + 1 + 1
unary_end p unary.WaitEvent = p + 1 + 1
unary_end p _ = p + 1

-- of what has two
abbrev pub binary_code : OfTwo → Place → List Step
binary_code (binary.Operator o) place = at (Op2 o) place ∷ []
binary_code (binary.NewGrid e) place = at (Grid e) place ∷ []
binary_code binary.Append place = at Append place ∷ []
binary_code (binary.ChuckMethod slot) place = at Swap place ∷ at (Virtual slot 2) place ∷ []
binary_code (binary.ChuckCallOf f) place = at Drop place ∷ at (Call f) place ∷ []
binary_code (binary.ChuckNative call) place = at Swap place ∷ at (Native call) place ∷ []
binary_code (binary.SetParam q) place = at (SetParam q) place ∷ []
binary_code (binary.ChuckParam q) place = at Swap place ∷ at (SetParam q) place ∷ []
binary_code binary.Connect place = at Connect place ∷ []
binary_code binary.Disconnect place = at Disconnect place ∷ []

abbrev pub binary_end : ℕ → OfTwo → ℕ
binary_end p (binary.ChuckMethod slot) = p + 1 + 1
binary_end p (binary.ChuckCallOf f) = p + 1 + 1
binary_end p (binary.ChuckNative call) = p + 1 + 1
binary_end p (binary.ChuckParam q) = p + 1 + 1
binary_end p _ = p + 1

-- of what has so many
abbrev pub variadic_code : OfMany → (count : ℕ) → Place → List Step
variadic_code (variadic.Read spot) count place = read_code spot place
variadic_code (variadic.Array e) count place = at (Lit e count) place ∷ []
variadic_code (variadic.ArrayOfRows e) count place = at (LitGrid e count) place ∷ []
variadic_code (variadic.Call f) count place = at (Call f) place ∷ []
variadic_code (variadic.Method slot) count place = at (Virtual slot count) place ∷ []
variadic_code (variadic.Native call) count place = at (Native call) place ∷ []
variadic_code (variadic.Spork f) count place = at (Spork f) place ∷ []
variadic_code (variadic.SporkMethod slot) count place = at (SporkVirtual slot count) place ∷ []

abbrev pub variadic_end : ℕ → OfMany → ℕ
variadic_end p (variadic.Read spot) = spot_end p spot
variadic_end p _ = p + 1
