-- The names of operators of one operand and of built-in calls in a listing.
use Rattle.std.specs.Prelude.{ℕ, List, codes}
use Rattle.ck_values.specs.declared.operator.Op1.{Op1}
use Rattle.ck_values.specs.declared.operator.Op1.TheVariants.{NegInt, NegFloat, NegDur, NotInt, BoolInt, WidenInt, CutFloat}
use Rattle.ck_typed.specs.declared.native.Native.{Native}
use Rattle.ck_typed.specs.declared.native.Native.TheVariants.{ShredId, Signal, Broadcast, Remove, Size, Clear, Length, CharAt, Substring, Abs, Fabs, Random2, Random2f, Srandom, KeyOn, KeyOff, KeyOnWhere, KeyOffWhere, SetAdsr}

-- an operator of one operand, and the letter of the operand's type:
-- i an int, f a float, d a dur
abbrev pub unary_name : Op1 → List ℕ
unary_name NegInt = codes "neg.i"
unary_name NegFloat = codes "neg.f"
unary_name NegDur = codes "neg.d"
unary_name NotInt = codes "not.i"
unary_name BoolInt = codes "bool.i"
unary_name WidenInt = codes "widen.i"
unary_name CutFloat = codes "cut.f"

-- a built-in call, behind the type or the library that has it;
-- a key with an argument has the letter of it
abbrev pub native_name : Native → List ℕ
native_name ShredId = codes "Shred.id"
native_name Signal = codes "Event.signal"
native_name Broadcast = codes "Event.broadcast"
native_name Remove = codes "Machine.remove"
native_name Size = codes "Array.size"
native_name Clear = codes "Array.clear"
native_name Length = codes "String.length"
native_name CharAt = codes "String.charAt"
native_name Substring = codes "String.substring"
native_name Abs = codes "Std.abs"
native_name Fabs = codes "Std.fabs"
native_name Random2 = codes "Math.random2"
native_name Random2f = codes "Math.random2f"
native_name Srandom = codes "Math.srandom"
native_name KeyOn = codes "Ugen.keyOn"
native_name KeyOff = codes "Ugen.keyOff"
native_name KeyOnWhere = codes "Ugen.keyOn.i"
native_name KeyOffWhere = codes "Ugen.keyOff.i"
native_name SetAdsr = codes "Ugen.set"
