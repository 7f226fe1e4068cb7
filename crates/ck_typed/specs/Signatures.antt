-- What the operators, the built-in calls and the parameters of unit generators take and give.
use Rattle.std.specs.Prelude.{Bool, List, [], ◌∷◌, Option, Some, None, option_map}
use Rattle.ck_values.specs.declared.kind.Elem.{Elem}
use Rattle.ck_values.specs.ParamTypes.{elem_of}
use Rattle.ck_values.specs.declared.kind.Elem.TheVariants.{Int, Float, Dur, Time, Text, Shred}
use Rattle.ck_values.specs.declared.operator.Op1.{Op1}
use Rattle.ck_values.specs.declared.operator.Op1.TheVariants.{NegInt, NegFloat, NegDur, NotInt, BoolInt, WidenInt, CutFloat}
use Rattle.ck_values.specs.declared.operator.Op2.{Op2}
use Rattle.ck_values.specs.declared.operator.Op2.TheVariants.{AddIntInt, SubIntInt, MulIntInt, DivIntInt, ModIntInt, AddFloatFloat, SubFloatFloat, MulFloatFloat, DivFloatFloat, ModFloatFloat, AndIntInt, OrIntInt, XorIntInt, ShlIntInt, ShrIntInt, AddDurDur, SubDurDur, AddTimeDur, AddDurTime, SubTimeDur, SubTimeTime, MulIntDur, MulFloatDur, MulDurInt, MulDurFloat, DivDurInt, DivDurFloat, DivDurDur, DivTimeDur, ModDurDur, ModTimeDur, AddTextText, AddTextInt, AddTextFloat, AddIntText, AddFloatText, EqIntInt, EqFloatFloat, EqDurDur, EqTimeTime, EqTextText, EqRefRef, EqShredShred, NeIntInt, NeFloatFloat, NeDurDur, NeTimeTime, NeTextText, NeRefRef, NeShredShred, LtIntInt, LtFloatFloat, LtDurDur, LtTimeTime, GtIntInt, GtFloatFloat, GtDurDur, GtTimeTime, LeIntInt, LeFloatFloat, LeDurDur, LeTimeTime, GeIntInt, GeFloatFloat, GeDurDur, GeTimeTime}
use Rattle.ugen_names.specs.declared.param.Param.{Param}
use Rattle.ugen_names.specs.declared.table.UgenKind.{UgenKind}
use Rattle.ugen_names.specs.Table as table
use Rattle.ugen_names.specs.Table.{among, parameters}
use Rattle.ck_typed.specs.declared.native.Native.{Native}
use Rattle.ck_typed.specs.declared.native.Native.TheVariants.{ShredId, Signal, Broadcast, Remove, Size, Clear, Length, CharAt, Substring, Abs, Fabs, Random2, Random2f, Srandom, KeyOn, KeyOff, KeyOnWhere, KeyOffWhere, SetAdsr}

-- operators -------------------------------------------------------------------------------------

-- what an operator of one operand takes and gives
pub record Unary : Type 0 where
  pub operand : Elem
  pub result : Elem

abbrev pub takes : (operand result : Elem) → Unary
takes a r = record { operand = a; result = r }

abbrev pub unary : Op1 → Unary
unary NegInt = takes Int Int
unary NegFloat = takes Float Float
unary NegDur = takes Dur Dur
unary NotInt = takes Int Int
unary BoolInt = takes Int Int
unary WidenInt = takes Int Float
unary CutFloat = takes Float Int

-- what an operator of two operands takes and gives
pub record Binary : Type 0 where
  pub left : Elem
  pub right : Elem
  pub result : Elem

abbrev pub join : (left right result : Elem) → Option Binary
join a b r = Some (record { left = a; right = b; result = r })

-- references are compared whatever their types
abbrev pub binary : Op2 → Option Binary
binary AddIntInt = join Int Int Int
binary SubIntInt = join Int Int Int
binary MulIntInt = join Int Int Int
binary DivIntInt = join Int Int Int
binary ModIntInt = join Int Int Int
binary AddFloatFloat = join Float Float Float
binary SubFloatFloat = join Float Float Float
binary MulFloatFloat = join Float Float Float
binary DivFloatFloat = join Float Float Float
binary ModFloatFloat = join Float Float Float
binary AndIntInt = join Int Int Int
binary OrIntInt = join Int Int Int
binary XorIntInt = join Int Int Int
binary ShlIntInt = join Int Int Int
binary ShrIntInt = join Int Int Int
binary AddDurDur = join Dur Dur Dur
binary SubDurDur = join Dur Dur Dur
binary AddTimeDur = join Time Dur Time
binary AddDurTime = join Dur Time Time
binary SubTimeDur = join Time Dur Time
binary SubTimeTime = join Time Time Dur
binary MulIntDur = join Int Dur Dur
binary MulFloatDur = join Float Dur Dur
binary MulDurInt = join Dur Int Dur
binary MulDurFloat = join Dur Float Dur
binary DivDurInt = join Dur Int Dur
binary DivDurFloat = join Dur Float Dur
binary DivDurDur = join Dur Dur Float
binary DivTimeDur = join Time Dur Float
binary ModDurDur = join Dur Dur Dur
binary ModTimeDur = join Time Dur Dur
binary AddTextText = join Text Text Text
binary AddTextInt = join Text Int Text
binary AddTextFloat = join Text Float Text
binary AddIntText = join Int Text Text
binary AddFloatText = join Float Text Text
binary EqIntInt = join Int Int Int
binary EqFloatFloat = join Float Float Int
binary EqDurDur = join Dur Dur Int
binary EqTimeTime = join Time Time Int
binary EqTextText = join Text Text Int
binary EqRefRef = None
binary EqShredShred = join Shred Shred Int
binary NeIntInt = join Int Int Int
binary NeFloatFloat = join Float Float Int
binary NeDurDur = join Dur Dur Int
binary NeTimeTime = join Time Time Int
binary NeTextText = join Text Text Int
binary NeRefRef = None
binary NeShredShred = join Shred Shred Int
binary LtIntInt = join Int Int Int
binary LtFloatFloat = join Float Float Int
binary LtDurDur = join Dur Dur Int
binary LtTimeTime = join Time Time Int
binary GtIntInt = join Int Int Int
binary GtFloatFloat = join Float Float Int
binary GtDurDur = join Dur Dur Int
binary GtTimeTime = join Time Time Int
binary LeIntInt = join Int Int Int
binary LeFloatFloat = join Float Float Int
binary LeDurDur = join Dur Dur Int
binary LeTimeTime = join Time Time Int
binary GeIntInt = join Int Int Int
binary GeFloatFloat = join Float Float Int
binary GeDurDur = join Dur Dur Int
binary GeTimeTime = join Time Time Int

-- built-in calls --------------------------------------------------------------------------------

-- what a built-in call is made on
pub data On : Type 0 where
  nothing : On
  shred : On
  event : On
  array : On
  text : On
  envelope : On
  adsr : On

pub record BuiltIn : Type 0 where
  pub on : On
  pub params : List Elem
  pub gives : Elem

abbrev pub call : On → List Elem → Elem → BuiltIn
call on ps gives = record { on = on; params = ps; gives = gives }

-- a call without result gives the int 0
abbrev pub built_in : Native → BuiltIn
built_in ShredId = call shred [] Int
built_in Signal = call event [] Int
built_in Broadcast = call event [] Int
built_in Remove = call nothing (Int ∷ []) Int
built_in Size = call array [] Int
built_in Clear = call array [] Int
built_in Length = call text [] Int
built_in CharAt = call text (Int ∷ []) Int
built_in Substring = call text (Int ∷ Int ∷ []) Text
built_in Abs = call nothing (Int ∷ []) Int
built_in Fabs = call nothing (Float ∷ []) Float
built_in Random2 = call nothing (Int ∷ Int ∷ []) Int
built_in Random2f = call nothing (Float ∷ Float ∷ []) Float
built_in Srandom = call nothing (Int ∷ []) Int
built_in KeyOn = call envelope [] Int
built_in KeyOff = call envelope [] Int
built_in KeyOnWhere = call envelope (Int ∷ []) Int
built_in KeyOffWhere = call envelope (Int ∷ []) Int
built_in SetAdsr = call adsr (Dur ∷ Dur ∷ Float ∷ Dur ∷ []) Int

-- parameters ------------------------------------------------------------------------------------

-- the type of a parameter, and whether it is read only
pub record Parameter : Type 0 where
  pub elem : Elem
  pub is_read_only : Bool

abbrev pub parameter_by : table.Parameter → Parameter
parameter_by q = record { elem = elem_of q.values; is_read_only = q.is_read_only }

-- a parameter of a kind, by the table of unit generators
abbrev pub parameter : UgenKind → Param → Option Parameter
parameter kind p = option_map parameter_by (among p (parameters kind))
