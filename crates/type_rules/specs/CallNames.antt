-- The built-in calls by their names: what each is made on, as a listing spells it, and what it is
-- called, with the letters of its arguments and of what it gives. The rows of src/calls.rt are told
-- from one another by them.
use Rattle.std.specs.Prelude.{ℕ, ◌++◌, List, [], ◌∷◌, codes, count_by}
use Rattle.ck_values.specs.declared.kind.Elem.{Elem}
use Rattle.ck_values.specs.declared.kind.Kind.{Kind}
use Rattle.ck_values.specs.declared.kind.Kind.TheVariants.{Void, Null, One, Row, Grid}
use Rattle.ck_typed.specs.declared.native.Native.{Native}
use Rattle.ck_typed.specs.declared.native.Native.TheVariants.{ShredId, Signal, Broadcast, Remove, Size, Clear, Length, CharAt, Substring, Abs, Fabs, Random2, Random2f, Srandom, KeyOn, KeyOff, KeyOnWhere, KeyOffWhere, SetAdsr}
use Rattle.ck_typed.specs.contracts.native.Native as native
use Rattle.type_rules.specs.declared.calls.Holder.{Holder}
use Rattle.type_rules.specs.declared.calls.Holder.TheVariants as holder
use Rattle.type_rules.specs.Calls.{Call, calls}
use Rattle.type_rules.specs.OperatorNames.{letter}
use denote.Enum.Bare.{sameb}

-- what a call is made on
abbrev pub holder_name : Holder → List ℕ
holder_name holder.Shred = codes "Shred"
holder_name holder.Event = codes "Event"
holder_name holder.Array = codes "Array"
holder_name holder.Text = codes "String"
holder_name holder.Envelope = codes "Envelope"
holder_name holder.Adsr = codes "ADSR"
holder_name holder.Std = codes "Std"
holder_name holder.Math = codes "Math"
holder_name holder.Machine = codes "Machine"

abbrev pub letters : List Elem → List ℕ
letters [] = []
letters (e ∷ es) = letter e ++ letters es

-- what a call gives: v is nothing, and brackets are an array
abbrev pub given : Kind → List ℕ
given Void = codes "v"
given Null = codes "null"
given (One e) = letter e
given (Row e) = letter e ++ codes "[]"
given (Grid e) = letter e ++ codes "[][]"

-- the name that a row makes
abbrev pub row_name : Call → List ℕ
row_name c =
    holder_name c.on ++ codes "." ++ c.name ++ codes "(" ++ letters c.params ++ codes ")"
    ++ given c.gives

-- each built-in call by its name
abbrev pub call_name : Native → List ℕ
call_name ShredId = codes "Shred.id()i"
call_name Signal = codes "Event.signal()v"
call_name Broadcast = codes "Event.broadcast()v"
call_name Remove = codes "Machine.remove(i)i"
call_name Size = codes "Array.size()i"
call_name Clear = codes "Array.clear()v"
call_name Length = codes "String.length()i"
call_name CharAt = codes "String.charAt(i)i"
call_name Substring = codes "String.substring(ii)s"
call_name Abs = codes "Std.abs(i)i"
call_name Fabs = codes "Std.fabs(f)f"
call_name Random2 = codes "Math.random2(ii)i"
call_name Random2f = codes "Math.random2f(ff)f"
call_name Srandom = codes "Math.srandom(i)v"
call_name KeyOn = codes "Envelope.keyOn()v"
call_name KeyOff = codes "Envelope.keyOff()v"
call_name KeyOnWhere = codes "Envelope.keyOn(i)v"
call_name KeyOffWhere = codes "Envelope.keyOff(i)v"
call_name SetAdsr = codes "ADSR.set(ddfd)v"

-- how many rows a call has
abbrev pub rows_with : Native → ℕ
rows_with n = count_by (λ c. sameb native.the_type c.native n) calls
