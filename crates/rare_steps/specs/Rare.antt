-- The instructions that loops and calls are seldom made of.
use Rattle.std.specs.Prelude.{ℕ, Bool, true, false}
use Rattle.ck_values.specs.declared.kind.Elem.{Elem}
use Rattle.ck_code.specs.declared.instr.Instr.{Instr}
use Rattle.ck_code.specs.declared.instr.Instr.TheVariants.{Int, Float, Dur, Time, Now, Local, Static, SetLocal}
use Rattle.ck_code.specs.declared.instr.Instr.TheVariants.{OpLocal, SetStatic, OpStatic, Field, SetField, Item}
use Rattle.ck_code.specs.declared.instr.Instr.TheVariants.{SetItem, Append, Dup, Drop, Op1 as OnOne, Op2 as OnTwo}
use Rattle.ck_code.specs.declared.instr.Instr.TheVariants.{UnitInt, Jump, JumpZero, Turn, Call, Virtual, Return}
use Rattle.ck_code.specs.declared.instr.Instr.TheVariants.{WaitDur, WaitTime, WaitEvent, Yield, Exit, Spork}
use Rattle.ck_code.specs.declared.instr.Instr.TheVariants.{SporkVirtual, New, Ugen, Row, Grid, Lit, LitGrid, Native}
use Rattle.ck_code.specs.declared.instr.Instr.TheVariants.{Print}

-- loops and calls aren't made of it
abbrev pub IsRare : Instr → Type 0
IsRare (Int n) = ⊥
IsRare (Float x) = ⊥
IsRare (Dur samples) = ⊥
IsRare (Time samples) = ⊥
IsRare Now = ⊥
IsRare (Local i) = ⊥
IsRare (Static i) = ⊥
IsRare (SetLocal i) = ⊥
IsRare (OpLocal i operator) = ⊥
IsRare (SetStatic i) = ⊥
IsRare (OpStatic i operator) = ⊥
IsRare (Field i) = ⊥
IsRare (SetField i) = ⊥
IsRare Item = ⊥
IsRare SetItem = ⊥
IsRare Append = ⊥
IsRare Dup = ⊥
IsRare Drop = ⊥
IsRare (OnOne operator) = ⊥
IsRare (OnTwo operator) = ⊥
IsRare (UnitInt n d) = ⊥
IsRare (Jump to) = ⊥
IsRare (JumpZero to) = ⊥
IsRare Turn = ⊥
IsRare (Call fun) = ⊥
IsRare (Virtual slot n) = ⊥
IsRare Return = ⊥
IsRare WaitDur = ⊥
IsRare _ = Unit {0}

-- it makes an object, sporks, waits, prints or calls what is built in
abbrev pub IsDeed : Instr → Type 0
IsDeed WaitTime = Unit {0}
IsDeed WaitEvent = Unit {0}
IsDeed Yield = Unit {0}
IsDeed Exit = Unit {0}
IsDeed (Spork fun) = Unit {0}
IsDeed (SporkVirtual slot n) = Unit {0}
IsDeed (New class) = Unit {0}
IsDeed (Ugen kind) = Unit {0}
IsDeed (Row elem) = Unit {0}
IsDeed (Grid elem) = Unit {0}
IsDeed (Lit elem n) = Unit {0}
IsDeed (LitGrid elem n) = Unit {0}
IsDeed (Native call) = Unit {0}
IsDeed (Print kinds) = Unit {0}
IsDeed _ = ⊥

-- an array of so many operands, or of as many arrays
abbrev pub literal : Elem → (of_arrays : Bool) → ℕ → Instr
literal elem false n = Lit elem n
literal elem true n = LitGrid elem n
