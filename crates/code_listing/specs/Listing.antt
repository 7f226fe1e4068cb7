-- The listing of a code: a line for each function, and then one for each of its instructions.
use Rattle.std.specs.Prelude.{ℕ, ◌+◌, List, [], ◌∷◌, ◌++◌, length, map, codes, decimal}
use Rattle.std.specs.Fmt.{signed_decimal}
use Rattle.ck_values.specs.OperatorNames.{operator_name}
use Rattle.ugen_names.specs.ParameterNames.{parameter_name}
use Rattle.ugen_names.specs.Table.{unit_name}
use Rattle.ck_typed.specs.declared.class.Class.{Class}
use Rattle.ck_store.specs.Prints.{kind_name, elem_name}
use Rattle.ck_code.specs.declared.instr.Instr.{Instr}
use Rattle.ck_code.specs.declared.instr.Instr.TheVariants.{Int, Float, Dur, Time, Text, Null, NoShred, Now, Me, Dac, Hole, Local, Static, SetLocal, SetStatic, OpLocal, OpStatic, Field, SetField, OpField, Item, SetItem, OpItem, Dup, Drop, Swap, Op1, Op2, UnitInt, UnitFix, Jump, JumpZero, Turn, Call, Virtual, Native, Return, New, Ugen, Row, Grid, Lit, LitGrid, Each, Fill, Append, Spork, SporkVirtual, WaitDur, WaitTime, WaitEvent, Yield, Exit, Print, Connect, Disconnect, Param, SetParam}
use Rattle.ck_code.specs.declared.code.Step.{Step}
use Rattle.ck_code.specs.declared.code.Fun.{Fun}
use Rattle.ck_code.specs.declared.code.CodeParts.{CodeParts}
use Rattle.code_listing.specs.Names.{unary_name, native_name}

-- the words of an instruction: its name, then each argument; a print has the number of its items
-- and the kind of each
abbrev pub words_of : List Class → Instr → List (List ℕ)
words_of classes (Int n) = codes "Int" ∷ signed_decimal n ∷ []
words_of classes (Float x) = codes "Float" ∷ signed_decimal x ∷ []
words_of classes (Dur n) = codes "Dur" ∷ signed_decimal n ∷ []
words_of classes (Time n) = codes "Time" ∷ signed_decimal n ∷ []
words_of classes (Text k) = codes "Text" ∷ decimal k ∷ []
words_of classes Null = codes "Null" ∷ []
words_of classes NoShred = codes "NoShred" ∷ []
words_of classes Now = codes "Now" ∷ []
words_of classes Me = codes "Me" ∷ []
words_of classes Dac = codes "Dac" ∷ []
words_of classes Hole = codes "Hole" ∷ []
words_of classes (Local i) = codes "Local" ∷ decimal i ∷ []
words_of classes (Static i) = codes "Static" ∷ decimal i ∷ []
words_of classes (SetLocal i) = codes "SetLocal" ∷ decimal i ∷ []
words_of classes (SetStatic i) = codes "SetStatic" ∷ decimal i ∷ []
words_of classes (OpLocal i o) = codes "OpLocal" ∷ decimal i ∷ operator_name o ∷ []
words_of classes (OpStatic i o) = codes "OpStatic" ∷ decimal i ∷ operator_name o ∷ []
words_of classes (Field i) = codes "Field" ∷ decimal i ∷ []
words_of classes (SetField i) = codes "SetField" ∷ decimal i ∷ []
words_of classes (OpField i o) = codes "OpField" ∷ decimal i ∷ operator_name o ∷ []
words_of classes Item = codes "Item" ∷ []
words_of classes SetItem = codes "SetItem" ∷ []
words_of classes (OpItem o) = codes "OpItem" ∷ operator_name o ∷ []
words_of classes Dup = codes "Dup" ∷ []
words_of classes Drop = codes "Drop" ∷ []
words_of classes Swap = codes "Swap" ∷ []
words_of classes (Op1 o) = codes "Op1" ∷ unary_name o ∷ []
words_of classes (Op2 o) = codes "Op2" ∷ operator_name o ∷ []
words_of classes (UnitInt n d) = codes "UnitInt" ∷ signed_decimal n ∷ signed_decimal d ∷ []
words_of classes (UnitFix n d) = codes "UnitFix" ∷ signed_decimal n ∷ signed_decimal d ∷ []
words_of classes (Jump t) = codes "Jump" ∷ decimal t ∷ []
words_of classes (JumpZero t) = codes "JumpZero" ∷ decimal t ∷ []
words_of classes Turn = codes "Turn" ∷ []
words_of classes (Call f) = codes "Call" ∷ decimal f ∷ []
words_of classes (Virtual slot n) = codes "Virtual" ∷ decimal slot ∷ decimal n ∷ []
words_of classes (Native call) = codes "Native" ∷ native_name call ∷ []
words_of classes Return = codes "Return" ∷ []
words_of classes (New c) = codes "New" ∷ decimal c ∷ []
words_of classes (Ugen kind) = codes "Ugen" ∷ unit_name kind ∷ []
words_of classes (Row e) = codes "Row" ∷ elem_name classes e ∷ []
words_of classes (Grid e) = codes "Grid" ∷ elem_name classes e ∷ []
words_of classes (Lit e n) = codes "Lit" ∷ elem_name classes e ∷ decimal n ∷ []
words_of classes (LitGrid e n) = codes "LitGrid" ∷ elem_name classes e ∷ decimal n ∷ []
words_of classes (Each t) = codes "Each" ∷ decimal t ∷ []
words_of classes Fill = codes "Fill" ∷ []
words_of classes Append = codes "Append" ∷ []
words_of classes (Spork f) = codes "Spork" ∷ decimal f ∷ []
words_of classes (SporkVirtual slot n) = codes "SporkVirtual" ∷ decimal slot ∷ decimal n ∷ []
words_of classes WaitDur = codes "WaitDur" ∷ []
words_of classes WaitTime = codes "WaitTime" ∷ []
words_of classes WaitEvent = codes "WaitEvent" ∷ []
words_of classes Yield = codes "Yield" ∷ []
words_of classes Exit = codes "Exit" ∷ []
words_of classes (Print kinds) =
    codes "Print" ∷ decimal (length kinds) ∷ map (kind_name classes) kinds
words_of classes Connect = codes "Connect" ∷ []
words_of classes Disconnect = codes "Disconnect" ∷ []
words_of classes (Param p) = codes "Param" ∷ parameter_name p ∷ []
words_of classes (SetParam p) = codes "SetParam" ∷ parameter_name p ∷ []

-- words, each behind a space
abbrev pub spaced : List (List ℕ) → List ℕ
spaced [] = []
spaced (word ∷ rest) = 32 ∷ word ++ spaced rest

-- the line of an instruction: two spaces, its place in the function, and its words
abbrev pub step_line : List Class → (place : ℕ) → Step → List ℕ
step_line classes place step =
    codes "  " ++ decimal place ++ spaced (words_of classes step.instr) ++ 10 ∷ []

-- the lines of instructions, of which the first one stands at this place
abbrev pub step_lines : List Class → (place : ℕ) → List Step → List ℕ
step_lines classes place [] = []
step_lines classes place (step ∷ rest) =
    step_line classes place step ++ step_lines classes (place + 1) rest

-- the line of a function: its number, and how many parameters and locals it has; a parameter is a
-- local too
abbrev pub fun_line : (number : ℕ) → Fun → List ℕ
fun_line number fn =
    codes "fun " ++ decimal number ++ codes " params " ++ decimal fn.params
    ++ codes " locals " ++ decimal (length fn.locals) ++ 10 ∷ []

-- functions, each with its instructions, of which the first one has this number
abbrev pub fun_lines : List Class → (number : ℕ) → List Fun → List ℕ
fun_lines classes number [] = []
fun_lines classes number (fn ∷ rest) =
    fun_line number fn ++ step_lines classes 0 fn.code ++ fun_lines classes (number + 1) rest

-- the listing
abbrev pub listing_of : CodeParts → List ℕ
listing_of code = fun_lines code.classes 0 code.funs
