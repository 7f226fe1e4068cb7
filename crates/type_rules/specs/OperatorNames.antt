-- The operators of two operands by their names, as a listing spells them: a sign, and the letters
-- of the operands' types. The rows of src/operators.rt are told from one another by them.
use Rattle.std.specs.Prelude.{ℕ, ◌++◌, List, codes, count_by}
use Rattle.ck_values.specs.declared.kind.Elem.{Elem}
use Rattle.ck_values.specs.declared.kind.Elem.TheVariants.{Int, Float, Dur, Time, Text, Shred, Class, Unit}
use Rattle.ck_values.specs.declared.operator.Op2.{Op2}
use Rattle.ck_values.specs.declared.operator.Op2.TheVariants.{EqRefRef, EqShredShred, NeRefRef, NeShredShred}
use Rattle.ck_values.specs.contracts.operator.Op2 as op2
use Rattle.ck_values.specs.OperatorNames.{operator_name}
use Rattle.ck_syntax.specs.declared.operator.BinaryOp.{BinaryOp}
use Rattle.ck_syntax.specs.declared.operator.BinaryOp.TheVariants.{OrElse, AndAlso, Or, Xor, And, Equal, NotEqual, Less, Greater, LessEqual, GreaterEqual, ShiftLeft, ShiftRight, Add, Sub, Mul, Div, Mod}
use Rattle.type_rules.specs.Operators.{OpRow, rows}
use denote.Enum.Bare.{sameb}

-- the word of a sign; no code is of `||` and `&&`, which branch
abbrev pub sign : BinaryOp → List ℕ
sign OrElse = codes "orelse"
sign AndAlso = codes "andalso"
sign Or = codes "or"
sign Xor = codes "xor"
sign And = codes "and"
sign Equal = codes "eq"
sign NotEqual = codes "ne"
sign Less = codes "lt"
sign Greater = codes "gt"
sign LessEqual = codes "le"
sign GreaterEqual = codes "ge"
sign ShiftLeft = codes "shl"
sign ShiftRight = codes "shr"
sign Add = codes "add"
sign Sub = codes "sub"
sign Mul = codes "mul"
sign Div = codes "div"
sign Mod = codes "mod"

-- the letter of a type; objects and unit generators are references
abbrev pub letter : Elem → List ℕ
letter Int = codes "i"
letter Float = codes "f"
letter Dur = codes "d"
letter Time = codes "t"
letter Text = codes "s"
letter Shred = codes "h"
letter (Class c) = codes "r"
letter (Unit k) = codes "r"

-- a sign with the letters of its operands' types, the left one first
abbrev pub signed : BinaryOp → (left right : List ℕ) → List ℕ
signed o a b = sign o ++ codes "." ++ a ++ codes "." ++ b

-- the name of a row's code, and the name that its sign and its types make
abbrev pub code_name : OpRow → List ℕ
code_name (o, a, b, code, gives) = operator_name code

abbrev pub row_name : OpRow → List ℕ
row_name (o, a, b, code, gives) = signed o (letter a) (letter b)

-- how many rows a code has
abbrev pub rows_with : Op2 → ℕ
rows_with c = count_by (λ r. sameb op2.the_type r.3 c) rows

-- references and shreds are compared without a row; each other code has one
abbrev pub rows_due : Op2 → ℕ
rows_due EqRefRef = 0
rows_due NeRefRef = 0
rows_due EqShredShred = 0
rows_due NeShredShred = 0
rows_due _ = 1
