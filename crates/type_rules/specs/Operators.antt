-- What the operators of two operands take and give.
use Rattle.std.specs.Prelude.{ℕ, Bool, true, false, ◌&&◌, ◌||◌, List, [], ◌∷◌, Option, Some, None, if◌then◌else◌}
use Rattle.ck_values.specs.declared.kind.Elem.{Elem}
use Rattle.ck_values.specs.declared.kind.Elem.TheVariants.{Int, Float, Shred}
use Rattle.ck_values.specs.declared.kind.Kind.{Kind}
use Rattle.ck_values.specs.declared.kind.Kind.TheVariants.{Void, Null, One, Row, Grid}
use Rattle.ck_values.specs.declared.operator.Op2.{Op2}
use Rattle.ck_values.specs.declared.operator.Op2.TheVariants as code
use Rattle.ck_syntax.specs.declared.operator.BinaryOp.{BinaryOp}
use Rattle.ck_syntax.specs.declared.operator.BinaryOp.TheVariants.{Equal, NotEqual}
use Rattle.ck_syntax.specs.contracts.operator.BinaryOp as binary_op
use Rattle.type_rules.specs.Fitting.{same_elem, is_reference, kind_fits}
use Rattle.type_rules.specs.declared.operators.Joined.{Joined}
use Rattle.type_rules.specs.declared.operators.TheConstants.{OPERATORS}
use denote.Enum.Bare.{sameb}

-- an operator, the types of its operands, its code, and what it gives
abbrev pub OpRow : Type 0
OpRow = BinaryOp × Elem × Elem × Op2 × Elem

-- one row for each pair of types that an operator takes: the table of src/operators.rt
abbrev pub rows : List OpRow
rows = OPERATORS.now

abbrev pub same_operator : BinaryOp → BinaryOp → Bool
same_operator a b = sameb binary_op.the_type a b

-- what the first of these rows gives that is of an operator on these types
abbrev pub first_row : BinaryOp → (left right : Elem) → List OpRow → Option (Op2 × Elem)
first_row o a b [] = None
first_row o a b ((p, c, d, code, gives) ∷ rest) =
    if same_operator p o && same_elem c a && same_elem d b then Some (code, gives)
    else first_row o a b rest

abbrev pub row_of : BinaryOp → (left right : Elem) → Option (Op2 × Elem)
row_of o a b = first_row o a b rows

-- an int beside a float is widened
abbrev pub widens : (a beside : Elem) → Bool
widens Int Float = true
widens _ _ = false

abbrev pub widened : (a beside : Elem) → Elem
widened a b = if widens a b then Float else a

abbrev pub with_row : (left right : Elem) → Option (Op2 × Elem) → Option Joined
with_row a b None = None
with_row a b (Some (code, gives)) =
    Some (record {
      code = code;
      gives = gives;
      widens_left = widens a b;
      widens_right = widens b a;
    })

-- an operator on values of these types
abbrev pub joined_values : BinaryOp → (left right : Elem) → Option Joined
joined_values o a b = with_row a b (row_of o (widened a b) (widened b a))

-- a type of references
abbrev pub are_references : Kind → Bool
are_references Void = false
are_references Null = true
are_references (One e) = is_reference e
are_references (Row e) = true
are_references (Grid e) = true

-- references of which one fits the other
abbrev pub are_alike : (parents : List ℕ) → Kind → Kind → Bool
are_alike parents a b =
    are_references a && are_references b && (kind_fits parents a b || kind_fits parents b a)

-- with no operand widened
abbrev pub plain : Op2 → Elem → Joined
plain code gives = record { code = code; gives = gives; widens_left = false; widens_right = false }

abbrev pub compared_references : BinaryOp → Option Joined
compared_references Equal = Some (plain code.EqRefRef Int)
compared_references NotEqual = Some (plain code.NeRefRef Int)
compared_references _ = None

abbrev pub compared_shreds : BinaryOp → Option Joined
compared_shreds Equal = Some (plain code.EqShredShred Int)
compared_shreds NotEqual = Some (plain code.NeShredShred Int)
compared_shreds _ = None

abbrev pub joined_others : BinaryOp → (left right : Kind) → Option Joined
joined_others o (One Shred) (One Shred) = compared_shreds o
joined_others o (One a) (One b) = joined_values o a b
joined_others o _ _ = None

-- an operator on operands of these types
abbrev pub joined : (parents : List ℕ) → BinaryOp → (left right : Kind) → Option Joined
joined parents o a b = if are_alike parents a b then compared_references o else joined_others o a b
