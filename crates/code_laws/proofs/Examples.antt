-- The code of small programs, by the scheme: it is the listing that a reader works out by hand.
use Rattle.std.proofs.Common.{◌≡◌, ℕ, false, [], ◌∷◌, refl}
use Rattle.std.specs.Prelude.{List, pos, map}
use Rattle.ck_values.specs.declared.kind.Elem.TheVariants.{Int as IntElem}
use Rattle.ck_values.specs.declared.kind.Kind.TheVariants.{One}
use Rattle.ck_values.specs.declared.operator.Op2.TheVariants.{AddIntInt, LtIntInt}
use Rattle.ck_values.specs.declared.trap.Place.{Place}
use Rattle.ck_typed.specs.declared.class.Class.{Class}
use Rattle.ck_typed.specs.declared.expr.Spot.TheVariants.{Static as StaticSpot}
use Rattle.ck_typed.specs.declared.operation.Leaf.TheVariants as leaf
use Rattle.ck_typed.specs.declared.operation.Unary.TheVariants as unary_op
use Rattle.ck_typed.specs.declared.operation.Binary.TheVariants as binary_op
use Rattle.ck_typed.specs.declared.operation.Variadic.TheVariants as variadic_op
use Rattle.ck_typed.specs.Tree.{Expr, no_exprs, Leaf, Unary, Binary, Variadic, Assign, Stmt, no_stmts, more_stmts, Simple, Block, If, Loop}
use Rattle.ck_code.specs.declared.instr.Instr.{Instr}
use Rattle.ck_code.specs.declared.instr.Instr.TheVariants.{Int, Now, Static, SetStatic, Drop, Op2, UnitInt, Jump, JumpZero, Turn, Return, WaitDur}
use Rattle.ck_code.specs.declared.code.Step.{Step}
use Rattle.ck_scheme.specs.Scheme.{at, body_code}

abbrev line_one : Place
line_one = record { file = 0; line = 1 }

abbrev on_line_one : Instr → Step
on_line_one i = at i line_one

abbrev listing : List Instr → List Step
listing instrs = map on_line_one instrs

abbrev number : ℕ → Expr
number n = Leaf (leaf.Int (pos n)) line_one

abbrev variable : Expr
variable = Variadic (variadic_op.Read (StaticSpot 0)) no_exprs line_one

abbrev next : Expr
next = Binary (binary_op.Operator AddIntInt) variable (number 1) line_one

abbrev below : ℕ → Expr
below n = Binary (binary_op.Operator LtIntInt) variable (number n) line_one

abbrev set : Expr → Stmt
set e = Simple (Assign e (StaticSpot 0) no_exprs line_one) line_one

abbrev wait : Expr → Stmt
wait e = Simple (Unary unary_op.WaitDur (Unary (unary_op.UnitInt (pos 1) (pos 1)) e line_one) line_one) line_one

abbrev two : Stmt → Stmt → Stmt
two t u = Block (more_stmts t (more_stmts u no_stmts))

abbrev nothing : Stmt
nothing = Block no_stmts

abbrev no_classes : List Class
no_classes = []

-- 1::samp => now;
one_wait : body_code no_classes [] (wait (number 1)) (One IntElem) line_one
    ≡ listing (Int (pos 1) ∷ UnitInt (pos 1) (pos 1) ∷ WaitDur ∷ Now ∷ Drop ∷ Int (pos 0) ∷ Return
    ∷ [])
one_wait = refl

-- 0 => int i;
one_set : body_code no_classes [] (set (number 0)) (One IntElem) line_one
    ≡ listing (Int (pos 0) ∷ SetStatic 0 ∷ Drop ∷ Int (pos 0) ∷ Return ∷ [])
one_set = refl

-- if (1) ;
empty_if : body_code no_classes [] (If (number 1) nothing nothing line_one) (One IntElem) line_one
    ≡ listing (Int (pos 1) ∷ JumpZero 3 ∷ Jump 3 ∷ Int (pos 0) ∷ Return ∷ [])
empty_if = refl

-- 0 => int i; while (i < 3) { (i + 1)::samp => now; i + 1 => i; }
growing_waits : body_code no_classes [] (two (set (number 0))
    (Loop false (below 3) (two (wait next) (set next)) line_one)) (One IntElem) line_one
    ≡ listing (Int (pos 0) ∷ SetStatic 0 ∷ Drop
    ∷ Static 0 ∷ Int (pos 3) ∷ Op2 LtIntInt ∷ JumpZero 21 ∷ Turn
    ∷ Static 0 ∷ Int (pos 1) ∷ Op2 AddIntInt ∷ UnitInt (pos 1) (pos 1) ∷ WaitDur ∷ Now ∷ Drop
    ∷ Static 0 ∷ Int (pos 1) ∷ Op2 AddIntInt ∷ SetStatic 0 ∷ Drop
    ∷ Jump 3
    ∷ Int (pos 0) ∷ Return ∷ [])
growing_waits = refl

-- while (i < 2) if (i) i + 1 => i;
if_in_loop : body_code no_classes [] (Loop false (below 2) (If variable (set next) nothing line_one) line_one)
    (One IntElem) line_one
    ≡ listing (Static 0 ∷ Int (pos 2) ∷ Op2 LtIntInt ∷ JumpZero 14 ∷ Turn
    ∷ Static 0 ∷ JumpZero 13
    ∷ Static 0 ∷ Int (pos 1) ∷ Op2 AddIntInt ∷ SetStatic 0 ∷ Drop
    ∷ Jump 13
    ∷ Jump 0
    ∷ Int (pos 0) ∷ Return ∷ [])
if_in_loop = refl
