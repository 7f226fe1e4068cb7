-- Small programs, run by the definitions: their slices are those that a reader works out by hand.
use Rattle.std.proofs.Common.{◌≡◌, ℕ, false, [], ◌∷◌, refl, Some, None}
use Rattle.std.specs.Prelude.{List, pos, map}
use Rattle.ck_values.specs.declared.kind.Elem.TheVariants.{Int as IntElem}
use Rattle.ck_values.specs.declared.kind.Kind.TheVariants.{One}
use Rattle.ck_values.specs.declared.operator.Op2.TheVariants.{AddIntInt, SubIntInt, LtIntInt}
use Rattle.ck_values.specs.declared.trap.Place.{Place}
use Rattle.ck_values.specs.declared.trap.Trap.{Trap}
use Rattle.ck_store.specs.Steps.{fresh, with_static, static_of, is_zero, int_units, wait_dur}
use Rattle.ck_store.specs.Operators.{binary}
use Rattle.fixed_point.specs.Fix.{nearest_in_range}
use Rattle.ck_values.specs.declared.trap.Trap.TheVariants.{TimeBeforeNow}
use Rattle.ck_typed.specs.declared.expr.Spot.TheVariants.{Static}
use Rattle.ck_typed.specs.declared.operation.Leaf.TheVariants as leaf
use Rattle.ck_typed.specs.declared.operation.Unary.TheVariants as unary_op
use Rattle.ck_typed.specs.declared.operation.Binary.TheVariants as binary_op
use Rattle.ck_typed.specs.declared.operation.Variadic.TheVariants as variadic_op
use Rattle.ck_typed.specs.Tree.{Expr, no_exprs, Leaf, Unary, Binary, Variadic, Assign, Stmt, no_stmts, more_stmts, Simple, Block, Loop, Program}
use Rattle.ck_run.specs.Run.{Wake}
use Rattle.ck_code.specs.declared.instr.Instr.{Instr}
use Rattle.ck_code.specs.declared.instr.Instr.TheVariants.{Int as PushInt, Now, Static as GetStatic, SetStatic, Drop, Op2, UnitInt, Jump, JumpZero, Turn, Return, WaitDur}
use Rattle.ck_code.specs.declared.code.CodeParts.{CodeParts}
use Rattle.ck_code.specs.declared.code.Step.{Step}
use Rattle.ck_code.specs.Machine.{enough}
use Rattle.ck_meaning.specs.Replay.{run, run_code}

abbrev line_one : Place
line_one = record { file = 0; line = 1 }

-- a slice of the first shred
abbrev woke : ℕ → Wake
woke t = record { time = pos t; shred = 1; trap = None }

abbrev trapped : ℕ → Trap → Wake
trapped t trap = record { time = pos t; shred = 1; trap = Some (record { trap = trap; place = line_one }) }

abbrev number : ℕ → Expr
number n = Leaf (leaf.Int (pos n)) line_one

abbrev variable : Expr
variable = Variadic (variadic_op.Read (Static 0)) no_exprs line_one

-- e => variable;
abbrev set : Expr → Stmt
set e = Simple (Assign e (Static 0) no_exprs line_one) line_one

-- e::samp => now;
abbrev wait : Expr → Stmt
wait e = Simple (Unary unary_op.WaitDur (Unary (unary_op.UnitInt (pos 1) (pos 1)) e line_one) line_one) line_one

abbrev two : Stmt → Stmt → Stmt
two t u = Block (more_stmts t (more_stmts u no_stmts))

-- a program of one file with one int
abbrev program : Stmt → Program
program body = record {
  files = 1;
  classes = [];
  funs = record { params = 0; locals = []; result = One IntElem; body = body; place = line_one } ∷ [];
  statics = One IntElem ∷ [];
  mains = 0 ∷ [];
}

-- 0 => int i; while (i < 3) { (i + 1)::samp => now; i + 1 => i; }
abbrev next : Expr
next = Binary (binary_op.Operator AddIntInt) variable (number 1) line_one

abbrev growing_waits : Program
growing_waits = program (two (set (number 0)) (Loop false (Binary (binary_op.Operator LtIntInt) variable (number 3) line_one) (two (wait next) (set next)) line_one))

growing_waits_wake : (run growing_waits 10).wakes ≡ woke 0 ∷ woke 1 ∷ woke 3 ∷ woke 6 ∷ []
unfolding fresh with_static static_of binary is_zero int_units wait_dur nearest_in_range
growing_waits_wake = refl

-- 1::samp => now; 0 - 1 => int d; d::samp => now;
abbrev wait_back : Program
wait_back = program (two (wait (number 1)) (two (set (Binary (binary_op.Operator SubIntInt) (number 0) (number 1) line_one)) (wait variable)))

wait_back_traps : (run wait_back 3).wakes ≡ woke 0 ∷ trapped 1 TimeBeforeNow ∷ []
unfolding fresh with_static static_of binary is_zero int_units wait_dur nearest_in_range
wait_back_traps = refl

-- a code of one function, all of it on the first line
abbrev on_line_one : Instr → Step
on_line_one i = record { instr = i; place = line_one }

abbrev code : List Instr → CodeParts
code instrs = record {
  funs = record { params = 0; locals = []; code = map on_line_one instrs } ∷ [];
  texts = [];
  classes = [];
  statics = One IntElem ∷ [];
  mains = 0 ∷ [];
}

-- 1::samp => now;
abbrev one_wait : CodeParts
one_wait = code (PushInt (pos 1) ∷ UnitInt (pos 1) (pos 1) ∷ WaitDur ∷ Now ∷ Drop ∷ PushInt (pos 0) ∷ Return ∷ [])

one_wait_wakes : (run_code one_wait 3).wakes ≡ woke 0 ∷ woke 1 ∷ []
unfolding fresh enough int_units wait_dur nearest_in_range
one_wait_wakes = refl

-- 0 => int i; while (i < 3) { (i + 1)::samp => now; i + 1 => i; }
abbrev growing_code : CodeParts
growing_code = code (PushInt (pos 0) ∷ SetStatic 0 ∷ Drop
    ∷ GetStatic 0 ∷ PushInt (pos 3) ∷ Op2 LtIntInt ∷ JumpZero 21 ∷ Turn
    ∷ GetStatic 0 ∷ PushInt (pos 1) ∷ Op2 AddIntInt ∷ UnitInt (pos 1) (pos 1) ∷ WaitDur ∷ Now ∷ Drop
    ∷ GetStatic 0 ∷ PushInt (pos 1) ∷ Op2 AddIntInt ∷ SetStatic 0 ∷ Drop
    ∷ Jump 3
    ∷ PushInt (pos 0) ∷ Return ∷ [])

growing_code_wakes : (run_code growing_code 10).wakes ≡ woke 0 ∷ woke 1 ∷ woke 3 ∷ woke 6 ∷ []
unfolding fresh enough with_static static_of binary is_zero int_units wait_dur nearest_in_range
growing_code_wakes = refl
