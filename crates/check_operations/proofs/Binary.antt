-- The operators that take their operands as they are.
use Rattle.std.proofs.Common.{◌≡◌, ℕ, List, refl}
use Rattle.ck_syntax.specs.declared.operator.BinaryOp.{BinaryOp}
use Rattle.ck_syntax.specs.declared.operator.BinaryOp.TheVariants.{Add, Sub, Mul, Div, Mod, And, Or, Xor, ShiftLeft, ShiftRight, Equal, NotEqual, Less, Greater, LessEqual, GreaterEqual, AndAlso, OrElse}
use Rattle.check_scope.specs.Expressions.{binary_meaning, join_meaning, beside}
use Rattle.check_scope.specs.Denotations.{Typed}
use Rattle.check_scope.specs.Scope.{Scope}

pub binary_others : (parents : List ℕ) (s : Scope) (l : ℕ) (o : BinaryOp) (a b : Typed) → (o ≡ OrElse → ⊥) → (o ≡ AndAlso → ⊥) → (o ≡ ShiftLeft → ⊥)
    → binary_meaning parents s l o a b ≡ join_meaning parents s l o (beside a b.kind) (beside b a.kind)
binary_others parents s l OrElse a b or and shift = absurd (or refl)
binary_others parents s l AndAlso a b or and shift = absurd (and refl)
binary_others parents s l ShiftLeft a b or and shift = absurd (shift refl)
binary_others parents s l Add a b or and shift = refl
binary_others parents s l Sub a b or and shift = refl
binary_others parents s l Mul a b or and shift = refl
binary_others parents s l Div a b or and shift = refl
binary_others parents s l Mod a b or and shift = refl
binary_others parents s l And a b or and shift = refl
binary_others parents s l Or a b or and shift = refl
binary_others parents s l Xor a b or and shift = refl
binary_others parents s l ShiftRight a b or and shift = refl
binary_others parents s l Equal a b or and shift = refl
binary_others parents s l NotEqual a b or and shift = refl
binary_others parents s l Less a b or and shift = refl
binary_others parents s l Greater a b or and shift = refl
binary_others parents s l LessEqual a b or and shift = refl
binary_others parents s l GreaterEqual a b or and shift = refl
