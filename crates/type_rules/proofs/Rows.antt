-- The rows of the tables, one by one.
use Rattle.std.proofs.Common.{◌≡◌, refl}
use Rattle.std.specs.Prelude.{codes, IfSome}
use Rattle.ck_values.specs.declared.operator.Op2.{Op2}
use Rattle.ck_values.specs.declared.operator.Op2.TheVariants.{EqRefRef}
use Rattle.ck_syntax.specs.declared.operator.BinaryOp.{BinaryOp}
use Rattle.ck_syntax.specs.declared.operator.BinaryOp.TheVariants.{Equal, NotEqual}
use Rattle.ck_typed.specs.declared.native.Native.{Native}
use Rattle.ck_typed.specs.declared.native.Native.TheVariants.{ShredId}
use Rattle.type_rules.specs.Operators.{compared_references, compared_shreds}
use Rattle.ck_values.specs.OperatorNames.{operator_name}
use Rattle.type_rules.specs.OperatorNames.{signed, rows_with, rows_due}
use Rattle.type_rules.specs.Calls.{calls}
use Rattle.type_rules.specs.CallNames as call

pub each_code : (c : Op2) → rows_with c ≡ rows_due c
each_code EqRefRef = refl
each_code _ = refl

pub references : (o : BinaryOp) → IfSome (compared_references o) (λ it. operator_name it.code ≡ signed o (codes "r") (codes "r"))
references Equal = refl
references NotEqual = refl
references _ = tt

pub shreds : (o : BinaryOp) → IfSome (compared_shreds o) (λ it. operator_name it.code ≡ signed o (codes "h") (codes "h"))
shreds Equal = refl
shreds NotEqual = refl
shreds _ = tt

pub each_call : (n : Native) → call.rows_with n ≡ 1
unfolding calls
each_call ShredId = refl
each_call _ = refl
