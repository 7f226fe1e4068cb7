use Rattle.std.proofs.Common.{rules}
use Rattle.check_scope.specs.View.{view_typed}
use Rattle.check_operations.proofs.Binary.{binary_others}
use Rattle.check_operations.proofs.operators.binary_meaning.Goals as goal

pub returns-in_ok-right-in_default : goal.returns-in_ok-right-in_default
returns-in_ok-right-in_default c =
    let others = binary_others c.args.parents.now c.args.scope.now c.args.line c.args.operator (view_typed c.args.left) (view_typed c.args.right) c.in_default.not-OrElse c.in_default.not-AndAlso c.in_default.not-ShiftLeft in
    search (rules, others)
