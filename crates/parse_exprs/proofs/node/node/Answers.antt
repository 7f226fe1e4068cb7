use Rattle.std.proofs.Common.{ap}
use Rattle.std.proofs.lemmas.Result.{IfOk-weaker}
use Rattle.ck_syntax.specs.View.{view_expr}
use Rattle.parse_exprs.proofs.node.node.Goals as goal

pub returns : goal.returns
returns c = IfOk-weaker c.boxed.result _ _ (λ b e. ap view_expr e) c.boxed.ensures
