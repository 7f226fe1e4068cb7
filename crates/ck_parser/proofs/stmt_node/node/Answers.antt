use Rattle.std.proofs.Common.{ap}
use Rattle.std.proofs.lemmas.Result.{IfOk-weaker}
use Rattle.ck_syntax.specs.View.{view_stmt}
use Rattle.ck_parser.proofs.stmt_node.node.Goals as goal

pub returns : goal.returns
returns c = IfOk-weaker c.boxed.result _ _ (λ b e. ap view_stmt e) c.boxed.ensures
