use Rattle.std.proofs.Common.{◌∙◌}
use Rattle.std.proofs.lemmas.Result.{IfOk-weaker}
use Rattle.ck_syntax.proofs.Views.{view-Block}
use Rattle.ck_parser.proofs.stmt_node.block.Goals as goal

pub returns : goal.returns
returns c = IfOk-weaker c.node.result _ _
    (λ b e. e ∙ view-Block c.args.line c.args.stmts) c.node.ensures
