use Rattle.std.proofs.Common.{rules}
use Rattle.ck_syntax.proofs.Views.{view-Declare}
use Rattle.parse_exprs.proofs.node.declaration.Goals as goal

pub returns : goal.returns
returns c =
    let is = view-Declare c.args.line c.args.head c.in_ok-declarator.declarator in
    search (rules, is)
