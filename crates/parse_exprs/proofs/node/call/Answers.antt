use Rattle.std.proofs.Common.{rules}
use Rattle.ck_syntax.proofs.Views.{view-Call, line_is}
use Rattle.parse_exprs.proofs.node.call.Goals as goal

pub returns : goal.returns
returns c =
    let e = c.args.callee.value in
    let is = view-Call e.line c.args.callee c.args.arguments in
    let line = line_is e.line e.kind in
    search (rules, is, line)
