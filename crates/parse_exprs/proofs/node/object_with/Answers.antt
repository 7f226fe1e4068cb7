use Rattle.std.proofs.Common.{rules}
use Rattle.ck_syntax.proofs.Views.{view-NewWith}
use Rattle.parse_exprs.proofs.node.object_with.Goals as goal

pub returns : goal.returns
returns c = let is = view-NewWith c.args.line c.args.base c.args.arguments in search (rules, is)
