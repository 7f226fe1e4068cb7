use Rattle.std.proofs.Common.{rules}
use Rattle.ck_syntax.proofs.Views.{view-New}
use Rattle.parse_exprs.proofs.node.object.Goals as goal

pub returns : goal.returns
returns c = let is = view-New c.args.line c.args.base c.args.sizes in search (rules, is)
