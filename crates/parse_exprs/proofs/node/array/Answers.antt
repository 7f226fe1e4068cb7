use Rattle.std.proofs.Common.{rules}
use Rattle.ck_syntax.proofs.Views.{view-Array}
use Rattle.parse_exprs.proofs.node.array.Goals as goal

pub returns : goal.returns
returns c = let is = view-Array c.args.line c.args.items in search (rules, is)
