use Rattle.std.proofs.Common.{sym}
use Rattle.first_walk.proofs.KindRows.{unlike}
use Rattle.first_walk.proofs.funs.are_same_kinds.Goals as goal

pub returns-then-a-b : goal.returns-then-a-b
returns-then-a-b c = sym (unlike c.args.a.now c.args.b.now c.if-a-b.true)
