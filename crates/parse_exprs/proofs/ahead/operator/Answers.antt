use Rattle.parse_exprs.proofs.Made.{in_binary}
use Rattle.parse_exprs.proofs.ahead.operator.Goals as goal

pub returns-clause-reads : goal.returns-clause-reads
returns-clause-reads c = λ e.
    let (h, r, q) = c.in-Some.ensures.token in
    let (p, i) = c.in_ok-inside.ensures in
    in_binary c.args.number c.args.depth _ _ h r q p i
