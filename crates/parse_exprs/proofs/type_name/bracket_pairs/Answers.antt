use Rattle.std.proofs.Common.{arith}
use Rattle.std.proofs.lemmas.Result.{err_from_is_err_and}
use Rattle.parse_exprs.proofs.MadeHeads.{made_pair, pair_deep, pairs_end}
use Rattle.parse_exprs.proofs.Steps.{no_pair}
use Rattle.parse_exprs.proofs.type_name.bracket_pairs.Goals as goal

pub returns-in_err-deeper-clause-reads : goal.returns-in_err-deeper-clause-reads
returns-in_err-deeper-clause-reads c =
    let p = err_from_is_err_and c.from_residual.result c.from_residual.ensures.1 in
    rw (p.1, p.2) (pair_deep c.args.depth _ c.loop-open.invariant.0 c.in-Some.ensures.token
    c.in_err-deeper.ensures)

pub returns-in_err-rest-clause-reads : goal.returns-in_err-rest-clause-reads
returns-in_err-rest-clause-reads c =
    let p = err_from_is_err_and c.from_residual-in_err-rest.result
    c.from_residual-in_err-rest.ensures.1 in
    let (q, r) = c.in_ok-deeper.ensures in
    rw (p.1, p.2) (no_pair c.args.depth _ c.loop-open.invariant.0 c.in-Some.ensures.token
    (omega arith) c.in_err-rest.ensures.token)

pub loop-open-preserved : goal.loop-open-preserved
loop-open-preserved c =
    let (q, r) = c.in_ok-deeper.ensures in
    let f = c.in-Some.ensures.fewer in
    let g = c.in_ok-rest.ensures.fewer in
    let h = c.loop-open.invariant.1 in (
      made_pair c.args.depth c.loop-open.invariant.0 c.in-Some.ensures.token (omega arith)
          c.in_ok-rest.ensures.token (omega arith),
      omega arith,
    )

pub returns-clause-reads : goal.returns-clause-reads
returns-clause-reads c =
    pairs_end c.args.depth c.loop-open.invariant.0 c.in_default.ensures.token
