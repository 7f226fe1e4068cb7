use Rattle.std.proofs.lemmas.Result.{err_from_is_err_and}
use Rattle.parse_exprs.proofs.MadeHeads.{at_name, at_no_name, no_plain_name, plain_name}
use Rattle.parse_exprs.proofs.type_name.declared_name.Goals as goal

pub returns-in_err-name-clause-reads : goal.returns-in_err-name-clause-reads
returns-in_err-name-clause-reads c =
    let p = err_from_is_err_and c.from_residual.result c.from_residual.ensures.1 in
    rw (p.1, p.2) (at_no_name c.args.depth _ c.in-Some.ensures.token c.requires
    c.in_err-name.ensures.token)

pub returns-in_err-name-2-clause-reads : goal.returns-in_err-name-2-clause-reads
returns-in_err-name-2-clause-reads c =
    let p = err_from_is_err_and c.from_residual-in_err-name-2.result
    c.from_residual-in_err-name-2.ensures.1 in
    rw (p.1, p.2) (no_plain_name c.args.tokens.now c.args.depth _ c.in_default.ensures.token
    c.in_err-name-2.ensures.token)

pub returns-in_ok-name-clause-reads : goal.returns-in_ok-name-clause-reads
returns-in_ok-name-clause-reads c = at_name c.args.depth c.in-Some.ensures.token c.requires
    c.in_ok-name.ensures.token

pub returns-in_ok-name-2-clause-reads : goal.returns-in_ok-name-2-clause-reads
returns-in_ok-name-2-clause-reads c =
    plain_name c.args.depth c.in_ok-name-2.ensures.token c.requires
