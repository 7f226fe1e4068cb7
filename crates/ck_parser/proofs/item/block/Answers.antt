use Rattle.std.proofs.lemmas.Result.{err_from_is_err_and}
use Rattle.ck_parser.proofs.MadeParent.{body_fault, made_block, no_close, no_open}
use Rattle.ck_parser.proofs.item.block.Goals as goal

pub returns-in_err-open-clause-reads : goal.returns-in_err-open-clause-reads
returns-in_err-open-clause-reads c =
    let p = err_from_is_err_and c.from_residual.result c.from_residual.ensures.1 in
    rw (p.1, p.2) (no_open c.args.tokens.now _ c.in_err-open.ensures.token)

pub returns-in_err-body-clause-reads : goal.returns-in_err-body-clause-reads
returns-in_err-body-clause-reads c =
    let p = err_from_is_err_and c.from_residual-in_err-body.result
    c.from_residual-in_err-body.ensures.1 in
    rw (p.1, p.2) (body_fault _ _ c.in_ok-open.ensures.token
    c.in_err-body.ensures.reads)

pub returns-in_err-rest-clause-reads : goal.returns-in_err-rest-clause-reads
returns-in_err-rest-clause-reads c =
    let p = err_from_is_err_and c.from_residual-in_err-rest.result
    c.from_residual-in_err-rest.ensures.1 in
    rw (p.1, p.2) (no_close _ c.in_ok-open.ensures.token c.in_ok-body.ensures.reads
    c.in_err-rest.ensures.token)

pub returns-clause-reads : goal.returns-clause-reads
returns-clause-reads c = made_block c.in_ok-open.ensures.token c.in_ok-body.ensures.reads
    c.in_ok-rest.ensures.token
