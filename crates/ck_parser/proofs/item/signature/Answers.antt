use Rattle.std.proofs.lemmas.Result.{err_from_is_err_and}
use Rattle.ck_parser.proofs.MadeItem.{bad_params, bad_fun, made_fun}
use Rattle.ck_parser.proofs.item.signature.Goals as goal

pub returns-in_err-params-clause-reads : goal.returns-in_err-params-clause-reads
returns-in_err-params-clause-reads c =
    let p = err_from_is_err_and c.from_residual-in_err-params.result
    c.from_residual-in_err-params.ensures.1 in
    rw (p.1, p.2) (bad_params c.args.line c.args.is_static _ c.in_ok-kind.ensures.reads
    c.in_ok-name.ensures.token c.in_err-params.ensures.reads)

pub returns-in_err-body-clause-reads : goal.returns-in_err-body-clause-reads
returns-in_err-body-clause-reads c =
    let p = err_from_is_err_and c.from_residual-in_err-body.result
    c.from_residual-in_err-body.ensures.1 in
    rw (p.1, p.2) (bad_fun c.args.line c.args.is_static _ c.in_ok-kind.ensures.reads
    c.in_ok-name.ensures.token c.in_ok-params.ensures.reads c.in_err-body.ensures.reads)

pub returns-clause-reads : goal.returns-clause-reads
returns-clause-reads c = made_fun c.args.line c.args.is_static c.in_ok-kind.ensures.reads
    c.in_ok-name.ensures.token c.in_ok-params.ensures.reads c.in_ok-body.ensures.reads
