use Rattle.std.proofs.lemmas.Result.{err_from_is_err_and}
use Rattle.ck_parser.proofs.MadeItem.{bad_constructor, bad_constructor_params, made_constructor}
use Rattle.ck_parser.proofs.MadeItem.{no_construct}
use Rattle.ck_parser.proofs.item.constructor.Goals as goal

pub returns-in_err-open-clause-reads : goal.returns-in_err-open-clause-reads
returns-in_err-open-clause-reads c =
    let p = err_from_is_err_and c.from_residual.result c.from_residual.ensures.1 in
    rw (p.1, p.2) (no_construct c.args.line c.args.tokens.now _ c.in_err-open.ensures.token)

pub returns-in_err-params-clause-reads : goal.returns-in_err-params-clause-reads
returns-in_err-params-clause-reads c =
    let p = err_from_is_err_and c.from_residual-in_err-params.result
    c.from_residual-in_err-params.ensures.1 in
    rw (p.1, p.2) (bad_constructor_params c.args.line _ c.in_ok-open.ensures.token
    c.in_err-params.ensures.reads)

pub returns-in_err-body-clause-reads : goal.returns-in_err-body-clause-reads
returns-in_err-body-clause-reads c =
    let p = err_from_is_err_and c.from_residual-in_err-body.result
    c.from_residual-in_err-body.ensures.1 in
    rw (p.1, p.2) (bad_constructor c.args.line _ c.in_ok-open.ensures.token
    c.in_ok-params.ensures.reads c.in_err-body.ensures.reads)

pub returns-clause-reads : goal.returns-clause-reads
returns-clause-reads c = made_constructor c.args.line c.in_ok-open.ensures.token
    c.in_ok-params.ensures.reads c.in_ok-body.ensures.reads
