use Rattle.std.proofs.lemmas.Result.{err_from_is_err_and}
use Rattle.ck_parser.proofs.MadeItem.{inner_parens, open_parens, made_parens}
use Rattle.ck_parser.proofs.item.params.Goals as goal

pub returns-in_err-params-clause-reads : goal.returns-in_err-params-clause-reads
returns-in_err-params-clause-reads c =
    let p = err_from_is_err_and c.from_residual-in_err-params.result
    c.from_residual-in_err-params.ensures.1 in
    rw (p.1, p.2) (inner_parens _ c.in_ok-open.ensures.token c.in_default.ensures.token
    c.in_err-params.ensures.reads)

pub returns-in_err-rest-clause-reads : goal.returns-in_err-rest-clause-reads
returns-in_err-rest-clause-reads c =
    let p = err_from_is_err_and c.from_residual-in_err-rest.result
    c.from_residual-in_err-rest.ensures.1 in
    rw (p.1, p.2) (open_parens _ c.in_ok-open.ensures.token c.in_default.ensures.token
    c.in_ok-params.ensures.reads c.in_err-rest.ensures.token)

pub returns-clause-reads : goal.returns-clause-reads
returns-clause-reads c = made_parens c.in_ok-open.ensures.token c.in_default.ensures.token
    c.in_ok-params.ensures.reads c.in_ok-rest.ensures.token
