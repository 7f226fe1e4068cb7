use Rattle.std.proofs.lemmas.Result.{err_from_is_err_and}
use Rattle.ck_parser.proofs.MadeParent.{made_parent, no_parent, no_parent_name}
use Rattle.ck_parser.proofs.item.parent.Goals as goal

pub returns-in_err-name-clause-reads : goal.returns-in_err-name-clause-reads
returns-in_err-name-clause-reads c =
    let p = err_from_is_err_and c.from_residual.result c.from_residual.ensures.1 in
    rw (p.1, p.2) (no_parent_name _ c.in-Some.ensures.token c.in_err-name.ensures.token)

pub returns-in_ok-name-clause-reads : goal.returns-in_ok-name-clause-reads
returns-in_ok-name-clause-reads c =
    made_parent c.in-Some.ensures.token c.in_ok-name.ensures.token

pub returns-in_default-clause-reads : goal.returns-in_default-clause-reads
returns-in_default-clause-reads c = no_parent c.args.tokens.now c.in_default.ensures.token
