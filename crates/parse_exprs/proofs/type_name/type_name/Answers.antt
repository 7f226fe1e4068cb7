use Rattle.std.proofs.lemmas.Result.{err_from_is_err_and}
use Rattle.parse_exprs.proofs.MadeHeads.{made_type, no_type, type_fault}
use Rattle.parse_exprs.proofs.type_name.type_name.Goals as goal

pub returns-in_err-base-clause-reads : goal.returns-in_err-base-clause-reads
returns-in_err-base-clause-reads c =
    let p = err_from_is_err_and c.from_residual.result c.from_residual.ensures.1 in
    rw (p.1, p.2) (no_type c.args.tokens.now c.args.depth _ c.in_err-base.ensures.token)

pub returns-in_err-brackets-clause-reads : goal.returns-in_err-brackets-clause-reads
returns-in_err-brackets-clause-reads c =
    let p = err_from_is_err_and c.from_residual-in_err-brackets.result
    c.from_residual-in_err-brackets.ensures.1 in
    rw (p.1, p.2) (type_fault c.args.tokens.now c.in_ok-base.behind.now c.args.depth _
    c.in_ok-base.ensures.token c.requires c.in_err-brackets.ensures.reads)

pub returns-clause-reads : goal.returns-clause-reads
returns-clause-reads c = made_type c.args.depth c.in_ok-base.ensures.token c.requires
    c.in_ok-brackets.ensures.reads
