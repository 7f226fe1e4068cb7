use Rattle.std.proofs.lemmas.Result.{err_from_is_err_and}
use Rattle.parse_exprs.proofs.MadeHeads.{auto_base, made_head_base, no_head_base}
use Rattle.parse_exprs.proofs.type_name.head_base.Goals as goal

pub returns-in_err-base-clause-reads : goal.returns-in_err-base-clause-reads
returns-in_err-base-clause-reads c =
    let p = err_from_is_err_and c.from_residual.result c.from_residual.ensures.1 in
    rw (p.1, p.2) (no_head_base c.args.tokens.now c.args.depth _ c.in_default.ensures.token
    c.in_err-base.ensures.token)

pub returns-in-Some-clause-reads : goal.returns-in-Some-clause-reads
returns-in-Some-clause-reads c = auto_base c.args.depth c.in-Some.ensures.token c.requires

pub returns-in_ok-base-clause-reads : goal.returns-in_ok-base-clause-reads
returns-in_ok-base-clause-reads c =
    made_head_base c.args.depth c.in_default.ensures.token c.in_ok-base.ensures.token c.requires
