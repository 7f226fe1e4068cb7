use Rattle.std.proofs.lemmas.Result.{err_from_is_err_and}
use Rattle.ck_parser.proofs.MadeItem.{bad_parent, bad_class, made_class}
use Rattle.ck_parser.proofs.item.class_def.Goals as goal

pub returns-in_err-parent-clause-reads : goal.returns-in_err-parent-clause-reads
returns-in_err-parent-clause-reads c =
    let p = err_from_is_err_and c.from_residual-in_err-parent.result
    c.from_residual-in_err-parent.ensures.1 in
    rw (p.1, p.2) (bad_parent c.args.line c.args.is_public _ c.in_ok-name.ensures.token
    c.in_err-parent.ensures.reads)

pub returns-in_err-members-clause-reads : goal.returns-in_err-members-clause-reads
returns-in_err-members-clause-reads c =
    let p = err_from_is_err_and c.from_residual-in_err-members.result
    c.from_residual-in_err-members.ensures.1 in
    rw (p.1, p.2) (bad_class c.args.line c.args.is_public _ c.in_ok-name.ensures.token
    c.in_ok-parent.ensures.reads c.in_err-members.ensures.reads)

pub returns-clause-reads : goal.returns-clause-reads
returns-clause-reads c = made_class c.args.line c.args.is_public c.in_ok-name.ensures.token
    c.in_ok-parent.ensures.reads c.in_ok-members.ensures.reads
