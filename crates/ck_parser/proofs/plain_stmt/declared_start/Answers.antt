use Rattle.std.proofs.lemmas.Result.{err_from_is_err_and}
use Rattle.parse_exprs.specs.Machine.{declares_or}
use Rattle.ck_parser.proofs.MadeFor.{an_item, name_of, no_item}
use Rattle.ck_parser.proofs.MadeStmt.{stops_in}
use Rattle.ck_syntax.specs.View.{view_declr}
use Rattle.ck_parser.proofs.plain_stmt.declared_start.Goals as goal

pub returns-in-Some-clause-reads : goal.returns-in-Some-clause-reads
returns-in-Some-clause-reads c = an_item c.args.depth c.args.line c.args.head
    (view_declr c.args.first) c.in-Some.ensures.colon.0 (name_of c.args.first)
    c.in-Some.ensures.colon.1 c.requires

pub returns-in_err-stmt-clause-reads : goal.returns-in_err-stmt-clause-reads
returns-in_err-stmt-clause-reads c =
    let p = err_from_is_err_and c.from_residual.result c.from_residual.ensures.1 in
    rw (p.1, p.2) (stops_in _
    (λ k. declares_or c.args.depth k c.args.line c.args.head (view_declr c.args.first))
    (λ h. h.stmt) c.args.tokens.now c.args.tokens.now _
    (no_item c.args.tokens.now c.args.depth c.args.line c.args.head (view_declr c.args.first)
    c.in_default.ensures.colon) c.in_err-stmt.ensures.reads)
