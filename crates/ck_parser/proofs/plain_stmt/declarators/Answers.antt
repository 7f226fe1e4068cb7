use Rattle.std.proofs.Common.{arith}
use Rattle.std.proofs.lemmas.Result.{err_from_is_err_and}
use Rattle.ck_parser.proofs.MadeStmt.{second_declr, declr_fault, next_declr, next_declr_fault}
use Rattle.ck_parser.proofs.MadeStmt.{declrs_end}
use Rattle.ck_syntax.specs.View.{view_declr}
use Rattle.ck_syntax.proofs.Views.{declrs_of-append}
use Rattle.ck_parser.proofs.plain_stmt.declarators.Goals as goal

pub returns-in_err-second-clause-reads : goal.returns-in_err-second-clause-reads
returns-in_err-second-clause-reads c =
    let p = err_from_is_err_and c.from_residual.result c.from_residual.ensures.1 in
    rw (p.1, p.2) (declr_fault (view_declr c.args.first) c.args.tokens.now c.args.depth _
    c.in_err-second.ensures.reads)

pub loop-behind-init : goal.loop-behind-init
loop-behind-init c = (
  rw (
    c.in_ok-push-2.ensures.items,
    c.in_ok-push.ensures.items,
    c.new-all.ensures.items,
  ) (second_declr c.args.depth c.in_ok-second.ensures.reads),
  c.in_ok-second.ensures.fewer,
)

pub loop-behind-preserved : goal.loop-behind-preserved
loop-behind-preserved c = (
  rw (c.in_ok-push-3.ensures.items, declrs_of-append)
      (next_declr c.args.depth c.loop-behind.invariant.0 c.in-Some.ensures.token c.requires
      c.in_ok-next.ensures.reads),
  omega (
    arith,
    c.loop-behind.invariant.1,
    c.in-Some.ensures.fewer,
    c.in_ok-next.ensures.fewer,
  ),
)

pub returns-in_err-next-clause-reads : goal.returns-in_err-next-clause-reads
returns-in_err-next-clause-reads c =
    let p = err_from_is_err_and c.from_residual-in_err-next.result
    c.from_residual-in_err-next.ensures.1 in
    rw (p.1, p.2) (next_declr_fault c.args.tokens.now c.loop-behind.rest.now
    c.in-Some.behind.now c.args.depth _ c.loop-behind.invariant.0 c.in-Some.ensures.token
    c.requires c.in_err-next.ensures.reads)

pub returns-clause-reads : goal.returns-clause-reads
returns-clause-reads c = rw c.from_vec.ensures
    (declrs_end c.args.depth c.loop-behind.invariant.0 c.in_default.ensures.token)
