use Rattle.std.proofs.Common.{◌∙◌, ap}
use Rattle.std.proofs.lemmas.Result.{err_from_is_err_and}
use Rattle.ck_syntax.specs.View.{view_option}
use Rattle.parse_exprs.proofs.Made.{deep_array, deep_paren, in_array, in_paren, made_atom}
use Rattle.parse_exprs.proofs.MadeHeads.{not_a_start}
use Rattle.parse_exprs.proofs.ahead.start.Goals as goal

pub returns-in-Some-2-clause-reads : goal.returns-in-Some-2-clause-reads
returns-in-Some-2-clause-reads c = made_atom c.args.depth c.in-Some.ensures.token
    (c.in_ok-expr.ensures ∙ ap view_option c.in-Some-2.is) c.requires

pub returns-in_err-deeper-in-Paren-clause-reads : goal.returns-in_err-deeper-in-Paren-clause-reads
returns-in_err-deeper-in-Paren-clause-reads c =
    let p = err_from_is_err_and c.from_residual-in_err-deeper-in-Paren.result
    c.from_residual-in_err-deeper-in-Paren.ensures.1 in
    rw (p.1, p.2) (deep_paren c.args.depth _ c.in-Some.ensures.token
    (rw c.in-Paren.is at c.opening_of.ensures) c.in_err-deeper-in-Paren.ensures)

pub returns-in_err-deeper-in-Array-clause-reads : goal.returns-in_err-deeper-in-Array-clause-reads
returns-in_err-deeper-in-Array-clause-reads c =
    let p = err_from_is_err_and c.from_residual-in_err-deeper-in-Array.result
    c.from_residual-in_err-deeper-in-Array.ensures.1 in
    rw (p.1, p.2) (deep_array c.args.depth _ c.in-Some.ensures.token
    (rw c.in-Array.is at c.opening_of.ensures) c.in_err-deeper-in-Array.ensures)

pub returns-in_ok-deeper-in-Paren-clause-reads : goal.returns-in_ok-deeper-in-Paren-clause-reads
returns-in_ok-deeper-in-Paren-clause-reads c =
    let (e, i) = c.in_ok-deeper-in-Paren.ensures in
    in_paren c.args.depth _ c.in-Some.ensures.token (rw c.in-Paren.is at c.opening_of.ensures) e i

pub returns-in_ok-deeper-in-Array-clause-reads : goal.returns-in_ok-deeper-in-Array-clause-reads
returns-in_ok-deeper-in-Array-clause-reads c =
    let (e, i) = c.in_ok-deeper-in-Array.ensures in
    in_array c.args.depth _ c.in-Some.ensures.token (rw c.in-Array.is at c.opening_of.ensures) e i

pub returns-in_default-opening_of : goal.returns-in_default-opening_of
returns-in_default-opening_of c = record {
  reads = not_a_start c.args.depth c.opening_of.result c.in-Some.ensures.token
      c.opening_of.ensures (c.in_ok-expr.ensures ∙ ap view_option c.in_default-2.is)
      c.in_default-opening_of.not-Paren c.in_default-opening_of.not-Array;
  shallow = tt;
  fewer = tt;
}
