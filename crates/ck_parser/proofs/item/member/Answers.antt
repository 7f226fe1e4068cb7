use Rattle.std.proofs.Common.{rules}
use Rattle.std.proofs.lemmas.Result.{err_from_is_err_and}
use Rattle.ck_parser.proofs.MadeItem.{seen_in_class, bad_member_stmt, made_member_stmt}
use Rattle.ck_parser.proofs.MadeItem.{bad_member_fun, made_member_fun}
use Rattle.ck_parser.proofs.item.member.Goals as goal

pub returns-in_err-stmt-in_default-opening_of : goal.returns-in_err-stmt-in_default-opening_of
returns-in_err-stmt-in_default-opening_of c =
    let p = err_from_is_err_and c.from_residual-in_err-stmt-in_default-opening_of.result
    c.from_residual-in_err-stmt-in_default-opening_of.ensures.1 in
    let i = seen_in_class _ _ c.opening_of.ensures c.in_default-opening_of.not-Fun in
    record {
      reads = rw (p.1, p.2) (bad_member_stmt _ c.in-Some.ensures.token i c.requires
          c.in_err-stmt-in_default-opening_of.ensures.reads);
      fewer = search rules;
    }

pub returns-in_ok-boxed-in_default-opening_of : goal.returns-in_ok-boxed-in_default-opening_of
returns-in_ok-boxed-in_default-opening_of c =
    let i = seen_in_class _ _ c.opening_of.ensures c.in_default-opening_of.not-Fun in
    record {
      reads = rw (c.in_ok-boxed-in_default-opening_of.ensures, c.into_inner.ensures)
          (made_member_stmt c.in-Some.ensures.token i c.requires
          c.in_ok-stmt-in_default-opening_of.ensures.reads);
      fewer = c.in_ok-stmt-in_default-opening_of.ensures.fewer;
    }

pub returns-in_err-fun-in-Fun-clause-reads : goal.returns-in_err-fun-in-Fun-clause-reads
returns-in_err-fun-in-Fun-clause-reads c =
    let p = err_from_is_err_and c.from_residual.result c.from_residual.ensures.1 in
    rw (p.1, p.2) (bad_member_fun _ c.in-Some.ensures.token
    (rw c.in-Fun.is at c.opening_of.ensures) c.in_err-fun-in-Fun.ensures.reads)

pub returns-in_ok-boxed-in-Fun-clause-reads : goal.returns-in_ok-boxed-in-Fun-clause-reads
returns-in_ok-boxed-in-Fun-clause-reads c =
    rw (c.in_ok-boxed-in-Fun.ensures, c.in_ok-fun-in-Fun-2.ensures)
    (made_member_fun c.in-Some.ensures.token (rw c.in-Fun.is at c.opening_of.ensures)
    c.in_ok-fun-in-Fun.ensures.reads)
