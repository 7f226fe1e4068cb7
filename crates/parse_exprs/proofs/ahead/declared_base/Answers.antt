use Rattle.std.proofs.Common.{subst, sym}
use Rattle.std.proofs.lemmas.Result.{err_from_is_err_and}
use Rattle.parse_exprs.specs.Reads.{Agrees}
use Rattle.parse_exprs.specs.Tokens.{opening}
use Rattle.parse_exprs.proofs.MadeHeads.{a_declaration_here, base_is_here, no_static_base}
use Rattle.parse_exprs.proofs.MadeHeads.{behind_auto, not_a_declaration, static_base}
use Rattle.parse_exprs.proofs.ahead.declared_base.Goals as goal

pub returns-in_err-base-clause-reads : goal.returns-in_err-base-clause-reads
returns-in_err-base-clause-reads c =
    let p = err_from_is_err_and c.from_residual.result c.from_residual.ensures.1 in
    let o = subst (Agrees (opening c.in-Some.token.now.line c.in-Some.token.now.kind))
    c.in-Static.is c.opening_of-opening.ensures in
    rw (p.1, p.2) (no_static_base c.args.depth _ c.in-Some.ensures.token o c.requires
    c.in_err-base.ensures.reads)

pub returns-in-Static-clause-reads : goal.returns-in-Static-clause-reads
returns-in-Static-clause-reads c =
    let o = subst (Agrees (opening c.in-Some.token.now.line c.in-Some.token.now.kind))
    c.in-Static.is c.opening_of-opening.ensures in
    static_base c.args.depth c.in-Some.ensures.token o c.requires c.in_ok-base.ensures.reads

pub returns-in-Auto-clause-reads : goal.returns-in-Auto-clause-reads
returns-in-Auto-clause-reads c =
    let o = subst (Agrees (opening c.in-Some.token.now.line c.in-Some.token.now.kind))
    c.in-Auto.is c.opening_of-opening.ensures in
    behind_auto c.args.depth c.in-Some.ensures.token o c.requires

pub returns-then-not-begins_declaration : goal.returns-then-not-begins_declaration
returns-then-not-begins_declaration c = record {
  reads = not_a_declaration c.args.depth c.opening_of-opening.result c.in-Some.ensures.token
      c.opening_of-opening.ensures c.in_default-opening.not-Static
      c.in_default-opening-2.not-Auto (sym c.if-not-begins_declaration.ensures);
  fewer = tt;
}

pub returns-in_err-base-2 : goal.returns-in_err-base-2
returns-in_err-base-2 c =
    let p = err_from_is_err_and c.from_residual-in_err-base-2.result
    c.from_residual-in_err-base-2.ensures.1 in
    rw (p.1, p.2) (record {
      reads = base_is_here c.args.depth c.opening_of-opening.result _ c.in-Some.ensures.token
          c.opening_of-opening.ensures (sym c.if-not-begins_declaration.ensures)
          c.in_err-base-2.ensures.token;
      fewer = tt;
    })

pub returns : goal.returns
returns c = record {
  reads = a_declaration_here c.args.depth c.opening_of-opening.result c.in-Some.ensures.token
      c.opening_of-opening.ensures (sym c.if-not-begins_declaration.ensures)
      c.in_ok-base-2.ensures.token c.requires;
  fewer = c.in_ok-base-2.ensures.fewer;
}
