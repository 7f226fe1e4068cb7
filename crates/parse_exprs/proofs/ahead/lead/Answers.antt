use Rattle.std.proofs.Common.{subst}
use Rattle.parse_exprs.specs.Reads.{Agrees}
use Rattle.parse_exprs.specs.Tokens.{opening}
use Rattle.parse_exprs.proofs.Made.{in_new, in_prefix, in_spork}
use Rattle.parse_exprs.proofs.ahead.lead.Goals as goal
use Rattle.parse_exprs.proofs.ahead.lead.Goals.{in-Prefix, in-New, in-Spork}

pub returns-clause-reads : goal.returns-clause-reads
returns-clause-reads c =
    let agrees = Agrees (opening c.in-Some.token.now.line c.in-Some.token.now.kind) in
    elim c.match-opening_of.branch [
      | in-Prefix w ↦ rw w.lead-is (in_prefix c.args.depth _ c.in-Some.ensures.token
          (subst agrees w.in-Prefix.is c.opening_of.ensures) c.in_ok-inside.ensures.0
          c.in_ok-inside.ensures.1)
      | in-New w ↦ rw w.lead-is (in_new c.args.depth _ c.in-Some.ensures.token
          (subst agrees w.in-New.is c.opening_of.ensures) c.in_ok-inside.ensures.0
          c.in_ok-inside.ensures.1)
      | in-Spork w ↦ rw w.lead-is (in_spork c.args.depth _ c.in-Some.ensures.token
          (subst agrees w.in-Spork.is c.opening_of.ensures) c.in_ok-inside.ensures.0
          c.in_ok-inside.ensures.1)
    ]
