use Rattle.std.proofs.Common.{arith}
use Rattle.std.proofs.lemmas.Result.{err_from_is_err_and}
use Rattle.ck_parser.proofs.MadeItem.{bad_member, member_pushed}
use Rattle.ck_parser.proofs.item.members.Goals as goal

pub returns-in_err-member-clause-reads : goal.returns-in_err-member-clause-reads
returns-in_err-member-clause-reads c =
    let p = err_from_is_err_and c.from_residual-in_err-member.result
    c.from_residual-in_err-member.ensures.1 in
    rw (p.1, p.2) (bad_member _ c.loop-behind.invariant.0 c.in_err-member.ensures.reads)

pub loop-behind-preserved : goal.loop-behind-preserved
loop-behind-preserved c = (
  member_pushed c.loop-behind.members.items c.push_boxed.new.items.items
      c.in_ok-member.member.value c.in_ok-push_boxed.ensures.items c.loop-behind.invariant.0
      c.in_ok-member.ensures.reads,
  omega (arith, c.in_ok-member.ensures.fewer, c.loop-behind.invariant.1),
)
