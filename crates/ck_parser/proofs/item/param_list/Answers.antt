use Rattle.std.proofs.Common.{arith}
use Rattle.ck_parser.proofs.MadeItem.{params_pushed}
use Rattle.ck_parser.proofs.item.param_list.Goals as goal

pub loop-behind-preserved : goal.loop-behind-preserved
loop-behind-preserved c = (
  params_pushed c.loop-behind.params.items c.push-in-Some.new.items.items c.in_ok-next.next
      c.in_ok-push-2.ensures.items c.loop-behind.invariant.0 c.in-Some.ensures.token
      c.in_ok-next.ensures.reads,
  omega (arith, c.in_ok-next.ensures.fewer, c.in-Some.ensures.fewer, c.loop-behind.invariant.1),
)
