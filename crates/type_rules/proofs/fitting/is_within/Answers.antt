use Rattle.std.proofs.Common.{◌∙◌, ◌+◌, ◌-◌, arith}
use Rattle.type_rules.proofs.Ancestors.{one_step}
use Rattle.type_rules.proofs.fitting.is_within.Goals as goal

pub loop-preserved : goal.loop-preserved
loop-preserved c =
    c.loop.invariant ∙ one_step c.args.parents.now (c.args.steps - c.loop.counter) (c.args.steps - (c.loop.counter + 1)) c.loop.at c.parent-at.result c.args.ancestor
    (omega (arith, c.loop-test.true)) c.if-at-ancestor.false c.parent-at.ensures
