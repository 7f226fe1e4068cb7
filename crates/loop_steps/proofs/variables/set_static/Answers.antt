use Rattle.std.proofs.Common.{arith}
use Rattle.std.proofs.lemmas.Grind.{common_steps}
use Rattle.machine_world.specs.Shown.{shown}
use Rattle.machine_world.proofs.Operands.{split_top}
use Rattle.loop_steps.proofs.variables.set_static.Goals as goal

pub returns-in-Int-clause-set : goal.returns-in-Int-clause-set
unfolding shown
returns-in-Int-clause-set c = λ store stands.
    let set = c.set_static.ensures.set store stands in
    let top = split_top c.args.shred.now.top.operands _ c.peek.ensures in
    record { store = set.store; stands = set.stands; so = grind (arith, common_steps, top) }

pub returns-in-Float-clause-set : goal.returns-in-Float-clause-set
unfolding shown
returns-in-Float-clause-set c = λ store stands.
    let set = c.set_static-in-Float.ensures.set store stands in
    let top = split_top c.args.shred.now.top.operands _ c.peek-2.ensures in
    record { store = set.store; stands = set.stands; so = grind (arith, common_steps, top) }

pub returns-clause-set : goal.returns-clause-set
unfolding shown
returns-clause-set c = λ store stands.
    let set = c.set_static-2.ensures.set store stands in
    let top = split_top c.args.shred.now.top.operands _ c.peek-3.ensures in
    record { store = set.store; stands = set.stands; so = grind (arith, common_steps, top) }
