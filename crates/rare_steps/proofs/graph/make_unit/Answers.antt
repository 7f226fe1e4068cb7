use Rattle.std.proofs.Common.{arith}
use Rattle.std.proofs.lemmas.Grind.{common_steps}
use Rattle.machine_world.specs.Shown.{shown}
use Rattle.machine_world.proofs.Follows.{follows_same}
use Rattle.rare_steps.proofs.Carried.{carried_in}
use Rattle.rare_steps.proofs.graph.make_unit.Goals as goal

pub returns-in-Ok : goal.returns-in-Ok
unfolding shown
returns-in-Ok c = record {
  carries = carried_in c.put.result c.args.at.now c.args.world.now c.make_unit.new.self
      c.args.shred.now c.put.new.shred (grind (arith, common_steps)) (grind (arith, common_steps))
      c.in-Ok.ensures.ran (λ code acts store stands.
      let made = c.in-Ok.ensures.made store stands in
      follows_same _ made.store made.stands c.put.result _ _ _ _ (grind (arith, common_steps)));
}
