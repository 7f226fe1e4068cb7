use Rattle.std.proofs.Common.{pos, ◌<ℤ◌, ap, ◌∙◌, arith}
use Rattle.std.proofs.lemmas.Int.{ints}
use Rattle.ck_base.specs.declared.limits.TheConstants.{MAX_SAMPLES}
use Rattle.ugen_graph.specs.Wiring.{Network, connections_of}
use Rattle.machine_world.specs.Units.{are_taken}
use Rattle.machine_world.proofs.Joined.{joined_same}
use Rattle.machine_world.proofs.Places.{taken_sampled}
use Rattle.machine_world.proofs.world.World.sample.Goals as goal

pub invariant_of-self : goal.invariant_of-self
invariant_of-self c =
    let numbers = c.self.invariant.2 in
    let before : c.self.inside.time <ℤ pos MAX_SAMPLES = rw (← c.self.view_is) at c.requires in (
      c.self.invariant.0,
      c.self.invariant.1,
      record {
        begun = omega (arith, ints, numbers.begun);
        within = omega (arith, ints, before);
        few = omega arith;
        next = omega (arith, ints, numbers.next, numbers.few);
      },
      ap (λ (g : Network). are_taken g.units) c.tick-left.ensures.sample
          ∙ taken_sampled (connections_of c.self.inside.graph.links) c.self.inside.graph.units
          c.self.invariant.3,
      joined_same c.self.inside.heap c.self.inside.graph.links c.tick-left.new.self.links
          (ap (λ (g : Network). g.links) c.tick-left.ensures.sample) c.self.invariant.4,
    )
