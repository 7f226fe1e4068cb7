use Rattle.std.proofs.Common.{ap, ◌∙◌}
use Rattle.ugen_graph.specs.Links.{touches}
use Rattle.ugen_graph.specs.Wiring.{Network}
use Rattle.machine_world.specs.Units.{are_taken}
use Rattle.machine_world.proofs.Graphs.{detached_so}
use Rattle.machine_world.proofs.Joined.{joined_same, joined_others}
use Rattle.machine_world.proofs.Stands.{becomes_so}
use Rattle.machine_world.proofs.world.World.detach.Goals as goal

pub returns-clause-store : goal.returns-clause-store
returns-clause-store c =
    becomes_so _ _ _
    (detached_so _ _ c.detach_all.new.graph c.args.maker c.self.view_is c.detach_all.ensures)

pub invariant_of-self : goal.invariant_of-self
invariant_of-self c = (
  c.self.invariant.0,
  c.self.invariant.1,
  c.self.invariant.2,
  ap (λ (g : Network). are_taken g.units) c.detach_all.ensures ∙ c.self.invariant.3,
  joined_same c.self.inside.heap _ c.detach_all.new.graph.links
      (ap (λ (g : Network). g.links) c.detach_all.ensures)
      (joined_others c.self.inside.heap (touches c.self.inside.graph.units c.args.maker)
      c.self.inside.graph.links c.self.invariant.4),
)
