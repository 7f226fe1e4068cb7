use Rattle.std.proofs.Common.{◌≡◌, length}
use Rattle.ugen_graph.specs.Links.{touches}
use Rattle.machine_world.proofs.Graphs.{others}
use Rattle.machine_world.proofs.units.detach_all.Given as goal

abbrev pub invariant-links : goal.invariant-links
invariant-links l = record {
  same : l.graph ≡ record l.initial.graph { links = l.graph.links };
  left : others (touches l.initial.graph.units l.maker) l.graph.links
      ≡ others (touches l.initial.graph.units l.maker) l.initial.graph.links;
}

abbrev pub decreases-links : goal.decreases-links
decreases-links l = length l.graph.links
