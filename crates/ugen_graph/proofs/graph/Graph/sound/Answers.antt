use Rattle.std.proofs.Common.{ap, ◌∙◌}
use Rattle.ugen_sample.specs.UnitState.{Units}
use Rattle.ugen_graph.proofs.Earliest.{beside}
use Rattle.ugen_graph.proofs.Ticks.{whole}
use Rattle.ugen_graph.proofs.graph.Graph.sound.Goals as goal

pub returns : goal.returns
returns c =
    let count = c.sound_all.auto.nodes ∙ c.deref_mut.ensures.len in
    let nodes = whole _ c.sound_all.new.nodes _ count in
    rw (← c.self.view_is) (ap (λ (us : Units). beside us c.self.inside.wiring.links)
    (nodes ∙ (rw (← c.deref_mut.ensures.value) c.sound_all.ensures)))
