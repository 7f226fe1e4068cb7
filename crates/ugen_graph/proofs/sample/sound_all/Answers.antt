use Rattle.ugen_graph.specs.Wiring.{connections_of}
use Rattle.ugen_graph.proofs.Turns.{sample_is}
use Rattle.ugen_graph.proofs.sample.sound_all.Goals as goal

pub loop-turn-init : goal.loop-turn-init
loop-turn-init c =
    sample_is c.args.wiring.now.size (connections_of c.args.wiring.now.links)
    c.turns-turn-items.result.now c.args.nodes.now c.turns-turn-items.ensures
