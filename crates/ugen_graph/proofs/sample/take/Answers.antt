use Rattle.ugen_graph.specs.Wiring.{connections_of}
use Rattle.ugen_graph.proofs.Turns.{alone_turn, fed_turn}
use Rattle.ugen_graph.proofs.sample.take.Goals as goal

pub returns-in-Alone : goal.returns-in-Alone
returns-in-Alone c =
    alone_turn _ (connections_of c.args.wiring.now.links) c.args.turn c.in-Alone.first c.in-Alone.end c.args.nodes.now
    c.sound_row.new.nodes c.in-Alone.is c.requires.turn c.sound_row.ensures

pub returns-in-Fed : goal.returns-in-Fed
returns-in-Fed c =
    fed_turn _ (connections_of c.args.wiring.now.links) c.args.turn c.in-Fed.node c.in-Fed.source
    c.args.nodes.now c.sound_fed.new.nodes c.in-Fed.is c.requires.turn c.sound_fed.ensures

pub returns-in-Joined : goal.returns-in-Joined
returns-in-Joined c = rw c.in-Joined.is c.sound_joined.ensures
