use Rattle.std.proofs.Common.{ap, not}
use Rattle.ugen_graph.proofs.Sounds.{sound_is}
use Rattle.ugen_graph.proofs.sample.sound_from.Goals as goal

pub returns-in-Some-nodes : goal.returns-in-Some-nodes
returns-in-Some-nodes c =
    sound_is _ _ _ _ _ _ _ _ _ _ c.requires.node c.requires.other c.in-Some.is c.in-Some-nodes.is
    c.input-x.ensures (ap not c.is_empty.ensures) c.sound.ensures
