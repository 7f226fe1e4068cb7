use Rattle.std.proofs.Common.{refl, ◌∙◌, [], ◌∷◌}
use Rattle.ugen_graph.proofs.Sounds.{sound_is, one_heard}
use Rattle.ugen_graph.proofs.sample.sound_fed.Goals as goal

pub returns-in-Some-nodes : goal.returns-in-Some-nodes
returns-in-Some-nodes c =
    sound_is _ _ (c.args.source ∷ []) _ _ _ _ _ _ _ c.requires.node c.requires.other c.in-Some.is c.in-Some-nodes.is
    (c.heard-x.ensures ∙ one_heard _ _ c.in-Sum.is) refl c.sound.ensures
