use Rattle.std.proofs.Common.{ap, ◌∙◌}
use Rattle.shred_state.specs.Frames.{Standing}
use Rattle.machine_world.specs.Shown.{shown}
use Rattle.loop_steps.proofs.values.discard.Goals as goal

pub go_on_from-requires-clause-here : goal.go_on_from-requires-clause-here
unfolding shown
go_on_from-requires-clause-here c =
    c.requires.here ∙ ap (λ (s : Standing). s.top.place) c.pop.ensures
