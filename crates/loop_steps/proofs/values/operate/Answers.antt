use Rattle.std.proofs.Common.{subst}
use Rattle.shred_state.specs.Frames.{Standing}
use Rattle.machine_world.specs.Scenes.{CarriesAlone}
use Rattle.loop_steps.proofs.values.operate.Goals as goal

pub returns-clause-carries : goal.returns-clause-carries
returns-clause-carries c =
    rw c.parted.ensures.then (subst (λ (s : Standing). CarriesAlone c.args.at.now
    c.in_ok-operate_apart.field-0 s c.operate_apart.new.shred) c.if-operated.ensures.left
    c.in_ok-operate_apart.ensures.carries)
