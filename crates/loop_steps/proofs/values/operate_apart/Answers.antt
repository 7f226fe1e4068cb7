use Rattle.std.proofs.Common.{subst}
use Rattle.machine_world.specs.Scenes.{CarriesAlone}
use Rattle.loop_steps.proofs.values.operate_apart.Goals as goal

pub returns-in-GoesOn : goal.returns-in-GoesOn
returns-in-GoesOn c = record {
  carries = subst (λ then. CarriesAlone c.args.at.now then c.args.shred.now
      c.operate_on_any.new.shred) c.in-GoesOn.is c.in_ok-operate_on_any.ensures.carries;
}

pub returns-in-Moves : goal.returns-in-Moves
returns-in-Moves c = record {
  carries = subst (λ then. CarriesAlone c.args.at.now then c.args.shred.now
      c.operate_on_any.new.shred) c.in-Moves.is c.in_ok-operate_on_any.ensures.carries;
}

pub returns-in-Stopped : goal.returns-in-Stopped
returns-in-Stopped c = record {
  carries = subst (λ then. CarriesAlone c.args.at.now then c.args.shred.now
      c.operate_on_any.new.shred) c.in-Stopped.is c.in_ok-operate_on_any.ensures.carries;
}
