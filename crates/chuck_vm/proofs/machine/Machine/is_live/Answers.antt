use Rattle.std.proofs.Common.{◌∙◌}
use Rattle.chuck_vm.proofs.Stands.{is_live_stands}
use Rattle.chuck_vm.proofs.machine.Machine.is_live.Goals as goal

pub returns : goal.returns
returns c = λ run stands. c.is_live.ensures ∙ is_live_stands c.args.self.now run c.args.number stands
