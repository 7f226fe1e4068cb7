use Rattle.std.proofs.Common.{refl}
use Rattle.chuck_vm.proofs.Ran.{ran_by}
use Rattle.chuck_vm.proofs.machine.Machine.slice_of.Goals as goal

pub returns-clause-ran : goal.returns-clause-ran
returns-clause-ran c =
    ran_by c.args.self.now _ c.args.number c.run_slice.new.acts c.run_slice.result refl refl refl
    c.run_slice.ensures.ran
