use Rattle.std.proofs.Common.{drop}
use Rattle.chuck_vm.proofs.Starting.{Starting}
use Rattle.chuck_vm.proofs.machine.add_mains.Given as goal

abbrev pub invariant-loop-i : goal.invariant-loop-i
invariant-loop-i l = record { started : Starting l.code l.i (drop l.i l.main-items) l.shreds l.due }
