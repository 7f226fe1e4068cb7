use Rattle.std.proofs.Common.{◌≡◌}
use Rattle.chuck_vm.specs.Machine.{OfEach}
use Rattle.chuck_vm.specs.Running.{CanRun}
use Rattle.chuck_vm.specs.Wakes.{names_of}
use Rattle.chuck_vm.proofs.Settles.{Underway}
use Rattle.chuck_vm.proofs.Stands.{turns_left}
use Rattle.chuck_vm.proofs.machine.Machine.settle.Given as goal

abbrev pub invariant-due : goal.invariant-due
invariant-due l = record {
  code : l.self.code ≡ l.fn.self.code;
  so_far : OfEach l.fn.self (λ run. (can : CanRun l.fn.self.code run)
      → Underway l.fn.self.code (names_of l.names) can.verified run l.self
      l.fn.self.world.ran l.self.world.ran l.fn.text.items l.text.items l.fn.wakes.items l.wakes.items);
}

abbrev pub decreases-due : goal.decreases-due
decreases-due l = turns_left l.self
