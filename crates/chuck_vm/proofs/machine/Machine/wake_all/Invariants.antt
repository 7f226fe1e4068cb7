use Rattle.std.proofs.Common.{◌≡◌, ℕ, length, map}
use Rattle.chuck_vm.specs.Machine.{wait_of, HasRun, OfEach}
use Rattle.chuck_vm.specs.Running.{IsNumbered}
use Rattle.chuck_vm.proofs.Orders.{all_woken}
use Rattle.chuck_vm.proofs.machine.Machine.wake_all.Given as goal

abbrev pub invariant-waiters : goal.invariant-waiters
invariant-waiters l = record {
  orderly : (next : ℕ) × IsNumbered next l.self;
  code : l.self.code ≡ l.fn.self.code;
  ran : l.self.world.ran ≡ l.fn.self.world.ran;
  woken : OfEach l.fn.self (λ run. HasRun l.self (λ now.
      all_woken l.event.serial now ≡ all_woken l.event.serial run));
}

abbrev pub decreases-waiters : goal.decreases-waiters
decreases-waiters l = length (map wait_of l.self.waits)
