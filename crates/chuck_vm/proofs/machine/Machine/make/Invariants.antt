use Rattle.std.proofs.Common.{◌≡◌, ◌+◌}
use Rattle.ck_meaning.specs.Replay.{run_code}
use Rattle.chuck_vm.specs.Machine.{Stands}
use Rattle.chuck_vm.specs.Running.{IsQuietBefore}
use Rattle.chuck_vm.specs.Tallies.{as_counted}
use Rattle.chuck_vm.specs.Wakes.{names_of}
use Rattle.chuck_vm.proofs.Making.{Making}
use Rattle.chuck_vm.proofs.machine.Machine.make.Given as goal

abbrev pub invariant-loop-i : goal.invariant-loop-i
invariant-loop-i l = record {
  code : l.self.code ≡ l.fn.self.code;
  none_before : IsQuietBefore l.next l.self;
  stands : Stands l.self (run_code l.fn.self.code (l.made + l.i));
  counts : l.self.world.ran ≡ as_counted (run_code l.fn.self.code (l.made + l.i)).begun;
  made : Making l.fn.self.code (names_of l.names) l.made (l.made + l.i) l.fn.samples.items l.samples.items
      l.fn.text.items l.text.items l.fn.wakes.items l.wakes.items;
}
