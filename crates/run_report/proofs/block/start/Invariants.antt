use Rattle.std.proofs.Common.{◌≡◌, take}
use Rattle.chuck_vm.specs.Wakes.{names_of}
use Rattle.run_report.proofs.block.start.Given as goal

abbrev pub invariant-loop-name : goal.invariant-loop-name
invariant-loop-name l = names_of l.copies.items ≡ names_of (take l.name-index l.names)
