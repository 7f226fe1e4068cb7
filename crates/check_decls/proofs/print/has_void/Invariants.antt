use Rattle.std.proofs.Common.{◌≡◌, false, take}
use Rattle.std.specs.List.{list_any}
use Rattle.check_decls.proofs.Printed.{no_value}
use Rattle.check_decls.proofs.print.has_void.Given as goal

abbrev pub invariant-loop-value : goal.invariant-loop-value
invariant-loop-value l = list_any no_value (take l.value-index l.values) ≡ false
