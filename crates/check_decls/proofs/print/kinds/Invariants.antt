use Rattle.std.proofs.Common.{◌≡◌, map, take}
use Rattle.check_decls.proofs.Printed.{kind_of}
use Rattle.check_decls.proofs.print.kinds.Given as goal

abbrev pub invariant-loop-value : goal.invariant-loop-value
invariant-loop-value l = l.kinds.items ≡ map kind_of (take l.value-index l.values)
