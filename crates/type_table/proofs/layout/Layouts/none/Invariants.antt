use Rattle.std.proofs.Common.{◌≡◌, None, replicate}
use Rattle.type_table.proofs.layout.Layouts.none.Given as goal

abbrev pub invariant-loop : goal.invariant-loop
invariant-loop l = l.all.items ≡ replicate l.counter None
