use Rattle.std.proofs.Common.{◌≡◌, length}
use Rattle.type_table.proofs.parent_list.empty_lists.Given as goal

abbrev pub invariant-loop : goal.invariant-loop
invariant-loop l = length l.lists ≡ l.counter
