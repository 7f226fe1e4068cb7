use Rattle.std.proofs.Common.{◌≡◌, ◌++◌}
use Rattle.shred_queues.proofs.held.Held.list.Given as goal

abbrev pub invariant-loop-place : goal.invariant-loop-place
invariant-loop-place g l = l.all.items ++ l.place-iterator ≡ l.fn.all.items ++ l.self
