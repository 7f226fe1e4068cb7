use Rattle.std.proofs.Common.{◌≡◌, length}
use Rattle.std.specs.Vec.Iter.{into_iter_items, into_iter_len}
use Rattle.check_calls.proofs.Arguments.{SoFar}
use Rattle.check_calls.proofs.calls.fitted.Given as goal

abbrev pub invariant-loop-argument : goal.invariant-loop-argument
invariant-loop-argument l =
    (goal.iterator-loop-argument).can_next l.argument-iterator ×
    (goal.iterator-loop-argument).is_finite l.argument-iterator ×
    (into_iter_len l.argument-iterator ≡ length (into_iter_items l.argument-iterator)) ×
    SoFar l.parents l.fn.arguments l.fn.kinds l.taken.items (into_iter_items l.argument-iterator) l.rest
