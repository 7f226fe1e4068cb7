use Rattle.std.proofs.Common.{◌≡◌, ◌++◌, map, take}
use Rattle.shred_state.specs.Values.{first_value}
use Rattle.shred_state.proofs.first_values.add_each.Given as goal

abbrev pub invariant-loop-kind : goal.invariant-loop-kind
invariant-loop-kind l =
    l.values.items ≡ l.fn.values.items ++ map first_value (take l.kind-index l.kinds)
