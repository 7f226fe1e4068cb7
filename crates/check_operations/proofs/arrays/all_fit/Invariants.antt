use Rattle.std.proofs.Common.{◌≡◌, true, take}
use Rattle.std.specs.List.{list_all}
use Rattle.check_scope.specs.Expressions.{fits}
use Rattle.check_scope.specs.View.{view_typed}
use Rattle.check_operations.proofs.arrays.all_fit.Given as goal

abbrev pub invariant-loop-value : goal.invariant-loop-value
invariant-loop-value l = list_all (λ x. fits l.parents (view_typed x) l.kind) (take l.value-index l.values) ≡ true
