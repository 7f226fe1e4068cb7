use Rattle.std.proofs.Common.{◌≡◌}
use Rattle.ck_typed.specs.View.{exprs_of}
use Rattle.check_scope.specs.Expressions.{all_taken_as}
use Rattle.check_scope.specs.View.{all_typed}
use Rattle.check_operations.proofs.arrays.all_taken_as.Given as goal

abbrev pub invariant-loop-value : goal.invariant-loop-value
invariant-loop-value l = exprs_of l.taken.items ≡ all_taken_as (all_typed l.yielded) l.kind
