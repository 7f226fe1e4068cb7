use Rattle.std.proofs.Common.{◌≡◌, true, take}
use Rattle.std.specs.List.{list_all}
use Rattle.check_scope.specs.Expressions.{is_row_of}
use Rattle.check_scope.specs.View.{view_typed}
use Rattle.check_operations.proofs.arrays.are_rows_of.Given as goal

abbrev pub invariant-loop-value : goal.invariant-loop-value
invariant-loop-value l = list_all (λ x. is_row_of l.elem (view_typed x)) (take l.value-index l.values) ≡ true
