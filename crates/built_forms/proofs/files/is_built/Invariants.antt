use Rattle.std.proofs.Common.{true}
use Rattle.type_table.proofs.Walks.{Ran}
use Rattle.built_forms.proofs.Runs.{one_item}
use Rattle.built_forms.proofs.files.is_built.Given as goal

abbrev pub invariant-loop-item : goal.invariant-loop-item
invariant-loop-item l = Ran one_item true l.item-items l.item-index true
