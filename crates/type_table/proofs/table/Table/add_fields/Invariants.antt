use Rattle.std.proofs.Common.{◌≡◌, ◌++◌, take}
use Rattle.type_table.proofs.table.Table.add_fields.Given as goal

abbrev pub invariant-loop-kind : goal.invariant-loop-kind
invariant-loop-kind l = l.fields ≡ l.fn.fields ++ take l.kind-index l.kind-items
