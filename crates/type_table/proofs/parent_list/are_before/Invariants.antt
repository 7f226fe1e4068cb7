use Rattle.std.proofs.Common.{◌≡◌, true}
use Rattle.type_table.specs.Descendants.{are_before}
use Rattle.type_table.proofs.parent_list.are_before.Given as goal

abbrev pub invariant-loop-class : goal.invariant-loop-class
invariant-loop-class l = are_before l.parents l.first l.class ≡ true
