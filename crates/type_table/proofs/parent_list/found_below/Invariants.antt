use Rattle.type_table.specs.Descendants.{AreListed}
use Rattle.type_table.proofs.parent_list.found_below.Given as goal

abbrev pub invariant-loop-class : goal.invariant-loop-class
invariant-loop-class l = AreListed l.parents l.first l.class l.lists
