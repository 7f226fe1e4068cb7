use Rattle.std.proofs.Common.{◌+◌, sym, subst}
use Rattle.type_table.specs.Descendants.{AreListed}
use Rattle.type_table.proofs.BelowFacts.{next_listed, next_before}
use Rattle.type_table.proofs.parent_list.found_below.Goals as goal
use Rattle.type_table.proofs.parent_list.found_below.Goals.{then-class-first+in_ok-add_ancestors, else-class-first}

pub loop-class-preserved : goal.loop-class-preserved
loop-class-preserved c =
    let parents = c.args.parents.now in
    let first = c.args.first in
    let lists = c.loop-class.lists in
    let class = c.loop-class.class in
    elim c.if-class-first.branch [
      | then-class-first+in_ok-add_ancestors w ↦
          subst (AreListed parents first (class + 1)) (sym w.lists-is)
          (next_listed parents first lists _ class w.in_ok-add_ancestors.ensures c.loop-class.invariant)
      | else-class-first w ↦
          subst (AreListed parents first (class + 1)) (sym w.lists-is)
          (next_before parents first c.requires.before lists class w.if-class-first.false c.loop-class.invariant)
    ]
