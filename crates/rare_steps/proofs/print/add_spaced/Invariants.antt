use Rattle.std.proofs.Common.{◌≡◌, ◌≤◌, ◌++◌, length}
use Rattle.ck_store.specs.Prints.{spaced}
use Rattle.machine_world.specs.Shown.{operands_of}
use Rattle.rare_steps.proofs.Lines.{items_of}
use Rattle.rare_steps.proofs.print.add_spaced.Given as goal

abbrev pub invariant-items : goal.invariant-items
invariant-items l = record {
  few : l.left ≤ length l.shred.top.operands;
  so : l.initial.line.items ++ spaced (items_of l.initial.left (operands_of l.shred))
      ≡ l.line.items ++ spaced (items_of l.left (operands_of l.shred));
}

abbrev pub decreases-items : goal.decreases-items
decreases-items l = l.left
