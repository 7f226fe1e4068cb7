use Rattle.std.proofs.Common.{◌≡◌, ◌≤◌, drop, length}
use Rattle.shred_state.specs.Frames.{with_operands}
use Rattle.rare_steps.proofs.print.drop_operands.Given as goal

abbrev pub invariant-operands : goal.invariant-operands
invariant-operands l = record {
  few : l.left ≤ length l.shred.top.operands;
  so : with_operands l.initial.shred (drop l.initial.left l.initial.shred.top.operands)
      ≡ with_operands l.shred (drop l.left l.shred.top.operands);
}

abbrev pub decreases-operands : goal.decreases-operands
decreases-operands l = l.left
