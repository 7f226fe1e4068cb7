use Rattle.std.proofs.Common.{arith, rules}
use Rattle.ck_values.specs.Datum.{meant}
use Rattle.machine_world.specs.Shown.{operands_of}
use Rattle.machine_world.proofs.Operands.{operand_meant}
use Rattle.rare_steps.proofs.Lines.{items_step, items_end}
use Rattle.rare_steps.proofs.print.add_spaced.Goals as goal

pub items-preserved-in-Continue-branch-2 : goal.items-preserved-in-Continue-branch-2
items-preserved-in-Continue-branch-2 c = record {
  few = omega arith;
  so = items_step _ c.items.line.items c.show.new.into.items _ (operands_of c.args.shred.now) c.items.left
      (meant c.operand.result.now) (omega arith) (omega arith)
      (operand_meant c.args.shred.now _ _ c.operand.ensures)
      c.items.invariant.so c.in_ok-show.ensures.ok c.in_ok-push.ensures.items;
}

pub items-preserved : goal.items-preserved
items-preserved c = record {
  few = search rules;
  so = items_end _ c.items.line.items c.show.new.into.items (operands_of c.args.shred.now) c.items.left
      (meant c.operand.result.now) (omega arith) (omega arith)
      (operand_meant c.args.shred.now _ _ c.operand.ensures) c.items.invariant.so
      c.in_ok-show.ensures.ok;
}
