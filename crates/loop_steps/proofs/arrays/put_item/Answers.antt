use Rattle.std.proofs.Common.{arith}
use Rattle.std.proofs.lemmas.Grind.{common_steps}
use Rattle.ck_values.specs.Datum.{meant}
use Rattle.ck_store.specs.Arrays.{item_of}
use Rattle.machine_world.specs.Shown.{shown, operands_of}
use Rattle.machine_world.proofs.Indexed.{array_refers, item_array}
use Rattle.machine_world.proofs.Operands.{operand_meant, split_top, taken_meant}
use Rattle.machine_world.proofs.Picked.{looked_at, first_of_two}
use Rattle.loop_steps.proofs.Found.{item_fits}
use Rattle.loop_steps.proofs.arrays.put_item.Goals as goal

pub reference-array-requires : goal.reference-array-requires
reference-array-requires c =
    let objects = c.requires.can.can.store.objects in
    let r = meant c.peek.result.now in
    let i = meant c.pop-index.result in
    array_refers objects r (item_array objects r i
    (looked_at (λ r. item_of objects r i) (operands_of c.pop-index.new.self) r
    (operand_meant _ 0 _ c.peek.ensures)
    (first_of_two (item_of objects) _ _ i (taken_meant _ _ _ c.pop-index.ensures)
    (item_fits _ _ _ c.requires.is c.requires.can.can))))

pub returns : goal.returns
unfolding shown
returns c = record {
  carries = λ code acts. record {
    follows = λ store stands.
        let top = split_top c.pop-index.new.self.top.operands _ c.peek.ensures in
        record { store = store; stands = stands; so = grind (arith, common_steps, top) };
    same = grind (arith, common_steps);
    stays = grind (arith, common_steps);
    ran = grind arith;
  };
}
