use Rattle.std.proofs.Common.{sym, subst, arith}
use Rattle.std.proofs.lemmas.Grind.{common_steps}
use Rattle.ck_values.specs.Datum.{meant}
use Rattle.ck_store.specs.Arrays.{appended}
use Rattle.machine_world.specs.Shown.{shown, operands_of}
use Rattle.machine_world.specs.Worlds.{StandsFor}
use Rattle.machine_world.proofs.Indexed.{array_refers, append_array}
use Rattle.machine_world.proofs.Operands.{operand_meant, split_top, taken_meant}
use Rattle.machine_world.proofs.Picked.{first_of_two, looked_at}
use Rattle.loop_steps.proofs.Found.{append_fits}
use Rattle.loop_steps.proofs.arrays.append.Goals as goal

pub reference-array-requires : goal.reference-array-requires
reference-array-requires c =
    let store = c.requires.can.can.store in
    let v = meant c.pop-v.result in
    let r = meant c.peek.result.now in
    array_refers store.objects r (append_array store r v
    (looked_at (λ r. appended store r v) (operands_of c.pop-v.new.self) r
    (operand_meant _ 0 _ c.peek.ensures)
    (first_of_two (appended store) _ _ v (taken_meant _ _ _ c.pop-v.ensures)
    (append_fits _ _ _ c.requires.is c.requires.can.can))))

pub returns-in-Ok : goal.returns-in-Ok
unfolding shown
returns-in-Ok c = record {
  carries = λ code acts. record {
    follows = λ store stands.
        let grown = c.in-Ok.ensures.grown store stands in
        let top = split_top c.pop-v.new.self.top.operands _ c.peek.ensures in
        record { store = grown.store; stands = grown.stands; so = grind (arith, common_steps, top) };
    same = grind (arith, common_steps);
    stays = grind (arith, common_steps);
    ran = c.in-Ok.ensures.ran;
  };
}

pub returns-in-Err-Trap : goal.returns-in-Err-Trap
unfolding shown
returns-in-Err-Trap c = record {
  carries = λ code acts. record {
    follows = λ store stands.
        let top = split_top c.pop-v.new.self.top.operands _ c.peek.ensures in
        record {
          store = store;
          stands = subst (λ w. StandsFor w store) (sym c.in-Err-Trap.ensures.same) stands;
          so = grind (arith, common_steps, top);
        };
    same = grind (arith, common_steps);
    stays = grind (arith, common_steps);
    ran = c.in-Err-Trap.ensures.ran;
  };
}
