use Rattle.std.proofs.Common.{refl, arith}
use Rattle.std.proofs.lemmas.Grind.{common_steps}
use Rattle.machine_world.specs.Shown.{shown}
use Rattle.machine_world.proofs.Operands.{split_top}
use Rattle.loop_steps.proofs.variables.update_any_static.Goals as goal

pub returns-in_ok-copied-in-Ok : goal.returns-in_ok-copied-in-Ok
unfolding shown
returns-in_ok-copied-in-Ok c = record {
  carries = λ code acts. record {
    follows = λ store stands.
        let set = c.set_static.ensures.set store stands in
        let top = split_top c.args.shred.now.top.operands _ c.peek-operand.ensures in
        record { store = set.store; stands = set.stands; so = grind (arith, common_steps, top) };
    same = grind (arith, common_steps);
    stays = grind (arith, common_steps);
    ran = c.set_static.ensures.ran;
  };
}

pub returns-in-Err-Trap : goal.returns-in-Err-Trap
unfolding shown
returns-in-Err-Trap c = record {
  carries = λ code acts. record {
    follows = λ store stands.
        let top = split_top c.args.shred.now.top.operands _ c.peek-operand.ensures in
        record { store = store; stands = stands; so = grind (arith, common_steps, top) };
    same = record { number = refl; parent = refl; last = refl };
    stays = refl;
    ran = refl;
  };
}
