use Rattle.std.proofs.Common.{refl, arith}
use Rattle.std.proofs.lemmas.Grind.{common_steps}
use Rattle.machine_world.specs.Shown.{shown}
use Rattle.machine_world.proofs.Numbered.{local_meant, set_local_meant}
use Rattle.machine_world.proofs.Operands.{split_top}
use Rattle.loop_steps.proofs.Updated.{local_there, local_operates}
use Rattle.loop_steps.proofs.variables.update_any_local.Goals as goal

pub local-requires : goal.local-requires
local-requires c =
    local_there _ _ _ c.args.i c.args.operator _ c.peek-operand.ensures c.requires.is
    c.requires.can.can.can

pub binary-requires : goal.binary-requires
binary-requires c =
    local_operates _ _ _ c.args.i c.args.operator _ c.peek-operand.ensures c.requires.is
    c.requires.can.can.can _ c.local.ensures

pub set_local-requires : goal.set_local-requires
set_local-requires c =
    local_there _ _ _ c.args.i c.args.operator _ c.peek-operand.ensures c.requires.is
    c.requires.can.can.can

pub returns-in_ok-copied-in-Ok : goal.returns-in_ok-copied-in-Ok
unfolding shown
returns-in_ok-copied-in-Ok c = record {
  carries = λ world code acts. record {
    follows = λ store stands.
        let top = split_top c.args.shred.now.top.operands _ c.peek-operand.ensures in
        let locals = c.args.shred.now.top.locals in
        let was = local_meant locals c.args.i _ c.local.ensures in
        let set = set_local_meant locals c.args.i _ c.in-Ok.v c.local.ensures in
        record { store = store; stands = stands; so = grind (arith, common_steps, top, was, set) };
    same = grind (arith, common_steps);
    stays = grind (arith, common_steps);
    ran = refl;
  };
}

pub returns-in-Err-Trap : goal.returns-in-Err-Trap
unfolding shown
returns-in-Err-Trap c = record {
  carries = λ world code acts. record {
    follows = λ store stands.
        let top = split_top c.args.shred.now.top.operands _ c.peek-operand.ensures in
        let was = local_meant c.args.shred.now.top.locals c.args.i _ c.local.ensures in
        record { store = store; stands = stands; so = grind (arith, common_steps, top, was) };
    same = record { number = refl; parent = refl; last = refl };
    stays = refl;
    ran = refl;
  };
}
