use Rattle.std.proofs.Common.{sym, subst, arith}
use Rattle.std.proofs.lemmas.Grind.{common_steps}
use Rattle.ck_values.specs.Datum.{meant}
use Rattle.ck_store.specs.Objects.{with_field}
use Rattle.machine_world.specs.Shown.{shown, operands_of}
use Rattle.machine_world.specs.Worlds.{StandsFor}
use Rattle.machine_world.proofs.Operands.{taken_meant, split_top}
use Rattle.machine_world.proofs.Parts.{set_refers_under}
use Rattle.machine_world.proofs.Picked.{first_of_two}
use Rattle.loop_steps.proofs.Found.{set_field_fits}
use Rattle.loop_steps.proofs.objects.set_field.Goals as goal

pub reference-object-requires : goal.reference-object-requires
reference-object-requires c =
    let store = c.requires.can.can.store in
    set_refers_under store (meant c.pop.result) c.args.i (operands_of c.pop.new.self)
    (first_of_two (λ v r. with_field store r c.args.i v) _ _ (meant c.pop.result)
    (taken_meant _ _ _ c.pop.ensures) (set_field_fits _ _ _ c.args.i c.requires.is c.requires.can.can))

pub returns-in-Ok : goal.returns-in-Ok
unfolding shown
returns-in-Ok c = record {
  carries = λ code acts. record {
    follows = λ store stands.
        let set = c.in-Ok.ensures.set store stands in
        let top = split_top c.pop.new.self.top.operands _ c.peek.ensures in
        record { store = set.store; stands = set.stands; so = grind (arith, common_steps, top) };
    same = grind (arith, common_steps);
    stays = grind (arith, common_steps);
    ran = c.in-Ok.ensures.ran;
  };
}

pub returns-in-Err : goal.returns-in-Err
unfolding shown
returns-in-Err c = record {
  carries = λ code acts. record {
    follows = λ store stands.
        let top = split_top c.pop.new.self.top.operands _ c.peek.ensures in
        record {
          store = store;
          stands = subst (λ w. StandsFor w store) (sym c.in-Err.ensures.same) stands;
          so = grind (arith, common_steps, top);
        };
    same = grind (arith, common_steps);
    stays = grind (arith, common_steps);
    ran = c.in-Err.ensures.ran;
  };
}
