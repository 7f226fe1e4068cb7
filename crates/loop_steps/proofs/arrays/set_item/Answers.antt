use Rattle.std.proofs.Common.{sym, subst, arith}
use Rattle.std.proofs.lemmas.Grind.{common_steps}
use Rattle.ck_values.specs.Datum.{meant}
use Rattle.ck_store.specs.Arrays.{with_item}
use Rattle.machine_world.specs.Shown.{shown, operands_of}
use Rattle.machine_world.specs.Tries.{IsReference}
use Rattle.machine_world.specs.Worlds.{StandsFor}
use Rattle.machine_world.proofs.Indexed.{array_refers, set_array}
use Rattle.machine_world.proofs.Operands.{split_top, taken_meant}
use Rattle.machine_world.proofs.Picked.{first_of_two, first_of_three, whatever}
use Rattle.loop_steps.proofs.Found.{set_item_fits}
use Rattle.loop_steps.proofs.arrays.set_item.Goals as goal

pub reference-array-requires : goal.reference-array-requires
reference-array-requires c =
    let store = c.requires.can.can.store in
    let r = meant c.pop.result in
    let i = meant c.pop-index.result in
    whatever (IsReference r) (λ v. with_item store r i v) (operands_of c.pop.new.self)
    (λ v fits. array_refers store.objects r (set_array store r i v fits))
    (first_of_two (λ v r. with_item store r i v) _ _ r (taken_meant _ _ _ c.pop.ensures)
    (first_of_three (λ v r i. with_item store r i v) _ _ i (taken_meant _ _ _ c.pop-index.ensures)
    (set_item_fits _ _ _ c.requires.is c.requires.can.can)))

pub returns-in-Ok : goal.returns-in-Ok
unfolding shown
returns-in-Ok c = record {
  carries = λ code acts. record {
    follows = λ store stands.
        let set = c.in-Ok.ensures.set store stands in
        let top = split_top c.pop.new.self.top.operands _ c.peek.ensures in
        record { store = set.store; stands = set.stands; so = grind (arith, common_steps, top) };
    same = grind (arith, common_steps);
    stays = grind (arith, common_steps);
    ran = c.in-Ok.ensures.ran;
  };
}

pub returns : goal.returns
unfolding shown
returns c = record {
  carries = λ code acts. record {
    follows = λ store stands.
        let top = split_top c.pop.new.self.top.operands _ c.peek.ensures in
        record {
          store = store;
          stands = subst (λ w. StandsFor w store) (sym c.in-Err.ensures.same) stands;
          so = grind (arith, common_steps, top);
        };
    same = grind (arith, common_steps);
    stays = grind (arith, common_steps);
    ran = c.in-Err.ensures.ran;
  };
}
