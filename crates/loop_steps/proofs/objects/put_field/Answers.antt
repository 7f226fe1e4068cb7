use Rattle.std.proofs.Common.{ap, refl, subst, arith}
use Rattle.std.proofs.lemmas.Grind.{common_steps}
use Rattle.ck_values.specs.Datum.{meant}
use Rattle.ck_store.specs.Objects.{field_of}
use Rattle.ck_store.specs.Store.{IsFitting}
use Rattle.machine_world.specs.Shown.{shown, operands_of}
use Rattle.machine_world.proofs.Operands.{operand_meant, split_top}
use Rattle.machine_world.proofs.Parts.{field_refers, refers}
use Rattle.machine_world.proofs.Picked.{looked_at}
use Rattle.loop_steps.proofs.Found.{field_fits}
use Rattle.loop_steps.proofs.objects.put_field.Goals.{After-peek}
use Rattle.loop_steps.proofs.objects.put_field.Goals as goal

fits : (c : After-peek)
    → IsFitting (field_of c.requires.can.can.store (meant c.peek.result.now) c.args.i)
fits c =
    looked_at (λ r. field_of c.requires.can.can.store r c.args.i) (operands_of c.args.shred.now)
    (meant c.peek.result.now) (operand_meant c.args.shred.now 0 _ c.peek.ensures)
    (field_fits _ _ _ c.args.i c.requires.is c.requires.can.can)

pub reference-object-requires : goal.reference-object-requires
reference-object-requires c =
    let store = c.requires.can.can.store in
    let r = meant c.peek.result.now in
    refers store.objects r
    (field_refers store r c.args.i (fits (goal.at.reference-object-requires c).After-peek))

pub field-requires : goal.field-requires
field-requires c =
    let can = c.requires.can.can in
    record {
      store = can.store;
      stands = can.stands;
      so = subst (λ r. IsFitting (field_of can.store r c.args.i)) (ap meant c.reference-object.ensures)
          (fits (goal.at.field-requires c).After-peek);
    }

pub returns-in-Err : goal.returns-in-Err
unfolding shown
returns-in-Err c = record {
  carries = λ code acts. record {
    follows = λ store stands.
        let top = split_top c.args.shred.now.top.operands _ c.peek.ensures in
        record { store = store; stands = stands; so = grind (arith, common_steps, top) };
    same = record { number = refl; parent = refl; last = refl };
    stays = refl;
    ran = refl;
  };
}
