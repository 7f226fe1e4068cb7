use Rattle.std.proofs.Common.{arith}
use Rattle.std.proofs.lemmas.Grind.{common_steps}
use Rattle.ck_values.specs.Datum.{meant}
use Rattle.machine_world.specs.Shown.{shown, operands_of}
use Rattle.machine_world.proofs.Follows.{follows_same}
use Rattle.machine_world.proofs.Operands.{taken_meant}
use Rattle.machine_world.proofs.Updates.{under_object, refers_under}
use Rattle.rare_steps.proofs.Carried.{carried_in}
use Rattle.rare_steps.proofs.Found.{op_field_fits}
use Rattle.rare_steps.proofs.fields.update_field.Goals as goal

pub reference-receiver-requires : goal.reference-receiver-requires
reference-receiver-requires c =
    let can = c.requires.can.can in
    let i = c.args.i in
    let o = c.args.operator in
    let r = meant c.pop-object.result in
    refers_under can.store r i o (operands_of c.pop-object.new.self)
    (under_object can.store i o _ _ r (taken_meant _ _ _ c.pop-object.ensures)
    (op_field_fits _ _ _ i o c.requires.is can))

pub returns-in-Ok-set_field : goal.returns-in-Ok-set_field
unfolding shown
returns-in-Ok-set_field c = record {
  carries = carried_in c.put.result c.args.at.now c.args.world.now c.set_field.new.self
      c.args.shred.now c.put.new.shred (grind (arith, common_steps)) (grind (arith, common_steps))
      c.in-Ok-set_field.ensures.ran (λ code acts store stands.
      let made = c.in-Ok-set_field.ensures.set store stands in
      follows_same _ made.store made.stands c.put.result _ _ _ _ (grind (arith, common_steps)));
}
