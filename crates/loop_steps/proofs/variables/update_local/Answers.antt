use Rattle.std.proofs.Common.{refl, subst, arith}
use Rattle.std.proofs.lemmas.Grind.{common_steps}
use Rattle.ck_values.specs.declared.value.Value.TheVariants.{Int}
use Rattle.machine_world.specs.Scenes.{CarriesAlone}
use Rattle.machine_world.specs.Shown.{shown}
use Rattle.machine_world.proofs.Numbered.{local_meant, set_local_meant}
use Rattle.machine_world.proofs.Operands.{split_top}
use Rattle.loop_steps.proofs.Updated.{local_there, local_operates}
use Rattle.loop_steps.proofs.variables.update_local.Goals as goal

pub local-requires : goal.local-requires
local-requires c =
    local_there _ _ _ c.args.i c.args.operator _ c.peek-operand.ensures c.requires.is
    c.requires.can.can.can

pub set_local-requires : goal.set_local-requires
set_local-requires c =
    local_there _ _ _ c.args.i c.args.operator _ c.peek-operand.ensures c.requires.is
    c.requires.can.can.can

pub of_ints-requires : goal.of_ints-requires
of_ints-requires c =
    let fits = local_operates _ _ _ c.args.i c.args.operator _ c.peek-operand.ensures c.requires.is
    c.requires.can.can.can _ c.local.ensures in
    grind (arith, common_steps, fits)

pub returns-in-Ok-clause-carries : goal.returns-in-Ok-clause-carries
unfolding shown
returns-in-Ok-clause-carries c = λ world code acts. record {
  follows = λ store stands.
      let top = split_top c.args.shred.now.top.operands _ c.peek-operand.ensures in
      let locals = c.args.shred.now.top.locals in
      let was = local_meant locals c.args.i _ c.local.ensures in
      let set = set_local_meant locals c.args.i _ (Int c.in-Ok.n) c.local.ensures in
      record { store = store; stands = stands; so = grind (arith, common_steps, top, was, set) };
  same = grind (arith, common_steps);
  stays = grind (arith, common_steps);
  ran = refl;
}

pub returns-in-GoesOn-clause-carries : goal.returns-in-GoesOn-clause-carries
returns-in-GoesOn-clause-carries c =
    subst (λ then. CarriesAlone c.args.at.now then c.args.shred.now c.update_any_local.new.shred)
    c.in-GoesOn.is c.in_ok-update_any_local.ensures.carries

pub returns-in-Moves-clause-carries : goal.returns-in-Moves-clause-carries
returns-in-Moves-clause-carries c =
    subst (λ then. CarriesAlone c.args.at.now then c.args.shred.now c.update_any_local.new.shred)
    c.in-Moves.is c.in_ok-update_any_local.ensures.carries

pub returns-in-Stopped-clause-carries : goal.returns-in-Stopped-clause-carries
returns-in-Stopped-clause-carries c =
    subst (λ then. CarriesAlone c.args.at.now then c.args.shred.now c.update_any_local.new.shred)
    c.in-Stopped.is c.in_ok-update_any_local.ensures.carries
