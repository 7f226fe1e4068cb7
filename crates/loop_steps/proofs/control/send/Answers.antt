use Rattle.std.proofs.Common.{◌≡◌, ap, refl, sym, subst, ◌∙◌, arith}
use Rattle.ck_values.specs.Datum.{meant}
use Rattle.ck_store.specs.Objects.{method_of}
use Rattle.ck_store.specs.Store.{Store, Gives, Fails, IsFitting}
use Rattle.ck_code.specs.declared.instr.Instr.TheVariants.{Virtual, Call}
use Rattle.machine_world.specs.Scenes.{scene, state_over}
use Rattle.machine_world.specs.Shown.{shown, operands_of}
use Rattle.machine_world.specs.Steps.{IsGood, effect_in}
use Rattle.machine_world.specs.Worlds.{StandsFor}
use Rattle.machine_world.proofs.Carried.{carries_as, carries_trap, breaks_here, good_as}
use Rattle.machine_world.proofs.Numbered.{length-meant}
use Rattle.machine_world.proofs.Operands.{operand_meant}
use Rattle.machine_world.proofs.Parts.{method_refers, refers}
use Rattle.machine_world.proofs.Results.{ok_then}
use Rattle.machine_world.proofs.Sends.{calling, sends_some, sends_within, sends_fits, sends_breaks, sends_begin, BeginsSo}
use Rattle.machine_world.proofs.Stands.{each_so}
use Rattle.loop_steps.proofs.control.send.Goals.{After-operand, In-Ok}
use Rattle.loop_steps.proofs.control.send.Goals as goal

pub overflow_sub-n : goal.overflow_sub-n
overflow_sub-n c =
    let now = scene c.args.shred.now c.args.world.now c.args.acts.now in
    let s = state_over c.requires.can.store now in
    sends_some c.args.code.now c.args.at.now.place c.args.slot (operands_of now.shred) s
    (calling c.args.at.now.place (shown now.shred) s) c.args.n
    (good_as _ _ now (Virtual c.args.slot c.args.n) c.requires.is c.requires.can)

pub operand-requires : goal.operand-requires
unfolding shown
operand-requires c =
    let now = scene c.args.shred.now c.args.world.now c.args.acts.now in
    let s = state_over c.requires.can.store now in
    let calls = calling c.args.at.now.place (shown now.shred) s in
    let good = good_as _ _ now (Virtual c.args.slot c.args.n) c.requires.is c.requires.can in
    let some = sends_some c.args.code.now c.args.at.now.place c.args.slot (operands_of now.shred) s calls c.args.n
    good in
    let within = sends_within c.args.code.now c.args.at.now.place c.args.slot (operands_of now.shred) s calls c.args.n
    good in
    omega (arith, some, within, length-meant c.args.shred.now.top.operands)

-- what a call of the receiver finds
receives : (c : After-operand) → let now = scene c.args.shred.now c.args.world.now c.args.acts.now in
    IsFitting (method_of c.args.code.now.classes c.requires.can.store.objects
    (meant c.operand.result.now) c.args.slot)
receives c =
    let now = scene c.args.shred.now c.args.world.now c.args.acts.now in
    let s = state_over c.requires.can.store now in
    sends_fits c.args.code.now c.args.at.now.place c.args.slot (operands_of now.shred) s
    (calling c.args.at.now.place (shown now.shred) s) c.args.n (meant c.operand.result.now)
    (operand_meant now.shred _ _ c.operand.ensures)
    (good_as _ _ now (Virtual c.args.slot c.args.n) c.requires.is c.requires.can)

pub reference-receiver-requires : goal.reference-receiver-requires
reference-receiver-requires c =
    let objects = c.requires.can.store.objects in
    let r = meant c.operand.result.now in
    refers objects r (method_refers c.args.code.now.classes objects r c.args.slot
    (receives (goal.at.reference-receiver-requires c).After-operand))

pub method-requires : goal.method-requires
method-requires c =
    let can = c.requires.can in
    record {
      store = can.store;
      stands = can.stands;
      so = subst (λ r. IsFitting (method_of c.args.code.now.classes can.store.objects r c.args.slot))
          (ap meant c.reference-receiver.ensures)
          (receives (goal.at.method-requires c).After-operand);
    }

-- over each store its effect is good, and so it is that of a call of what was found
begins : (c : In-Ok) → let now = scene c.args.shred.now c.args.world.now c.args.acts.now in
    (store : Store) → StandsFor c.args.world.now store
    → BeginsSo c.args.code.now c.args.at.now.place c.args.slot (operands_of now.shred)
    (state_over store now) (calling c.args.at.now.place (shown now.shred) (state_over store now))
    c.in-Ok.fun (effect_in c.args.code.now (Virtual c.args.slot c.args.n) c.args.at.now.place
    (shown now.shred) (state_over store now))
begins c store stands =
    let now = scene c.args.shred.now c.args.world.now c.args.acts.now in
    let code = c.args.code.now in
    let can = c.requires.can in
    let instr = Virtual c.args.slot c.args.n in
    let r = meant c.operand.result.now in
    let good = each_so _ (λ store. IsGood (effect_in code instr c.args.at.now.place (shown now.shred)
    (state_over store now)))
    (record { store = can.store; stands = can.stands; so = good_as _ _ now instr c.requires.is can })
    store stands in
    let found = subst (λ r. method_of code.classes store.objects r c.args.slot ≡ Gives c.in-Ok.fun)
    (sym (ap meant c.reference-receiver.ensures)) (c.in-Ok.ensures.found store stands) in
    sends_begin code c.args.at.now.place c.args.slot (operands_of now.shred) (state_over store now)
    (calling c.args.at.now.place (shown now.shred) (state_over store now)) c.args.n r c.in-Ok.fun
    (operand_meant now.shred _ _ c.operand.ensures) good found

pub call-requires-clause-arguments : goal.call-requires-clause-arguments
call-requires-clause-arguments c =
    let can = c.requires.can in
    (begins (goal.at.call-requires-clause-arguments c).In-Ok can.store can.stands).arguments

pub returns-in-Ok : goal.returns-in-Ok
returns-in-Ok c =
    let code = c.args.code.now in
    let at = c.args.at.now in
    let now = scene c.args.shred.now c.args.world.now c.args.acts.now in
    record {
      carries = ok_then c.call.result _ _ (λ then.
          carries_as code at (record at { instr = Call c.in-Ok.fun }) then now _ refl (λ store stands.
          ap (λ instr. effect_in code instr at.place (shown now.shred) (state_over store now)) c.requires.is
          ∙ (begins (goal.at.returns-in-Ok c).In-Ok store stands).same))
          (c.call.ensures.carries c.args.world.now c.args.acts.now);
    }

pub returns-in-Err : goal.returns-in-Err
returns-in-Err c =
    let code = c.args.code.now in
    let at = c.args.at.now in
    let now = scene c.args.shred.now c.args.world.now c.args.acts.now in
    let instr = Virtual c.args.slot c.args.n in
    let can = c.requires.can in
    record {
      carries = carries_trap code at c.in-Err.trap now now
          (record { number = refl; parent = refl; last = refl }) refl refl refl refl
          (breaks_here code at c.in-Err.trap now now.world refl (λ store stands.
          let s = state_over store now in
          let good = each_so _ (λ store. IsGood (effect_in code instr at.place (shown now.shred)
          (state_over store now)))
          (record { store = can.store; stands = can.stands; so = good_as _ _ now instr c.requires.is can })
          store stands in
          let null = subst (λ r. method_of code.classes store.objects r c.args.slot ≡ Fails c.in-Err.trap)
          (sym (ap meant c.reference-receiver.ensures)) (c.in-Err.ensures.null store stands) in
          ap (λ instr. effect_in code instr at.place (shown now.shred) s) c.requires.is
          ∙ sends_breaks code at.place c.args.slot (operands_of now.shred) s
          (calling at.place (shown now.shred) s) c.args.n (meant c.operand.result.now) c.in-Err.trap
          (operand_meant now.shred _ _ c.operand.ensures) good null));
    }
