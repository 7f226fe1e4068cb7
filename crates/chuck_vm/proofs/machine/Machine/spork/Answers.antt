use mir.Syntax.{w64}
use mir.Val.{SFits}
use Rattle.std.proofs.lemmas.Int.{to_z-of_z}
use Rattle.std.proofs.Common.{◌∷◌, [], ◌++◌, ap, sym, refl, ◌∙◌, subst, arith, rules}
use Rattle.ck_values.specs.Datum.{all_meant}
use Rattle.ck_meaning.specs.Replay.{beginning}
use Rattle.shred_state.specs.Frames.{Standing}
use Rattle.live_shreds.specs.Live.{AreBelow}
use Rattle.chuck_vm.specs.Machine.{shred_of, shreds_of}
use Rattle.chuck_vm.proofs.Positions.{all_below, live_below}
use Rattle.chuck_vm.proofs.Lists.{map-push}
use Rattle.chuck_vm.proofs.Beginning.{can_make, begun_shred}
use Rattle.chuck_vm.proofs.Orders.{new_not_due, child_stands}
use Rattle.chuck_vm.proofs.Queues.{due_pushed}
use Rattle.chuck_vm.proofs.Stands.{not_due, now_is, order_stands, is_live_stands}
use Rattle.chuck_vm.proofs.machine.Machine.spork.Goals as goal

pub new_shred-requires : goal.new_shred-requires
new_shred-requires c = can_make c.args.self.now.code c.args.fun c.args.args.items c.requires.begins

pub push-requires-clause-below : goal.push-requires-clause-below
push-requires-clause-below c =
    let m = c.args.self.now in
    let n = c.args.number in
    let orderly = c.requires.orderly in
    subst (λ k. AreBelow k m.shreds) (sym (ap (λ (s : Standing). s.number) c.in_ok-child.ensures))
    (all_below m.code m.shreds 1 n (order_stands m orderly.run n orderly.stands orderly.so.family.order))

pub push-requires-clause-older : goal.push-requires-clause-older
push-requires-clause-older c =
    let m = c.args.self.now in
    let n = c.args.number in
    let orderly = c.requires.orderly in
    let lt = live_below m.code c.args.parent m.shreds 1 n
    (order_stands m orderly.run n orderly.stands orderly.so.family.order)
    (is_live_stands m orderly.run c.args.parent orderly.stands
    ∙ sym (c.is_live.ensures orderly.run orderly.stands) ∙ c.if-not-is_live.false) in
    omega (
      arith,
      lt,
      ap (λ (s : Standing). s.number) c.in_ok-child.ensures,
      ap (λ (s : Standing). s.parent) c.in_ok-child.ensures,
    )

pub shredule-requires : goal.shredule-requires
shredule-requires c =
    let orderly = c.requires.orderly in
    record {
      not_due = not_due c.args.self.now orderly.run c.args.number orderly.stands
          (new_not_due c.args.number orderly.run orderly.so);
    }

pub returns-clause-child : goal.returns-clause-child
returns-clause-child c = λ run stands.
    let m = c.args.self.now in
    let args = c.args.args.items in
    let child = c.in_ok-child.child in
    let fits : SFits w64 c.now.result = search rules in
    let p = beginning m.code c.args.fun (all_meant args) in
    child_stands m (record m { shreds = c.push.new.self; due = c.shredule.new.self }) run c.args.parent
    c.args.number p refl refl
    (ap (shreds_of m.code) c.in_ok-push.ensures.pushed ∙ map-push (shred_of m.code) m.shreds child
    ∙ ap (λ s. shreds_of m.code m.shreds
    ++ s ∷ [])
    (begun_shred m.code child c.args.number c.args.parent c.args.fun args c.requires.begins
    c.in_ok-child.ensures))
    (due_pushed m.due c.shredule.new.self _ _ c.args.number c.in_ok-shredule.ensures.due
    (to_z-of_z w64 c.now.result fits ∙ c.now.ensures.now ∙ sym (now_is m.world run.store stands.store)))
    (sym (c.is_live.ensures run stands) ∙ c.if-not-is_live.false) stands
