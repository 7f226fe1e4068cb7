use mir.Syntax.{w64}
use mir.Val.{SFits}
use Rattle.std.proofs.lemmas.Int.{to_z-of_z}
use Rattle.std.proofs.Common.{◌≡◌, Some, None, option_map, ap, sym, refl, ◌∙◌, subst, map, rules, is_some}
use Rattle.ck_run.specs.Run.{Wait, woken}
use Rattle.chuck_vm.specs.Machine.{wait_of, Stands}
use Rattle.chuck_vm.specs.Telling.{longest}
use Rattle.chuck_vm.proofs.Orders.{waiter_not_due, woken_stands, longest_stands, no_waiter, none_by, if_none}
use Rattle.chuck_vm.proofs.Queues.{due_pushed, waits_without}
use Rattle.chuck_vm.proofs.Stands.{not_due, now_is}
use Rattle.chuck_vm.proofs.machine.Machine.wake_one.Goals as goal

pub shredule-requires : goal.shredule-requires
shredule-requires c =
    let m = c.args.self.now in
    let event = c.args.event.serial in
    let orderly = c.requires.orderly.1 in
    let run = orderly.run in
    let is : Some c.in-Some.shred ≡ option_map (λ (w : Wait). w.shred) (longest event run) =
    c.in-Some.ensures.longest ∙ longest_stands m run event orderly.stands in
    record {
      not_due = not_due m run c.in-Some.shred orderly.stands
          (waiter_not_due c.requires.orderly.0 event c.in-Some.shred run (longest event run) orderly.so refl is);
    }

pub returns-in_default-clause-whether : goal.returns-in_default-clause-whether
returns-in_default-clause-whether c = λ run stands.
    let m = c.args.self.now in
    let event = c.args.event.serial in
    let none : c.signal.result ≡ None = none_by c.signal.result c.in_default.not-Some in
    ap is_some
    (sym (no_waiter (longest event run) (sym none ∙ c.signal.ensures.longest
    ∙ longest_stands m run event stands)))

pub returns-in_default-clause-woken : goal.returns-in_default-clause-woken
returns-in_default-clause-woken c = λ run stands.
    let m = c.args.self.now in
    let event = c.args.event.serial in
    let none : c.signal.result ≡ None = none_by c.signal.result c.in_default.not-Some in
    let no = no_waiter (longest event run) (sym none ∙ c.signal.ensures.longest
    ∙ longest_stands m run event stands) in
    let same = if_none _ c.signal.result none c.signal.ensures.same in
    subst (λ waits. Stands (record m { waits = waits }) (woken run (longest event run))) (sym same)
    (subst (λ o. Stands m (woken run o)) (sym no) stands)

pub returns-clause-whether : goal.returns-clause-whether
returns-clause-whether c = λ run stands.
    let m = c.args.self.now in
    let event = c.args.event.serial in
    let fits : SFits w64 c.now.result = search rules in
    let is : Some c.in-Some.shred ≡ option_map (λ (w : Wait). w.shred) (longest event run) =
    c.in-Some.ensures.longest ∙ longest_stands m run event stands in
    (woken_stands m run event c.in-Some.shred c.signal.new.self c.shredule.new.self (longest event run) refl is
    (ap (map wait_of) c.in-Some.ensures.taken ∙ waits_without c.in-Some.shred m.waits)
    (due_pushed m.due c.shredule.new.self _ _ c.in-Some.shred c.in_ok-shredule.ensures.due
    (to_z-of_z w64 c.now.result fits ∙ c.now.ensures.now ∙ sym (now_is m.world run.store stands.store)))
    stands).1

pub returns-clause-woken : goal.returns-clause-woken
returns-clause-woken c = λ run stands.
    let m = c.args.self.now in
    let event = c.args.event.serial in
    let fits : SFits w64 c.now.result = search rules in
    let is : Some c.in-Some.shred ≡ option_map (λ (w : Wait). w.shred) (longest event run) =
    c.in-Some.ensures.longest ∙ longest_stands m run event stands in
    (woken_stands m run event c.in-Some.shred c.signal.new.self c.shredule.new.self (longest event run) refl is
    (ap (map wait_of) c.in-Some.ensures.taken ∙ waits_without c.in-Some.shred m.waits)
    (due_pushed m.due c.shredule.new.self _ _ c.in-Some.shred c.in_ok-shredule.ensures.due
    (to_z-of_z w64 c.now.result fits ∙ c.now.ensures.now ∙ sym (now_is m.world run.store stands.store)))
    stands).0
