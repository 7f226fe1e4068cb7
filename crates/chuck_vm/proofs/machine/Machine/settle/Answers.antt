use mir.Syntax.{w64}
use mir.Val.{SFits}
use Rattle.std.proofs.lemmas.Int.{to_z-of_z}
use Rattle.std.proofs.Common.{◌≡◌, ◌∙◌, None, option_map, rules, sym, subst, refl, List}
use Rattle.ck_meaning.specs.Replay.{by_code}
use Rattle.ck_run.specs.Run.{Due, first_due, settled}
use Rattle.ck_run.specs.Told.{silent}
use Rattle.run_laws.specs.FitRuns.{IsRunStore, IsFitShred}
use Rattle.shreduler.specs.Queue as queue
use Rattle.chuck_vm.specs.Telling.{Becomes}
use Rattle.chuck_vm.specs.Wakes.{names_of}
use Rattle.chuck_vm.proofs.Orders.{on_err, none_by, if_none}
use Rattle.chuck_vm.proofs.Settles.{none_underway, turn, all_settled, all_counted}
use Rattle.chuck_vm.proofs.Stands.{quiet_sound, first_stands}
use Rattle.chuck_vm.proofs.machine.Machine.settle.Goals as goal

pub due-init : goal.due-init
due-init c = record {
  code = refl;
  so_far = λ run stands can. none_underway c.args.self.now.code (names_of c.args.names.now) can.verified run
      c.args.self.now c.args.self.now.world.ran c.args.text.now.items c.args.wakes.now.items stands
      (quiet_sound (IsRunStore c.args.self.now.code) (IsFitShred c.args.self.now.code can.verified.typing) run
      can.sound);
}

pub run_slice-requires : goal.run_slice-requires
run_slice-requires c =
    let some = c.requires.can_run in
    let fits : SFits w64 c.now.result = search rules in
    let next = turn c.args.self.now.code (names_of c.args.names.now) some.so.verified some.run c.due.self _ _ _ _
    _ _ c.due.invariant.code (c.due.invariant.so_far some.run some.stands some.so) c.in-Some.number _
    c.take_due.new.self (to_z-of_z w64 c.now.result fits ∙ c.now.ensures.now) c.in-Some.ensures.first
    c.in-Some.ensures.taken in
    record { can_run = record { run = next.run; stands = next.stands; so = next.can } }

pub due-smaller : goal.due-smaller
due-smaller c =
    let some = c.requires.can_run in
    let fits : SFits w64 c.now.result = search rules in
    let next = turn c.args.self.now.code (names_of c.args.names.now) some.so.verified some.run c.due.self _ _ _ _
    _ _ c.due.invariant.code (c.due.invariant.so_far some.run some.stands some.so) c.in-Some.number _
    c.take_due.new.self (to_z-of_z w64 c.now.result fits ∙ c.now.ensures.now) c.in-Some.ensures.first
    c.in-Some.ensures.taken in
    next.fewer c.run_slice.new.self c.run_slice.new.text.items c.run_slice.new.wakes.items
    (c.in_ok-run_slice.ensures.becomes next.run next.stands next.can)

pub due-preserved : goal.due-preserved
due-preserved c =
    let fits : SFits w64 c.now.result = search rules in
    record {
      code = c.run_slice.ensures.code ∙ c.due.invariant.code;
      so_far = λ run stands can.
          let next = turn c.args.self.now.code (names_of c.args.names.now) can.verified run c.due.self _ _ _ _
          _ _ c.due.invariant.code (c.due.invariant.so_far run stands can) c.in-Some.number _
          c.take_due.new.self (to_z-of_z w64 c.now.result fits ∙ c.now.ensures.now) c.in-Some.ensures.first
          c.in-Some.ensures.taken in
          next.goes c.run_slice.new.self c.run_slice.new.self.world.ran c.run_slice.new.text.items
          c.run_slice.new.wakes.items
          (c.in_ok-run_slice.ensures.becomes next.run next.stands next.can)
          (c.in_ok-run_slice.ensures.counts next.run next.stands next.can);
    }

pub returns-in_err-run_slice-clause-front : goal.returns-in_err-run_slice-clause-front
returns-in_err-run_slice-clause-front c =
    let fits : SFits w64 c.now.result = search rules in
    on_err _ c.from_residual.result (λ run stands can bound le.
    let next = turn c.args.self.now.code (names_of c.args.names.now) can.verified run c.due.self _ _ _ _
    _ _ c.due.invariant.code (c.due.invariant.so_far run stands can) c.in-Some.number _
    c.take_due.new.self (to_z-of_z w64 c.now.result fits ∙ c.now.ensures.now) c.in-Some.ensures.first
    c.in-Some.ensures.taken in
    next.front c.run_slice.new.text.items c.run_slice.new.wakes.items
    (c.in_err-run_slice.ensures.front next.run next.stands next.can) bound le)

pub returns-clause-becomes : goal.returns-clause-becomes
returns-clause-becomes c = λ run stands can bound le.
    let m = c.due.self in
    let fn = c.args.self.now in
    let names = names_of c.args.names.now in
    let so_far = c.due.invariant.so_far run stands can in
    let fits : SFits w64 c.now.result = search rules in
    let none : c.take_due.result ≡ None = none_by c.take_due.result c.in_default.not-Some in
    let is : None ≡ option_map (λ (d : Due). d.shred) (first_due so_far.now.store.now so_far.now.due) = sym none
    ∙ c.take_due.ensures.first
    ∙ first_stands m so_far.now _ so_far.stands (to_z-of_z w64 c.now.result fits ∙ c.now.ensures.now) in
    let B : List queue.Due → Type 0 = λ dues. Becomes names (settled (by_code fn.code) bound (silent run))
    (record m { due = dues }) c.args.text.now.items c.due.text.items c.args.wakes.now.items
    c.due.wakes.items in
    subst B (sym (if_none _ c.take_due.result none c.take_due.ensures.none))
    (all_settled fn.code names can.verified (silent run) so_far.now m fn.world.ran m.world.ran
    c.args.text.now.items c.due.text.items c.args.wakes.now.items c.due.wakes.items is so_far.stands
    so_far.settling bound le)

pub returns-clause-counts : goal.returns-clause-counts
returns-clause-counts c = λ run stands can bound le.
    let m = c.due.self in
    let fn = c.args.self.now in
    let so_far = c.due.invariant.so_far run stands can in
    let fits : SFits w64 c.now.result = search rules in
    let none : c.take_due.result ≡ None = none_by c.take_due.result c.in_default.not-Some in
    let is : None ≡ option_map (λ (d : Due). d.shred) (first_due so_far.now.store.now so_far.now.due) = sym none
    ∙ c.take_due.ensures.first
    ∙ first_stands m so_far.now _ so_far.stands (to_z-of_z w64 c.now.result fits ∙ c.now.ensures.now) in
    all_counted fn.code (names_of c.args.names.now) can.verified (silent run) so_far.now m fn.world.ran
    m.world.ran c.args.text.now.items c.due.text.items c.args.wakes.now.items c.due.wakes.items is
    so_far.stands so_far.settling bound le
