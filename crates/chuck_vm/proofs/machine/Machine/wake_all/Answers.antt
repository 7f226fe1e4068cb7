use Rattle.std.proofs.Common.{◌≡◌, ◌∙◌, sym, refl, subst, map, is_some, true, false, arith}
use Rattle.ck_run.specs.Run.{woken}
use Rattle.ck_run.proofs.Orderly.{orderly_woken}
use Rattle.chuck_vm.specs.Machine.{wait_of, Stands}
use Rattle.chuck_vm.specs.Telling.{longest}
use Rattle.chuck_vm.proofs.Waits.{length_waits}
use Rattle.chuck_vm.proofs.Orders.{waits_apart, woken_next, woken_none, woken_fewer}
use Rattle.chuck_vm.proofs.machine.Machine.wake_all.Goals as goal

pub waiters-init : goal.waiters-init
waiters-init c = record {
  orderly = c.requires.orderly;
  code = refl;
  ran = refl;
  woken = λ run stands. record { run = run; stands = stands; so = refl };
}

pub waiters-smaller : goal.waiters-smaller
waiters-smaller c =
    let e = c.args.event.serial in
    let orderly = c.waiters.invariant.orderly.1 in
    let run = orderly.run in
    let next = woken run (longest e run) in
    let some : is_some (longest e run) ≡ true = sym (c.in_ok-wake_one.ensures.whether run orderly.stands)
    ∙ c.if-branch.true in
    omega (
      arith,
      woken_fewer e run (longest e run) refl some,
      length_waits (map wait_of c.waiters.self.waits) run.waits orderly.stands.waits,
      length_waits (map wait_of c.wake_one.new.self.waits) next.waits
          (c.in_ok-wake_one.ensures.woken run orderly.stands).waits,
    )

pub waiters-preserved : goal.waiters-preserved
waiters-preserved c =
    let e = c.args.event.serial in
    let next = c.waiters.invariant.orderly.0 in
    let orderly = c.waiters.invariant.orderly.1 in
    let woke = c.in_ok-wake_one.ensures in
    record {
      code = woke.code ∙ c.waiters.invariant.code;
      ran = woke.ran ∙ c.waiters.invariant.ran;
      orderly = (
        next,
        record {
          run = woken orderly.run (longest e orderly.run);
          stands = woke.woken orderly.run orderly.stands;
          so = orderly_woken next e orderly.run (longest e orderly.run) orderly.so refl;
        },
      );
      woken = λ run stands.
          let now = c.waiters.invariant.woken run stands in
          let some : is_some (longest e now.run) ≡ true = sym (woke.whether now.run now.stands)
          ∙ c.if-branch.true in
          let apart = waits_apart c.waiters.self orderly.run now.run next orderly.stands now.stands orderly.so in
          record {
            run = woken now.run (longest e now.run);
            stands = woke.woken now.run now.stands;
            so = woken_next e now.run (longest e now.run) apart refl some ∙ now.so;
          };
    }

pub returns-clause-woken : goal.returns-clause-woken
returns-clause-woken c = λ run stands.
    let e = c.args.event.serial in
    let woke = c.in_ok-wake_one.ensures in
    let now = c.waiters.invariant.woken run stands in
    let none : is_some (longest e now.run) ≡ false = sym (woke.whether now.run now.stands)
    ∙ c.if-branch.false in
    subst (Stands c.wake_one.new.self) (woken_none e now.run none ∙ now.so) (woke.woken now.run now.stands)
