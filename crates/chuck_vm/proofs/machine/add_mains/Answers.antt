use Rattle.std.proofs.Common.{◌≡◌, ◌<◌, ◌≤◌, ◌+◌, suc, List, All, slice_get, length, drop, get_or, pos, [], rules, ap, sym, ◌∙◌, subst, arith}
use Rattle.ck_values.specs.declared.value.Value.{Value}
use Rattle.ck_values.specs.Datum.{all_meant}
use Rattle.ck_code.specs.declared.code.CodeParts.{CodeParts}
use Rattle.ck_code.specs.Verified.{IsVerified}
use Rattle.ck_meaning.specs.Replay.{beginning}
use Rattle.ck_typed.specs.WellFormed.{FoundWhere}
use Rattle.shreduler.specs.Queue as queue
use Rattle.chuck_vm.specs.Telling.{CanBegin}
use Rattle.chuck_vm.proofs.Beginning.{begun_shred}
use Rattle.chuck_vm.proofs.Lists.{drop_all}
use Rattle.chuck_vm.proofs.Queues.{dues_times}
use Rattle.chuck_vm.proofs.Starting.{Starting, none_started, one_started, next_main, main_can, all_stand, all_due}
use Rattle.chuck_vm.proofs.machine.add_mains.Goals as goal

pub loop-i-init : goal.loop-i-init
loop-i-init c =
    let code = c.args.code.now in
    let mains_are : c.items-main-items.result.now ≡ code.mains = c.items-main-items.ensures
    ∙ ap (λ (parts : CodeParts). parts.mains) c.parts.ensures.parts in
    record {
      started = subst (λ mains. Starting code 0 mains c.args.shreds.now c.args.due.now) (sym mains_are)
          (subst (λ shreds. Starting code 0 code.mains shreds c.args.due.now) (sym c.requires.no_shred)
          (subst (Starting code 0 code.mains []) (sym c.requires.none_due) (none_started code)));
    }

pub shredule-requires : goal.shredule-requires
shredule-requires c =
    record { not_due = dues_times _ c.loop-i.due ∙ c.loop-i.invariant.started.new _ (omega arith) }

pub loop-i-preserved : goal.loop-i-preserved
loop-i-preserved c =
    let code = c.args.code.now in
    let i = c.loop-i.i in
    let mains = c.items-main-items.result.now in
    let mains_are : mains ≡ code.mains = c.items-main-items.ensures
    ∙ ap (λ (parts : CodeParts). parts.mains) c.parts.ensures.parts in
    let lt : i < length mains = search rules in
    let main = get_or mains i 0 in
    let shred = c.in_ok-new_shred.field-0 in
    let none = c.new.ensures.items in
    let verified : IsVerified code = c.parts.ensures.verified in
    let main_begins =
    main_can code mains i 0 (subst (All (λ f. FoundWhere (slice_get code.funs f) (λ fn. fn.params ≡ 0)))
    (sym mains_are) verified.mains) lt in
    let next : i + 1 ≡ suc i = omega arith in
    let can = subst (λ (args : List Value). CanBegin code main (all_meant args)) (sym none) main_begins in
    let is = begun_shred code shred (i + 1) 0 main c.new.result.items can
    c.in_ok-new_shred.ensures
    ∙ ap (λ (args : List Value). record {
      number = i + 1;
      parent = 0;
      progress =
          beginning code main (all_meant args);
    }) none
    ∙ ap (λ n. record { number = n; parent = 0; progress = beginning code main [] }) next in
    let due = c.in_ok-shredule.ensures.due
    ∙ ap (λ n. queue.arrived (record { time = pos 0; shred = n }) c.loop-i.due) next in
    let here = next_main code mains i c.loop-i.shreds c.loop-i.due lt c.loop-i.invariant.started in
    let one = one_started code i main (drop (suc i) mains) c.loop-i.shreds c.push.new.self
    c.loop-i.due c.shredule.new.self shred here c.in_ok-push.ensures.pushed is due in
    record {
      started = subst (λ n. Starting code n (drop n mains) c.push.new.self c.shredule.new.self)
          (sym next) one;
    }

pub returns-clause-shreds : goal.returns-clause-shreds
returns-clause-shreds c =
    let mains = c.items-main-items.result.now in
    let past : length mains ≤ c.loop-i.i = search rules in
    all_stand c.args.code.now c.loop-i.i (drop c.loop-i.i mains) c.loop-i.shreds c.loop-i.due
    (drop_all mains c.loop-i.i past) c.loop-i.invariant.started

pub returns-clause-due : goal.returns-clause-due
returns-clause-due c =
    let mains = c.items-main-items.result.now in
    let past : length mains ≤ c.loop-i.i = search rules in
    all_due c.args.code.now c.loop-i.i (drop c.loop-i.i mains) c.loop-i.shreds c.loop-i.due
    (drop_all mains c.loop-i.i past) c.loop-i.invariant.started
