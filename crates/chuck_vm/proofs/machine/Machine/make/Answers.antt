use mir.Syntax.{w64, w16}
use mir.Val.{SFits}
use Rattle.std.proofs.lemmas.Int.{to_z-of_z}
use Rattle.std.proofs.Common.{◌≡◌, ◌<◌, ◌≤◌, ◌+◌, ◌-◌, suc, [], ◌∷◌, ◌++◌, ap, sym, ◌∙◌, refl, rules, subst, arith}
use Rattle.ck_base.specs.declared.limits.TheConstants.{MAX_SAMPLES}
use Rattle.ck_meaning.specs.Replay.{run_code}
use Rattle.ck_run.specs.Run.{block_between}
use Rattle.chuck_vm.specs.Machine.{Stands}
use Rattle.chuck_vm.specs.Running.{IsQuietBefore}
use Rattle.chuck_vm.specs.Telling.{Becomes, TellsFront, AddsFronts}
use Rattle.chuck_vm.specs.Tallies.{as_counted, Counts}
use Rattle.chuck_vm.specs.Vm.{block_of}
use Rattle.chuck_vm.specs.Wakes.{names_of}
use Rattle.chuck_vm.proofs.Orders.{on_err}
use Rattle.chuck_vm.proofs.Making.{Making, next, none_made, no_fronts, tells_all, ready_at, can_at, settled_at, sampled_stands, one_made, count_made, front_made, all_made, time_left}
use Rattle.chuck_vm.proofs.Stands.{quiet_on}
use Rattle.chuck_vm.proofs.machine.Machine.make.Goals as goal

pub returns-in_err-reserve-clause-fronts : goal.returns-in_err-reserve-clause-fronts
returns-in_err-reserve-clause-fronts c =
    on_err _ c.from_residual.result
    (no_fronts (names_of c.args.names.now) (block_of c.args.self.now.code c.args.made c.args.count)
    c.args.samples.now.items c.reserve.new.self.items c.args.text.now.items c.args.wakes.now.items
    c.reserve.ensures.items)

pub loop-i-init : goal.loop-i-init
loop-i-init c =
    let code = c.args.self.now.code in
    let names = names_of c.args.names.now in
    let e : c.args.made ≡ c.args.made + 0 = omega arith in
    let samples = c.args.samples.now.items in
    let text = c.args.text.now.items in
    let wakes = c.args.wakes.now.items in
    let made = none_made code names c.args.made samples text wakes in
    let fits : SFits w64 c.next_due-next.result = search rules in
    record {
      code = refl;
      none_before = subst (λ time. IsQuietBefore time c.args.self.now)
          (sym (to_z-of_z w64 c.next_due-next.result fits)) c.next_due-next.ensures;
      stands = subst (λ n. Stands c.args.self.now (run_code code n)) e c.requires.stands;
      counts = c.requires.ran ∙ ap (λ n. as_counted (run_code code n).begun) e;
      made = subst
          (λ items. Making code names c.args.made (c.args.made + 0) samples items text text wakes wakes)
          (sym c.reserve.ensures.items)
          (subst (λ n. Making code names c.args.made n samples samples text text wakes wakes) e made);
    }

pub settle_from-requires-clause-can_run : goal.settle_from-requires-clause-can_run
settle_from-requires-clause-can_run c =
    let code = c.args.self.now.code in
    let names = names_of c.args.names.now in
    let n = c.args.made + c.loop-i.i in
    let le : n ≤ MAX_SAMPLES = omega (arith, c.requires.few, c.loop-i-test.true) in
    let ready = ready_at code names c.requires.verified n c.requires.files le in
    record {
      run = run_code code n;
      stands = c.loop-i.invariant.stands;
      so = can_at code names n c.loop-i.self c.loop-i.invariant.code ready;
    }

pub returns-in_err-next-clause-fronts : goal.returns-in_err-next-clause-fronts
returns-in_err-next-clause-fronts c =
    let code = c.args.self.now.code in
    let names = names_of c.args.names.now in
    let n = c.args.made + c.loop-i.i in
    let le : n ≤ MAX_SAMPLES = omega (arith, c.requires.few, c.loop-i-test.true) in
    let ready = ready_at code names c.requires.verified n c.requires.files le in
    let k = c.args.count - suc c.loop-i.i in
    let end : suc n + k ≡ c.args.made + c.args.count = omega (arith, c.loop-i-test.true) in
    let front =
    settled_at code names n c.loop-i.self
    (λ run. TellsFront names run c.loop-i.text.items c.settle_from.new.text.items c.loop-i.wakes.items
    c.settle_from.new.wakes.items) c.loop-i.invariant.code ready c.loop-i.invariant.stands
    c.in_err-next.ensures.front in
    on_err _ c.from_residual-in_err-next.result
    (subst (λ m. AddsFronts names (block_between (run_code code c.args.made) (run_code code m))
    c.args.samples.now.items c.loop-i.samples.items c.args.text.now.items c.settle_from.new.text.items
    c.args.wakes.now.items c.settle_from.new.wakes.items) end
    (front_made code names c.args.made n c.loop-i.self c.args.samples.now.items
    c.loop-i.samples.items c.args.text.now.items c.loop-i.text.items c.settle_from.new.text.items
    c.args.wakes.now.items c.loop-i.wakes.items c.settle_from.new.wakes.items
    c.loop-i.invariant.made k c.loop-i.samples.items refl front))

pub returns-in_err-push-clause-fronts : goal.returns-in_err-push-clause-fronts
returns-in_err-push-clause-fronts c =
    let code = c.args.self.now.code in
    let names = names_of c.args.names.now in
    let n = c.args.made + c.loop-i.i in
    let le : n ≤ MAX_SAMPLES = omega (arith, c.requires.few, c.loop-i-test.true) in
    let ready = ready_at code names c.requires.verified n c.requires.files le in
    let k = c.args.count - suc c.loop-i.i in
    let end : suc n + k ≡ c.args.made + c.args.count = omega (arith, c.loop-i-test.true) in
    let becomes =
    settled_at code names n c.loop-i.self
    (λ run. Becomes names run c.settle_from.new.self c.loop-i.text.items c.settle_from.new.text.items
    c.loop-i.wakes.items c.settle_from.new.wakes.items) c.loop-i.invariant.code ready c.loop-i.invariant.stands
    c.in_ok-next.ensures.becomes in
    let front = tells_all names (next code names n) c.settle_from.new.self
    c.loop-i.text.items c.settle_from.new.text.items c.loop-i.wakes.items c.settle_from.new.wakes.items
    becomes in
    on_err _ c.from_residual-in_err-push.result
    (subst (λ m. AddsFronts names (block_between (run_code code c.args.made) (run_code code m))
    c.args.samples.now.items c.push.new.self.items c.args.text.now.items c.settle_from.new.text.items
    c.args.wakes.now.items c.settle_from.new.wakes.items) end
    (front_made code names c.args.made n c.settle_from.new.self c.args.samples.now.items
    c.loop-i.samples.items c.args.text.now.items c.loop-i.text.items c.settle_from.new.text.items
    c.args.wakes.now.items c.loop-i.wakes.items c.settle_from.new.wakes.items
    c.loop-i.invariant.made k c.push.new.self.items c.in_err-push.ensures.items front))

pub sample-requires : goal.sample-requires
sample-requires c =
    let code = c.args.self.now.code in
    let names = names_of c.args.names.now in
    let n = c.args.made + c.loop-i.i in
    let le : n ≤ MAX_SAMPLES = omega (arith, c.requires.few, c.loop-i-test.true) in
    let ready = ready_at code names c.requires.verified n c.requires.files le in
    let becomes =
    settled_at code names n c.loop-i.self
    (λ run. Becomes names run c.settle_from.new.self c.loop-i.text.items c.settle_from.new.text.items
    c.loop-i.wakes.items c.settle_from.new.wakes.items) c.loop-i.invariant.code ready c.loop-i.invariant.stands
    c.in_ok-next.ensures.becomes in
    let lt : n < MAX_SAMPLES = omega (arith, c.requires.few, c.loop-i-test.true) in
    time_left code names n c.settle_from.new.self ready lt becomes.stands

pub loop-i-preserved : goal.loop-i-preserved
loop-i-preserved c =
    let code = c.args.self.now.code in
    let names = names_of c.args.names.now in
    let n = c.args.made + c.loop-i.i in
    let le : n ≤ MAX_SAMPLES = omega (arith, c.requires.few, c.loop-i-test.true) in
    let ready = ready_at code names c.requires.verified n c.requires.files le in
    let becomes =
    settled_at code names n c.loop-i.self
    (λ run. Becomes names run c.settle_from.new.self c.loop-i.text.items c.settle_from.new.text.items
    c.loop-i.wakes.items c.settle_from.new.wakes.items) c.loop-i.invariant.code ready c.loop-i.invariant.stands
    c.in_ok-next.ensures.becomes in
    let e : suc n ≡ c.args.made + (c.loop-i.i + 1) = omega arith in
    let value_fits : SFits w16 c.sample.result = search rules in
    let one = one_made code names c.args.made n c.settle_from.new.self c.args.samples.now.items
    c.loop-i.samples.items c.args.text.now.items c.loop-i.text.items c.settle_from.new.text.items
    c.args.wakes.now.items c.loop-i.wakes.items c.settle_from.new.wakes.items
    c.loop-i.invariant.made c.push.new.self.items c.sample.result
    (c.in_ok-push.ensures.items ∙ ap (λ v. c.loop-i.samples.items ++ v ∷ []) (to_z-of_z w16 c.sample.result value_fits))
    c.sample.ensures.value becomes in
    let counts =
    settled_at code names n c.loop-i.self
    (λ run. Counts run.begun c.loop-i.self.world.ran c.settle_from.new.self.world.ran)
    c.loop-i.invariant.code ready c.loop-i.invariant.stands c.in_ok-next.ensures.counts in
    let count = count_made code names n c.loop-i.self.world.ran c.settle_from.new.self.world.ran
    c.loop-i.invariant.counts counts in
    let fits : SFits w64 c.in_ok-next.next = search rules in
    let new = record c.settle_from.new.self { world = c.sample.new.self } in
    record {
      code = c.settle_from.ensures.code ∙ c.loop-i.invariant.code;
      none_before = quiet_on c.settle_from.new.self new _ _ refl becomes.stands
          (subst (λ time. IsQuietBefore time c.settle_from.new.self) (sym (to_z-of_z w64 c.in_ok-next.next fits))
          c.in_ok-next.ensures.none_before);
      stands = subst (λ m. Stands new (run_code code m)) e
          (sampled_stands code names n c.settle_from.new.self new refl refl refl refl
          c.sample.ensures.store becomes.stands);
      counts = c.sample.ensures.ran ∙ count ∙ ap (λ m. as_counted (run_code code m).begun) e;
      made = subst
          (λ m. Making code names c.args.made m c.args.samples.now.items c.push.new.self.items
          c.args.text.now.items c.settle_from.new.text.items c.args.wakes.now.items
          c.settle_from.new.wakes.items) e one;
    }

pub returns-clause-adds : goal.returns-clause-adds
returns-clause-adds c =
    let code = c.args.self.now.code in
    let names = names_of c.args.names.now in
    let e : c.args.made + c.loop-i.i ≡ c.args.made + c.args.count =
    omega (arith, c.loop-i-test.false, c.loop-i.auto.i-end) in
    all_made code names c.args.made (c.args.made + c.args.count) c.args.samples.now.items c.loop-i.samples.items
    c.args.text.now.items c.loop-i.text.items c.args.wakes.now.items c.loop-i.wakes.items
    (subst (λ n. Making code names c.args.made n c.args.samples.now.items c.loop-i.samples.items
    c.args.text.now.items c.loop-i.text.items c.args.wakes.now.items c.loop-i.wakes.items) e
    c.loop-i.invariant.made)

pub returns-clause-ran : goal.returns-clause-ran
returns-clause-ran c =
    let e : c.args.made + c.loop-i.i ≡ c.args.made + c.args.count =
    omega (arith, c.loop-i-test.false, c.loop-i.auto.i-end) in
    c.loop-i.invariant.counts ∙ ap (λ n. as_counted (run_code c.args.self.now.code n).begun) e
