use Rattle.std.proofs.Common.{◌≡◌, ℕ, ◌∷◌, ◌∙◌, [], List, rules, ap, sym, subst, refl}
use Rattle.std.specs.Vec.Iter.{into_iter_items}
use Rattle.ck_code.specs.declared.code.CodeParts.{CodeParts}
use Rattle.ck_store.specs.Store.{Act}
use Rattle.ck_meaning.specs.Replay.{by_code}
use Rattle.ck_run.specs.Run.{applied}
use Rattle.machine_world.specs.Acts.{act_meant, all_acts_meant}
use Rattle.chuck_vm.specs.Machine.{Does}
use Rattle.chuck_vm.specs.Running.{IsNumbered}
use Rattle.chuck_vm.specs.Telling.{IsNext}
use Rattle.chuck_vm.proofs.Lists.{empty_by}
use Rattle.chuck_vm.proofs.Orders.{on_err}
use Rattle.chuck_vm.proofs.Applying.{Applied, none_applied, next_act, one_applied, all_applied, all_written, front_applied}
use Rattle.chuck_vm.proofs.machine.Machine.apply_all.Goals as goal

pub loop-act-init : goal.loop-act-init
loop-act-init c =
    let m = c.args.self.now in
    let r = by_code m.code in
    let acts = all_acts_meant c.args.acts in
    let all : c.args.acts ≡ into_iter_items c.into_iter-act-iterator.result = search rules in
    let o = c.requires.orderly in
    let text = c.args.text.now.items in
    record {
      can = tt;
      finite = tt;
      code = refl;
      ran = refl;
      so_far = subst (λ (rest : List Act). Applied m.code r c.args.shred m acts m rest text text)
          (ap all_acts_meant all)
          (none_applied m.code r c.args.shred m acts text o.0 o.1 o.2 o.3 o.4 c.requires.begin);
    }

pub apply-requires : goal.apply-requires
apply-requires c =
    let m = c.args.self.now in
    let r = by_code m.code in
    let acts = all_acts_meant c.args.acts in
    let rest : into_iter_items c.loop-act.act-iterator ≡ c.in-Some.act ∷ into_iter_items c.next.new.self =
    search rules in
    let here =
    subst (λ (rest : List Act). Applied m.code r c.args.shred m acts c.loop-act.self rest
    c.args.text.now.items c.loop-act.text.items) (ap all_acts_meant rest) c.loop-act.invariant.so_far in
    let next = next_act m.code r c.args.shred m c.loop-act.self acts
    (all_acts_meant (into_iter_items c.next.new.self)) (act_meant c.in-Some.act) c.args.text.now.items
    c.loop-act.text.items here in
    record {
      orderly = subst (λ (code : CodeParts). (next : ℕ) × IsNumbered next c.loop-act.self
          × IsNext code next (act_meant c.in-Some.act)) (sym c.loop-act.invariant.code) next;
    }

pub loop-act-preserved : goal.loop-act-preserved
loop-act-preserved c =
    let m = c.args.self.now in
    let r = by_code m.code in
    let acts = all_acts_meant c.args.acts in
    let now = c.loop-act.self in
    let act = act_meant c.in-Some.act in
    let rest : into_iter_items c.loop-act.act-iterator ≡ c.in-Some.act ∷ into_iter_items c.next.new.self =
    search rules in
    let here =
    subst (λ (rest : List Act). Applied m.code r c.args.shred m acts now rest
    c.args.text.now.items c.loop-act.text.items) (ap all_acts_meant rest) c.loop-act.invariant.so_far in
    let same = c.loop-act.invariant.code in
    record {
      can = tt;
      finite = tt;
      code = c.apply.ensures.code ∙ same;
      ran = c.apply.ensures.ran ∙ c.loop-act.invariant.ran;
      so_far = one_applied m.code r c.args.shred m now c.apply.new.self acts
          (all_acts_meant (into_iter_items c.next.new.self)) act c.args.text.now.items c.loop-act.text.items
          c.apply.new.text.items
          (subst (λ (code : CodeParts). Does now (λ run. applied (by_code code) c.args.shred run act)
          c.apply.new.self) same c.in_ok-apply.ensures.becomes)
          c.in_ok-apply.ensures.text here;
    }

pub returns-in_err-apply-clause-front : goal.returns-in_err-apply-clause-front
returns-in_err-apply-clause-front c =
    let m = c.args.self.now in
    on_err _ c.from_residual.result
    (front_applied m.code (by_code m.code) c.args.shred m c.loop-act.self
    (all_acts_meant c.args.acts) (all_acts_meant (into_iter_items c.loop-act.act-iterator))
    c.args.text.now.items c.loop-act.text.items c.apply.new.text.items
    c.in_err-apply.ensures.same c.loop-act.invariant.so_far)

pub returns-clause-becomes : goal.returns-clause-becomes
returns-clause-becomes c =
    let m = c.args.self.now in
    let none : into_iter_items c.loop-act.act-iterator ≡ [] = empty_by _ (search rules) in
    all_applied m.code (by_code m.code) c.args.shred m c.loop-act.self (all_acts_meant c.args.acts)
    (all_acts_meant (into_iter_items c.loop-act.act-iterator)) c.args.text.now.items c.loop-act.text.items
    (ap all_acts_meant none) c.loop-act.invariant.so_far

pub returns-clause-text : goal.returns-clause-text
returns-clause-text c =
    let m = c.args.self.now in
    let none : into_iter_items c.loop-act.act-iterator ≡ [] = empty_by _ (search rules) in
    all_written m.code (by_code m.code) c.args.shred m c.loop-act.self (all_acts_meant c.args.acts)
    (all_acts_meant (into_iter_items c.loop-act.act-iterator)) c.args.text.now.items c.loop-act.text.items
    (ap all_acts_meant none) c.loop-act.invariant.so_far
