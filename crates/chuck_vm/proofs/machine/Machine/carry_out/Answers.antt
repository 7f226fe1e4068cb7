use mir.Syntax.{w64}
use mir.Val.{SFits}
use Rattle.std.proofs.lemmas.Int.{to_z-of_z}
use Rattle.std.proofs.Common.{◌≡◌, rules, inl, inr, ◌∙◌, sym, ap, subst, is_some, true}
use Rattle.ck_run.specs.Run.{live, carried_out, carried_out_where}
use Rattle.ck_run.specs.Sound.{times_due, times_waiting}
use Rattle.chuck_vm.specs.Machine.{Stands, Does}
use Rattle.chuck_vm.specs.Wakes.{stop_meant}
use Rattle.chuck_vm.proofs.Orders.{carried_some, idle_both, due_stands, wait_stands, on_ok}
use Rattle.chuck_vm.proofs.Queues.{due_pushed, wait_pushed}
use Rattle.chuck_vm.proofs.Stands.{not_due, not_waiting}
use Rattle.chuck_vm.proofs.machine.Machine.carry_out.Goals as goal

pub shredule-requires : goal.shredule-requires
shredule-requires c =
    let idle = c.requires.idle in
    let n = c.args.shred in
    record {
      not_due = not_due c.args.self.now idle.run n idle.stands
          (idle_both (times_due n idle.run) (times_waiting n idle.run) idle.so).0;
    }

pub wait-requires : goal.wait-requires
wait-requires c =
    let idle = c.requires.idle in
    let n = c.args.shred in
    record {
      not_waiting = not_waiting c.args.self.now idle.run n idle.stands
          (idle_both (times_due n idle.run) (times_waiting n idle.run) idle.so).1;
    }

pub returns-in-At-clause-becomes : goal.returns-in-At-clause-becomes
returns-in-At-clause-becomes c =
    let m = c.args.self.now in
    let n = c.args.shred in
    let fits : SFits w64 c.in-At.time = search rules in
    let new = record m { due = c.shredule.new.self } in
    on_ok _ (Does m (λ run. carried_out_where run (live run n) (stop_meant c.args.stop)) new) c.shredule.result
    (λ pushed run stands.
    let some : is_some (live run n) ≡ true = sym (c.is_live.ensures run stands) ∙ c.if-not-is_live.false in
    subst (Stands new)
    (ap (λ stop. carried_out run n (stop_meant stop)) (sym c.in-At.is)
    ∙ carried_some run n (stop_meant c.args.stop) some)
    (due_stands m run c.in-At.time n c.shredule.new.self
    (due_pushed m.due c.shredule.new.self _ c.in-At.time n pushed (to_z-of_z w64 c.in-At.time fits)) stands))
    c.shredule.ensures.due

pub returns-in-On-clause-becomes : goal.returns-in-On-clause-becomes
returns-in-On-clause-becomes c =
    let m = c.args.self.now in
    let n = c.args.shred in
    let new = record m { waits = c.wait.new.self } in
    on_ok _ (Does m (λ run. carried_out_where run (live run n) (stop_meant c.args.stop)) new) c.wait.result
    (λ pushed run stands.
    let some : is_some (live run n) ≡ true = sym (c.is_live.ensures run stands) ∙ c.if-not-is_live.false in
    subst (Stands new)
    (ap (λ stop. carried_out run n (stop_meant stop)) (sym c.in-On.is)
    ∙ carried_some run n (stop_meant c.args.stop) some)
    (wait_stands m run c.in-On.event.serial n c.wait.new.self
    (wait_pushed m.waits c.wait.new.self c.in-On.event n pushed) stands))
    c.wait.ensures.waits

pub returns-in-Ended-clause-becomes : goal.returns-in-Ended-clause-becomes
returns-in-Ended-clause-becomes c = λ run stands.
    let n = c.args.shred in
    let some : is_some (live run n) ≡ true = sym (c.is_live.ensures run stands) ∙ c.if-not-is_live.false in
    let ended = c.end.ensures.ended run stands in
    let last = carried_some run n (stop_meant c.args.stop) some in
    elim c.in-Ended.is [
      | inl is ↦
          subst (Stands c.end.new.self) (ap (λ stop. carried_out run n (stop_meant stop)) (sym is) ∙ last) ended
      | inr is ↦
          subst (Stands c.end.new.self) (ap (λ stop. carried_out run n (stop_meant stop)) (sym is.2) ∙ last) ended
    ]
