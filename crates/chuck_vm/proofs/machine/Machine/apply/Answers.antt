use mir.Syntax.{w64}
use mir.Val.{SFits}
use Rattle.std.proofs.lemmas.Int.{to_z-of_z}
use Rattle.std.proofs.Common.{sym, subst, OnOk, rules}
use Rattle.ck_meaning.specs.Replay.{by_code}
use Rattle.ck_run.specs.Run.{applied, live_at, ended_where}
use Rattle.machine_world.specs.Acts.{act_meant}
use Rattle.machine_world.specs.declared.acts.Act.{Act}
use Rattle.chuck_vm.specs.Machine.{Does}
use Rattle.chuck_vm.proofs.machine.Machine.apply.Goals as goal

pub returns-in-WakeAll-clause-becomes : goal.returns-in-WakeAll-clause-becomes
returns-in-WakeAll-clause-becomes c =
    let m = c.args.self.now in
    subst (λ (act : Act). OnOk c.wake_all.result
    (Does m (λ run. applied (by_code m.code) c.args.shred run (act_meant act)) c.wake_all.new.self))
    (sym c.in-WakeAll.is) c.wake_all.ensures.woken

pub returns-in-Remove-clause-becomes : goal.returns-in-Remove-clause-becomes
returns-in-Remove-clause-becomes c =
    let m = c.args.self.now in
    let fits : SFits w64 c.in-Remove.number = search rules in
    subst (λ (act : Act). Does m (λ run. applied (by_code m.code) c.args.shred run (act_meant act))
    c.remove.new.self) (sym c.in-Remove.is)
    (subst (λ number. Does m (λ run. ended_where run (live_at run number)) c.remove.new.self)
    (to_z-of_z w64 c.in-Remove.number fits) c.remove.ensures.ended)
