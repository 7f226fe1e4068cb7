use mir.Syntax.{w64}
use mir.Val.{SFits}
use Rattle.std.proofs.lemmas.Int.{to_z-of_z}
use Rattle.std.proofs.Common.{◌∙◌, sym, map, rules}
use Rattle.chuck_vm.specs.Machine.{due_of}
use Rattle.chuck_vm.proofs.Dues.{first_alike}
use Rattle.chuck_vm.proofs.Queues.{none_before}
use Rattle.chuck_vm.proofs.machine.Machine.next_due.Goals as goal

pub returns : goal.returns
returns c = λ run stands now lt.
    let dues = c.args.self.now.due in
    let fits : SFits w64 c.unwrap_or.result = search rules in
    sym (first_alike now (map due_of dues) run.due stands.due)
    ∙ none_before c.next_time.result dues _ _ c.next_time.ensures.time c.next_time.ensures.nothing_before
    (to_z-of_z w64 c.unwrap_or.result fits ∙ c.unwrap_or.ensures) now lt
