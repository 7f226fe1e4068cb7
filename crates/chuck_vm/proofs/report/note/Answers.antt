use Rattle.std.proofs.Common.{◌∷◌, [], refl, ap, ◌∙◌}
use Rattle.ck_run.specs.Report.{trap_lines}
use Rattle.chuck_vm.specs.Wakes.{names_of, wake_meant, wakes_meant}
use Rattle.chuck_vm.proofs.Lists.{map-push}
use Rattle.chuck_vm.proofs.Reports.{all_added, none_added}
use Rattle.chuck_vm.proofs.Orders.{on_err}
use Rattle.chuck_vm.proofs.report.note.Goals as goal

pub returns-in_err-line-clause-wakes_front : goal.returns-in_err-line-clause-wakes_front
returns-in_err-line-clause-wakes_front c =
    on_err _ _ (all_added (wake_meant c.args.wake ∷ []) (wakes_meant c.args.wakes.now.items)
    (wakes_meant c.push.new.self.items) (ap wakes_meant c.in_ok-push.ensures.items
    ∙ map-push wake_meant c.args.wakes.now.items c.args.wake))

pub returns-in_err-extend_from_slice-clause-wakes_front
    : goal.returns-in_err-extend_from_slice-clause-wakes_front
returns-in_err-extend_from_slice-clause-wakes_front c =
    on_err _ _ (all_added (wake_meant c.args.wake ∷ []) (wakes_meant c.args.wakes.now.items)
    (wakes_meant c.push.new.self.items) (ap wakes_meant c.in_ok-push.ensures.items
    ∙ map-push wake_meant c.args.wakes.now.items c.args.wake))

pub returns-in_err-line-clause-text_front : goal.returns-in_err-line-clause-text_front
returns-in_err-line-clause-text_front c =
    let meant = wake_meant c.args.wake in
    on_err _ _ (none_added (trap_lines (names_of c.args.names.now) meant meant.trap)
    c.args.text.now.items c.args.text.now.items refl)

pub returns-in_err-extend_from_slice-clause-text_front
    : goal.returns-in_err-extend_from_slice-clause-text_front
returns-in_err-extend_from_slice-clause-text_front c =
    let meant = wake_meant c.args.wake in
    on_err _ _ (none_added (trap_lines (names_of c.args.names.now) meant meant.trap)
    c.args.text.now.items c.extend_from_slice.new.self.items
    c.in_err-extend_from_slice.ensures.items)
