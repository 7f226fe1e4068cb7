use Rattle.std.proofs.Common.{option_map, refl, ap, ◌∙◌, sym}
use Rattle.ck_run.specs.Report.{trap_lines}
use Rattle.chuck_vm.specs.Wakes.{names_of, trap_meant, wake_meant}
use Rattle.chuck_vm.proofs.Reports.{trap_line-is}
use Rattle.chuck_vm.proofs.report.trap_line.Goals as goal

pub returns : goal.returns
returns c =
    c.in_ok-format.ensures.ok
    ∙ trap_line-is (names_of c.args.names.now) (wake_meant c.args.wake) (trap_meant c.in-Some.at) _ _ _ refl
    c.name.ensures c.file_name-name.ensures
    ∙ ap (λ trap. trap_lines (names_of c.args.names.now) (wake_meant c.args.wake) (option_map trap_meant trap))
    (sym c.in-Some.is)
