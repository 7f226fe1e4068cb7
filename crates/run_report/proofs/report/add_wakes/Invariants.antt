use Rattle.std.proofs.Common.{◌≡◌, ◌++◌, take}
use Rattle.ck_run.specs.Report.{wake_lines}
use Rattle.chuck_vm.specs.Wakes.{wakes_meant}
use Rattle.chuck_vm.specs.Wakes.{names_of}
use Rattle.run_report.proofs.report.add_wakes.Given as goal

abbrev pub invariant-loop-wake : goal.invariant-loop-wake
invariant-loop-wake l = l.lines.items
    ≡ l.fn.lines.items ++ wake_lines (names_of l.names) (wakes_meant (take l.wake-index l.wakes))
