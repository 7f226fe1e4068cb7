use Rattle.std.specs.Prelude.{ℕ}
use Rattle.run_report.specs.declared.status.Status.{Status}
use Rattle.run_report.specs.declared.status.Status.TheVariants.{Done, Usage, Refused, Trapped}
use Rattle.run_report.specs.declared.status.Status.TheVariants.{ReadFault, WriteFault, Memory}

-- the exit status of the process
abbrev pub status_code : Status → ℕ
status_code Done = 0
status_code Usage = 1
status_code Refused = 2
status_code Trapped = 3
status_code ReadFault = 4
status_code WriteFault = 5
status_code Memory = 6
