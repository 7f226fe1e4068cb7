-- How carrying out an answer ends, and what it leaves.
use Rattle.std.specs.Prelude.{◌≡◌, ◌≢◌, ℕ, false, List, Option, Some}
use Rattle.ck_edges.specs.declared.sink.Sink as sinks
use Rattle.ck_edges.specs.declared.press.Press as presses
use Rattle.ck_edges.specs.Press.{Sheet}
use Rattle.chuck_vm.specs.declared.tally.Tally.{Tally}
use Rattle.run_report.specs.declared.status.Status.{Status}
use Rattle.run_report.specs.declared.status.Status.TheVariants.{Done, Trapped, WriteFault, Memory}
use Rattle.run_report.specs.Step.{Does, DoesFront, DoesPart}
pub use Rattle.run_report.specs.Ends.{Moment, moment, moment_of, HasFailed, KeepsTold}
pub use Rattle.run_report.specs.Ends.{status_of_cut, HasDone, IsCut, EndsSteps, EndsRun}
use Rattle.program_answers.specs.Answer.{WholeAnswer}

-- a call that ended so leaves the numbers of its run, where there was one, and else those that it
-- was given
abbrev pub LeavesTally : Status → Option Tally → (given left : Tally) → Type 0
LeavesTally Done (Some numbers) given left = left ≡ numbers
LeavesTally Trapped (Some numbers) given left = left ≡ numbers
LeavesTally _ _ given left = left ≡ given

-- how carrying out an answer ended: all its steps were done; or memory was wanting after some; or
-- one failed in part, and a count of faults rose
pub data Ends (answer : WholeAnswer) (old new : Moment) : Status → Type 0 where
  whole : Does answer.steps old.edges new.edges → Ends answer old new answer.status
  halted : DoesFront answer.steps old.edges new.edges → Ends answer old new Memory
  part : DoesPart answer.steps old.edges new.edges → HasFailed old new
      → Ends answer old new WriteFault

-- carrying out an answer at a sink alone ended so, whatever a press tells, which stands still
abbrev pub EndsAtSink : {O : Type 0} → sinks.Ghosts O → WholeAnswer → O → O → Status → Type 0
EndsAtSink O answer out out' status = (sheets : Option (List Sheet)) (press_faults : ℕ) →
    Ends answer (moment (O.written out) (O.write_faults out) sheets press_faults)
    (moment (O.written out') (O.write_faults out') sheets press_faults) status

-- a press keeps its sheets; and where none stood open before, none is left open but by a failed
-- write or by want of memory
abbrev pub LeavesPress : {P : Type 0} → presses.Ghosts P → P → P → Status → Type 0
LeavesPress P press press' status = KeepsTold (P.sheets press) (P.sheets press')
    × (P.is_open press ≡ false → status ≢ WriteFault → status ≢ Memory → P.is_open press' ≡ false)
