-- How answers of one write, and answers that weren't begun, are carried out.
use Rattle.std.proofs.Common.{◌≡◌, ℕ, List, [], ◌∷◌, Option, None, refl, sym, subst}
use Rattle.ck_edges.specs.declared.sink.Sink as sinks
use Rattle.ck_edges.specs.declared.press.Press as presses
use Rattle.ck_edges.specs.Faults.{HasRisen}
use Rattle.ck_edges.specs.Sink.{Appends, AppendsFront}
use Rattle.ck_edges.specs.Press.{Sheet}
use Rattle.chuck_vm.specs.declared.tally.Tally.{Tally}
use Rattle.run_report.specs.declared.status.Status.{Status}
use Rattle.run_report.specs.declared.status.Status.TheVariants.{Done, Usage, Refused, Trapped}
use Rattle.run_report.specs.declared.status.Status.TheVariants.{ReadFault, WriteFault, Memory}
use Rattle.run_report.specs.Step.{Write}
use Rattle.run_report.proofs.Steps.{does_write, write_cut, keeps_same, cut_at_once}
use Rattle.program_answers.specs.Answer.{WholeAnswer}
use Rattle.program_answers.specs.Ends.{Moment, moment, moment_of, LeavesPress, EndsAtSink}
use Rattle.program_answers.specs.Ends.{Ends, whole, halted, part, LeavesTally}

-- an answer of one write
abbrev pub one_write : Status → List ℕ → WholeAnswer
one_write status line = record { status = status; steps = Write line ∷ []; tally = None }

-- which was done
pub write_whole : (line : List ℕ) (status : Status) (text text' : Option (List ℕ))
    (faults faults' : ℕ) → Appends text text' line
    → (sheets : Option (List Sheet)) (press_faults : ℕ)
    → Ends (one_write status line) (moment text faults sheets press_faults)
    (moment text' faults' sheets press_faults) status
write_whole line status text text' faults faults' appends sheets press_faults =
    whole (does_write line text text' sheets appends)

-- or failed in part
pub write_part : (line : List ℕ) (status : Status) (text text' : Option (List ℕ))
    (faults faults' : ℕ) → AppendsFront text text' line → HasRisen faults faults'
    → (sheets : Option (List Sheet)) (press_faults : ℕ)
    → Ends (one_write status line) (moment text faults sheets press_faults)
    (moment text' faults' sheets press_faults) WriteFault
write_part line status text text' faults faults' some risen sheets press_faults =
    let short = write_cut line text text' faults faults' sheets press_faults some risen in
    part short.0 short.1

-- a press that isn't touched
pub press_stands : {P : Type 0} (press : presses.Ghosts P) (at : P) (status : Status)
    → LeavesPress press at at status
press_stands press at status = (keeps_same (press.sheets at), λ shut fault wanting. shut)

-- what was written at a sink was done at both edges, of which the press stands still
pub at_edges : {O P : Type 0} (sink : sinks.Ghosts O) (press : presses.Ghosts P) (out out' : O)
    (at : P) (status : Status) (answer : WholeAnswer) → EndsAtSink sink answer out out' status
    → Ends answer (moment_of sink press out at) (moment_of sink press out' at) status
at_edges sink press out out' at status answer ends = ends (press.sheets at) (press.press_faults at)

-- an answer for which memory was wanting before its first step
pub wanting : (answer : WholeAnswer) (at : Moment) (status : Status) → status ≡ Memory
    → Ends answer at at status
wanting answer at status is = subst (Ends answer at at) (sym is) (halted (cut_at_once answer.steps at))

-- a call that made no run leaves the numbers that it was given
pub none_left : (status : Status) (given : Tally) → LeavesTally status None given given
none_left Done given = refl
none_left Usage given = refl
none_left Refused given = refl
none_left Trapped given = refl
none_left ReadFault given = refl
none_left WriteFault given = refl
none_left Memory given = refl

-- and so does one for which memory was wanting
pub memory_left : (numbers : Option Tally) (given : Tally) (status : Status) → status ≡ Memory
    → LeavesTally status numbers given given
memory_left numbers given status is =
    subst (λ s. LeavesTally s numbers given given) (sym is) refl
