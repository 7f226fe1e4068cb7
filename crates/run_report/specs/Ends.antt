-- What sinks and presses tell at a moment, and how carrying out the steps of a run ended.
use Rattle.std.specs.Prelude.{◌≡◌, ◌⊎◌, ℕ, List, ◌++◌, Option, Some, Result, Ok, Err, IfSome}
use Rattle.ck_edges.specs.declared.sink.Sink as sinks
use Rattle.ck_edges.specs.declared.press.Press as presses
use Rattle.ck_edges.specs.Faults.{HasRisen}
use Rattle.ck_edges.specs.Press.{Sheet}
use Rattle.chuck_vm.specs.declared.tally.Tally.{Tally}
use Rattle.run_report.specs.declared.cut.Cut.{Cut}
use Rattle.run_report.specs.declared.cut.Cut.TheVariants as cut
use Rattle.run_report.specs.declared.status.Status.{Status}
use Rattle.run_report.specs.declared.status.Status.TheVariants.{WriteFault, Memory}
use Rattle.run_report.specs.Answer.{WholeAnswer}
use Rattle.run_report.specs.Blocks.{tally_status}
use Rattle.run_report.specs.Step.{Step, Edges, told, Does, DoesFront, DoesPart}

-- what a sink and a press tell at a moment, and how often a write and a call of the press had
-- failed by then
pub record Moment : Type 0 where
  pub edges : Edges
  pub write_faults : ℕ
  pub press_faults : ℕ

-- the moment at which a sink and a press tell this text and these sheets, with so many faults
abbrev pub moment : Option (List ℕ) → ℕ → Option (List Sheet) → ℕ → Moment
moment text write_faults sheets press_faults =
    record { edges = told text sheets; write_faults = write_faults; press_faults = press_faults }

-- the moment of this sink and this press
abbrev pub moment_of : {O P : Type 0} → sinks.Ghosts O → presses.Ghosts P → O → P → Moment
moment_of O P out press =
    moment (O.written out) (O.write_faults out) (P.sheets press) (P.press_faults press)

-- between two moments a write failed, or a call of the press
abbrev pub HasFailed : Moment → Moment → Type 0
HasFailed old new =
    HasRisen old.write_faults new.write_faults ⊎ HasRisen old.press_faults new.press_faults

-- what was told stands still in front of what is told now
abbrev pub KeepsTold : {A : Type 0} → Option (List A) → Option (List A) → Type 0
KeepsTold {A} old new = IfSome old (λ front. (more : List A) × (new ≡ Some (front ++ more)))

-- the status of a call that was cut short
abbrev pub status_of_cut : Cut → Status
status_of_cut cut.WriteFault = WriteFault
status_of_cut (cut.Memory _) = Memory

-- these steps were done from one moment to another, and no call failed
pub record HasDone (steps : List Step) (old new : Moment) : Type 0 where
  pub does : Does steps old.edges new.edges
  pub write_faults : new.write_faults ≡ old.write_faults
  pub press_faults : new.press_faults ≡ old.press_faults

-- or they were cut short: one failed in part, and a count of faults rose; or memory was wanting
-- after some of them
abbrev pub IsCut : Cut → List Step → (old new : Moment) → Type 0
IsCut cut.WriteFault steps old new = DoesPart steps old.edges new.edges × HasFailed old new
IsCut (cut.Memory _) steps old new = DoesFront steps old.edges new.edges

-- how carrying out steps ended
abbrev pub EndsSteps : Result (Unit {0}) Cut → List Step → (old new : Moment) → Type 0
EndsSteps (Ok done) steps old new = HasDone steps old new
EndsSteps (Err cut) steps old new = IsCut cut steps old new

-- and how that of the answer of a run, which had these numbers
abbrev pub EndsRun : Result Tally Cut → WholeAnswer → (old new : Moment) → Type 0
EndsRun (Ok numbers) answer old new = HasDone answer.steps old new
    × (answer.tally ≡ Some numbers) × (answer.status ≡ tally_status numbers)
EndsRun (Err cut) answer old new = IsCut cut answer.steps old new
