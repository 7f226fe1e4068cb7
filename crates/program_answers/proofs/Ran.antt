-- How a call ends that ran a program.
use Rattle.std.proofs.Common.{◌≡◌, Bool, true, false, Ok, Err, Option, Some, if◌then◌else◌, refl, sym, ◌∙◌, subst}
use Rattle.std.specs.Prelude.{Result, nat_lt}
use Rattle.ck_edges.specs.declared.press.Press as presses
use Rattle.chuck_vm.specs.declared.tally.Tally.{Tally}
use Rattle.run_report.specs.declared.cut.Cut.{Cut}
use Rattle.run_report.specs.declared.cut.Cut.TheVariants as cut
use Rattle.run_report.specs.declared.status.Status.{Status}
use Rattle.run_report.specs.declared.status.Status.TheVariants.{Done, Trapped, WriteFault, Memory}
use Rattle.program_answers.specs.Answer.{WholeAnswer}
use Rattle.run_report.specs.Blocks.{tally_status}
use Rattle.program_answers.specs.Ends.{Moment, KeepsTold, LeavesPress, Ends, whole, halted, part, IsCut, EndsRun, LeavesTally, status_of_cut}

-- all was done
pub ran_whole : (answer : WholeAnswer) (r : Result Tally Cut) (numbers : Tally) (status : Status)
    (old new : Moment) → r ≡ Ok numbers → EndsRun r answer old new
    → status ≡ tally_status numbers → Ends answer old new status
ran_whole answer r numbers status old new is ends same =
    let h : EndsRun (Ok numbers) answer old new =
    subst (λ end. EndsRun end answer old new) is ends in
    subst (Ends answer old new) (h.2 ∙ sym same) (whole h.0.does)

left_by : (traps : Bool) (numbers given left : Tally) → left ≡ numbers
    → LeavesTally (if traps then Trapped else Done) (Some numbers) given left
left_by true numbers given left is = is
left_by false numbers given left is = is

-- and the numbers were left
pub ran_left : (answer : WholeAnswer) (r : Result Tally Cut) (numbers : Tally) (status : Status)
    (old new : Moment) (given left : Tally) → r ≡ Ok numbers → EndsRun r answer old new
    → status ≡ tally_status numbers → left ≡ numbers → LeavesTally status answer.tally given left
ran_left answer r numbers status old new given left is ends same kept =
    let h : EndsRun (Ok numbers) answer old new =
    subst (λ end. EndsRun end answer old new) is ends in
    let T : Option Tally → Type 0 = λ t. LeavesTally status t given left in
    let S : Status → Type 0 = λ s. LeavesTally s (Some numbers) given left in
    subst T (sym h.1) (subst S (sym same) (left_by (nat_lt 0 numbers.traps) numbers given left kept))

pub cut_left : (cut : Cut) (status : Status) (numbers : Option Tally) (given : Tally)
    → status ≡ status_of_cut cut → LeavesTally status numbers given given
cut_left cut.WriteFault status numbers given is =
    subst (λ s. LeavesTally s numbers given given) (sym is) refl
cut_left (cut.Memory _) status numbers given is =
    subst (λ s. LeavesTally s numbers given given) (sym is) refl

cut_ends : (cut : Cut) (answer : WholeAnswer) (old new : Moment) → IsCut cut answer.steps old new
    → Ends answer old new (status_of_cut cut)
cut_ends cut.WriteFault answer old new short = part short.0 short.1
cut_ends (cut.Memory _) answer old new short = halted short

-- or it was cut short
pub ran_cut : (answer : WholeAnswer) (r : Result Tally Cut) (cut : Cut) (status : Status)
    (old new : Moment) → r ≡ Err cut → EndsRun r answer old new → status ≡ status_of_cut cut
    → Ends answer old new status
ran_cut answer r cut status old new is ends same =
    subst (Ends answer old new) (sym same)
    (cut_ends cut answer old new (subst (λ end. EndsRun end answer old new) is ends))

-- a press on which no sheet stands open
pub whole_leaves : {P : Type 0} (press : presses.Ghosts P) (at at' : P) (status : Status)
    → KeepsTold (press.sheets at) (press.sheets at') → press.is_open at' ≡ false
    → LeavesPress press at at' status
whole_leaves press at at' status kept shut = (kept, λ before fault wanting. shut)

cut_fails : (cut : Cut) → (status_of_cut cut ≡ WriteFault → ⊥)
    → (status_of_cut cut ≡ Memory → ⊥) → ⊥
cut_fails cut.WriteFault fault wanting = fault refl
cut_fails (cut.Memory _) fault wanting = wanting refl

-- one may where it was cut short
pub cut_leaves : {P : Type 0} (press : presses.Ghosts P) (at at' : P) (cut : Cut) (status : Status)
    → status ≡ status_of_cut cut → KeepsTold (press.sheets at) (press.sheets at')
    → LeavesPress press at at' status
cut_leaves press at at' cut status same kept = (
  kept,
  λ before fault wanting. absurd (cut_fails cut (λ e. fault (same ∙ e)) (λ e. wanting (same ∙ e))),
)
