-- What each clause of the whole call says, from how the call concluded.
use Rattle.std.proofs.Common.{◌≡◌, ◌⊎◌, ℕ, List, [], ◌++◌, Option, Some, None, IfSome, Contains}
use Rattle.std.proofs.Common.{codes, refl, sym, ◌∙◌, ap, inl, inr, subst, arith}
use Rattle.std.specs.Prelude.{◌≢◌, IsSomeAnd}
use Rattle.ck_edges.specs.Faults.{HasRisen}
use Rattle.ck_edges.specs.Shelf.{Files}
use Rattle.ck_edges.specs.Sink.{Appends}
use Rattle.chuck_vm.specs.declared.tally.Tally.{Tally}
use Rattle.command_inputs.specs.declared.commands.Command.{Command}
use Rattle.command_inputs.specs.declared.commands.Command.TheVariants.{Check, Wakes, Render, Stats}
use Rattle.command_inputs.specs.declared.commands.Command.TheVariants.{Code, Load}
use Rattle.run_report.specs.declared.status.Status.{Status}
use Rattle.run_report.specs.declared.status.Status.TheVariants.{Done, Usage, Refused, Trapped}
use Rattle.run_report.specs.declared.status.Status.TheVariants.{ReadFault, WriteFault}
use Rattle.run_report.specs.declared.status.Status.TheVariants.{Memory}
use Rattle.command_inputs.specs.Words.{command_of, file_words, sheet_word}
use Rattle.command_inputs.specs.Reading.{Found, OneIsMissing, TooLong, Contents, found_in, names_read}
use Rattle.command_inputs.specs.Reading.{AreThere}
use Rattle.run_report.specs.Step.{text_written, Does, DoesFront, DoesPart}
use Rattle.program_answers.specs.Answer.{WholeAnswer, refusal}
use Rattle.chuck_driver.specs.Answer.{answer_of, IsAnswerTo, IsAnswer}
use Rattle.chuck_driver.specs.Answer.{names_for, found_for}
use Rattle.chuck_driver.specs.Outcome.{WholeCall, DoesNothing, AnswersWhole, AnswersPart}
use Rattle.program_answers.specs.Ends.{LeavesTally}
use Rattle.chuck_driver.specs.Outcome.{AnswersFront}
use Rattle.command_inputs.specs.Reading.{HasFaultAmong}
use Rattle.program_answers.specs.Ends.{HasFailed}
use Rattle.chuck_driver.specs.Outcome.{CarriesOut, HasReadFault}
use Rattle.program_answers.specs.Ends.{KeepsTold}
use Rattle.chuck_driver.specs.Outcome.{HasWriteFault, LacksFile, StandsAtZero, IsPlain}
use Rattle.program_answers.specs.Ends.{Ends, whole, halted, part}
use Rattle.chuck_driver.specs.Outcome.{Concludes, unread, unstarted}
use Rattle.chuck_driver.specs.Outcome.{answered}
use Rattle.command_inputs.proofs.Names.{none_named}
use Rattle.command_inputs.proofs.Sensed.{all_say, one_saying}
use Rattle.command_inputs.proofs.Found.{found_are_there, missing_are_not_there}

-- whatever was found of its files but that one is missing, a command has an answer
found_answer : (command : Command) (sheet : List ℕ) (found : Found) (names : List (List ℕ))
    → (found ≡ OneIsMissing → ⊥)
    → (answer : WholeAnswer) × IsAnswerTo (Some command) sheet found names answer
found_answer command sheet OneIsMissing names some = absurd (some refl)
found_answer command sheet (TooLong name) names some = (refusal name (codes "too long"), refl)
found_answer command sheet (Contents files) names some =
    let say = all_say files in (answer_of command sheet names say.0, (say.0, say.1, refl))

-- what words answer that are no command
abbrev usage : WholeAnswer
usage = record { status = Usage; steps = []; tally = None }

-- none of the files of a command is missing where those that its words name are there
none_missing : (files : Files) (words : List (List ℕ)) → AreThere files (file_words words)
    → (command : Command) → found_for (Some command) files words ≡ OneIsMissing → ⊥
none_missing files words there Check e = missing_are_not_there files (file_words words) e there
none_missing files words there (Wakes n) e = missing_are_not_there files (file_words words) e there
none_missing files words there (Render n) e = missing_are_not_there files (file_words words) e there
none_missing files words there (Stats n) e = missing_are_not_there files (file_words words) e there
none_missing files words there Code e = missing_are_not_there files (file_words words) e there
none_missing files words there (Load seed) e = cc e

answer_at : (files : Files) (words : List (List ℕ)) (command : Option Command)
    → command_of words ≡ command → AreThere files (file_words words)
    → (answer : WholeAnswer) × IsAnswer files words answer
answer_at files words None none there = (usage, rw none refl)
answer_at files words (Some command) is there =
    let found = found_answer command (sheet_word words) (found_for (Some command) files words)
    (names_for (Some command) words) (none_missing files words there command) in
    (found.0, rw is found.1)

-- words have an answer where their files are there
pub an_answer : (files : Files) (words : List (List ℕ)) → AreThere files (file_words words)
    → (answer : WholeAnswer) × IsAnswer files words answer
an_answer files words there = answer_at files words (command_of words) refl there

same_to : (command : Option Command) (sheet : List ℕ) (found : Found) (names : List (List ℕ))
    (one other : WholeAnswer) → IsAnswerTo command sheet found names one
    → IsAnswerTo command sheet found names other → one ≡ other
same_to None sheet found names one other it it' = it ∙ sym it'
same_to (Some command) sheet OneIsMissing names one other it it' = absurd it
same_to (Some command) sheet (TooLong name) names one other it it' = it ∙ sym it'
same_to (Some command) sheet (Contents files) names one other it it' =
    it.2 ∙ ap (answer_of command sheet names) (one_saying files it.0 it'.0 it.1 it'.1) ∙ sym it'.2

-- two answers of the same words over the same files are one
pub one_answer : (files : Files) (words : List (List ℕ)) (one other : WholeAnswer)
    → IsAnswer files words one → IsAnswer files words other → one ≡ other
one_answer files words one other =
    same_to (command_of words) (sheet_word words) (found_for (command_of words) files words)
    (names_for (command_of words) words) one other

-- a command that lacks a file has none
none_reading : (files : Files) (words : List (List ℕ)) (command : Command) (answer : WholeAnswer)
    (names : List (List ℕ)) → (AreThere files (file_words words) → ⊥)
    → IsAnswerTo (Some command) (sheet_word words) (found_in files (file_words words)) names answer
    → ⊥
none_reading files words command answer names missing it =
    at (found_in files (file_words words)) refl
  where
    at : (found : Found) → found_in files (file_words words) ≡ found → ⊥
    at OneIsMissing e = rw e at it
    at (TooLong name) e = missing (found_are_there files (file_words words) (λ m. absurd (cc)))
    at (Contents fs) e = missing (found_are_there files (file_words words) (λ m. absurd (cc)))

none_lacking_to : (files : Files) (words : List (List ℕ)) (command : Command)
    (answer : WholeAnswer) → command_of words ≡ Some command
    → (AreThere files (file_words words) → ⊥)
    → IsAnswerTo (Some command) (sheet_word words) (found_for (Some command) files words)
    (names_for (Some command) words) answer → ⊥
none_lacking_to files words Check answer is missing it =
    none_reading files words Check answer (file_words words) missing it
none_lacking_to files words (Wakes n) answer is missing it =
    none_reading files words (Wakes n) answer (file_words words) missing it
none_lacking_to files words (Render n) answer is missing it =
    none_reading files words (Render n) answer (file_words words) missing it
none_lacking_to files words (Stats n) answer is missing it =
    none_reading files words (Stats n) answer (file_words words) missing it
none_lacking_to files words Code answer is missing it =
    none_reading files words Code answer (file_words words) missing it
none_lacking_to files words (Load seed) answer is missing it =
    missing (subst (AreThere files) (sym (none_named words seed is)) refl)

none_without : (files : Files) (words : List (List ℕ)) (command : Option Command)
    (answer : WholeAnswer) → command_of words ≡ command → command_of words ≢ None
    → (AreThere files (file_words words) → ⊥) → IsAnswer files words answer → ⊥
none_without files words None answer is some missing it = some is
none_without files words (Some command) answer is some missing it =
    none_lacking_to files words command answer is missing (rw is at it)

keeps_appended : (old new : Option (List ℕ)) (text : List ℕ) → Appends old new text → KeepsTold old new
keeps_appended None new text appends = tt
keeps_appended (Some before) new text appends = (text, appends)

never_risen : (before after : ℕ) → after ≡ 0 → HasRisen before after → ⊥
never_risen before after none (inl rose) = absurd (omega (arith, none, rose))
never_risen before after none (inr stands) = absurd (omega (arith, none, stands))

-- the call left the numbers that it was given
abbrev pub KeepsTally : WholeCall → Type 0
KeepsTally call = call.new_tally ≡ call.old_tally

-- how the call concluded, with what each end says of the status
pub data Concluded (call : WholeCall) (status : Status) : Type 0 where
  not_asked : command_of call.words ≡ None → status ≡ Usage → DoesNothing call × KeepsTally call
      → Concluded call status
  not_read : status ≡ ReadFault → HasReadFault call → DoesNothing call × KeepsTally call
      → Concluded call status
  not_begun : status ≡ Memory → DoesNothing call × KeepsTally call → Concluded call status
  carried : (answer : WholeAnswer) → IfSome call.files (λ fs. IsAnswer fs call.words answer)
      → IsPlain answer.status → status ≡ answer.status
      → Does answer.steps call.old.edges call.new.edges
      × LeavesTally status answer.tally call.old_tally call.new_tally → Concluded call status
  broken_off : (answer : WholeAnswer) → IfSome call.files (λ fs. IsAnswer fs call.words answer)
      → status ≡ Memory → DoesFront answer.steps call.old.edges call.new.edges × KeepsTally call
      → Concluded call status
  failed : (answer : WholeAnswer) → IfSome call.files (λ fs. IsAnswer fs call.words answer)
      → status ≡ WriteFault → DoesPart answer.steps call.old.edges call.new.edges × KeepsTally call
      → HasWriteFault call → Concluded call status

carried_by : (call : WholeCall) (answer : WholeAnswer) {status : Status}
    → IfSome call.files (λ fs. IsAnswer fs call.words answer) → IsPlain answer.status
    → Ends answer call.old call.new status
    → LeavesTally status answer.tally call.old_tally call.new_tally → Concluded call status
carried_by call answer it plain (whole does) left = carried answer it plain refl (does, left)
carried_by call answer it plain (halted does) left = broken_off answer it refl (does, left)
carried_by call answer it plain (part does fault) left = failed answer it refl (does, left) fault

pub concluded : (call : WholeCall) {status : Status} → Concludes call status → Concluded call status
concluded call (unread fault nothing same) = not_read refl fault (nothing, same)
concluded call (unstarted nothing same) = not_begun refl (nothing, same)
concluded call (answered answer it plain ends left) = carried_by call answer it plain ends left

-- what is so of all files is so of those that are told
told_each : (files : Option Files) (P : Files → Type 0) → ((fs : Files) → P fs) → IfSome files P
told_each None P each = tt
told_each (Some fs) P each = each fs

told_then : (files : Option Files) (P Q : Files → Type 0) → IfSome files P
    → ((fs : Files) → P fs → Q fs) → IfSome files Q
told_then None P Q it then = tt
told_then (Some fs) P Q it then = then fs it

module _ (call : WholeCall) (status : Status) where
  plain_is : (answer : WholeAnswer) (other : Status) → IsPlain answer.status
      → status ≡ answer.status → status ≡ other → IsPlain other
  plain_is answer other plain is e =
      let P : Status → Type 0 = IsPlain in subst P (sym is ∙ e) plain

  -- an answer of which this holds
  with_answer : (answer : WholeAnswer) (P : WholeAnswer → Type 0)
      → IfSome call.files (λ fs. IsAnswer fs call.words answer) → P answer
      → IfSome call.files (λ fs. (a : WholeAnswer) × IsAnswer fs call.words a × P a)
  with_answer answer P it fine =
      told_then call.files (λ fs. IsAnswer fs call.words answer)
      (λ fs. (a : WholeAnswer) × IsAnswer fs call.words a × P a) it
      (λ fs here. (answer, here, fine))

  whole_with : (answer : WholeAnswer) (planned : Status)
      → IfSome call.files (λ fs. IsAnswer fs call.words answer) → answer.status ≡ planned
      → Does answer.steps call.old.edges call.new.edges
      → LeavesTally planned answer.tally call.old_tally call.new_tally → AnswersWhole planned call
  whole_with answer planned it same does left =
      told_then call.files (λ fs. IsAnswer fs call.words answer)
      (λ fs. (a : WholeAnswer) × IsAnswer fs call.words a × (a.status ≡ planned)
      × Does a.steps call.old.edges call.new.edges
      × LeavesTally planned a.tally call.old_tally call.new_tally) it
      (λ fs here. (answer, here, same, does, left))

  -- a plain status is that of the answer, whose steps were all done
  pub whole_done : Concluded call status → (planned : Status) → IsPlain planned
      → status ≡ planned → AnswersWhole planned call
  whole_done (not_asked none is nothing) planned plain e =
      let P : Status → Type 0 = IsPlain in absurd (subst P (sym e ∙ is) plain)
  whole_done (not_read is fault nothing) planned plain e =
      let P : Status → Type 0 = IsPlain in absurd (subst P (sym e ∙ is) plain)
  whole_done (not_begun is nothing) planned plain e =
      let P : Status → Type 0 = IsPlain in absurd (subst P (sym e ∙ is) plain)
  whole_done (carried answer it fine is does) planned plain e =
      let L : Status → Type 0 = λ s. LeavesTally s answer.tally call.old_tally call.new_tally in
      whole_with answer planned it (sym is ∙ e) does.0 (subst L e does.1)
  whole_done (broken_off answer it is does) planned plain e =
      let P : Status → Type 0 = IsPlain in absurd (subst P (sym e ∙ is) plain)
  whole_done (failed answer it is does fault) planned plain e =
      let P : Status → Type 0 = IsPlain in absurd (subst P (sym e ∙ is) plain)

  pub read_fault : Concluded call status → status ≡ ReadFault → HasReadFault call
  read_fault (not_asked none is nothing) e = absurd (cc)
  read_fault (not_read is fault nothing) e = fault
  read_fault (not_begun is nothing) e = absurd (cc)
  read_fault (carried answer it plain is does) e = absurd (plain_is answer ReadFault plain is e)
  read_fault (broken_off answer it is does) e = absurd (cc)
  read_fault (failed answer it is does fault) e = absurd (cc)

  pub write_fault : Concluded call status → status ≡ WriteFault → HasWriteFault call
  write_fault (not_asked none is nothing) e = absurd (cc)
  write_fault (not_read is fault nothing) e = absurd (cc)
  write_fault (not_begun is nothing) e = absurd (cc)
  write_fault (carried answer it plain is does) e = absurd (plain_is answer WriteFault plain is e)
  write_fault (broken_off answer it is does) e = absurd (cc)
  write_fault (failed answer it is does fault) e = fault

  pub none_done : Concluded call status → status ≡ ReadFault → DoesNothing call
  none_done (not_asked none is nothing) e = nothing.0
  none_done (not_read is fault nothing) e = nothing.0
  none_done (not_begun is nothing) e = nothing.0
  none_done (carried answer it plain is does) e = absurd (plain_is answer ReadFault plain is e)
  none_done (broken_off answer it is does) e = absurd (cc)
  none_done (failed answer it is does fault) e = absurd (cc)

  pub part_done : Concluded call status → status ≡ WriteFault → AnswersPart call
  part_done (not_asked none is nothing) e = absurd (cc)
  part_done (not_read is fault nothing) e = absurd (cc)
  part_done (not_begun is nothing) e = absurd (cc)
  part_done (carried answer it plain is does) e = absurd (plain_is answer WriteFault plain is e)
  part_done (broken_off answer it is does) e = absurd (cc)
  part_done (failed answer it is does fault) e =
      with_answer answer (λ a. DoesPart a.steps call.old.edges call.new.edges) it does.0

  -- where the words have an answer, some of its first steps were done when memory was wanting
  abbrev IsFront : Files → Type 0
  IsFront fs = AreThere fs (file_words call.words)
      → (a : WholeAnswer) × IsAnswer fs call.words a
      × DoesFront a.steps call.old.edges call.new.edges

  pub front_done : Concluded call status → status ≡ Memory → AnswersFront call
  front_done (not_asked none is nothing) e = absurd (cc)
  front_done (not_read is fault nothing) e = absurd (cc)
  front_done (not_begun is nothing) e = told_each call.files IsFront (λ fs there.
      let has = an_answer fs call.words there in
      (has.0, has.1, ([], has.0.steps, refl, nothing.0)))
  front_done (carried answer it plain is does) e = absurd (plain_is answer Memory plain is e)
  front_done (broken_off answer it is does) e =
      told_then call.files (λ fs. IsAnswer fs call.words answer) IsFront it
      (λ fs here there. (answer, here, does.0))
  front_done (failed answer it is does fault) e = absurd (cc)

  none_lacking : (answer : WholeAnswer) (files : Option Files)
      → IfSome files (λ fs. IsAnswer fs call.words answer) → command_of call.words ≢ None
      → IsSomeAnd files (λ fs. AreThere fs (file_words call.words) → ⊥) → ⊥
  none_lacking answer None it some missing = missing
  none_lacking answer (Some fs) it some missing =
      none_without fs call.words (command_of call.words) answer refl some missing it

  -- where a file is missing nothing is done
  pub missing : Concluded call status → LacksFile call → (status ≡ ReadFault) ⊎ (status ≡ Memory)
  missing (not_asked none is nothing) lacks = absurd (lacks.0 none)
  missing (not_read is fault nothing) lacks = inl is
  missing (not_begun is nothing) lacks = inr is
  missing (carried answer it plain is does) lacks =
      absurd (none_lacking answer call.files it lacks.0 lacks.1)
  missing (broken_off answer it is does) lacks = inr is
  missing (failed answer it is does fault) lacks =
      absurd (none_lacking answer call.files it lacks.0 lacks.1)

  pub nothing_done : Concluded call status → LacksFile call → DoesNothing call
  nothing_done (not_asked none is nothing) lacks = nothing.0
  nothing_done (not_read is fault nothing) lacks = nothing.0
  nothing_done (not_begun is nothing) lacks = nothing.0
  nothing_done (carried answer it plain is does) lacks =
      absurd (none_lacking answer call.files it lacks.0 lacks.1)
  nothing_done (broken_off answer it is does) lacks =
      absurd (none_lacking answer call.files it lacks.0 lacks.1)
  nothing_done (failed answer it is does fault) lacks =
      absurd (none_lacking answer call.files it lacks.0 lacks.1)

  -- where no edge failed the answer is carried out
  pub complete : Concluded call status → (HasReadFault call → ⊥) → (HasWriteFault call → ⊥)
      → CarriesOut status call
  complete (not_asked none is nothing) reads writes =
      inl (whole_with usage status
      (told_each call.files (λ fs. IsAnswer fs call.words usage) (λ fs. rw none refl))
      (sym is) nothing.0
      (subst (λ s. LeavesTally s None call.old_tally call.new_tally) (sym is) nothing.1))
  complete (not_read is fault nothing) reads writes = absurd (reads fault)
  complete (not_begun is nothing) reads writes =
      inr (is, front_done (not_begun is nothing) is)
  complete (carried answer it plain is does) reads writes =
      inl (whole_with answer status it (sym is) does.0 does.1)
  complete (broken_off answer it is does) reads writes =
      inr (is, front_done (broken_off answer it is does) is)
  complete (failed answer it is does fault) reads writes = absurd (writes fault)

  abbrev AreZero : Files → Type 0
  AreZero fs = ((name : List ℕ) → Contains (names_read fs (file_words call.words)) name
      → call.new_reads name ≡ 0) × (call.new.write_faults ≡ 0) × (call.new.press_faults ≡ 0)

  none_read : (files : Option Files) → IsSomeAnd files AreZero
      → HasFaultAmong files (file_words call.words) call.old_reads call.new_reads → ⊥
  none_read None zero fault = zero
  none_read (Some fs) zero fault =
      never_risen (call.old_reads fault.0) (call.new_reads fault.0)
      (zero.0 fault.0 fault.1) fault.2

  none_failed : (files : Option Files) → IsSomeAnd files AreZero → HasFailed call.old call.new → ⊥
  none_failed None zero fault = zero
  none_failed (Some fs) zero (inl fault) =
      never_risen call.old.write_faults call.new.write_faults zero.1 fault
  none_failed (Some fs) zero (inr fault) =
      never_risen call.old.press_faults call.new.press_faults zero.2 fault

  -- where the counts stand at 0 no edge failed
  pub sure : Concluded call status → StandsAtZero call
      → (status ≢ ReadFault) × (status ≢ WriteFault)
  sure how zero = (
    λ e. none_read call.files zero (read_fault how e),
    λ e. none_failed call.files zero (write_fault how e),
  )

  -- a command is no matter of usage
  pub not_usage : (command : Command) → command_of call.words ≡ Some command
      → Concluded call status → status ≡ Usage → ⊥
  not_usage command some (not_asked none is nothing) e = cc
  not_usage command some (not_read is fault nothing) e = cc
  not_usage command some (not_begun is nothing) e = cc
  not_usage command some (carried answer it plain is does) e = plain_is answer Usage plain is e
  not_usage command some (broken_off answer it is does) e = cc
  not_usage command some (failed answer it is does fault) e = cc

  pub kept_text : Concluded call status → KeepsTold call.old.edges.text call.new.edges.text
  kept_text (not_asked none is nothing) =
      keeps_appended call.old.edges.text call.new.edges.text [] nothing.0.text
  kept_text (not_read is fault nothing) =
      keeps_appended call.old.edges.text call.new.edges.text [] nothing.0.text
  kept_text (not_begun is nothing) =
      keeps_appended call.old.edges.text call.new.edges.text [] nothing.0.text
  kept_text (carried answer it plain is does) =
      keeps_appended call.old.edges.text call.new.edges.text (text_written answer.steps) does.0.text
  kept_text (broken_off answer it is does) =
      keeps_appended call.old.edges.text call.new.edges.text (text_written does.0.0) does.0.3.text
  kept_text (failed answer it is does fault) =
      keeps_appended call.old.edges.text call.new.edges.text (text_written (does.0.0 ++ does.0.3))
      does.0.6.text

  kept_by : (s : Status) (numbers : Option Tally) (given left : Tally) → s ≢ Done → s ≢ Trapped
      → LeavesTally s numbers given left → left ≡ given
  kept_by Done numbers given left done trapped leaves = absurd (done refl)
  kept_by Trapped numbers given left done trapped leaves = absurd (trapped refl)
  kept_by Usage numbers given left done trapped leaves = leaves
  kept_by Refused numbers given left done trapped leaves = leaves
  kept_by ReadFault numbers given left done trapped leaves = leaves
  kept_by WriteFault numbers given left done trapped leaves = leaves
  kept_by Memory numbers given left done trapped leaves = leaves

  -- only a run that was reported whole leaves its numbers
  pub kept_tally : Concluded call status → status ≢ Done → status ≢ Trapped → KeepsTally call
  kept_tally (not_asked none is nothing) done trapped = nothing.1
  kept_tally (not_read is fault nothing) done trapped = nothing.1
  kept_tally (not_begun is nothing) done trapped = nothing.1
  kept_tally (carried answer it plain is does) done trapped =
      kept_by status answer.tally call.old_tally call.new_tally done trapped does.1
  kept_tally (broken_off answer it is does) done trapped = does.1
  kept_tally (failed answer it is does fault) done trapped = does.1
