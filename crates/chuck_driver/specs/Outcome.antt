-- A call of the program: what its edges told before and after, what of the answer was done, and
-- how its parts end.
use Rattle.std.specs.Prelude.{◌≡◌, ◌≢◌, ◌⊎◌, ℕ, List, [], String}
use Rattle.std.specs.Prelude.{Option, None, IfSome, IsSomeAnd, Contains}
use Rattle.std.specs.declared.alloc.Global.{Global}
use Rattle.ck_edges.specs.declared.shelf.Shelf as shelves
use Rattle.ck_edges.specs.declared.sink.Sink as sinks
use Rattle.ck_edges.specs.declared.press.Press as presses
use Rattle.ck_edges.specs.Shelf.{Files}
use Rattle.chuck_vm.specs.declared.tally.Tally.{Tally}
use Rattle.command_inputs.specs.declared.commands.Command.{Command}
use Rattle.run_report.specs.declared.status.Status.{Status}
use Rattle.run_report.specs.declared.status.Status.TheVariants.{Done, Usage, Refused, Trapped}
use Rattle.run_report.specs.declared.status.Status.TheVariants.{ReadFault, WriteFault, Memory}
use Rattle.command_inputs.specs.Words.{words_of, command_of, file_words}
use Rattle.command_inputs.specs.Reading.{names_read, AreThere, HasFaultAmong}
use Rattle.command_inputs.specs.Sense.{Sense, AllSay}
use Rattle.run_report.specs.Step.{Does, DoesFront, DoesPart}
use Rattle.program_answers.specs.Answer.{WholeAnswer}
use Rattle.program_answers.specs.Ends.{Moment, moment_of, HasFailed, Ends, LeavesTally}
use Rattle.chuck_driver.specs.Answer.{answer_of, IsAnswer}

-- a call of the program: its words, the files that the shelf tells, how often a read of each name
-- had failed before it and after it, those two moments of its other edges, and the numbers that it
-- was given and that it left
pub record WholeCall : Type 0 where
  pub words : List (List ℕ)
  pub files : Option Files
  pub old_reads : List ℕ → ℕ
  pub new_reads : List ℕ → ℕ
  pub old : Moment
  pub new : Moment
  pub old_tally : Tally
  pub new_tally : Tally

-- the call with these words and edges, which it left so
abbrev pub whole_call : {S O P : Type 0} → shelves.Ghosts S → sinks.Ghosts O → presses.Ghosts P
    → List (String Global) → S → O → P → Tally → S → O → P → Tally → WholeCall
whole_call S O P words shelf out press tally shelf' out' press' tally' = record {
  words = words_of words;
  files = S.files shelf;
  old_reads = S.read_faults shelf;
  new_reads = S.read_faults shelf';
  old = moment_of O P out press;
  new = moment_of O P out' press';
  old_tally = tally;
  new_tally = tally';
}

-- nothing was written
abbrev pub DoesNothing : WholeCall → Type 0
DoesNothing call = Does [] call.old.edges call.new.edges

-- the answer to the words over the files that are told has this status, all its steps were done,
-- and the numbers of its run were left
abbrev pub AnswersWhole : Status → WholeCall → Type 0
AnswersWhole status call = IfSome call.files (λ files.
    (answer : WholeAnswer) × IsAnswer files call.words answer × (answer.status ≡ status)
    × Does answer.steps call.old.edges call.new.edges
    × LeavesTally status answer.tally call.old_tally call.new_tally)

-- some of the first steps of the answer were done, and the next one in part
abbrev pub AnswersPart : WholeCall → Type 0
AnswersPart call = IfSome call.files (λ files.
    (answer : WholeAnswer) × IsAnswer files call.words answer
    × DoesPart answer.steps call.old.edges call.new.edges)

-- where there is an answer, some of its first steps were done, each of them whole
abbrev pub AnswersFront : WholeCall → Type 0
AnswersFront call = IfSome call.files (λ files. AreThere files (file_words call.words)
    → (answer : WholeAnswer) × IsAnswer files call.words answer
    × DoesFront answer.steps call.old.edges call.new.edges)

-- the answer was carried out whole, or memory was wanting after some of its first steps
abbrev pub CarriesOut : Status → WholeCall → Type 0
CarriesOut status call = AnswersWhole status call ⊎ ((status ≡ Memory) × AnswersFront call)

-- a read failed of a file that the words name and that is to be read
abbrev pub HasReadFault : WholeCall → Type 0
HasReadFault call = HasFaultAmong call.files (file_words call.words) call.old_reads call.new_reads

-- a write failed in the call, or a call of the press
abbrev pub HasWriteFault : WholeCall → Type 0
HasWriteFault call = HasFailed call.old call.new

-- the words are a command, and one of the files that it reads isn't there
abbrev pub LacksFile : WholeCall → Type 0
LacksFile call = (command_of call.words ≢ None)
    × IsSomeAnd call.files (λ files. AreThere files (file_words call.words) → ⊥)

-- the files are told, and after the call the counts of faults stand at 0: of the reads of each name
-- that is to be read, of writes, and of calls of the press
abbrev pub StandsAtZero : WholeCall → Type 0
StandsAtZero call = IsSomeAnd call.files (λ files.
    ((name : List ℕ) → Contains (names_read files (file_words call.words)) name
    → call.new_reads name ≡ 0) × (call.new.write_faults ≡ 0) × (call.new.press_faults ≡ 0))

-- a status that an answer to a command has
abbrev pub IsPlain : Status → Type 0
IsPlain Done = Unit {0}
IsPlain Refused = Unit {0}
IsPlain Trapped = Unit {0}
IsPlain Usage = ⊥
IsPlain ReadFault = ⊥
IsPlain WriteFault = ⊥
IsPlain Memory = ⊥

-- how a call whose words are a command ended: a read failed, or memory was wanting before the first
-- step, or its answer was carried out as far as the edges let it
pub data Concludes (call : WholeCall) : Status → Type 0 where
  unread : HasReadFault call → DoesNothing call → call.new_tally ≡ call.old_tally
      → Concludes call ReadFault
  unstarted : DoesNothing call → call.new_tally ≡ call.old_tally → Concludes call Memory
  answered : (answer : WholeAnswer) {status : Status}
      → IfSome call.files (λ files. IsAnswer files call.words answer) → IsPlain answer.status
      → Ends answer call.old call.new status
      → LeavesTally status answer.tally call.old_tally call.new_tally → Concludes call status

-- how a command ended over these files of these names, which were all read: its answer was carried
-- out as far as the edges let it
pub record Answered (command : Command) (sheet : List ℕ) (names files : List (List ℕ))
    (old new : Moment) (given left : Tally) (status : Status) : Type 0 where
  pub senses : List Sense
  pub say : AllSay files senses
  pub plain : IsPlain (answer_of command sheet names senses).status
  pub ends : Ends (answer_of command sheet names senses) old new status
  pub leaves : LeavesTally status (answer_of command sheet names senses).tally given left
