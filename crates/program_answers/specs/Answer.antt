-- What a program answers, and a file that is refused: a status and the steps at the edges.
use Rattle.std.specs.Prelude.{ℕ, List, [], ◌∷◌, ◌++◌, None, codes, decimal}
use Rattle.ck_typed.specs.Tree.{Program}
use Rattle.type_table.specs.Answer as typing
use Rattle.type_table.specs.declared.fault.FaultKind.{FaultKind}
use Rattle.type_table.specs.declared.fault.FaultKind.TheVariants.{UnknownName, Duplicate, Mismatch}
use Rattle.type_table.specs.declared.fault.FaultKind.TheVariants.{Arguments, NotAssignable}
use Rattle.type_table.specs.declared.fault.FaultKind.TheVariants.{NotCallable, BadClass, BadPlace}
use Rattle.ck_meaning.specs.Replay.{run, run_code}
use Rattle.ck_run.specs.Report.{name_of}
use Rattle.code_listing.specs.Listing.{listing_of}
pub use Rattle.run_report.specs.Answer.{WholeAnswer, run_answer}
use Rattle.command_inputs.specs.declared.commands.Command.{Command}
use Rattle.command_inputs.specs.declared.commands.Command.TheVariants.{Check, Wakes, Render, Stats, Code, Load}
use Rattle.run_report.specs.declared.report.Report.{Report}
use Rattle.run_report.specs.declared.report.Report.TheVariants as report
use Rattle.run_report.specs.declared.status.Status.TheVariants.{Done, Refused}
use Rattle.run_report.specs.Step.{Step, Write}
use Rattle.program_answers.specs.Codes.{scheme_of}

-- the one line of a refusal: the file, and what is wrong
abbrev pub refusal_line : List ℕ → List ℕ → List ℕ
refusal_line name wrong = name ++ (codes ": " ++ (wrong ++ codes "\n"))

-- a file is refused by one line
abbrev pub refusal : List ℕ → List ℕ → WholeAnswer
refusal name wrong =
    record { status = Refused; steps = Write (refusal_line name wrong) ∷ []; tally = None }

-- the line of a fault: the file, the line, and what is wrong
abbrev pub fault_line : List ℕ → ℕ → List ℕ → List ℕ
fault_line name line wrong =
    name ++ (codes ":" ++ (decimal line ++ (codes ": " ++ (wrong ++ codes "\n"))))

-- a file is refused at a line
abbrev pub refusal_at : List ℕ → ℕ → List ℕ → WholeAnswer
refusal_at name line wrong =
    record { status = Refused; steps = Write (fault_line name line wrong) ∷ []; tally = None }

-- a file is accepted
abbrev pub ok_line : List ℕ → List ℕ
ok_line name = name ++ codes ": ok\n"

-- a line for each of these files
abbrev pub ok_steps : List (List ℕ) → List Step
ok_steps [] = []
ok_steps (name ∷ names) = Write (ok_line name) ∷ ok_steps names

-- these files are accepted
abbrev pub acceptance : List (List ℕ) → WholeAnswer
acceptance names = record { status = Done; steps = ok_steps names; tally = None }

-- what the run of a program answers; its instructions are those of its code
abbrev pub program_answer : Report → (samples : ℕ) → (sheet : List ℕ) → List (List ℕ) →
    Program → WholeAnswer
program_answer report samples sheet names program =
    run_answer report samples sheet names (run program)
    (run_code (scheme_of program) samples).begun

-- what `code` answers
abbrev pub listing_answer : Program → WholeAnswer
listing_answer program =
    record { status = Done; steps = Write (listing_of (scheme_of program)) ∷ []; tally = None }

-- the samples of the run of a load: a second
abbrev pub load_samples : ℕ
load_samples = 44_100

-- what is wrong with a program's types, as its line says it
abbrev pub type_text : FaultKind → List ℕ
type_text UnknownName = codes "type UnknownName"
type_text Duplicate = codes "type Duplicate"
type_text Mismatch = codes "type Mismatch"
type_text Arguments = codes "type Arguments"
type_text NotAssignable = codes "type NotAssignable"
type_text NotCallable = codes "type NotCallable"
type_text BadClass = codes "type BadClass"
type_text BadPlace = codes "type BadPlace"

-- the refusal of a program for its types. Its first fault stands in one of the files, by the contract
-- of `check`, so that the empty name of a number past them never comes
abbrev pub type_refusal : List (List ℕ) → typing.Fault → WholeAnswer
type_refusal names why = refusal_at (name_of names why.file) why.line (type_text why.kind)

-- what a command answers over a program, where its sheet has this name
abbrev pub answer_of_program : Command → (sheet : List ℕ) → List (List ℕ) → Program → WholeAnswer
answer_of_program Check sheet names program = acceptance names
answer_of_program (Wakes samples) sheet names program =
    program_answer report.Wakes samples sheet names program
answer_of_program (Render samples) sheet names program =
    program_answer report.Text samples sheet names program
answer_of_program (Stats samples) sheet names program =
    program_answer report.Numbers samples sheet names program
answer_of_program Code sheet names program = listing_answer program
answer_of_program (Load seed) sheet names program =
    program_answer report.Numbers load_samples sheet names program
