-- The whole answer to a list of words over a map of files: a status and the steps at the edges.
use Rattle.std.specs.Prelude.{◌≡◌, ℕ, List, [], ◌∷◌, Option, Some, None, if◌then◌else◌, codes}
use Rattle.ck_syntax.specs.Tree.{File}
use Rattle.ck_typed.specs.Tree.{Program}
use Rattle.built_forms.specs.Built.{is_built}
use Rattle.type_table.specs.Answer as typing
use Rattle.program_laws.specs.Programs.{checked}
use Rattle.ck_edges.specs.Shelf.{Files}
use Rattle.load_text.specs.LoadText.{load_text}
use Rattle.command_inputs.specs.declared.commands.Command.{Command}
use Rattle.command_inputs.specs.declared.commands.Command.TheVariants.{Check, Load}
use Rattle.run_report.specs.declared.status.Status.TheVariants.{Usage}
use Rattle.command_inputs.specs.Words.{command_of, file_words, sheet_word}
use Rattle.command_inputs.specs.Reading.{Found, OneIsMissing, TooLong, Contents, found_in}
use Rattle.command_inputs.specs.Sense.{Sense, HasTree, HasFault, AllSay}
use Rattle.program_answers.specs.Answer.{WholeAnswer, refusal, refusal_at, type_refusal}
use Rattle.program_answers.specs.Answer.{answer_of_program}

-- the refusal of the first of these files that is refused
abbrev pub first_refusal : List (List ℕ) → List Sense → Option WholeAnswer
first_refusal (name ∷ names) (HasFault line wrong ∷ senses) = Some (refusal_at name line wrong)
first_refusal (name ∷ names) (HasTree x ∷ senses) = first_refusal names senses
first_refusal names senses = None

-- the refusal of the first of these files with a form that isn't run yet
abbrev pub first_unbuilt : List (List ℕ) → List File → Option WholeAnswer
first_unbuilt (name ∷ names) (x ∷ trees) =
    if is_built x then first_unbuilt names trees else Some (refusal name (codes "not built"))
first_unbuilt names trees = None

-- by a command that runs the files
abbrev pub unbuilt : Command → List (List ℕ) → List File → Option WholeAnswer
unbuilt Check names trees = None
unbuilt command names trees = first_unbuilt names trees

abbrev pub or_answer : Option WholeAnswer → WholeAnswer → WholeAnswer
or_answer None answer = answer
or_answer (Some refused) answer = refused

-- what a command answers where the files are a program, or have this first fault of its types
abbrev pub answer_of_typing : Command → (sheet : List ℕ) → List (List ℕ) → List File →
    typing.Answer Program → WholeAnswer
answer_of_typing command sheet names trees (typing.gives program) =
    or_answer (unbuilt command names trees) (answer_of_program command sheet names program)
answer_of_typing command sheet names trees (typing.refused why) = type_refusal names why

-- the trees that files say
abbrev pub trees_of : List Sense → List File
trees_of [] = []
trees_of (HasTree x ∷ senses) = x ∷ trees_of senses
trees_of (HasFault line wrong ∷ senses) = trees_of senses

-- what a command answers where no file is refused by its tokens or its grammar
abbrev pub answer_of_trees : Command → (sheet : List ℕ) → List (List ℕ) → List Sense → WholeAnswer
answer_of_trees command sheet names senses =
    answer_of_typing command sheet names (trees_of senses) (checked (trees_of senses))

-- what a command answers over files of these names, which say so
abbrev pub answer_of : Command → (sheet : List ℕ) → List (List ℕ) → List Sense → WholeAnswer
answer_of command sheet names senses =
    or_answer (first_refusal names senses) (answer_of_trees command sheet names senses)

-- what a command answers for what was found of the files of these names
abbrev pub IsAnswerTo : Option Command → (sheet : List ℕ) → Found → List (List ℕ) → WholeAnswer →
    Type 0
IsAnswerTo None sheet found names answer =
    answer ≡ record { status = Usage; steps = []; tally = None }
IsAnswerTo (Some command) sheet OneIsMissing names answer = ⊥
IsAnswerTo (Some command) sheet (TooLong name) names answer =
    answer ≡ refusal name (codes "too long")
IsAnswerTo (Some command) sheet (Contents files) names answer =
    (senses : List Sense) × AllSay files senses × (answer ≡ answer_of command sheet names senses)

-- the names of a command's files; that of a load is its own
abbrev pub names_for : Option Command → (words : List (List ℕ)) → List (List ℕ)
names_for (Some (Load seed)) words = codes "load" ∷ []
names_for command words = file_words words

-- and what is found of them; the one of a load is the text that its seed gives
abbrev pub found_for : Option Command → Files → (words : List (List ℕ)) → Found
found_for (Some (Load seed)) files words = Contents (load_text seed ∷ [])
found_for command files words = found_in files (file_words words)

-- what the words answer over the files; where a file that is to be read is missing, there is no
-- answer
abbrev pub IsAnswer : Files → List (List ℕ) → WholeAnswer → Type 0
IsAnswer files words answer =
    IsAnswerTo (command_of words) (sheet_word words) (found_for (command_of words) files words)
    (names_for (command_of words) words) answer
