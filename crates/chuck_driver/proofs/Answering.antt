-- What a command answers over what its files say.
use Rattle.std.proofs.Common.{◌≡◌, ℕ, zero, suc, ◌<◌, List, [], ◌∷◌, String, Option, Some, None}
use Rattle.std.proofs.Common.{Bool, true, false, if◌then◌else◌, length, map, refl, codes}
use Rattle.std.proofs.Common.{sym, ap, ◌∙◌, subst, arith}
use Rattle.std.specs.Prelude.{slice_get, is_some, IfSome}
use Rattle.std.specs.List.{list_any}
use Rattle.std.specs.String.{string_bytes}
use Rattle.std.specs.declared.alloc.Global.{Global}
use Rattle.ck_meaning.specs.Replay.{run}
use Rattle.ck_syntax.specs.declared.file.File.{File}
use Rattle.ck_syntax.specs.Tree as tree
use Rattle.ck_syntax.specs.View.{view_file}
use Rattle.ck_typed.specs.Tree.{Program}
use Rattle.program_laws.specs.Programs.{checked}
use Rattle.type_table.specs.Answer as typing
use Rattle.type_table.specs.declared.fault.FaultKind.{FaultKind}
use Rattle.type_table.specs.declared.fault.TypeFault.TheVariants.{Typing}
use Rattle.chuck_vm.specs.declared.tally.Tally.{Tally}
use Rattle.command_inputs.specs.declared.commands.Command.{Command}
use Rattle.command_inputs.specs.declared.commands.Command.TheVariants.{Check, Wakes, Render, Stats, Code, Load}
use Rattle.run_report.specs.declared.report.Report.{Report}
use Rattle.run_report.specs.declared.report.Report.TheVariants.{Wakes as Slices, Text, Numbers}
use Rattle.run_report.specs.declared.status.Status.{Status}
use Rattle.run_report.specs.declared.status.Status.TheVariants.{Done, Trapped, Memory}
use Rattle.program_answers.specs.Answer.{WholeAnswer, refusal, refusal_at}
use Rattle.chuck_driver.specs.Answer.{first_refusal, first_unbuilt, unbuilt}
use Rattle.chuck_driver.specs.Unbuilt.{IsUnbuilt}
use Rattle.built_forms.specs.Built.{is_built}
use Rattle.program_answers.specs.Answer.{program_answer, load_samples, type_refusal}
use Rattle.program_answers.specs.Answer.{answer_of_program}
use Rattle.chuck_driver.specs.Answer.{answer_of_typing, trees_of, answer_of_trees, answer_of}
use Rattle.chuck_driver.specs.Answer.{or_answer}
use Rattle.program_answers.specs.Ends.{Moment, Ends, LeavesTally}
use Rattle.chuck_driver.specs.Outcome.{Answered, IsPlain}
use Rattle.command_inputs.specs.Sense.{Sense, HasTree, HasFault, AllSay}
use Rattle.command_inputs.specs.Senses.{FirstRefused, is_first, is_later, said, wrong_text}
use Rattle.command_inputs.specs.declared.sense.Wrong.{Wrong}
use Rattle.command_inputs.specs.Words.{words_of}
use Rattle.chuck_driver.proofs.Carried.{item_at}
use Rattle.chuck_driver.proofs.Said.{refused_senses, none_refused}
use Rattle.command_inputs.proofs.Sensed.{all_say}
use Rattle.program_answers.proofs.Steps.{wanting, none_left, memory_left}

plain_status : (trapped : Bool) → IsPlain (if trapped then Trapped else Done)
plain_status true = tt
plain_status false = tt

plain_run : (report : Report) (samples : ℕ) (sheet : List ℕ) (names : List (List ℕ))
    (program : Program) → IsPlain (program_answer report samples sheet names program).status
plain_run Slices samples sheet names program =
    plain_status (list_any (λ wake. is_some wake.trap) (run program samples).wakes)
plain_run Text samples sheet names program =
    plain_status (list_any (λ wake. is_some wake.trap) (run program samples).wakes)
plain_run Numbers samples sheet names program =
    plain_status (list_any (λ wake. is_some wake.trap) (run program samples).wakes)

plain_program : (command : Command) (sheet : List ℕ) (names : List (List ℕ)) (program : Program)
    → IsPlain (answer_of_program command sheet names program).status
plain_program Check sheet names program = tt
plain_program (Wakes samples) sheet names program = plain_run Slices samples sheet names program
plain_program (Render samples) sheet names program = plain_run Text samples sheet names program
plain_program (Stats samples) sheet names program = plain_run Numbers samples sheet names program
plain_program Code sheet names program = tt
plain_program (Load seed) sheet names program = plain_run Numbers load_samples sheet names program

plain_refusal : (names : List (List ℕ)) (why : typing.Fault)
    → IsPlain (type_refusal names why).status
plain_refusal names why = tt

plain_or : (o : Option WholeAnswer) (answer : WholeAnswer)
    → ((a : WholeAnswer) → o ≡ Some a → IsPlain a.status) → IsPlain answer.status
    → IsPlain (or_answer o answer).status
plain_or None answer refused fine = fine
plain_or (Some a) answer refused fine = refused a refl

plain_files : (names : List (List ℕ)) (trees : List tree.File) (a : WholeAnswer)
    → first_unbuilt names trees ≡ Some a → IsPlain a.status
plain_files [] [] a is = absurd (cc)
plain_files [] (x ∷ trees) a is = absurd (cc)
plain_files (n ∷ names) [] a is = absurd (cc)
plain_files (n ∷ names) (x ∷ trees) a is = go (is_built x) is (plain_files names trees a)
  where
    some_is : {x y : WholeAnswer} → Some x ≡ Some y → x ≡ y
    some_is e = cc

    go : (b : Bool) → (if b then first_unbuilt names trees else Some (refusal n (codes "not built"))) ≡ Some a
        → (first_unbuilt names trees ≡ Some a → IsPlain a.status) → IsPlain a.status
    go true at rest = rest at
    go false at rest = subst (λ (b : WholeAnswer). IsPlain b.status) (some_is at) tt

plain_unbuilt : (command : Command) (names : List (List ℕ)) (trees : List tree.File) (a : WholeAnswer)
    → unbuilt command names trees ≡ Some a → IsPlain a.status
plain_unbuilt Check names trees a is = absurd (cc)
plain_unbuilt (Wakes samples) names trees a is = plain_files names trees a is
plain_unbuilt (Render samples) names trees a is = plain_files names trees a is
plain_unbuilt (Stats samples) names trees a is = plain_files names trees a is
plain_unbuilt Code names trees a is = plain_files names trees a is
plain_unbuilt (Load seed) names trees a is = plain_files names trees a is

plain_typing : (command : Command) (sheet : List ℕ) (names : List (List ℕ)) (trees : List tree.File)
    (found : typing.Answer Program)
    → IsPlain (answer_of_typing command sheet names trees found).status
plain_typing command sheet names trees (typing.gives program) =
    plain_or (unbuilt command names trees) (answer_of_program command sheet names program)
    (plain_unbuilt command names trees) (plain_program command sheet names program)
plain_typing command sheet names trees (typing.refused why) = plain_refusal names why

plain_trees : (command : Command) (sheet : List ℕ) (names : List (List ℕ)) (senses : List Sense)
    → IsPlain (answer_of_trees command sheet names senses).status
plain_trees command sheet names senses =
    plain_typing command sheet names (trees_of senses) (checked (trees_of senses))

-- the trees that were read
pub trees_said : (trees : List File) → trees_of (said trees) ≡ map view_file trees
trees_said [] = refl
trees_said (t ∷ trees) = ap (λ rest. view_file t ∷ rest) (trees_said trees)

-- what is checked of them
pub checked_said : (trees : List File) (found : typing.Answer Program)
    → checked (map view_file trees) ≡ found → checked (trees_of (said trees)) ≡ found
checked_said trees found is =
    ap (λ (files : List tree.File). checked files) (trees_said trees) ∙ is

-- what is to be run of them
pub all_built : (command : Command) (names : List (List ℕ)) (trees : List File)
    → IsUnbuilt command trees None → unbuilt command names (trees_of (said trees)) ≡ None
all_built command names trees none = ap (unbuilt command names) (trees_said trees) ∙ none names

pub one_unbuilt : (command : Command) (names : List (List ℕ)) (trees : List File) (place : ℕ) (name : List ℕ)
    → IsUnbuilt command trees (Some place) → slice_get names place ≡ Some name
    → unbuilt command names (trees_of (said trees)) ≡ Some (refusal name (codes "not built"))
one_unbuilt command names trees place name first at =
    ap (unbuilt command names) (trees_said trees) ∙ first.1 names name at

-- the first fault of the types, as the code names the file, the line and the kind
pub refused_types : (command : Command) (sheet : List ℕ) (names : List (List ℕ))
    (trees : List tree.File) (found : typing.Answer Program)
    (old new : Moment) (status : Status) (file there line on : ℕ) (kind other : FaultKind)
    → there ≡ file → on ≡ line → other ≡ kind → found ≡ typing.fault (Typing file line kind)
    → Ends (type_refusal names (typing.fault_of (Typing there on other))) old new status
    → Ends (answer_of_typing command sheet names trees found) old new status
refused_types command sheet names trees found old new status file there line on kind other
    file_is line_is kind_is is ends =
    let E : typing.Fault → Type 0 = λ why. Ends (type_refusal names why) old new status in
    let F : ℕ → Type 0 = λ f. E (typing.fault_of (Typing f on other)) in
    let L : ℕ → Type 0 = λ l. E (typing.fault_of (Typing file l other)) in
    let K : FaultKind → Type 0 = λ k. E (typing.fault_of (Typing file line k)) in
    let A : typing.Answer Program → Type 0 = λ a.
    Ends (answer_of_typing command sheet names trees a) old new status in
    subst A (sym is) (subst K kind_is (subst L line_is (subst F file_is ends)))

plain_first : (names : List (List ℕ)) (senses : List Sense) (a : WholeAnswer)
    → first_refusal names senses ≡ Some a → IsPlain a.status
plain_first [] senses a is = absurd (cc)
plain_first (n ∷ names) [] a is = absurd (cc)
plain_first (n ∷ names) (HasTree x ∷ senses) a is = plain_first names senses a is
plain_first (n ∷ names) (HasFault line wrong ∷ senses) a is =
    subst (λ (b : WholeAnswer). IsPlain b.status) (some_is is) tt
  where
    some_is : {x y : WholeAnswer} → Some x ≡ Some y → x ≡ y
    some_is e = cc

-- an answer has a plain status
pub plain_answer : (command : Command) (sheet : List ℕ) (names : List (List ℕ)) (senses : List Sense)
    → IsPlain (answer_of command sheet names senses).status
plain_answer command sheet names senses =
    plain_or (first_refusal names senses) (answer_of_trees command sheet names senses)
    (plain_first names senses) (plain_trees command sheet names senses)

module _ (command : Command) (sheet : List ℕ) (names files : List (List ℕ)) (old new : Moment)
    (given left : Tally) where
  -- all files have trees
  pub answered_trees : (trees : List File) {status : Status} → AllSay files (said trees)
      → length trees ≡ length names
      → Ends (answer_of_trees command sheet names (said trees)) old new status
      → LeavesTally status (answer_of_trees command sheet names (said trees)).tally given left
      → Answered command sheet names files old new given left status
  answered_trees trees {status} say same ends leaves =
      let P : Option WholeAnswer → Type 0 = λ o.
      Ends (or_answer o (answer_of_trees command sheet names (said trees))) old new status in
      let L : Option WholeAnswer → Type 0 = λ o. LeavesTally status
      (or_answer o (answer_of_trees command sheet names (said trees))).tally given left in
      record {
        senses = said trees;
        say = say;
        plain = plain_answer command sheet names (said trees);
        ends = subst P (sym (none_refused names trees same)) ends;
        leaves = subst L (sym (none_refused names trees same)) leaves;
      }

  -- a file is refused
  pub answered_refusal : (name : List ℕ) (place line : ℕ) (wrong : List ℕ) {status : Status}
      → FirstRefused files place line wrong → slice_get names place ≡ Some name
      → Ends (refusal_at name line wrong) old new status → left ≡ given
      → Answered command sheet names files old new given left status
  answered_refusal name place line wrong {status} first is ends kept =
      let senses = refused_senses files names name place line wrong first is in
      let P : Option WholeAnswer → Type 0 = λ o.
      Ends (or_answer o (answer_of_trees command sheet names senses.0)) old new status in
      let L : Option WholeAnswer → Type 0 = λ o. LeavesTally status
      (or_answer o (answer_of_trees command sheet names senses.0)).tally given left in
      record {
        senses = senses.0;
        say = senses.1;
        plain = plain_answer command sheet names senses.0;
        ends = subst P (sym senses.2) ends;
        leaves = subst L (sym senses.2)
            (subst (λ t. LeavesTally status None given t) (sym kept) (none_left status given));
      }

pub first_within : {files : List (List ℕ)} {place line : ℕ} {wrong : List ℕ}
    → FirstRefused files place line wrong → place < length files
first_within (is_first says) = omega arith
first_within (is_later says first) = omega (arith, first_within first)

pub name_at : (names : List (String Global)) (place : ℕ) (name : String Global)
    → slice_get names place ≡ Some name
    → slice_get (words_of names) place ≡ Some (string_bytes name)
name_at [] place name is = absurd (cc)
name_at (n ∷ names) zero name is =
    let same : n ≡ name = cc in ap (λ x. Some (string_bytes x)) same
name_at (n ∷ names) (suc place) name is = name_at names place name is

-- the file at a place is refused, as the code names the place, the line and what is wrong
pub answered_source : (command : Command) (sheet : List ℕ) (names : List (String Global))
    (files : List (List ℕ)) (old new : Moment) (given : Tally) (status : Status)
    (E : WholeAnswer → Type 0) → ((answer : WholeAnswer) → E answer → Ends answer old new status)
    → (place there line on : ℕ) (wrong other : Wrong)
    → there ≡ place → on ≡ line → other ≡ wrong → place < length names
    → FirstRefused files place line (wrong_text wrong)
    → IfSome (slice_get names there) (λ name.
    E (refusal_at (string_bytes name) on (wrong_text other)))
    → Answered command sheet (words_of names) files old new given given status
answered_source command sheet names files old new given status E lift place there line on wrong other
    place_is line_is wrong_is within first ends =
    let item = item_at names place within in
    let A : String Global → ℕ → Wrong → Type 0 = λ name l w.
    E (refusal_at (string_bytes name) l (wrong_text w)) in
    let P : ℕ → Type 0 = λ p. IfSome (slice_get names p) (λ name. A name on other) in
    let Q : Option (String Global) → Type 0 = λ o. IfSome o (λ name. A name on other) in
    let R : ℕ → Type 0 = λ l. A item.0 l other in
    let S : Wrong → Type 0 = λ w. A item.0 line w in
    answered_refusal command sheet (words_of names) files old new given given (string_bytes item.0)
    place line
    (wrong_text wrong) first (name_at names place item.0 item.1)
    (lift (refusal_at (string_bytes item.0) line (wrong_text wrong))
    (subst S wrong_is (subst R line_is (subst Q item.1 (subst P place_is ends))))) refl

-- memory was wanting before the first step
pub answered_unstarted : (command : Command) (sheet : List ℕ) (names files : List (List ℕ))
    (at : Moment) (given : Tally) (status : Status) → status ≡ Memory
    → Answered command sheet names files at at given given status
answered_unstarted command sheet names files at given status is =
    let say = all_say files in
    record {
      senses = say.0;
      say = say.1;
      plain = plain_answer command sheet names say.0;
      ends = wanting (answer_of command sheet names say.0) at status is;
      leaves = memory_left (answer_of command sheet names say.0).tally given status is;
    }
