-- How a call concludes over what was read of its files.
use Rattle.std.proofs.Common.{◌≡◌, ℕ, zero, suc, ◌<◌, List, [], ◌∷◌, length, Option, Some}
use Rattle.std.proofs.Common.{None, IfSome, String, codes, refl, sym, subst, arith}
use Rattle.std.specs.List.{slice_get}
use Rattle.std.specs.String.{string_bytes}
use Rattle.std.specs.declared.alloc.Global.{Global}
use Rattle.ck_edges.specs.Shelf.{Files}
use Rattle.load_text.specs.LoadText.{load_text}
use Rattle.command_inputs.specs.declared.commands.Command.{Command}
use Rattle.command_inputs.specs.declared.commands.Command.TheVariants.{Check, Wakes, Render, Stats}
use Rattle.command_inputs.specs.declared.commands.Command.TheVariants.{Code, Load}
use Rattle.run_report.specs.declared.status.Status.{Status}
use Rattle.run_report.specs.declared.status.Status.TheVariants.{ReadFault}
use Rattle.command_inputs.specs.Words.{words_of, command_of, file_words, sheet_word, ReadsFiles}
use Rattle.command_inputs.specs.Reading.{TooLong, Contents, found_in}
use Rattle.program_answers.specs.Answer.{WholeAnswer, refusal}
use Rattle.chuck_driver.specs.Answer.{answer_of, IsAnswerTo, IsAnswer}
use Rattle.chuck_driver.specs.Answer.{names_for, found_for}
use Rattle.command_inputs.specs.Sense.{Sense, AllSay}
use Rattle.command_inputs.specs.Reading.{HasFaultAmong}
use Rattle.program_answers.specs.Ends.{Ends, LeavesTally}
use Rattle.chuck_driver.specs.Outcome.{WholeCall, DoesNothing, Answered}
use Rattle.chuck_driver.specs.Outcome.{Concludes}
use Rattle.chuck_driver.specs.Outcome.{unread, answered}
use Rattle.program_answers.proofs.Steps.{none_left}

-- the answer is that of a file that is too long
long_answer : (command : Command) (sheet : List ℕ) (told : Option Files) (names : List (List ℕ)) (name : List ℕ)
    → IfSome told (λ files. found_in files names ≡ TooLong name)
    → IfSome told (λ files. IsAnswerTo (Some command) sheet (found_in files names) names
    (refusal name (codes "too long")))
long_answer command sheet None names name long = tt
long_answer command sheet (Some files) names name long = rw long refl

-- the answer is that of files that say so
contents_answer : (command : Command) (sheet : List ℕ) (told : Option Files)
    (names files : List (List ℕ)) (senses : List Sense) → IfSome told (λ fs. found_in fs names ≡ Contents files)
    → AllSay files senses
    → IfSome told (λ fs. IsAnswerTo (Some command) sheet (found_in fs names) names
    (answer_of command sheet names senses))
contents_answer command sheet None names files senses found say = tt
contents_answer command sheet (Some fs) names files senses found say = rw found (senses, say, refl)

-- an answer to a command is one to its words
reading_for : (words : List (List ℕ)) (fs : Files) (command : Command) (answer : WholeAnswer)
    → ReadsFiles command
    → IsAnswerTo (Some command) (sheet_word words) (found_in fs (file_words words))
    (file_words words) answer
    → IsAnswerTo (Some command) (sheet_word words) (found_for (Some command) fs words)
    (names_for (Some command) words) answer
reading_for words fs Check answer reads it = it
reading_for words fs (Wakes n) answer reads it = it
reading_for words fs (Render n) answer reads it = it
reading_for words fs (Stats n) answer reads it = it
reading_for words fs Code answer reads it = it
reading_for words fs (Load seed) answer reads it = absurd reads

answer_to : (words names : List (List ℕ)) (command : Command) → command_of words ≡ Some command
    → ReadsFiles command → names ≡ file_words words → (told : Option Files) (answer : WholeAnswer)
    → IfSome told (λ fs. IsAnswerTo (Some command) (sheet_word words) (found_in fs names) names
    answer)
    → IfSome told (λ fs. IsAnswer fs words answer)
answer_to words names command is reads named None answer it = tt
answer_to words names command is reads named (Some fs) answer it =
    rw is (reading_for words fs command answer reads
    (subst (λ ns. IsAnswerTo (Some command) (sheet_word words) (found_in fs ns) ns answer)
    named it))

-- and so is one to a load
load_to : (words : List (List ℕ)) (seed : ℕ) → command_of words ≡ Some (Load seed)
    → (told : Option Files) (senses : List Sense) → AllSay (load_text seed ∷ []) senses
    → IfSome told (λ fs. IsAnswer fs words
    (answer_of (Load seed) (sheet_word words) (codes "load" ∷ []) senses))
load_to words seed is None senses say = tt
load_to words seed is (Some fs) senses say = rw is (senses, say, refl)

pub concludes_load : (call : WholeCall) (seed : ℕ) {status : Status}
    → command_of call.words ≡ Some (Load seed)
    → Answered (Load seed) (sheet_word call.words) (codes "load" ∷ []) (load_text seed ∷ [])
    call.old call.new call.old_tally call.new_tally status
    → Concludes call status
concludes_load call seed is a =
    answered (answer_of (Load seed) (sheet_word call.words) (codes "load" ∷ []) a.senses)
    (load_to call.words seed is call.files a.senses a.say) a.plain a.ends a.leaves

long_at : (told : Option Files) (names : List (String Global)) (there : Option (String Global))
    (name : String Global) → there ≡ Some name
    → IfSome told (λ files. IfSome there (λ n.
    found_in files (words_of names) ≡ TooLong (string_bytes n)))
    → IfSome told (λ files. found_in files (words_of names) ≡ TooLong (string_bytes name))
long_at None names there name is long = tt
long_at (Some files) names there name is long = rw is at long

module _ (command : Command) (names : List (String Global)) (call : WholeCall)
    (is : command_of call.words ≡ Some command) (reads : ReadsFiles command)
    (named : words_of names ≡ file_words call.words) where
  pub concludes_unread : HasFaultAmong call.files (words_of names) call.old_reads call.new_reads
      → DoesNothing call → call.new_tally ≡ call.old_tally → Concludes call ReadFault
  concludes_unread fault nothing same =
      let P : List (List ℕ) → Type 0 = λ ns.
      HasFaultAmong call.files ns call.old_reads call.new_reads in
      unread (subst P named fault) nothing same

  pub concludes_long : (status : Status) (E : WholeAnswer → Type 0)
      → call.new_tally ≡ call.old_tally → ((answer : WholeAnswer) → E answer → Ends answer call.old call.new status)
      → (place : ℕ) (name : String Global) → slice_get names place ≡ Some name
      → IfSome call.files (λ files. IfSome (slice_get names place) (λ n.
      found_in files (words_of names) ≡ TooLong (string_bytes n)))
      → IfSome (slice_get names place) (λ n. E (refusal (string_bytes n) (codes "too long")))
      → Concludes call status
  concludes_long status E same lift place name there long ends =
      let answer : WholeAnswer = refusal (string_bytes name) (codes "too long") in
      answered answer
      (answer_to call.words (words_of names) command is reads named call.files answer
      (long_answer command (sheet_word call.words) call.files (words_of names) (string_bytes name)
      (long_at call.files names (slice_get names place) name there long)))
      tt (lift answer (rw there at ends))
      (subst (λ left. LeavesTally status None call.old_tally left) (sym same)
      (none_left status call.old_tally))

  pub concludes_answered : (files : List (List ℕ)) {status : Status}
      → IfSome call.files (λ fs. found_in fs (words_of names) ≡ Contents files)
      → Answered command (sheet_word call.words) (words_of names) files call.old call.new
      call.old_tally call.new_tally status
      → Concludes call status
  concludes_answered files found a =
      let answer : WholeAnswer =
      answer_of command (sheet_word call.words) (words_of names) a.senses in
      answered answer
      (answer_to call.words (words_of names) command is reads named call.files answer
      (contents_answer command (sheet_word call.words) call.files (words_of names) files a.senses found a.say))
      a.plain a.ends a.leaves

pub item_at : {A : Type 0} (xs : List A) (i : ℕ) → i < length xs
    → (x : A) × (slice_get xs i ≡ Some x)
item_at [] i within = absurd (omega (arith, within))
item_at (x ∷ xs) zero within = (x, refl)
item_at (x ∷ xs) (suc i) within = item_at xs i (omega (arith, within))
