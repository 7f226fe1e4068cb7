use Rattle.std.proofs.Common.{◌≡◌, ◌≤◌, ℕ, List, [], ◌∷◌, Some, ◌∙◌, All, Err, length, refl, sym, subst, ap, arith, Vec}
use Rattle.std.proofs.Common.{IfSome, codes, string_bytes}
use Rattle.std.specs.Prelude.{slice_get}
use Rattle.std.specs.declared.alloc.Global.{Global}
use Rattle.ck_base.specs.declared.limits.TheConstants.{MAX_FILE_BYTES}
use Rattle.program_answers.specs.Answer.{WholeAnswer, refusal}
use Rattle.program_answers.specs.Ends.{EndsAtSink}
use Rattle.chuck_driver.specs.Outcome.{WholeCall, whole_call, Answered, Concludes, unstarted}
use Rattle.command_inputs.specs.Senses.{contents_of}
use Rattle.command_inputs.specs.Words.{words_of, ReadsFiles}
use Rattle.command_inputs.specs.declared.commands.Command.{Command}
use Rattle.command_inputs.specs.declared.commands.Command.TheVariants.{Check, Wakes, Render, Stats}
use Rattle.command_inputs.specs.declared.commands.Command.TheVariants.{Code, Load}
use Rattle.load_text.specs.LoadText.{load_text}
use Rattle.chuck_driver.proofs.Carried.{concludes_unread, concludes_long, concludes_answered}
use Rattle.chuck_driver.proofs.Carried.{concludes_load}
use Rattle.chuck_driver.proofs.Carried.{item_at}
use Rattle.run_report.proofs.Steps.{does_nothing}
use Rattle.program_answers.proofs.Steps.{press_stands, at_edges}
use Rattle.chuck_driver.proofs.driver.carry_out.Goals as goal

-- a command that isn't a load reads files
reads_files : (command : Command) → ((seed : ℕ) → command ≡ Load seed → ⊥) → ReadsFiles command
reads_files Check other = tt
reads_files (Wakes n) other = tt
reads_files (Render n) other = tt
reads_files (Stats n) other = tt
reads_files Code other = tt
reads_files (Load seed) other = absurd (other seed refl)

pub returns-in-Load-clause-concludes : goal.returns-in-Load-clause-concludes
returns-in-Load-clause-concludes g c =
    let seed = c.in-Load.seed in
    let call : WholeCall = whole_call g.S.Shelf g.O.Sink g.P.Press c.args.words.now
    c.args.shelf.now c.args.out.now c.args.press.now c.args.tally.now c.args.shelf.now
    c.answer_load.new.out c.answer_load.new.press c.answer_load.new.tally in
    let P : List ℕ → Type 0 = λ sheet.
    Answered (Load seed) sheet (codes "load" ∷ []) (load_text seed ∷ []) call.old call.new
    call.old_tally call.new_tally c.answer_load.result in
    concludes_load call seed (c.requires.command ∙ ap Some c.in-Load.is)
    (subst P c.sheet_name-sheet.ensures c.answer_load.ensures.answered)

pub refuse_long-requires : goal.refuse_long-requires
refuse_long-requires g c =
    let stop = c.in-Err-Long in
    let long = stop.ensures.long stop.place (ap Err stop.field-0-is) in
    omega (arith, long.0, stop.place-is)

pub returns-in-Err-Long-clause-concludes : goal.returns-in-Err-Long-clause-concludes
returns-in-Err-Long-clause-concludes g c =
    let stop = c.in-Err-Long in
    let names = c.file_names-names.result.now in
    let out = c.args.out.now in
    let out' = c.refuse_long.new.out in
    let press = c.args.press.now in
    let result = c.refuse_long.result in
    let call : WholeCall = whole_call g.S.Shelf g.O.Sink g.P.Press c.args.words.now
    c.args.shelf.now out press c.args.tally.now c.read_files.new.shelf out' press
    c.args.tally.now in
    let long = stop.ensures.long stop.place (ap Err stop.field-0-is) in
    let item = item_at names stop.place long.0 in
    let E : WholeAnswer → Type 0 = λ answer. EndsAtSink g.O.Sink answer out out' result in
    let P : ℕ → Type 0 = λ place.
    IfSome (slice_get names place) (λ name. E (refusal (string_bytes name) (codes "too long"))) in
    concludes_long c.args.command names call c.requires.command (reads_files c.args.command c.in_default.not-Load)
    c.file_names-names.ensures.names result E refl
    (at_edges g.O.Sink g.P.Press out out' press result) stop.place item.0 item.1 long.1
    (subst P stop.place-is c.refuse_long.ensures)

pub returns-in-Err-Long-clause-leaves : goal.returns-in-Err-Long-clause-leaves
returns-in-Err-Long-clause-leaves g c = press_stands g.P.Press c.args.press.now _

pub returns-in-Err-Failed-clause-concludes : goal.returns-in-Err-Failed-clause-concludes
returns-in-Err-Failed-clause-concludes g c =
    let call : WholeCall = whole_call g.S.Shelf g.O.Sink g.P.Press c.args.words.now
    c.args.shelf.now c.args.out.now c.args.press.now c.args.tally.now
    c.read_files.new.shelf c.args.out.now c.args.press.now c.args.tally.now in
    concludes_unread c.args.command c.file_names-names.result.now call c.requires.command
    (reads_files c.args.command c.in_default.not-Load) c.file_names-names.ensures.names
    (c.in-Err-Failed.ensures.failed (ap Err c.in-Err-Failed.field-0-is)) (does_nothing _) refl

pub returns-in-Err-Failed-clause-leaves : goal.returns-in-Err-Failed-clause-leaves
returns-in-Err-Failed-clause-leaves g c = press_stands g.P.Press c.args.press.now _

pub returns-in-Err-Memory-clause-concludes : goal.returns-in-Err-Memory-clause-concludes
returns-in-Err-Memory-clause-concludes g c =
    subst (Concludes _) (sym c.from.ensures) (unstarted (does_nothing _) refl)

pub returns-in-Err-Memory-clause-leaves : goal.returns-in-Err-Memory-clause-leaves
returns-in-Err-Memory-clause-leaves g c = press_stands g.P.Press c.args.press.now _

pub answer-requires : goal.answer-requires
answer-requires g c =
    let names = c.file_names-names.result.now in
    let P : List (Vec ℕ Global) → Type 0 = λ files. length files ≡ length names in
    let Q : List (Vec ℕ Global) → Type 0 = λ files.
    All (λ file. length file.items ≤ MAX_FILE_BYTES) files in
    let same = c.as_slice.ensures.value in
    record {
      takes = c.file_names-names.ensures.takes (reads_files c.args.command c.in_default.not-Load);
      all = subst P (sym same) c.in-Ok.ensures.all;
      short = subst Q (sym same) c.in-Ok.ensures.short;
      shut = c.requires.shut;
    }

pub returns-clause-concludes : goal.returns-clause-concludes
returns-clause-concludes g c =
    let names = c.file_names-names.result.now in
    let out' = c.answer.new.out in
    let press' = c.answer.new.press in
    let call : WholeCall = whole_call g.S.Shelf g.O.Sink g.P.Press c.args.words.now
    c.args.shelf.now c.args.out.now c.args.press.now c.args.tally.now c.read_files.new.shelf out'
    press' c.answer.new.tally in
    let P : List ℕ → List (Vec ℕ Global) → Type 0 = λ sheet files.
    Answered c.args.command sheet (words_of names) (contents_of files) call.old call.new
    call.old_tally call.new_tally c.answer.result in
    concludes_answered c.args.command names call c.requires.command (reads_files c.args.command c.in_default.not-Load)
    c.file_names-names.ensures.names
    (contents_of c.in-Ok.files.items) c.in-Ok.ensures.found
    (subst (P _) c.as_slice.ensures.value
    (subst (λ sheet. P sheet c.as_slice.result.now) c.sheet_name-sheet.ensures
    c.answer.ensures.answered))
