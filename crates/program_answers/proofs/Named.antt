-- The lines of accepted files, one after another.
use Rattle.std.proofs.Common.{◌≡◌, ℕ, suc, ◌+◌, ◌<◌, ◌≤◌, List, [], ◌∷◌, String, length, drop}
use Rattle.std.proofs.Common.{get_or, drop-cons, add-one, refl, sym, ap, subst}
use Rattle.std.specs.String.{string_bytes}
use Rattle.std.specs.declared.alloc.Global.{Global}
use Rattle.std.proofs.Math.ListN.{drop_of_length-le}
use Rattle.program_answers.specs.Answer.{ok_line, ok_steps}
use Rattle.program_answers.specs.Ends.{Moment}
use Rattle.run_report.specs.Step.{Step, Write}
use Rattle.run_report.proofs.Steps.{Remains}
use Rattle.command_inputs.specs.Words.{words_of}

-- the next line, and those behind it
pub next_step : (words : List (String Global)) (i : ℕ) (word : String Global) → i < length words
    → word ≡ get_or words i word
    → ok_steps (words_of (drop i words)) ≡ Write (ok_line (string_bytes word)) ∷ ok_steps
    (words_of (drop (i + 1) words))
next_step words i word within is =
    let cut : drop i words ≡ word ∷ drop (i + 1) words =
    rw (add-one, drop-cons words i word within) (ap (λ w. w ∷ drop (suc i) words) (sym is)) in
    rw cut refl

pub no_steps : (words : List (String Global)) (i : ℕ) → length words ≤ i
    → ok_steps (words_of (drop i words)) ≡ []
no_steps words i past = rw (drop_of_length-le words past) refl

-- the next line is to be written
pub next_line : (names : List (String Global)) (i : ℕ) (name : String Global) (line : List ℕ)
    (old new : Moment) → i < length names → name ≡ get_or names i name
    → line ≡ ok_line (string_bytes name)
    → Remains (ok_steps (words_of names)) (ok_steps (words_of (drop i names))) old new
    → Remains (ok_steps (words_of names)) (Write line ∷ ok_steps (words_of (drop (i + 1) names)))
    old new
next_line names i name line old new within is same remains =
    let P : List Step → Type 0 = λ left. Remains (ok_steps (words_of names)) left old new in
    let Q : List ℕ → Type 0 = λ bytes. P (Write bytes ∷ ok_steps (words_of (drop (i + 1) names))) in
    subst Q (sym same) (subst P (next_step names i name within is) remains)
