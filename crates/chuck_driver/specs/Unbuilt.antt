-- Where the first file stands that has a form that isn't run yet.
use Rattle.std.specs.Prelude.{◌≡◌, ℕ, ◌<◌, List, length, map, Option, Some, None, slice_get, codes}
use Rattle.ck_syntax.specs.declared.file.File.{File}
use Rattle.ck_syntax.specs.View.{view_file}
use Rattle.command_inputs.specs.declared.commands.Command.{Command}
use Rattle.program_answers.specs.Answer.{WholeAnswer, refusal}
use Rattle.chuck_driver.specs.Answer.{unbuilt}

-- whatever the files' names are, the one at this place is refused
abbrev pub IsRefusedAt : (place : ℕ) → (List (List ℕ) → Option WholeAnswer) → Type 0
IsRefusedAt place refused = (names : List (List ℕ)) (name : List ℕ) →
    slice_get names place ≡ Some name → refused names ≡ Some (refusal name (codes "not built"))

-- it is this one, or there is none
abbrev pub IsFirst : List File → (List (List ℕ) → Option WholeAnswer) → Option ℕ → Type 0
IsFirst trees refused None = (names : List (List ℕ)) → refused names ≡ None
IsFirst trees refused (Some place) = (place < length trees) × IsRefusedAt place refused

abbrev pub IsUnbuilt : Command → List File → Option ℕ → Type 0
IsUnbuilt command trees place =
    IsFirst trees (λ names. unbuilt command names (map view_file trees)) place
