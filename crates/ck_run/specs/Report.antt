-- The lines that a run is reported by, and the samples of its sheet.
use Rattle.std.specs.Prelude.{ℕ, ℤ, pos, negsuc, zero, suc, List, [], ◌∷◌, ◌++◌, map, Option, Some, None, codes, decimal, flat_map}
use Rattle.fixed_point.specs.Fix.{sample_of}
use Rattle.ck_values.specs.Trap.{trap_name}
use Rattle.ugen_kinds.specs.declared.output.Output.{Output}
use Rattle.ck_run.specs.Run.{TrapAt, Wake, Piece, Line, TrapOf}

-- a whole number in decimal
abbrev pub signed_decimal : ℤ → List ℕ
signed_decimal (pos n) = decimal n
signed_decimal (negsuc n) = 45 ∷ decimal (suc n)

-- a slice: its time and its shred
abbrev pub wake_line : Wake → List ℕ
wake_line wake = signed_decimal wake.time ++ 32 ∷ decimal wake.shred ++ 10 ∷ []

-- the name of a file by its number
abbrev pub name_of : List (List ℕ) → ℕ → List ℕ
name_of [] file = []
name_of (name ∷ rest) zero = name
name_of (name ∷ rest) (suc file) = name_of rest file

-- a slice that trapped, where the files have these names
abbrev pub trap_line : List (List ℕ) → Wake → TrapAt → List ℕ
trap_line names wake at =
    codes "trap " ++ trap_name at.trap ++ codes " shred " ++ decimal wake.shred ++ codes " sample "
    ++ signed_decimal wake.time
    ++ 32 ∷ name_of names at.place.file ++ 58 ∷ decimal at.place.line ++ 10 ∷ []

abbrev pub trap_lines : List (List ℕ) → Wake → Option TrapAt → List ℕ
trap_lines names wake None = []
trap_lines names wake (Some at) = trap_line names wake at

-- what `wakes` prints: for each slice its line, then that of its trap
abbrev pub wake_lines : List (List ℕ) → List Wake → List ℕ
wake_lines names wakes = flat_map (λ wake. wake_line wake ++ trap_lines names wake wake.trap) wakes

-- a piece of the text
abbrev pub piece_bytes : List (List ℕ) → Piece → List ℕ
piece_bytes names (Line line) = line
piece_bytes names (TrapOf wake) = trap_lines names wake wake.trap

-- what `render` prints
abbrev pub text_bytes : List (List ℕ) → List Piece → List ℕ
text_bytes names text = flat_map (piece_bytes names) text

-- the samples of the sheet: those of the left sides, as a sheet has one channel
abbrev pub sheet_sample : Output → ℤ
sheet_sample output = sample_of output.left

abbrev pub sheet_samples : List Output → List ℤ
sheet_samples outputs = map sheet_sample outputs
