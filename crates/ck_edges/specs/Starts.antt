-- Sheets in one text of their names and bytes, one after another: where each starts, and what it
-- is.
use Rattle.std.specs.Prelude.{◌≡◌, ℕ, ◌≤◌, Bool, true, not, List, [], ◌∷◌, length, slice_range}
use Rattle.std.proofs.Math.Bridge.{le_prop}
use mathlib.Core.HLevel.{Unit-prop, ×_prop}
use Rattle.ck_edges.specs.declared.memory_press.Start.{Start}
use Rattle.ck_edges.specs.Press.{Sheet}

-- where the sheet before these ends: where the first of them starts, or else with the text
abbrev pub end_before : List Start → ℕ → ℕ
end_before [] end = end
end_before (start ∷ starts) end = start.name

-- whether the sheet before these is ended: only the last sheet may stand unended
abbrev pub ended_before : List Start → Bool → Bool
ended_before [] unended = not unended
ended_before (start ∷ starts) unended = true

-- the sheet that starts there in the text, with these starts behind it
abbrev pub sheet_from : List ℕ → Start → List Start → Bool → Sheet
sheet_from text start starts unended = record {
  name = slice_range text start.name start.bytes;
  bytes = slice_range text start.bytes (end_before starts (length text));
  ended = ended_before starts unended;
}

-- the sheets that start there in the text
abbrev pub sheets_at : List ℕ → List Start → Bool → List Sheet
sheets_at text [] unended = []
sheets_at text (start ∷ starts) unended =
    sheet_from text start starts unended ∷ sheets_at text starts unended

-- the bytes of the sheet come after its name, and end there at the earliest
abbrev pub EndsBy : Start → ℕ → Type 0
EndsBy start end = (start.name ≤ start.bytes) × (start.bytes ≤ end)

-- the name and the bytes of the sheet are those between its start and this end
abbrev pub IsSheetAt : List ℕ → Start → ℕ → Sheet → Type 0
IsSheetAt text start end sheet =
    (sheet.name ≡ slice_range text start.name start.bytes)
    × (sheet.bytes ≡ slice_range text start.bytes end)

-- each sheet ends by the start of the next one, and the last one by the end of the text
abbrev pub AreInOrder : List Start → ℕ → Type 0
AreInOrder [] end = Unit {0}
AreInOrder (start ∷ starts) end = EndsBy start (end_before starts end) × AreInOrder starts end

-- that order has one proof at most, so it may be a ghost field
pub AreInOrder-prop : (starts : List Start) (end : ℕ) → IsProp (AreInOrder starts end)
AreInOrder-prop [] end = Unit-prop
AreInOrder-prop (start ∷ starts) end =
    ×_prop (×_prop le_prop le_prop) (AreInOrder-prop starts end)
