-- Steps at the edges of the program, and what they leave there.
use Rattle.std.specs.Prelude.{◌≡◌, ℕ, List, [], ◌∷◌, ◌++◌, Option}
use Rattle.ck_edges.specs.Sink.{Appends}
use Rattle.ck_edges.specs.Press.{Sheet, Changes, with_begun, with_written, with_ended}

-- one step: write these bytes, begin the sheet of this name, write these bytes on it, end it
pub data Step : Type 0 where
  Write : List ℕ → Step
  BeginSheet : List ℕ → Step
  WriteSheet : List ℕ → Step
  EndSheet : Step

-- a write for each piece of a text, but none for an empty piece
abbrev pub writes_of : List (List ℕ) → List Step
writes_of [] = []
writes_of ([] ∷ pieces) = writes_of pieces
writes_of ((byte ∷ bytes) ∷ pieces) = Write (byte ∷ bytes) ∷ writes_of pieces

-- what the steps write on the sink
abbrev pub text_written : List Step → List ℕ
text_written [] = []
text_written (Write bytes ∷ steps) = bytes ++ text_written steps
text_written (BeginSheet name ∷ steps) = text_written steps
text_written (WriteSheet bytes ∷ steps) = text_written steps
text_written (EndSheet ∷ steps) = text_written steps

-- what the steps make of the sheets of a press
abbrev pub sheets_after : List Step → List Sheet → List Sheet
sheets_after [] sheets = sheets
sheets_after (Write bytes ∷ steps) sheets = sheets_after steps sheets
sheets_after (BeginSheet name ∷ steps) sheets = sheets_after steps (with_begun name sheets)
sheets_after (WriteSheet bytes ∷ steps) sheets = sheets_after steps (with_written bytes sheets)
sheets_after (EndSheet ∷ steps) sheets = sheets_after steps (with_ended sheets)

-- the text of a sink and the sheets of a press, each where it is told
pub record Edges : Type 0 where
  pub text : Option (List ℕ)
  pub sheets : Option (List Sheet)

-- edges that tell this text and these sheets
abbrev pub told : Option (List ℕ) → Option (List Sheet) → Edges
told text sheets = record { text = text; sheets = sheets }

-- these steps were done, one after another, and nothing else
pub record Does (steps : List Step) (old new : Edges) : Type 0 where
  pub text : Appends old.text new.text (text_written steps)
  pub sheets : Changes old.sheets new.sheets (sheets_after steps)

-- some of the first steps were done, each of them whole
abbrev pub DoesFront : List Step → Edges → Edges → Type 0
DoesFront steps old new = (front rest : List Step) × (steps ≡ front ++ rest) × Does front old new

-- what is done of a step that fails: some front of its bytes, no sheet, no end
abbrev pub IsPart : Step → List Step → Type 0
IsPart (Write bytes) part =
    (front rest : List ℕ) × (bytes ≡ front ++ rest) × (part ≡ Write front ∷ [])
IsPart (BeginSheet name) part = part ≡ []
IsPart (WriteSheet bytes) part =
    (front rest : List ℕ) × (bytes ≡ front ++ rest) × (part ≡ WriteSheet front ∷ [])
IsPart EndSheet part = part ≡ []

-- some of the first steps were done, and the next one in part
abbrev pub DoesPart : List Step → Edges → Edges → Type 0
DoesPart steps old new =
    (front rest : List Step) × (step : Step) × (part : List Step)
    × (steps ≡ front ++ step ∷ rest) × IsPart step part × Does (front ++ part) old new
