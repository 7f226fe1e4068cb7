-- Which files a command reads, and what it finds.
use Rattle.std.specs.Prelude.{◌≡◌, ℕ, Bool, true, false, not, nat_lt, List, [], ◌∷◌, length, Option}
use Rattle.std.specs.Prelude.{Some, None, is_some, if◌then◌else◌, Contains}
use Rattle.std.specs.List.{list_all}
use Rattle.ck_edges.specs.Faults.{HasRisen}
use Rattle.ck_edges.specs.Shelf.{Files}
use Rattle.ck_base.specs.declared.limits.TheConstants.{MAX_FILE_BYTES}

-- longer than a file may be
abbrev pub is_too_long : List ℕ → Bool
is_too_long bytes = nat_lt MAX_FILE_BYTES (length bytes)

-- what reading the files in order finds: one is not there, one is too long, or all are there
pub data Found : Type 0 where
  OneIsMissing : Found
  TooLong : List ℕ → Found
  Contents : List (List ℕ) → Found

-- one more file, in front of the others
abbrev pub with_first : List ℕ → Found → Found
with_first bytes OneIsMissing = OneIsMissing
with_first bytes (TooLong name) = TooLong name
with_first bytes (Contents files) = Contents (bytes ∷ files)

-- the file of this name, and then what the others are found to be
abbrev pub found_then : List ℕ → Option (List ℕ) → Found → Found
found_then name None others = OneIsMissing
found_then name (Some bytes) others =
    if is_too_long bytes then TooLong name else with_first bytes others

-- the files of these names, read one by one: the first that is missing or too long ends it
abbrev pub found_in : Files → List (List ℕ) → Found
found_in files [] = Contents []
found_in files (name ∷ names) = found_then name (files name) (found_in files names)

-- a file after which the next one is read
abbrev pub reads_on : Option (List ℕ) → Bool
reads_on None = false
reads_on (Some bytes) = not (is_too_long bytes)

-- the names that are read: those of the files in order, up to the first that is missing or too long
abbrev pub names_read : Files → List (List ℕ) → List (List ℕ)
names_read files [] = []
names_read files (name ∷ names) =
    name ∷ (if reads_on (files name) then names_read files names else [])

-- each name that is read is there
abbrev pub AreThere : Files → List (List ℕ) → Type 0
AreThere files names = list_all (λ name. is_some (files name)) (names_read files names) ≡ true

-- a read failed of one of these names that are to be read; where the shelf tells no files, of some
-- name
abbrev pub HasFaultAmong : Option Files → List (List ℕ) → (List ℕ → ℕ) → (List ℕ → ℕ) → Type 0
HasFaultAmong None names old new = (name : List ℕ) × HasRisen (old name) (new name)
HasFaultAmong (Some files) names old new =
    (name : List ℕ) × Contains (names_read files names) name × HasRisen (old name) (new name)
