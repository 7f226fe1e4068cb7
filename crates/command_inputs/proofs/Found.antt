-- What reading some of the files has found so far.
use Rattle.std.proofs.Common.{◌≡◌, ℕ, ◌+◌, ◌<◌, ◌≤◌, true, false, nat_lt, List, [], ◌∷◌, ◌++◌}
use Rattle.std.proofs.Common.{length, get_or, drop, Option, Some, None, IfSome, IsSomeAnd, Contains}
use Rattle.std.proofs.Common.{String, refl, sym, ◌∙◌, ap, inl, inr, subst, arith, append_assoc}
use Rattle.std.proofs.Common.{add-one, drop-cons}
use Rattle.std.specs.List.{slice_get}
use Rattle.std.proofs.lemmas.Option.{slice_get_read}
use Rattle.std.proofs.Math.ListN.{drop_of_length-le}
use Rattle.std.specs.String.{string_bytes}
use Rattle.std.specs.declared.alloc.Global.{Global}
use Rattle.std.proofs.lemmas.Bool.{lt-ltb, le-ltb, cases_Bool}
use Rattle.std.proofs.lemmas.List.Elements.{Contains-append_right}
use Rattle.ck_edges.specs.Faults.{HasRisen}
use Rattle.ck_edges.specs.Shelf.{Files, HasBytes, IsLonger}
use Rattle.ck_base.specs.declared.limits.TheConstants.{MAX_FILE_BYTES}
use Rattle.command_inputs.specs.Words.{words_of}
use Rattle.command_inputs.specs.Reading.{Found, OneIsMissing, TooLong, Contents, with_first, found_in}
use Rattle.command_inputs.specs.Reading.{names_read, AreThere}
use Rattle.command_inputs.specs.Reading.{HasFaultAmong}

-- the files found so far in front of what the others are found to be
abbrev pub with_all : List (List ℕ) → Found → Found
with_all [] found = found
with_all (bytes ∷ files) found = with_first bytes (with_all files found)

pub with_all-push : (files : List (List ℕ)) (bytes : List ℕ) (found : Found)
    → with_all (files ++ bytes ∷ []) found ≡ with_all files (with_first bytes found)
with_all-push [] bytes found = refl
with_all-push (file ∷ files) bytes found = ap (with_first file) (with_all-push files bytes found)

pub with_all-contents : (files : List (List ℕ)) → with_all files (Contents []) ≡ Contents files
with_all-contents [] = refl
with_all-contents (file ∷ files) = ap (with_first file) (with_all-contents files)

pub with_all-too_long : (files : List (List ℕ)) (name : List ℕ)
    → with_all files (TooLong name) ≡ TooLong name
with_all-too_long [] name = refl
with_all-too_long (file ∷ files) name = ap (with_first file) (with_all-too_long files name)

-- some first files are read, and these names are left
pub record Read (files : Files) (names left : List (List ℕ)) (found : List (List ℕ)) : Type 0 where
  pub front : List (List ℕ)
  pub found_so_far : found_in files names ≡ with_all found (found_in files left)
  pub read_so_far : names_read files names ≡ front ++ names_read files left

pub read_none : (files : Files) (names : List (List ℕ)) → Read files names names []
read_none files names = record { front = []; found_so_far = refl; read_so_far = refl }

-- one more file that is there, and not too long
pub read_one : (files : Files) (names left : List (List ℕ)) (found : List (List ℕ))
    (name bytes : List ℕ)
    → Read files names (name ∷ left) found → files name ≡ Some bytes → length bytes ≤ MAX_FILE_BYTES
    → Read files names left (found ++ bytes ∷ [])
read_one files names left found name bytes read there short =
    let fits : nat_lt MAX_FILE_BYTES (length bytes) ≡ false =
    le-ltb MAX_FILE_BYTES (length bytes) short in
    let next : found_in files (name ∷ left) ≡ with_first bytes (found_in files left) =
    rw (there, fits) refl in
    let names_next : names_read files (name ∷ left) ≡ name ∷ names_read files left =
    rw (there, fits) refl in
    record {
      front = read.front ++ name ∷ [];
      found_so_far = read.found_so_far ∙ ap (with_all found) next
          ∙ sym (with_all-push found bytes (found_in files left));
      read_so_far = read.read_so_far ∙ ap (λ ns. read.front ++ ns) names_next
          ∙ sym (append_assoc read.front (name ∷ []) (names_read files left));
    }

-- the next file is too long
pub read_too_long : (files : Files) (names left : List (List ℕ)) (found : List (List ℕ))
    (name bytes : List ℕ)
    → Read files names (name ∷ left) found → files name ≡ Some bytes → MAX_FILE_BYTES < length bytes
    → found_in files names ≡ TooLong name
read_too_long files names left found name bytes read there long =
    let fails : nat_lt MAX_FILE_BYTES (length bytes) ≡ true =
    lt-ltb MAX_FILE_BYTES (length bytes) long in
    let next : found_in files (name ∷ left) ≡ TooLong name = rw (there, fails) refl in
    read.found_so_far ∙ ap (with_all found) next ∙ with_all-too_long found name

pub read_all : (files : Files) (names : List (List ℕ)) (found : List (List ℕ))
    → Read files names [] found → found_in files names ≡ Contents found
read_all files names found read = read.found_so_far ∙ with_all-contents found

there_from : (files : Files) (name : List ℕ) (names : List (List ℕ)) (there : Option (List ℕ))
    → files name ≡ there
    → (found_in files (name ∷ names) ≡ OneIsMissing → ⊥)
    → ((found_in files names ≡ OneIsMissing → ⊥) → AreThere files names)
    → AreThere files (name ∷ names)
there_from files name names None none found others = absurd (found (rw none refl))
there_from files name names (Some bytes) there found others =
    elim (cases_Bool (nat_lt MAX_FILE_BYTES (length bytes))) [
      | inl long ↦ rw (there, long) refl
      | inr fits ↦ rw (there, fits)
          (others (λ missing. found (rw (there, fits) (ap (with_first bytes) missing))))
    ]

-- where something was found, each name that was to be read is there
pub found_are_there : (files : Files) (names : List (List ℕ))
    → (found_in files names ≡ OneIsMissing → ⊥) → AreThere files names
found_are_there files [] found = refl
found_are_there files (name ∷ names) found =
    there_from files name names (files name) refl found
    (λ others. found_are_there files names others)

with_first-missing : (bytes : List ℕ) (found : Found) → with_first bytes found ≡ OneIsMissing
    → found ≡ OneIsMissing
with_first-missing bytes OneIsMissing e = refl
with_first-missing bytes (TooLong name) e = absurd (cc)
with_first-missing bytes (Contents files) e = absurd (cc)

not_there_from : (files : Files) (name : List ℕ) (names : List (List ℕ)) (there : Option (List ℕ))
    → files name ≡ there
    → found_in files (name ∷ names) ≡ OneIsMissing → AreThere files (name ∷ names)
    → (found_in files names ≡ OneIsMissing → AreThere files names → ⊥) → ⊥
not_there_from files name names None none missing all others = let e : false ≡ true =
    rw none at all in absurd (cc)
not_there_from files name names (Some bytes) there missing all others =
    elim (cases_Bool (nat_lt MAX_FILE_BYTES (length bytes))) [
      | inl long ↦ let e : TooLong name ≡ OneIsMissing = rw (there, long) at missing in absurd (cc)
      | inr fits ↦
          let e : with_first bytes (found_in files names) ≡ OneIsMissing =
          rw (there, fits) at missing in
          let rest : AreThere files names = rw (there, fits) at all in
          others (with_first-missing bytes (found_in files names) e) rest
    ]

-- where a name that is to be read is missing, so is what is found
pub missing_are_not_there : (files : Files) (names : List (List ℕ))
    → found_in files names ≡ OneIsMissing → AreThere files names → ⊥
missing_are_not_there files [] missing all = absurd (cc)
missing_are_not_there files (name ∷ names) missing all =
    not_there_from files name names (files name) refl missing all
    (missing_are_not_there files names)

-- the same of a shelf, as far as it tells its files
pub told_read_none : (told : Option Files) (names : List (List ℕ))
    → IfSome told (λ files. Read files names names [])
told_read_none None names = tt
told_read_none (Some files) names = read_none files names

pub told_read_one : (told : Option Files) (names left : List (List ℕ)) (found : List (List ℕ))
    (name bytes : List ℕ)
    → IfSome told (λ files. Read files names (name ∷ left) found) → HasBytes told name bytes
    → length bytes ≤ MAX_FILE_BYTES
    → IfSome told (λ files. Read files names left (found ++ bytes ∷ []))
told_read_one None names left found name bytes read there short = tt
told_read_one (Some files) names left found name bytes read there short =
    read_one files names left found name bytes read there short

pub told_read_all : (told : Option Files) (names : List (List ℕ)) (found : List (List ℕ))
    → IfSome told (λ files. Read files names [] found)
    → IfSome told (λ files. found_in files names ≡ Contents found)
told_read_all None names found read = tt
told_read_all (Some files) names found read = read_all files names found read

longer_is_there : (file : Option (List ℕ)) (most : ℕ)
    → IsSomeAnd file (λ bytes. most < length bytes)
    → (bytes : List ℕ) × (file ≡ Some bytes) × (most < length bytes)
longer_is_there None most longer = absurd longer
longer_is_there (Some bytes) most longer = (bytes, refl, longer)

pub told_too_long : (told : Option Files) (names left : List (List ℕ)) (found : List (List ℕ))
    (name : List ℕ)
    → IfSome told (λ files. Read files names (name ∷ left) found)
    → IsLonger told name MAX_FILE_BYTES → IfSome told (λ files. found_in files names ≡ TooLong name)
told_too_long None names left found name read longer = tt
told_too_long (Some files) names left found name read longer =
    let there = longer_is_there (files name) MAX_FILE_BYTES longer in
    read_too_long files names left found name there.0 read there.1 there.2

is_read : (files : Files) (names left : List (List ℕ)) (found : List (List ℕ)) (name : List ℕ)
    → Read files names (name ∷ left) found → Contains (names_read files names) name
is_read files names left found name read =
    let P : List (List ℕ) → Type 0 = λ ns. Contains ns name in
    subst P (sym read.read_so_far)
    (Contains-append_right read.front (names_read files (name ∷ left)) name
    (0, omega arith, refl))

-- a count that rose since later rose since earlier
risen_since : (earlier mid later : ℕ) → earlier ≤ mid → HasRisen mid later
    → HasRisen earlier later
risen_since earlier mid later le (inl rose) = inl (omega (arith, le, rose))
risen_since earlier mid later le (inr stands) = inr stands

pub told_fault : (told : Option Files) (names left : List (List ℕ)) (found : List (List ℕ))
    (name : List ℕ) (old mid new : List ℕ → ℕ)
    → IfSome told (λ files. Read files names (name ∷ left) found) → ((n : List ℕ) → old n ≤ mid n)
    → HasRisen (mid name) (new name) → HasFaultAmong told names old new
told_fault None names left found name old mid new read before risen =
    (name, risen_since (old name) (mid name) (new name) (before name) risen)
told_fault (Some files) names left found name old mid new read before risen = (
  name,
  is_read files names left found name read,
  risen_since (old name) (mid name) (new name)
      (before name) risen,
)

-- the names that are left begin with the one at this place
pub words_next : (names : List (String Global)) (i : ℕ) (name : String Global) → i < length names
    → get_or names i name ≡ name
    → words_of (drop i names) ≡ string_bytes name ∷ words_of (drop (i + 1) names)
words_next names i name within is = rw (add-one, drop-cons names i name within, is) refl

-- the file at this place is too long
pub told_long_at : (told : Option Files) (names : List (String Global)) (i place : ℕ)
    (name : String Global) (found : List (List ℕ)) → place ≡ i → place < length names
    → get_or names place name ≡ name
    → IfSome told (λ files. Read files (words_of names) (words_of (drop place names)) found)
    → IsLonger told (string_bytes name) MAX_FILE_BYTES
    → (i < length names) × IfSome told
    (λ files. IfSome (slice_get names i)
    (λ n. found_in files (words_of names) ≡ TooLong (string_bytes n)))
told_long_at told names i place name found same within is read longer =
    let P : List (List ℕ)
    → Type 0 = λ left. IfSome told (λ files. Read files (words_of names) left found) in
    let long = told_too_long told (words_of names) (words_of (drop (place + 1) names)) found
    (string_bytes name) (subst P (words_next names place name within is) read) longer in
    let here : slice_get names i ≡ Some name =
    slice_get_read names (length names) i name refl (omega (arith, same, within))
    (sym is ∙ ap (λ k. get_or names k name) same) in
    (omega (arith, same, within), told_at told names i name here long)
  where
    told_at : (told : Option Files) (names : List (String Global)) (i : ℕ) (name : String Global)
        → slice_get names i ≡ Some name
        → IfSome told (λ files. found_in files (words_of names) ≡ TooLong (string_bytes name))
        → IfSome told
        (λ files. IfSome (slice_get names i)
        (λ n. found_in files (words_of names) ≡ TooLong (string_bytes n)))
    told_at None names i name here long = tt
    told_at (Some files) names i name here long = rw here long

-- a read of the file at this place failed
pub told_fault_at : (told : Option Files) (names : List (String Global)) (place : ℕ)
    (name : String Global) (found : List (List ℕ)) (old mid new : List ℕ → ℕ) → place < length names
    → get_or names place name ≡ name
    → IfSome told (λ files. Read files (words_of names) (words_of (drop place names)) found)
    → ((n : List ℕ) → old n ≤ mid n) → HasRisen (mid (string_bytes name)) (new (string_bytes name))
    → HasFaultAmong told (words_of names) old new
told_fault_at told names place name found old mid new within is read before risen =
    let P : List (List ℕ)
    → Type 0 = λ left. IfSome told (λ files. Read files (words_of names) left found) in
    told_fault told (words_of names) (words_of (drop (place + 1) names)) found (string_bytes name)
    old mid new (subst P (words_next names place name within is) read) before risen

-- the file at this place was read
pub told_read_at : (told : Option Files) (names : List (String Global)) (place : ℕ)
    (name : String Global) (found : List (List ℕ)) (bytes : List ℕ) → place < length names
    → get_or names place name ≡ name
    → IfSome told (λ files. Read files (words_of names) (words_of (drop place names)) found)
    → HasBytes told (string_bytes name) bytes → length bytes ≤ MAX_FILE_BYTES
    → IfSome told
    (λ files. Read files (words_of names) (words_of (drop (place + 1) names)) (found ++ bytes ∷ []))
told_read_at told names place name found bytes within is read gives short =
    let P : List (List ℕ)
    → Type 0 = λ left. IfSome told (λ files. Read files (words_of names) left found) in
    told_read_one told (words_of names) (words_of (drop (place + 1) names)) found
    (string_bytes name) bytes (subst P (words_next names place name within is) read) gives short

-- all of them were read
pub told_all_read : (told : Option Files) (names : List (String Global)) (place : ℕ)
    (found : List (List ℕ)) → length names ≤ place
    → IfSome told (λ files. Read files (words_of names) (words_of (drop place names)) found)
    → IfSome told (λ files. found_in files (words_of names) ≡ Contents found)
told_all_read told names place found past read =
    let none : words_of (drop place names) ≡ [] = ap words_of (drop_of_length-le names past) in
    let P : List (List ℕ)
    → Type 0 = λ left. IfSome told (λ files. Read files (words_of names) left found) in
    told_read_all told (words_of names) found (subst P none read)
