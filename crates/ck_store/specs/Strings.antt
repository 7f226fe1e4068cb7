-- Strings: what a value is when it is printed, and what is read of a string.
use Rattle.std.specs.Prelude.{ℕ, zero, suc, ◌+◌, ℤ, pos, Bool, true, false, List, [], ◌∷◌, ◌++◌, length, take, drop, nat_le, codes, decimal, slice_get, Option, Some, None}
use Rattle.std.specs.Fmt.{signed_decimal}
use Rattle.fixed_point.specs.Decimals.{text_of}
use Rattle.ck_values.specs.declared.trap.Trap.TheVariants.{ArrayOutOfBounds}
use Rattle.ck_values.specs.Datum.{Datum, AnInt, AFloat, ADur, ATime, AText, AShred, ARef}
use Rattle.ck_store.specs.Store.{Try, Gives, Fails}
use Rattle.ck_store.specs.Steps.{pick}

-- null, or the number of what isn't null behind a mark
abbrev pub or_null : (mark : List ℕ) → ℕ → List ℕ
or_null mark zero = codes "null"
or_null mark (suc n) = mark ++ decimal (suc n)

-- a value as it is printed; a string that is the only item of its print stands in double quotes
abbrev pub printed : (alone : Bool) → Datum → List ℕ
printed alone (AnInt n) = signed_decimal n
printed alone (AFloat x) = text_of x
printed alone (ADur samples) = signed_decimal samples
printed alone (ATime samples) = signed_decimal samples
printed true (AText bytes) = 34 ∷ bytes ++ 34 ∷ []
printed false (AText bytes) = bytes
printed alone (AShred n) = or_null [] n
printed alone (ARef n) = or_null (codes "#") n

-- the byte that was found, as an int, or the trap
abbrev pub found_byte : Option ℕ → Try ℤ
found_byte None = Fails ArrayOutOfBounds
found_byte (Some byte) = Gives (pos byte)

-- the byte at an index; an index below 0, or not below the length, is a trap
unfoldable pub char_at : (string : List ℕ) → (index : ℤ) → Try ℤ
char_at string (pos i) = found_byte (slice_get string i)
char_at string _ = Fails ArrayOutOfBounds

-- so many bytes from a start on; a number below 0, or an end past the length, is a trap
unfoldable pub substring : (string : List ℕ) → (start count : ℤ) → Try (List ℕ)
substring string (pos i) (pos n) =
    pick (nat_le (i + n) (length string)) (Gives (take n (drop i string))) (Fails ArrayOutOfBounds)
substring string _ _ = Fails ArrayOutOfBounds
