-- The values of number literals.
use Rattle.std.specs.Prelude.{ℕ, ◌+◌, ◌-◌, ◌*◌, ◌^◌, List, ◌++◌, length, take, fold, min, if◌then◌else◌}
use Rattle.std.specs.Int.{div_ceil}
use Rattle.ck_lexer.specs.Bytes.{is_digit, is_upper_digit, is_lower_digit}

-- what a digit stands for; the letters `A` to `F`, in either case, for ten to fifteen
abbrev pub digit_value : ℕ → ℕ
digit_value b =
    if is_digit b then b - 48 else if is_upper_digit b then b - 55 else if is_lower_digit b
    then b - 87 else 0

-- the number that digits write in a base
abbrev pub number_in : ℕ → List ℕ → ℕ
number_in base digits = fold (λ n b. n * base + digit_value b) 0 digits

-- the greatest int
abbrev pub max_int : ℕ
max_int = 9223372036854775807

-- the greatest whole part of a float literal
abbrev pub max_whole : ℕ
max_whole = 2147483647

-- the decimals that count: the first eighteen
abbrev pub counted : List ℕ → List ℕ
counted decimals = take 18 decimals

-- the written number as a count of units of 2^-32, rounded up
abbrev pub units_up : List ℕ → List ℕ → ℕ
units_up whole decimals =
    div_ceil (number_in 10 (whole ++ counted decimals) * 2 ^ 32) (10 ^ length (counted decimals))

-- the raw number of a float literal: rounded up, and clamped
abbrev pub raw_of : List ℕ → List ℕ → ℕ
raw_of whole decimals = min (units_up whole decimals) max_int
