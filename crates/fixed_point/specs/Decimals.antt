-- A number in print: six decimals, cut toward zero.
use Rattle.std.specs.Prelude.{ℕ, ℤ, pos, negsuc, zero, suc, ◌+◌, ◌/◌, ◌%◌, ◌*ℤ◌, List, [], ◌∷◌, ◌++◌, int_div, decimal}
use Rattle.fixed_point.specs.Fix.{one}

-- how many millionths the number has, cut toward zero
abbrev pub millionths_of : ℤ → ℤ
millionths_of a = int_div (a *ℤ pos 1_000_000) one

-- the last k decimal digits of n, zeros in front where it has fewer
abbrev pub last_digits : ℕ → ℕ → List ℕ
last_digits zero n = []
last_digits (suc k) n = last_digits k (n / 10) ++ (48 + n % 10) ∷ []

-- n millionths: the whole part, a point, and six digits
abbrev pub six_decimals : ℕ → List ℕ
six_decimals n = decimal (n / 1_000_000) ++ 46 ∷ last_digits 6 (n % 1_000_000)

-- millionths with their sign: a minus where there are fewer than none
abbrev pub signed_six_decimals : ℤ → List ℕ
signed_six_decimals (pos n) = six_decimals n
signed_six_decimals (negsuc n) = 45 ∷ six_decimals (suc n)

-- the text of a number
unfoldable pub text_of : ℤ → List ℕ
text_of a = signed_six_decimals (millionths_of a)
