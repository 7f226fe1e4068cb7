-- What the calls of `Fix` give, on raw numbers: whole numbers without a bound, one floor of the
-- exact quotient, and one clamp at the end.
use Rattle.std.specs.Prelude.{ℤ, pos, negsuc, ◌+ℤ◌, ◌-ℤ◌, ◌*ℤ◌, neg_ℤ, ◌≤ℤ◌, ◌-◌, ◌^◌, unsigned_abs, int_div, int_rem}
use Rattle.fixed_point.specs.Rounding.{floor_div, clamp}

-- the raw number of 1.0
abbrev pub one : ℤ
one = pos (2 ^ 32)

-- the least number in range, of raw numbers and of whole numbers alike
abbrev pub least : ℤ
least = negsuc (2 ^ 63 - 1)

-- the greatest number in range
abbrev pub greatest : ℤ
greatest = pos (2 ^ 63 - 1)

-- z is in range
abbrev pub IsInRange : ℤ → Type 0
IsInRange z = (least ≤ℤ z) × (z ≤ℤ greatest)

-- the number in range that is nearest to z
unfoldable pub nearest_in_range : ℤ → ℤ
nearest_in_range z = clamp least greatest z

-- a + b, of two floats
abbrev pub sum_of : ℤ → ℤ → ℤ
sum_of a b = nearest_in_range (a +ℤ b)

-- a - b
abbrev pub difference_of : ℤ → ℤ → ℤ
difference_of a b = nearest_in_range (a -ℤ b)

-- a * b
abbrev pub product_of : ℤ → ℤ → ℤ
product_of a b = nearest_in_range (floor_div (a *ℤ b) one)

-- a / b, for b other than 0
abbrev pub quotient_of : ℤ → ℤ → ℤ
quotient_of a b = nearest_in_range (floor_div (a *ℤ one) b)

-- what a / b, cut toward zero, leaves of a, for b other than 0: it has the sign of a
abbrev pub remainder_of : ℤ → ℤ → ℤ
remainder_of a b = int_rem a b

-- -a
abbrev pub negation_of : ℤ → ℤ
negation_of a = nearest_in_range (neg_ℤ a)

-- a without its sign
abbrev pub magnitude_of : ℤ → ℤ
magnitude_of a = nearest_in_range (pos (unsigned_abs a))

-- the float of the whole number n
abbrev pub float_of : ℤ → ℤ
float_of n = nearest_in_range (n *ℤ one)

-- the whole number of a, cut toward zero
abbrev pub whole_of : ℤ → ℤ
whole_of a = int_div a one

-- the float a times the fraction n / d, as a whole number, for d above 0
abbrev pub scaled_of : ℤ → ℤ → ℤ → ℤ
scaled_of a n d = nearest_in_range (floor_div (a *ℤ n) (d *ℤ one))

-- a as a sample of 16 bits: 1.0 is 32768
abbrev pub sample_of : ℤ → ℤ
sample_of a = clamp (negsuc 32767) (pos 32767) (floor_div (a *ℤ pos 32768) one)
