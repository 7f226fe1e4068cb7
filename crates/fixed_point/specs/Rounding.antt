-- Whole numbers without a bound: the floor of a quotient, and the clamp to a range.
use Rattle.std.specs.Prelude.{ℤ, pos, negsuc, suc, ◌+ℤ◌, ◌*ℤ◌, neg_ℤ, ◌≤ℤ◌, ◌<ℤ◌}
use Rattle.std.specs.Int.{int_div_euclid, int_max, int_min}

-- the floor of a / b, for b other than 0; at a negative b it is that of -a / -b
abbrev pub floor_div : ℤ → ℤ → ℤ
floor_div a (pos b) = int_div_euclid a (pos b)
floor_div a (negsuc b) = int_div_euclid (neg_ℤ a) (pos (suc b))

-- q is the floor of a / b: q times b does not pass a, and one b more does
abbrev pub IsFloorOf : ℤ → ℤ → ℤ → Type 0
IsFloorOf q a (pos b) = ((q *ℤ pos b) ≤ℤ a) × (a <ℤ (q *ℤ pos b +ℤ pos b))
IsFloorOf q a (negsuc b) = (a ≤ℤ (q *ℤ negsuc b)) × ((q *ℤ negsuc b +ℤ negsuc b) <ℤ a)

-- z, or the end of the range from low to high that it is past
abbrev pub clamp : ℤ → ℤ → ℤ → ℤ
clamp low high z = int_max low (int_min z high)
