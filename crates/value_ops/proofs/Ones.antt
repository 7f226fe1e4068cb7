-- A quotient by one.
use Rattle.std.proofs.Common.{◌≡◌, ℤ, pos, negsuc, ap, ◌∙◌, arith}
use Rattle.fixed_point.specs.Rounding.{floor_div}

of_one : (z : ℤ) → floor_div z (pos 1) ≡ z
of_one (pos n) = ap pos (omega arith)
of_one (negsuc n) = ap negsuc (omega arith)

pub by_one : (z d : ℤ) → d ≡ pos 1 → floor_div z d ≡ z
by_one z d is = ap (floor_div z) is ∙ of_one z
