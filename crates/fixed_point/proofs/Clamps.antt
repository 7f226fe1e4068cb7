-- The clamp to the raw numbers keeps the order.
use Rattle.std.proofs.Common.{◌≡◌, ℤ, pos, negsuc, ◌≤◌, ◌≤ℤ◌, ◌<ℤ◌, ◌+ℤ◌, ◌*ℤ◌, arith}
use Rattle.std.proofs.lemmas.Int.{ints, clamps}
use Rattle.std.proofs.Math.Nat.{mul-le-mul_right}
use Rattle.fixed_point.specs.Rounding.{floor_div}
use Rattle.fixed_point.specs.Fix.{nearest_in_range, sum_of, product_of, negation_of, least, greatest, one}

pub nearest_in_range-monotone : (a b : ℤ) → a ≤ℤ b → nearest_in_range a ≤ℤ nearest_in_range b
unfolding nearest_in_range
nearest_in_range-monotone a b h = omega (arith, ints, clamps)

pub sum_of-monotone : (a b c : ℤ) → a ≤ℤ b → sum_of a c ≤ℤ sum_of b c
sum_of-monotone a b c h = nearest_in_range-monotone (a +ℤ c) (b +ℤ c) (omega (arith, ints))

floor_div-one-monotone : (a b : ℤ) → a ≤ℤ b → floor_div a one ≤ℤ floor_div b one
floor_div-one-monotone (pos a) (pos b) h = omega (arith, ints)
floor_div-one-monotone (pos a) (negsuc b) h = omega (arith, ints)
floor_div-one-monotone (negsuc a) (pos b) h = omega (arith, ints)
floor_div-one-monotone (negsuc a) (negsuc b) h = omega (arith, ints)

product-monotone : (a b c : ℤ) → pos 0 ≤ℤ c → a ≤ℤ b → (a *ℤ c) ≤ℤ (b *ℤ c)
product-monotone a b (negsuc c) h k = absurd h.le
product-monotone (pos a) (pos b) (pos c) h k =
    let n : a ≤ b = omega (arith, ints) in omega (arith, ints, mul-le-mul_right c n)
product-monotone (pos a) (negsuc b) (pos c) h k = absurd k.le
product-monotone (negsuc a) (pos b) (pos c) h k = omega (arith, ints)
product-monotone (negsuc a) (negsuc b) (pos c) h k =
    let n : b ≤ a = omega (arith, ints) in omega (arith, ints, mul-le-mul_right c n)

pub product_of-monotone : (a b c : ℤ) → pos 0 ≤ℤ c → a ≤ℤ b → product_of a c ≤ℤ product_of b c
product_of-monotone a b c h k =
    nearest_in_range-monotone _ _ (floor_div-one-monotone _ _ (product-monotone a b c h k))

pub negation_of-twice : (a : ℤ) → least <ℤ a → a ≤ℤ greatest → negation_of (negation_of a) ≡ a
unfolding nearest_in_range
negation_of-twice a h k = omega (arith, ints, clamps)
