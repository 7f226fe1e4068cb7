-- The product of two numbers of 64 bits, in 128 bits.
use Rattle.std.proofs.Common.{◌≡◌, ℤ, pos, negsuc, ◌*◌, ◌^◌, ◌<◌, ◌≤◌, ◌*ℤ◌, unsigned_abs, FitsSigned, w64, to_z, of_z, ap, ◌∙◌, arith}
use Rattle.std.specs.Int.{w128}
use Rattle.std.proofs.lemmas.Int.{to_z-of_z, unsigned_abs-mul, fits_signed_from_abs}
use Rattle.std.proofs.Math.Nat.{mul-le-mul}

abs_most : (a : ℤ) → FitsSigned w64 a → unsigned_abs a ≤ 2 ^ 63
abs_most (pos n) f = let h : n < 2 ^ 63 = f.sfits in omega arith
abs_most (negsuc n) f = let h : n < 2 ^ 63 = f.sfits in omega arith

pub product_most : (a b : ℤ) → FitsSigned w64 a → FitsSigned w64 b → unsigned_abs (a *ℤ b) ≤ 2 ^ 126
product_most a b f g =
    let most : unsigned_abs a * unsigned_abs b ≤ 2 ^ 63 * 2 ^ 63 =
    mul-le-mul (abs_most a f) (abs_most b g) in
    omega (arith, unsigned_abs-mul a b)

-- a number of 64 bits, as 128 bits hold it
pub widened : (a x : ℤ) → FitsSigned w64 a → x ≡ to_z w64 (of_z w64 a) → to_z w128 (of_z w128 x) ≡ a
widened a x f e =
    let fits : FitsSigned w128 a = fits_signed_from_abs w128 a (omega (arith, abs_most a f)) in
    ap (λ (z : ℤ). to_z w128 (of_z w128 z)) (e ∙ to_z-of_z w64 a f) ∙ to_z-of_z w128 a fits

product_fits : (a b : ℤ) → FitsSigned w64 a → FitsSigned w64 b → FitsSigned w128 (a *ℤ b)
product_fits a b f g = fits_signed_from_abs w128 (a *ℤ b) (omega (arith, product_most a b f g))

pub held : (a b x y : ℤ) → FitsSigned w64 a → FitsSigned w64 b → x ≡ a → y ≡ b
    → FitsSigned w128 (x *ℤ y)
held a b x y f g d e = rw (d, e) (product_fits a b f g)

pub exact : (a b x y : ℤ) → FitsSigned w64 a → FitsSigned w64 b → x ≡ a → y ≡ b
    → to_z w128 (of_z w128 (x *ℤ y)) ≡ a *ℤ b
exact a b x y f g d e = rw (d, e) (to_z-of_z w128 (a *ℤ b) (product_fits a b f g))
