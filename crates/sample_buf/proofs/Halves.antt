-- The half of two samples.
use Rattle.std.proofs.Common.{◌≡◌, ℕ, List, take, ℤ, pos, negsuc, ◌+ℤ◌, ◌≤ℤ◌, ◌∙◌, ap, refl, arith}
use Rattle.std.specs.Int.{int_div_euclid}
use Rattle.std.proofs.lemmas.Int.{to_z-of_z, ints}
use Rattle.std.proofs.lemmas.List.{get_or-take}
use Rattle.sample_buf.specs.Frames.{sample_of}
use mir.Syntax.{w16, w32}
use mir.Val.{SFits, of_z, to_z}

-- a sample in a part of two bytes
pub in_part : (bytes : List ℕ) → sample_of (take 2 bytes) ≡ sample_of bytes
in_part bytes = rw (get_or-take 2 bytes 0 0 (omega arith), get_or-take 2 bytes 1 0 (omega arith)) refl

-- the half of a sum of two numbers of 16 bits has 16 bits too
half_in_range : (s : ℤ) → negsuc 65_535 ≤ℤ s → s ≤ℤ pos 65_534 → SFits w16 (int_div_euclid s (pos 2))
half_in_range (pos n) low high = omega (arith, ints)
half_in_range (negsuc n) low high = omega (arith, ints)

fits_half : (l r : ℤ) → SFits w16 l → SFits w16 r → SFits w16 (int_div_euclid (l +ℤ r) (pos 2))
fits_half l r f g = half_in_range (l +ℤ r) (omega (arith, ints)) (omega (arith, ints))

fits_sum : (l r : ℤ) → SFits w16 l → SFits w16 r → SFits w32 (l +ℤ r)
fits_sum l r f g = omega (arith, ints)

wider : (l : ℤ) → SFits w16 l → SFits w32 l
wider l f = omega (arith, ints)

pub half_is : (l r a b d x y : ℤ) → SFits w16 l → SFits w16 r → a ≡ to_z w16 (of_z w16 l) → b ≡ to_z w16 (of_z w16 r)
    → d ≡ int_div_euclid (to_z w32 (of_z w32 (to_z w32 (of_z w32 a) +ℤ to_z w32 (of_z w32 b)))) (pos 2) → l ≡ x → r ≡ y → to_z w16 (of_z w16 (to_z w32 (of_z w32 d))) ≡ int_div_euclid (x +ℤ y) (pos 2)
half_is l r a b d x y f g p q e s t =
    let left : to_z w32 (of_z w32 a) ≡ l = ap (λ (z : ℤ). to_z w32 (of_z w32 z)) (p ∙ to_z-of_z w16 l f) ∙ to_z-of_z w32 l (wider l f) in
    let right : to_z w32 (of_z w32 b) ≡ r = ap (λ (z : ℤ). to_z w32 (of_z w32 z)) (q ∙ to_z-of_z w16 r g) ∙ to_z-of_z w32 r (wider r g) in
    let half : d ≡ int_div_euclid (l +ℤ r) (pos 2) =
    e ∙ ap (λ (z : ℤ). int_div_euclid (to_z w32 (of_z w32 (z +ℤ to_z w32 (of_z w32 b)))) (pos 2)) left ∙ ap (λ (z : ℤ). int_div_euclid (to_z w32 (of_z w32 (l +ℤ z))) (pos 2)) right
    ∙ ap (λ (z : ℤ). int_div_euclid z (pos 2)) (to_z-of_z w32 (l +ℤ r) (fits_sum l r f g)) in
    let fits = fits_half l r f g in
    ap (λ (z : ℤ). to_z w16 (of_z w16 (to_z w32 (of_z w32 z)))) half ∙ ap (λ (z : ℤ). to_z w16 (of_z w16 z)) (to_z-of_z w32 (int_div_euclid (l +ℤ r) (pos 2)) (wider (int_div_euclid (l +ℤ r) (pos 2)) fits))
    ∙ to_z-of_z w16 (int_div_euclid (l +ℤ r) (pos 2)) fits ∙ ap (λ (z : ℤ). int_div_euclid (z +ℤ r) (pos 2)) s ∙ ap (λ (z : ℤ). int_div_euclid (x +ℤ z) (pos 2)) t
