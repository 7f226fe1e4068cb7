-- The sine's quotient in fewer bits.
use Rattle.std.proofs.Common.{◌≡◌, ℕ, ◌+◌, ◌-◌, ◌*◌, ◌/◌, ◌%◌, ◌<◌, ◌≤◌, refl, ap, ⊎_elim, to_z, w64, pos, arith}
use Rattle.std.proofs.lemmas.Int.{to_z_pos}
use Rattle.std.proofs.lemmas.Bool.{cases_lt}
use Rattle.std.proofs.lemmas.Nat.{div_below}
use Rattle.std.proofs.Math.Nat.{mul-div-mul_left}
use Rattle.fixed_point.specs.Phase.{arch_of}

square_most : (h e : ℕ) → 2 * h + e ≡ 2147483648 → h * (h + e) ≤ 1152921504606846976
square_most h e is =
    let p : (2 * h + e) * (2 * h + e) ≡ 2147483648 * 2147483648 = ap (λ (x : ℕ). x * x) is in omega (arith, p)

-- two numbers with this sum have no greater product than two equal ones
pub product_most : (h d : ℕ) → h + d ≡ 2147483648 → h * d ≤ 1152921504606846976
product_most h d e =
    ⊎_elim (λ less. let s = square_most h (d - h) (omega arith) in let same : h + (d - h) ≡ d = omega arith in rw same at s) (λ most. let s = square_most d (h - d) (omega arith) in let same : d + (h - d) ≡ h = omega arith in let t : d * h ≤ 1152921504606846976 = rw same at s in omega (arith, t)) (cases_lt h d)

scaled : (a : ℕ) → a ≤ 1152921504606846976 → 16 * (4 * a) * 4294967296 / (92233720368547758080 - 4 * (4 * a)) ≡ a * 17179869184 / (5764607523034234880 - a)
scaled a h =
    let n : 16 * (4 * a) * 4294967296 ≡ 16 * (a * 17179869184) = omega arith in
    let d : 92233720368547758080 - 4 * (4 * a) ≡ 16 * (5764607523034234880 - a) = omega arith in
    rw (n, d) (mul-div-mul_left {m = 16} (a * 17179869184) (5764607523034234880 - a) (omega arith))

pub arch_is : (h : ℕ) → h < 2147483648 → arch_of h ≡ (h * (2147483648 - h)) * 17179869184 / (5764607523034234880 - h * (2147483648 - h))
unfolding arch_of
arch_is h small =
    let d = 2147483648 - h in
    let twice : 4294967296 - 2 * h ≡ 2 * d = omega arith in
    let four : 2 * h * (2 * d) ≡ 4 * (h * d) = omega arith in
    rw (twice, four) (scaled (h * d) (product_most h d (omega arith)))

pub arch_most : (h : ℕ) → h < 2147483648 → arch_of h ≤ 4294967296
arch_most h small =
    let a = h * (2147483648 - h) in
    let m : a ≤ 1152921504606846976 = product_most h (2147483648 - h) (omega arith) in
    let b : a * 17179869184 / (5764607523034234880 - a) < 4294967297 = div_below (a * 17179869184) (5764607523034234880 - a) 4294967297 (omega arith) (omega arith) in
    rw (arch_is h small) (omega (arith, b))

-- what the code divides
pub arch_code : (h r s : ℕ) → h < 2147483648 → r ≡ h * (2147483648 - h) → s ≡ 5764607523034234880 - h * (2147483648 - h)
    → to_z w64 (r * 17179869184 % 340282366920938463463374607431768211456 / s) ≡ pos (arch_of h)
arch_code h r s small f g =
    let m : r ≤ 1152921504606846976 = rw f (product_most h (2147483648 - h) (omega arith)) in
    let e : r * 17179869184 % 340282366920938463463374607431768211456 ≡ r * 17179869184 = omega arith in
    rw (e, f, g, ← arch_is h small) (to_z_pos w64 (arch_of h) (omega (arith, arch_most h small)))

pub base_least : (h : ℕ) → h < 2147483648 → 4611686018427387904 ≤ 5764607523034234880 - h * (2147483648 - h)
base_least h small = let m : h * (2147483648 - h) ≤ 1152921504606846976 = product_most h (2147483648 - h) (omega arith) in omega arith

pub arch_quick : (h r q : ℕ) → h < 2147483648 → r ≡ h * (2147483648 - h) → q ≡ r * 17179869184 % 340282366920938463463374607431768211456 / (5764607523034234880 - h * (2147483648 - h)) → to_z w64 q ≡ pos (arch_of h)
arch_quick h r q small f e =
    let c = arch_code h r (5764607523034234880 - h * (2147483648 - h)) small f refl in rw e c
