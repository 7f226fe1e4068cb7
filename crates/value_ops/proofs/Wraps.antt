-- Numbers modulo 2^64.
use Rattle.std.proofs.Common.{◌≡◌, ℕ, ℤ, zero, suc, refl, sym, ◌+◌, pos, negsuc, ◌-◌, ◌/◌, ◌%◌, ◌<◌, ◌≤◌, ⊎_elim, ap, ◌+ℤ◌, ◌-ℤ◌, ◌*ℤ◌, neg_ℤ, ◌^◌, unsigned_abs, arith, ◌∙◌, FitsSigned}
use Rattle.std.specs.Int.RustNames.{int_div}
use Rattle.std.specs.Int.{w64, int_wrap, int_wrapping_add, int_wrapping_sub, int_wrapping_mul, int_wrapping_div, int_wrapping_neg, int_shl, int_rem_euclid, cast_signed, cast_unsigned}
use Rattle.std.proofs.Math.Nat.{div-le_self}
use Rattle.std.proofs.Math.Pow.{pow-lt}
use Rattle.std.proofs.lemmas.Bool.{cases_lt}
use Rattle.std.proofs.lemmas.Int.{ints, to_z_pos, to_z-of_z, wrapping_add_is, wrapping_sub_is, wrapping_mul_is, wrapping_neg_is, wrapping_mul-bits, int_wrap-mul_right}
use mir.Facts.{to_z-neg}
use Rattle.ck_store.specs.Operators.{wrapped}

-- half the range more, modulo the range
more_low : (a : ℕ) → a % 2 ^ 64 < 2 ^ 63 → (a + 2 ^ 63) % 2 ^ 64 ≡ a % 2 ^ 64 + 2 ^ 63
more_low a low = omega arith

more_high : (a : ℕ) → 2 ^ 63 ≤ a % 2 ^ 64 → (a + 2 ^ 63) % 2 ^ 64 + 2 ^ 63 ≡ a % 2 ^ 64
more_high a high = omega arith

-- half the range less
less_low : (a : ℕ) → 2 ^ 63 ≤ a → a % 2 ^ 64 < 2 ^ 63 → (a - 2 ^ 63) % 2 ^ 64 ≡ a % 2 ^ 64 + 2 ^ 63
less_low a far low = omega arith

less_high : (a : ℕ) → 2 ^ 63 ≤ a → 2 ^ 63 ≤ a % 2 ^ 64 → (a - 2 ^ 63) % 2 ^ 64 + 2 ^ 63 ≡ a % 2 ^ 64
less_high a far high = omega arith

-- a number of 64 bits as a signed one
signed_low : (n : ℕ) → n < 2 ^ 63 → cast_signed w64 n ≡ pos n
signed_low n low = to_z_pos w64 n low

signed_high : (n k : ℕ) → k < 2 ^ 63 → n ≡ 2 ^ 64 - suc k → cast_signed w64 n ≡ negsuc k
signed_high n k low is = ap (cast_signed w64) is ∙ to_z-neg w64 k low

wrapped_pos : (a : ℕ) → cast_signed w64 (a % 2 ^ 64) ≡ pos ((a + 2 ^ 63) % 2 ^ 64) -ℤ pos (2 ^ 63)
wrapped_pos a =
    ⊎_elim (λ low. let m = more_low a low in signed_low _ low ∙ omega (arith, ints))
    (λ high. let m = more_high a high in
    signed_high _ (2 ^ 64 - suc (a % 2 ^ 64)) (omega arith) (omega arith) ∙ omega (arith, ints))
    (cases_lt (a % 2 ^ 64) (2 ^ 63))

wrapped_below : (a : ℕ) → a < 2 ^ 63 → cast_signed w64 (2 ^ 64 - 1 - a % 2 ^ 64)
    ≡ pos ((2 ^ 63 - 1 - a) % 2 ^ 64) -ℤ pos (2 ^ 63)
wrapped_below a below =
    let m : (2 ^ 63 - 1 - a) % 2 ^ 64 ≡ 2 ^ 63 - 1 - a = omega arith in
    signed_high _ a below (omega arith) ∙ omega (arith, ints)

wrapped_far : (a : ℕ) → 2 ^ 63 ≤ a → cast_signed w64 (2 ^ 64 - 1 - a % 2 ^ 64)
    ≡ pos (2 ^ 64 - 1 - (a - 2 ^ 63) % 2 ^ 64) -ℤ pos (2 ^ 63)
wrapped_far a far =
    ⊎_elim
    (λ low. let m = less_low a far low in
    signed_high _ (a % 2 ^ 64) low (omega arith) ∙ omega (arith, ints))
    (λ high. let m = less_high a far high in signed_low _ (omega arith) ∙ omega (arith, ints))
    (cases_lt (a % 2 ^ 64) (2 ^ 63))

wrapped_negsuc : (a : ℕ) → cast_signed w64 (2 ^ 64 - 1 - a % 2 ^ 64) ≡ wrapped (negsuc a)
wrapped_negsuc a =
    ⊎_elim
    (λ below. let moved : negsuc a +ℤ pos (2 ^ 63) ≡ pos (2 ^ 63 - 1 - a) = omega (arith, ints) in
    wrapped_below a below ∙ sym (ap (λ z. int_rem_euclid z (pos (2 ^ 64)) -ℤ pos (2 ^ 63)) moved))
    (λ far. let moved : negsuc a +ℤ pos (2 ^ 63) ≡ negsuc (a - 2 ^ 63) = omega (arith, ints) in
    wrapped_far a far ∙ sym (ap (λ z. int_rem_euclid z (pos (2 ^ 64)) -ℤ pos (2 ^ 63)) moved))
    (cases_lt a (2 ^ 63))

wrap_is : (z : ℤ) → int_wrap w64 z ≡ wrapped z
unfolding int_wrap
wrap_is (pos a) = wrapped_pos a
wrap_is (negsuc a) = wrapped_negsuc a

pub wrapped_sum : (a b : ℤ) → FitsSigned w64 a → FitsSigned w64 b
    → int_wrapping_add w64 a b ≡ wrapped (a +ℤ b)
wrapped_sum a b fits_a fits_b = wrapping_add_is w64 a b fits_a fits_b ∙ wrap_is (a +ℤ b)

pub wrapped_difference : (a b : ℤ) → FitsSigned w64 a → FitsSigned w64 b
    → int_wrapping_sub w64 a b ≡ wrapped (a -ℤ b)
wrapped_difference a b fits_a fits_b = wrapping_sub_is w64 a b fits_a fits_b ∙ wrap_is (a -ℤ b)

pub wrapped_product : (a b : ℤ) → FitsSigned w64 a → FitsSigned w64 b
    → int_wrapping_mul w64 a b ≡ wrapped (a *ℤ b)
wrapped_product a b fits_a fits_b = wrapping_mul_is w64 a b fits_a fits_b ∙ wrap_is (a *ℤ b)

-- the bits of a number that needs at most 65, its sign among them
pub recast : (z : ℤ) → unsigned_abs z < 2 ^ 64 → cast_signed w64 (cast_unsigned w64 z) ≡ wrapped z
recast (pos n) small =
    let m : n % 2 ^ 64 ≡ n = omega arith in ap (cast_signed w64) (sym m) ∙ wrapped_pos n
recast (negsuc n) small =
    let m : 2 ^ 64 - suc n ≡ 2 ^ 64 - 1 - n % 2 ^ 64 = omega arith in
    ap (cast_signed w64) m ∙ wrapped_negsuc n

unsigned_abs-neg_ℤ : (n : ℕ) → unsigned_abs (neg_ℤ (pos n)) ≡ n
unsigned_abs-neg_ℤ zero = refl
unsigned_abs-neg_ℤ (suc n) = refl

-- no quotient is past its dividend
quotient_small : (a b : ℤ) → FitsSigned w64 a → unsigned_abs (int_div a b) < 2 ^ 64
quotient_small (pos a) (pos b) fits = omega (arith, fits.sfits, div-le_self a b)
quotient_small (pos a) (negsuc b) fits =
    rw (unsigned_abs-neg_ℤ (a / suc b)) (omega (arith, fits.sfits, div-le_self a (suc b)))
quotient_small (negsuc a) (pos b) fits =
    rw (unsigned_abs-neg_ℤ (suc a / b)) (omega (arith, fits.sfits, div-le_self (suc a) b))
quotient_small (negsuc a) (negsuc b) fits = omega (arith, fits.sfits, div-le_self (suc a) (suc b))

pub wrapped_quotient : (a b : ℤ) → FitsSigned w64 a
    → int_wrapping_div w64 a b ≡ wrapped (int_div a b)
wrapped_quotient a b fits = recast (int_div a b) (quotient_small a b fits)

pub wrapped_negation : (a : ℤ) → FitsSigned w64 a → int_wrapping_neg w64 a ≡ wrapped (neg_ℤ a)
wrapped_negation a fits = wrapping_neg_is w64 a fits ∙ wrap_is (neg_ℤ a)

bits_fit : (a : ℤ) → FitsSigned w64 a → cast_unsigned w64 a < 2 ^ 64
bits_fit (pos n) fits = omega (arith, fits.sfits)
bits_fit (negsuc n) fits = omega arith

power_wraps : (n : ℕ) → n ≡ n % 2 ^ 64 → cast_signed w64 n ≡ int_wrap w64 (pos n)
unfolding int_wrap
power_wraps n whole = ap (cast_signed w64) whole

-- a shift to the left is a product
pub wrapped_shift : (a : ℤ) (k : ℕ) → k < 64 → FitsSigned w64 a
    → int_shl w64 a (k % 64) ≡ wrapped (a *ℤ pos (2 ^ k))
wrapped_shift a k small fits =
    let m : k % 64 ≡ k = omega arith in
    let power : 2 ^ k < 2 ^ 64 = pow-lt small in
    let whole : 2 ^ k ≡ 2 ^ k % 2 ^ 64 = omega arith in
    rw m (
    wrapping_mul-bits w64 (cast_unsigned w64 a) (2 ^ k) (bits_fit a fits) power
    ∙ ap (λ z. int_wrap w64 (z *ℤ cast_signed w64 (2 ^ k))) (to_z-of_z w64 a fits)
    ∙ ap (λ n. int_wrap w64 (a *ℤ n)) (power_wraps (2 ^ k) whole)
    ∙ int_wrap-mul_right w64 a (pos (2 ^ k))
    ∙ wrap_is (a *ℤ pos (2 ^ k)))

pub ruleset wraps = (
  wrapped_sum,
  wrapped_difference,
  wrapped_product,
  wrapped_quotient,
  wrapped_negation,
)
