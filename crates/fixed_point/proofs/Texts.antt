-- Different counts of millionths have different texts.
use Rattle.std.proofs.Common.{◌≡◌, ℕ, ℤ, pos, negsuc, zero, suc, ◌+◌, ◌/◌, ◌%◌, ◌^◌, ◌<◌, ◌≤◌, List, [], ◌∷◌, ◌++◌, length, take, drop, get_or, unsigned_abs, neg_ℤ, ◌*ℤ◌, refl, sym, ap, ◌∙◌, inl, inr, eq-zero-or-pos, arith, length-append}
use Rattle.std.proofs.lemmas.Int.{ints, unsigned_abs-mul}
use Rattle.std.proofs.lemmas.List.{get_or_append_left, take_at, drop_at, same_from_push}
use Rattle.std.proofs.lemmas.Fmt.{decimal_injective, decimal_digit, first_decimal, decimal_nonempty}
use Rattle.std.proofs.Math.Nat.{pow-suc}
use Rattle.std.specs.Fmt.{decimal}
use Rattle.std.specs.Int.RustNames.{int_div}
use Rattle.fixed_point.specs.Fix.{IsInRange}
use Rattle.fixed_point.specs.Decimals.{millionths_of, last_digits, six_decimals, signed_six_decimals, text_of}

length-last_digits : (k n : ℕ) → length (last_digits k n) ≡ k
length-last_digits zero n = refl
length-last_digits (suc k) n =
    omega (arith, length-append (last_digits k (n / 10)) ((48 + n % 10) ∷ []), length-last_digits k (n / 10))

last_digits-injective : (k m n : ℕ) → m < 10 ^ k → n < 10 ^ k → last_digits k m ≡ last_digits k n → m ≡ n
last_digits-injective zero m n small_m small_n e = omega arith
last_digits-injective (suc k) m n small_m small_n e =
    let parts = same_from_push (last_digits k (m / 10)) (last_digits k (n / 10)) (48 + m % 10) (48 + n % 10) e in
    let p = pow-suc 10 k in
    let front = last_digits-injective k (m / 10) (n / 10) (omega arith) (omega arith) parts.0 in
    omega arith

-- lists that end in as many items are equal part by part
equal_parts : (xs ys p q : List ℕ) → length p ≡ length q → xs ++ p ≡ ys ++ q → (xs ≡ ys) × (p ≡ q)
equal_parts xs ys p q same e =
    let n : length ys ≡ length xs = omega (arith, length-append xs p, length-append ys q, ap length e) in (
      sym (take_at xs p (length xs) refl) ∙ ap (take (length xs)) e ∙ take_at ys q (length xs) n,
      sym (drop_at xs p (length xs) refl) ∙ ap (drop (length xs)) e ∙ drop_at ys q (length xs) n,
    )

same_tail : (x y : ℕ) (xs ys : List ℕ) → x ∷ xs ≡ y ∷ ys → xs ≡ ys
same_tail x y xs ys e = cc

six_decimals-injective : (m n : ℕ) → m < 2 ^ 64 → n < 2 ^ 64 → six_decimals m ≡ six_decimals n → m ≡ n
six_decimals-injective m n small_m small_n e =
    let a = last_digits 6 (m % 1_000_000) in
    let b = last_digits 6 (n % 1_000_000) in
    let same : length (46 ∷ a) ≡ length (46 ∷ b) = refl in
    let parts = equal_parts (decimal (m / 1_000_000)) (decimal (n / 1_000_000)) (46 ∷ a) (46 ∷ b) same e in
    let whole = decimal_injective (m / 1_000_000) (n / 1_000_000) (omega arith) (omega arith) parts.0 in
    let decimals = last_digits-injective 6 (m % 1_000_000) (n % 1_000_000) (omega arith) (omega arith) (same_tail 46 46 a b parts.1) in
    omega arith

-- a number's digits begin with no minus
decimal-no_minus : (n : ℕ) (tail rest : List ℕ) → n < 2 ^ 64 → decimal n ++ tail ≡ 45 ∷ rest → ⊥
decimal-no_minus n tail rest small e =
    let front = get_or_append_left (decimal n) tail 0 0 (decimal_nonempty n small) in
    let first : get_or (decimal n ++ tail) 0 0 ≡ 45 = ap (λ (l : List ℕ). get_or l 0 0) e in
    elim (eq-zero-or-pos n) [
      | inl none ↦
          let digit : get_or (decimal n) 0 0 ≡ 48 + n = ap (λ (l : List ℕ). get_or l 0 0) (decimal_digit n (omega arith)) in
          omega arith
      | inr some ↦ omega (arith, first_decimal n some small)
    ]

pub signed_six_decimals-injective : (y z : ℤ) → unsigned_abs y < 2 ^ 64 → unsigned_abs z < 2 ^ 64 → signed_six_decimals y ≡ signed_six_decimals z → y ≡ z
signed_six_decimals-injective (pos m) (pos n) small_m small_n e = ap pos (six_decimals-injective m n small_m small_n e)
signed_six_decimals-injective (pos m) (negsuc n) small_m small_n e =
    absurd (decimal-no_minus (m / 1_000_000) (46 ∷ last_digits 6 (m % 1_000_000)) (six_decimals (suc n)) (omega arith) e)
signed_six_decimals-injective (negsuc m) (pos n) small_m small_n e =
    absurd (decimal-no_minus (n / 1_000_000) (46 ∷ last_digits 6 (n % 1_000_000)) (six_decimals (suc m)) (omega arith) (sym e))
signed_six_decimals-injective (negsuc m) (negsuc n) small_m small_n e =
    let same = six_decimals-injective (suc m) (suc n) small_m small_n (same_tail 45 45 _ _ e) in
    let n_is : m ≡ n = omega arith in ap negsuc n_is

unsigned_abs-neg_ℤ : (z : ℤ) → unsigned_abs (neg_ℤ z) ≡ unsigned_abs z
unsigned_abs-neg_ℤ (pos zero) = refl
unsigned_abs-neg_ℤ (pos (suc n)) = refl
unsigned_abs-neg_ℤ (negsuc n) = refl

unsigned_abs-int_div : (z : ℤ) (d : ℕ) → unsigned_abs (int_div z (pos d)) ≡ unsigned_abs z / d
unsigned_abs-int_div (pos n) d = refl
unsigned_abs-int_div (negsuc n) d = unsigned_abs-neg_ℤ (pos (suc n / d))

in_range-small : (a : ℤ) → IsInRange a → unsigned_abs a ≤ 2 ^ 63
in_range-small (pos n) raw = omega (arith, ints, raw.1)
in_range-small (negsuc n) raw = omega (arith, ints, raw.0)

millionths-small : (a : ℤ) → IsInRange a → unsigned_abs (millionths_of a) < 2 ^ 64
millionths-small a raw =
    omega (arith, unsigned_abs-int_div (a *ℤ pos 1_000_000) (2 ^ 32), unsigned_abs-mul a (pos 1_000_000), in_range-small a raw)

pub text_of-injective : (a b : ℤ) → IsInRange a → IsInRange b → text_of a ≡ text_of b → millionths_of a ≡ millionths_of b
unfolding text_of
text_of-injective a b raw_a raw_b e =
    signed_six_decimals-injective (millionths_of a) (millionths_of b) (millionths-small a raw_a) (millionths-small b raw_b) e
