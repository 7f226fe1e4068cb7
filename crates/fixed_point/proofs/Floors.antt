-- The floor of a quotient, for each sign of the two numbers.
use Rattle.std.proofs.Common.{◌≡◌, ◌≢◌, ℕ, ℤ, pos, negsuc, zero, suc, ◌+◌, ◌*◌, ◌<◌, ◌≤◌, ◌≤ℤ◌, ◌<ℤ◌, ◌+ℤ◌, ◌*ℤ◌, neg_ℤ, refl, ⊎_elim, arith}
use Rattle.std.proofs.lemmas.Bool.{cases_lt}
use Rattle.std.proofs.lemmas.Int.{ints}
use Rattle.std.proofs.Math.Nat.{mul-le-mul_right}
use Rattle.fixed_point.specs.Rounding.{floor_div, IsFloorOf}

pub floor_div-IsFloorOf : (a b : ℤ) → b ≢ pos 0 → IsFloorOf (floor_div a b) a b
floor_div-IsFloorOf a (pos zero) h = absurd (h refl)
floor_div-IsFloorOf (pos a) (pos (suc b)) h = (omega (arith, ints), omega (arith, ints))
floor_div-IsFloorOf (negsuc a) (pos (suc b)) h = (omega (arith, ints), omega (arith, ints))
floor_div-IsFloorOf (pos zero) (negsuc b) h = (omega (arith, ints), omega (arith, ints))
floor_div-IsFloorOf (pos (suc a)) (negsuc b) h = (omega (arith, ints), omega (arith, ints))
floor_div-IsFloorOf (negsuc a) (negsuc b) h = (omega (arith, ints), omega (arith, ints))

-- of two products by b, one that is less than b past the other has no greater factor
factor_at_most : (q p b : ℕ) → q * b < p * b + b → q ≤ p
factor_at_most q p b h =
    ⊎_elim (λ past. let more : (p + 1) * b ≤ q * b = mul-le-mul_right b (omega arith) in absurd (omega arith)) (λ within. within) (cases_lt p q)

int_factor_at_most : (q p : ℤ) (b : ℕ) → (q *ℤ pos b) <ℤ (p *ℤ pos b +ℤ pos b) → q ≤ℤ p
int_factor_at_most (pos q) (pos p) b h =
    let n : q ≤ p = factor_at_most q p b (omega (arith, ints)) in omega (arith, ints)
int_factor_at_most (pos q) (negsuc p) b h = absurd (omega (arith, ints))
int_factor_at_most (negsuc q) (pos p) b h = omega (arith, ints)
int_factor_at_most (negsuc q) (negsuc p) b h =
    let n : p ≤ q = factor_at_most p q b (omega (arith, ints)) in omega (arith, ints)

-- a factor below zero negates the product
mul-negsuc : (q : ℤ) (b : ℕ) → q *ℤ negsuc b ≡ neg_ℤ (q *ℤ pos (suc b))
mul-negsuc (pos q) b = refl
mul-negsuc (negsuc q) b = omega (arith, ints)

pub floor_div-unique : (q a b : ℤ) → b ≢ pos 0 → IsFloorOf q a b → q ≡ floor_div a b
floor_div-unique q a (pos b) h floor =
    let own = floor_div-IsFloorOf a (pos b) h in
    let p = floor_div a (pos b) in
    let low = int_factor_at_most q p b (omega (arith, ints)) in
    let high = int_factor_at_most p q b (omega (arith, ints)) in
    omega (arith, ints)
floor_div-unique q a (negsuc b) h floor =
    let own = floor_div-IsFloorOf a (negsuc b) h in
    let p = floor_div a (negsuc b) in
    let e = mul-negsuc q b in
    let f = mul-negsuc p b in
    let low = int_factor_at_most q p (suc b) (omega (arith, ints)) in
    let high = int_factor_at_most p q (suc b) (omega (arith, ints)) in
    omega (arith, ints)
