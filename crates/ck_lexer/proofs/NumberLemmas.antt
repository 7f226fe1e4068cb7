-- The numbers that digits write.
use Rattle.std.proofs.Common.{◌≡◌, ℕ, ◌+◌, ◌*◌, ◌^◌, ◌<◌, ◌≤◌, List, [], ◌∷◌, ◌++◌, length, take, drop, get_or, fold, refl, sym, ap, ◌∙◌, subst, arith, true, false, nat_le, min, pos, ℤ, to_z, of_z, w64}
use lib.Signed.{lt_z}
use mir.Val.{SFits}
use Rattle.std.specs.Int.{div_ceil}
use Rattle.std.proofs.lemmas.Int.{ints, to_z-of_z, to_z_pos}
use Rattle.std.proofs.lemmas.Bool.Decides.{nat_tests}
use Rattle.std.proofs.Math.Nat.{mul-le-mul_left}
use Rattle.std.proofs.lemmas.List.{take-append-drop}
use Rattle.std.proofs.lemmas.List.Sums.{fold-append, fold_more}
use Rattle.ck_lexer.specs.Numbers.{digit_value, number_in, max_int, max_whole, raw_of}

-- one more digit
pub number_in-more : (base : ℕ) (ds : List ℕ) (i : ℕ) → i < length ds → number_in base (take (i + 1) ds) ≡ number_in base (take i ds) * base + digit_value (get_or ds i 0)
number_in-more base ds i h = fold_more (λ n b. n * base + digit_value b) 0 ds i 0 h

-- further digits never make it less
grows : (base n : ℕ) (ds : List ℕ) → 1 ≤ base → n ≤ fold (λ m b. m * base + digit_value b) n ds
grows base n [] h = omega arith
grows base n (d ∷ ds) h =
    let i = grows base (n * base + digit_value d) ds h in
    let j = mul-le-mul_left n h in
    omega (arith, i, j)

pub number_in-take : (base : ℕ) (ds : List ℕ) (i : ℕ) → 1 ≤ base → number_in base (take i ds) ≤ number_in base ds
number_in-take base ds i h =
    let e = fold-append (λ m b. m * base + digit_value b) 0 (take i ds) (drop i ds) in
    let k = ap (number_in base) (take-append-drop i ds) in
    let g = grows base (number_in base (take i ds)) (drop i ds) h in
    subst (λ x. number_in base (take i ds) ≤ x) (sym e ∙ k) g

-- once it is past the greatest int it stays so
pub too_great : (base : ℕ) (ds : List ℕ) (i number b v : ℕ) → 1 ≤ base → i < length ds → number ≡ number_in base (take i ds) → b ≡ base → v ≡ digit_value (get_or ds i 0) → max_int < number * b + v → max_int < number_in base ds
too_great base ds i number b v one h e f g past =
    let m = number_in-more base ds i h in
    let t = number_in-take base ds (i + 1) one in
    let s : number * b + v ≡ number_in base (take (i + 1) ds) = cc in
    omega (arith, s, t)

-- ints that come back from 64 bits
pub as_int : (z : ℤ) (n : ℕ) → z ≡ pos n → n ≤ max_int → to_z w64 (of_z w64 z) ≡ pos n
as_int z n e h = let f : SFits w64 z = search (arith, ints, e, h) in to_z-of_z w64 z f ∙ e

pub small_whole : (z : ℤ) (n : ℕ) → z ≡ pos n → n ≤ max_int → lt_z (pos max_whole) (to_z w64 (of_z w64 z)) ≡ false → nat_le n max_whole ≡ true
small_whole z n e h l = let i : lt_z (pos max_whole) (pos n) ≡ false = sym (ap (lt_z (pos max_whole)) (as_int z n e h)) ∙ l in grind (arith, ints, nat_tests)

pub great_whole : (z : ℤ) (n : ℕ) → z ≡ pos n → n ≤ max_int → lt_z (pos max_whole) (to_z w64 (of_z w64 z)) ≡ true → nat_le n max_whole ≡ false
great_whole z n e h l = let i : lt_z (pos max_whole) (pos n) ≡ true = sym (ap (lt_z (pos max_whole)) (as_int z n e h)) ∙ l in grind (arith, ints, nat_tests)

-- a float from its parts
pub float_is : (whole decimals counted : List ℕ) (number scale units : ℕ) (z : ℤ) → counted ≡ take 18 decimals → number ≡ number_in 10 (whole ++ counted) → scale ≡ 10 ^ length counted
    → units ≡ div_ceil (number * 2 ^ 32) scale → z ≡ to_z w64 (min units max_int) → z ≡ pos (raw_of whole decimals)
float_is whole decimals counted number scale units z c n s u e =
    let raw : min units max_int ≡ raw_of whole decimals = rw (u, n, s, c) refl in
    let small : min units max_int < 2 ^ 63 = omega arith in
    e ∙ to_z_pos w64 (min units max_int) small ∙ ap (λ m. pos m) raw
