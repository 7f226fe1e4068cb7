-- Numbers in digits: how they grow, and where they are past their range.
use Rattle.std.proofs.Common.{◌≡◌, ℕ, zero, suc, ◌+◌, ◌-◌, ◌*◌, ◌^◌, ◌<◌, ◌≤◌, true, List, length}
use Rattle.std.proofs.Common.{get_or, subst, arith, add-suc, add-zero}
use Rattle.std.proofs.lemmas.Grind.{pow_more}
use Rattle.std.proofs.lemmas.Bool.Decides.{nat_tests}
use Rattle.std.proofs.lemmas.List.Elements.{All-get_or}
use Rattle.std.proofs.lemmas.List.Sums.{AllPass-from_list_all}
use Rattle.std.proofs.Math.Nat.{pow-suc}
use Rattle.std.specs.List.{list_all}
use Rattle.ck_lexer.specs.Bytes.{is_digit}

-- one decimal digit more
pub decimal_more : (i value digit : ℕ) → value < 10 ^ i → digit ≤ 9
    → 10 * value + digit < 10 ^ (i + 1)
decimal_more i value digit below small = omega (arith, pow_more 10 i)

ten_power_grows : (i k : ℕ) → 10 ^ i ≤ 10 ^ (i + k)
ten_power_grows i zero = rw add-zero (omega arith)
ten_power_grows i (suc k) = rw add-suc (omega (arith, ten_power_grows i k, pow-suc 10 (i + k)))

-- nine digits stay below a thousand million
pub nine_digits : (i : ℕ) → i ≤ 9 → 10 ^ i ≤ 1000000000
nine_digits i few =
    let e : i + (9 - i) ≡ 9 = omega arith in
    let P : ℕ → Type 0 = λ n. 10 ^ i ≤ 10 ^ n in subst P e (ten_power_grows i (9 - i))

-- each of the bytes is a digit, so this one stands for at most nine
pub digit_at : (bytes : List ℕ) (i : ℕ) → i < length bytes → list_all is_digit bytes ≡ true
    → get_or bytes i 0 - 48 ≤ 9
digit_at bytes i within all =
    let P : ℕ → Type 0 = λ byte. is_digit byte ≡ true in
    let here : is_digit (get_or bytes i 0) ≡ true =
    All-get_or P bytes i 0 within (AllPass-from_list_all is_digit bytes all) in
    grind (arith, nat_tests, here)
