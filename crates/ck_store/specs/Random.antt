-- Random numbers from the words of a generator.
use Rattle.std.specs.Prelude.{ℕ, suc, ◌+◌, ◌*◌, ◌/◌, ◌%◌, ◌^◌, ℤ, pos, ◌+ℤ◌, ◌-ℤ◌, unsigned_abs}
use Rattle.std.specs.Int.{w64, cast_unsigned, int_min}
use Rattle.rand_pcg.specs.Lcg.{Lcg}
use Rattle.rand_pcg.specs.Pcg.{pcg32}

-- a number, and the generator that is left
pub record Drawn : Type 0 where
  pub number : ℤ
  pub words : Lcg

-- how far two numbers are apart
abbrev pub gap : ℤ → ℤ → ℕ
gap a b = unsigned_abs (a -ℤ b)

-- an int from the smaller of two to the greater, both among them: two words of 32 bits, the first
-- one above, modulo how many such ints there are
unfoldable pub int_drawn : (a b : ℤ) → Lcg → Drawn
int_drawn a b words =
    let high = pcg32 words in
    let low = pcg32 high.1 in
    record {
      number = int_min a b +ℤ pos ((high.0 * 2 ^ 32 + low.0) % suc (gap a b));
      words = low.1;
    }

-- a float from the smaller of two, short of the greater: one word's part of the way, where all
-- words are 2^32. All are raw numbers
unfoldable pub float_drawn : (a b : ℤ) → Lcg → Drawn
float_drawn a b words =
    let word = pcg32 words in
    record {
      number = int_min a b +ℤ pos (gap a b * word.0 / 2 ^ 32);
      words = word.1;
    }

-- a seed as a number of 64 bits without a sign
abbrev pub seed_of : ℤ → ℕ
seed_of n = cast_unsigned w64 n
