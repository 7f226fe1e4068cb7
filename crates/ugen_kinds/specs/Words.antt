-- Random words.
use Rattle.std.specs.Prelude.{ℕ}
use Rattle.rand_pcg.specs.Lcg.{Lcg, started, increment_of}
use Rattle.rand_pcg.specs.Pcg.{multiplier_64}

-- the generator of words of 32 bits that a number of 64 bits starts, on stream 54
unfoldable pub words_from : ℕ → Lcg
words_from seed = started 64 multiplier_64 seed (increment_of 64 54)

-- the generator that a run begins with
abbrev pub first_words : Lcg
first_words = words_from 42
