-- Noise: random words of its own, heard as numbers.
use Rattle.std.specs.Prelude.{ℕ, ◌*◌, ℤ, pos, ◌-ℤ◌}
use Rattle.fixed_point.specs.Fix.{one}
use Rattle.rand_pcg.specs.Pcg.{pcg32}
use Rattle.ugen_kinds.specs.declared.noise.Noise.{Noise}
use Rattle.ugen_kinds.specs.Words.{words_from}

-- the number of its object starts its words
abbrev pub first_noise : (number : ℕ) → Noise
first_noise number = record { words = words_from number }

-- a random word of 32 bits as a raw number from -1 to below 1
abbrev pub noise_of : (word : ℕ) → ℤ
noise_of word = pos (2 * word) -ℤ one

-- what a tick makes of noise, and its output: the next word of its own generator
abbrev pub noise_tick : Noise → Noise × ℤ
noise_tick n =
    let drawn = pcg32 n.words in
    (record n { words = drawn.1 }, noise_of drawn.0)
