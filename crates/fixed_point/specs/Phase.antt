-- The phase of an oscillator, a number below 2^32 of which a turn has 2^32, its step and its sine.
use Rattle.std.specs.Prelude.{ℕ, ℤ, pos, neg_ℤ, ◌-◌, ◌*◌, ◌/◌, ◌%◌, ◌^◌, Bool, true, false, nat_lt, unsigned_abs}
use Rattle.std.specs.Int.{int_rem_euclid}
use Rattle.fixed_point.specs.Rounding.{floor_div}

-- the phase at which the second half of a turn begins
abbrev pub half_turn : ℕ
half_turn = 2 ^ 31

-- a whole number as a phase: modulo a turn
abbrev pub phase_of : ℤ → ℕ
phase_of z = unsigned_abs (int_rem_euclid z (pos (2 ^ 32)))

-- how far the phase goes on at each of the 44,100 samples of a second, at a frequency of so many
-- turns a second, of which the raw number is given
abbrev pub increment_of : ℤ → ℕ
increment_of frequency = phase_of (floor_div frequency (pos 44_100))

-- the raw number of the sine's arch at a phase of the first half of a turn: with u twice the phase
-- and k = u (2^32 - u), it is 16 k / (5 * 2^64 - 4 k), a quotient of two parabolas
unfoldable pub arch_of : ℕ → ℕ
arch_of phase =
    let u = 2 * phase in
    let k = u * (2 ^ 32 - u) in
    16 * k * 2 ^ 32 / (5 * 2 ^ 64 - 4 * k)

-- a number with its sign
abbrev pub signed_by : (is_above : Bool) → ℕ → ℤ
signed_by true n = pos n
signed_by false n = neg_ℤ (pos n)

-- the raw number of the sine of a phase: the second half of a turn is the first below zero
abbrev pub sine_of : ℕ → ℤ
sine_of phase = signed_by (nat_lt phase half_turn) (arch_of (phase % half_turn))
