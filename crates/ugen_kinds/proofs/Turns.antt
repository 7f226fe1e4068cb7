-- The phase of a wave stays within a turn.
use Rattle.std.proofs.Common.{◌<◌, ◌^◌, ℤ, pos, negsuc, Bool, true, false, arith}
use Rattle.ugen_kinds.specs.declared.choices.Sync.{Sync}
use Rattle.ugen_kinds.specs.declared.choices.Sync.TheVariants.{Frequency, Phase, Modulation}
use Rattle.ugen_kinds.specs.declared.wave.Wave.{Wave}
use Rattle.ugen_kinds.specs.Wave.{goes_on, tick_by, wave_tick}
use Rattle.fixed_point.specs.Phase.{phase_of}

phase_below : (x : ℤ) → phase_of x < 2 ^ 32
phase_below (pos a) = omega arith
phase_below (negsuc a) = omega arith

goes_on_below : (frequency : ℤ) (w : Wave) → (goes_on frequency w).0.phase < 2 ^ 32
goes_on_below frequency w = omega arith

by_below : (sync : Sync) (w : Wave) (x : ℤ) (fed : Bool) → (tick_by sync w x fed).0.phase < 2 ^ 32
by_below Frequency w x true = goes_on_below x (record w { frequency = x })
by_below Frequency w x false = goes_on_below w.frequency w
by_below Phase w x true = phase_below x
by_below Phase w x false = goes_on_below w.frequency w
by_below Modulation w x fed = goes_on_below _ w

pub tick_below : (w : Wave) (x : ℤ) (fed : Bool) → (wave_tick w x fed).0.phase < 2 ^ 32
tick_below w x fed = by_below w.sync w x fed
