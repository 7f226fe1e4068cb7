-- Oscillators with a phase: as they are made, what a tick makes of them, and their parameters.
use Rattle.std.specs.Prelude.{ℕ, ◌+◌, ◌*◌, ◌%◌, ◌^◌, ℤ, pos, ◌-ℤ◌, neg_ℤ, int_lt, nat_lt}
use Rattle.std.specs.Prelude.{Bool, true, false, if◌then◌else◌, Option, Some, None}
use Rattle.std.specs.Ordering.{int_eq}
use Rattle.ck_values.specs.Datum.{Datum, AnInt, AFloat}
use Rattle.ugen_names.specs.declared.param.Param.{Param}
use Rattle.ugen_names.specs.declared.param.Param.TheVariants as param
use Rattle.fixed_point.specs.Fix.{one, sum_of}
use Rattle.fixed_point.specs.Phase.{half_turn, phase_of, increment_of, sine_of}
use Rattle.ugen_kinds.specs.declared.choices.WaveForm.{WaveForm}
use Rattle.ugen_kinds.specs.declared.choices.WaveForm.TheVariants.{Sine, Saw, Triangle}
use Rattle.ugen_kinds.specs.declared.choices.WaveForm.TheVariants.{Square, Pulse, Ramp}
use Rattle.ugen_kinds.specs.declared.choices.Sync.{Sync}
use Rattle.ugen_kinds.specs.declared.choices.Sync.TheVariants.{Frequency, Phase, Modulation}
use Rattle.ugen_kinds.specs.declared.wave.Wave.{Wave}

-- at first it has 220 turns a second, and half a turn of width
abbrev pub first_wave : WaveForm → Wave
first_wave form =
    record {
      form = form;
      frequency = pos (220 * 2 ^ 32);
      phase = 0;
      sync = Frequency;
      width = pos (2 ^ 31);
    }

-- the raw number of a wave of this form and width at a phase
unfoldable pub height : WaveForm → (width : ℤ) → (phase : ℕ) → ℤ
height Sine width phase = sine_of phase
height Saw width phase = pos (2 * phase) -ℤ one
height Triangle width phase =
    if nat_lt phase half_turn then pos (4 * phase) -ℤ one else pos (3 * 2 ^ 32) -ℤ pos (4 * phase)
height Square width phase = if nat_lt phase half_turn then one else neg_ℤ one
height Pulse width phase = if int_lt (pos phase) width then one else neg_ℤ one
height Ramp width phase = pos phase

-- what is heard of a wave at its phase
abbrev pub height_of : Wave → ℤ
height_of w = height w.form w.width w.phase

-- the wave is heard, and then its phase goes on by a step at this frequency
abbrev pub goes_on : (frequency : ℤ) → Wave → Wave × ℤ
goes_on frequency w =
    (record w { phase = (w.phase + increment_of frequency) % 2 ^ 32 }, height_of w)

-- a source gives the frequency
abbrev pub by_frequency : Wave → (input : ℤ) → (is_fed : Bool) → Wave × ℤ
by_frequency w input true = goes_on input (record w { frequency = input })
by_frequency w input false = goes_on w.frequency w

-- a source gives the phase, which doesn't go on by itself
abbrev pub by_phase : Wave → (input : ℤ) → (is_fed : Bool) → Wave × ℤ
by_phase w input true =
    let there = record w { phase = phase_of input } in
    (there, height_of there)
by_phase w input false = by_frequency w input false

-- what a tick makes of a wave, by what a source is for: what it keeps then, and its output
abbrev pub tick_by : Sync → Wave → (input : ℤ) → (is_fed : Bool) → Wave × ℤ
tick_by Frequency w input is_fed = by_frequency w input is_fed
tick_by Phase w input is_fed = by_phase w input is_fed
tick_by Modulation w input is_fed = goes_on (sum_of w.frequency input) w

abbrev pub wave_tick : Wave → (input : ℤ) → (is_fed : Bool) → Wave × ℤ
wave_tick w input is_fed = tick_by w.sync w input is_fed

-- the number of what a source is for
abbrev pub sync_number : Sync → ℤ
sync_number Frequency = pos 0
sync_number Phase = pos 1
sync_number Modulation = pos 2

-- what a source is for by this number; another number leaves what it was for
abbrev pub sync_of : ℤ → (before : Sync) → Sync
sync_of n before =
    if int_eq n (pos 0) then Frequency
    else if int_eq n (pos 1) then Phase
    else if int_eq n (pos 2) then Modulation
    else before

-- only a pulse has a width
abbrev pub only_pulse : {A : Type 0} → WaveForm → A → Option A
only_pulse Pulse a = Some a
only_pulse _ a = None

-- the value of a parameter of a wave, where it has that parameter
abbrev pub wave_parameter : Param → Wave → Option Datum
wave_parameter param.Freq w = Some (AFloat w.frequency)
wave_parameter param.Phase w = Some (AFloat (pos w.phase))
wave_parameter param.Sync w = Some (AnInt (sync_number w.sync))
wave_parameter param.Width w = only_pulse w.form (AFloat w.width)
wave_parameter _ w = None

-- the wave with a parameter set, where it has that parameter and the value has its kind
abbrev pub with_wave_parameter : Param → Datum → Wave → Option Wave
with_wave_parameter param.Freq (AFloat x) w = Some (record w { frequency = x })
with_wave_parameter param.Phase (AFloat x) w = Some (record w { phase = phase_of x })
with_wave_parameter param.Sync (AnInt n) w = Some (record w { sync = sync_of n w.sync })
with_wave_parameter param.Width (AFloat x) w = only_pulse w.form (record w { width = x })
with_wave_parameter _ _ w = None
