-- What a unit generator of each kind keeps from sample to sample, and what a tick makes of it.
use Rattle.std.specs.Prelude.{ℕ, ℤ, Bool, true, false, List, Option, Some, None, option_map}
use Rattle.ck_values.specs.Datum.{Datum}
use Rattle.ugen_names.specs.declared.param.Param.{Param}
use Rattle.ugen_names.specs.declared.table.UgenKind.{UgenKind}
use Rattle.ugen_names.specs.declared.table.UgenKind.TheVariants as kind
use Rattle.ugen_kinds.specs.declared.choices.WaveForm.{WaveForm}
use Rattle.ugen_kinds.specs.declared.choices.WaveForm.TheVariants.{Sine, Saw, Triangle, Square, Pulse, Ramp}
use Rattle.ugen_kinds.specs.declared.generator.Generator.{Generator}
use Rattle.ugen_kinds.specs.declared.generator.Generator.TheVariants.{Dac, Blackhole, Gain, Wave, Impulse, Step, Noise}
use Rattle.ugen_kinds.specs.declared.generator.Generator.TheVariants.{Envelope, Adsr, Delay, DelayL, Echo}
use Rattle.ugen_kinds.specs.declared.generator.Generator.TheVariants.{OnePole, OneZero, BiQuad, Pan2}
use Rattle.ugen_kinds.specs.declared.output.Output.{Output}
use Rattle.ugen_kinds.specs.SoundFile.{SoundFile}
use Rattle.ugen_kinds.specs.Output.{both}
use Rattle.ugen_kinds.specs.Wave.{first_wave, wave_tick, wave_parameter, with_wave_parameter}
use Rattle.ugen_kinds.specs.Impulse.{first_impulse, impulse_tick, impulse_parameter, with_impulse_parameter}
use Rattle.ugen_kinds.specs.Step.{first_step, step_tick, step_parameter, with_step_parameter}
use Rattle.ugen_kinds.specs.Noise.{first_noise, noise_tick}
use Rattle.ugen_kinds.specs.Envelope.{first_envelope, envelope_tick, envelope_keyed}
use Rattle.ugen_kinds.specs.Envelope.{envelope_parameter, with_envelope_parameter}
use Rattle.ugen_kinds.specs.Adsr.{first_adsr, adsr_tick, adsr_keyed, with_stages, adsr_parameter}
use Rattle.ugen_kinds.specs.Line.{first_line, delay_tick, line_parameter, with_line_parameter, is_past_line}
use Rattle.ugen_kinds.specs.DelayL.{first_delay_l, delay_l_tick, delay_l_parameter, with_delay_l_parameter}
use Rattle.ugen_kinds.specs.Echo.{first_echo, echo_tick, echo_parameter, with_echo_parameter}
use Rattle.ugen_kinds.specs.OnePole.{first_one_pole, one_pole_tick, one_pole_parameter, with_one_pole_parameter}
use Rattle.ugen_kinds.specs.OneZero.{first_one_zero, one_zero_tick, one_zero_parameter, with_one_zero_parameter}
use Rattle.ugen_kinds.specs.BiQuad.{first_biquad, biquad_tick, biquad_parameter, with_biquad_parameter}
use Rattle.ugen_kinds.specs.Pan2.{first_pan, panned, pan_parameter, with_pan_parameter}

-- a wave's form is its kind
abbrev pub wave_kind : WaveForm → UgenKind
wave_kind Sine = kind.SinOsc
wave_kind Saw = kind.SawOsc
wave_kind Triangle = kind.TriOsc
wave_kind Square = kind.SqrOsc
wave_kind Pulse = kind.PulseOsc
wave_kind Ramp = kind.Phasor

-- the kind is read off what is kept
abbrev pub kind_of : Generator → UgenKind
kind_of Dac = kind.Dac
kind_of Blackhole = kind.Blackhole
kind_of Gain = kind.Gain
kind_of (Wave w) = wave_kind w.form
kind_of (Impulse i) = kind.Impulse
kind_of (Step s) = kind.Step
kind_of (Noise n) = kind.Noise
kind_of (Envelope e) = kind.Envelope
kind_of (Adsr a) = kind.Adsr
kind_of (Delay l) = kind.Delay
kind_of (DelayL d) = kind.DelayL
kind_of (Echo e) = kind.Echo
kind_of (OnePole f) = kind.OnePole
kind_of (OneZero f) = kind.OneZero
kind_of (BiQuad f) = kind.BiQuad
kind_of (Pan2 p) = kind.Pan2

-- the kinds that have a state here
abbrev pub has_state : UgenKind → Bool
has_state kind.UGen = false
has_state kind.SndBuf = false
has_state _ = true

-- what one of this kind keeps at first, where it is the object with this number
abbrev pub first_of : UgenKind → (number : ℕ) → Generator
first_of kind.UGen number = Gain
first_of kind.Dac number = Dac
first_of kind.Blackhole number = Blackhole
first_of kind.Gain number = Gain
first_of kind.SinOsc number = Wave (first_wave Sine)
first_of kind.SawOsc number = Wave (first_wave Saw)
first_of kind.TriOsc number = Wave (first_wave Triangle)
first_of kind.SqrOsc number = Wave (first_wave Square)
first_of kind.PulseOsc number = Wave (first_wave Pulse)
first_of kind.Phasor number = Wave (first_wave Ramp)
first_of kind.Impulse number = Impulse first_impulse
first_of kind.Step number = Step first_step
first_of kind.Noise number = Noise (first_noise number)
first_of kind.Envelope number = Envelope first_envelope
first_of kind.Adsr number = Adsr first_adsr
first_of kind.Delay number = Delay first_line
first_of kind.DelayL number = DelayL first_delay_l
first_of kind.Echo number = Echo first_echo
first_of kind.OnePole number = OnePole first_one_pole
first_of kind.OneZero number = OneZero first_one_zero
first_of kind.BiQuad number = BiQuad first_biquad
first_of kind.Pan2 number = Pan2 first_pan
first_of kind.SndBuf number = Gain

abbrev pub keeps : {A : Type 0} → (A → Generator) → A × ℤ → Generator × Output
keeps of_it (a, y) = (of_it a, both y)

-- what a tick makes of what a unit generator keeps, and its output before the gain: the same number
-- on both sides, but of Pan2. One that keeps nothing gives its input
unfoldable pub tick_of : List SoundFile → Generator → (input : ℤ) → (is_fed : Bool)
    → Generator × Output
tick_of waves Dac x is_fed = (Dac, both x)
tick_of waves Blackhole x is_fed = (Blackhole, both x)
tick_of waves Gain x is_fed = (Gain, both x)
tick_of waves (Wave w) x is_fed = keeps Wave (wave_tick w x is_fed)
tick_of waves (Impulse i) x is_fed = keeps Impulse (impulse_tick i)
tick_of waves (Step s) x is_fed = keeps Step (step_tick s)
tick_of waves (Noise n) x is_fed = keeps Noise (noise_tick n)
tick_of waves (Envelope e) x is_fed = keeps Envelope (envelope_tick e x)
tick_of waves (Adsr a) x is_fed = keeps Adsr (adsr_tick a x)
tick_of waves (Delay l) x is_fed = keeps Delay (delay_tick l x)
tick_of waves (DelayL d) x is_fed = keeps DelayL (delay_l_tick d x)
tick_of waves (Echo e) x is_fed = keeps Echo (echo_tick e x)
tick_of waves (OnePole f) x is_fed = keeps OnePole (one_pole_tick f x)
tick_of waves (OneZero f) x is_fed = keeps OneZero (one_zero_tick f x)
tick_of waves (BiQuad f) x is_fed = keeps BiQuad (biquad_tick f x)
tick_of waves (Pan2 p) x is_fed = (Pan2 p, panned p x)

-- the value of a parameter that a kind has of its own
unfoldable pub own_parameter : List SoundFile → Param → Generator → Option Datum
own_parameter waves p (Wave w) = wave_parameter p w
own_parameter waves p (Impulse i) = impulse_parameter p i
own_parameter waves p (Step s) = step_parameter p s
own_parameter waves p (Envelope e) = envelope_parameter p e
own_parameter waves p (Adsr a) = adsr_parameter p a
own_parameter waves p (Delay l) = line_parameter p l
own_parameter waves p (DelayL d) = delay_l_parameter p d
own_parameter waves p (Echo e) = echo_parameter p e
own_parameter waves p (OnePole f) = one_pole_parameter p f
own_parameter waves p (OneZero f) = one_zero_parameter p f
own_parameter waves p (BiQuad f) = biquad_parameter p f
own_parameter waves p (Pan2 n) = pan_parameter p n
own_parameter waves _ _ = None

-- what it keeps once such a parameter is set, where it has it, it isn't read only, and the value
-- has its type; what a delay line can't have is told apart beforehand
unfoldable pub with_own_parameter : List SoundFile → Param → Datum → Generator → Option Generator
with_own_parameter waves p v (Wave w) = option_map Wave (with_wave_parameter p v w)
with_own_parameter waves p v (Impulse i) = option_map Impulse (with_impulse_parameter p v i)
with_own_parameter waves p v (Step s) = option_map Step (with_step_parameter p v s)
with_own_parameter waves p v (Envelope e) = option_map Envelope (with_envelope_parameter p v e)
with_own_parameter waves p v (Delay l) = option_map Delay (with_line_parameter p v l)
with_own_parameter waves p v (DelayL d) = option_map DelayL (with_delay_l_parameter p v d)
with_own_parameter waves p v (Echo e) = option_map Echo (with_echo_parameter p v e)
with_own_parameter waves p v (OnePole f) = option_map OnePole (with_one_pole_parameter p v f)
with_own_parameter waves p v (OneZero f) = option_map OneZero (with_one_zero_parameter p v f)
with_own_parameter waves p v (BiQuad f) = option_map BiQuad (with_biquad_parameter p v f)
with_own_parameter waves p v (Pan2 n) = option_map Pan2 (with_pan_parameter p v n)
with_own_parameter waves _ _ _ = None

-- a delay line can't be set so
abbrev pub is_past_limit : Param → Datum → Generator → Bool
is_past_limit p v (Delay l) = is_past_line p v l
is_past_limit p v (DelayL d) = is_past_line p v d.line
is_past_limit p v (Echo e) = is_past_line p v e.line
is_past_limit _ _ _ = false

-- a key of an envelope is pressed or let go
unfoldable pub keyed : (is_on : Bool) → Generator → Option Generator
keyed is_on (Envelope e) = Some (Envelope (envelope_keyed is_on e))
keyed is_on (Adsr a) = Some (Adsr (adsr_keyed is_on a))
keyed is_on _ = None

-- an ADSR with these stages
unfoldable pub staged : (attack decay sustain release : ℤ) → Generator → Option Generator
staged attack decay sustain release (Adsr a) =
    Some (Adsr (with_stages attack decay sustain release a))
staged attack decay sustain release _ = None
