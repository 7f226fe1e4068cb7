-- What unit generators keep is as the table of kinds has it.
use Rattle.std.proofs.Common.{◌≡◌, ℕ, ℤ, Bool, true, false, List, Option, Some, None, option_map, IsTrue, pos, ◌-◌, refl, ap, sym, ◌∙◌}
use Rattle.std.proofs.lemmas.List.{length-replicate}
use Rattle.std.proofs.lemmas.Option.{same_Some}
use Rattle.ck_values.specs.Datum.{Datum, AnInt, AFloat, ADur}
use Rattle.ugen_names.specs.declared.param.Param.{Param}
use Rattle.ugen_names.specs.declared.param.Param.TheVariants as param
use Rattle.ugen_names.specs.declared.table.UgenKind.{UgenKind}
use Rattle.ugen_names.specs.declared.table.UgenKind.TheVariants as kind
use Rattle.ugen_names.specs.Table.{rows, is_made}
use Rattle.std.specs.Prelude.{is_some}
use Rattle.ugen_kinds.specs.declared.choices.WaveForm.{WaveForm}
use Rattle.ugen_kinds.specs.declared.choices.WaveForm.TheVariants.{Sine, Saw, Triangle, Square, Pulse, Ramp}
use Rattle.ugen_kinds.specs.declared.choices.Sync.{Sync}
use Rattle.ugen_kinds.specs.declared.choices.Sync.TheVariants.{Frequency, Phase, Modulation}
use Rattle.ugen_kinds.specs.declared.wave as wave
use Rattle.ugen_kinds.specs.declared.generator.Generator.{Generator}
use Rattle.ugen_kinds.specs.declared.generator.Generator.TheVariants.{Dac, Blackhole, Gain, Wave, Impulse, Step, Noise}
use Rattle.ugen_kinds.specs.declared.generator.Generator.TheVariants.{Envelope, Adsr, Delay, DelayL, Echo}
use Rattle.ugen_kinds.specs.declared.generator.Generator.TheVariants.{OnePole, OneZero, BiQuad, Pan2}
use Rattle.ugen_kinds.specs.SoundFile.{SoundFile}
use Rattle.ugen_kinds.specs.Wave.{tick_by, only_pulse, wave_parameter, with_wave_parameter}
use Rattle.ugen_kinds.specs.Line.{first_line}
use Rattle.ugen_kinds.specs.OnePole.{first_one_pole}
use Rattle.ugen_kinds.specs.OneZero.{first_one_zero}
use Rattle.fixed_point.specs.Fix.{nearest_in_range}
use Rattle.ugen_kinds.specs.Generator.{wave_kind, kind_of, has_state, first_of, tick_of, own_parameter, with_own_parameter, keyed, staged}
use Rattle.ugen_kinds.specs.Table.{is_in_table, own_row, reads, can_be_set, first_by}

-- the kind stays --------------------------------------------------------------------------------

form_ticked : (s : Sync) (w : wave.Wave.Wave) (x : ℤ) (fed : Bool)
    → (tick_by s w x fed).0.form ≡ w.form
form_ticked Frequency w x true = refl
form_ticked Frequency w x false = refl
form_ticked Phase w x true = refl
form_ticked Phase w x false = refl
form_ticked Modulation w x fed = refl

pub kind_ticked : (waves : List SoundFile) (g : Generator) (x : ℤ) (fed : Bool)
    → kind_of (tick_of waves g x fed).0 ≡ kind_of g
unfolding tick_of
kind_ticked waves (Wave w) x fed = ap wave_kind (form_ticked w.sync w x fed)
kind_ticked waves _ x fed = refl

-- what comes of it where there is something
mapped_kind : {A : Type 0} (f : A → Generator) (k : UgenKind) (o : Option A) (after : Generator)
    → ((a : A) → o ≡ Some a → kind_of (f a) ≡ k) → option_map f o ≡ Some after
    → kind_of after ≡ k
mapped_kind f k None after same e = absurd cc
mapped_kind f k (Some a) after same e = let h = same a refl in cc

abbrev form_of : wave.Wave.Wave → WaveForm
form_of w = w.form

abbrev widened : ℤ → wave.Wave.Wave → wave.Wave.Wave
widened x w = record w { width = x }

pulse_set : (f : WaveForm) (a after : wave.Wave.Wave) (g : WaveForm) → a.form ≡ g
    → only_pulse f a ≡ Some after → after.form ≡ g
pulse_set Pulse a after g is e = ap form_of (sym (same_Some a after e)) ∙ is
pulse_set _ a after g is e = absurd cc

form_set : (p : Param) (v : Datum) (w after : wave.Wave.Wave)
    → with_wave_parameter p v w ≡ Some after → after.form ≡ w.form
form_set param.Freq (AFloat x) w after e = ap form_of (sym (same_Some _ after e))
form_set param.Phase (AFloat x) w after e = ap form_of (sym (same_Some _ after e))
form_set param.Sync (AnInt n) w after e = ap form_of (sym (same_Some _ after e))
form_set param.Width (AFloat x) w after e = pulse_set w.form (widened x w) after w.form refl e
form_set _ _ w after e = absurd cc

pub kind_set : (waves : List SoundFile) (p : Param) (v : Datum) (g after : Generator)
    → with_own_parameter waves p v g ≡ Some after → kind_of after ≡ kind_of g
unfolding with_own_parameter
kind_set waves p v (Wave w) after e =
    mapped_kind Wave (wave_kind w.form) _ after (λ a s. ap wave_kind (form_set p v w a s)) e
kind_set waves p v (Impulse i) after e = mapped_kind Impulse kind.Impulse _ after (λ a s. refl) e
kind_set waves p v (Step s) after e = mapped_kind Step kind.Step _ after (λ a s. refl) e
kind_set waves p v (Envelope n) after e =
    mapped_kind Envelope kind.Envelope _ after (λ a s. refl) e
kind_set waves p v (Delay l) after e = mapped_kind Delay kind.Delay _ after (λ a s. refl) e
kind_set waves p v (DelayL d) after e = mapped_kind DelayL kind.DelayL _ after (λ a s. refl) e
kind_set waves p v (Echo d) after e = mapped_kind Echo kind.Echo _ after (λ a s. refl) e
kind_set waves p v (OnePole f) after e = mapped_kind OnePole kind.OnePole _ after (λ a s. refl) e
kind_set waves p v (OneZero f) after e = mapped_kind OneZero kind.OneZero _ after (λ a s. refl) e
kind_set waves p v (BiQuad f) after e = mapped_kind BiQuad kind.BiQuad _ after (λ a s. refl) e
kind_set waves p v (Pan2 n) after e = mapped_kind Pan2 kind.Pan2 _ after (λ a s. refl) e
kind_set waves p v _ after e = absurd cc

pub kind_keyed : (on : Bool) (g after : Generator) → keyed on g ≡ Some after
    → kind_of after ≡ kind_of g
unfolding keyed
kind_keyed on (Envelope n) after e = cc
kind_keyed on (Adsr a) after e = cc
kind_keyed on _ after e = absurd cc

pub kind_staged : (a d s r : ℤ) (g after : Generator) → staged a d s r g ≡ Some after
    → kind_of after ≡ kind_of g
unfolding staged
kind_staged a d s r (Adsr b) after e = cc
kind_staged a d s r _ after e = absurd cc

-- reading ---------------------------------------------------------------------------------------

wave_reads : (f : WaveForm) (p : Param) (w : wave.Wave.Wave) → w.form ≡ f
    → reads (own_row (wave_kind f) p) (wave_parameter p w) ≡ true
unfolding rows
wave_reads Sine param.Width w e = rw e refl
wave_reads Sine _ w e = refl
wave_reads Saw param.Width w e = rw e refl
wave_reads Saw _ w e = refl
wave_reads Triangle param.Width w e = rw e refl
wave_reads Triangle _ w e = refl
wave_reads Square param.Width w e = rw e refl
wave_reads Square _ w e = refl
wave_reads Pulse param.Width w e = rw e refl
wave_reads Pulse _ w e = refl
wave_reads Ramp param.Width w e = rw e refl
wave_reads Ramp _ w e = refl

own_reads : (waves : List SoundFile) (g : Generator) (p : Param)
    → IsTrue (is_in_table (kind_of g))
    → reads (own_row (kind_of g) p) (own_parameter waves p g) ≡ true
unfolding own_parameter rows
own_reads waves Dac p h = refl
own_reads waves Blackhole p h = refl
own_reads waves Gain p h = refl
own_reads waves (Wave w) p h = wave_reads w.form p w refl
own_reads waves (Impulse x) param.Gain h = refl
own_reads waves (Impulse x) _ h = refl
own_reads waves (Step x) param.Gain h = refl
own_reads waves (Step x) _ h = refl
own_reads waves (Noise w) p h = refl
own_reads waves (Envelope e) param.Gain h = refl
own_reads waves (Envelope e) _ h = refl
own_reads waves (Adsr a) param.Gain h = refl
own_reads waves (Adsr a) _ h = refl
own_reads waves (Delay l) param.Gain h = refl
own_reads waves (Delay l) _ h = refl
own_reads waves (DelayL d) param.Gain h = refl
own_reads waves (DelayL d) _ h = refl
own_reads waves (Echo e) param.Gain h = refl
own_reads waves (Echo e) _ h = refl
own_reads waves (OnePole f) param.Gain h = refl
own_reads waves (OnePole f) _ h = refl
own_reads waves (OneZero f) param.Gain h = refl
own_reads waves (OneZero f) _ h = refl
own_reads waves (BiQuad f) param.Gain h = refl
own_reads waves (BiQuad f) _ h = refl
own_reads waves (Pan2 n) p h = absurd cc

pub read_by_table : (waves : List SoundFile) (p : Param) (g : Generator)
    → IsTrue (is_in_table (kind_of g))
    → IsTrue (reads (own_row (kind_of g) p) (own_parameter waves p g))
read_by_table waves p g h = own_reads waves g p h

-- first values ----------------------------------------------------------------------------------

-- how far a line reaches that has so many items
abbrev reached : ℕ → Option Datum
reached n = Some (ADur (pos (n - 2)))

at_first : (waves : List SoundFile) (k : UgenKind) (n : ℕ) (p : Param) → IsTrue (is_in_table k)
    → own_parameter waves p (first_of k n) ≡ option_map first_by (own_row k p)
unfolding own_parameter rows first_one_pole first_one_zero nearest_in_range first_line
at_first waves kind.UGen n p row = refl
at_first waves kind.Dac n p row = refl
at_first waves kind.Blackhole n p row = refl
at_first waves kind.Gain n p row = refl
at_first waves kind.SinOsc n param.Gain row = refl
at_first waves kind.SinOsc n _ row = refl
at_first waves kind.SawOsc n param.Gain row = refl
at_first waves kind.SawOsc n _ row = refl
at_first waves kind.TriOsc n param.Gain row = refl
at_first waves kind.TriOsc n _ row = refl
at_first waves kind.SqrOsc n param.Gain row = refl
at_first waves kind.SqrOsc n _ row = refl
at_first waves kind.PulseOsc n param.Gain row = refl
at_first waves kind.PulseOsc n _ row = refl
at_first waves kind.Phasor n param.Gain row = refl
at_first waves kind.Phasor n _ row = refl
at_first waves kind.Impulse n param.Gain row = refl
at_first waves kind.Impulse n _ row = refl
at_first waves kind.Step n param.Gain row = refl
at_first waves kind.Step n _ row = refl
at_first waves kind.Noise n p row = refl
at_first waves kind.Envelope n param.Gain row = refl
at_first waves kind.Envelope n _ row = refl
at_first waves kind.Adsr n param.Gain row = refl
at_first waves kind.Adsr n _ row = refl
at_first waves kind.Delay n param.Max row = ap reached (length-replicate 4_097 (pos 0))
at_first waves kind.Delay n _ row = refl
at_first waves kind.DelayL n param.Max row = ap reached (length-replicate 4_097 (pos 0))
at_first waves kind.DelayL n _ row = refl
at_first waves kind.Echo n param.Max row = ap reached (length-replicate 4_097 (pos 0))
at_first waves kind.Echo n _ row = refl
at_first waves kind.OnePole n param.Gain row = refl
at_first waves kind.OnePole n _ row = refl
at_first waves kind.OneZero n param.Gain row = refl
at_first waves kind.OneZero n _ row = refl
at_first waves kind.BiQuad n param.Gain row = refl
at_first waves kind.BiQuad n _ row = refl
at_first waves kind.Pan2 n p row = absurd cc
at_first waves kind.SndBuf n p row = refl

pub first_by_table : (waves : List SoundFile) (p : Param) (k : UgenKind) (n : ℕ)
    → IsTrue (is_in_table k)
    → own_parameter waves p (first_of k n) ≡ option_map first_by (own_row k p)
first_by_table waves p k n row = at_first waves k n p row

-- settings --------------------------------------------------------------------------------------

pub some_mapped : {A B : Type 0} (f : A → B) (o : Option A) → is_some (option_map f o) ≡ is_some o
some_mapped f None = refl
some_mapped f (Some a) = refl

wave_sets : (f : WaveForm) (p : Param) (v : Datum) (w : wave.Wave.Wave) → w.form ≡ f
    → is_some (with_wave_parameter p v w) ≡ can_be_set (own_row (wave_kind f) p) v
unfolding rows
wave_sets Sine param.Freq (AFloat x) w e = refl
wave_sets Sine param.Freq _ w e = refl
wave_sets Sine param.Phase (AFloat x) w e = refl
wave_sets Sine param.Phase _ w e = refl
wave_sets Sine param.Sync (AnInt n) w e = refl
wave_sets Sine param.Sync _ w e = refl
wave_sets Sine param.Width (AFloat x) w e = rw e refl
wave_sets Sine param.Width _ w e = refl
wave_sets Sine _ v w e = refl
wave_sets Saw param.Freq (AFloat x) w e = refl
wave_sets Saw param.Freq _ w e = refl
wave_sets Saw param.Phase (AFloat x) w e = refl
wave_sets Saw param.Phase _ w e = refl
wave_sets Saw param.Sync (AnInt n) w e = refl
wave_sets Saw param.Sync _ w e = refl
wave_sets Saw param.Width (AFloat x) w e = rw e refl
wave_sets Saw param.Width _ w e = refl
wave_sets Saw _ v w e = refl
wave_sets Triangle param.Freq (AFloat x) w e = refl
wave_sets Triangle param.Freq _ w e = refl
wave_sets Triangle param.Phase (AFloat x) w e = refl
wave_sets Triangle param.Phase _ w e = refl
wave_sets Triangle param.Sync (AnInt n) w e = refl
wave_sets Triangle param.Sync _ w e = refl
wave_sets Triangle param.Width (AFloat x) w e = rw e refl
wave_sets Triangle param.Width _ w e = refl
wave_sets Triangle _ v w e = refl
wave_sets Square param.Freq (AFloat x) w e = refl
wave_sets Square param.Freq _ w e = refl
wave_sets Square param.Phase (AFloat x) w e = refl
wave_sets Square param.Phase _ w e = refl
wave_sets Square param.Sync (AnInt n) w e = refl
wave_sets Square param.Sync _ w e = refl
wave_sets Square param.Width (AFloat x) w e = rw e refl
wave_sets Square param.Width _ w e = refl
wave_sets Square _ v w e = refl
wave_sets Pulse param.Freq (AFloat x) w e = refl
wave_sets Pulse param.Freq _ w e = refl
wave_sets Pulse param.Phase (AFloat x) w e = refl
wave_sets Pulse param.Phase _ w e = refl
wave_sets Pulse param.Sync (AnInt n) w e = refl
wave_sets Pulse param.Sync _ w e = refl
wave_sets Pulse param.Width (AFloat x) w e = rw e refl
wave_sets Pulse param.Width _ w e = refl
wave_sets Pulse _ v w e = refl
wave_sets Ramp param.Freq (AFloat x) w e = refl
wave_sets Ramp param.Freq _ w e = refl
wave_sets Ramp param.Phase (AFloat x) w e = refl
wave_sets Ramp param.Phase _ w e = refl
wave_sets Ramp param.Sync (AnInt n) w e = refl
wave_sets Ramp param.Sync _ w e = refl
wave_sets Ramp param.Width (AFloat x) w e = rw e refl
wave_sets Ramp param.Width _ w e = refl
wave_sets Ramp _ v w e = refl

own_sets : (waves : List SoundFile) (g : Generator) (p : Param) (v : Datum)
    → IsTrue (is_in_table (kind_of g))
    → is_some (with_own_parameter waves p v g) ≡ can_be_set (own_row (kind_of g) p) v
unfolding with_own_parameter rows
own_sets waves Dac param.Gain v h = refl
own_sets waves Dac _ v h = refl
own_sets waves Blackhole param.Gain v h = refl
own_sets waves Blackhole _ v h = refl
own_sets waves Gain param.Gain v h = refl
own_sets waves Gain _ v h = refl
own_sets waves (Wave w) p v h =
    some_mapped Wave (with_wave_parameter p v w) ∙ wave_sets w.form p v w refl
own_sets waves (Impulse x) param.Next (AFloat y) h = refl
own_sets waves (Impulse x) param.Next _ h = refl
own_sets waves (Impulse x) _ v h = refl
own_sets waves (Step x) param.Next (AFloat y) h = refl
own_sets waves (Step x) param.Next _ h = refl
own_sets waves (Step x) _ v h = refl
own_sets waves (Noise w) param.Gain v h = refl
own_sets waves (Noise w) _ v h = refl
own_sets waves (Envelope e) param.Duration (ADur n) h = refl
own_sets waves (Envelope e) param.Duration _ h = refl
own_sets waves (Envelope e) param.Value (AFloat x) h = refl
own_sets waves (Envelope e) param.Value _ h = refl
own_sets waves (Envelope e) param.Target (AFloat x) h = refl
own_sets waves (Envelope e) param.Target _ h = refl
own_sets waves (Envelope e) _ v h = refl
own_sets waves (Adsr a) param.Gain v h = refl
own_sets waves (Adsr a) _ v h = refl
own_sets waves (Delay l) param.Max (ADur n) h = refl
own_sets waves (Delay l) param.Max _ h = refl
own_sets waves (Delay l) param.Delay (ADur n) h = refl
own_sets waves (Delay l) param.Delay _ h = refl
own_sets waves (Delay l) _ v h = refl
own_sets waves (DelayL d) param.Max (ADur n) h = refl
own_sets waves (DelayL d) param.Max _ h = refl
own_sets waves (DelayL d) param.Delay (ADur n) h = refl
own_sets waves (DelayL d) param.Delay _ h = refl
own_sets waves (DelayL d) param.Frac (AFloat x) h = refl
own_sets waves (DelayL d) param.Frac _ h = refl
own_sets waves (DelayL d) _ v h = refl
own_sets waves (Echo e) param.Max (ADur n) h = refl
own_sets waves (Echo e) param.Max _ h = refl
own_sets waves (Echo e) param.Delay (ADur n) h = refl
own_sets waves (Echo e) param.Delay _ h = refl
own_sets waves (Echo e) param.Mix (AFloat x) h = refl
own_sets waves (Echo e) param.Mix _ h = refl
own_sets waves (Echo e) _ v h = refl
own_sets waves (OnePole f) param.Pole (AFloat x) h = refl
own_sets waves (OnePole f) param.Pole _ h = refl
own_sets waves (OnePole f) param.B0 (AFloat x) h = refl
own_sets waves (OnePole f) param.B0 _ h = refl
own_sets waves (OnePole f) param.A1 (AFloat x) h = refl
own_sets waves (OnePole f) param.A1 _ h = refl
own_sets waves (OnePole f) _ v h = refl
own_sets waves (OneZero f) param.Zero (AFloat x) h = refl
own_sets waves (OneZero f) param.Zero _ h = refl
own_sets waves (OneZero f) param.B0 (AFloat x) h = refl
own_sets waves (OneZero f) param.B0 _ h = refl
own_sets waves (OneZero f) param.B1 (AFloat x) h = refl
own_sets waves (OneZero f) param.B1 _ h = refl
own_sets waves (OneZero f) _ v h = refl
own_sets waves (BiQuad f) param.B0 (AFloat x) h = refl
own_sets waves (BiQuad f) param.B0 _ h = refl
own_sets waves (BiQuad f) param.B1 (AFloat x) h = refl
own_sets waves (BiQuad f) param.B1 _ h = refl
own_sets waves (BiQuad f) param.B2 (AFloat x) h = refl
own_sets waves (BiQuad f) param.B2 _ h = refl
own_sets waves (BiQuad f) param.A1 (AFloat x) h = refl
own_sets waves (BiQuad f) param.A1 _ h = refl
own_sets waves (BiQuad f) param.A2 (AFloat x) h = refl
own_sets waves (BiQuad f) param.A2 _ h = refl
own_sets waves (BiQuad f) _ v h = refl
own_sets waves (Pan2 n) p v h = absurd cc

pub set_by_table : (waves : List SoundFile) (p : Param) (v : Datum) (g : Generator)
    → IsTrue (is_in_table (kind_of g))
    → is_some (with_own_parameter waves p v g) ≡ can_be_set (own_row (kind_of g) p) v
set_by_table waves p v g h = own_sets waves g p v h

-- making ----------------------------------------------------------------------------------------

pub kind_first : (k : UgenKind) (n : ℕ) → IsTrue (has_state k) → kind_of (first_of k n) ≡ k
kind_first kind.UGen n has = absurd cc
kind_first kind.SndBuf n has = absurd cc
kind_first _ n has = refl

pub made_has_state : (k : UgenKind) → IsTrue (is_made k) → IsTrue (has_state k)
unfolding rows
made_has_state kind.UGen made = absurd cc
made_has_state kind.SndBuf made = absurd cc
made_has_state _ made = refl
