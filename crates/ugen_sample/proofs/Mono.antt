-- Without sides and Pan2 both sides have the sample of one channel.
use Rattle.std.proofs.Common.{◌≡◌, IsTrue, ℕ, ℤ, pos, ◌+ℤ◌, zero, suc, ◌&&◌, Bool, true, false, nat_eq, cond, List, [], ◌∷◌, map, Option, Some, None, slice_set, refl, ap, sym, subst, ◌∙◌, ◌⊎◌, inl, inr, arith}
use Rattle.std.specs.List.{filter, fold}
use Rattle.std.specs.Option.{option_map}
use Rattle.std.proofs.lemmas.Int.{ints}
use Rattle.std.proofs.lemmas.Grind.{common_steps}
use Rattle.std.proofs.lemmas.Bool.Decides.{nat_tests}
use Rattle.fixed_point.specs.Rounding.{floor_div}
use Rattle.fixed_point.proofs.Floors.{floor_div-unique}
use Rattle.ugen_kinds.specs.declared.generator.Generator.{Generator}
use Rattle.ugen_kinds.specs.declared.generator.Generator.TheVariants.{Dac, Wave, Pan2}
use Rattle.ugen_kinds.specs.declared.output.Output.{Output}
use Rattle.ugen_kinds.specs.SoundFile.{SoundFile}
use Rattle.ugen_kinds.specs.Output.{both}
use Rattle.ugen_kinds.specs.Generator.{wave_kind, kind_of, tick_of}
use Rattle.ugen_kinds.specs.Table.{is_in_table}
use Rattle.ugen_kinds.specs.declared.choices.WaveForm.{WaveForm}
use Rattle.ugen_kinds.specs.declared.choices.WaveForm.TheVariants.{Sine, Saw, Triangle, Square, Pulse, Ramp}
use Rattle.ugen_names.specs.declared.table.UgenKind.{UgenKind}
use Rattle.ugen_names.specs.declared.table.UgenKind.TheVariants as kind
use Rattle.ugen_sample.specs.declared.choices.Channel.{Channel}
use Rattle.ugen_sample.specs.declared.choices.Channel.TheVariants.{Mean, Left, Right}
use Rattle.ck_values.specs.declared.side.Side.{Side}
use Rattle.ck_values.specs.declared.side.Side.TheVariants as side
use Rattle.ugen_sample.specs.declared.choices.Joining.{Joining}
use Rattle.ugen_sample.specs.declared.choices.Joining.TheVariants.{Through, Off, Sum, Difference, Product, Quotient}
use Rattle.ugen_sample.specs.Connection.{Connection}
use Rattle.ugen_sample.specs.declared.unit.UnitState.{UnitState}
use Rattle.ugen_sample.specs.UnitState.{Units, unit_at, first_unit}
use Rattle.ugen_sample.specs.Order.{sources_of, order}
use Rattle.ugen_sample.specs.Sample.{dac, is_left, is_right, sources_by, sources_on, numbers_of, number_on, output_of, input_of, is_fed, result_of, gives, sounded, sounded_where, made_from, sampled}
use Rattle.ugen_sample.specs.OneChannel.{mono_last, mono_tick, mono_result, mono_gives, mono_sounded, mono_made, mono_sampled, is_pan, IsMono, IsDac, AreMono, HaveNoSides}
use Rattle.ugen_sample.proofs.Among.{either, equal}

-- what is heard ---------------------------------------------------------------------------------

-- the mean of a number with itself
mean-both : (v : ℤ) → v ≡ floor_div (v +ℤ v) (pos 2)
mean-both v =
    floor_div-unique v (v +ℤ v) (pos 2) (λ e. omega (arith, ints))
    (omega (arith, ints), omega (arith, ints))

number_is : (channel : Channel) (o : Output) → o.left ≡ o.right → number_on channel o ≡ o.left
number_is Left o e = refl
number_is Right o e = sym e
number_is Mean o e =
    ap (λ (r : ℤ). floor_div (o.left +ℤ r) (pos 2)) (sym e) ∙ sym (mean-both o.left)

heard_is : (channel : Channel) (unit : Option UnitState) → IsMono unit
    → number_on channel (output_of unit) ≡ mono_last (unit ∷ []) 0
heard_is channel None m = number_is channel _ refl
heard_is channel (Some unit) m = number_is channel unit.last m.1

numbers_are : (channel : Channel) (units : Units) → AreMono units → (ms : List ℕ)
    → numbers_of units channel ms ≡ map (mono_last units) ms
numbers_are channel units a [] = refl
numbers_are channel units a (m ∷ ms) =
    rw (heard_is channel (unit_at units m) (a.each m), numbers_are channel units a ms) refl

by_any : (test : Side → Bool) → test side.Both ≡ true → (cs : List Connection) → HaveNoSides cs
    → (n : ℕ) → sources_by test cs n ≡ sources_of cs n
by_any test all [] h n = refl
by_any test all (c ∷ cs) h n =
    let T : Connection → Bool = λ d. nat_eq d.to n && test d.side in
    let U : Connection → Bool = λ d. nat_eq d.to n in
    let on : test c.side ≡ true = ap test h.0 ∙ all in
    rw on (elim (nat_eq c.to n) as (λ b. map (λ (d : Connection). d.from)
    (cond (b && true) (c ∷ filter T cs) (filter T cs))
    ≡ map (λ (d : Connection). d.from) (cond b (c ∷ filter U cs) (filter U cs))) [
      | true ↦ ap (λ (ms : List ℕ). c.from ∷ ms) (by_any test all cs h.1 n)
      | false ↦ by_any test all cs h.1 n
    ])

sources_are : (channel : Channel) (cs : List Connection) → HaveNoSides cs → (n : ℕ)
    → sources_on cs channel n ≡ sources_of cs n
sources_are Mean cs h n = refl
sources_are Left cs h n = by_any is_left refl cs h n
sources_are Right cs h n = by_any is_right refl cs h n

-- what is made of it ----------------------------------------------------------------------------

-- a tick gives its number on both sides, and keeps no Pan2
record IsBoth (old : Generator) (new : Generator × Output) (first : Generator × ℤ) : Type 0 where
  same : new ≡ (first.0, both first.1)
  stays : is_pan first.0 ≡ false

tick_both : (waves : List SoundFile) (g : Generator) (x : ℤ) (fed : Bool) → is_pan g ≡ false
    → IsBoth g (tick_of waves g x fed) (mono_tick g x fed)
unfolding tick_of
tick_both waves (Pan2 p) x fed e = absurd cc
tick_both waves Dac x fed e = record { same = refl; stays = refl }
tick_both waves _ x fed e = record { same = refl; stays = refl }

result_both : (waves : List SoundFile) (j : Joining) (g : Generator) (x : ℤ) (fed : Bool)
    → is_pan g ≡ false → IsBoth g (result_of waves j g x fed) (mono_result j g x fed)
result_both waves Through g x fed e = record { same = refl; stays = e }
result_both waves Off g x fed e = record { same = refl; stays = e }
result_both waves Sum g x fed e = tick_both waves g x fed e
result_both waves Difference g x fed e = tick_both waves g x fed e
result_both waves Product g x fed e = tick_both waves g x fed e
result_both waves Quotient g x fed e = tick_both waves g x fed e

-- `dac` gives what it hears
dac_result : (j : Joining) (vs : List ℤ) → mono_result j Dac (input_of j vs) (is_fed vs)
    ≡ (Dac, input_of j vs)
unfolding tick_of input_of
dac_result Off [] = refl
dac_result Off (v ∷ vs) = refl
dac_result Through vs = refl
dac_result Sum vs = refl
dac_result Difference vs = refl
dac_result Product vs = refl
dac_result Quotient vs = refl

-- one makes its output as with one channel, and stays one of it
record IsAlike (n : ℕ) (new first : Option UnitState) : Type 0 where
  same : new ≡ first
  mono : IsMono first
  output : nat_eq n dac ≡ true → IsDac first

sounded_alike : (waves : List SoundFile) (n : ℕ) (o : Option UnitState) (vs : List ℤ) → IsMono o
    → (nat_eq n dac ≡ true → IsDac o)
    → IsAlike n (sounded_where waves n o (λ channel. vs)) (option_map (mono_sounded vs) o)
unfolding sounded mono_sounded
sounded_alike waves n None vs m d = record { same = refl; mono = tt; output = λ e. tt }
sounded_alike waves n (Some u) vs m d =
    let first = mono_result u.joining u.generator (input_of u.joining vs) (is_fed vs) in
    let r = result_both waves u.joining u.generator (input_of u.joining vs) (is_fed vs) m.0 in
    elim (either (nat_eq n dac)) [
      | inl is ↦
          let g : u.generator ≡ Dac = d is in
          let y : first ≡ (Dac, input_of u.joining vs) =
          ap (λ (k : Generator). mono_result u.joining k (input_of u.joining vs) (is_fed vs)) g
          ∙ dac_result u.joining vs in
          record {
            same =
                rw (is, sounded) (ap (λ (k : Generator). Some (gives u (k, both (input_of u.joining vs)))) g
                ∙ sym (ap (λ (t : Generator × ℤ). Some (mono_gives u t)) y));
            mono = (r.stays, refl);
            output = λ e. ap (λ (t : Generator × ℤ). t.0) y;
          }
      | inr isnt ↦ record {
        same = rw (isnt, sounded) (ap (λ (t : Generator × Output). Some (gives u t)) r.same);
        mono = (r.stays, refl);
        output = λ e. absurd (let f = e in cc);
      }
    ]

-- what the one at a place hears
abbrev heard_by : List Connection → Units → ℕ → Channel → List ℤ
heard_by cs units n channel = numbers_of units channel (sources_on cs channel n)

at_set : (units : Units) (i k : ℕ) (v : Option UnitState)
    → (unit_at (slice_set units i v) k ≡ v) ⊎ (unit_at (slice_set units i v) k ≡ unit_at units k)
at_set [] i k v = inr refl
at_set (u ∷ us) zero zero v = inl refl
at_set (u ∷ us) zero (suc k) v = inr refl
at_set (u ∷ us) (suc i) zero v = inr refl
at_set (u ∷ us) (suc i) (suc k) v = at_set us i k v

at_other : (units : Units) (i k : ℕ) (unit : Option UnitState) → nat_eq i k ≡ false
    → unit_at (slice_set units i unit) k ≡ unit_at units k
at_other units i k unit e = grind (arith, common_steps, nat_tests)

is_dac_at : (units : Units) → AreMono units → (n : ℕ) → nat_eq n dac ≡ true
    → IsDac (unit_at units n)
is_dac_at units a n e =
    let P : ℕ → Type 0 = λ k. IsDac (unit_at units k) in
    subst P (sym (equal n dac e)) a.output

module _ (waves : List SoundFile) (cs : List Connection) (h : HaveNoSides cs) where
  record IsStep (units : Units) (n : ℕ) : Type 0 where
    same : made_from waves (sources_on cs) units n ≡ mono_made (sources_of cs) units n
    mono : AreMono (mono_made (sources_of cs) units n)

  one_step : (units : Units) (n : ℕ) → AreMono units → IsStep units n
  one_step units n a =
      let vs = map (mono_last units) (sources_of cs n) in
      let each : Channel → List ℤ = λ channel. vs in
      let same : (channel : Channel) → heard_by cs units n channel ≡ vs = λ channel.
      ap (numbers_of units channel) (sources_are channel cs h n)
      ∙ numbers_are channel units a (sources_of cs n) in
      let heard : heard_by cs units n ≡ each = λ i channel. same channel i in
      let one = sounded_alike waves n (unit_at units n) vs (a.each n) (is_dac_at units a n) in
      let new = option_map (mono_sounded vs) (unit_at units n) in
      record {
        same =
            ap (slice_set units n)
            (ap (λ (f : Channel → List ℤ). sounded_where waves n (unit_at units n) f) heard
            ∙ one.same);
        mono = record {
          each = λ k. elim (at_set units n k new) [
            | inl e ↦ subst IsMono (sym e) one.mono
            | inr e ↦ subst IsMono (sym e) (a.each k)
          ];
          output = elim (either (nat_eq n dac)) [
            | inl is ↦
                elim (at_set units n dac new) [
                  | inl e ↦ subst IsDac (sym e) (one.output is)
                  | inr e ↦ subst IsDac (sym e) a.output
                ]
            | inr isnt ↦ subst IsDac (sym (at_other units n dac new isnt)) a.output
          ];
        };
      }

  record AreSteps (ns : List ℕ) (units : Units) : Type 0 where
    same : fold (made_from waves (sources_on cs)) units ns
        ≡ fold (mono_made (sources_of cs)) units ns
    mono : AreMono (fold (mono_made (sources_of cs)) units ns)

  all_steps : (ns : List ℕ) (units : Units) → AreMono units → AreSteps ns units
  all_steps [] units a = record { same = refl; mono = a }
  all_steps (n ∷ ns) units a =
      let one = one_step units n a in
      let rest = all_steps ns (mono_made (sources_of cs) units n) one.mono in
      record {
        same =
            ap (λ (us : Units). fold (made_from waves (sources_on cs)) us ns) one.same ∙ rest.same;
        mono = rest.mono;
      }

  pub sample_alike : (roots : List ℕ) (units : Units) → AreMono units
      → sampled waves roots cs units ≡ mono_sampled roots cs units
  unfolding sampled mono_sampled
  sample_alike roots units a = (all_steps (order roots cs) units a).same

  pub sample_mono : (roots : List ℕ) (units : Units) → AreMono units
      → AreMono (mono_sampled roots cs units)
  unfolding mono_sampled
  sample_mono roots units a = (all_steps (order roots cs) units a).mono

-- between samples -------------------------------------------------------------------------------

abbrev is_pan_kind : UgenKind → Bool
is_pan_kind kind.Pan2 = true
is_pan_kind _ = false

wave_no_pan : (form : WaveForm) → false ≡ is_pan_kind (wave_kind form)
wave_no_pan Sine = refl
wave_no_pan Saw = refl
wave_no_pan Triangle = refl
wave_no_pan Square = refl
wave_no_pan Pulse = refl
wave_no_pan Ramp = refl

-- whether it is a Pan2, and whether it is `dac`, is told by its kind
pan_by_kind : (g : Generator) → is_pan g ≡ is_pan_kind (kind_of g)
pan_by_kind (Pan2 p) = refl
pan_by_kind (Wave w) = wave_no_pan w.form
pan_by_kind _ = refl

wave_no_dac : (form : WaveForm) → wave_kind form ≡ kind.Dac → ⊥
wave_no_dac Sine e = absurd cc
wave_no_dac Saw e = absurd cc
wave_no_dac Triangle e = absurd cc
wave_no_dac Square e = absurd cc
wave_no_dac Pulse e = absurd cc
wave_no_dac Ramp e = absurd cc

dac_by_kind : (g : Generator) → kind_of g ≡ kind.Dac → g ≡ Dac
dac_by_kind Dac e = refl
dac_by_kind (Wave w) e = absurd (wave_no_dac w.form e)
dac_by_kind _ e = absurd cc

-- one that is made
pub made_mono : (k : UgenKind) (maker number : ℕ) → IsTrue (is_in_table k)
    → IsMono (Some (first_unit k maker number))
made_mono kind.Pan2 maker number h = absurd cc
made_mono kind.UGen maker number h = (refl, refl)
made_mono _ maker number h = (refl, refl)

-- one that is set
mono_set : (unit after : UnitState) → kind_of after.generator ≡ kind_of unit.generator
    → after.last ≡ unit.last → IsMono (Some unit) → IsMono (Some after)
mono_set unit after k e m = (
  pan_by_kind after.generator ∙ ap is_pan_kind k ∙ sym (pan_by_kind unit.generator) ∙ m.0,
  ap (λ (o : Output). o.left) e ∙ m.1 ∙ sym (ap (λ (o : Output). o.right) e),
)

dac_set : (unit after : UnitState) → kind_of after.generator ≡ kind_of unit.generator
    → IsDac (Some unit) → IsDac (Some after)
dac_set unit after k d = dac_by_kind after.generator (k ∙ ap kind_of d)

pub replaced_mono : (units : Units) (n : ℕ) (unit after : UnitState) → AreMono units
    → unit_at units n ≡ Some unit → kind_of after.generator ≡ kind_of unit.generator
    → after.last ≡ unit.last → AreMono (slice_set units n (Some after))
replaced_mono units n unit after a there k e =
    let before : IsMono (Some unit) = subst IsMono there (a.each n) in
    record {
      each = λ m. elim (at_set units n m (Some after)) [
        | inl is ↦ subst IsMono (sym is) (mono_set unit after k e before)
        | inr is ↦ subst IsMono (sym is) (a.each m)
      ];
      output = elim (either (nat_eq n dac)) [
        | inl is ↦
            let was : IsDac (Some unit) = subst IsDac there (is_dac_at units a n is) in
            elim (at_set units n dac (Some after)) [
              | inl new ↦ subst IsDac (sym new) (dac_set unit after k was)
              | inr old ↦ subst IsDac (sym old) a.output
            ]
        | inr isnt ↦ subst IsDac (sym (at_other units n dac (Some after) isnt)) a.output
      ];
    }
