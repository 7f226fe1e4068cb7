-- Where nothing is connected and nothing sounds, a sample leaves all as it is.
use Rattle.std.proofs.Common.{◌≡◌, ℕ, zero, suc, ℤ, pos, ◌*ℤ◌, true, false, nat_eq, List, [], ◌∷◌, Option, Some, None, slice_set, refl, ap, sym, ◌∙◌, inl, inr, arith}
use Rattle.std.proofs.lemmas.Int.{ints}
use Rattle.fixed_point.specs.Fix.{nearest_in_range, product_of}
use Rattle.ugen_kinds.specs.declared.generator.Generator.{Generator}
use Rattle.ugen_kinds.specs.declared.generator.Generator.TheVariants.{Dac, Blackhole, Gain}
use Rattle.ugen_kinds.specs.declared.output.Output.{Output}
use Rattle.ugen_kinds.specs.SoundFile.{SoundFile}
use Rattle.ugen_kinds.specs.Output.{both, silence}
use Rattle.ugen_kinds.specs.Generator.{tick_of}
use Rattle.ugen_sample.specs.declared.choices.Channel.{Channel}
use Rattle.ugen_sample.specs.declared.choices.Channel.TheVariants.{Mean, Left, Right}
use Rattle.ugen_sample.specs.declared.choices.Joining.{Joining}
use Rattle.ugen_sample.specs.declared.choices.Joining.TheVariants.{Through, Off, Sum, Difference, Product, Quotient}
use Rattle.ugen_sample.specs.declared.unit.UnitState.{UnitState}
use Rattle.ugen_sample.specs.UnitState.{Units, unit_at}
use Rattle.ugen_sample.specs.Order.{order, roots}
use Rattle.ugen_sample.specs.Sample.{dac, input_of, result_of, gives, sounded, sounded_where, numbers_of, made_from, sources_on, sampled}
use Rattle.ugen_sample.specs.Still.{is_plain, IsStill}
use Rattle.ugen_sample.proofs.Among.{either}

zero_times : (gain : ℤ) → pos 0 *ℤ gain ≡ pos 0
zero_times gain = omega (arith, ints)

-- 0 at any gain
no_sound : (gain : ℤ) → product_of (pos 0) gain ≡ pos 0
unfolding nearest_in_range
no_sound gain = rw (zero_times gain) refl

-- an output of 0 leaves it as it is
stays : (unit : UnitState) → unit.last ≡ silence → gives unit (unit.generator, silence) ≡ unit
stays unit e =
    ap (λ (y : Output). let u : UnitState = record unit { last = y } in u)
    (ap both (no_sound unit.gain) ∙ sym e)

ticked : (waves : List SoundFile) (g : Generator) → is_plain g ≡ true
    → tick_of waves g (pos 0) false ≡ (g, silence)
unfolding tick_of
ticked waves Dac plain = refl
ticked waves Blackhole plain = refl
ticked waves Gain plain = refl
ticked waves _ plain = absurd cc

result : (waves : List SoundFile) (j : Joining) (g : Generator) → is_plain g ≡ true
    → result_of waves j g (pos 0) false ≡ (g, silence)
result waves Through g plain = refl
result waves Off g plain = refl
result waves Sum g plain = ticked waves g plain
result waves Difference g plain = ticked waves g plain
result waves Product g plain = ticked waves g plain
result waves Quotient g plain = ticked waves g plain

still_sounds : (waves : List SoundFile) (n : ℕ) (o : Option UnitState) → IsStill o
    → sounded_where waves n o (λ channel. []) ≡ o
unfolding sounded input_of
still_sounds waves n None s = refl
still_sounds waves n (Some unit) s =
    ap (λ (u : UnitState). let o : Option UnitState = Some u in o)
    (elim (either (nat_eq n dac)) [
      | inl is ↦ rw (is, sounded) (stays unit s.1)
      | inr isnt ↦
          rw (isnt, sounded) (ap (gives unit) (result waves unit.joining unit.generator s.0)
          ∙ stays unit s.1)
    ])

set_same : (units : Units) (n : ℕ) → slice_set units n (unit_at units n) ≡ units
set_same [] n = refl
set_same (u ∷ us) zero = refl
set_same (u ∷ us) (suc n) = ap (λ (vs : Units). u ∷ vs) (set_same us n)

abbrev nothing : Channel → List ℤ
nothing channel = []

no_numbers : (units : Units) (n : ℕ) (channel : Channel)
    → numbers_of units channel (sources_on [] channel n) ≡ []
no_numbers units n Mean = refl
no_numbers units n Left = refl
no_numbers units n Right = refl

abbrev heard_by : Units → ℕ → Channel → List ℤ
heard_by units n channel = numbers_of units channel (sources_on [] channel n)

same_made : (waves : List SoundFile) (units : Units) (n : ℕ) → IsStill (unit_at units n)
    → made_from waves (sources_on []) units n ≡ units
same_made waves units n s =
    let heard : heard_by units n ≡ nothing = λ i channel. no_numbers units n channel i in
    ap (λ (h : Channel → List ℤ). slice_set units n (sounded_where waves n (unit_at units n) h))
    heard
    ∙ ap (slice_set units n) (still_sounds waves n (unit_at units n) s) ∙ set_same units n

pub silence_stays : (waves : List SoundFile) (units : Units) → IsStill (unit_at units 0)
    → IsStill (unit_at units 1) → units ≡ sampled waves roots [] units
unfolding sampled order
silence_stays waves units s t =
    sym (ap (λ (us : Units). made_from waves (sources_on []) us 1) (same_made waves units 0 s)
    ∙ same_made waves units 1 t)
