-- Ticks, worked out by hand.
use Rattle.std.proofs.Common.{◌≡◌, ℕ, zero, suc, true, [], ◌∷◌, refl}
use Rattle.std.specs.Prelude.{ℤ, pos}
use Rattle.fixed_point.specs.Fix.{one, nearest_in_range}
use Rattle.ugen_kinds.specs.declared.envelope.Envelope.{Envelope}
use Rattle.ugen_kinds.specs.declared.adsr.Adsr.{Adsr}
use Rattle.ugen_kinds.specs.Envelope.{first_envelope, towards, envelope_tick}
use Rattle.ugen_kinds.specs.Adsr.{first_adsr, adsr_keyed, with_stages, adsr_tick, stage_number}
use Rattle.ugen_kinds.specs.Line.{Line, delay_tick}
use Rattle.ugen_kinds.specs.OneZero.{first_one_zero, one_zero_tick}

-- the raw number of a half
abbrev half : ℤ
half = pos 2147483648

-- an envelope of four samples, a key of which is pressed, is at a quarter, a half, three quarters,
-- and then at 1
abbrev rising : (ticks : ℕ) → Envelope
rising zero = towards one (record first_envelope { duration = pos 4 })
rising (suc n) = (envelope_tick (rising n) one).0

a_quarter : (envelope_tick (rising 0) one).1 ≡ pos 1073741824
unfolding nearest_in_range
a_quarter = refl

three_quarters : (envelope_tick (rising 2) one).1 ≡ pos 3221225472
unfolding nearest_in_range
three_quarters = refl

at_its_target : (envelope_tick (rising 4) one).1 ≡ one
unfolding nearest_in_range
at_its_target = refl

-- an ADSR of one sample's attack and two samples' decay to a half: the attack ends at its first
-- tick, the decay at its third
abbrev keyed_adsr : Adsr
keyed_adsr = adsr_keyed true (with_stages (pos 1) (pos 2) half (pos 441) first_adsr)

abbrev ticked : Adsr → Adsr
ticked a = (adsr_tick a one).0

attacked : (adsr_tick keyed_adsr one).1 ≡ one
unfolding nearest_in_range
attacked = refl

it_decays : stage_number (ticked keyed_adsr).stage ≡ pos 1
unfolding nearest_in_range
it_decays = refl

half_decayed : (adsr_tick (ticked keyed_adsr) one).1 ≡ pos 3221225472
unfolding nearest_in_range
half_decayed = refl

it_sustains : stage_number (ticked (ticked (ticked keyed_adsr))).stage ≡ pos 2
unfolding nearest_in_range
it_sustains = refl

-- a line of four items that is read two samples back
abbrev two_back : Line
two_back = record { items = pos 0 ∷ pos 0 ∷ pos 0 ∷ pos 0 ∷ []; delay = 2 }

not_yet : (delay_tick (delay_tick two_back half).0 (pos 0)).1 ≡ pos 0
not_yet = refl

two_samples_later :
    (delay_tick (delay_tick (delay_tick two_back half).0 (pos 0)).0 (pos 0)).1 ≡ half
two_samples_later = refl

-- a zero at -1 is the mean of two inputs
the_mean : (one_zero_tick (one_zero_tick first_one_zero half).0 (pos 0)).1 ≡ pos 1073741824
unfolding nearest_in_range first_one_zero
the_mean = refl
