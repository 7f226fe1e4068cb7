-- Envelope: a ramp that a key opens and closes.
use Rattle.std.specs.Prelude.{ℤ, pos, Bool, true, false, Option, Some, None}
use Rattle.ck_values.specs.Datum.{Datum, AFloat, ADur}
use Rattle.fixed_point.specs.Fix.{one, product_of}
use Rattle.ugen_names.specs.declared.param.Param.{Param}
use Rattle.ugen_names.specs.declared.param.Param.TheVariants as param
use Rattle.ugen_kinds.specs.declared.envelope.Envelope.{Envelope}
use Rattle.ugen_kinds.specs.Ramp.{first_ramp, begun, ramped, ended_at}

abbrev pub first_envelope : Envelope
first_envelope = record { ramp = first_ramp; duration = pos 441 }

-- what a tick makes of an envelope, and its output
abbrev pub envelope_tick : Envelope → (input : ℤ) → Envelope × ℤ
envelope_tick e input =
    let r = ramped e.ramp in
    (record e { ramp = r }, product_of input r.value)

-- it begins to go to a target, in its duration
abbrev pub towards : (target : ℤ) → Envelope → Envelope
towards target e = record e { ramp = begun target e.duration e.ramp }

-- where a key sends an envelope: to 1 where it is pressed, and to 0 where it is let go
abbrev pub key_target : (is_on : Bool) → ℤ
key_target true = one
key_target false = pos 0

abbrev pub envelope_keyed : (is_on : Bool) → Envelope → Envelope
envelope_keyed is_on e = towards (key_target is_on) e

abbrev pub envelope_parameter : Param → Envelope → Option Datum
envelope_parameter param.Duration e = Some (ADur e.duration)
envelope_parameter param.Value e = Some (AFloat e.ramp.value)
envelope_parameter param.Target e = Some (AFloat e.ramp.target)
envelope_parameter _ e = None

-- a value that is set ends the ramp there
abbrev pub with_envelope_parameter : Param → Datum → Envelope → Option Envelope
with_envelope_parameter param.Duration (ADur n) e = Some (record e { duration = n })
with_envelope_parameter param.Value (AFloat x) e = Some (record e { ramp = ended_at x e.ramp })
with_envelope_parameter param.Target (AFloat x) e = Some (towards x e)
with_envelope_parameter _ _ e = None
