-- ADSR: an envelope of four stages.
use Rattle.std.specs.Prelude.{ℤ, pos, ◌^◌, Bool, true, false, Option, Some, None, if◌then◌else◌}
use Rattle.ck_values.specs.Datum.{Datum, AnInt, AFloat}
use Rattle.fixed_point.specs.Fix.{one, product_of}
use Rattle.ugen_names.specs.declared.param.Param.{Param}
use Rattle.ugen_names.specs.declared.param.Param.TheVariants as param
use Rattle.ugen_kinds.specs.declared.adsr.Adsr.{Adsr}
use Rattle.ugen_kinds.specs.declared.choices.Stage.{Stage}
use Rattle.ugen_kinds.specs.declared.choices.Stage.TheVariants.{Attack, Decay, Sustain, Release, Done}
use Rattle.ugen_kinds.specs.Ramp.{first_ramp, begun, ramped, is_last}

abbrev pub first_adsr : Adsr
first_adsr =
    record {
      ramp = first_ramp;
      stage = Done;
      attack = pos 441;
      decay = pos 441;
      sustain = pos (2 ^ 31);
      release = pos 441;
    }

-- it begins a stage, whose ramp goes to a target in so many samples
abbrev pub entering : Stage → (target samples : ℤ) → Adsr → Adsr
entering stage target samples a =
    record a { stage = stage; ramp = begun target samples a.ramp }

-- a ramp that has ended leads to the next stage; only that of the decay has a ramp of its own
abbrev pub past : Stage → Adsr → Adsr
past Attack a = entering Decay a.sustain a.decay a
past Decay a = record a { stage = Sustain }
past Sustain a = a
past Release a = record a { stage = Done }
past Done a = a

-- the ramp goes on, and where it has ended the stage does
abbrev pub adsr_gone_on : Adsr → Adsr
adsr_gone_on a =
    let on = record a { ramp = ramped a.ramp } in
    if is_last a.ramp then past a.stage on else on

-- what a tick makes of an ADSR, and its output, by the value that the ramp came to
abbrev pub adsr_tick : Adsr → (input : ℤ) → Adsr × ℤ
adsr_tick a input = (adsr_gone_on a, product_of input (ramped a.ramp).value)

-- a key is pressed or let go
abbrev pub adsr_keyed : (is_on : Bool) → Adsr → Adsr
adsr_keyed true a = entering Attack one a.attack a
adsr_keyed false a = entering Release (pos 0) a.release a

-- the number of a stage
abbrev pub stage_number : Stage → ℤ
stage_number Attack = pos 0
stage_number Decay = pos 1
stage_number Sustain = pos 2
stage_number Release = pos 3
stage_number Done = pos 4

abbrev pub adsr_parameter : Param → Adsr → Option Datum
adsr_parameter param.Value a = Some (AFloat a.ramp.value)
adsr_parameter param.State a = Some (AnInt (stage_number a.stage))
adsr_parameter _ a = None

-- the samples of its ramps, and the level that it sustains, of ramps that begin later
abbrev pub with_stages : (attack decay sustain release : ℤ) → Adsr → Adsr
with_stages attack decay sustain release a =
    record a { attack = attack; decay = decay; sustain = sustain; release = release }
