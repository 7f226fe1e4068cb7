use Rattle.std.proofs.Common.{Err, ℕ, ap, ◌∙◌, refl}
use Rattle.sample_buf.specs.declared.fault.WaveFault.TheVariants as WaveFault
use Rattle.sample_buf.specs.Frames.{frames_of}
use Rattle.sample_buf.proofs.Readings.{one_wave, one_fault, samples_or_fault}
use Rattle.sample_buf.proofs.reading.wave.Goals as goal

pub returns-in_err-frames-in-Ok-clause-refuses : goal.returns-in_err-frames-in-Ok-clause-refuses
returns-in_err-frames-in-Ok-clause-refuses c at f = absurd (samples_or_fault c.args.file.now _ _ at c.in-Ok.ensures.found f)

pub returns-in_ok-frames-in-Ok-clause-refuses : goal.returns-in_ok-frames-in-Ok-clause-refuses
returns-in_ok-frames-in-Ok-clause-refuses c at f = absurd (samples_or_fault c.args.file.now _ _ at c.in-Ok.ensures.found f)

pub returns-in_ok-frames-in-Ok-clause-reads : goal.returns-in_ok-frames-in-Ok-clause-reads
returns-in_ok-frames-in-Ok-clause-reads c wave w =
    one_wave c.args.file.now _ wave (record {
      format = c.in-Ok.field-0.format;
      bytes = c.in-Ok.field-0.bytes.now;
      samples = c.in-Ok.ensures.found;
      rate = refl;
      frames = c.from_vec.ensures ∙ c.in_ok-frames-in-Ok.ensures;
    }) w

pub returns-in-Err-clause-reads : goal.returns-in-Err-clause-reads
returns-in-Err-clause-reads c wave w = absurd (samples_or_fault c.args.file.now _ _ c.in-Err.at w.samples c.in-Err.ensures.fault)

pub returns-in-Err-clause-refuses : goal.returns-in-Err-clause-refuses
returns-in-Err-clause-refuses c at f = ap (λ (n : ℕ). Err (WaveFault.Wave n)) (one_fault c.args.file.now c.in-Err.at at c.in-Err.ensures.fault f)

pub returns-in_err-frames-in-Ok-clause-memory : goal.returns-in_err-frames-in-Ok-clause-memory
returns-in_err-frames-in-Ok-clause-memory c e = (
  record { rate = c.in-Ok.field-0.format.rate; frames = frames_of c.in-Ok.field-0.format.channels c.in-Ok.field-0.bytes.now },
  record {
    format = c.in-Ok.field-0.format;
    bytes = c.in-Ok.field-0.bytes.now;
    samples = c.in-Ok.ensures.found;
    rate = refl;
    frames = refl;
  },
)
