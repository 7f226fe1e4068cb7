-- What `wav_writer` writes of one channel is read.
use Rattle.std.proofs.Common.{◌≡◌, ℕ, ◌+◌, ◌*◌, ◌/◌, ◌≤◌, List, [], ◌∷◌, ◌++◌, length, take, map, ℤ, FitsSigned, refl, sym, ap, ◌∙◌, arith}
use Rattle.std.specs.Prelude.{codes}
use Rattle.std.specs.Int.{w16, cast_signed, cast_unsigned}
use Rattle.std.specs.List.{AllByRecursion}
use Rattle.std.specs.Simd.{first_chunks}
use Rattle.std.proofs.lemmas.Int.{to_z-of_z}
use Rattle.std.proofs.lemmas.List.{take_all}
use Rattle.std.proofs.Math.Facts.{Fits-of_z}
use Rattle.byteorder.specs.Endian.{little_bytes}
use Rattle.byteorder.specs.Numbers.{little_number-reads_back}
use Rattle.wav_writer.specs.Wav.{header_of, bytes_of_samples, sample_bytes}
use Rattle.sample_buf.specs.declared.format.Format.{Format}
use Rattle.sample_buf.specs.Formats.{format_name, SaysFormat}
use Rattle.sample_buf.specs.Frames.{sample_of, frames_of}
use Rattle.sample_buf.specs.Waves.{IsWave}
use Rattle.sample_buf.proofs.Readings.{other_names}

-- a sample from its two bytes
sample_back : (x : ℤ) → FitsSigned w16 x → sample_of (sample_bytes x) ≡ x
sample_back x f = ap (cast_signed w16) (little_number-reads_back 2 (cast_unsigned w16 x) [] (let g = Fits-of_z f in omega (arith, g))) ∙ to_z-of_z w16 x f

samples_length : (samples : List ℤ) → length (bytes_of_samples samples) ≡ 2 * length samples
samples_length [] = refl
samples_length (x ∷ xs) = let more = samples_length xs in omega (arith, more)

samples_back : (samples : List ℤ) → AllByRecursion (FitsSigned w16) samples → map sample_of (first_chunks 2 (length samples) (bytes_of_samples samples)) ≡ samples
samples_back [] f = refl
samples_back (x ∷ xs) f =
    ap (λ (s : ℤ). s ∷ map sample_of (first_chunks 2 (length xs) (bytes_of_samples xs))) (sample_back x f.0) ∙ ap (λ (t : List ℤ). x ∷ t) (samples_back xs f.1)

frames_back : (samples : List ℤ) → AllByRecursion (FitsSigned w16) samples → samples ≡ frames_of 1 (take (2 * 1 * length samples) (bytes_of_samples samples))
frames_back samples f =
    let len = samples_length samples in
    let all : take (2 * 1 * length samples) (bytes_of_samples samples) ≡ bytes_of_samples samples = take_all (2 * 1 * length samples) (bytes_of_samples samples) (omega (arith, len)) in
    let count : length (bytes_of_samples samples) / 2 ≡ length samples = omega (arith, len) in
    sym (ap (frames_of 1) all ∙ ap (λ (n : ℕ). map sample_of (first_chunks 2 n (bytes_of_samples samples))) count ∙ samples_back samples f)

-- the format that the header says
format : Format
format = record { channels = 1; rate = 44_100 }

body : List ℕ
body = little_bytes 2 1 ++ (little_bytes 2 1 ++ (little_bytes 4 44_100 ++ ((little_bytes 4 88_200 ++ little_bytes 2 2) ++ (little_bytes 2 16 ++ []))))

says : SaysFormat body format
unfolding body format
says = record {
  sizes = little_bytes 4 88_200 ++ little_bytes 2 2;
  more = [];
  six = refl;
  stands = refl;
  a_channel = omega arith;
  two_at_most = omega arith;
  above_zero = omega arith;
  below_limit = omega arith;
}

pub written : (samples : List ℤ) → length samples ≤ 500_000_000 → AllByRecursion (FitsSigned w16) samples → IsWave (header_of (length samples) 1 ++ bytes_of_samples samples) (record { rate = 44_100; frames = samples })
unfolding body format
written samples few f =
    let size = 2 * 1 * length samples in
    let rest : List ℕ = codes "data" ++ (little_bytes 4 size ++ bytes_of_samples samples) in
    record {
      format = format;
      bytes = take size (bytes_of_samples samples);
      samples = record {
        chunks = record { name = format_name; body = body } ∷ [];
        rest = rest;
        opens = record {
          all = codes "fmt " ++ (little_bytes 4 16 ++ (body ++ rest));
          riff = record { size = little_bytes 4 (36 + size); four = refl; stands = refl };
          stand = (rest, record { behind = rest; head = record { four = refl; fits = omega arith; stands = refl }; padded = refl }, refl);
          before = (record { no_samples = other_names; format = λ e. (format, says) }, tt);
        };
        says = record { before = []; body = body; behind = []; stand = refl; says = says; last = tt };
        size = size;
        behind = bytes_of_samples samples;
        head = record { four = refl; fits = omega (arith, few); stands = refl };
        samples = refl;
      };
      rate = refl;
      frames = frames_back samples f;
    }
