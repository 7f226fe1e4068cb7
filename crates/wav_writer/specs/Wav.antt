-- A RIFF WAVE file of 16-bit PCM at 44,100 frames a second: a header, then the samples.
use Rattle.std.specs.Prelude.{ℕ, ℤ, ◌+◌, ◌*◌, List, [], ◌∷◌, codes, flat_map}
use Rattle.std.specs.Int.{w16, cast_unsigned}
use Rattle.byteorder.specs.Endian.{little_bytes}

-- a field of the header: a text, or a number of two or of four bytes
pub data Field : Type 0 where
  Text : List ℕ → Field
  Short : ℕ → Field
  Long : ℕ → Field

-- the bytes of a field, of a number the low byte first
abbrev pub bytes_of : Field → List ℕ
bytes_of (Text letters) = letters
bytes_of (Short n) = little_bytes 2 n
bytes_of (Long n) = little_bytes 4 n

-- how many bytes the samples take: two for each channel of each frame
abbrev pub data_size : ℕ → ℕ → ℕ
data_size frames channels = 2 * channels * frames

-- the header: what the file is and the size of the rest; then the chunk of the format with its
-- size, PCM, the channels, frames a second, bytes a second, bytes a frame and bits a sample; then
-- the chunk of the samples with its size
abbrev pub header_fields : ℕ → ℕ → List Field
header_fields frames channels =
    Text (codes "RIFF") ∷ Long (36 + data_size frames channels) ∷ Text (codes "WAVE")
    ∷ Text (codes "fmt ") ∷ Long 16 ∷ Short 1 ∷ Short channels ∷ Long 44_100
    ∷ Long (88_200 * channels) ∷ Short (2 * channels) ∷ Short 16
    ∷ Text (codes "data") ∷ Long (data_size frames channels) ∷ []

-- the bytes of the header
abbrev pub header_of : ℕ → ℕ → List ℕ
header_of frames channels = flat_map bytes_of (header_fields frames channels)

-- a sample in two bytes, the low one first
abbrev pub sample_bytes : ℤ → List ℕ
sample_bytes sample = little_bytes 2 (cast_unsigned w16 sample)

-- the bytes of samples in order
abbrev pub bytes_of_samples : List ℤ → List ℕ
bytes_of_samples samples = flat_map sample_bytes samples
