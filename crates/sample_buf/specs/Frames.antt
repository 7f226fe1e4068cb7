-- The frames of the samples of 16 bits that stand in bytes.
use Rattle.std.specs.Prelude.{ℕ, ℤ, pos, ◌/◌, ◌+ℤ◌, ◌==◌, if◌then◌else◌, List, length, drop, map}
use Rattle.std.specs.Int.{w16, cast_signed}
use Rattle.std.specs.Simd.{first_chunks}
use Rattle.byteorder.specs.Endian.{little_number}
use Rattle.fixed_point.specs.Rounding.{floor_div}

-- the bytes of each whole frame of so many bytes; what makes no whole one at the end is dropped
abbrev pub whole_frames : ℕ → List ℕ → List (List ℕ)
whole_frames size bytes = first_chunks size (length bytes / size) bytes

-- a sample: two bytes, the low one first, in two's complement
abbrev pub sample_of : List ℕ → ℤ
sample_of bytes = cast_signed w16 (little_number 2 bytes)

-- a frame of two channels: the half of left and right, rounded down
abbrev pub half_of_both : List ℕ → ℤ
half_of_both bytes = floor_div (sample_of bytes +ℤ sample_of (drop 2 bytes)) (pos 2)

-- the frames in order, of one channel or of two
abbrev pub frames_of : ℕ → List ℕ → List ℤ
frames_of channels bytes =
    if channels == 1 then map sample_of (whole_frames 2 bytes)
    else map half_of_both (whole_frames 4 bytes)
