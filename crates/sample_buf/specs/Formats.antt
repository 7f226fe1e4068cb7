-- What a chunk `fmt ` says of the samples.
use Rattle.std.specs.Prelude.{◌≡◌, ◌≢◌, ℕ, ◌≤◌, List, ◌∷◌, ◌++◌, length, codes}
use Rattle.std.specs.List.{AllByRecursion}
use Rattle.byteorder.specs.Endian.{little_bytes}
use Rattle.sample_buf.specs.declared.format.Format.{Format}
use Rattle.sample_buf.specs.Chunks.{Chunk}

-- the name of the chunk that says the format
abbrev pub format_name : List ℕ
format_name = codes "fmt "

-- the body says this format: PCM, of one or two channels, at 1 to 192,000 frames a second, bytes a
-- second and bytes a frame, both of any value, 16 bits a sample, and what else there is
pub record SaysFormat (body : List ℕ) (format : Format) : Type 0 where
  pub sizes : List ℕ
  pub more : List ℕ
  pub six : length sizes ≡ 6
  pub stands : body ≡ little_bytes 2 1 ++ (little_bytes 2 format.channels
      ++ (little_bytes 4 format.rate ++ (sizes ++ (little_bytes 2 16 ++ more))))
  pub a_channel : 1 ≤ format.channels
  pub two_at_most : format.channels ≤ 2
  pub above_zero : 1 ≤ format.rate
  pub below_limit : format.rate ≤ 192_000

-- it says no format that can be played
abbrev pub SaysNone : List ℕ → Type 0
SaysNone body = (format : Format) → SaysFormat body format → ⊥

-- none of the chunks is to say the format
abbrev pub HaveNoFormat : List Chunk → Type 0
HaveNoFormat chunks = AllByRecursion (λ chunk. chunk.name ≢ format_name) chunks

-- the last of the chunks that is to say the format says this one
pub record LastSays (chunks : List Chunk) (format : Format) : Type 0 where
  pub before : List Chunk
  pub body : List ℕ
  pub behind : List Chunk
  pub stand : chunks ≡ before ++ record { name = format_name; body = body } ∷ behind
  pub says : SaysFormat body format
  pub last : HaveNoFormat behind
