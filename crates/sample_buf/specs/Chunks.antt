-- The chunks of a RIFF WAVE file.
use Rattle.std.specs.Prelude.{◌≡◌, ℕ, ◌^◌, ◌%◌, ◌<◌, List, [], ◌∷◌, ◌++◌, length, drop, codes}
use Rattle.byteorder.specs.Endian.{little_bytes}

-- the bytes are `RIFF`, four bytes of any value, `WAVE`, and then the chunks
pub record IsRiff (file chunks : List ℕ) : Type 0 where
  pub size : List ℕ
  pub four : length size ≡ 4
  pub stands : file ≡ codes "RIFF" ++ (size ++ (codes "WAVE" ++ chunks))

-- the bytes are no such file
abbrev pub IsNoRiff : List ℕ → Type 0
IsNoRiff file = (chunks : List ℕ) → IsRiff file chunks → ⊥

-- a chunk: its name and its body
pub record Chunk : Type 0 where
  pub name : List ℕ
  pub body : List ℕ

-- at the front stands the head of a chunk, its name of four bytes and in four bytes the size of its
-- body; then comes what is behind it
pub record HasHead (bytes name : List ℕ) (size : ℕ) (behind : List ℕ) : Type 0 where
  pub four : length name ≡ 4
  pub fits : size < 2 ^ 32
  pub stands : bytes ≡ name ++ (little_bytes 4 size ++ behind)

-- at the front stands this whole chunk; then come the others: behind a body of odd size stands one
-- byte of any value first, which may be missing at the end of the file
pub record HasChunk (bytes : List ℕ) (chunk : Chunk) (others : List ℕ) : Type 0 where
  pub behind : List ℕ
  pub head : HasHead bytes chunk.name (length chunk.body) (chunk.body ++ behind)
  pub padded : others ≡ drop (length chunk.body % 2) behind

-- the bytes are these whole chunks, one behind the other, and then the rest
abbrev pub HasChunks : List ℕ → List Chunk → List ℕ → Type 0
HasChunks bytes [] rest = rest ≡ bytes
HasChunks bytes (chunk ∷ chunks) rest =
    (others : List ℕ) × HasChunk bytes chunk others × HasChunks others chunks rest
