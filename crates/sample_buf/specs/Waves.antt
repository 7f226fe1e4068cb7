-- The wave that the bytes of a file are, and where they are none.
use Rattle.std.specs.Prelude.{◌≡◌, ◌≢◌, ℕ, ◌+◌, ◌<◌, List, length, take, codes}
use Rattle.std.specs.List.{AllByRecursion}
use Rattle.sample_buf.specs.declared.format.Format.{Format}
use Rattle.sample_buf.specs.declared.waves.Wave.{Wave}
use Rattle.sample_buf.specs.Chunks.{Chunk, IsRiff, IsNoRiff, HasHead, HasChunk, HasChunks}
use Rattle.sample_buf.specs.Formats.{format_name, SaysFormat, SaysNone, HaveNoFormat, LastSays}
use Rattle.sample_buf.specs.Frames.{frames_of}

-- the name of the chunk that has the samples
abbrev pub data_name : List ℕ
data_name = codes "data"

-- a chunk that may stand before the samples: where it is to say the format, it says one
pub record IsBefore (chunk : Chunk) : Type 0 where
  pub no_samples : chunk.name ≢ data_name
  pub format : chunk.name ≡ format_name → (format : Format) × SaysFormat chunk.body format

-- the file is a RIFF WAVE file, of these whole chunks before the samples, and then the rest
pub record Opens (file : List ℕ) (chunks : List Chunk) (rest : List ℕ) : Type 0 where
  pub all : List ℕ
  pub riff : IsRiff file all
  pub stand : HasChunks all chunks rest
  pub before : AllByRecursion IsBefore chunks

-- The samples of the file are these bytes, in this format: as many bytes as the first chunk `data`
-- says, or all to the end of the file where fewer are left, in the format that the last chunk `fmt `
-- before it says.
pub record HasSamples (file : List ℕ) (format : Format) (bytes : List ℕ) : Type 0 where
  pub chunks : List Chunk
  pub rest : List ℕ
  pub opens : Opens file chunks rest
  pub says : LastSays chunks format
  pub size : ℕ
  pub behind : List ℕ
  pub head : HasHead rest data_name size behind
  pub samples : bytes ≡ take size behind

-- the file is this wave: the frames of its samples, at the rate of their format
pub record IsWave (file : List ℕ) (wave : Wave) : Type 0 where
  pub format : Format
  pub bytes : List ℕ
  pub samples : HasSamples file format bytes
  pub rate : wave.rate ≡ format.rate
  pub frames : wave.frames ≡ frames_of format.channels bytes

-- Behind these chunks the rest begins with none that may stand there: nothing is left, or less than
-- the head of a chunk; a chunk other than `data` runs past the end; one that is to say the format
-- doesn't; or the samples come, and nothing has said their format.
pub data Stops (chunks : List Chunk) (rest : List ℕ) : Type 0 where
  no_head : length rest < 8 → Stops chunks rest
  past_the_end : {name behind : List ℕ} {size : ℕ} → HasHead rest name size behind →
      name ≢ data_name → length behind < size → Stops chunks rest
  no_format : {body others : List ℕ} → HasChunk rest (record { name = format_name; body = body }) others →
      SaysNone body → Stops chunks rest
  unknown : {size : ℕ} {behind : List ℕ} → HasHead rest data_name size behind → HaveNoFormat chunks →
      Stops chunks rest

-- The file is no wave, and this is where: at its first byte where it is no RIFF WAVE file, else where
-- the rest begins that stops, which is the end of the file where nothing is left.
pub data IsFault (file : List ℕ) (at : ℕ) : Type 0 where
  no_riff : IsNoRiff file → at ≡ 0 → IsFault file at
  stops : {chunks : List Chunk} {rest : List ℕ} → Opens file chunks rest → Stops chunks rest →
      at + length rest ≡ length file → IsFault file at
