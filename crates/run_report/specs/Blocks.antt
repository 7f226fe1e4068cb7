-- What is reported of a run, block by block of its samples.
use Rattle.std.specs.Prelude.{◌≡◌, ℕ, ◌+◌, ◌*◌, min, nat_lt, Bool, List, [], ◌∷◌, ◌++◌, map, is_some}
use Rattle.std.specs.Prelude.{codes, decimal, if◌then◌else◌}
use Rattle.std.specs.List.{list_any, range_with_len}
use Rattle.std.specs.Int.{div_ceil}
use Rattle.ck_run.specs.Report.{wake_lines, text_bytes, sheet_samples}
use Rattle.ck_run.specs.Run.{Run, Wake, Block, block_between}
use Rattle.chuck_vm.specs.declared.tally.Tally.{Tally}
use Rattle.run_report.specs.declared.block.Block.{Block as Made}
use Rattle.run_report.specs.declared.report.Report.{Report}
use Rattle.run_report.specs.declared.report.Report.TheVariants.{Wakes, Text, Numbers}
use Rattle.run_report.specs.declared.status.Status.{Status}
use Rattle.run_report.specs.declared.status.Status.TheVariants.{Done, Trapped}

-- the samples of one block of a run
abbrev pub block_length : ℕ
block_length = 4096

-- how many blocks a run has; the last one may be shorter
abbrev pub block_count : ℕ → ℕ
block_count samples = div_ceil samples block_length

-- the sample at which a block starts; that behind the last one is the end
abbrev pub block_start : (samples block : ℕ) → ℕ
block_start samples block = min (block * block_length) samples

-- what the run up to the end of a block has more than the run up to its start
abbrev pub block_at : {P : Type 0} → (run : ℕ → Run P) → (samples block : ℕ) → Block
block_at run samples block =
    block_between (run (block_start samples block)) (run (block_start samples (block + 1)))

-- the blocks of a run of so many samples
abbrev pub blocks_of : {P : Type 0} → (run : ℕ → Run P) → (samples : ℕ) → List Block
blocks_of run samples = map (block_at run samples) (range_with_len 0 (block_count samples))

-- what is reported of a block, where the files have these names: its slices, its text, or nothing
abbrev pub block_report : Report → (names : List (List ℕ)) → Block → List ℕ
block_report Wakes names block = wake_lines names block.wakes
block_report Text names block = text_bytes names block.text
block_report Numbers names block = []

-- some of the slices trapped
abbrev pub some_trapped : List Wake → Bool
some_trapped wakes = list_any (λ wake. is_some wake.trap) wakes

-- the status of a run: whether some slice trapped
abbrev pub run_status : List Wake → Status
run_status wakes = if some_trapped wakes then Trapped else Done

-- the status of a run of these numbers
abbrev pub tally_status : Tally → Status
tally_status tally = if nat_lt 0 tally.traps then Trapped else Done

-- the line of a number
abbrev pub count_line : (name : List ℕ) → (count : ℕ) → List ℕ
count_line name count = name ++ 32 ∷ decimal count ++ 10 ∷ []

-- a line for each number of a run
abbrev pub tally_lines : Tally → List ℕ
tally_lines tally =
    count_line (codes "samples") tally.samples
    ++ count_line (codes "wakes") tally.wakes
    ++ count_line (codes "traps") tally.traps
    ++ count_line (codes "shreds") tally.shreds
    ++ count_line (codes "made") tally.made
    ++ count_line (codes "instructions") tally.instructions

-- a block was made, where the files have these names: its samples and its report
pub record IsReported (report : Report) (names : List (List ℕ)) (block : Block) (made : Made)
    : Type 0 where
  pub samples : made.samples.items ≡ sheet_samples block.samples
  pub lines : made.lines.items ≡ block_report report names block
