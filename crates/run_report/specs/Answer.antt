-- What a run answers: a status, the steps at the edges, and its numbers.
use Rattle.std.specs.Prelude.{ℕ, ℤ, List, [], ◌∷◌, ◌++◌, Option, Some, flat_map}
use Rattle.ck_run.specs.Report.{sheet_samples}
use Rattle.ck_run.specs.Run.{Run, Block}
use Rattle.chuck_vm.specs.declared.tally.Tally.{Tally}
use Rattle.chuck_vm.specs.Tallies.{tally_of}
use Rattle.wav_writer.specs.Wav.{header_of, bytes_of_samples}
use Rattle.run_report.specs.declared.report.Report.{Report}
use Rattle.run_report.specs.declared.report.Report.TheVariants as report
use Rattle.run_report.specs.declared.status.Status.{Status}
use Rattle.run_report.specs.Step.{Step, Write, BeginSheet, WriteSheet, EndSheet, writes_of}
use Rattle.run_report.specs.Blocks.{blocks_of, block_report, run_status, tally_lines}

-- a status, the steps at the edges in order, and the numbers of the run, where there is one
pub record WholeAnswer : Type 0 where
  pub status : Status
  pub steps : List Step
  pub tally : Option Tally

-- what is done with the samples of a block: where the report of a run is its text, they go on the
-- sheet
abbrev pub samples_steps : Report → List ℤ → List Step
samples_steps report.Wakes samples = []
samples_steps report.Text samples = WriteSheet (bytes_of_samples samples) ∷ []
samples_steps report.Numbers samples = []

-- what is done for a block with this report and these samples of the sheet
abbrev pub lines_steps : Report → List ℕ → List ℤ → List Step
lines_steps report lines samples = writes_of (lines ∷ []) ++ samples_steps report samples

abbrev pub block_steps : Report → List (List ℕ) → Block → List Step
block_steps report names block =
    lines_steps report (block_report report names block) (sheet_samples block.samples)

-- what a run of so many samples answers by its blocks alone, where the files have these names and
-- its slices began so many instructions
abbrev pub blocks_answer : {P : Type 0} → Report → (samples : ℕ) → List (List ℕ) →
    (run : ℕ → Run P) → (begun : ℕ) → WholeAnswer
blocks_answer report samples names run begun = record {
  status = run_status (run samples).wakes;
  steps = flat_map (block_steps report names) (blocks_of run samples);
  tally = Some (tally_of (run samples) begun);
}

-- the same on a sheet of this name, which has a header and ends behind the last block
abbrev pub on_sheet : (sheet : List ℕ) → (samples : ℕ) → WholeAnswer → WholeAnswer
on_sheet sheet samples answer = record {
  status = answer.status;
  steps = BeginSheet sheet ∷ WriteSheet (header_of samples 1) ∷ (answer.steps ++ EndSheet ∷ []);
  tally = answer.tally;
}

-- what a run answers by its numbers alone
abbrev pub numbers_answer : {P : Type 0} → (samples : ℕ) → (run : ℕ → Run P) → (begun : ℕ) →
    WholeAnswer
numbers_answer samples run begun = record {
  status = run_status (run samples).wakes;
  steps = Write (tally_lines (tally_of (run samples) begun)) ∷ [];
  tally = Some (tally_of (run samples) begun);
}

-- what a run answers: its slices, its text beside a sheet of this name, or its numbers
abbrev pub run_answer : {P : Type 0} → Report → (samples : ℕ) → (sheet : List ℕ) →
    List (List ℕ) → (run : ℕ → Run P) → (begun : ℕ) → WholeAnswer
run_answer report.Wakes samples sheet names run begun =
    blocks_answer report.Wakes samples names run begun
run_answer report.Text samples sheet names run begun =
    on_sheet sheet samples (blocks_answer report.Text samples names run begun)
run_answer report.Numbers samples sheet names run begun = numbers_answer samples run begun
