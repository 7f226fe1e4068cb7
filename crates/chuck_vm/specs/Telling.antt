-- What a machine tells as it goes on.
use Rattle.std.specs.Prelude.{◌≡◌, ℕ, ℤ, List, ◌++◌, length, find, nat_eq, Option, slice_get}
use Rattle.ck_values.specs.Datum.{Datum}
use Rattle.ck_typed.specs.WellFormed.{FoundWhere}
use Rattle.ck_code.specs.declared.code.CodeParts.{CodeParts}
use Rattle.ck_store.specs.Store.{Act, Sporked}
use Rattle.ck_meaning.specs.Replay.{Stopped}
use Rattle.ck_run.specs.Run.{Run, Block, Wait}
use Rattle.ck_run.specs.Report.{text_bytes, sheet_samples}
use Rattle.ck_run.specs.Told.{AddsFront}
use Rattle.chuck_vm.specs.declared.machine.Machine.{Machine}
use Rattle.chuck_vm.specs.declared.wake.Wake.{Wake as MachineWake}
use Rattle.chuck_vm.specs.Machine.{Stands}
use Rattle.chuck_vm.specs.Wakes.{wakes_meant}

-- a shred can begin so: the function is there, and takes so many arguments
abbrev pub CanBegin : CodeParts → (fun : ℕ) → (arguments : List Datum) → Type 0
CanBegin code f arguments =
    FoundWhere (slice_get code.funs f) (λ fn. fn.params ≡ length arguments)

-- where the act is a spork, its child has this number and can begin
abbrev pub IsNext : CodeParts → (next : ℕ) → Act → Type 0
IsNext code next (Sporked number f arguments) = (number ≡ next) × CanBegin code f arguments
IsNext code next _ = Unit {0}

-- who waits longest on an event
abbrev pub longest : (event : ℕ) → Run Stopped → Option Wait
longest event run = find (λ wait. nat_eq wait.event event) run.waits

-- the machine stands for this run, and has added what that one has told
pub record Becomes (names : List (List ℕ)) (run : Run Stopped) (machine : Machine)
    (text text2 : List ℕ) (wakes wakes2 : List MachineWake) : Type 0 where
  pub stands : Stands machine run
  pub text_is : text2 ≡ text ++ text_bytes names run.text
  pub wakes_are : wakes_meant wakes2 ≡ wakes_meant wakes ++ run.wakes

-- some front of what this run has told was added
pub record TellsFront (names : List (List ℕ)) (run : Run Stopped) (text text2 : List ℕ)
    (wakes wakes2 : List MachineWake) : Type 0 where
  pub text_front : AddsFront (text_bytes names run.text) text text2
  pub wakes_front : AddsFront run.wakes (wakes_meant wakes) (wakes_meant wakes2)

-- a block was added to the samples of the sheet, the text and the slices
pub record Adds (names : List (List ℕ)) (block : Block) (samples samples2 : List ℤ)
    (text text2 : List ℕ) (wakes wakes2 : List MachineWake) : Type 0 where
  pub samples_are : samples2 ≡ samples ++ sheet_samples block.samples
  pub text_is : text2 ≡ text ++ text_bytes names block.text
  pub wakes_are : wakes_meant wakes2 ≡ wakes_meant wakes ++ block.wakes

-- or some front of each
pub record AddsFronts (names : List (List ℕ)) (block : Block) (samples samples2 : List ℤ)
    (text text2 : List ℕ) (wakes wakes2 : List MachineWake) : Type 0 where
  pub samples_front : AddsFront (sheet_samples block.samples) samples samples2
  pub text_front : AddsFront (text_bytes names block.text) text text2
  pub wakes_front : AddsFront block.wakes (wakes_meant wakes) (wakes_meant wakes2)
