-- What contracts see of a machine of shreds.
use Rattle.std.specs.Prelude.{◌≡◌, ℕ, ◌+◌, ◌≤◌, List, length}
use Rattle.ck_base.specs.declared.limits.TheConstants.{MAX_FILES, MAX_SAMPLES}
use Rattle.ck_code.specs.declared.code.CodeParts.{CodeParts}
use Rattle.ck_code.specs.Verified.{IsVerified}
use Rattle.ck_meaning.specs.Replay.{run_code}
use Rattle.ck_run.specs.Run.{Block, block_between}
use Rattle.chuck_vm.specs.declared.machine.Machine.{Machine}
use Rattle.chuck_vm.specs.Machine.{Stands}
use Rattle.chuck_vm.specs.Tallies.{as_counted, trap_count}

-- its code, the names of its files, and how many samples it has made
pub record Sight : Type 0 where
  pub code : CodeParts
  pub names : List (List ℕ)
  pub samples : ℕ

-- the machine stands for the run of its verified code after so many samples, and its counts for
-- those of the run
pub record StandsFor (made wakes traps : ℕ) (machine : Machine) : Type 0 where
  pub stands : Stands machine (run_code machine.code made)
  pub wakes_is : wakes ≡ as_counted (length (run_code machine.code made).wakes)
  pub traps_is : traps ≡ as_counted (trap_count (run_code machine.code made).wakes)
  pub ran_is : machine.world.ran ≡ as_counted (run_code machine.code made).begun
  pub verified : IsVerified machine.code
  pub files : length machine.code.mains ≤ MAX_FILES
  pub few : made ≤ MAX_SAMPLES

-- what a run of the code tells at so many samples, after so many others
abbrev pub block_of : CodeParts → (made count : ℕ) → Block
block_of code made count = block_between (run_code code made) (run_code code (made + count))
