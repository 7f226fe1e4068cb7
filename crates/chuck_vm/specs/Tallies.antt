-- The numbers of a run.
use Rattle.std.specs.Prelude.{◌≡◌, ℕ, pred, ◌-◌, ◌<◌, ◌^◌, min, is_some, List, length, count_by}
use Rattle.ck_run.specs.Run.{Run, Wake}
use Rattle.machine_world.specs.Worlds.{counted}
use Rattle.chuck_vm.specs.declared.tally.Tally.{Tally}

-- as far as 64 bits count
abbrev pub as_counted : ℕ → ℕ
as_counted n = min n (2 ^ 64 - 1)

-- the slices that trapped
abbrev pub trap_count : List Wake → ℕ
trap_count wakes = count_by (λ wake. is_some wake.trap) wakes

-- the samples made, the slices, those that trapped, the shred numbers given, the objects made, and
-- the instructions begun
abbrev pub tally_of : {P : Type 0} → Run P → (begun : ℕ) → Tally
tally_of run begun = record {
  samples = as_counted (length run.samples);
  wakes = as_counted (length run.wakes);
  traps = as_counted (trap_count run.wakes);
  shreds = as_counted (pred run.store.next_shred);
  made = as_counted (length run.store.objects);
  instructions = as_counted begun;
}

-- a count of 64 bits went on by so much
abbrev pub Counts : (more old new : ℕ) → Type 0
Counts more old new = old < 2 ^ 64 → new ≡ counted old more
