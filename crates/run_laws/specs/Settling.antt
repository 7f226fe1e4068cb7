-- When all shreds that are due at a sample have run.
use Rattle.std.specs.Prelude.{◌≡◌, ℕ, None}
use Rattle.ck_code.specs.declared.code.CodeParts.{CodeParts}
use Rattle.ck_run.specs.Run.{first_due, settled, most_slices}
use Rattle.ck_meaning.specs.Replay.{by_code, run_code}

-- the slices at this sample leave none that is due then
abbrev pub IsSettled : CodeParts → (sample : ℕ) → Type 0
IsSettled code sample =
    let before = run_code code sample in
    let after = settled (by_code code) (most_slices before) before in
    first_due after.store.now after.due ≡ None
