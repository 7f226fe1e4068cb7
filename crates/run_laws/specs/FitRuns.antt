-- When the stores and the shreds of a code's run fit the code.
use Rattle.std.specs.Prelude.{ℕ, ◌≤◌, ℤ, ◌≤ℤ◌, int_lt}
use Rattle.ck_base.specs.declared.limits.TheConstants.{FRESH_TURNS}
use Rattle.ck_store.specs.Store.{Store, shapes_of}
use Rattle.ck_store.specs.Steps.{pick, fresh}
use Rattle.ck_code.specs.declared.code.CodeParts.{CodeParts}
use Rattle.ck_code.specs.Verified.{Typing}
use Rattle.ck_code.specs.Fitting.{IsFitStore, AreFit}
use Rattle.ck_meaning.specs.Replay.{Stopped}

-- the turns that a shred has at a time: afresh where time has gone on since its last slice
abbrev pub turns_at : (now : ℤ) → Stopped → ℕ
turns_at now shred = pick (int_lt shred.last now) fresh shred.turns

-- the store of a run: it fits the code, and shreds are numbered from 1 on
pub record IsRunStore (code : CodeParts) (store : Store) : Type 0 where
  pub fits : IsFitStore code store
  pub first : 1 ≤ store.next_shred

-- a shred of a run, beside this store: its frames fit, of the function that it began with; no more
-- than the fresh turns are left, and its last slice isn't later than now
pub record IsFitShred (code : CodeParts) (typing : Typing) (store : Store) (shred : Stopped) :
    Type 0 where
  pub main : ℕ
  pub frames : AreFit code typing main (shapes_of store) shred.frames
  pub turns : shred.turns ≤ FRESH_TURNS
  pub last : shred.last ≤ℤ store.now
