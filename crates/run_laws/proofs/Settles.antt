-- The slices at each sample come to an end, whatever the code.
use Rattle.std.proofs.Common.{ℕ, zero, suc, refl, arith}
use Rattle.std.proofs.lemmas.Int.{ints}
use Rattle.ck_code.specs.declared.code.CodeParts.{CodeParts}
use Rattle.ck_run.specs.Run.{Run, settled, most_slices}
use Rattle.ck_run.specs.Family.{IsFamily}
use Rattle.ck_run.specs.Sound.{BeginsFit}
use Rattle.ck_run.proofs.Settling.{Settles, settles, enough_slices, StandsAt, first_stands}
use Rattle.ck_meaning.specs.Replay.{Stopped, by_code, run_code}
use Rattle.run_laws.specs.FitRuns.{turns_at}
use Rattle.run_laws.specs.Settling.{IsSettled}
use Rattle.run_laws.proofs.Counted.{few_fresh, IsCounted, HasFewTurns, counts}

module _ (code : CodeParts) where
  -- the run stands at a sample, as far as its numbers and turns go
  abbrev Stands : ℕ → Run Stopped → Type 0
  Stands = StandsAt (by_code code) turns_at IsCounted HasFewTurns (counts code)

  -- and the slices there come to an end
  abbrev Ends : Run Stopped → Type 0
  Ends run =
      Settles (by_code code) turns_at IsCounted HasFewTurns (counts code) run
      (settled (by_code code) (most_slices run) run)

  -- each main begins with the fresh turns
  begins : BeginsFit (by_code code) IsCounted HasFewTurns code.mains code.statics
  begins = record {
    store = record { few = omega arith; first = omega arith };
    shreds = λ i f lt. few_fresh;
  }

  ends : (n : ℕ) (run : Run Stopped) → Stands n run → Ends run
  ends n run stands =
      settles (by_code code) turns_at IsCounted HasFewTurns (counts code) (most_slices run) run
      stands.sound
      (enough_slices (by_code code) turns_at IsCounted HasFewTurns (counts code) run stands.sound
      stands.sporks)

  stands_at : (n : ℕ) → Stands n (run_code code n)
  stands_at zero =
      first_stands (by_code code) turns_at IsCounted HasFewTurns (counts code) code.mains
      code.statics begins
  stands_at (suc n) =
      let before = stands_at n in
      let after = ends n (run_code code n) before in
      record {
        sound = record {
          store = record { few = omega arith; first = after.sound.store.first };
          family = after.sound.family;
          once = after.sound.once;
          fits = after.sound.fits;
        };
        now = omega (arith, ints, after.now, before.now);
        sporks = refl;
      }

  -- the slices at each sample leave none that is due
  pub settles_at : (n : ℕ) → IsSettled code n
  settles_at n = (ends n (run_code code n) (stands_at n)).none

  -- the live shreds are a family
  pub family_at : (n : ℕ) → IsFamily (run_code code n).store.next_shred (run_code code n).shreds
  family_at n = (stands_at n).sound.family
