-- The laws that runners of shreds keep, and what is true of every run by such a runner.
use Rattle.std.specs.Prelude.{◌≡◌, ℕ, suc, ◌+◌, ◌-◌, ◌*◌, ◌≤◌, ℤ, pos, ◌<ℤ◌, Bool, List, [], ◌∷◌, length, filter, All}
use Rattle.ck_base.specs.declared.limits.TheConstants.{MAX_SPORKS, MAX_SAMPLES}
use Rattle.ck_values.specs.declared.kind.Kind.{Kind}
use Rattle.ck_values.specs.Datum.{Datum}
use Rattle.ugen_sample.specs.Connection.{Connection}
use Rattle.ck_store.specs.Store.{Store, first_store, Act, Printed, Sporked, WokeOne, WokeAll, Removed, At, On, End}
use Rattle.ck_store.specs.Steps.{fresh}
use Rattle.ck_run.specs.Run.{Stop, Asked, Trapped, WentWrong, Slice, Runner, Run, after_sample}
use Rattle.ck_run.specs.Counts.{times, weight}
use Rattle.ck_run.specs.Family.{IsFamily}

-- the sporks among the acts have the numbers from one to below another, in order
abbrev pub AreNumbered : (from to : ℕ) → List Act → Type 0
AreNumbered from to [] = from ≡ to
AreNumbered from to (Sporked number f arguments ∷ rest) =
    (number ≡ from) × AreNumbered (suc from) to rest
AreNumbered from to (Printed line ∷ rest) = AreNumbered from to rest
AreNumbered from to (WokeOne event ∷ rest) = AreNumbered from to rest
AreNumbered from to (WokeAll event ∷ rest) = AreNumbered from to rest
AreNumbered from to (Removed number ∷ rest) = AreNumbered from to rest

-- how many sporks there are
abbrev pub sporks_in : List Act → ℕ
sporks_in [] = 0
sporks_in (Sporked number f arguments ∷ rest) = suc (sporks_in rest)
sporks_in (Printed line ∷ rest) = sporks_in rest
sporks_in (WokeOne event ∷ rest) = sporks_in rest
sporks_in (WokeAll event ∷ rest) = sporks_in rest
sporks_in (Removed number ∷ rest) = sporks_in rest

-- this holds of each spork
abbrev pub AllSporks : (ℕ → List Datum → Type 0) → List Act → Type 0
AllSporks Q [] = Unit {0}
AllSporks Q (Sporked number f arguments ∷ rest) = Q f arguments × AllSporks Q rest
AllSporks Q (Printed line ∷ rest) = AllSporks Q rest
AllSporks Q (WokeOne event ∷ rest) = AllSporks Q rest
AllSporks Q (WokeAll event ∷ rest) = AllSporks Q rest
AllSporks Q (Removed number ∷ rest) = AllSporks Q rest

-- the stop lets its shred go on
abbrev pub Goes : Stop → Type 0
Goes (Asked (At time)) = Unit {0}
Goes (Asked (On event)) = Unit {0}
Goes (Asked End) = ⊥
Goes (Trapped trap place) = ⊥
Goes WentWrong = ⊥

module _ {P : Type 0} where
  -- what a slice keeps: the time, and what fits; its sporks are numbered in order and counted, and
  -- the children fit. Where its shred goes on, that one fits and has spent a turn
  pub record IsKept (runner : Runner P) (turns : ℤ → P → ℕ) (FitStore : Store → Type 0)
      (Fits : Store → P → Type 0) (p : P) (before : Store) (slice : Slice P) : Type 0 where
    pub now : slice.store.now ≡ before.now
    pub store : FitStore slice.store
    pub others : (q : P) → Fits before q → Fits slice.store q
    pub numbered : AreNumbered before.next_shred slice.store.next_shred slice.acts
    pub sporks : before.sporks + sporks_in slice.acts ≡ slice.store.sporks
    pub children : AllSporks (λ f arguments. Fits slice.store (runner.begin f arguments)) slice.acts
    pub goes : Goes slice.stop → Fits slice.store slice.progress
        × (suc (turns before.now slice.progress) ≤ turns before.now p)

  -- a runner by whose slices shreds that fit go on fitting, where a shred has so many turns at a
  -- time; shreds fit too where connections are cut, and at the next sample
  pub record IsLawful (runner : Runner P) (turns : ℤ → P → ℕ) (FitStore : Store → Type 0)
      (Fits : Store → P → Type 0) : Type 0 where
    pub slices : (n : ℕ) (p : P) (store : Store) → FitStore store → Fits store p
        → IsKept runner turns FitStore Fits p store (runner.slice n p store)
    pub few_turns : (p : P) (store : Store) (now : ℤ) → Fits store p → turns now p ≤ fresh
    pub few_sporks : (store : Store) → FitStore store → store.sporks ≤ MAX_SPORKS
    pub first : (store : Store) → FitStore store → 1 ≤ store.next_shred
    pub cut : (store : Store) (keep : Connection → Bool) → FitStore store
        → FitStore (record store { connections = filter keep store.connections })
    pub cut_fits : (store : Store) (keep : Connection → Bool) (p : P) → Fits store p
        → Fits (record store { connections = filter keep store.connections }) p
    pub tick : (store : Store) → FitStore store → store.now <ℤ pos MAX_SAMPLES
        → FitStore (after_sample runner store)
    pub tick_fits : (store : Store) (p : P) → Fits store p
        → Fits (after_sample runner store) p

  -- how often a number stands among what is due, what waits, and the live shreds
  abbrev pub times_due : ℕ → Run P → ℕ
  times_due m run = times (λ due. due.shred) m run.due

  abbrev pub times_waiting : ℕ → Run P → ℕ
  times_waiting m run = times (λ wait. wait.shred) m run.waits

  abbrev pub times_live : ℕ → Run P → ℕ
  times_live m run = times (λ shred. shred.number) m run.shreds

  -- a run is orderly: its shreds are a family, numbered below this one, and each is due or waits at
  -- most once
  pub record IsOrderly (next : ℕ) (run : Run P) : Type 0 where
    pub family : IsFamily next run.shreds
    pub once : (m : ℕ) → times_due m run + times_waiting m run ≤ times_live m run

  -- a run is sound: its shreds are a family, each is due or waits at most once, and all fit
  pub record IsSound (FitStore : Store → Type 0) (Fits : Store → P → Type 0)
      (run : Run P) : Type 0 where
    pub store : FitStore run.store
    pub family : IsFamily run.store.next_shred run.shreds
    pub once : (m : ℕ) → times_due m run + times_waiting m run ≤ times_live m run
    pub fits : All (λ shred. Fits run.store shred.progress) run.shreds

  -- the measure of a run at a sample: the turns that each live shred has, one more for each, and
  -- those of a shred for each spork that can be made yet
  abbrev pub measure : (turns : ℤ → P → ℕ) → Run P → ℕ
  measure turns run =
      weight (λ shred. suc (turns run.store.now shred.progress)) run.shreds
      + suc fresh * (MAX_SPORKS - run.store.sporks)

  -- the first store fits, and the shreds of these mains
  pub record BeginsFit (runner : Runner P) (FitStore : Store → Type 0) (Fits : Store → P → Type 0)
      (mains : List ℕ) (statics : List Kind) : Type 0 where
    pub store : FitStore (first_store (length mains) statics)
    pub shreds : All (λ f. Fits (first_store (length mains) statics) (runner.begin f [])) mains
