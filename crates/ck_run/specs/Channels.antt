-- The same run by another sound, and a run of one channel.
use Rattle.std.specs.Prelude.{ℕ, ◌<◌, List}
use Rattle.ck_values.specs.declared.kind.Kind.{Kind}
use Rattle.ugen_sample.specs.Connection.{Connection}
use Rattle.ugen_sample.specs.UnitState.{Units}
use Rattle.ugen_sample.specs.Order.{roots}
use Rattle.ugen_sample.specs.OneChannel.{mono_sampled, AreMono, HaveNoSides}
use Rattle.ck_store.specs.Store.{Store}
use Rattle.ck_run.specs.Run.{Runner, Run, settled, most_slices, run_of}

-- what a sample makes of unit generators
abbrev pub Sound : Type 0
Sound = List Connection → Units → Units

-- that of one channel
abbrev pub one_channel : Sound
one_channel connections units = mono_sampled roots connections units

-- no connection of the store has a side, and its unit generators have one channel
pub record HasOneChannel (store : Store) : Type 0 where
  pub connections : HaveNoSides store.connections
  pub units : AreMono store.units

module _ {P : Type 0} where
  -- the same slices by another sound
  abbrev pub by_sound : Sound → Runner P → Runner P
  by_sound sound runner = record runner { sound = sound }

  -- the run of so many samples when the slices before its next sample have run
  abbrev pub before_sample : Runner P → (mains : List ℕ) → (statics : List Kind) → (samples : ℕ)
      → Run P
  before_sample runner mains statics n =
      let run = run_of runner mains statics n in
      settled runner (most_slices run) run

  -- this holds of the store of a run whenever one of its samples is made
  abbrev pub AtEachSample : (Store → Type 0) → Runner P → (mains : List ℕ)
      → (statics : List Kind) → (samples : ℕ) → Type 0
  AtEachSample Q runner mains statics n =
      (m : ℕ) → m < n → Q (before_sample runner mains statics m).store
