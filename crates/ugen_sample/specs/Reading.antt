-- What a unit generator reads at its turn in a sample.
use Rattle.std.specs.Prelude.{ℕ, ℤ, List, map, if◌then◌else◌}
use Rattle.ugen_kinds.specs.declared.output.Output.{Output}
use Rattle.ugen_sample.specs.declared.choices.Channel.{Channel}
use Rattle.ugen_sample.specs.Connection.{Connection}
use Rattle.ugen_sample.specs.UnitState.{Units}
use Rattle.ugen_sample.specs.Order.{is_among}
use Rattle.ugen_sample.specs.Sample.{last_of, number_on, sources_on}

-- the output of a source: this sample's where it stands before in the order, else the one before
abbrev pub read_at : (before : List ℕ) → (old new : Units) → (source : ℕ) → Output
read_at before old new m = if is_among m before then last_of new m else last_of old m

-- what n hears on each channel at its turn
abbrev pub heard_at : List Connection → (before : List ℕ) → (old new : Units) → (n : ℕ) → Channel
    → List ℤ
heard_at connections before old new n channel =
    map (λ m. number_on channel (read_at before old new m)) (sources_on connections channel n)
