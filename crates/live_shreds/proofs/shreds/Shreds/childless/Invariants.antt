use Rattle.std.proofs.Common.{◌-◌, ◌^◌}
use Rattle.live_shreds.specs.Live.{EndsWith}
use Rattle.live_shreds.proofs.shreds.Shreds.childless.Given as goal

abbrev pub invariant-down : goal.invariant-down
invariant-down l = EndsWith l.self l.number l.at

abbrev pub decreases-down : goal.decreases-down
decreases-down l = 2 ^ 64 - l.at
