use Rattle.std.proofs.Common.{◌≡◌, ◌+◌, length}
use Rattle.shred_state.specs.Frames.{with_values}
use Rattle.machine_world.proofs.shreds.shed_all.Given as goal

abbrev pub invariant-shed : goal.invariant-shed
invariant-shed l =
    l.shred ≡ with_values l.initial.shred l.shred.top.locals l.shred.top.operands

abbrev pub decreases-shed : goal.decreases-shed
decreases-shed l = length l.shred.top.locals + length l.shred.top.operands
