use Rattle.std.proofs.Common.{◌≡◌, drop}
use Rattle.ck_edges.specs.Failing.{fails_after}
use Rattle.ck_edges.proofs.failing.failure_of.Given as goal

abbrev pub invariant-loop-number : goal.invariant-loop-number
invariant-loop-number l =
    fails_after (drop l.number-index l.fails) l.call ≡ fails_after l.fails l.call
