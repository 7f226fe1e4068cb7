use Rattle.std.proofs.Common.{◌≡◌, ◌+◌, ◌++◌, ◌<◌, ◌^◌, length}
use Rattle.shred_queues.specs.Queues.{keyed, AreBefore}
use Rattle.shred_queues.proofs.queues.numbered_anew.Given as goal

abbrev pub invariant-loop-place : goal.invariant-loop-place
invariant-loop-place g l = record {
  same : keyed l.anew ++ keyed l.place-iterator.rest.items ≡ keyed l.fn.places;
  before : AreBefore l.next l.anew;
  few : l.next + length l.place-iterator.rest.items < 2 ^ 63;
}
