use Rattle.std.proofs.Common.{◌≡◌, ◌≤◌, ◌+◌, ◌*◌, ◌^◌, drop, unsigned_abs}
use Rattle.std.specs.List.{fold}
use Rattle.fixed_point.specs.Fix.{sum_of}
use Rattle.ugen_sample.specs.declared.choices.Channel.{Channel}
use Rattle.ugen_sample.specs.Sample.{numbers_of}
use Rattle.ugen_graph.proofs.input.sum_alike.Given as goal

abbrev pub invariant-loop-i : goal.invariant-loop-i
invariant-loop-i l =
    record {
      each : (channel : Channel) →
          fold sum_of l.total (numbers_of l.nodes channel (drop l.i l.sources))
          ≡ fold sum_of l.fn.first (numbers_of l.nodes channel l.sources);
      bound : unsigned_abs l.total ≤ (l.i + 1) * 2 ^ 50;
    }
