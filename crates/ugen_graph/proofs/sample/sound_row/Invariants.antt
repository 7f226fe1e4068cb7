use Rattle.std.proofs.Common.{◌≡◌, ◌-◌, ◌<◌, []}
use Rattle.std.specs.List.{fold, range_with_len}
use Rattle.ugen_kinds.specs.SoundFile.{no_waves}
use Rattle.ugen_sample.specs.Sample.{dac, made_from}
use Rattle.ugen_graph.proofs.sample.sound_row.Given as goal

abbrev pub invariant-loop-n : goal.invariant-loop-n
invariant-loop-n l =
    let made = made_from no_waves (λ _ _. []) in
    record {
      made : fold made l.nodes (range_with_len l.n (l.end - l.n))
          ≡ fold made l.initial.nodes (range_with_len l.first (l.end - l.first));
      other : dac < l.n;
    }
