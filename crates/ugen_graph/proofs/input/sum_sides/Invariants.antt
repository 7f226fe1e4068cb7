use Rattle.std.proofs.Common.{◌≡◌, drop}
use Rattle.std.specs.List.{fold}
use Rattle.fixed_point.specs.Fix.{sum_of}
use Rattle.ugen_sample.specs.declared.choices.Channel.TheVariants.{Left, Right}
use Rattle.ugen_sample.specs.Sample.{numbers_of}
use Rattle.ugen_graph.proofs.input.sum_sides.Given as goal

abbrev pub invariant-loop-source : goal.invariant-loop-source
invariant-loop-source l =
    record {
      left : fold sum_of l.total.left (numbers_of l.nodes Left (drop l.source-index l.sources))
          ≡ fold sum_of l.fn.first.left (numbers_of l.nodes Left l.sources);
      right : fold sum_of l.total.right (numbers_of l.nodes Right (drop l.source-index l.sources))
          ≡ fold sum_of l.fn.first.right (numbers_of l.nodes Right l.sources);
    }
