use Rattle.std.proofs.Common.{◌≡◌, ◌+◌, ◌-◌, suc, [], ℕ, ap, sym, ◌∙◌, arith}
use Rattle.std.specs.List.{fold, range_with_len}
use Rattle.ugen_kinds.specs.SoundFile.{no_waves}
use Rattle.ugen_sample.specs.UnitState.{Units}
use Rattle.ugen_sample.specs.Sample.{made_from}
use Rattle.ugen_graph.proofs.sample.sound_row.Goals as goal

pub loop-n-preserved : goal.loop-n-preserved
loop-n-preserved c =
    let made = made_from no_waves (λ _ _. []) in
    let n = c.loop-n.n in
    let end = c.args.end in
    let one : end - n ≡ suc (end - (n + 1)) = omega (arith, c.loop-n-test.true) in
    record {
      made = ap (λ (us : Units). fold made us (range_with_len (n + 1) (end - (n + 1)))) c.sound_alone.ensures
          ∙ ap (λ (k : ℕ). fold made c.loop-n.nodes (range_with_len n k)) (sym one)
          ∙ c.loop-n.invariant.made;
      other = omega (arith, c.loop-n.invariant.other);
    }
