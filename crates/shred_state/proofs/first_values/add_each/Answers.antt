use Rattle.std.proofs.Common.{◌≡◌, length, take, ap, ◌∙◌, rules, arith}
use Rattle.std.proofs.lemmas.List.{take_at}
use Rattle.shred_state.proofs.first_values.add_each.Goals as goal

pub returns-in-Err-clause-same : goal.returns-in-Err-clause-same
returns-in-Err-clause-same c =
    let same : c.add_one.new.values.items ≡ c.loop-kind.values.items = search rules in
    let long : length c.args.values.now.items ≡ c.len-before.result = omega arith in
    c.truncate.ensures.items ∙ ap (take c.len-before.result) (same ∙ c.loop-kind.invariant)
    ∙ take_at c.args.values.now.items _ c.len-before.result long
