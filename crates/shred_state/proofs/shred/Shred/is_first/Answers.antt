use Rattle.std.proofs.Common.{ap, rules}
use Rattle.shred_state.proofs.Laid.{depth_is}
use Rattle.shred_state.proofs.shred.Shred.is_first.Goals as goal

pub returns-clause-others : goal.returns-clause-others
returns-clause-others c =
    let s = c.self.inside in
    let below = ap (λ s. s.below) c.self.view_is in
    rw (depth_is s.values.items s.top s.below.items _ below) (search rules)
