use Rattle.std.proofs.Common.{ap, ◌∙◌}
use Rattle.shred_state.proofs.Laid.{left_done}
use Rattle.shred_state.proofs.shred.Shred.leave.Goals as goal

pub returns-in-Some-clause-left : goal.returns-in-Some-clause-left
returns-in-Some-clause-left c =
    let s = c.self.inside in
    left_done s.values.items s.top c.in-Some.caller s.below.items c.pop.new.self.items _
    c.self.invariant.laid (ap (λ s. s.below) c.self.view_is)
    (ap (λ s. s.top.locals) c.self.view_is ∙ c.requires.locals)
    (ap (λ s. s.top.operands) c.self.view_is ∙ c.requires.operands) c.in-Some.ensures.items
