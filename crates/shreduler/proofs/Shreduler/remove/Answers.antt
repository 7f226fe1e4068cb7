use Rattle.std.proofs.Common.{ap, sym, subst, is_some, ◌≡◌, ◌∙◌}
use Rattle.std.specs.Bool.{OnTrue, OnFalse}
use Rattle.shred_queues.specs.Places as places
use Rattle.shreduler.specs.Queue.{all_due, without, times_due}
use Rattle.shreduler.proofs.Dues.{was_due, without_same, times_same}
use Rattle.shreduler.proofs.Shreduler.remove.Goals as goal

pub returns-clause-was : goal.returns-clause-was
returns-clause-was c =
    let n = c.args.shred in
    let es = c.self.inside.queues in
    let found = ap is_some (sym c.remove.ensures.place) ∙ sym c.is_some.ensures in
    subst (λ due. OnTrue c.is_some.result (times_due n due ≡ 1)) c.self.view_is
    (subst (λ times. OnTrue c.is_some.result (times ≡ 1)) (times_same n es)
    (subst (λ b. OnTrue b (places.times n es ≡ 1)) found (was_due n es c.remove.ensures.apart).0))

pub returns-clause-was_not : goal.returns-clause-was_not
returns-clause-was_not c =
    let n = c.args.shred in
    let es = c.self.inside.queues in
    let found = ap is_some (sym c.remove.ensures.place) ∙ sym c.is_some.ensures in
    subst (λ due. OnFalse c.is_some.result (times_due n due ≡ 0)) c.self.view_is
    (subst (λ times. OnFalse c.is_some.result (times ≡ 0)) (times_same n es)
    (subst (λ b. OnFalse b (places.times n es ≡ 0)) found (was_due n es c.remove.ensures.apart).1))

pub returns-clause-without : goal.returns-clause-without
returns-clause-without c =
    ap all_due c.remove.ensures.without ∙ without_same c.args.shred c.self.inside.queues
    ∙ ap (without c.args.shred) c.self.view_is
