use mir.Syntax.{w64}
use mir.Val.{SFits}
use Rattle.std.proofs.Common.{ap, sym, subst, rules, Some, ◌<ℤ◌, ◌∙◌}
use Rattle.std.proofs.lemmas.Int.{to_z-of_z}
use Rattle.std.specs.Option.{option_map}
use Rattle.shreduler.specs.Queue.{next_time, first_due}
use Rattle.shreduler.proofs.Dues.{next_same, none_before}
use Rattle.shreduler.proofs.Shreduler.next_time.Goals as goal

pub returns-in_err-time-clause-time : goal.returns-in_err-time-clause-time
returns-in_err-time-clause-time c =
    c.from_residual.ensures
    ∙ sym (ap (option_map _) (sym c.first.ensures.first ∙ c.in_err-time.was))
    ∙ sym (next_same c.self.inside.queues c.first.ensures.rising)
    ∙ ap next_time c.self.view_is

pub returns-clause-time : goal.returns-clause-time
returns-clause-time c =
    let fits : SFits w64 c.in_ok-time.time = search rules in
    ap (λ time. Some time) (to_z-of_z w64 c.in_ok-time.time fits)
    ∙ sym (ap (option_map _) (sym c.first.ensures.first ∙ c.in_ok-time.was))
    ∙ sym (next_same c.self.inside.queues c.first.ensures.rising)
    ∙ ap next_time c.self.view_is

pub returns-clause-nothing_before : goal.returns-clause-nothing_before
returns-clause-nothing_before c = λ now earlier.
    let fits : SFits w64 c.in_ok-time.time = search rules in
    sym (ap (first_due now) c.self.view_is)
    ∙ none_before now c.self.inside.queues _ c.first.ensures.rising
    (sym c.first.ensures.first ∙ c.in_ok-time.was)
    (subst (λ time. now <ℤ time) (to_z-of_z w64 c.in_ok-time.time fits) earlier)
