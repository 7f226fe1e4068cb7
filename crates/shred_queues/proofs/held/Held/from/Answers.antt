use Rattle.std.proofs.Common.{true, find, sym, ap, ◌∙◌}
use Rattle.std.specs.Ordering.{is_le}
use Rattle.shred_queues.specs.Places.{is_from}
use Rattle.shred_queues.proofs.Changes.{found_in_part, and_true}
use Rattle.shred_queues.proofs.held.Held.from.Goals as goal

pub returns-in_err-place : goal.returns-in_err-place
returns-in_err-place g c =
    let all = found_in_part _ (λ e. is_from g.P.Ord.cmp c.args.place e.0)
    (λ e. and_true (is_le (g.P.Ord.cmp c.args.place e.0))) _ _ (c.range.ensures.between tt) in
    c.from_residual.ensures
    ∙ sym (ap (find (λ _. true)) c.in_err-place.ensures.steps.0) ∙ sym all ∙ ap (find _) c.self.view_is

pub returns : goal.returns
returns g c =
    let all = found_in_part _ (λ e. is_from g.P.Ord.cmp c.args.place e.0)
    (λ e. and_true (is_le (g.P.Ord.cmp c.args.place e.0))) _ _ (c.range.ensures.between tt) in
    sym (ap (find (λ _. true)) c.in_ok-place.ensures.steps) ∙ sym all ∙ ap (find _) c.self.view_is
