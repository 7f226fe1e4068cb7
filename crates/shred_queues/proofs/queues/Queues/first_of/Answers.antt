use Rattle.std.proofs.Common.{find, cond, None, Some, sym, ap, ◌∙◌}
use Rattle.std.specs.Ordering.{is_eq}
use Rattle.shred_queues.proofs.Tickets.{found_keyed, in_queue}
use Rattle.shred_queues.proofs.queues.Queues.first_of.Goals as goal

pub returns-in_err-place : goal.returns-in_err-place
returns-in_err-place g c =
    let cmp = g.K.Ord.cmp in
    c.from_residual.ensures
    ∙ sym (ap (in_queue cmp c.args.key) (sym c.from.ensures.found ∙ c.in_err-place.was))
    ∙ sym (found_keyed cmp g.met.K.Ord.total c.args.key c.self.inside.places c.from.ensures.orderly.ordered)
    ∙ ap (find (λ e. is_eq (cmp c.args.key e.0))) c.self.view_is

pub returns-then-eq : goal.returns-then-eq
returns-then-eq g c =
    let cmp = g.K.Ord.cmp in
    let place = c.in_ok-place.place in
    sym (ap (λ b. cond b (Some (place.key, c.in_ok-place.shred)) None)
    (sym (g.met.K.Ord.matches_eq c.args.key place.key) ∙ sym c.if-eq.ensures))
    ∙ sym (ap (in_queue cmp c.args.key) (sym c.from.ensures.found ∙ c.in_ok-place.was))
    ∙ sym (found_keyed cmp g.met.K.Ord.total c.args.key c.self.inside.places c.from.ensures.orderly.ordered)
    ∙ ap (find (λ e. is_eq (cmp c.args.key e.0))) c.self.view_is

pub returns-else-eq : goal.returns-else-eq
returns-else-eq g c =
    let cmp = g.K.Ord.cmp in
    let place = c.in_ok-place.place in
    sym (ap (λ b. cond b (Some (place.key, c.in_ok-place.shred)) None)
    (sym (g.met.K.Ord.matches_eq c.args.key place.key) ∙ sym c.if-eq.ensures))
    ∙ sym (ap (in_queue cmp c.args.key) (sym c.from.ensures.found ∙ c.in_ok-place.was))
    ∙ sym (found_keyed cmp g.met.K.Ord.total c.args.key c.self.inside.places c.from.ensures.orderly.ordered)
    ∙ ap (find (λ e. is_eq (cmp c.args.key e.0))) c.self.view_is
