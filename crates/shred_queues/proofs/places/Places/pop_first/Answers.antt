use Rattle.std.proofs.Common.{ℕ, subst, sym, ◌∙◌}
use Rattle.shred_queues.specs.Places.{AreOrderly, with_first}
use Rattle.shred_queues.proofs.Orders.{orderly_behind, orderly_popped}
use Rattle.shred_queues.proofs.places.Places.pop_first.Goals as goal

pub invariant_of-self : goal.invariant_of-self
invariant_of-self g c =
    let R = g.P.Ord.cmp in
    let later = c.self.inside.later in
    let first = c.in-Some.first in
    let e : g.row.P.Denot × ℕ = (first.place, first.shred) in
    subst (λ f. AreOrderly R (with_first f later)) (sym c.take.ensures.after)
    (orderly_behind R e later
    (subst (λ f. AreOrderly R (with_first f later)) (sym c.take.ensures.value ∙ c.in-Some.is) c.self.invariant))

pub invariant_of-self-in-None : goal.invariant_of-self-in-None
invariant_of-self-in-None g c =
    let R = g.P.Ord.cmp in
    let later = c.self.inside.later in
    subst (λ f. AreOrderly R (with_first f c.pop_first.new.self)) (sym c.take.ensures.after)
    (orderly_popped R c.pop_first.result later c.pop_first.new.self c.pop_first.ensures.first
    c.pop_first.ensures.same
    (subst (λ f. AreOrderly R (with_first f later)) (sym c.take.ensures.value ∙ c.in-None.is) c.self.invariant))
