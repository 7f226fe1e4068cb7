use Rattle.std.proofs.Common.{ℕ, ◌≡◌, subst, sym, ap, ◌∙◌, Some}
use Rattle.shred_queues.specs.Places.{AreOrderly, with_first, without}
use Rattle.shred_queues.proofs.Orders.{orderly_apart, orderly_behind, orderly_left, some_same, without_front, without_later}
use Rattle.shred_queues.proofs.places.Places.remove.Goals.{in_default-via-in-Some+else-first-shred, in_default-via-in_default}
use Rattle.shred_queues.proofs.places.Places.remove.Goals as goal

pub invariant_of-self : goal.invariant_of-self
invariant_of-self g c =
    let first = c.in-Some.first in
    let e : g.row.P.Denot × ℕ = (first.place, first.shred) in
    orderly_behind g.P.Ord.cmp e c.self.inside.later
    (orderly_apart g.P.Ord.cmp c.self.inside.first c.self.inside.later first c.in-Some.is c.self.invariant)

pub invariant_of-self-in_default : goal.invariant_of-self-in_default
invariant_of-self-in_default g c =
    let first = c.self.inside.first in
    let later = c.self.inside.later in
    let n = c.args.shred in
    subst (AreOrderly g.P.Ord.cmp)
    (sym (ap (with_first first) c.remove.ensures.without
    ∙ without_later n first later (λ e is same. elim c.in_default.branch [
      | in_default-via-in-Some+else-first-shred w ↦
          let found : Some w.in-Some.first ≡ Some e = sym w.in-Some.is ∙ is in
          w.if-first-shred.false (ap (λ e. e.shred) (some_same found) ∙ same)
      | in_default-via-in_default w ↦ w.in_default.not-Some e is
    ])))
    (orderly_left g.P.Ord.cmp n (with_first first later) c.self.invariant)

pub returns-in-Some-clause-without : goal.returns-in-Some-clause-without
returns-in-Some-clause-without g c =
    let first = c.in-Some.first in
    let e : g.row.P.Denot × ℕ = (first.place, first.shred) in
    let later = c.self.inside.later in
    sym (without_front c.args.shred e later c.if-first-shred.true
    (orderly_apart g.P.Ord.cmp c.self.inside.first later first c.in-Some.is c.self.invariant).apart)
    ∙ ap (without c.args.shred) (sym (ap (λ f. with_first f later) c.in-Some.is) ∙ c.self.view_is)
