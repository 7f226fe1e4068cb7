use Rattle.std.proofs.Common.{◌≡◌, subst, sym, ap, ◌∙◌}
use Rattle.std.specs.List.{slice_get}
use Rattle.std.specs.Ordering.{is_lt, is_some_and}
use Rattle.shred_queues.specs.Places.{AreOrderly, with_first, times, IsFree}
use Rattle.shred_queues.proofs.Orders.{before_all, put_later, orderly_put, either, less_is, first_is, none_first}
use Rattle.shred_queues.proofs.places.Places.put.Goals.{in_default-via-in-Some+else-lt, in_default-via-in_default}
use Rattle.shred_queues.proofs.places.Places.put.Goals as goal

pub invariant_of-self : goal.invariant_of-self
invariant_of-self g c =
    let R = g.P.Ord.cmp in
    let first = c.self.inside.first in
    let later = c.self.inside.later in
    let k = c.args.place in
    let n = c.args.shred in
    let least : R c.in-Some.least k ≡ _ =
    less_is (R c.in-Some.least k)
    (c.if-lt.ensures ∙ ap (is_some_and is_lt) (g.met.P.Ord.matches_partial_cmp c.in-Some.least k)) in
    either c.put.result c.put.ensures.put c.put.ensures.same
    (λ more. subst (AreOrderly R)
    (sym (ap (with_first first) more ∙ put_later R g.met.P.Ord.total n k first later
    (λ e rest is. ap (λ p. R p k) (first_is c.in-Some.least c.in-Some.field-0-1 (with_first first later) rest e is
    (ap (λ es. slice_get es 0) c.self.view_is ∙ sym c.first.ensures.first ∙ c.in-Some.is)) ∙ least)))
    (orderly_put R g.met.P.Ord.total n k (with_first first later)
    (subst (IsFree R k) (sym c.self.view_is) c.requires.free)
    (ap (times n) c.self.view_is ∙ c.requires.nowhere) c.self.invariant))
    (λ same. subst (λ es. AreOrderly R (with_first first es)) (sym same) c.self.invariant)

pub put_first-requires-clause-before : goal.put_first-requires-clause-before
put_first-requires-clause-before g c =
    let R = g.P.Ord.cmp in
    before_all R g.met.P.Ord.total c.args.place c.args.self.now
    (subst (AreOrderly R) c.self.view_is c.self.invariant).ordered c.requires.free
    (λ e rest is. elim c.in_default.branch [
      | in_default-via-in-Some+else-lt w ↦
          ap (λ p. is_lt (R p c.args.place)) (first_is w.in-Some.least w.in-Some.field-0-1 c.args.self.now rest e is
          (sym c.first.ensures.first ∙ w.in-Some.is))
          ∙ sym (ap (is_some_and is_lt) (g.met.P.Ord.matches_partial_cmp w.in-Some.least c.args.place))
          ∙ sym w.if-lt.ensures
      | in_default-via-in_default w ↦
          absurd (none_first c.args.self.now rest e is (sym c.first.ensures.first ∙ w.in_default.is))
    ])
