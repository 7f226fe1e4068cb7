use Rattle.std.proofs.Common.{subst, sym, ap, ◌∙◌, slice_get}
use Rattle.std.specs.Option.{option_map}
use Rattle.shred_queues.specs.Places.{AreApart}
use Rattle.shred_queues.specs.Queues.{IsRising}
use Rattle.shred_queues.proofs.Tickets.{apart_keyed, first_keyed, rising}
use Rattle.shred_queues.proofs.queues.Queues.first.Goals as goal

pub returns-in_err-place-clause-rising : goal.returns-in_err-place-clause-rising
returns-in_err-place-clause-rising g c =
    subst (IsRising g.K.Ord.cmp) c.self.view_is
    (rising g.K.Ord.cmp c.self.inside.places c.first.ensures.orderly.ordered)

pub returns-clause-first : goal.returns-clause-first
returns-clause-first g c =
    sym (ap (option_map _) (sym c.first.ensures.first ∙ c.in_ok-place.was))
    ∙ sym (first_keyed c.self.inside.places)
    ∙ ap (λ es. slice_get es 0) c.self.view_is

pub returns-clause-rising : goal.returns-clause-rising
returns-clause-rising g c =
    subst (IsRising g.K.Ord.cmp) c.self.view_is
    (rising g.K.Ord.cmp c.self.inside.places c.first.ensures.orderly.ordered)

pub returns-in_err-place-clause-apart : goal.returns-in_err-place-clause-apart
returns-in_err-place-clause-apart g c =
    subst AreApart c.self.view_is (apart_keyed c.self.inside.places c.first.ensures.orderly.apart)

pub returns-clause-apart : goal.returns-clause-apart
returns-clause-apart g c =
    subst AreApart c.self.view_is (apart_keyed c.self.inside.places c.first.ensures.orderly.apart)
