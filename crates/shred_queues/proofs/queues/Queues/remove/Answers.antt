use Rattle.std.proofs.Common.{subst, sym, ap, ◌∙◌}
use Rattle.std.specs.Option.{option_map}
use Rattle.shred_queues.specs.Places.{AreApart, without, place_of}
use Rattle.shred_queues.specs.Queues.{AreBefore, keyed}
use Rattle.shred_queues.proofs.Tickets.{apart_keyed, keyed_left, before_left, place_keyed}
use Rattle.shred_queues.proofs.queues.Queues.remove.Goals as goal

pub invariant_of-self : goal.invariant_of-self
invariant_of-self g c =
    subst (AreBefore c.self.inside.next) (sym c.remove.ensures.without)
    (before_left c.self.inside.next c.args.shred c.self.inside.places c.self.invariant)

pub returns-in_err-place-clause-place : goal.returns-in_err-place-clause-place
returns-in_err-place-clause-place g c =
    c.from_residual.ensures
    ∙ sym (ap (option_map _) (sym c.remove.ensures.place ∙ c.in_err-place.was))
    ∙ sym (place_keyed c.args.shred c.self.inside.places)
    ∙ ap (place_of c.args.shred) c.self.view_is

pub returns-in_err-place-clause-without : goal.returns-in_err-place-clause-without
returns-in_err-place-clause-without g c =
    ap keyed c.remove.ensures.without ∙ keyed_left c.args.shred c.self.inside.places
    ∙ ap (without c.args.shred) c.self.view_is

pub invariant_of-self-2 : goal.invariant_of-self-2
invariant_of-self-2 g c =
    subst (AreBefore c.self.inside.next) (sym c.remove.ensures.without)
    (before_left c.self.inside.next c.args.shred c.self.inside.places c.self.invariant)

pub returns-clause-place : goal.returns-clause-place
returns-clause-place g c =
    sym (ap (option_map _) (sym c.remove.ensures.place ∙ c.in_ok-place.was))
    ∙ sym (place_keyed c.args.shred c.self.inside.places)
    ∙ ap (place_of c.args.shred) c.self.view_is

pub returns-clause-without : goal.returns-clause-without
returns-clause-without g c =
    ap keyed c.remove.ensures.without ∙ keyed_left c.args.shred c.self.inside.places
    ∙ ap (without c.args.shred) c.self.view_is

pub returns-in_err-place-clause-apart : goal.returns-in_err-place-clause-apart
returns-in_err-place-clause-apart g c =
    subst AreApart c.self.view_is (apart_keyed c.self.inside.places c.remove.ensures.orderly.apart)

pub returns-clause-apart : goal.returns-clause-apart
returns-clause-apart g c =
    subst AreApart c.self.view_is (apart_keyed c.self.inside.places c.remove.ensures.orderly.apart)
