use Rattle.std.proofs.Common.{subst, sym, ap, ◌∙◌, cond, None, nat_eq}
use Rattle.shred_queues.specs.Places.{AreApart, place_of, without}
use Rattle.shred_queues.proofs.Changes.{apart_left, place_without, taken_at, at_number, without_nowhere}
use Rattle.std.specs.BTreeMap.{get}
use Rattle.std.specs.Ordering.{nat_cmp}
use Rattle.shred_queues.proofs.held.Held.remove.Goals as goal

pub returns-in_err-place-clause-without : goal.returns-in_err-place-clause-without
returns-in_err-place-clause-without g c =
    let n = c.args.shred in
    let es = c.self.inside.shreds.entries in
    sym (without_nowhere n es
    (sym (c.self.invariant.found n) ∙ sym c.remove.ensures.value ∙ c.in_err-place.was))
    ∙ ap (without n) c.self.view_is

pub invariant_of-self-2 : goal.invariant_of-self-2
invariant_of-self-2 g c =
    let n = c.args.shred in
    let es = c.self.inside.shreds.entries in
    let place = sym (c.self.invariant.found n) ∙ sym c.remove.ensures.value ∙ c.in_ok-place.was in
    let left = c.remove-2.ensures.entries
    ∙ taken_at g.P.Ord.cmp g.met.P.Ord.total n c.in_ok-place.place es place c.self.invariant.ordered
    c.self.invariant.apart in
    record {
      ordered = c.remove-2.ensures.ordered;
      apart = subst AreApart (sym left) (apart_left n es c.self.invariant.apart);
      found = λ m. c.remove.ensures.updates.0 m
          ∙ ap (λ b. cond b None (get nat_cmp c.self.inside.places m)) (at_number n m)
          ∙ ap (cond (nat_eq n m) None) (c.self.invariant.found m)
          ∙ sym (place_without m n es)
          ∙ ap (place_of m) (sym left);
    }

pub returns-clause-without : goal.returns-clause-without
returns-clause-without g c =
    let n = c.args.shred in
    let es = c.self.inside.shreds.entries in
    let place = sym (c.self.invariant.found n) ∙ sym c.remove.ensures.value ∙ c.in_ok-place.was in
    c.remove-2.ensures.entries
    ∙ taken_at g.P.Ord.cmp g.met.P.Ord.total n c.in_ok-place.place es place c.self.invariant.ordered
    c.self.invariant.apart
    ∙ ap (without n) c.self.view_is
