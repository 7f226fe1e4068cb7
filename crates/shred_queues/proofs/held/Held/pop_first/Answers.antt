use Rattle.std.proofs.Common.{ℕ, subst, sym, ap, ◌∙◌, cond, None, nat_eq}
use Rattle.shred_queues.specs.Places.{AreApart, place_of}
use Rattle.shred_queues.proofs.Changes.{apart_behind, place_behind, at_number}
use Rattle.std.specs.BTreeMap.{get}
use Rattle.std.specs.Ordering.{nat_cmp}
use Rattle.shred_queues.proofs.held.Held.pop_first.Goals as goal

pub invariant_of-self-2 : goal.invariant_of-self-2
invariant_of-self-2 g c =
    let n = c.in_ok-place.shred in
    let left = c.pop_first.new.self.entries in
    let first : g.row.P.Denot × ℕ = (c.in_ok-place.place, n) in
    let apart = subst AreApart c.in_ok-place.ensures.removal c.self.invariant.apart in
    record {
      ordered = c.pop_first.ensures.ordered;
      apart = apart_behind first left apart;
      found = λ m. c.remove.ensures.updates.0 m
          ∙ ap (λ b. cond b None (get nat_cmp c.self.inside.places m)) (at_number n m)
          ∙ ap (cond (nat_eq n m) None)
          (c.self.invariant.found m ∙ ap (place_of m) c.in_ok-place.ensures.removal)
          ∙ sym (place_behind m first left apart);
    }
