use Rattle.std.proofs.Common.{subst, sym, ap, ◌∙◌, cond, Some, None, nat_eq}
use Rattle.shred_queues.specs.Places.{AreApart, place_of, IsFree, times}
use Rattle.shred_queues.proofs.Changes.{apart_put, place_put, place_none, at_number, put_back}
use Rattle.std.specs.BTreeMap.{get}
use Rattle.std.specs.Ordering.{nat_cmp}
use Rattle.shred_queues.proofs.held.Held.put.Goals as goal

pub invariant_of-self-in-Err : goal.invariant_of-self-in-Err
invariant_of-self-in-Err g c =
    let n = c.args.shred in
    let none = place_none n c.self.inside.shreds.entries (ap (times n) c.self.view_is ∙ c.requires.nowhere) in
    record {
      ordered = c.insert-2.ensures.ordered;
      apart = subst AreApart (sym c.in-Err.ensures.err) c.self.invariant.apart;
      found = λ m. c.remove.ensures.updates.0 m
          ∙ ap (λ b. cond b None (get nat_cmp c.insert.new.self m)) (at_number n m)
          ∙ ap (cond (nat_eq n m) None) (c.in_ok-insert.ensures.updates.0 m
          ∙ ap (λ b. cond b (Some c.args.place) (get nat_cmp c.self.inside.places m)) (at_number n m))
          ∙ ap (λ o. cond (nat_eq n m) None (cond (nat_eq n m) (Some c.args.place) o)) (c.self.invariant.found m)
          ∙ put_back n m c.args.place c.self.inside.shreds.entries none
          ∙ ap (place_of m) (sym c.in-Err.ensures.err);
    }

pub invariant_of-self-in_default : goal.invariant_of-self-in_default
invariant_of-self-in_default g c =
    let n = c.args.shred in
    let es = c.self.inside.shreds.entries in
    let free = subst (IsFree g.P.Ord.cmp c.args.place) (sym c.self.view_is) c.requires.free in
    let none = ap (times n) c.self.view_is ∙ c.requires.nowhere in
    record {
      ordered = c.insert-2.ensures.ordered;
      apart = subst AreApart (sym c.in_default.ensures.entries)
          (apart_put g.P.Ord.cmp n c.args.place es free none c.self.invariant.apart);
      found = λ m. c.in_ok-insert.ensures.updates.0 m
          ∙ ap (λ b. cond b (Some c.args.place) (get nat_cmp c.self.inside.places m)) (at_number n m)
          ∙ ap (cond (nat_eq n m) (Some c.args.place)) (c.self.invariant.found m)
          ∙ sym (place_put g.P.Ord.cmp m n c.args.place es free none)
          ∙ ap (place_of m) (sym c.in_default.ensures.entries);
    }
