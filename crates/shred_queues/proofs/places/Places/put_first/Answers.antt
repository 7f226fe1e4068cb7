use Rattle.std.proofs.Common.{ℕ, ◌≡◌, ◌∷◌, subst, sym, ap, ◌∙◌}
use Rattle.std.specs.List.{AllByRecursion}
use Rattle.std.specs.Map.{keys_of}
use Rattle.std.specs.declared.cmp.Ordering.TheVariants.{Less}
use Rattle.shred_queues.specs.Places.{AreOrderly, with_first, times}
use Rattle.shred_queues.proofs.Changes.{none_behind}
use Rattle.shred_queues.proofs.Orders.{orderly_apart, first_free, put_again, none_apart, put_front, orderly_front}
use Rattle.shred_queues.proofs.places.Places.put_first.Goals.{in-Some+in_ok-put, in_default}
use Rattle.shred_queues.proofs.places.Places.put_first.Goals as goal

pub put-requires-clause-free : goal.put-requires-clause-free
put-requires-clause-free g c =
    let first = c.in-Some.first in
    first_free g.P.Ord.cmp first.place first.shred c.self.inside.later
    (orderly_apart g.P.Ord.cmp c.self.inside.first c.self.inside.later first c.in-Some.is c.self.invariant)

pub put-requires-clause-nowhere : goal.put-requires-clause-nowhere
put-requires-clause-nowhere g c =
    let first = c.in-Some.first in
    let e : g.row.P.Denot × ℕ = (first.place, first.shred) in
    none_behind e c.self.inside.later
    (orderly_apart g.P.Ord.cmp c.self.inside.first c.self.inside.later first c.in-Some.is c.self.invariant).apart

all_later : (g : Rattle.shred_queues.proofs.places.Places.put_first.Given.Over) (c : goal.After-self-1 g)
    → c.match-self.self-inside.later ≡ c.args.self.now
all_later g c = elim c.match-self.branch [
  | in-Some+in_ok-put w ↦
      let first = w.in-Some.first in
      let later = c.self.inside.later in
      let orderly = orderly_apart g.P.Ord.cmp c.self.inside.first later first w.in-Some.is c.self.invariant in
      ap (λ s. s.later) w.self-inside-is
      ∙ w.in_ok-put.ensures.put
      ∙ put_again g.P.Ord.cmp first.place first.shred later orderly
      ∙ sym (ap (λ f. with_first f later) w.in-Some.is)
      ∙ c.self.view_is
  | in_default w ↦
      ap (λ s. s.later) w.self-inside-is
      ∙ none_apart c.self.inside.first c.self.inside.later (λ e is. w.in_default.not-Some e is)
      ∙ c.self.view_is
]

pub invariant_of-self-2 : goal.invariant_of-self-2
invariant_of-self-2 g c =
    let R = g.P.Ord.cmp in
    let same = all_later g c in
    orderly_front R c.args.shred c.args.place c.match-self.self-inside.later
    (subst (λ es. AllByRecursion (λ p. R c.args.place p ≡ Less) (keys_of es)) (sym same) c.requires.before)
    (ap (times c.args.shred) same ∙ c.requires.nowhere)
    (subst (AreOrderly R) (c.self.view_is ∙ sym same) c.self.invariant)

pub returns-clause-put : goal.returns-clause-put
returns-clause-put g c =
    let e : g.row.P.Denot × ℕ = (c.args.place, c.args.shred) in
    ap (λ es. e ∷ es) (all_later g c)
    ∙ sym (put_front g.P.Ord.cmp c.args.shred c.args.place c.args.self.now c.requires.before)
