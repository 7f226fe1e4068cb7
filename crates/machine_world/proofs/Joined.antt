-- The object of each connection's end is that of its node, whatever is made, put in other objects,
-- connected and taken out.
use Rattle.std.proofs.Common.{◌≡◌, Bool, true, false, not, List, [], ◌∷◌, ◌++◌, filter, Result, Ok, Err, OnOk, subst, sym}
use Rattle.std.specs.Prelude.{OnErr}
use Rattle.std.specs.List.{All}
use Rattle.std.proofs.lemmas.List.Elements.{All-cons, All-head, All-tail, All-push, All-weaker, All-filter}
use Rattle.object_heap.specs.Objects.{Objects}
use Rattle.ugen_graph.specs.declared.link.Link.{Link}
use Rattle.ugen_graph.specs.Links as links
use Rattle.ugen_graph.specs.Wiring.{Network}
use Rattle.value_ops.specs.Heaps.{KeepsUnits}
use Rattle.value_ops.proofs.Keeps.{units_same, units_made}
use Rattle.machine_world.specs.Units.{IsJoined, BothJoined, AreJoined}

pub joined_same : (heap : Objects) (old new : List Link) → new ≡ old → AreJoined heap old
    → AreJoined heap new
joined_same heap old new same joined = subst (AreJoined heap) (sym same) joined

-- one more object, and other values in an object
pub joined_kept : (old new : Objects) (ls : List Link) → KeepsUnits old new → AreJoined old ls
    → AreJoined new ls
joined_kept old new ls units joined = record {
  each = All-weaker (BothJoined old) (BothJoined new) (λ l both. record {
    from = units.kept l.from.at l.from.node both.from;
    to = units.kept l.to.at l.to.node both.to;
  }) ls joined.each;
}

-- one more connection, where one was made
pub joined_more : {T E : Type 0} (r : Result T E) (heap : Objects) (old new : Network) (l : Link)
    → OnOk r (new ≡ record old { links = old.links ++ l ∷ [] }) → OnErr r (new ≡ old)
    → IsJoined heap l.from → IsJoined heap l.to → AreJoined heap old.links → AreJoined heap new.links
joined_more (Ok a) heap old new l made same from to joined =
    subst (λ (g : Network). AreJoined heap g.links) (sym made)
    (record { each = All-push (BothJoined heap) old.links l joined.each (record { from = from; to = to }) })
joined_more (Err e) heap old new l made same from to joined =
    subst (λ (g : Network). AreJoined heap g.links) (sym same) joined

-- fewer connections
module _ (heap : Objects) (test : Link → Bool) where
  each_without : (ls : List Link) → All (BothJoined heap) ls
      → All (BothJoined heap) (links.without test ls)
  each_without [] each = each
  each_without (l ∷ ls) each = by (test l) (each_without ls (All-tail (BothJoined heap) l ls each))
    where
      by : (b : Bool) → All (BothJoined heap) (links.without test ls)
          → All (BothJoined heap) (elim b [ true ↦ ls | false ↦ l ∷ links.without test ls ])
      by true rest = All-tail (BothJoined heap) l ls each
      by false rest =
          All-cons (BothJoined heap) l (links.without test ls) (All-head (BothJoined heap) l ls each) rest

  pub joined_without : (ls : List Link) → AreJoined heap ls → AreJoined heap (links.without test ls)
  joined_without ls joined = record { each = each_without ls joined.each }

  pub joined_others : (ls : List Link) → AreJoined heap ls
      → AreJoined heap (filter (λ l. not (test l)) ls)
  joined_others ls joined =
      record { each = All-filter (λ l. not (test l)) (BothJoined heap) ls joined.each }

-- unit generators stay as they are
pub ruleset keeps = (units_same, units_made)
