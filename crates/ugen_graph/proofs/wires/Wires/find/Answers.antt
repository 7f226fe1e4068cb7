use Rattle.std.proofs.Common.{Bool, ℕ, List, length, vec_len, sym, subst, ◌∙◌}
use Rattle.ugen_graph.specs.Walks.{AreOnly}
use Rattle.ugen_graph.specs.Turns.{AreTurns}
use Rattle.ugen_graph.specs.Wiring.{ArePulled, connections_of}
use Rattle.ugen_graph.proofs.Ticks.{Hand, hand_within, found_order, found_marks, placed_within, whole, laid_found}
use Rattle.ugen_graph.proofs.wires.Wires.find.Goals as goal

pub find_order-requires-clause-within : goal.find_order-requires-clause-within
find_order-requires-clause-within c =
    hand_within _ c.self.inside.links.items c.self.inside.sources.items _ (record {
      same = c.deref.ensures.value;
      wired = c.self.invariant.wired;
      between = c.self.invariant.between;
      count = c.deref.ensures.len;
      two = c.self.invariant.two;
    })

pub find_turns-requires-clause-within : goal.find_turns-requires-clause-within
find_turns-requires-clause-within c =
    let links = c.self.inside.links.items in
    let sources = c.self.inside.sources.items in
    let hand : Hand (vec_len c.self.inside.sources) links sources c.deref.result.now = record {
      same = c.deref.ensures.value;
      wired = c.self.invariant.wired;
      between = c.self.invariant.between;
      count = c.deref.ensures.len;
      two = c.self.invariant.two;
    } in
    let now : Hand (vec_len c.self.inside.sources) links sources c.deref-2.result.now = record {
      same = c.deref-2.ensures.value;
      wired = c.self.invariant.wired;
      between = c.self.invariant.between;
      count = c.deref-2.ensures.len;
      two = c.self.invariant.two;
    } in
    let is = found_order _ links sources c.deref.result.now c.find_order.new.order.items hand
    c.find_order.new.marks c.find_order.ensures.walk in
    placed_within _ links sources c.deref-2.result.now c.as_slice.result.now now
    (c.as_slice.ensures.value ∙ is)

pub returns-clause-found : goal.returns-clause-found
returns-clause-found c =
    let links = c.self.inside.links.items in
    let sources = c.self.inside.sources.items in
    let hand : Hand (vec_len c.self.inside.sources) links sources c.deref.result.now = record {
      same = c.deref.ensures.value;
      wired = c.self.invariant.wired;
      between = c.self.invariant.between;
      count = c.deref.ensures.len;
      two = c.self.invariant.two;
    } in
    let is = found_order _ links sources c.deref.result.now c.find_order.new.order.items hand
    c.find_order.new.marks c.find_order.ensures.walk in
    let placed = c.as_slice.ensures.value ∙ is in
    rw (← c.self.view_is) (laid_found _ links _ _ _ _ _ _ is
    c.deref-3.ensures.value c.left_of.ensures.found c.deref-4.ensures.value c.right_of.ensures.found)

pub returns-clause-turns : goal.returns-clause-turns
returns-clause-turns c =
    let links = c.self.inside.links.items in
    let sources = c.self.inside.sources.items in
    let turns = c.find_turns.new.turns.items in
    let hand : Hand (vec_len c.self.inside.sources) links sources c.deref.result.now = record {
      same = c.deref.ensures.value;
      wired = c.self.invariant.wired;
      between = c.self.invariant.between;
      count = c.deref.ensures.len;
      two = c.self.invariant.two;
    } in
    let placed = c.as_slice.ensures.value
    ∙ found_order _ links sources c.deref.result.now c.find_order.new.order.items hand
    c.find_order.new.marks c.find_order.ensures.walk in
    let found = c.find_turns.ensures.found (connections_of links)
    (rw c.deref-2.ensures.value c.self.invariant.wired) in
    subst (λ (size : ℕ). ArePulled size (connections_of links) turns) c.deref-2.ensures.len
    (subst (λ (ns : List ℕ). AreTurns (length c.deref-2.result.now) (connections_of links) ns turns) placed found)

pub find_turns-requires-clause-sources : goal.find_turns-requires-clause-sources
find_turns-requires-clause-sources c =
    hand_within _ c.self.inside.links.items c.self.inside.sources.items c.deref-2.result.now (record {
      same = c.deref-2.ensures.value;
      wired = c.self.invariant.wired;
      between = c.self.invariant.between;
      count = c.deref-2.ensures.len;
      two = c.self.invariant.two;
    })

pub invariant_of-self : goal.invariant_of-self
invariant_of-self c =
    let links = c.self.inside.links.items in
    let sources = c.self.inside.sources.items in
    let hand : Hand (vec_len c.self.inside.sources) links sources c.deref.result.now = record {
      same = c.deref.ensures.value;
      wired = c.self.invariant.wired;
      between = c.self.invariant.between;
      count = c.deref.ensures.len;
      two = c.self.invariant.two;
    } in
    let only = found_marks _ links sources c.deref.result.now c.find_order.new.order.items hand
    c.find_order.new.marks c.find_order.ensures.walk in
    let count = c.find_order.auto.marks ∙ c.deref_mut.ensures.len in
    let P : List Bool → Type 0 = λ marks. AreOnly marks c.find_order.new.order.items in
    record {
      two = c.self.invariant.two;
      marks = c.self.invariant.marks;
      room = rw c.find_order.ensures.capacity c.self.invariant.room;
      turns_room = rw c.find_turns.ensures.capacity c.self.invariant.turns_room;
      left_room = rw c.left_of.ensures.capacity c.self.invariant.left_room;
      right_room = rw c.right_of.ensures.capacity c.self.invariant.right_room;
      wired = c.self.invariant.wired;
      between = c.self.invariant.between;
      marked = subst P (sym (whole _ c.find_order.new.marks _ count)) only;
      few = c.self.invariant.few;
    }
