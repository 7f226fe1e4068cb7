use Rattle.std.proofs.Common.{◌<◌, length, vec_len, sym, refl, arith}
use Rattle.std.proofs.lemmas.Option.{slice_get_read}
use Rattle.ugen_graph.proofs.AtHand.{Taking, taking, between_removed}
use Rattle.ugen_graph.proofs.wires.Wires.take.Goals as goal

pub remove-requires : goal.remove-requires
remove-requires c =
    let place : c.args.i < length c.self.inside.links.items =
    rw (← c.self.view_is) at c.requires in
    let t : Taking (vec_len c.self.inside.sources) c.args.i c.self.inside.links.items
    c.remove-link.new.self.items c.deref.result.now c.remove-link.result
    c.self.inside.sources.items c.index_mut-sources.result.now c.rank_to-rank.result = record {
      place = place;
      link = c.remove-link.ensures.value;
      rest = c.remove-link.ensures.items;
      at_hand = c.deref.ensures.value;
      wired = c.self.invariant.wired;
      between = c.self.invariant.between;
      count = sym c.self.inside.sources.ok.0;
      list = c.index_mut-sources.ensures.value;
      rank_is = c.rank_to-rank.ensures;
    } in
    (taking _ _ _ _ _ _ _ _ _ t).within

pub returns-clause-link : goal.returns-clause-link
returns-clause-link c =
    let place : c.args.i < length c.self.inside.links.items =
    rw (← c.self.view_is) at c.requires in
    rw (← c.self.view_is) (slice_get_read c.self.inside.links.items _ c.args.i c.remove-link.result
    refl place c.remove-link.ensures.value)

pub invariant_of-self : goal.invariant_of-self
invariant_of-self c =
    let place : c.args.i < length c.self.inside.links.items =
    rw (← c.self.view_is) at c.requires in
    let t : Taking (vec_len c.self.inside.sources) c.args.i c.self.inside.links.items
    c.remove-link.new.self.items c.deref.result.now c.remove-link.result
    c.self.inside.sources.items c.index_mut-sources.result.now c.rank_to-rank.result = record {
      place = place;
      link = c.remove-link.ensures.value;
      rest = c.remove-link.ensures.items;
      at_hand = c.deref.ensures.value;
      wired = c.self.invariant.wired;
      between = c.self.invariant.between;
      count = sym c.self.inside.sources.ok.0;
      list = c.index_mut-sources.ensures.value;
      rank_is = c.rank_to-rank.ensures;
    } in
    let out = taking _ _ _ _ _ _ _ _ _ t in
    let shorter = c.remove-link.ensures.len in
    record {
      two = c.self.invariant.two;
      marks = c.self.invariant.marks;
      room = c.self.invariant.room;
      turns_room = c.self.invariant.turns_room;
      left_room = let f = c.self.invariant.left_room in omega arith;
      right_room = let f = c.self.invariant.right_room in omega arith;
      wired = rw c.remove.ensures out.wired;
      between =
          rw c.remove-link.ensures.items (between_removed _ _ _ c.self.invariant.between);
      marked = c.self.invariant.marked;
      few = let f = c.self.invariant.few in omega arith;
    }
