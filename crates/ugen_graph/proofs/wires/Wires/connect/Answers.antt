use Rattle.std.proofs.Common.{rules, ◌<◌, vec_len}
use Rattle.std.proofs.lemmas.List.Elements.{All-push}
use Rattle.ugen_graph.specs.Wires.{IsBetween}
use Rattle.ugen_graph.proofs.AtHand.{wires}
use Rattle.ugen_graph.proofs.wires.Wires.connect.Goals as goal

pub invariant_of-self-2 : goal.invariant_of-self-2
invariant_of-self-2 c =
    let size = vec_len c.self.inside.sources in
    let from : c.args.link.from.node < size = rw (← c.self.view_is) at c.requires.from in
    let to : c.args.link.to.node < size = rw (← c.self.view_is) at c.requires.to in
    record {
      two = c.self.invariant.two;
      marks = c.self.invariant.marks;
      room = c.self.invariant.room;
      turns_room = c.self.invariant.turns_room;
      left_room = search rules;
      right_room = search rules;
      wired = search (rules, wires);
      between =
          rw (c.push_reserved.ensures.items, c.reserve.ensures.items)
          (All-push (IsBetween size) c.self.inside.links.items c.args.link
          c.self.invariant.between (from, to));
      marked = c.self.invariant.marked;
      few = search rules;
    }
