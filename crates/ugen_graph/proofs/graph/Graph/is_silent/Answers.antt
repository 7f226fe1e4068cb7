use Rattle.std.proofs.Common.{List, length, ap}
use Rattle.ugen_graph.specs.declared.link.Link.{Link}
use Rattle.ugen_graph.proofs.Silence.{none_linked, silent_is}
use Rattle.ugen_graph.proofs.graph.Graph.is_silent.Goals as goal

pub returns : goal.returns
returns c =
    let links = c.self.inside.wiring.links in
    let count = ap (λ (ls : List Link). length ls) c.links.ensures in
    let none = none_linked links (length c.links.result.now) count c.if-not-is_empty.ensures in
    rw (← c.self.view_is) (silent_is c.self.inside.nodes.items links _ none
    (rw c.deref.ensures.value at (c.if-not-is_still.ensures {u = tt}))
    (rw c.deref-2.ensures.value at c.is_still-2.ensures))
