use Rattle.std.proofs.Common.{◌∙◌, length, ap, sym, arith}
use Rattle.ugen_graph.specs.Links.{touches}
use Rattle.ugen_graph.specs.Wiring.{Network}
use Rattle.machine_world.proofs.Graphs.{one_fewer, detached_one, detached_all}
use Rattle.machine_world.proofs.units.detach_all.Goals as goal

pub links-smaller : goal.links-smaller
links-smaller c =
    let now = c.links.graph in
    let fewer = one_fewer (touches now.units c.args.maker) now.links c.in-Some._link
    (sym c.detach.ensures.link ∙ c.in-Some.is) in
    let left = ap (λ (g : Network). length g.links) c.detach.ensures.links in
    omega (arith, fewer, left)

pub links-preserved : goal.links-preserved
links-preserved c =
    let one = detached_one c.args.graph.now c.links.graph c.detach.new.self c.args.maker
    c.links.invariant.same c.links.invariant.left c.detach.ensures.links in
    record { same = one.0; left = one.1 }

pub returns : goal.returns
returns c =
    detached_all c.args.graph.now c.links.graph c.detach.new.self c.args.maker c.links.invariant.same
    c.links.invariant.left (sym c.detach.ensures.link ∙ c.in_default.is) c.detach.ensures.links
