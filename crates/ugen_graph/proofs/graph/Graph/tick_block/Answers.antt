use Rattle.std.proofs.Common.{◌<◌, ◌+◌, ◌*◌, ◌/◌, length, w16, FitsSigned, rules, arith, ap, ◌∙◌}
use Rattle.std.proofs.lemmas.Int.{to_z-of_z}
use Rattle.std.proofs.Math.ListN.{length-set}
use Rattle.ugen_graph.specs.Wiring.{Network, connections_of}
use Rattle.ugen_graph.proofs.Blocks.{made_step, rest_step}
use Rattle.ugen_graph.proofs.graph.Graph.tick_block.Goals as goal

pub loop-i-preserved : goal.loop-i-preserved
loop-i-preserved c =
    let n = length c.args.into.now / 2 in
    let cs = connections_of c.loop-i.self.links in
    let units = ap (λ (w : Network). w.units) c.next_pair-left.ensures.after in
    let links = ap (λ (w : Network). w.links) c.next_pair-left.ensures.after in
    let fits_left : FitsSigned w16 c.next_pair-left.result.0 = search rules in
    let fits_right : FitsSigned w16 c.next_pair-left.result.1 = search rules in
    let t = c.loop-i-test.true in
    let end = c.loop-i.auto.i-end in
    let h : c.loop-i.i < n = grind (arith, t, end) in
    let within : 2 * c.loop-i.i + 1 < length c.loop-i.into =
    rw c.loop-i.invariant.count (omega (arith, h)) in
    let left = to_z-of_z w16 c.next_pair-left.result.0 fits_left in
    let right = to_z-of_z w16 c.next_pair-left.result.1 fits_right in
    record {
      count = simp (length-set) c.loop-i.invariant.count;
      made =
          simp (links, left, right) (made_step n c.loop-i.i c.loop-i.into
          c.next_pair-left.result.0 c.next_pair-left.result.1 cs c.loop-i.self.units
          c.next_pair-left.new.self.units _ h within units c.next_pair-left.ensures.left
          c.next_pair-left.ensures.right c.loop-i.invariant.made);
      rest =
          simp (links) (rest_step n c.loop-i.i cs c.loop-i.self.units
          c.next_pair-left.new.self.units _ h units c.loop-i.invariant.rest);
      links = links ∙ c.loop-i.invariant.links;
    }
