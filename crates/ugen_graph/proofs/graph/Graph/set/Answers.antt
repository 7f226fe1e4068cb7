use Rattle.std.proofs.Common.{◌≡◌, ◌↔◌, IsTrue, IsSome, Err}
use Rattle.ck_values.specs.Datum.{meant}
use Rattle.ugen_kinds.specs.declared.choices.SetEnd.TheVariants as end
use Rattle.ugen_kinds.specs.Generator.{is_past_limit}
use Rattle.ugen_kinds.specs.SoundFile.{no_waves}
use Rattle.ugen_sample.specs.Parameters.{with_unit_parameter}
use Rattle.ugen_graph.proofs.Sounds.{if_there, there_is}
use Rattle.ugen_graph.proofs.graph.Graph.set.Goals as goal

pub returns-clause-limit : goal.returns-clause-limit
returns-clause-limit c =
    let d = meant c.args.v in
    let nodes = c.self.inside.nodes.items in
    let there = there_is nodes c.args.node c.index_mut.result.now c.in-Some.unit
    (λ u. IsSome (with_unit_parameter no_waves c.args.p d u))
    (rw (← c.self.view_is) at c.requires) c.index_mut.ensures.value c.in-Some.is in
    rw (← c.self.view_is) (if_there nodes c.args.node c.in-Some.unit (λ u.
    (c.set.result ≡ Err end.DelayLimit) ↔ IsTrue (is_past_limit c.args.p d u.generator)) there
    c.set.ensures.limit)
