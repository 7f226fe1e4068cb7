use Rattle.std.proofs.Common.{Some, refl, ap, ◌∙◌}
use Rattle.value_ops.specs.Heaps.{objects_of}
use Rattle.machine_world.proofs.Located.{unit_null, held_unit, unit_is}
use Rattle.machine_world.proofs.units.node_of.Goals as goal

pub returns-then-at-eq0-clause-place : goal.returns-then-at-eq0-clause-place
returns-then-at-eq0-clause-place c =
    unit_null (objects_of c.args.heap.now) c.args.at.serial c.if-at-eq0.true

pub body-requires : goal.body-requires
body-requires c =
    let it = held_unit c.args.heap.now c.args.at c.requires.first c.if-at-eq0.false c.requires.unit in
    rw it.is refl

pub unreachable-requires : goal.unreachable-requires
unreachable-requires c =
    let it = held_unit c.args.heap.now c.args.at c.requires.first c.if-at-eq0.false c.requires.unit in
    c.in_default.not-Ugen it.node (cc)

pub returns-clause-place : goal.returns-clause-place
returns-clause-place c =
    unit_is c.args.heap.now c.args.at c.in-Ugen.node c.requires.first
    (c.body.ensures ∙ ap Some c.in-Ugen.is)
