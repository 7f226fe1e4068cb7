use Rattle.std.proofs.Common.{◌≡◌, ◌+◌, ◌<◌, ◌≤◌, ap, ◌∙◌, arith}
use Rattle.std.proofs.lemmas.Result.{err_from_is_err_and}
use Rattle.ck_base.specs.declared.limits.TheConstants.{MAX_OBJECTS}
use Rattle.object_heap.specs.Objects.{next}
use Rattle.ugen_kinds.proofs.Tables.{made_has_state}
use Rattle.ugen_sample.specs.UnitState.{first_unit}
use Rattle.ugen_graph.specs.Wiring.{Network}
use Rattle.ck_store.specs.Graph.{unit_made}
use Rattle.value_ops.proofs.Wants.{not_past}
use Rattle.machine_world.specs.Units.{are_taken}
use Rattle.machine_world.specs.Worlds.{store_of}
use Rattle.machine_world.proofs.Graphs.{unit_added, unit_refused, unit_given}
use Rattle.machine_world.proofs.Joined.{joined_same, joined_kept}
use Rattle.machine_world.proofs.Made.{ends_so, no_trap, made_first}
use Rattle.machine_world.proofs.Places.{at_end, taken_added}
use Rattle.machine_world.proofs.Results.{ok_then, err_then, err_both}
use Rattle.machine_world.proofs.Stands.{to_each, does_so}
use Rattle.machine_world.proofs.world.World.make_unit.Goals as goal

pub returns-then-is_full-clause-end : goal.returns-then-is_full-clause-end
returns-then-is_full-clause-end c =
    to_each _ _
    (unit_refused _ _ c.self.view_is c.args.kind c.args.maker c.self.invariant.1
    (c.is_full.ensures.0 c.if-is_full.true))

pub returns-in_err-node-clause-end : goal.returns-in_err-node-clause-end
returns-in_err-node-clause-end c =
    let few = not_past c.is_full.result _ _ c.is_full.ensures c.if-is_full.false in
    let p = err_from_is_err_and c.from_residual.result c.from_residual.ensures.1 in
    rw (p.1, p.2)
    (to_each _ _
    (unit_given _ _ c.self.view_is c.args.kind c.args.maker c.self.invariant.1 few))

pub add-requires : goal.add-requires
add-requires c = made_has_state c.args.kind c.requires

pub returns-clause-made : goal.returns-clause-made
returns-clause-made c =
    let number : c.made.result + 1 ≡ next c.self.inside.heap = omega (arith, c.made.ensures, c.self.invariant.1) in
    let end = at_end c.self.inside.graph.units c.in_ok-node.node
    (first_unit c.args.kind c.args.maker (c.made.result + 1)) c.self.invariant.3
    c.in_ok-node.ensures.place c.in_ok-node.ensures.free in
    ok_then c.add_object.result _ _
    (λ at made. does_so _ _ _ _ (unit_added _ _ c.self.view_is c.add_object.new.heap c.add.new.self c.args.kind
    c.args.maker c.in_ok-node.node (c.made.result + 1) at c.self.invariant.1 number end
    c.in_ok-node.ensures.added made))
    c.add_object.ensures.made

pub invariant_of-self-2 : goal.invariant_of-self-2
invariant_of-self-2 c =
    let unit = first_unit c.args.kind c.args.maker (c.made.result + 1) in
    let end = at_end c.self.inside.graph.units c.in_ok-node.node unit c.self.invariant.3
    c.in_ok-node.ensures.place c.in_ok-node.ensures.free in (
      c.self.invariant.0,
      made_first c.add_object.result _ _ _ c.add_object.ensures.made c.add_object.ensures.same
          c.self.invariant.1,
      c.self.invariant.2,
      ap (λ (g : Network). are_taken g.units) c.in_ok-node.ensures.added
          ∙ taken_added c.self.inside.graph.units c.in_ok-node.node unit c.self.invariant.3 end,
      joined_kept c.self.inside.heap c.add_object.new.heap c.add.new.self.links c.add_object.ensures.units
          (joined_same c.self.inside.heap c.self.inside.graph.links c.add.new.self.links
          (ap (λ (g : Network). g.links) c.in_ok-node.ensures.added) c.self.invariant.4),
    )

pub returns-clause-end : goal.returns-clause-end
returns-clause-end c =
    let heap = c.self.inside.heap in
    err_both c.add_object.result _ _ _
    (λ e so wants. to_each _ _ (ends_so (MAX_OBJECTS < next heap) (next heap ≤ MAX_OBJECTS)
    (unit_made c.args.kind c.args.maker (store_of c.args.self.now)) e
    (λ many. unit_refused _ _ c.self.view_is c.args.kind c.args.maker c.self.invariant.1 many)
    (λ few. unit_given _ _ c.self.view_is c.args.kind c.args.maker c.self.invariant.1 few)
    so wants))
    c.add_object.ensures.limit c.add_object.ensures.room

pub returns-clause-same : goal.returns-clause-same
returns-clause-same c =
    let heap = c.self.inside.heap in
    let few : next heap ≤ MAX_OBJECTS =
    not_past c.is_full.result _ _ c.is_full.ensures c.if-is_full.false in
    err_then c.add_object.result _ _
    (λ e so. no_trap (MAX_OBJECTS < next heap) _ e (λ many. omega (arith, few, many)) so)
    c.add_object.ensures.limit
