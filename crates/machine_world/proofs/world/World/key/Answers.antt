use Rattle.std.proofs.lemmas.Result.{err_from_is_err_and}
use Rattle.ck_values.specs.Datum.{ARef}
use Rattle.ugen_kinds.specs.Generator.{keyed}
use Rattle.ugen_sample.specs.declared.unit.UnitState.{UnitState}
use Rattle.ck_store.specs.Store.{Fails}
use Rattle.machine_world.specs.Worlds.{store_of}
use Rattle.machine_world.proofs.Located.{change_first, change_null}
use Rattle.machine_world.proofs.Graphs.{unit_there, place_there, can_change, is_changed}
use Rattle.machine_world.proofs.Places.{taken_put, joined_put}
use Rattle.machine_world.proofs.Stands.{of_some, to_each, does_so}
use Rattle.machine_world.proofs.world.World.key.Goals as goal

pub node_of-requires-clause-unit : goal.node_of-requires-clause-unit
node_of-requires-clause-unit c =
    unit_there _ _ c.self.view_is (ARef c.args.at.serial)
    (change_first (keyed c.args.is_on) (store_of c.args.self.now) (ARef c.args.at.serial) (of_some _ _ c.requires))

pub returns-in_err-node-clause-null : goal.returns-in_err-node-clause-null
returns-in_err-node-clause-null c =
    let p = err_from_is_err_and c.from_residual.result c.from_residual.ensures.1 in
    let trap = c.in_err-node.field-0.0 in
    rw (p.1, p.2)
    (to_each _ _
    (change_null (keyed c.args.is_on) (store_of c.args.self.now) (ARef c.args.at.serial) trap
    (place_there _ _ c.self.view_is (ARef c.args.at.serial) (Fails trap) (c.in_err-node.ensures {u = tt}).place)))

pub key-requires : goal.key-requires
key-requires c =
    can_change _ _ c.self.view_is (ARef c.args.at.serial) c.in_ok-node.node (keyed c.args.is_on)
    c.in_ok-node.ensures.place (of_some _ _ c.requires)

pub returns-clause-keyed : goal.returns-clause-keyed
returns-clause-keyed c =
    does_so _ _ _ _
    (is_changed _ _ c.self.view_is (ARef c.args.at.serial) c.in_ok-node.node (keyed c.args.is_on)
    c.in_ok-node.ensures.place c.key.new.self (of_some _ _ c.requires) c.key.ensures)

pub invariant_of-self : goal.invariant_of-self
invariant_of-self c = (
  c.self.invariant.0,
  c.self.invariant.1,
  c.self.invariant.2,
  taken_put c.self.inside.graph c.key.new.self c.in_ok-node.node
      (λ u. keyed c.args.is_on u.generator)
      (λ u g. let after : UnitState = record u { generator = g } in after)
      (can_change _ _ c.self.view_is (ARef c.args.at.serial) c.in_ok-node.node
      (keyed c.args.is_on) c.in_ok-node.ensures.place (of_some _ _ c.requires)) c.key.ensures c.self.invariant.3,
  joined_put c.self.inside.graph c.key.new.self c.in_ok-node.node
      (λ u. keyed c.args.is_on u.generator)
      (λ u g. let after : UnitState = record u { generator = g } in after) c.self.inside.heap
      (can_change _ _ c.self.view_is (ARef c.args.at.serial) c.in_ok-node.node
      (keyed c.args.is_on) c.in_ok-node.ensures.place (of_some _ _ c.requires)) c.key.ensures c.self.invariant.4,
)
