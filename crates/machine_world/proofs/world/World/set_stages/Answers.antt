use Rattle.std.proofs.Common.{Option, sym}
use Rattle.std.specs.Int.{w64}
use Rattle.std.proofs.lemmas.Int.{to_z-of_z}
use Rattle.std.proofs.lemmas.Result.{err_from_is_err_and}
use Rattle.ck_values.specs.Datum.{ARef}
use Rattle.ugen_kinds.specs.declared.generator.Generator.{Generator}
use Rattle.ugen_kinds.specs.Generator.{staged}
use Rattle.ugen_sample.specs.declared.unit.UnitState.{UnitState}
use Rattle.ck_store.specs.Store.{Fails}
use Rattle.machine_world.specs.Worlds.{store_of}
use Rattle.machine_world.proofs.Located.{change_first, change_null}
use Rattle.machine_world.proofs.Graphs.{unit_there, place_there, can_change, is_changed}
use Rattle.machine_world.proofs.Places.{IsPut, taken_put, joined_put}
use Rattle.machine_world.proofs.Stands.{of_some, to_each, does_so}
use Rattle.machine_world.proofs.world.World.set_stages.Goals as goal

pub node_of-requires-clause-unit : goal.node_of-requires-clause-unit
node_of-requires-clause-unit c =
    unit_there _ _ c.self.view_is (ARef c.args.at.serial)
    (change_first (staged c.args.attack c.args.decay c.args.sustain c.args.release) (store_of c.args.self.now)
    (ARef c.args.at.serial) (of_some _ _ c.requires))

pub returns-in_err-node-clause-null : goal.returns-in_err-node-clause-null
returns-in_err-node-clause-null c =
    let p = err_from_is_err_and c.from_residual.result c.from_residual.ensures.1 in
    let trap = c.in_err-node.field-0.0 in
    rw (p.1, p.2)
    (to_each _ _
    (change_null (staged c.args.attack c.args.decay c.args.sustain c.args.release) (store_of c.args.self.now)
    (ARef c.args.at.serial) trap
    (place_there _ _ c.self.view_is (ARef c.args.at.serial) (Fails trap) (c.in_err-node.ensures {u = tt}).place)))

pub adsr-requires : goal.adsr-requires
adsr-requires c =
    rw (
      to_z-of_z w64 c.args.attack c.ranges.attack,
      to_z-of_z w64 c.args.decay c.ranges.decay,
      to_z-of_z w64 c.args.release c.ranges.release,
    )
    (can_change _ _ c.self.view_is (ARef c.args.at.serial) c.in_ok-node.node
    (staged c.args.attack c.args.decay c.args.sustain c.args.release) c.in_ok-node.ensures.place
    (of_some _ _ c.requires))

pub returns-clause-staged : goal.returns-clause-staged
returns-clause-staged c =
    does_so _ _ _ _
    (is_changed _ _ c.self.view_is (ARef c.args.at.serial) c.in_ok-node.node
    (staged c.args.attack c.args.decay c.args.sustain c.args.release) c.in_ok-node.ensures.place
    c.adsr.new.self (of_some _ _ c.requires)
    (rw (
      sym (to_z-of_z w64 c.args.attack c.ranges.attack),
      sym (to_z-of_z w64 c.args.decay c.ranges.decay),
      sym (to_z-of_z w64 c.args.release c.ranges.release),
    ) c.adsr.ensures))

pub invariant_of-self : goal.invariant_of-self
invariant_of-self c =
    let graph = c.self.inside.graph in
    let node = c.in_ok-node.node in
    let change : UnitState → Option Generator =
    λ u. staged c.args.attack c.args.decay c.args.sustain c.args.release u.generator in
    let put : UnitState → Generator → UnitState = λ u g. record u { generator = g } in
    let can = can_change _ _ c.self.view_is (ARef c.args.at.serial) node
    (staged c.args.attack c.args.decay c.args.sustain c.args.release) c.in_ok-node.ensures.place
    (of_some _ _ c.requires) in
    let set : IsPut graph c.adsr.new.self node change put = rw (
      sym (to_z-of_z w64 c.args.attack c.ranges.attack),
      sym (to_z-of_z w64 c.args.decay c.ranges.decay),
      sym (to_z-of_z w64 c.args.release c.ranges.release),
    ) c.adsr.ensures in (
      c.self.invariant.0,
      c.self.invariant.1,
      c.self.invariant.2,
      taken_put graph c.adsr.new.self node change put can set c.self.invariant.3,
      joined_put graph c.adsr.new.self node change put c.self.inside.heap can set c.self.invariant.4,
    )
