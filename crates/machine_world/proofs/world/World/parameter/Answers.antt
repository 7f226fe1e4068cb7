use Rattle.std.proofs.lemmas.Result.{err_from_is_err_and}
use Rattle.ck_values.specs.Datum.{ARef, meant}
use Rattle.ck_store.specs.Store.{Fails}
use Rattle.machine_world.specs.Worlds.{store_of}
use Rattle.machine_world.proofs.Located.{read_first, read_null}
use Rattle.machine_world.proofs.Graphs.{unit_there, place_there, can_read, is_read}
use Rattle.machine_world.proofs.Stands.{of_some, to_each}
use Rattle.machine_world.proofs.world.World.parameter.Goals as goal

pub node_of-requires-clause-unit : goal.node_of-requires-clause-unit
node_of-requires-clause-unit c =
    unit_there _ _ c.self.view_is (ARef c.args.at.serial)
    (read_first c.args.p (store_of c.args.self.now) (ARef c.args.at.serial) (of_some _ _ c.requires))

pub returns-in_err-node-clause-null : goal.returns-in_err-node-clause-null
returns-in_err-node-clause-null c =
    let p = err_from_is_err_and c.from_residual.result c.from_residual.ensures.1 in
    let trap = c.in_err-node.field-0.0 in
    rw (p.1, p.2)
    (to_each _ _ (read_null c.args.p (store_of c.args.self.now) (ARef c.args.at.serial) trap
    (place_there _ _ c.self.view_is (ARef c.args.at.serial) (Fails trap) (c.in_err-node.ensures {u = tt}).place)))

pub param-requires : goal.param-requires
param-requires c =
    can_read _ _ c.self.view_is (ARef c.args.at.serial) c.in_ok-node.node c.args.p c.in_ok-node.ensures.place
    (of_some _ _ c.requires)

pub returns-clause-found : goal.returns-clause-found
returns-clause-found c =
    to_each _ _ (is_read _ _ c.self.view_is (ARef c.args.at.serial) c.in_ok-node.node c.args.p
    c.in_ok-node.ensures.place
    (meant c.param.result) (of_some _ _ c.requires) c.param.ensures)
