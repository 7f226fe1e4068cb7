use Rattle.ck_values.specs.Datum.{meant, ARef}
use Rattle.machine_world.specs.Worlds.{store_of}
use Rattle.machine_world.proofs.Indexed.{item_array, item_null, item_indexed}
use Rattle.machine_world.proofs.Stores.{array_there}
use Rattle.machine_world.proofs.Stands.{of_some, to_each}
use Rattle.machine_world.proofs.world.World.item.Goals as goal

pub returns-then-at-eq0-clause-trap : goal.returns-then-at-eq0-clause-trap
returns-then-at-eq0-clause-trap c =
    to_each _ _ (item_null (store_of c.args.self.now).objects c.args.at.serial (meant c.args.index.now) c.if-at-eq0.true)

pub int-requires : goal.int-requires
int-requires c =
    item_indexed (store_of c.args.self.now).objects c.args.at.serial (meant c.args.index.now) c.if-at-eq0.false (of_some _ _ c.requires)

pub item-requires-clause-array : goal.item-requires-clause-array
item-requires-clause-array c =
    array_there _ _ c.args.at.serial c.self.view_is
    (item_array (store_of c.args.self.now).objects (ARef c.args.at.serial) (meant c.args.index.now) (of_some _ _ c.requires))
