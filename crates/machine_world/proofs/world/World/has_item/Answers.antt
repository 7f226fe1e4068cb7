use Rattle.ck_values.specs.Datum.{meant, ARef}
use Rattle.machine_world.specs.Worlds.{store_of}
use Rattle.machine_world.proofs.Indexed.{has_array, has_nothing, has_indexed}
use Rattle.machine_world.proofs.Stores.{array_there}
use Rattle.machine_world.proofs.Stands.{of_some, to_each}
use Rattle.machine_world.proofs.world.World.has_item.Goals as goal

pub returns-then-at-eq0-clause-null : goal.returns-then-at-eq0-clause-null
returns-then-at-eq0-clause-null c =
    to_each _ _ (has_nothing (store_of c.args.self.now).objects c.args.at.serial (meant c.args.index.now) c.if-at-eq0.true)

pub int-requires : goal.int-requires
int-requires c =
    has_indexed (store_of c.args.self.now).objects c.args.at.serial (meant c.args.index.now) c.if-at-eq0.false (of_some _ _ c.requires)

pub has_item-requires-clause-array : goal.has_item-requires-clause-array
has_item-requires-clause-array c =
    array_there _ _ c.args.at.serial c.self.view_is
    (has_array (store_of c.args.self.now).objects (ARef c.args.at.serial) (meant c.args.index.now) (of_some _ _ c.requires))
