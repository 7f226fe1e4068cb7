use Rattle.ck_values.specs.Datum.{ARef}
use Rattle.machine_world.specs.Worlds.{store_of}
use Rattle.machine_world.proofs.Indexed.{size_array}
use Rattle.machine_world.proofs.Stores.{array_there}
use Rattle.machine_world.proofs.Stands.{of_some}
use Rattle.machine_world.proofs.world.World.size.Goals as goal

pub size-requires-clause-array : goal.size-requires-clause-array
size-requires-clause-array c =
    array_there _ _ c.args.at.serial c.self.view_is
    (size_array (store_of c.args.self.now).objects (ARef c.args.at.serial) (of_some _ _ c.requires))
