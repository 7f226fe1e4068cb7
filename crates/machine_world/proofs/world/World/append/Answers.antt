use Rattle.ck_values.specs.Datum.{meant, ARef}
use Rattle.machine_world.specs.Worlds.{store_of}
use Rattle.machine_world.proofs.Indexed.{append_array}
use Rattle.machine_world.proofs.Stores.{of_heap, array_there}
use Rattle.ck_store.specs.Store.{Gives}
use Rattle.ck_store.specs.Arrays.{appended}
use Rattle.std.proofs.Common.{◌≡◌, true}
use Rattle.value_ops.specs.Ends.{IsEnd}
use Rattle.machine_world.proofs.Stands.{of_some, to_each, does_so}
use Rattle.machine_world.proofs.world.World.append.Goals as goal

pub append-requires-clause-array : goal.append-requires-clause-array
append-requires-clause-array c =
    array_there _ _ c.args.at.serial c.self.view_is
    (append_array (store_of c.args.self.now) (ARef c.args.at.serial) (meant c.args.v) (of_some _ _ c.requires))

pub returns-in-Err-clause-end : goal.returns-in-Err-clause-end
returns-in-Err-clause-end c =
    to_each _ _
    (of_heap
    (λ before after. IsEnd true c.in-Err.end (appended before (ARef c.args.at.serial) (meant c.args.v)))
    _ _ c.append.new.heap c.self.view_is (λ store. (c.in-Err.ensures.end store).0))

pub returns-clause-grown : goal.returns-clause-grown
returns-clause-grown c =
    does_so _ _ _ _
    (of_heap
    (λ before after. appended before (ARef c.args.at.serial) (meant c.args.v) ≡ Gives after)
    _ _ c.append.new.heap c.self.view_is c.in_default.ensures.added)
