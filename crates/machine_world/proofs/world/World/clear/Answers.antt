use Rattle.std.proofs.Common.{◌≡◌, OnOk, IfErr}
use Rattle.ck_values.specs.Datum.{ARef}
use Rattle.ck_store.specs.Store.{Gives, Fails}
use Rattle.ck_store.specs.Arrays.{cleared}
use Rattle.machine_world.specs.Worlds.{store_of}
use Rattle.machine_world.proofs.Indexed.{clear_array}
use Rattle.machine_world.proofs.Stores.{of_heap, array_there}
use Rattle.machine_world.proofs.Results.{on_ok, err_then}
use Rattle.machine_world.proofs.Stands.{of_some, to_each, does_so}
use Rattle.machine_world.proofs.world.World.clear.Goals as goal

pub clear-requires-clause-array : goal.clear-requires-clause-array
clear-requires-clause-array c =
    array_there _ _ c.args.at.serial c.self.view_is
    (clear_array (store_of c.args.self.now) (ARef c.args.at.serial) (of_some _ _ c.requires))

pub returns-clause-cleared : goal.returns-clause-cleared
returns-clause-cleared c =
    on_ok c.clear.result _ _ (does_so _ _ _ _)
    (of_heap
    (λ before after. OnOk c.clear.result (cleared before (ARef c.args.at.serial) ≡ Gives after))
    _ _ c.clear.new.heap c.self.view_is c.clear.ensures.cleared)

pub returns-clause-null : goal.returns-clause-null
returns-clause-null c =
    err_then c.clear.result _ _ (λ trap. to_each _ (λ store. cleared store (ARef c.args.at.serial) ≡ Fails trap))
    (of_heap
    (λ before after. IfErr c.clear.result (λ trap. cleared before (ARef c.args.at.serial) ≡ Fails trap))
    _ _ c.clear.new.heap c.self.view_is c.clear.ensures.trap)
