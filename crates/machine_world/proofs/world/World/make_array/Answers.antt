use Rattle.std.proofs.Common.{◌≡◌, true, IfOk, IfErr}
use Rattle.ck_values.specs.Datum.{all_meant, ARef}
use Rattle.ck_store.specs.Store.{Gives}
use Rattle.ck_store.specs.Arrays.{array_made}
use Rattle.value_ops.specs.Ends.{IsEnd}
use Rattle.machine_world.proofs.Stores.{of_heap}
use Rattle.machine_world.proofs.Results.{ok_then, err_then}
use Rattle.machine_world.proofs.Stands.{to_each, does_so}
use Rattle.machine_world.proofs.world.World.make_array.Goals as goal

pub returns-clause-made : goal.returns-clause-made
returns-clause-made c =
    ok_then c.array.result _ _ (λ at. does_so _ _ _ _)
    (of_heap
    (λ before after. IfOk c.array.result (λ at.
    array_made c.args.elem c.args.two (all_meant c.args.items) before ≡ Gives (record { reference = ARef at.serial; store = after })))
    _ _ c.array.new.heap c.self.view_is c.array.ensures.made)

pub returns-clause-end : goal.returns-clause-end
returns-clause-end c =
    err_then c.array.result _ _ (λ end. to_each _ (λ store. IsEnd true end (array_made c.args.elem c.args.two (all_meant c.args.items) store)))
    (of_heap
    (λ before after. IfErr c.array.result (λ end. IsEnd true end (array_made c.args.elem c.args.two (all_meant c.args.items) before)))
    _ _ c.array.new.heap c.self.view_is c.array.ensures.end)
