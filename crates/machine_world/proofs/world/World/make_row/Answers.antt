use Rattle.std.proofs.Common.{◌≡◌, ℤ, true, IfOk, IfErr, subst, w64}
use Rattle.std.proofs.lemmas.Int.{to_z-of_z}
use Rattle.ck_values.specs.Datum.{AnInt, ARef}
use Rattle.ck_store.specs.Store.{Gives}
use Rattle.ck_store.specs.Arrays.{row_made}
use Rattle.value_ops.specs.Ends.{IsEnd}
use Rattle.value_ops.specs.Heaps.{with_heap}
use Rattle.machine_world.proofs.Stores.{of_heap}
use Rattle.machine_world.proofs.Results.{ok_then, err_then}
use Rattle.machine_world.proofs.Stands.{to_each, does_so}
use Rattle.machine_world.proofs.world.World.make_row.Goals as goal

pub returns-clause-made : goal.returns-clause-made
returns-clause-made c =
    ok_then c.row.result _ _ (λ at. does_so _ _ _ _)
    (of_heap
    (λ before after. IfOk c.row.result (λ at.
    row_made c.args.elem (AnInt c.args.n) before ≡ Gives (record { reference = ARef at.serial; store = after })))
    _ _ c.row.new.heap c.self.view_is
    (λ store. subst (λ (n : ℤ). IfOk c.row.result (λ at.
    row_made c.args.elem (AnInt n) (with_heap store c.self.inside.heap)
    ≡ Gives (record { reference = ARef at.serial; store = with_heap store c.row.new.heap })))
    (to_z-of_z w64 c.args.n c.ranges.n) (c.row.ensures.made store)))

pub returns-clause-end : goal.returns-clause-end
returns-clause-end c =
    err_then c.row.result _ _ (λ end. to_each _ (λ store. IsEnd true end (row_made c.args.elem (AnInt c.args.n) store)))
    (of_heap
    (λ before after. IfErr c.row.result (λ end. IsEnd true end (row_made c.args.elem (AnInt c.args.n) before)))
    _ _ c.row.new.heap c.self.view_is
    (λ store. subst (λ (n : ℤ). IfErr c.row.result (λ end.
    IsEnd true end (row_made c.args.elem (AnInt n) (with_heap store c.self.inside.heap))))
    (to_z-of_z w64 c.args.n c.ranges.n) (c.row.ensures.end store)))
