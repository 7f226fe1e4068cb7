use Rattle.std.proofs.Common.{◌≡◌, ℤ, IfOk, IfErr, subst, w64, to_z, of_z}
use Rattle.std.proofs.lemmas.Int.{to_z-of_z}
use Rattle.ck_values.specs.Datum.{AnInt, ARef}
use Rattle.ck_store.specs.Store.{Store, Gives}
use Rattle.ck_store.specs.Arrays.{sizes_of, grid_made}
use Rattle.value_ops.specs.Ends.{IsGiven, OnWant, IsPartEnd}
use Rattle.value_ops.specs.Heaps.{with_heap}
use Rattle.machine_world.proofs.Stores.{of_heap}
use Rattle.machine_world.proofs.Results.{ok_then, err_then}
use Rattle.machine_world.proofs.Stands.{does_partly, partly_on}
use Rattle.machine_world.proofs.world.World.make_grid.Goals as goal

pub returns-clause-made : goal.returns-clause-made
returns-clause-made c =
    ok_then c.grid.result _ _ (λ at. does_partly _ _ _ _)
    (let made : ℤ → ℤ → Store → Store → Type 0 = λ n m before after. IfOk c.grid.result (λ at.
    grid_made c.args.elem (AnInt n) (AnInt m) before
    ≡ record { store = after; end = Gives (ARef at.serial) }) in
    of_heap (made c.args.n c.args.m) _ _ c.grid.new.heap c.self.view_is
    (λ store. let before = with_heap store c.self.inside.heap in
    let after = with_heap store c.grid.new.heap in
    subst (λ (n : ℤ). made n c.args.m before after) (to_z-of_z w64 c.args.n c.ranges.n)
    (subst (λ (m : ℤ). made (to_z w64 (of_z w64 c.args.n)) m before after)
    (to_z-of_z w64 c.args.m c.ranges.m) (c.grid.ensures.made store))))

pub returns-clause-end : goal.returns-clause-end
returns-clause-end c =
    err_then c.grid.result _ _ (λ end. partly_on _ end (grid_made c.args.elem (AnInt c.args.n) (AnInt c.args.m)) _)
    (let ended : ℤ → ℤ → Store → Store → Type 0 = λ n m before after. IfErr c.grid.result (λ end.
    IsPartEnd end (grid_made c.args.elem (AnInt n) (AnInt m) before) after) in
    of_heap (ended c.args.n c.args.m) _ _ c.grid.new.heap c.self.view_is
    (λ store. let before = with_heap store c.self.inside.heap in
    let after = with_heap store c.grid.new.heap in
    subst (λ (n : ℤ). ended n c.args.m before after) (to_z-of_z w64 c.args.n c.ranges.n)
    (subst (λ (m : ℤ). ended (to_z w64 (of_z w64 c.args.n)) m before after)
    (to_z-of_z w64 c.args.m c.ranges.m) (c.grid.ensures.end store))))

pub returns-clause-sizes : goal.returns-clause-sizes
returns-clause-sizes c =
    let sized : ℤ → ℤ → Type 0 = λ n m.
    IfErr c.grid.result (λ end. OnWant end (IsGiven (sizes_of (AnInt n) (AnInt m)))) in
    subst (λ (n : ℤ). sized n c.args.m) (to_z-of_z w64 c.args.n c.ranges.n)
    (subst (λ (m : ℤ). sized (to_z w64 (of_z w64 c.args.n)) m) (to_z-of_z w64 c.args.m c.ranges.m)
    c.grid.ensures.sizes)
