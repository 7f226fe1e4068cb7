use Rattle.std.proofs.Common.{◌≡◌, ◌∙◌, w64}
use Rattle.std.proofs.lemmas.Int.{to_z-of_z}
use Rattle.std.proofs.lemmas.Result.{err_from_is_err_and}
use Rattle.ck_values.specs.Datum.{AnInt}
use Rattle.ck_store.specs.Store.{Gives}
use Rattle.ck_store.specs.Arrays.{Sizes, sizes_of}
use Rattle.value_ops.specs.Heaps.{with_heap}
use Rattle.value_ops.proofs.Makes.{grid_sizes_end, grid_array_end, grid_then}
use Rattle.value_ops.proofs.rows.grid.Goals as goal

pub returns-in_err-rows-clause-end : goal.returns-in_err-rows-clause-end
returns-in_err-rows-clause-end c = λ store.
    let p = err_from_is_err_and c.from_residual.result c.from_residual.ensures.1 in
    let same = to_z-of_z w64 c.args.n c.ranges.n in
    let also = to_z-of_z w64 c.args.m c.ranges.m in
    let end = c.in_err-rows.field-0.0 in
    rw (p.1, p.2)
    (grid_sizes_end (with_heap store c.args.heap.now) c.args.elem (AnInt c.args.n)
    (AnInt c.args.m) end
    (rw (← same, ← also) c.in_err-rows.ensures.end))

pub returns-in_err-at-clause-end : goal.returns-in_err-at-clause-end
returns-in_err-at-clause-end c = λ store.
    let p = err_from_is_err_and c.from_residual-in_err-at.result c.from_residual-in_err-at.ensures.1
    in
    let same = to_z-of_z w64 c.args.n c.ranges.n in
    let also = to_z-of_z w64 c.args.m c.ranges.m in
    let s : Sizes = record { rows = c.in_ok-rows.rows; columns = c.in_ok-rows.columns } in
    let sizes : sizes_of (AnInt c.args.n) (AnInt c.args.m) ≡ Gives s =
    rw (← same, ← also) c.in_ok-rows.ensures.sizes in
    rw (p.1, p.2)
    (grid_array_end store c.args.heap.now c.array.new.heap c.args.elem (AnInt c.args.n)
    (AnInt c.args.m) s c.from_vec-items.result c.in_err-at.field-0.0
    (c.from_vec-items.ensures ∙ c.in_ok-with_capacity.ensures.items) sizes c.in_err-at.ensures.same
    (c.in_err-at.ensures.end store))

pub returns-in_err-add_rows-clause-end : goal.returns-in_err-add_rows-clause-end
returns-in_err-add_rows-clause-end c = λ store.
    let p = err_from_is_err_and c.from_residual-in_err-add_rows.result
    c.from_residual-in_err-add_rows.ensures.1 in
    let same = to_z-of_z w64 c.args.n c.ranges.n in
    let also = to_z-of_z w64 c.args.m c.ranges.m in
    let s : Sizes = record { rows = c.in_ok-rows.rows; columns = c.in_ok-rows.columns } in
    let sizes : sizes_of (AnInt c.args.n) (AnInt c.args.m) ≡ Gives s =
    rw (← same, ← also) c.in_ok-rows.ensures.sizes in
    let so = grid_then store c.args.heap.now c.array.new.heap c.in_ok-at.at c.args.elem
    (AnInt c.args.n) (AnInt c.args.m) s c.from_vec-items.result
    (c.from_vec-items.ensures ∙ c.in_ok-with_capacity.ensures.items) sizes
    (c.in_ok-at.ensures.made store) in
    rw (p.1, p.2, so) (c.in_err-add_rows.ensures.end store)

pub returns-clause-made : goal.returns-clause-made
returns-clause-made c = λ store.
    let same = to_z-of_z w64 c.args.n c.ranges.n in
    let also = to_z-of_z w64 c.args.m c.ranges.m in
    let s : Sizes = record { rows = c.in_ok-rows.rows; columns = c.in_ok-rows.columns } in
    let sizes : sizes_of (AnInt c.args.n) (AnInt c.args.m) ≡ Gives s =
    rw (← same, ← also) c.in_ok-rows.ensures.sizes in
    grid_then store c.args.heap.now c.array.new.heap c.in_ok-at.at c.args.elem
    (AnInt c.args.n) (AnInt c.args.m) s c.from_vec-items.result
    (c.from_vec-items.ensures ∙ c.in_ok-with_capacity.ensures.items) sizes
    (c.in_ok-at.ensures.made store)
    ∙ c.in_ok-add_rows.ensures.added store
