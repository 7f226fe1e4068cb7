use Rattle.std.proofs.Common.{refl, ◌∙◌}
use Rattle.std.proofs.lemmas.Result.{err_from_is_err_and}
use Rattle.ck_values.specs.Datum.{ARef}
use Rattle.value_ops.specs.Heaps.{with_heap}
use Rattle.value_ops.proofs.Makes.{added_row, added_row_end, still_array, grown_array, grown_first}
use Rattle.value_ops.proofs.rows.add_row.Goals as goal

pub returns-in_err-row-clause-end : goal.returns-in_err-row-clause-end
returns-in_err-row-clause-end c = λ store.
    let p = err_from_is_err_and c.from_residual-in_err-row.result
    c.from_residual-in_err-row.ensures.1 in
    rw (p.1, p.2)
    (added_row_end (with_heap store c.args.heap.now) c.args.elem c.args.columns
    (ARef c.args.grid.serial) c.in_ok-items.items c.in_err-row.field-0.0 c.in_ok-items.ensures
    (c.in_err-row.ensures.end store))

pub grow-requires : goal.grow-requires
grow-requires c =
    still_array c.args.heap.now c.array.new.heap c.in_ok-row.row c.args.grid _ c.requires.first
    c.in_ok-row.ensures.object c.requires.array

pub returns-in-Ok-clause-added : goal.returns-in-Ok-clause-added
returns-in-Ok-clause-added c = λ store.
    let still = still_array c.args.heap.now c.array.new.heap c.in_ok-row.row c.args.grid _
    c.requires.first c.in_ok-row.ensures.object c.requires.array in
    added_row store c.args.heap.now c.array.new.heap c.grow.new.self c.in_ok-row.row c.args.grid
    c.args.elem c.args.columns c.in_ok-items.items _ c.in_ok-items.ensures
    (c.in_ok-row.ensures.made store) (c.array.ensures.first ∙ c.requires.first) still refl
    c.in-Ok.ensures.grown

pub returns-in-Ok-clause-array : goal.returns-in-Ok-clause-array
returns-in-Ok-clause-array c =
    let still = still_array c.args.heap.now c.array.new.heap c.in_ok-row.row c.args.grid _
    c.requires.first c.in_ok-row.ensures.object c.requires.array in
    grown_array c.array.new.heap c.grow.new.self c.args.grid _
    (c.array.ensures.first ∙ c.requires.first) still c.in-Ok.ensures.grown

pub returns-in-Ok-clause-first : goal.returns-in-Ok-clause-first
returns-in-Ok-clause-first c =
    let still = still_array c.args.heap.now c.array.new.heap c.in_ok-row.row c.args.grid _
    c.requires.first c.in_ok-row.ensures.object c.requires.array in
    grown_first c.array.new.heap c.grow.new.self c.args.grid _ still c.in-Ok.ensures.grown
    ∙ c.array.ensures.first
