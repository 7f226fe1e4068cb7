use Rattle.std.proofs.Common.{◌∙◌}
use Rattle.std.proofs.lemmas.Result.{err_from_is_err_and}
use Rattle.value_ops.proofs.Keeps.{units_then}
use Rattle.value_ops.proofs.Makes.{adding_first, adding_step, adding_end, adding_done}
use Rattle.value_ops.proofs.rows.add_rows.Goals as goal

pub loop-init : goal.loop-init
loop-init c =
    adding_first c.args.heap.now c.args.grid c.args.rows c.args.elem c.args.columns c.requires.array

pub add_row-requires-clause-first : goal.add_row-requires-clause-first
add_row-requires-clause-first c = c.loop.invariant.first ∙ c.requires.first

pub add_row-requires-clause-array : goal.add_row-requires-clause-array
add_row-requires-clause-array c = c.loop.invariant.array

pub returns-in_err-add_row-clause-end : goal.returns-in_err-add_row-clause-end
returns-in_err-add_row-clause-end c = λ store.
    let p = err_from_is_err_and c.from_residual.result c.from_residual.ensures.1 in
    rw (p.1, p.2)
    (adding_end store c.args.heap.now c.loop.heap c.add_row.new.heap c.args.grid c.args.rows
    c.args.elem c.args.columns c.loop.counter c.in_err-add_row.field-0.0 c.loop-test.true
    c.loop.invariant (c.in_err-add_row.ensures.end store) c.in_err-add_row.ensures.same)

pub returns-in_err-add_row-clause-first : goal.returns-in_err-add_row-clause-first
returns-in_err-add_row-clause-first c = c.add_row.ensures.first ∙ c.loop.invariant.first

pub loop-preserved : goal.loop-preserved
loop-preserved c =
    adding_step c.args.heap.now c.loop.heap c.add_row.new.heap c.args.grid c.args.rows c.args.elem
    c.args.columns c.loop.counter c.loop-test.true c.loop.invariant c.add_row.ensures.first
    c.add_row.ensures.units
    c.in_ok-add_row.ensures.array c.in_ok-add_row.ensures.added

pub returns-clause-added : goal.returns-clause-added
returns-clause-added c = λ store.
    adding_done store c.args.heap.now c.loop.heap c.args.grid c.args.rows c.args.elem
    c.args.columns c.loop.counter c.loop-test.false c.loop.invariant

pub returns-clause-first : goal.returns-clause-first
returns-clause-first c = c.loop.invariant.first

pub returns-in_err-add_row-clause-units : goal.returns-in_err-add_row-clause-units
returns-in_err-add_row-clause-units c =
    units_then c.args.heap.now c.loop.heap c.add_row.new.heap c.loop.invariant.units
    c.add_row.ensures.units

pub returns-clause-units : goal.returns-clause-units
returns-clause-units c = c.loop.invariant.units
