use Rattle.std.proofs.lemmas.Result.{err_from_is_err_and}
use Rattle.value_ops.proofs.Changes.{clearing_first, clearing_still, clearing_kept, clearing_units, clearing_step, clearing_done, clear_null}
use Rattle.value_ops.proofs.edits.clear.Goals as goal

pub returns-in_err-n-clause-trap : goal.returns-in_err-n-clause-trap
returns-in_err-n-clause-trap c = λ store.
    let p = err_from_is_err_and c.from_residual.result c.from_residual.ensures.1 in
    rw (p.1, p.2)
    (clear_null store c.args.heap.now c.args.at c.in_err-n.field-0.0 c.in_err-n.ensures.null)

pub loop-init : goal.loop-init
loop-init c =
    clearing_first c.args.heap.now c.args.at c.in_ok-n.field-0.now c.requires.first
    c.in_ok-n.ensures.found

pub clear_one-requires : goal.clear_one-requires
clear_one-requires c =
    clearing_still c.args.heap.now c.loop.heap c.args.at _ _ c.requires.first c.loop.invariant

pub loop-preserved : goal.loop-preserved
loop-preserved c =
    clearing_step c.args.heap.now c.loop.heap c.clear_one.new.self c.args.at _ _ c.clear_one.result
    c.requires.first c.loop-test.true c.loop.invariant c.clear_one.ensures.empty
    c.clear_one.ensures.last

pub returns-clause-cleared : goal.returns-clause-cleared
returns-clause-cleared c = λ store.
    clearing_done store c.args.heap.now c.loop.heap c.args.at _ _ c.requires.first
    c.loop-test.false c.loop.invariant

pub returns-clause-first : goal.returns-clause-first
returns-clause-first c =
    clearing_kept c.args.heap.now c.loop.heap c.args.at _ _ c.loop.invariant

pub returns-clause-units : goal.returns-clause-units
returns-clause-units c =
    clearing_units c.args.heap.now c.loop.heap c.args.at _ _ c.loop.invariant
