use Rattle.std.proofs.lemmas.Result.{err_from_is_err_and}
use Rattle.ck_parser.proofs.MadeItem.{bad_item, item_pushed, made_file}
use Rattle.ck_parser.proofs.item.file.Goals as goal

pub returns-in_err-item : goal.returns-in_err-item
returns-in_err-item c =
    let p = err_from_is_err_and c.from_residual.result c.from_residual.ensures.1 in
    rw (p.1, p.2) (bad_item _ c.loop-alloc.invariant c.in_err-item.ensures.reads)

pub loop-alloc-preserved : goal.loop-alloc-preserved
loop-alloc-preserved c = item_pushed c.loop-alloc.items.items c.push_boxed.new.items.items
    c.in_ok-item.item.value c.in_ok-push_boxed.ensures.items c.loop-alloc.invariant
    c.in_ok-item.ensures.reads

pub returns-in_err-expect_end : goal.returns-in_err-expect_end
returns-in_err-expect_end c =
    let p = err_from_is_err_and c.from_residual-in_err-expect_end.result
    c.from_residual-in_err-expect_end.ensures.1 in
    rw (p.1, p.2) (bad_item _ c.loop-alloc.invariant c.in_err-expect_end.ensures)

pub returns : goal.returns
returns c = made_file c.loop-alloc.items.items c.from_vec.result c.from_vec.ensures
    c.loop-alloc.invariant c.in_ok-expect_end.ensures
