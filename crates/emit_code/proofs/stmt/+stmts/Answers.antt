use Rattle.std.proofs.Common.{arith, ◌+◌, ap, ◌∙◌, vec_len}
use Rattle.std.proofs.lemmas.Result.{on_ok_weaker}
use Rattle.ck_typed.specs.View.{view_expr, view_stmt}
use Rattle.emit_code.proofs.Loops.{from_none, if_after, if_held, while_after, do_after, round_after, for_after, repeat_after}
use Rattle.emit_code.proofs.Within.{stmt_above, test_above, held_stand}
use Rattle.emit_code.proofs.stmt.+stmts.Goals as goal

pub emit_if-returns-clause-code : goal.emit_if-returns-clause-code
emit_if-returns-clause-code t c =
    if_after c.args.tables.now.classes.now c.args.tables.now.texts.now c.args.place
    (view_expr c.args.test.now) (view_stmt c.args.then.now) (view_stmt c.args.otherwise.now)
    (vec_len c.args.code.now) _ _ _ _ _ _ _ _ _ _ _ _ _ _ _ _ _ _
    c.in_ok-emit_expr.ensures.code c.in_ok-emit_expr.ensures.len c.emit_expr.new.code.ok.0
    c.in_ok-over.ensures.at c.in_ok-over.ensures.code c.in_ok-over.ensures.len
    c.in_ok-emit_stmt.ensures.code c.in_ok-emit_stmt.ensures.len c.emit_stmt.new.code.ok.0
    c.in_ok-out.ensures.at c.in_ok-out.ensures.code c.in_ok-out.ensures.len c.len-other.ensures
    c.write.ensures.code c.write.ensures.len c.in_ok-emit_stmt-2.ensures.code
    c.in_ok-emit_stmt-2.ensures.len c.len-end.ensures c.write-2.ensures.code

pub emit_while-returns-clause-code : goal.emit_while-returns-clause-code
emit_while-returns-clause-code t c =
    while_after c.args.tables.now.classes.now c.args.tables.now.texts.now c.args.place
    c.args.until (view_expr c.args.test.now) (view_stmt c.args.body.now) (vec_len c.args.code.now)
    _ _ _ _ _ _ _ _ _ _ _ _ _ _ _ _ _
    c.len-round.ensures c.in_ok-emit_test.ensures.code c.in_ok-emit_test.ensures.len
    c.emit_test.new.code.ok.0 c.in_ok-over.ensures.at c.in_ok-over.ensures.code
    c.in_ok-over.ensures.len c.in_ok-put.ensures.code c.in_ok-put.ensures.len c.put.new.code.ok.0
    c.in_ok-emit_stmt.ensures.code
    (c.deref.ensures.value ∙ from_none _ _ _ c.in_ok-emit_stmt.ensures.held c.new-exits.ensures.items)
    c.in_ok-emit_stmt.ensures.len c.in_ok-put-2.ensures.code c.in_ok-put-2.ensures.len
    c.len-end.ensures c.write_exits.ensures.code c.write.ensures.code

pub emit_do-returns-clause-code : goal.emit_do-returns-clause-code
emit_do-returns-clause-code t c =
    do_after c.args.tables.now.classes.now c.args.tables.now.texts.now c.args.place
    c.args.until (view_expr c.args.test.now) (view_stmt c.args.body.now) (vec_len c.args.code.now)
    _ _ _ _ _ _ _ _ _ _ _ _ _ _ _ _ _ _
    c.len-round.ensures c.in_ok-put.ensures.code c.in_ok-put.ensures.len c.put.new.code.ok.0
    c.in_ok-emit_stmt.ensures.code
    (c.deref.ensures.value ∙ from_none _ _ _ c.in_ok-emit_stmt.ensures.held c.new-exits.ensures.items)
    c.in_ok-emit_stmt.ensures.len c.len-again.ensures c.in_ok-emit_test.ensures.code
    c.in_ok-emit_test.ensures.len c.emit_test.new.code.ok.0 c.in_ok-over.ensures.at
    c.in_ok-over.ensures.code c.in_ok-over.ensures.len c.in_ok-put-2.ensures.code
    c.in_ok-put-2.ensures.len c.len-end.ensures c.write.ensures.code c.write_exits.ensures.code

pub emit_round-returns-clause-code : goal.emit_round-returns-clause-code
emit_round-returns-clause-code t c =
    round_after c.args.tables.now.classes.now c.args.tables.now.texts.now c.args.place
    (view_stmt c.args.step.now) (view_stmt c.args.body.now) c.args.round (vec_len c.args.code.now)
    _ _ _ _ _ _ _ _ _ _ _ _ _
    c.args.code.now.ok.0 c.in_ok-emit_stmt.ensures.code
    (c.deref-2.ensures.value ∙ from_none _ _ _ c.in_ok-emit_stmt.ensures.held c.new-exits.ensures.items)
    c.in_ok-emit_stmt.ensures.len c.emit_stmt.new.code.ok.0 c.len-again.ensures
    c.in_ok-emit_stmt-2.ensures.code
    (c.deref.ensures.value ∙ from_none _ _ _ c.in_ok-emit_stmt-2.ensures.held c.new-last.ensures.items)
    c.in_ok-emit_stmt-2.ensures.len c.in_ok-put.ensures.code c.in_ok-put.ensures.len
    c.len-end.ensures c.write_exits.ensures.code c.write_exits-2.ensures.code

pub emit_for-returns-clause-code : goal.emit_for-returns-clause-code
emit_for-returns-clause-code t c =
    for_after c.args.tables.now.classes.now c.args.tables.now.texts.now c.args.place
    (view_stmt c.args.start.now) (view_stmt c.args.step.now) (view_stmt c.args.body.now)
    (view_expr c.args.test.now) (vec_len c.args.code.now) _ _ _ _ _ _ _ _ _ _ _ _ _ _ _
    c.in_ok-emit_stmt.ensures.code c.in_ok-emit_stmt.ensures.len c.len-round.ensures
    c.in_ok-emit_expr.ensures.code c.in_ok-emit_expr.ensures.len c.emit_expr.new.code.ok.0
    c.in_ok-over.ensures.at c.in_ok-over.ensures.code c.in_ok-over.ensures.len
    c.in_ok-put.ensures.code c.in_ok-put.ensures.len c.in_ok-emit_round.ensures.code
    c.in_ok-emit_round.ensures.len c.len-end.ensures c.write.ensures.code

pub emit_if-returns-clause-held : goal.emit_if-returns-clause-held
emit_if-returns-clause-held t c =
    if_held c.args.tables.now.classes.now c.args.tables.now.texts.now c.args.place (view_expr c.args.test.now)
    (view_stmt c.args.then.now) (view_stmt c.args.otherwise.now)
    (vec_len c.args.code.now) _ _ _ _ _ c.in_ok-emit_stmt.ensures.held
    (c.in_ok-over.ensures.len ∙ ap (λ n. n + 1) c.in_ok-emit_expr.ensures.len)
    c.in_ok-emit_stmt-2.ensures.held
    (c.write.ensures.len ∙ c.in_ok-out.ensures.len ∙ ap (λ n. n + 1) c.in_ok-emit_stmt.ensures.len)

pub emit_repeat-returns-clause-code : goal.emit_repeat-returns-clause-code
emit_repeat-returns-clause-code t c =
    let law =
    repeat_after c.args.tables.now.classes.now c.args.tables.now.texts.now c.args.place
    (view_expr c.args.count.now) (view_stmt c.args.body.now) (vec_len c.args.code.now) _ _ _ _ _ _
    _ _ _ _ c.put-3.new.code.items _ _ _ _ _ _ _ _ _ _ _ _
    c.in_ok-emit_expr.ensures.code c.in_ok-emit_expr.ensures.len c.len-round.ensures
    c.in_ok-put_more.ensures.code c.in_ok-put_more.ensures.len c.put_more.new.code.ok.0
    c.in_ok-over.ensures.at c.in_ok-over.ensures.code c.in_ok-over.ensures.len
    c.in_ok-put.ensures.code c.in_ok-put.ensures.len c.put.new.code.ok.0
    c.in_ok-emit_stmt.ensures.code
    (c.deref.ensures.value ∙ from_none _ _ _ c.in_ok-emit_stmt.ensures.held c.new-exits.ensures.items)
    c.in_ok-emit_stmt.ensures.len c.len-again.ensures c.in_ok-put_fewer.ensures.code
    c.in_ok-put_fewer.ensures.len c.in_ok-put-2.ensures.code c.in_ok-put-2.ensures.len
    c.len-end.ensures c.write_exits.ensures.code c.write.ensures.code in
    on_ok_weaker c.put-3.result law c.put-3.ensures.code

-- the jumps that are written stand in the code
pub emit_while-write_exits-requires : goal.emit_while-write_exits-requires
emit_while-write_exits-requires t c =
    held_stand c.args.tables.now.classes.now (view_stmt c.args.body.now) _ _ _
    (c.deref.ensures.value ∙ from_none _ _ _ c.in_ok-emit_stmt.ensures.held c.new-exits.ensures.items)
    (omega (arith, c.in_ok-emit_stmt.ensures.len, c.in_ok-put-2.ensures.len))

pub emit_do-write_exits-requires : goal.emit_do-write_exits-requires
emit_do-write_exits-requires t c =
    held_stand c.args.tables.now.classes.now (view_stmt c.args.body.now) _ _ _
    (c.deref.ensures.value ∙ from_none _ _ _ c.in_ok-emit_stmt.ensures.held c.new-exits.ensures.items)
    (omega (
      arith,
      c.in_ok-emit_stmt.ensures.len,
      c.in_ok-emit_test.ensures.len,
      c.in_ok-over.ensures.len,
      c.in_ok-put-2.ensures.len,
      c.write.ensures.len,
      test_above c.args.tables.now.classes.now c.args.until (view_expr c.args.test.now) (vec_len c.emit_stmt.new.code),
    ))

pub emit_round-write_exits-requires : goal.emit_round-write_exits-requires
emit_round-write_exits-requires t c =
    held_stand c.args.tables.now.classes.now (view_stmt c.args.step.now) _ _ _
    (c.deref.ensures.value ∙ from_none _ _ _ c.in_ok-emit_stmt-2.ensures.held c.new-last.ensures.items)
    (omega (arith, c.in_ok-emit_stmt-2.ensures.len, c.in_ok-put.ensures.len))

pub emit_round-write_exits-requires-2 : goal.emit_round-write_exits-requires-2
emit_round-write_exits-requires-2 t c =
    held_stand c.args.tables.now.classes.now (view_stmt c.args.body.now) _ _ _
    (c.deref-2.ensures.value ∙ from_none _ _ _ c.in_ok-emit_stmt.ensures.held c.new-exits.ensures.items)
    (omega (
      arith,
      c.in_ok-emit_stmt.ensures.len,
      c.in_ok-emit_stmt-2.ensures.len,
      c.in_ok-put.ensures.len,
      c.write_exits.ensures.len,
      stmt_above c.args.tables.now.classes.now (view_stmt c.args.step.now) (vec_len c.emit_stmt.new.code),
    ))

pub emit_repeat-write_exits-requires : goal.emit_repeat-write_exits-requires
emit_repeat-write_exits-requires t c =
    held_stand c.args.tables.now.classes.now (view_stmt c.args.body.now) _ _ _
    (c.deref.ensures.value ∙ from_none _ _ _ c.in_ok-emit_stmt.ensures.held c.new-exits.ensures.items)
    (omega (arith, c.in_ok-emit_stmt.ensures.len, c.in_ok-put_fewer.ensures.len, c.in_ok-put-2.ensures.len))
