use Rattle.std.proofs.Common.{◌≡◌, ◌++◌, ◌+◌, ◌*◌, max, drop, vec_len}
use Rattle.ck_typed.specs.declared.stmt.TypedStmt.{size-TypedStmt}
use Rattle.ck_scheme.specs.Scheme.{block_end, block_code}
use Rattle.ck_typed.specs.View.{stmts_of}
use Rattle.emit_code.specs.Exits.{all_exits_of}
use Rattle.emit_code.proofs.stmt.+stmts.Given as goal

abbrev pub invariant-emit_block-loop-t : goal.invariant-emit_block-loop-t
invariant-emit_block-loop-t l = record {
  len : block_end l.tables.classes.now (vec_len l.code) (stmts_of (drop l.t-index l.all))
      ≡ block_end l.tables.classes.now (vec_len l.initial.code) (stmts_of l.all);
  code : l.code.items
      ++ block_code l.tables.classes.now l.tables.texts.now 0 0 (vec_len l.code) (stmts_of (drop l.t-index l.all))
      ≡ l.initial.code.items
      ++ block_code l.tables.classes.now l.tables.texts.now 0 0 (vec_len l.initial.code) (stmts_of l.all);
  held : l.held.items
      ++ all_exits_of l.tables.classes.now (vec_len l.code) (stmts_of (drop l.t-index l.all))
      ≡ l.initial.held.items
      ++ all_exits_of l.tables.classes.now (vec_len l.initial.code) (stmts_of l.all);
}

abbrev pub decreases-emit_stmt : goal.decreases-emit_stmt
decreases-emit_stmt l = 4 * size-TypedStmt l.t.now

abbrev pub decreases-emit_block : goal.decreases-emit_block
decreases-emit_block l = 4 * goal.size-emit_block l + 2

abbrev pub decreases-emit_if : goal.decreases-emit_if
decreases-emit_if l = 4 * max (size-TypedStmt l.then.now) (size-TypedStmt l.otherwise.now) + 2

abbrev pub decreases-emit_while : goal.decreases-emit_while
decreases-emit_while l = 4 * size-TypedStmt l.body.now + 2

abbrev pub decreases-emit_do : goal.decreases-emit_do
decreases-emit_do l = 4 * size-TypedStmt l.body.now + 2

abbrev pub decreases-emit_repeat : goal.decreases-emit_repeat
decreases-emit_repeat l = 4 * size-TypedStmt l.body.now + 2

abbrev pub decreases-emit_round : goal.decreases-emit_round
decreases-emit_round l = 4 * max (size-TypedStmt l.step.now) (size-TypedStmt l.body.now) + 2

abbrev pub decreases-emit_for : goal.decreases-emit_for
decreases-emit_for l =
    4 * max (size-TypedStmt l.start.now)
    (max (size-TypedStmt l.step.now) (size-TypedStmt l.body.now)) + 3

abbrev pub decreases-emit_for_ever : goal.decreases-emit_for_ever
decreases-emit_for_ever l =
    4 * max (size-TypedStmt l.start.now)
    (max (size-TypedStmt l.step.now) (size-TypedStmt l.body.now)) + 3
