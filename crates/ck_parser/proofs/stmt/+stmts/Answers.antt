use Rattle.ck_parser.proofs.MadeFor.{array_fault, body_fault, deep_for, made_array, made_body, made_rest, made_start, rest_fault, start_fault}
use Rattle.std.proofs.Common.{refl, sym, ◌∙◌, arith, suc}
use Rattle.std.proofs.lemmas.Result.{err_from_is_err_and}
use Rattle.ck_lexer.specs.declared.mark.Mark.TheVariants as m
use Rattle.ck_parser.specs.declared.stmt_node.LoopWord.TheVariants as loop_word
use Rattle.parse_exprs.specs.Machine.{sign, stmts, a_test, a_stmt}
use Rattle.ck_parser.specs.Statements.{a_for_start, behind_start}
use Rattle.ck_parser.specs.Statements.{tested, after_block, after_do, after_for, after_if}
use Rattle.ck_parser.specs.Statements.{after_loop, loop_of, do_end}
use Rattle.parse_exprs.specs.Tokens.{a_mark, opens_block, opens_if, opens_while, opens_until}
use Rattle.parse_exprs.specs.Tokens.{opens_repeat, opens_do, opens_for}
use Rattle.ck_parser.proofs.MadeStmt.{here, then_reads, stops_in, stmt_first, no_stmt, deep_stmt}
use Rattle.ck_parser.proofs.MadeStmt.{deep_stmts, stmts_over, next_stmt, next_fault, stmt_deeper}
use Rattle.ck_parser.proofs.MadeStmt.{fault_deeper, stmts_deeper, if_rest, with_else, in_else}
use Rattle.ck_parser.proofs.MadeStmt.{no_else}
use Rattle.parse_exprs.proofs.Steps.{onward, inside, stops_inside, stops_onward, past_sign, no_sign}
use Rattle.ck_syntax.specs.Tree as t
use Rattle.ck_syntax.specs.View.{view_expr, view_stmt, stmts_of}
use Rattle.ck_syntax.proofs.Views.{stmts_of-append}
use Rattle.ck_parser.proofs.stmt.+stmts.Goals as goal

pub stmt-returns-in-Block-clause-reads : goal.stmt-returns-in-Block-clause-reads
stmt-returns-in-Block-clause-reads r c = then_reads _ _ _ _ _ _ _
    (stmt_first opens_block (λ k. after_block c.args.depth c.in-Some.token.now.line k)
    c.args.depth c.in-Some.ensures.token (rw c.in-Block.is at c.opening_of.ensures) c.requires
    (λ k. refl)) c.block.ensures.reads

pub stmt-returns-in-If-clause-reads : goal.stmt-returns-in-If-clause-reads
stmt-returns-in-If-clause-reads r c = then_reads _ _ _ _ _ _ _
    (stmt_first opens_if (λ k. after_if c.args.depth c.in-Some.token.now.line k) c.args.depth
    c.in-Some.ensures.token (rw c.in-If.is at c.opening_of.ensures) c.requires (λ k. refl))
    c.if_stmt.ensures.reads

pub stmt-returns-in-While-clause-reads : goal.stmt-returns-in-While-clause-reads
stmt-returns-in-While-clause-reads r c = then_reads _ _ _ _ _ _ _
    (stmt_first opens_while (λ k. after_loop loop_word.While c.args.depth
    c.in-Some.token.now.line k) c.args.depth c.in-Some.ensures.token
    (rw c.in-While.is at c.opening_of.ensures) c.requires (λ k. refl)) c.loop_stmt.ensures.reads

pub stmt-returns-in-Until-clause-reads : goal.stmt-returns-in-Until-clause-reads
stmt-returns-in-Until-clause-reads r c = then_reads _ _ _ _ _ _ _
    (stmt_first opens_until (λ k. after_loop loop_word.Until c.args.depth
    c.in-Some.token.now.line k) c.args.depth c.in-Some.ensures.token
    (rw c.in-Until.is at c.opening_of.ensures) c.requires (λ k. refl))
    c.loop_stmt-in-Until.ensures.reads

pub stmt-returns-in-Repeat-clause-reads : goal.stmt-returns-in-Repeat-clause-reads
stmt-returns-in-Repeat-clause-reads r c = then_reads _ _ _ _ _ _ _
    (stmt_first opens_repeat (λ k. after_loop loop_word.Repeat c.args.depth
    c.in-Some.token.now.line k) c.args.depth c.in-Some.ensures.token
    (rw c.in-Repeat.is at c.opening_of.ensures) c.requires (λ k. refl))
    c.loop_stmt-in-Repeat.ensures.reads

pub stmt-returns-in-Do-clause-reads : goal.stmt-returns-in-Do-clause-reads
stmt-returns-in-Do-clause-reads r c = then_reads _ _ _ _ _ _ _
    (stmt_first opens_do (λ k. after_do c.args.depth c.in-Some.token.now.line k) c.args.depth
    c.in-Some.ensures.token (rw c.in-Do.is at c.opening_of.ensures) c.requires (λ k. refl))
    c.do_stmt.ensures.reads

pub stmt-returns-in-For-clause-reads : goal.stmt-returns-in-For-clause-reads
stmt-returns-in-For-clause-reads r c = then_reads _ _ _ _ _ _ _
    (stmt_first opens_for (λ k. after_for c.args.depth c.in-Some.token.now.line k) c.args.depth
    c.in-Some.ensures.token (rw c.in-For.is at c.opening_of.ensures) c.requires (λ k. refl))
    c.for_stmt.ensures.reads

pub stmt-returns-in_default-opening_of-clause-reads :
    goal.stmt-returns-in_default-opening_of-clause-reads
stmt-returns-in_default-opening_of-clause-reads r c = c.plain_stmt.ensures.reads

pub inner_stmt-returns-then-not-begins_stmt-clause-reads :
    goal.inner_stmt-returns-then-not-begins_stmt-clause-reads
inner_stmt-returns-then-not-begins_stmt-clause-reads r c = no_stmt c.args.tokens.now
    (suc c.args.depth) _ refl (sym c.begins_stmt.ensures ∙ c.if-not-begins_stmt.true)

pub inner_stmt-returns-in_err-inside-clause-reads :
    goal.inner_stmt-returns-in_err-inside-clause-reads
inner_stmt-returns-in_err-inside-clause-reads r c =
    let p = err_from_is_err_and c.from_residual.result c.from_residual.ensures.1 in
    rw (p.1, p.2) (deep_stmt c.args.tokens.now c.args.depth _
    (sym c.begins_stmt.ensures ∙ c.if-not-begins_stmt.false) c.in_err-inside.ensures)

pub inner_stmt-returns-in_err-whole-clause-reads : goal.inner_stmt-returns-in_err-whole-clause-reads
inner_stmt-returns-in_err-whole-clause-reads r c =
    let p = err_from_is_err_and c.from_residual-in_err-whole.result
    c.from_residual-in_err-whole.ensures.1 in
    rw (p.1, p.2) (fault_deeper c.args.tokens.now c.args.depth _ _ c.in_ok-inside.ensures.0
    c.in_err-whole.ensures.reads)

pub inner_stmt-returns-clause-reads : goal.inner_stmt-returns-clause-reads
inner_stmt-returns-clause-reads r c =
    stmt_deeper c.args.depth _ c.in_ok-inside.ensures.0 c.in_ok-whole.ensures.reads

pub tested-returns-in_err-test-clause-reads : goal.tested-returns-in_err-test-clause-reads
tested-returns-in_err-test-clause-reads r c =
    let p = err_from_is_err_and c.from_residual.result c.from_residual.ensures.1 in
    rw (p.1, p.2) (stops_inside (λ k. a_test c.args.depth k) c.args.tokens.now
    (λ k e. a_stmt (suc c.args.depth) (k e)) _ c.in_err-test.ensures.reads)

pub tested-returns-in_err-body-clause-reads : goal.tested-returns-in_err-body-clause-reads
tested-returns-in_err-body-clause-reads r c =
    let p = err_from_is_err_and c.from_residual-in_err-body.result
    c.from_residual-in_err-body.ensures.1 in
    rw (p.1, p.2) (stops_in _ (λ k. a_stmt (suc c.args.depth) k)
    (λ k. k (view_expr c.in_ok-test.test.value)) c.args.tokens.now c.in_ok-test.behind.now _
    (inside (λ k e. a_stmt (suc c.args.depth) (k e)) c.in_ok-test.ensures.reads)
    c.in_err-body.ensures.reads)

pub tested-returns-clause-reads : goal.tested-returns-clause-reads
tested-returns-clause-reads r c = onward (inside (λ k e. a_stmt (suc c.args.depth) (k e))
    c.in_ok-test.ensures.reads)
    (inside (λ k. k (view_expr c.in_ok-test.test.value)) c.in_ok-body.ensures.reads)

pub if_stmt-returns-in_err-test-clause-reads : goal.if_stmt-returns-in_err-test-clause-reads
if_stmt-returns-in_err-test-clause-reads r c =
    let p = err_from_is_err_and c.from_residual.result c.from_residual.ensures.1 in
    rw (p.1, p.2) (stops_inside (λ k. tested c.args.depth k) c.args.tokens.now
    (λ k. if_rest c.args.depth c.args.line k) _ c.in_err-test.ensures.reads)

pub if_stmt-returns-in_err-otherwise-clause-reads :
    goal.if_stmt-returns-in_err-otherwise-clause-reads
if_stmt-returns-in_err-otherwise-clause-reads r c =
    let p = err_from_is_err_and c.from_residual-in_err-otherwise.result
    c.from_residual-in_err-otherwise.ensures.1 in
    rw (p.1, p.2) (stops_in _ (λ k. a_stmt (suc c.args.depth) k)
    (λ k. with_else c.args.line (view_expr c.in_ok-test.test.value)
    (view_stmt c.in_ok-test.then.value) k) c.args.tokens.now c.in-Some.behind.now _
    (in_else c.args.depth c.args.line c.in_ok-test.ensures.reads c.in-Some.ensures.token
    c.requires) c.in_err-otherwise.ensures.reads)

pub if_stmt-returns-in_ok-if_else-clause-reads : goal.if_stmt-returns-in_ok-if_else-clause-reads
if_stmt-returns-in_ok-if_else-clause-reads r c = rw c.in_ok-if_else.ensures
    (onward (in_else c.args.depth c.args.line c.in_ok-test.ensures.reads c.in-Some.ensures.token
    c.requires) (inside (λ k. with_else c.args.line (view_expr c.in_ok-test.test.value)
    (view_stmt c.in_ok-test.then.value) k) c.in_ok-otherwise.ensures.reads))

pub if_stmt-returns-in_ok-if_then-clause-reads : goal.if_stmt-returns-in_ok-if_then-clause-reads
if_stmt-returns-in_ok-if_then-clause-reads r c = rw c.in_ok-if_then.ensures
    (no_else c.args.depth c.args.line c.in_ok-test.ensures.reads c.in_default.ensures.token)

pub loop_stmt-returns-in_err-test-clause-reads : goal.loop_stmt-returns-in_err-test-clause-reads
loop_stmt-returns-in_err-test-clause-reads r c =
    let p = err_from_is_err_and c.from_residual.result c.from_residual.ensures.1 in
    rw (p.1, p.2) (stops_inside (λ k. tested c.args.depth k) c.args.tokens.now
    (λ k e s. k (loop_of c.args.word c.args.line e s)) _ c.in_err-test.ensures.reads)

pub loop_stmt-returns-clause-reads : goal.loop_stmt-returns-clause-reads
loop_stmt-returns-clause-reads r c = rw c.in_ok-loop_before.ensures
    (inside (λ k e s. k (loop_of c.args.word c.args.line e s)) c.in_ok-test.ensures.reads)

pub do_stmt-returns-in_err-body-clause-reads : goal.do_stmt-returns-in_err-body-clause-reads
do_stmt-returns-in_err-body-clause-reads r c =
    let p = err_from_is_err_and c.from_residual.result c.from_residual.ensures.1 in
    rw (p.1, p.2) (stops_inside (λ k. a_stmt (suc c.args.depth) k) c.args.tokens.now
    (λ k s. do_end c.args.depth c.args.line s k) _ c.in_err-body.ensures.reads)

pub do_stmt-returns-clause-reads : goal.do_stmt-returns-clause-reads
do_stmt-returns-clause-reads r c = then_reads _ _ _ _ _ _ _
    (inside (λ k s. do_end c.args.depth c.args.line s k) c.in_ok-body.ensures.reads)
    c.do_end.ensures.reads

pub for_stmt-returns-in_err-open-clause-reads : goal.for_stmt-returns-in_err-open-clause-reads
for_stmt-returns-in_err-open-clause-reads r c =
    let p = err_from_is_err_and c.from_residual.result c.from_residual.ensures.1 in
    rw (p.1, p.2) (no_sign c.args.tokens.now (a_mark m.LeftParen) (suc c.args.depth)
    (λ k. a_for_start (suc c.args.depth) (behind_start c.args.depth c.args.line k)) _
    c.in_err-open.ensures.token)

pub for_stmt-returns-in_err-inside-clause-reads : goal.for_stmt-returns-in_err-inside-clause-reads
for_stmt-returns-in_err-inside-clause-reads r c =
    let p = err_from_is_err_and c.from_residual-in_err-inside.result
    c.from_residual-in_err-inside.ensures.1 in
    rw (p.1, p.2) (deep_for c.args.depth c.args.line _ c.in_ok-open.ensures.token
    c.in_err-inside.ensures)

pub for_stmt-returns-in_err-start-clause-reads : goal.for_stmt-returns-in_err-start-clause-reads
for_stmt-returns-in_err-start-clause-reads r c =
    let p = err_from_is_err_and c.from_residual-in_err-start.result
    c.from_residual-in_err-start.ensures.1 in
    let (q, i) = c.in_ok-inside.ensures in
    rw (p.1, p.2) (start_fault c.args.depth c.args.line _ _ c.in_ok-open.ensures.token q i
    c.in_err-start.ensures.reads)

pub for_stmt-returns-in_err-test-in-Stmt-clause-reads :
    goal.for_stmt-returns-in_err-test-in-Stmt-clause-reads
for_stmt-returns-in_err-test-in-Stmt-clause-reads r c =
    let p = err_from_is_err_and c.from_residual-in_err-test-in-Stmt.result
    c.from_residual-in_err-test-in-Stmt.ensures.1 in
    let (q, i) = c.in_ok-inside.ensures in
    rw (p.1, p.2) (rest_fault c.args.tokens.now c.in_ok-start.behind.now c.args.depth c.args.line
    _ _ c.in-Stmt.is (made_start _ c.args.depth c.args.line _ c.in_ok-open.ensures.token q i
    c.in_ok-start.ensures.reads) q c.in_err-test-in-Stmt.ensures.reads)

pub for_stmt-returns-in_err-body-in-Stmt-clause-reads :
    goal.for_stmt-returns-in_err-body-in-Stmt-clause-reads
for_stmt-returns-in_err-body-in-Stmt-clause-reads r c =
    let p = err_from_is_err_and c.from_residual-in_err-body-in-Stmt.result
    c.from_residual-in_err-body-in-Stmt.ensures.1 in
    let (q, i) = c.in_ok-inside.ensures in
    rw (p.1, p.2) (body_fault _ c.args.tokens.now c.in_ok-test-in-Stmt.close.now c.args.depth
    c.args.line _ (made_rest c.args.tokens.now c.in_ok-start.behind.now
    c.in_ok-test-in-Stmt.close.now c.args.depth c.args.line _ c.in-Stmt.is
    (made_start _ c.args.depth c.args.line _ c.in_ok-open.ensures.token q i
    c.in_ok-start.ensures.reads) q c.in_ok-test-in-Stmt.ensures.reads)
    c.in_err-body-in-Stmt.ensures.reads)

pub for_stmt-returns-in_ok-for_do-in-Stmt-clause-reads :
    goal.for_stmt-returns-in_ok-for_do-in-Stmt-clause-reads
for_stmt-returns-in_ok-for_do-in-Stmt-clause-reads r c =
    let (q, i) = c.in_ok-inside.ensures in
    made_body _ c.args.tokens.now c.in_ok-test-in-Stmt.close.now c.in_ok-body-in-Stmt.rest.now
    c.args.depth c.args.line (made_rest c.args.tokens.now c.in_ok-start.behind.now
    c.in_ok-test-in-Stmt.close.now c.args.depth c.args.line _ c.in-Stmt.is
    (made_start _ c.args.depth c.args.line _ c.in_ok-open.ensures.token q i
    c.in_ok-start.ensures.reads) q c.in_ok-test-in-Stmt.ensures.reads)
    c.in_ok-body-in-Stmt.ensures.reads c.in_ok-for_do-in-Stmt.ensures

pub for_stmt-returns-in_err-array-in-Item-clause-reads :
    goal.for_stmt-returns-in_err-array-in-Item-clause-reads
for_stmt-returns-in_err-array-in-Item-clause-reads r c =
    let p = err_from_is_err_and c.from_residual-in_err-array-in-Item.result
    c.from_residual-in_err-array-in-Item.ensures.1 in
    let (q, i) = c.in_ok-inside.ensures in
    rw (p.1, p.2) (array_fault c.args.tokens.now c.in_ok-start.behind.now c.args.depth c.args.line
    _ _ c.in-Item.is (made_start _ c.args.depth c.args.line _ c.in_ok-open.ensures.token q i
    c.in_ok-start.ensures.reads) q c.in_err-array-in-Item.ensures.reads)

pub for_stmt-returns-in_err-body-in-Item-clause-reads :
    goal.for_stmt-returns-in_err-body-in-Item-clause-reads
for_stmt-returns-in_err-body-in-Item-clause-reads r c =
    let p = err_from_is_err_and c.from_residual-in_err-body-in-Item.result
    c.from_residual-in_err-body-in-Item.ensures.1 in
    let (q, i) = c.in_ok-inside.ensures in
    rw (p.1, p.2) (body_fault _ c.args.tokens.now c.in_ok-array-in-Item.close.now c.args.depth
    c.args.line _ (made_array c.args.tokens.now c.in_ok-start.behind.now
    c.in_ok-array-in-Item.close.now c.args.depth c.args.line _ c.in-Item.is
    (made_start _ c.args.depth c.args.line _ c.in_ok-open.ensures.token q i
    c.in_ok-start.ensures.reads) q c.in_ok-array-in-Item.ensures.reads)
    c.in_err-body-in-Item.ensures.reads)

pub for_stmt-returns-in_ok-for_each-in-Item-clause-reads :
    goal.for_stmt-returns-in_ok-for_each-in-Item-clause-reads
for_stmt-returns-in_ok-for_each-in-Item-clause-reads r c =
    let (q, i) = c.in_ok-inside.ensures in
    made_body _ c.args.tokens.now c.in_ok-array-in-Item.close.now c.in_ok-body-in-Item.rest.now
    c.args.depth c.args.line (made_array c.args.tokens.now c.in_ok-start.behind.now
    c.in_ok-array-in-Item.close.now c.args.depth c.args.line _ c.in-Item.is
    (made_start _ c.args.depth c.args.line _ c.in_ok-open.ensures.token q i
    c.in_ok-start.ensures.reads) q c.in_ok-array-in-Item.ensures.reads)
    c.in_ok-body-in-Item.ensures.reads c.in_ok-for_each-in-Item.ensures

pub block-returns-in_err-stmts-clause-reads : goal.block-returns-in_err-stmts-clause-reads
block-returns-in_err-stmts-clause-reads r c =
    let p = err_from_is_err_and c.from_residual.result c.from_residual.ensures.1 in
    rw (p.1, p.2) (stops_inside (λ k. stmts (suc c.args.depth) t.no_stmts k) c.args.tokens.now
    (λ k ss. sign c.args.depth (a_mark m.RightBrace) (k (t.block c.args.line ss))) _
    c.in_err-stmts.ensures.reads)

pub block-returns-in_err-rest-clause-reads : goal.block-returns-in_err-rest-clause-reads
block-returns-in_err-rest-clause-reads r c =
    let p = err_from_is_err_and c.from_residual-in_err-rest.result
    c.from_residual-in_err-rest.ensures.1 in
    rw (p.1, p.2) (stops_onward _ (inside (λ k ss.
    sign c.args.depth (a_mark m.RightBrace) (k (t.block c.args.line ss)))
    c.in_ok-stmts.ensures.reads) (no_sign c.in_ok-stmts.close.now (a_mark m.RightBrace)
    c.args.depth (λ k. k (t.block c.args.line (stmts_of t.no_stmts c.in_ok-stmts.stmts))) _
    c.in_err-rest.ensures.token))

pub block-returns-clause-reads : goal.block-returns-clause-reads
block-returns-clause-reads r c = rw c.in_ok-block.ensures
    (onward (inside (λ k ss. sign c.args.depth (a_mark m.RightBrace)
    (k (t.block c.args.line ss))) c.in_ok-stmts.ensures.reads)
    (past_sign (a_mark m.RightBrace) c.args.depth
    (λ k. k (t.block c.args.line (stmts_of t.no_stmts c.in_ok-stmts.stmts)))
    c.in_ok-rest.ensures.token c.requires))

pub inner_stmts-returns-in_err-inside-clause-reads :
    goal.inner_stmts-returns-in_err-inside-clause-reads
inner_stmts-returns-in_err-inside-clause-reads r c =
    let p = err_from_is_err_and c.from_residual.result c.from_residual.ensures.1 in
    rw (p.1, p.2) (deep_stmts c.args.tokens.now c.args.depth t.no_stmts _
    (sym c.begins_stmt.ensures ∙ c.if-begins_stmt.true) c.in_err-inside.ensures)

pub inner_stmts-returns-in_ok-inside-clause-reads :
    goal.inner_stmts-returns-in_ok-inside-clause-reads
inner_stmts-returns-in_ok-inside-clause-reads r c = stmts_deeper _ _ c.args.tokens.now
    c.args.depth _ _ c.in_ok-inside.ensures.0 c.stmts.ensures.reads

pub inner_stmts-returns-else-begins_stmt-clause-reads :
    goal.inner_stmts-returns-else-begins_stmt-clause-reads
inner_stmts-returns-else-begins_stmt-clause-reads r c = rw
    (c.from_vec.ensures, c.new.ensures.items)
    (stmts_over c.args.tokens.now (suc c.args.depth) t.no_stmts
    (sym c.begins_stmt.ensures ∙ c.if-begins_stmt.false))

pub stmts-loop-alloc-init : goal.stmts-loop-alloc-init
stmts-loop-alloc-init r c = (
  rw c.new-all.ensures.items
      (here (λ k. stmts c.args.depth t.no_stmts k) c.args.tokens.now),
  omega arith,
)

pub stmts-loop-alloc-preserved : goal.stmts-loop-alloc-preserved
stmts-loop-alloc-preserved r c = (
  rw (c.in_ok-push_boxed.ensures.items, stmts_of-append)
      (next_stmt c.args.tokens.now c.loop-alloc.rest.now c.in_ok-next.behind.now c.args.depth
      c.loop-alloc.invariant.0 (sym c.begins_stmt.ensures ∙ c.loop-alloc-test.true)
      c.in_ok-next.ensures.reads),
  omega (
    arith,
    c.loop-alloc.invariant.1,
    c.in_ok-next.ensures.fewer,
  ),
)

pub stmts-returns-in_err-next-clause-reads : goal.stmts-returns-in_err-next-clause-reads
stmts-returns-in_err-next-clause-reads r c =
    let p = err_from_is_err_and c.from_residual.result c.from_residual.ensures.1 in
    rw (p.1, p.2) (next_fault c.args.tokens.now c.loop-alloc.rest.now c.args.depth _
    c.loop-alloc.invariant.0 (sym c.begins_stmt.ensures ∙ c.loop-alloc-test.true)
    c.in_err-next.ensures.reads)

pub stmts-returns-clause-reads : goal.stmts-returns-clause-reads
stmts-returns-clause-reads r c = rw c.from_vec.ensures
    (onward c.loop-alloc.invariant.0 (stmts_over c.loop-alloc.rest.now c.args.depth _
    (sym c.begins_stmt.ensures ∙ c.loop-alloc-test.false)))
