use Rattle.std.proofs.Common.{◌≡◌, ℕ, ◌+◌, List, ◌++◌, drop, sym, subst, ap, ◌∙◌}
use Rattle.std.proofs.lemmas.Result.{on_ok_weaker}
use Rattle.ck_typed.specs.View.{view_expr, view_stmt, stmts_of}
use Rattle.ck_typed.specs.Tree.{Stmt}
use Rattle.ck_scheme.specs.Texts.{expr_texts, stmt_texts, stmts_texts, once_each}
use Rattle.code_texts.proofs.Trees.{once_each-append}
use Rattle.code_texts.proofs.Trees.{stmts_next}
use Rattle.code_texts.proofs.collect.+stmt_strings.Goals as goal

pub collect_block-loop-t-preserved : goal.collect_block-loop-t-preserved
collect_block-loop-t-preserved n c =
    let rest = stmts_texts (stmts_of (drop (c.loop-t.t-index + 1) c.args.all.now)) in
    ap (λ texts. once_each texts rest) c.in_ok-collect_stmt.ensures
    ∙ sym (stmts_next c.loop-t.texts c.args.all.now c.loop-t.t-index c.t-item.result
    c.loop-t-test.true c.t-item.is) ∙ c.loop-t.invariant

-- the strings of three parts, one after another
in_three : (before a b c t1 t2 t3 : List (List ℕ)) → t1 ≡ once_each before a
    → t2 ≡ once_each t1 b → t3 ≡ once_each t2 c → t3 ≡ once_each before (a ++ (b ++ c))
in_three before a b c t1 t2 t3 e1 e2 e3 =
    e3 ∙ ap (λ t. once_each t c) (e2 ∙ ap (λ t. once_each t b) e1)
    ∙ sym (once_each-append before a (b ++ c) ∙ once_each-append (once_each before a) b c)

-- a part's strings, where the part is another one's view
of_part : (before after : List (List ℕ)) (t u : Stmt) → t ≡ u
    → after ≡ once_each before (stmt_texts t) → after ≡ once_each before (stmt_texts u)
of_part before after t u same is = is ∙ ap (λ v. once_each before (stmt_texts v)) same

pub collect_stmt-returns-in_ok-collect_stmt-in-If : goal.collect_stmt-returns-in_ok-collect_stmt-in-If
collect_stmt-returns-in_ok-collect_stmt-in-If n c =
    on_ok_weaker c.collect_stmt-in-If.result
    (λ (last : c.collect_stmt-in-If.new.texts ≡ once_each c.collect_stmt.new.texts
    (stmt_texts (view_stmt c.deref-in-If.result.now))).
    subst (λ u. c.collect_stmt-in-If.new.texts ≡ once_each c.args.texts.now (stmt_texts (view_stmt u)))
    (sym c.in-If.is) (in_three c.args.texts.now (expr_texts (view_expr c.in-If.test))
    (stmt_texts (view_stmt c.in-If.then.value)) (stmt_texts (view_stmt c.in-If.otherwise.value))
    c.collect_expr.new.texts c.collect_stmt.new.texts c.collect_stmt-in-If.new.texts
    c.in_ok-collect_expr-in-If.ensures (of_part _ _ _ _ (ap view_stmt c.deref.ensures)
    c.in_ok-collect_stmt-in-If.ensures)
    (of_part _ _ _ _ (ap view_stmt c.deref-in-If.ensures) last))) c.collect_stmt-in-If.ensures

pub collect_stmt-returns-in_ok-collect_stmt-in-ForEver-2 : goal.collect_stmt-returns-in_ok-collect_stmt-in-ForEver-2
collect_stmt-returns-in_ok-collect_stmt-in-ForEver-2 n c =
    on_ok_weaker c.collect_stmt-in-ForEver-3.result
    (λ (last : c.collect_stmt-in-ForEver-3.new.texts ≡ once_each
    c.collect_stmt-in-ForEver-2.new.texts (stmt_texts (view_stmt c.deref-in-ForEver-3.result.now))).
    subst (λ u. c.collect_stmt-in-ForEver-3.new.texts ≡ once_each c.args.texts.now (stmt_texts (view_stmt u)))
    (sym c.in-ForEver.is) (in_three c.args.texts.now
    (stmt_texts (view_stmt c.in-ForEver.start.value))
    (stmt_texts (view_stmt c.in-ForEver.body.value))
    (stmt_texts (view_stmt c.in-ForEver.step.value)) c.collect_stmt-in-ForEver.new.texts
    c.collect_stmt-in-ForEver-2.new.texts c.collect_stmt-in-ForEver-3.new.texts
    (of_part _ _ _ _ (ap view_stmt c.deref-in-ForEver.ensures)
    c.in_ok-collect_stmt-in-ForEver.ensures)
    (of_part _ _ _ _ (ap view_stmt c.deref-in-ForEver-2.ensures)
    c.in_ok-collect_stmt-in-ForEver-2.ensures)
    (of_part _ _ _ _ (ap view_stmt c.deref-in-ForEver-3.ensures) last))) c.collect_stmt-in-ForEver-3.ensures

pub collect_stmt-returns-in_ok-collect_stmt-in-For-2 : goal.collect_stmt-returns-in_ok-collect_stmt-in-For-2
collect_stmt-returns-in_ok-collect_stmt-in-For-2 n c =
    on_ok_weaker c.collect_stmt-in-For-3.result
    (λ (last : c.collect_stmt-in-For-3.new.texts ≡ once_each c.collect_stmt-in-For-2.new.texts
    (stmt_texts (view_stmt c.deref-in-For-3.result.now))).
    subst (λ u. c.collect_stmt-in-For-3.new.texts ≡ once_each c.args.texts.now (stmt_texts (view_stmt u)))
    (sym c.in-For.is) (in_three c.collect_stmt-in-For.new.texts
    (expr_texts (view_expr c.in-For.test)) (stmt_texts (view_stmt c.in-For.body.value))
    (stmt_texts (view_stmt c.in-For.step.value)) c.collect_expr-in-For.new.texts
    c.collect_stmt-in-For-2.new.texts c.collect_stmt-in-For-3.new.texts
    c.in_ok-collect_expr-in-For.ensures (of_part _ _ _ _ (ap view_stmt c.deref-in-For-2.ensures)
    c.in_ok-collect_stmt-in-For-2.ensures)
    (of_part _ _ _ _ (ap view_stmt c.deref-in-For-3.ensures) last)
    ∙ ap (λ t. once_each t (expr_texts (view_expr c.in-For.test)
    ++ ((stmt_texts (view_stmt c.in-For.body.value))
    ++ (stmt_texts (view_stmt c.in-For.step.value)))))
    (of_part _ _ _ _ (ap view_stmt c.deref-in-For.ensures) c.in_ok-collect_stmt-in-For.ensures)
    ∙ sym (once_each-append c.args.texts.now (stmt_texts (view_stmt c.in-For.start.value))
    (expr_texts (view_expr c.in-For.test)
    ++ ((stmt_texts (view_stmt c.in-For.body.value))
    ++ (stmt_texts (view_stmt c.in-For.step.value))))))) c.collect_stmt-in-For-3.ensures
