use Rattle.std.proofs.lemmas.Result.{err_from_is_err_and}
use Rattle.parse_exprs.specs.Machine.{chucks, simple_end}
use Rattle.parse_exprs.specs.Operands.{operand_from}
use Rattle.ck_parser.proofs.MadeFor.{behind_operand, operand_of_start}
use Rattle.ck_parser.proofs.MadeStmt.{stops_in, then_inside, then_reads}
use Rattle.parse_exprs.proofs.Steps.{onward, inside}
use Rattle.ck_syntax.specs.View.{view_expr, view_stmt}
use Rattle.ck_parser.proofs.plain_stmt.for_start.Goals as goal

pub returns-in_err-first-clause-reads : goal.returns-in_err-first-clause-reads
returns-in_err-first-clause-reads c =
    let p = err_from_is_err_and c.from_residual-in_err-first.result
    c.from_residual-in_err-first.ensures.1 in
    rw (p.1, p.2) (stops_in _ (λ h. operand_from c.args.depth h)
    (λ k. behind_operand c.args.depth k) c.args.tokens.now c.args.tokens.now _
    (operand_of_start c.args.tokens.now c.args.depth c.in_default.ensures.token)
    c.in_err-first.ensures.reads)

pub returns-in-Declaration-clause-reads : goal.returns-in-Declaration-clause-reads
returns-in-Declaration-clause-reads c = then_reads _ _ _ _ _ _ _
    (onward (operand_of_start c.args.tokens.now c.args.depth c.in_default.ensures.token)
    (inside (λ k. behind_operand c.args.depth k)
    (rw c.in-Declaration.is at c.in_ok-first.ensures.reads))) c.declared_start.ensures.reads

pub returns-in_err-stmt-in-Value-clause-reads : goal.returns-in_err-stmt-in-Value-clause-reads
returns-in_err-stmt-in-Value-clause-reads c =
    let p = err_from_is_err_and c.from_residual-in_err-stmt-in-Value.result
    c.from_residual-in_err-stmt-in-Value.ensures.1 in
    rw (p.1, p.2) (stops_in _
    (λ k. chucks c.in-Value.at (view_expr c.in-Value.expr.value) (simple_end c.args.depth k))
    (λ h. h.stmt) c.args.tokens.now c.in_ok-first.behind.now _
    (onward (operand_of_start c.args.tokens.now c.args.depth c.in_default.ensures.token)
    (inside (λ k. behind_operand c.args.depth k)
    (rw c.in-Value.is at c.in_ok-first.ensures.reads))) c.in_err-stmt-in-Value.ensures.reads)

pub returns-in_ok-stmt-in-Value-clause-reads : goal.returns-in_ok-stmt-in-Value-clause-reads
returns-in_ok-stmt-in-Value-clause-reads c = then_inside _
    (λ k. chucks c.in-Value.at (view_expr c.in-Value.expr.value) (simple_end c.args.depth k))
    (λ k. k (view_stmt c.in_ok-stmt-in-Value.stmt.value)) (λ h. h.stmt) c.args.tokens.now
    c.in_ok-first.behind.now c.in_ok-stmt-in-Value.rest.now
    (onward (operand_of_start c.args.tokens.now c.args.depth c.in_default.ensures.token)
    (inside (λ k. behind_operand c.args.depth k)
    (rw c.in-Value.is at c.in_ok-first.ensures.reads))) c.in_ok-stmt-in-Value.ensures.reads
