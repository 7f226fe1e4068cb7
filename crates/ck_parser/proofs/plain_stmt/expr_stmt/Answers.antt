use Rattle.std.proofs.lemmas.Result.{err_from_is_err_and}
use Rattle.parse_exprs.specs.Operands.{operand_from}
use Rattle.ck_parser.specs.Statements.{behind_first}
use Rattle.ck_parser.proofs.MadeStmt.{then_reads, stops_in, made_empty, first_operand_of}
use Rattle.parse_exprs.proofs.Steps.{onward, inside}
use Rattle.ck_parser.proofs.plain_stmt.expr_stmt.Goals as goal

pub returns-in-Some-clause-reads : goal.returns-in-Some-clause-reads
returns-in-Some-clause-reads c = rw c.in_ok-node.ensures
    (made_empty c.args.depth _ c.in-Some.ensures.token c.next_line-line.ensures c.requires)

pub returns-in_err-first-clause-reads : goal.returns-in_err-first-clause-reads
returns-in_err-first-clause-reads c =
    let p = err_from_is_err_and c.from_residual-in_err-first.result
    c.from_residual-in_err-first.ensures.1 in
    rw (p.1, p.2) (stops_in _ (λ h. operand_from c.args.depth h)
    (λ k. behind_first c.args.depth k) c.args.tokens.now c.args.tokens.now _
    (first_operand_of c.args.tokens.now c.args.depth c.in_default.ensures.token)
    c.in_err-first.ensures.reads)

pub returns-in-Declaration-clause-reads : goal.returns-in-Declaration-clause-reads
returns-in-Declaration-clause-reads c = then_reads _ _ _ _ _ _ _
    (onward (first_operand_of c.args.tokens.now c.args.depth c.in_default.ensures.token)
    (inside (λ k. behind_first c.args.depth k)
    (rw c.in-Declaration.is at c.in_ok-first.ensures.reads))) c.declare_stmt.ensures.reads

pub returns-in-Value-clause-reads : goal.returns-in-Value-clause-reads
returns-in-Value-clause-reads c = then_reads _ _ _ _ _ _ _
    (onward (first_operand_of c.args.tokens.now c.args.depth c.in_default.ensures.token)
    (inside (λ k. behind_first c.args.depth k)
    (rw c.in-Value.is at c.in_ok-first.ensures.reads))) c.simple_stmt.ensures.reads
