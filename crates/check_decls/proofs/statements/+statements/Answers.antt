use Rattle.std.proofs.Common.{rules, ◌≡◌, ◌∙◌, ap, sym, subst, arith}
use Rattle.ck_syntax.specs.declared.stmt.LoopItem.{LoopItem}
use Rattle.ck_syntax.specs.declared.stmt.Stmt.{Stmt}
use Rattle.ck_syntax.specs.declared.stmt.StmtKind.TheViews.{the_lemmas}
use Rattle.ck_syntax.specs.Tree.{no_stmts}
use Rattle.ck_syntax.specs.View.{stmts_of}
use Rattle.type_table.specs.Answer.{Answer, Fault, gives, refused}
use Rattle.type_table.proofs.Walks.{on, ran_more, ran_all, ran_fault}
use Rattle.type_table.proofs.Weights.{weight_next}
use Rattle.program_laws.specs.Statements.{Stated, none_stated, statements}
use Rattle.check_decls.specs.Outcomes.{IsRefused}
use Rattle.check_decls.specs.StatementTyping.{for_each}
use Rattle.check_decls.specs.View.{all_stated}
use Rattle.check_decls.proofs.StatementWalks.{block_is, block_size, each_is, one_statement}
use Rattle.check_decls.proofs.StatementWalks.{one_more_statement, statements_run}
use Rattle.check_decls.proofs.Weights.{one_stmt, stmts_weigh}
use Rattle.check_decls.proofs.statements.+statements.Goals as goal

pub statement-returns-in-Block-clause-stated : goal.statement-returns-in-Block-clause-stated
statement-returns-in-Block-clause-stated t c =
    let is =
    block_is c.args.table.now c.args.around c.args.scope.now c.args.s.now _ c.in-Block.is in
    search (rules, is)

pub statement-returns-in-Block-clause-refused : goal.statement-returns-in-Block-clause-refused
statement-returns-in-Block-clause-refused t c =
    let is =
    block_is c.args.table.now c.args.around c.args.scope.now c.args.s.now _ c.in-Block.is in
    search (rules, is)

pub statement-returns-in-ForEach-clause-refused : goal.statement-returns-in-ForEach-clause-refused
statement-returns-in-ForEach-clause-refused t c =
    let each : LoopItem → Stmt → Answer Stated =
    λ item body. for_each c.args.table.now c.args.around c.args.scope.now c.args.s.now.line item
    c.in-ForEach.array body in
    let is =
    each_is c.args.table.now c.args.around c.args.scope.now c.args.s.now _ _ _ c.in-ForEach.is
    ∙ ap (λ item. each item c.in-ForEach.body.value) (sym c.deref-in-ForEach.ensures)
    ∙ ap (each c.deref-in-ForEach.result.now) (sym c.deref-in-ForEach-2.ensures) in
    subst (λ a. IsRefused c.for_each.result a) (sym is) c.for_each.ensures.refused

pub statements-returns-in_err-statement-clause-refused :
    goal.statements-returns-in_err-statement-clause-refused
statements-returns-in_err-statement-clause-refused t c =
    let so_far = all_stated c.loop-s.statements.items c.loop-s.scope in
    let stop : (why : Fault)
    → one_statement c.args.table.now c.args.around so_far c.s-item.result ≡ refused why
    → statements c.args.table.now c.args.around c.args.scope.now
    (stmts_of no_stmts c.args.all.now) ≡ refused why =
    λ why is. statements_run c.args.table.now c.args.around c.args.scope.now no_stmts c.args.all.now
    ∙ ran_fault (one_statement c.args.table.now c.args.around)
    (gives (none_stated c.args.scope.now)) c.args.all.now c.loop-s.s-index so_far
    c.s-item.result why c.loop-s-test.true c.s-item.is is c.loop-s.invariant.so_far in
    search (rules, stop)

pub statements-returns-clause-stated : goal.statements-returns-clause-stated
statements-returns-clause-stated t c =
    let all : statements c.args.table.now c.args.around c.args.scope.now
    (stmts_of no_stmts c.args.all.now)
    ≡ gives (all_stated c.loop-s.statements.items c.loop-s.scope) =
    statements_run c.args.table.now c.args.around c.args.scope.now no_stmts c.args.all.now
    ∙ ran_all (on (one_statement c.args.table.now c.args.around))
    (gives (none_stated c.args.scope.now)) c.args.all.now c.loop-s.s-index
    (gives (all_stated c.loop-s.statements.items c.loop-s.scope)) c.loop-s-test.false
    c.loop-s.invariant.so_far in
    search (rules, all)

pub statements-statement-requires : goal.statements-statement-requires
statements-statement-requires t c = (
  search (rules, the_lemmas),
  omega (
    arith,
    stmts_weigh c.args.all.now,
    weight_next one_stmt c.args.all.now c.loop-s.s-index
        c.s-item.result c.loop-s-test.true c.s-item.is,
  ),
)

pub statements-returns-in_err-statement-clause-grown : goal.statements-returns-in_err-statement-clause-grown
statements-returns-in_err-statement-clause-grown t c =
    omega (
      arith,
      stmts_weigh c.args.all.now,
      weight_next one_stmt c.args.all.now c.loop-s.s-index
          c.s-item.result c.loop-s-test.true c.s-item.is,
    )

pub statements-returns-in_err-push_statement-clause-grown : goal.statements-returns-in_err-push_statement-clause-grown
statements-returns-in_err-push_statement-clause-grown t c =
    omega (
      arith,
      stmts_weigh c.args.all.now,
      weight_next one_stmt c.args.all.now c.loop-s.s-index
          c.s-item.result c.loop-s-test.true c.s-item.is,
    )

pub statements-returns-clause-grown : goal.statements-returns-clause-grown
statements-returns-clause-grown t c =
    omega (arith, stmts_weigh c.args.all.now)

pub statements-loop-s-preserved : goal.statements-loop-s-preserved
statements-loop-s-preserved t c =
    record {
      so_far =
          ran_more (on (one_statement c.args.table.now c.args.around))
          (gives (none_stated c.args.scope.now)) c.args.all.now c.loop-s.s-index
          (gives (all_stated c.loop-s.statements.items c.loop-s.scope)) c.s-item.result
          (gives (all_stated c.push_statement.new.statements.items c.statement.new.scope))
          c.loop-s-test.true c.s-item.is
          (one_more_statement c.args.table.now c.loop-s.statements.items
          c.push_statement.new.statements.items _ c.loop-s.scope c.statement.new.scope
          c.in_ok-push_statement.ensures.items c.args.around c.s-item.result
          c.in_ok-statement.ensures.stated)
          c.loop-s.invariant.so_far;
      left =
          omega (
            arith,
            weight_next one_stmt c.args.all.now c.loop-s.s-index c.s-item.result
                c.loop-s-test.true c.s-item.is,
          );
    }

pub statement-block-requires : goal.statement-block-requires
statement-block-requires t c =
    let is = block_size c.args.s.now _ c.in-Block.is in
    (search (rules, the_lemmas), grind (arith, is))

pub statement-returns-in-Block-clause-grown : goal.statement-returns-in-Block-clause-grown
statement-returns-in-Block-clause-grown t c =
    let is = block_size c.args.s.now _ c.in-Block.is in
    grind (arith, is)
