use Rattle.std.proofs.Common.{rules, ◌≡◌, ◌∙◌, arith}
use Rattle.ck_syntax.specs.Tree.{no_declrs}
use Rattle.ck_syntax.specs.View.{declrs_of}
use Rattle.type_table.specs.Answer.{Fault, gives, refused}
use Rattle.type_table.proofs.Walks.{on, ran_more, ran_all, ran_fault}
use Rattle.type_table.proofs.Weights.{weight_next}
use Rattle.program_laws.specs.Statements.{none_stated, declarations}
use Rattle.check_decls.specs.View.{all_stated}
use Rattle.check_decls.proofs.StatementWalks.{one_declaration, one_more_declaration, declarations_run}
use Rattle.type_table.proofs.Weights.{one_declr, declrs_weigh}
use Rattle.check_decls.proofs.simple.declarations.Goals as goal

pub returns-in_err-value-clause-refused : goal.returns-in_err-value-clause-refused
returns-in_err-value-clause-refused c =
    let so_far = all_stated c.loop-declarator.statements.items c.loop-declarator.scope in
    let stop : (why : Fault)
    → one_declaration c.args.table.now c.args.line c.args.head.now so_far
    c.declarator-item.result ≡ refused why
    → declarations c.args.table.now c.args.scope.now c.args.line c.args.head.now
    (declrs_of no_declrs c.args.declarators.now) ≡ refused why =
    λ why is. declarations_run c.args.table.now c.args.scope.now c.args.line c.args.head.now
    no_declrs c.args.declarators.now
    ∙ ran_fault (one_declaration c.args.table.now c.args.line c.args.head.now)
    (gives (none_stated c.args.scope.now)) c.args.declarators.now
    c.loop-declarator.declarator-index so_far c.declarator-item.result why
    c.loop-declarator-test.true c.declarator-item.is is c.loop-declarator.invariant.so_far in
    search (rules, stop)

pub returns-clause-stated : goal.returns-clause-stated
returns-clause-stated c =
    let all : declarations c.args.table.now c.args.scope.now c.args.line c.args.head.now
    (declrs_of no_declrs c.args.declarators.now)
    ≡ gives (all_stated c.loop-declarator.statements.items c.loop-declarator.scope) =
    declarations_run c.args.table.now c.args.scope.now c.args.line c.args.head.now no_declrs
    c.args.declarators.now
    ∙ ran_all (on (one_declaration c.args.table.now c.args.line c.args.head.now))
    (gives (none_stated c.args.scope.now)) c.args.declarators.now
    c.loop-declarator.declarator-index
    (gives (all_stated c.loop-declarator.statements.items c.loop-declarator.scope))
    c.loop-declarator-test.false c.loop-declarator.invariant.so_far in
    search (rules, all)

pub declaration-requires : goal.declaration-requires
declaration-requires c =
    record {
      room =
          omega (
            arith,
            declrs_weigh c.args.declarators.now,
            weight_next one_declr c.args.declarators.now c.loop-declarator.declarator-index
                c.declarator-item.result c.loop-declarator-test.true c.declarator-item.is,
          );
    }

pub returns-in_err-value-clause-grown : goal.returns-in_err-value-clause-grown
returns-in_err-value-clause-grown c =
    omega (
      arith,
      declrs_weigh c.args.declarators.now,
      weight_next one_declr c.args.declarators.now c.loop-declarator.declarator-index
          c.declarator-item.result c.loop-declarator-test.true c.declarator-item.is,
    )

pub returns-in_err-push-clause-grown : goal.returns-in_err-push-clause-grown
returns-in_err-push-clause-grown c =
    omega (
      arith,
      declrs_weigh c.args.declarators.now,
      weight_next one_declr c.args.declarators.now c.loop-declarator.declarator-index
          c.declarator-item.result c.loop-declarator-test.true c.declarator-item.is,
    )

pub returns-clause-grown : goal.returns-clause-grown
returns-clause-grown c =
    omega (arith, declrs_weigh c.args.declarators.now)

pub loop-declarator-preserved : goal.loop-declarator-preserved
loop-declarator-preserved c =
    record {
      so_far =
          ran_more (on (one_declaration c.args.table.now c.args.line c.args.head.now))
          (gives (none_stated c.args.scope.now)) c.args.declarators.now
          c.loop-declarator.declarator-index
          (gives (all_stated c.loop-declarator.statements.items c.loop-declarator.scope))
          c.declarator-item.result
          (gives (all_stated c.push.new.items.items c.declaration.new.scope))
          c.loop-declarator-test.true c.declarator-item.is
          (one_more_declaration c.args.table.now c.loop-declarator.statements.items
          c.push.new.items.items c.simple.result c.loop-declarator.scope c.declaration.new.scope
          c.in_ok-push.ensures.items c.args.line c.args.head.now c.declarator-item.result
          c.in_ok-value.value c.in_ok-value.ensures.typed c.simple.ensures)
          c.loop-declarator.invariant.so_far;
      left =
          omega (
            arith,
            weight_next one_declr c.args.declarators.now
                c.loop-declarator.declarator-index c.declarator-item.result
                c.loop-declarator-test.true c.declarator-item.is,
          );
    }
