use Rattle.std.proofs.Common.{rules, ◌≡◌, ◌∙◌, ◌+◌, ◌≤◌, arith}
use Rattle.ck_syntax.specs.declared.expr.Bracket.TheViews.{the_lemmas}
use Rattle.ck_syntax.specs.Size.{expr_size}
use Rattle.ck_syntax.specs.Tree.{no_exprs, no_brackets}
use Rattle.ck_syntax.specs.View.{view_expr, view_declr, exprs_of, brackets_of}
use Rattle.type_table.specs.Answer.{Fault, gives, refused}
use Rattle.first_walk.specs.Steps.{bracket_entered}
use Rattle.first_walk.specs.FirstWalk.{enter_exprs, enter_brackets}
use Rattle.type_table.proofs.Walks.{on, ran_more, ran_all, ran_fault}
use Rattle.type_table.proofs.Weights as weights
use Rattle.type_table.proofs.Weights.{weight_next, exprs_weigh, bracketed_more, brackets_weigh, array_size, call_size, new_size, new_with_size, declare_size}
use Rattle.first_walk.proofs.ExprWalks.{array_is, new_is, new_with_is, call_is, brackets_are, arguments_are, brackets_measure, arguments_measure, declare_is, one_expr, exprs_run, brackets_run}
use Rattle.first_walk.specs.Room.{entries, declared_by}
use Rattle.first_walk.proofs.Measures.{counts_entries, counts_declared}
use Rattle.first_walk.proofs.RoomFacts.{expr_grows, bracket_grows, behind_grows}
use Rattle.first_walk.proofs.expressions.+expressions.Goals as goal

pub enter_exprs-returns-in_err-enter_expr-clause-refused : goal.enter_exprs-returns-in_err-enter_expr-clause-refused
enter_exprs-returns-in_err-enter_expr-clause-refused t c =
    let stop : (why : Fault) → one_expr c.args.file c.args.owner c.loop-e.table c.e-item.result ≡ refused why
    → enter_exprs c.args.file c.args.owner c.args.table.now (exprs_of no_exprs c.args.all.now) ≡ refused why =
    λ why is. exprs_run c.args.file c.args.owner c.args.table.now no_exprs c.args.all.now
    ∙ ran_fault (one_expr c.args.file c.args.owner) (gives c.args.table.now) c.args.all.now c.loop-e.e-index
    c.loop-e.table c.e-item.result why c.loop-e-test.true c.e-item.is is c.loop-e.invariant.so_far in
    search (rules, stop)

pub enter_exprs-returns-clause-entered : goal.enter_exprs-returns-clause-entered
enter_exprs-returns-clause-entered t c =
    exprs_run c.args.file c.args.owner c.args.table.now no_exprs c.args.all.now
    ∙ ran_all (on (one_expr c.args.file c.args.owner)) (gives c.args.table.now) c.args.all.now c.loop-e.e-index
    (gives c.loop-e.table) c.loop-e-test.false c.loop-e.invariant.so_far

pub enter_brackets-returns-in_err-enter_bracket-clause-refused : goal.enter_brackets-returns-in_err-enter_bracket-clause-refused
enter_brackets-returns-in_err-enter_bracket-clause-refused t c =
    let stop : (why : Fault) → bracket_entered c.args.file c.args.owner c.loop-bracket.table c.bracket-item.result
    ≡ refused why → enter_brackets c.args.file c.args.owner c.args.table.now (brackets_of no_brackets c.args.all.now)
    ≡ refused why =
    λ why is. brackets_run c.args.file c.args.owner c.args.table.now no_brackets c.args.all.now
    ∙ ran_fault (bracket_entered c.args.file c.args.owner) (gives c.args.table.now) c.args.all.now
    c.loop-bracket.bracket-index c.loop-bracket.table c.bracket-item.result why c.loop-bracket-test.true
    c.bracket-item.is is c.loop-bracket.invariant.so_far in
    search (rules, stop)

pub enter_brackets-returns-clause-entered : goal.enter_brackets-returns-clause-entered
enter_brackets-returns-clause-entered t c =
    brackets_run c.args.file c.args.owner c.args.table.now no_brackets c.args.all.now
    ∙ ran_all (on (bracket_entered c.args.file c.args.owner)) (gives c.args.table.now) c.args.all.now
    c.loop-bracket.bracket-index (gives c.loop-bracket.table) c.loop-bracket-test.false
    c.loop-bracket.invariant.so_far

pub enter_expr-returns-in-Array-clause-entered : goal.enter_expr-returns-in-Array-clause-entered
enter_expr-returns-in-Array-clause-entered t c =
    let is = array_is c.args.file c.args.owner c.args.table.now c.args.e.now _ c.in-Array.is in
    search (rules, is)

pub enter_expr-returns-in-New-clause-entered : goal.enter_expr-returns-in-New-clause-entered
enter_expr-returns-in-New-clause-entered t c =
    let is = new_is c.args.file c.args.owner c.args.table.now c.args.e.now _ _ c.in-New.is in
    search (rules, is)

pub enter_expr-returns-in-NewWith-clause-entered : goal.enter_expr-returns-in-NewWith-clause-entered
enter_expr-returns-in-NewWith-clause-entered t c =
    let is = new_with_is c.args.file c.args.owner c.args.table.now c.args.e.now _ _ c.in-NewWith.is in
    search (rules, is)

pub enter_expr-returns-in-Call-clause-entered : goal.enter_expr-returns-in-Call-clause-entered
enter_expr-returns-in-Call-clause-entered t c =
    let is = call_is c.args.file c.args.owner c.args.table.now c.args.e.now _ _ c.in-Call.is in
    search (rules, is)

pub enter_expr-returns-in-Declare-clause-entered : goal.enter_expr-returns-in-Declare-clause-entered
enter_expr-returns-in-Declare-clause-entered t c =
    let is = declare_is c.args.file c.args.owner c.args.table.now c.args.e.now _ _ c.in-Declare.is in
    search (rules, is)

pub enter_expr-returns-in-Array-clause-refused : goal.enter_expr-returns-in-Array-clause-refused
enter_expr-returns-in-Array-clause-refused t c =
    let is = array_is c.args.file c.args.owner c.args.table.now c.args.e.now _ c.in-Array.is in
    search (rules, is)

pub enter_expr-returns-in-New-clause-refused : goal.enter_expr-returns-in-New-clause-refused
enter_expr-returns-in-New-clause-refused t c =
    let is = new_is c.args.file c.args.owner c.args.table.now c.args.e.now _ _ c.in-New.is in
    search (rules, is)

pub enter_expr-returns-in-NewWith-clause-refused : goal.enter_expr-returns-in-NewWith-clause-refused
enter_expr-returns-in-NewWith-clause-refused t c =
    let is = new_with_is c.args.file c.args.owner c.args.table.now c.args.e.now _ _ c.in-NewWith.is in
    search (rules, is)

pub enter_behind-returns-in-Brackets-clause-entered : goal.enter_behind-returns-in-Brackets-clause-entered
enter_behind-returns-in-Brackets-clause-entered t c =
    let is = brackets_are c.args.file c.args.owner c.args.table.now c.args.declarator.now _ c.in-Brackets.is in
    search (rules, is)

pub enter_behind-returns-in-Brackets-clause-refused : goal.enter_behind-returns-in-Brackets-clause-refused
enter_behind-returns-in-Brackets-clause-refused t c =
    let is = brackets_are c.args.file c.args.owner c.args.table.now c.args.declarator.now _ c.in-Brackets.is in
    search (rules, is)

pub enter_behind-returns-in-Arguments-clause-entered : goal.enter_behind-returns-in-Arguments-clause-entered
enter_behind-returns-in-Arguments-clause-entered t c =
    let is = arguments_are c.args.file c.args.owner c.args.table.now c.args.declarator.now _ c.in-Arguments.is in
    search (rules, is)

pub enter_behind-returns-in-Arguments-clause-refused : goal.enter_behind-returns-in-Arguments-clause-refused
enter_behind-returns-in-Arguments-clause-refused t c =
    let is = arguments_are c.args.file c.args.owner c.args.table.now c.args.declarator.now _ c.in-Arguments.is in
    search (rules, is)

pub enter_expr-returns-in-Call-clause-refused : goal.enter_expr-returns-in-Call-clause-refused
enter_expr-returns-in-Call-clause-refused t c =
    let is = call_is c.args.file c.args.owner c.args.table.now c.args.e.now _ _ c.in-Call.is in
    search (rules, is)

pub enter_expr-returns-in-Declare-clause-refused : goal.enter_expr-returns-in-Declare-clause-refused
enter_expr-returns-in-Declare-clause-refused t c =
    let is = declare_is c.args.file c.args.owner c.args.table.now c.args.e.now _ _ c.in-Declare.is in
    search (rules, is)

-- there is room for each part

pub enter_exprs-enter_expr-requires : goal.enter_exprs-enter_expr-requires
enter_exprs-enter_expr-requires t c = (
  search (rules, the_lemmas),
  (
    omega (
      arith,
      exprs_weigh c.args.all.now,
      weight_next weights.one_expr c.args.all.now c.loop-e.e-index
          c.e-item.result c.loop-e-test.true c.e-item.is,
    ),
    omega (
      arith,
      exprs_weigh c.args.all.now,
      weight_next weights.one_expr c.args.all.now c.loop-e.e-index
          c.e-item.result c.loop-e-test.true c.e-item.is,
    ),
  ),
)

pub enter_exprs-loop-e-preserved : goal.enter_exprs-loop-e-preserved
enter_exprs-loop-e-preserved t c =
    record {
      so_far =
          ran_more (on (one_expr c.args.file c.args.owner)) (gives c.args.table.now) c.args.all.now c.loop-e.e-index
          (gives c.loop-e.table) c.e-item.result (gives c.enter_expr.new.table) c.loop-e-test.true c.e-item.is
          c.in_ok-enter_expr.ensures.entered c.loop-e.invariant.so_far;
      left =
          omega (
            arith,
            expr_grows entries counts_entries c.args.file c.args.owner c.loop-e.table c.enter_expr.new.table (view_expr
                c.e-item.result) c.in_ok-enter_expr.ensures.entered,
            weight_next weights.one_expr c.args.all.now
                c.loop-e.e-index c.e-item.result c.loop-e-test.true c.e-item.is,
          );
      own =
          omega (
            arith,
            expr_grows (declared_by c.args.owner) (counts_declared c.args.owner) c.args.file c.args.owner c.loop-e.table
                c.enter_expr.new.table (view_expr
                c.e-item.result) c.in_ok-enter_expr.ensures.entered,
            weight_next weights.one_expr c.args.all.now
                c.loop-e.e-index c.e-item.result c.loop-e-test.true c.e-item.is,
          );
    }

pub enter_brackets-enter_bracket-requires : goal.enter_brackets-enter_bracket-requires
enter_brackets-enter_bracket-requires t c = (
  search (rules, the_lemmas),
  (
    omega (
      arith,
      brackets_weigh c.args.all.now,
      weight_next weights.one_bracket c.args.all.now
          c.loop-bracket.bracket-index c.bracket-item.result c.loop-bracket-test.true c.bracket-item.is,
    ),
    omega (
      arith,
      brackets_weigh c.args.all.now,
      weight_next weights.one_bracket c.args.all.now
          c.loop-bracket.bracket-index c.bracket-item.result c.loop-bracket-test.true c.bracket-item.is,
    ),
  ),
)

pub enter_brackets-loop-bracket-preserved : goal.enter_brackets-loop-bracket-preserved
enter_brackets-loop-bracket-preserved t c =
    record {
      so_far =
          ran_more (on (bracket_entered c.args.file c.args.owner)) (gives c.args.table.now) c.args.all.now
          c.loop-bracket.bracket-index (gives c.loop-bracket.table) c.bracket-item.result (gives
          c.enter_bracket.new.table) c.loop-bracket-test.true c.bracket-item.is c.in_ok-enter_bracket.ensures.entered
          c.loop-bracket.invariant.so_far;
      left =
          omega (
            arith,
            bracket_grows entries counts_entries c.args.file c.args.owner c.loop-bracket.table c.enter_bracket.new.table
                c.bracket-item.result c.in_ok-enter_bracket.ensures.entered,
            weight_next weights.one_bracket c.args.all.now
                c.loop-bracket.bracket-index c.bracket-item.result c.loop-bracket-test.true c.bracket-item.is,
          );
      own =
          omega (
            arith,
            bracket_grows (declared_by c.args.owner) (counts_declared c.args.owner) c.args.file c.args.owner
                c.loop-bracket.table c.enter_bracket.new.table
                c.bracket-item.result c.in_ok-enter_bracket.ensures.entered,
            weight_next weights.one_bracket c.args.all.now
                c.loop-bracket.bracket-index c.bracket-item.result c.loop-bracket-test.true c.bracket-item.is,
          );
    }

pub enter_both-enter_expr-requires-2 : goal.enter_both-enter_expr-requires-2
enter_both-enter_expr-requires-2 t c = (
  search (rules, the_lemmas),
  (
    omega (
      arith,
      expr_grows entries counts_entries c.args.file c.args.owner c.args.table.now c.enter_expr.new.table
          (view_expr c.args.first.now) c.in_ok-enter_expr.ensures.entered,
    ),
    omega (
      arith,
      expr_grows (declared_by c.args.owner) (counts_declared c.args.owner) c.args.file c.args.owner c.args.table.now
          c.enter_expr.new.table
          (view_expr c.args.first.now) c.in_ok-enter_expr.ensures.entered,
    ),
  ),
)

pub enter_call-enter_exprs-requires : goal.enter_call-enter_exprs-requires
enter_call-enter_exprs-requires t c = (
  search (rules, the_lemmas),
  (
    omega (
      arith,
      expr_grows entries counts_entries c.args.file c.args.owner c.args.table.now c.enter_expr.new.table
          (view_expr c.args.callee.now) c.in_ok-enter_expr.ensures.entered,
    ),
    omega (
      arith,
      expr_grows (declared_by c.args.owner) (counts_declared c.args.owner) c.args.file c.args.owner c.args.table.now
          c.enter_expr.new.table
          (view_expr c.args.callee.now) c.in_ok-enter_expr.ensures.entered,
    ),
  ),
)

pub enter_expr-enter_exprs-requires : goal.enter_expr-enter_exprs-requires
enter_expr-enter_exprs-requires t c =
    let is = array_size c.args.e.now _ c.in-Array.is in
    (search (rules, the_lemmas), (grind (arith, is), grind (arith, is)))

pub enter_expr-enter_exprs-requires-in-New : goal.enter_expr-enter_exprs-requires-in-New
enter_expr-enter_exprs-requires-in-New t c =
    let is = new_size c.args.e.now _ _ c.in-New.is in
    (search (rules, the_lemmas), (grind (arith, is, bracketed_more), grind (arith, is, bracketed_more)))

pub enter_expr-enter_exprs-requires-in-NewWith : goal.enter_expr-enter_exprs-requires-in-NewWith
enter_expr-enter_exprs-requires-in-NewWith t c =
    let is = new_with_size c.args.e.now _ _ c.in-NewWith.is in
    (search (rules, the_lemmas), (grind (arith, is), grind (arith, is)))

pub enter_behind-enter_brackets-requires : goal.enter_behind-enter_brackets-requires
enter_behind-enter_brackets-requires t c =
    let is = brackets_measure c.args.declarator.now _ c.in-Brackets.is in
    (search (rules, the_lemmas), (grind (arith, is), grind (arith, is)))

pub enter_behind-enter_exprs-requires : goal.enter_behind-enter_exprs-requires
enter_behind-enter_exprs-requires t c =
    let is = arguments_measure c.args.declarator.now _ c.in-Arguments.is in
    (search (rules, the_lemmas), (grind (arith, is), grind (arith, is)))

pub enter_expr-enter_call-requires : goal.enter_expr-enter_call-requires
enter_expr-enter_call-requires t c =
    let is = call_size c.args.e.now _ _ c.in-Call.is in
    (search (rules, the_lemmas), (grind (arith, is), grind (arith, is)))

pub enter_expr-enter_declaration-requires : goal.enter_expr-enter_declaration-requires
enter_expr-enter_declaration-requires t c =
    let is = declare_size c.args.e.now _ _ c.in-Declare.is in
    (search (rules, the_lemmas), (grind (arith, is), grind (arith, is)))

pub enter_expr-enter_both-requires-in-Cond : goal.enter_expr-enter_both-requires-in-Cond
enter_expr-enter_both-requires-in-Cond t c =
    let test = view_expr c.deref-in-Cond.result.now in
    let grown : entries c.enter_expr.new.table ≤ entries c.args.table.now + expr_size test =
    expr_grows entries counts_entries c.args.file c.args.owner c.args.table.now c.enter_expr.new.table test
    c.in_ok-enter_expr-in-Cond.ensures.entered in
    let declared_more : declared_by c.args.owner c.enter_expr.new.table
    ≤ declared_by c.args.owner c.args.table.now + expr_size test =
    expr_grows (declared_by c.args.owner) (counts_declared c.args.owner) c.args.file c.args.owner c.args.table.now
    c.enter_expr.new.table test
    c.in_ok-enter_expr-in-Cond.ensures.entered in
    (search (rules, the_lemmas), (grind (arith, grown), grind (arith, declared_more)))

pub enter_declaration-enter_declared-requires : goal.enter_declaration-enter_declared-requires
enter_declaration-enter_declared-requires t c =
    record {
      few =
          omega (
            arith,
            behind_grows entries counts_entries c.args.file c.args.owner c.args.table.now c.enter_behind.new.table
                (view_declr c.args.declarator.now) c.in_ok-enter_behind.ensures.entered,
          );
      own =
          omega (
            arith,
            behind_grows (declared_by c.args.owner) (counts_declared c.args.owner) c.args.file c.args.owner
                c.args.table.now c.enter_behind.new.table
                (view_declr c.args.declarator.now) c.in_ok-enter_behind.ensures.entered,
          );
    }
