use Rattle.std.proofs.Common.{◌≡◌, suc, ◌-◌, refl, subst, arith}
use Rattle.std.proofs.lemmas.Result.{err_from_is_err_and}
use Rattle.ck_lexer.specs.declared.mark.Mark.TheVariants as m
use Rattle.parse_exprs.specs.Machine.{brackets, chucks, sizes}
use Rattle.parse_exprs.specs.Operands.{a_level}
use Rattle.parse_exprs.specs.Parts.{ReadsTo}
use Rattle.parse_exprs.specs.Tokens.{a_mark}
use Rattle.parse_exprs.proofs.Looked.{entered, entered_shorter, not_entered, fits, a_suffix}
use Rattle.parse_exprs.proofs.Looked.{no_suffix, an_operator, no_operator, a_chuck, no_chuck}
use Rattle.parse_exprs.proofs.Looked.{a_lead, no_lead, a_declaration, no_declaration}
use Rattle.parse_exprs.proofs.Made.{K1, exprs_end, exprs_fault, exprs_first, exprs_next, exprs_none}
use Rattle.parse_exprs.proofs.MadeExpr.{KB, KS, here, expr_none, expr_first, chuck_none, made_chuck}
use Rattle.parse_exprs.proofs.MadeExpr.{tail_fault, made_declaration, value_fault, made_value}
use Rattle.parse_exprs.proofs.MadeExpr.{bracket_deep, bracket_fault, made_bracket, brackets_end}
use Rattle.parse_exprs.proofs.MadeExpr.{size_deep, size_fault, made_size, sizes_end, closed_none}
use Rattle.parse_exprs.proofs.MadeExpr.{unclosed, made_closed, all_closed_none, all_unclosed}
use Rattle.parse_exprs.proofs.MadeExpr.{made_all_closed, made_none, optional_fault, made_some}
use Rattle.parse_exprs.proofs.MadeExpr.{no_arguments, arguments_come, then_reads}
use Rattle.parse_exprs.proofs.MadeExpr.{given_deep, given_fault, given_made, with_arguments}
use Rattle.parse_exprs.proofs.MadeExpr.{plain_tail, brackets_fault, brackets_made, object_with, sized}
use Rattle.parse_exprs.proofs.MadeExpr.{sizes_fault, sizes_made, object_made}
use Rattle.parse_exprs.proofs.MadeLevels.{paren_fault, paren_made, array_fault, array_made}
use Rattle.parse_exprs.proofs.MadeLevels.{atom_made, call_fault, call_made, index_fault, index_made}
use Rattle.parse_exprs.proofs.MadeLevels.{member_fault, member_made, postfix_made, suffix_fault}
use Rattle.parse_exprs.proofs.MadeLevels.{dur_none, dur_first, dur_deep, unit_fault, dur_made}
use Rattle.parse_exprs.proofs.MadeLevels.{dur_end, prefix_fault, prefix_made, new_base_fault}
use Rattle.parse_exprs.proofs.MadeLevels.{object_fault, new_made, no_tilde, spork_fault}
use Rattle.parse_exprs.proofs.MadeLevels.{spork_made, cast_none, cast_first, cast_deep}
use Rattle.parse_exprs.proofs.MadeLevels.{target_fault, cast_made, cast_end}
use Rattle.parse_exprs.proofs.MadeLevels.{level_first, level_none, right_fault}
use Rattle.parse_exprs.proofs.MadeLevels.{binary_made, cond_none, cond_deep, then_fault}
use Rattle.parse_exprs.proofs.MadeLevels.{otherwise_fault, choice_made, cond_end}
use Rattle.parse_exprs.proofs.Steps.{onward, stops_onward}
use Rattle.ck_syntax.proofs.Views.{exprs_of-append, brackets_of-append, view-Brackets, view-Arguments}
use Rattle.ck_syntax.specs.Tree.{no_brackets, no_exprs}
use Rattle.ck_syntax.specs.View.{view_expr}
use Rattle.parse_exprs.proofs.expr.+exprs.Goals as goal

pub arguments-returns-in-Some-clause-reads : goal.arguments-returns-in-Some-clause-reads
arguments-returns-in-Some-clause-reads t c = rw (c.from_vec.ensures, c.new.ensures.items)
    (no_arguments c.args.depth c.in-Some.ensures.token c.requires)

pub arguments-returns-in_default-clause-reads : goal.arguments-returns-in_default-clause-reads
arguments-returns-in_default-clause-reads t c = then_reads _ _ _ _ _ _ _
    (arguments_come c.args.tokens.now c.args.depth c.in_default.ensures.token)
    c.closed_exprs.ensures.reads

pub brackets-loop-all-init : goal.brackets-loop-all-init
brackets-loop-all-init t c = rw c.new-all.ensures.items
    (here (λ (k : KB). brackets c.args.depth no_brackets k) c.args.tokens.now, omega arith)

pub brackets-returns-in_err-inside-clause-reads : goal.brackets-returns-in_err-inside-clause-reads
brackets-returns-in_err-inside-clause-reads t c =
    let p = err_from_is_err_and c.from_residual.result c.from_residual.ensures.1 in
    rw (p.1, p.2) (bracket_deep c.args.depth _ c.loop-all.invariant.0 c.in_err-inside.ensures.token)

pub brackets-returns-in_err-size-clause-reads : goal.brackets-returns-in_err-size-clause-reads
brackets-returns-in_err-size-clause-reads t c =
    let (e, i, q) = entered c.args.depth c.loop-all.rest.now m.LeftBracket c.in-Some.is
    c.in_ok-inside.ensures.token in
    let p = err_from_is_err_and c.from_residual-in_err-size.result
    c.from_residual-in_err-size.ensures.1 in
    rw (p.1, p.2) (bracket_fault c.args.depth c.in-Some.inside _ c.loop-all.invariant.0 q e i
    c.in_err-size.ensures.reads)

pub brackets-loop-all-preserved : goal.brackets-loop-all-preserved
brackets-loop-all-preserved t c =
    let (e, i, q) = entered c.args.depth c.loop-all.rest.now m.LeftBracket c.in-Some.is
    c.in_ok-inside.ensures.token in
    let f = entered_shorter c.loop-all.rest.now c.in-Some.is c.in_ok-inside.ensures.fewer in
    let g = c.in_ok-size.ensures.fewer in
    let h = c.loop-all.invariant.1 in
    rw (c.in_ok-push.ensures.items, brackets_of-append) (
      made_bracket c.args.depth c.in-Some.inside c.loop-all.invariant.0 q e i
          c.in_ok-size.ensures.reads (c.bracket.ensures _),
      omega arith,
    )

pub brackets-returns-clause-reads : goal.brackets-returns-clause-reads
brackets-returns-clause-reads t c = rw c.from_vec.ensures
    (brackets_end c.args.depth c.loop-all.invariant.0
    (not_entered c.args.depth c.loop-all.rest.now m.LeftBracket c.in_default.is
    c.in_ok-inside.ensures.token))

pub sizes-loop-all-init : goal.sizes-loop-all-init
sizes-loop-all-init t c = rw c.new-all.ensures.items
    (here (λ (k : KS). sizes c.args.depth no_exprs k) c.args.tokens.now, omega arith)

pub sizes-returns-in_err-inside-clause-reads : goal.sizes-returns-in_err-inside-clause-reads
sizes-returns-in_err-inside-clause-reads t c =
    let p = err_from_is_err_and c.from_residual.result c.from_residual.ensures.1 in
    rw (p.1, p.2) (size_deep c.args.depth _ c.loop-all.invariant.0 c.in_err-inside.ensures.token)

pub sizes-returns-in_err-size-clause-reads : goal.sizes-returns-in_err-size-clause-reads
sizes-returns-in_err-size-clause-reads t c =
    let (e, i, q) = entered c.args.depth c.loop-all.rest.now m.LeftBracket c.in-Some.is
    c.in_ok-inside.ensures.token in
    let p = err_from_is_err_and c.from_residual-in_err-size.result
    c.from_residual-in_err-size.ensures.1 in
    rw (p.1, p.2) (size_fault c.args.depth c.in-Some.inside _ c.loop-all.invariant.0 q e i
    c.in_err-size.ensures.reads)

pub sizes-loop-all-preserved : goal.sizes-loop-all-preserved
sizes-loop-all-preserved t c =
    let (e, i, q) = entered c.args.depth c.loop-all.rest.now m.LeftBracket c.in-Some.is
    c.in_ok-inside.ensures.token in
    let f = entered_shorter c.loop-all.rest.now c.in-Some.is c.in_ok-inside.ensures.fewer in
    let g = c.in_ok-size.ensures.fewer in
    let h = c.loop-all.invariant.1 in
    rw (c.in_ok-push_boxed.ensures.items, exprs_of-append) (
      made_size c.args.depth c.in-Some.inside c.loop-all.invariant.0 q e i
          c.in_ok-size.ensures.reads refl,
      omega arith,
    )

pub sizes-returns-clause-reads : goal.sizes-returns-clause-reads
sizes-returns-clause-reads t c = rw c.from_vec.ensures
    (sizes_end c.args.depth c.loop-all.invariant.0
    (not_entered c.args.depth c.loop-all.rest.now m.LeftBracket c.in_default.is
    c.in_ok-inside.ensures.token))

pub cast-returns-in_err-whole-clause-reads : goal.cast-returns-in_err-whole-clause-reads
cast-returns-in_err-whole-clause-reads t c =
    let p = err_from_is_err_and c.from_residual.result c.from_residual.ensures.1 in
    rw (p.1, p.2) (cast_none c.args.tokens.now c.args.depth _ c.in_err-whole.ensures.reads)

pub cast-loop-inside-init : goal.cast-loop-inside-init
cast-loop-inside-init t c = (
  cast_first c.args.depth c.in_ok-whole.reached
      c.in_ok-whole.ensures.reads,
  c.in_ok-whole.ensures.fits.0,
  c.in_ok-whole.ensures.fits.1,
)

pub cast-returns-in_err-inside-clause-reads : goal.cast-returns-in_err-inside-clause-reads
cast-returns-in_err-inside-clause-reads t c =
    let p = err_from_is_err_and c.from_residual-in_err-inside.result
    c.from_residual-in_err-inside.ensures.1 in
    rw (p.1, p.2) (cast_deep c.args.depth c.loop-inside.reached _ c.loop-inside.invariant.0
    c.in_err-inside.ensures.token)

pub cast-returns-in_err-target-clause-reads : goal.cast-returns-in_err-target-clause-reads
cast-returns-in_err-target-clause-reads t c =
    let (e, i, q) = entered c.loop-inside.reached c.loop-inside.rest.now m.Dollar c.in-Some.is
    c.in_ok-inside.ensures.token in
    let p = err_from_is_err_and c.from_residual-in_err-target.result
    c.from_residual-in_err-target.ensures.1 in
    rw (p.1, p.2) (target_fault c.args.depth c.loop-inside.reached c.in-Some.inside _
    c.loop-inside.invariant.0 q e i c.in_err-target.ensures.reads)

pub cast-loop-inside-preserved : goal.cast-loop-inside-preserved
cast-loop-inside-preserved t c =
    let (e, i, q) = entered c.loop-inside.reached c.loop-inside.rest.now m.Dollar c.in-Some.is
    c.in_ok-inside.ensures.token in
    let f = entered_shorter c.loop-inside.rest.now c.in-Some.is c.in_ok-inside.ensures.fewer in
    let g = c.in_ok-target.ensures.fewer in
    let h = c.loop-inside.invariant.1 in (
      cast_made c.args.depth c.loop-inside.reached c.in-Some.inside c.loop-inside.invariant.0 q e
          i c.in_ok-target.ensures.reads c.in_ok-whole-2.ensures,
      omega arith,
      i,
    )

pub cast-returns-clause-reads : goal.cast-returns-clause-reads
cast-returns-clause-reads t c = cast_end c.args.depth c.loop-inside.reached
    c.loop-inside.invariant.0 (not_entered c.loop-inside.reached c.loop-inside.rest.now m.Dollar
    c.in_default.is c.in_ok-inside.ensures.token)

pub dur-returns-in_err-whole-clause-reads : goal.dur-returns-in_err-whole-clause-reads
dur-returns-in_err-whole-clause-reads t c =
    let p = err_from_is_err_and c.from_residual.result c.from_residual.ensures.1 in
    rw (p.1, p.2) (dur_none c.args.tokens.now c.args.depth _ c.in_err-whole.ensures.reads)

pub dur-loop-inside-init : goal.dur-loop-inside-init
dur-loop-inside-init t c = (
  dur_first c.args.depth c.in_ok-whole.reached
      c.in_ok-whole.ensures.reads,
  c.in_ok-whole.ensures.fits.0,
  c.in_ok-whole.ensures.fits.1,
)

pub dur-returns-in_err-inside-clause-reads : goal.dur-returns-in_err-inside-clause-reads
dur-returns-in_err-inside-clause-reads t c =
    let p = err_from_is_err_and c.from_residual-in_err-inside.result
    c.from_residual-in_err-inside.ensures.1 in
    rw (p.1, p.2) (dur_deep c.args.depth c.loop-inside.reached _ c.loop-inside.invariant.0
    c.in_err-inside.ensures.token)

pub dur-returns-in_err-unit-clause-reads : goal.dur-returns-in_err-unit-clause-reads
dur-returns-in_err-unit-clause-reads t c =
    let (e, i, q) = entered c.loop-inside.reached c.loop-inside.rest.now m.ColonColon
    c.in-Some.is c.in_ok-inside.ensures.token in
    let p = err_from_is_err_and c.from_residual-in_err-unit.result
    c.from_residual-in_err-unit.ensures.1 in
    rw (p.1, p.2) (unit_fault c.args.depth c.loop-inside.reached c.in-Some.inside _
    c.loop-inside.invariant.0 q e i c.in_err-unit.ensures.reads)

pub dur-loop-inside-preserved : goal.dur-loop-inside-preserved
dur-loop-inside-preserved t c =
    let (e, i, q) = entered c.loop-inside.reached c.loop-inside.rest.now m.ColonColon
    c.in-Some.is c.in_ok-inside.ensures.token in
    let f = entered_shorter c.loop-inside.rest.now c.in-Some.is c.in_ok-inside.ensures.fewer in
    let g = c.in_ok-unit.ensures.fits.0 in
    let h = c.loop-inside.invariant.1 in (
      dur_made c.args.depth c.loop-inside.reached c.in-Some.inside c.in_ok-unit.deepest
          c.loop-inside.invariant.0 q e i c.in_ok-unit.ensures.reads c.in_ok-whole-2.ensures,
      omega arith,
      c.in_ok-unit.ensures.fits.1,
    )

pub dur-returns-clause-reads : goal.dur-returns-clause-reads
dur-returns-clause-reads t c = dur_end c.args.depth c.loop-inside.reached
    c.loop-inside.invariant.0 (not_entered c.loop-inside.reached c.loop-inside.rest.now
    m.ColonColon c.in_default.is c.in_ok-inside.ensures.token)

pub chuck_rest-loop-operator-init : goal.chuck_rest-loop-operator-init
chuck_rest-loop-operator-init t c = (
  here (λ (k : K1).
      chucks c.args.depth (view_expr c.args.left.value) k) c.args.tokens.now,
  omega arith,
  c.requires,
)

pub chuck_rest-returns-in_err-operator-clause-reads :
    goal.chuck_rest-returns-in_err-operator-clause-reads
chuck_rest-returns-in_err-operator-clause-reads t c =
    let p = err_from_is_err_and c.from_residual.result c.from_residual.ensures.1 in
    rw (p.1, p.2) (stops_onward _ c.loop-operator.invariant.0
    (c.in_err-operator.ensures.reads (view_expr c.loop-operator.whole.value)))

pub chuck_rest-returns-in_err-next-clause-reads : goal.chuck_rest-returns-in_err-next-clause-reads
chuck_rest-returns-in_err-next-clause-reads t c =
    let s = a_chuck c.loop-operator.reached c.loop-operator.rest.now
    (view_expr c.loop-operator.whole.value) c.in-Some.is
    (c.in_ok-operator.ensures.reads (view_expr c.loop-operator.whole.value)) in
    let p = err_from_is_err_and c.from_residual-in_err-next.result
    c.from_residual-in_err-next.ensures.1 in
    rw (p.1, p.2) (chuck_none c.args.depth c.loop-operator.reached c.in-Some.inside
    c.in-Some.operator _ c.loop-operator.invariant.0 s c.in_err-next.ensures.reads)

pub chuck_rest-loop-operator-preserved : goal.chuck_rest-loop-operator-preserved
chuck_rest-loop-operator-preserved t c =
    let s = a_chuck c.loop-operator.reached c.loop-operator.rest.now
    (view_expr c.loop-operator.whole.value) c.in-Some.is
    (c.in_ok-operator.ensures.reads (view_expr c.loop-operator.whole.value)) in
    let f = fits c.loop-operator.rest.now c.in-Some.is c.in_ok-operator.ensures.fits in
    let j = f.1 in
    let g = c.in_ok-next.ensures.fewer in
    let h = c.loop-operator.invariant.1 in (
      made_chuck c.args.depth c.loop-operator.reached c.in-Some.inside _ c.in-Some.operator
          c.in_ok-next.next c.loop-operator.invariant.0 s c.in_ok-next.ensures.reads
          c.in_ok-right.ensures.view c.in_ok-whole.ensures,
      omega arith,
      c.in_ok-right.ensures.shallow,
    )

pub chuck_rest-returns-clause-reads : goal.chuck_rest-returns-clause-reads
chuck_rest-returns-clause-reads t c = onward c.loop-operator.invariant.0
    (no_chuck c.loop-operator.reached c.loop-operator.rest.now
    (view_expr c.loop-operator.whole.value) c.in_default.is
    (c.in_ok-operator.ensures.reads (view_expr c.loop-operator.whole.value)))

pub closed_expr-returns-in_err-inner-clause-reads :
    goal.closed_expr-returns-in_err-inner-clause-reads
closed_expr-returns-in_err-inner-clause-reads t c =
    let p = err_from_is_err_and c.from_residual.result c.from_residual.ensures.1 in
    rw (p.1, p.2) (closed_none c.args.tokens.now (a_mark c.args.mark) c.args.depth _
    c.in_err-inner.ensures.reads)

pub closed_expr-returns-in_err-rest-clause-reads : goal.closed_expr-returns-in_err-rest-clause-reads
closed_expr-returns-in_err-rest-clause-reads t c =
    let p = err_from_is_err_and c.from_residual-in_err-rest.result
    c.from_residual-in_err-rest.ensures.1 in
    rw (p.1, p.2) (unclosed (a_mark c.args.mark) c.args.depth _ c.in_ok-inner.ensures.reads
    c.in_err-rest.ensures.token)

pub closed_expr-returns-clause-reads : goal.closed_expr-returns-clause-reads
closed_expr-returns-clause-reads t c = made_closed (a_mark c.args.mark) c.args.depth
    c.in_ok-inner.ensures.reads c.in_ok-rest.ensures.token c.requires

pub closed_exprs-returns-in_err-items-clause-reads :
    goal.closed_exprs-returns-in_err-items-clause-reads
closed_exprs-returns-in_err-items-clause-reads t c =
    let p = err_from_is_err_and c.from_residual.result c.from_residual.ensures.1 in
    rw (p.1, p.2) (all_closed_none c.args.tokens.now (a_mark c.args.mark) c.args.depth _
    c.in_err-items.ensures.reads)

pub closed_exprs-returns-in_err-rest-clause-reads :
    goal.closed_exprs-returns-in_err-rest-clause-reads
closed_exprs-returns-in_err-rest-clause-reads t c =
    let p = err_from_is_err_and c.from_residual-in_err-rest.result
    c.from_residual-in_err-rest.ensures.1 in
    rw (p.1, p.2) (all_unclosed (a_mark c.args.mark) c.args.depth _ c.in_ok-items.ensures.reads
    c.in_err-rest.ensures.token)

pub closed_exprs-returns-clause-reads : goal.closed_exprs-returns-clause-reads
closed_exprs-returns-clause-reads t c = made_all_closed (a_mark c.args.mark) c.args.depth
    c.in_ok-items.ensures.reads c.in_ok-rest.ensures.token c.requires

pub cond-returns-in_err-test-clause-reads : goal.cond-returns-in_err-test-clause-reads
cond-returns-in_err-test-clause-reads t c =
    let p = err_from_is_err_and c.from_residual.result c.from_residual.ensures.1 in
    rw (p.1, p.2) (cond_none c.args.tokens.now c.args.depth _ c.in_err-test.ensures.reads)

pub cond-returns-in_err-inside-clause-reads : goal.cond-returns-in_err-inside-clause-reads
cond-returns-in_err-inside-clause-reads t c =
    let p = err_from_is_err_and c.from_residual-in_err-inside.result
    c.from_residual-in_err-inside.ensures.1 in
    rw (p.1, p.2) (cond_deep c.args.depth c.in_ok-test.reached _ c.in_ok-test.ensures.reads
    c.in_err-inside.ensures.token)

pub cond-returns-in_err-then-clause-reads : goal.cond-returns-in_err-then-clause-reads
cond-returns-in_err-then-clause-reads t c =
    let (e, i, q) = entered c.in_ok-test.reached c.in_ok-test.behind.now m.Question c.in-Some.is
    c.in_ok-inside.ensures.token in
    let p = err_from_is_err_and c.from_residual-in_err-then.result
    c.from_residual-in_err-then.ensures.1 in
    rw (p.1, p.2) (then_fault c.args.depth c.in_ok-test.reached c.in-Some.inside _
    c.in_ok-test.ensures.reads q e i c.in_err-then.ensures.reads)

pub cond-returns-in_err-otherwise-clause-reads : goal.cond-returns-in_err-otherwise-clause-reads
cond-returns-in_err-otherwise-clause-reads t c =
    let (e, i, q) = entered c.in_ok-test.reached c.in_ok-test.behind.now m.Question c.in-Some.is
    c.in_ok-inside.ensures.token in
    let p = err_from_is_err_and c.from_residual-in_err-otherwise.result
    c.from_residual-in_err-otherwise.ensures.1 in
    rw (p.1, p.2) (otherwise_fault c.args.depth c.in_ok-test.reached c.in-Some.inside _
    c.in_ok-test.ensures.reads q e i c.in_ok-then.ensures.reads
    c.in_err-otherwise.ensures.reads)

pub cond-returns-in_ok-choice-clause-reads : goal.cond-returns-in_ok-choice-clause-reads
cond-returns-in_ok-choice-clause-reads t c =
    let (e, i, q) = entered c.in_ok-test.reached c.in_ok-test.behind.now m.Question c.in-Some.is
    c.in_ok-inside.ensures.token in
    choice_made c.args.depth c.in_ok-test.reached c.in-Some.inside c.in_ok-otherwise.deepest
    c.in_ok-test.ensures.reads q e i c.in_ok-then.ensures.reads c.in_ok-otherwise.ensures.reads
    c.in_ok-choice.ensures

pub cond-returns-in_default-clause-reads : goal.cond-returns-in_default-clause-reads
cond-returns-in_default-clause-reads t c = cond_end c.args.depth c.in_ok-test.reached
    c.in_ok-test.ensures.reads (not_entered c.in_ok-test.reached c.in_ok-test.behind.now
    m.Question c.in_default.is c.in_ok-inside.ensures.token)

pub expr-returns-in_err-first-clause-reads : goal.expr-returns-in_err-first-clause-reads
expr-returns-in_err-first-clause-reads t c =
    let p = err_from_is_err_and c.from_residual.result c.from_residual.ensures.1 in
    rw (p.1, p.2) (expr_none c.args.tokens.now c.args.depth _ c.in_err-first.ensures.reads)

pub expr-returns-clause-reads : goal.expr-returns-clause-reads
expr-returns-clause-reads t c = then_reads _ _ _ _ _ _ _ (expr_first c.args.tokens.now
    c.in_ok-first.behind.now c.in_ok-first.first c.args.depth _ _ c.in_ok-first.ensures.reads
    c.in_ok-left.ensures.view) c.chuck_rest.ensures.reads

pub exprs-returns-in_err-first-clause-reads : goal.exprs-returns-in_err-first-clause-reads
exprs-returns-in_err-first-clause-reads t c =
    let p = err_from_is_err_and c.from_residual.result c.from_residual.ensures.1 in
    rw (p.1, p.2) (exprs_none c.args.tokens.now c.args.depth _ c.in_err-first.ensures.reads)

pub exprs-loop-behind-init : goal.exprs-loop-behind-init
exprs-loop-behind-init t c = rw (c.in_ok-push_boxed.ensures.items, c.new-items.ensures.items)
    (exprs_first c.args.depth c.in_ok-first.ensures.reads, c.in_ok-first.ensures.fewer)

pub exprs-returns-in_err-item-clause-reads : goal.exprs-returns-in_err-item-clause-reads
exprs-returns-in_err-item-clause-reads t c =
    let p = err_from_is_err_and c.from_residual-in_err-item.result
    c.from_residual-in_err-item.ensures.1 in
    rw (p.1, p.2) (exprs_fault c.args.depth _ c.loop-behind.invariant.0 c.in-Some.ensures.token
    c.requires c.in_err-item.ensures.reads)

pub exprs-loop-behind-preserved : goal.exprs-loop-behind-preserved
exprs-loop-behind-preserved t c =
    let f = c.in-Some.ensures.fewer in
    let g = c.in_ok-item.ensures.fewer in
    let h = c.loop-behind.invariant.1 in
    rw (c.in_ok-push_boxed-2.ensures.items, exprs_of-append) (
      exprs_next c.args.depth c.loop-behind.invariant.0 c.in-Some.ensures.token c.requires
          c.in_ok-item.ensures.reads,
      omega arith,
    )

pub exprs-returns-clause-reads : goal.exprs-returns-clause-reads
exprs-returns-clause-reads t c = rw c.from_vec.ensures
    (exprs_end c.args.depth c.loop-behind.invariant.0 c.in_default.ensures.token)

pub led-returns-in_err-inner-in-Prefix-clause-reads :
    goal.led-returns-in_err-inner-in-Prefix-clause-reads
led-returns-in_err-inner-in-Prefix-clause-reads t c =
    let p = err_from_is_err_and c.from_residual.result c.from_residual.ensures.1 in
    rw (p.1, p.2) (prefix_fault c.args.tokens.now c.args.depth c.args.line c.in-Prefix.operator
    _ c.in-Prefix.is c.in_err-inner-in-Prefix.ensures.reads)

pub led-returns-in_err-base-in-New-clause-reads : goal.led-returns-in_err-base-in-New-clause-reads
led-returns-in_err-base-in-New-clause-reads t c =
    let p = err_from_is_err_and c.from_residual-in_err-base-in-New.result
    c.from_residual-in_err-base-in-New.ensures.1 in
    rw (p.1, p.2) (new_base_fault c.args.tokens.now c.args.depth c.args.line _ c.in-New.is
    c.in_err-base-in-New.ensures.token)

pub led-returns-in_err-object-in-New-clause-reads :
    goal.led-returns-in_err-object-in-New-clause-reads
led-returns-in_err-object-in-New-clause-reads t c =
    let p = err_from_is_err_and c.from_residual-in_err-object-in-New.result
    c.from_residual-in_err-object-in-New.ensures.1 in
    rw (p.1, p.2) (object_fault c.args.tokens.now c.in_ok-base-in-New.behind.now c.args.depth
    c.args.line _ c.in-New.is c.in_ok-base-in-New.ensures.token c.requires
    c.in_err-object-in-New.ensures.reads)

pub led-returns-in_err-behind-in-Spork-clause-reads :
    goal.led-returns-in_err-behind-in-Spork-clause-reads
led-returns-in_err-behind-in-Spork-clause-reads t c =
    let p = err_from_is_err_and c.from_residual-in_err-behind-in-Spork.result
    c.from_residual-in_err-behind-in-Spork.ensures.1 in
    rw (p.1, p.2) (no_tilde c.args.tokens.now c.args.depth c.args.line _ c.in-Spork.is
    c.in_err-behind-in-Spork.ensures.token)

pub led-returns-in_err-call-in-Spork-clause-reads :
    goal.led-returns-in_err-call-in-Spork-clause-reads
led-returns-in_err-call-in-Spork-clause-reads t c =
    let p = err_from_is_err_and c.from_residual-in_err-call-in-Spork.result
    c.from_residual-in_err-call-in-Spork.ensures.1 in
    rw (p.1, p.2) (spork_fault c.args.depth c.args.line _ c.in-Spork.is
    c.in_ok-behind-in-Spork.ensures.token c.requires c.in_err-call-in-Spork.ensures.reads)

pub led-returns-in_ok-prefix-in-Prefix-clause-reads :
    goal.led-returns-in_ok-prefix-in-Prefix-clause-reads
led-returns-in_ok-prefix-in-Prefix-clause-reads t c = prefix_made c.args.depth c.args.line
    c.in_ok-inner-in-Prefix.reached c.in-Prefix.operator c.in-Prefix.is
    c.in_ok-inner-in-Prefix.ensures.reads c.in_ok-prefix-in-Prefix.ensures

pub led-returns-in_ok-object-in-New-clause-reads : goal.led-returns-in_ok-object-in-New-clause-reads
led-returns-in_ok-object-in-New-clause-reads t c = new_made c.args.depth c.args.line c.in-New.is
    c.in_ok-base-in-New.ensures.token c.requires c.in_ok-object-in-New.ensures.reads

pub led-returns-in_ok-spork-in-Spork-clause-reads :
    goal.led-returns-in_ok-spork-in-Spork-clause-reads
led-returns-in_ok-spork-in-Spork-clause-reads t c = spork_made c.args.depth c.args.line
    c.in_ok-call-in-Spork.reached c.in-Spork.is c.in_ok-behind-in-Spork.ensures.token c.requires
    c.in_ok-call-in-Spork.ensures.reads c.in_ok-spork-in-Spork.ensures

pub level-returns-then-number-eq0-clause-reads : goal.level-returns-then-number-eq0-clause-reads
level-returns-then-number-eq0-clause-reads t c =
    let z : 0 ≡ c.args.number = omega (arith, c.if-number-eq0.true) in
    subst (λ n. ReadsTo (a_level n c.args.depth) c.args.tokens.now c.cast.result) z
    c.cast.ensures.reads

pub level-returns-in_err-whole-clause-reads : goal.level-returns-in_err-whole-clause-reads
level-returns-in_err-whole-clause-reads t c =
    let s : c.args.number ≡ suc (c.args.number - 1) = omega (arith, c.if-number-eq0.false) in
    let p = err_from_is_err_and c.from_residual.result c.from_residual.ensures.1 in
    rw (p.1, p.2) (level_none c.args.tokens.now c.args.number (c.args.number - 1) c.args.depth _
    s c.in_err-whole.ensures.reads)

pub level-loop-next-init : goal.level-loop-next-init
level-loop-next-init t c =
    let s : c.args.number ≡ suc (c.args.number - 1) = omega (arith, c.if-number-eq0.false) in (
      level_first c.args.number (c.args.number - 1) c.args.depth c.in_ok-whole.reached s
          c.in_ok-whole.ensures.reads,
      c.in_ok-whole.ensures.fits.0,
      c.in_ok-whole.ensures.fits.1,
    )

pub level-returns-in_err-next-clause-reads : goal.level-returns-in_err-next-clause-reads
level-returns-in_err-next-clause-reads t c =
    let p = err_from_is_err_and c.from_residual-in_err-next.result
    c.from_residual-in_err-next.ensures.1 in
    rw (p.1, p.2) (stops_onward _ c.loop-next.invariant.0
    (c.in_err-next.ensures.reads (view_expr c.loop-next.whole.value)))

pub level-returns-in_err-right-clause-reads : goal.level-returns-in_err-right-clause-reads
level-returns-in_err-right-clause-reads t c =
    let o = an_operator (c.args.number - 1) c.loop-next.reached c.loop-next.rest.now
    (view_expr c.loop-next.whole.value) c.in-Some.is
    (c.in_ok-next.ensures.reads (view_expr c.loop-next.whole.value)) in
    let p = err_from_is_err_and c.from_residual-in_err-right.result
    c.from_residual-in_err-right.ensures.1 in
    rw (p.1, p.2) (right_fault c.args.number (c.args.number - 1) c.args.depth
    c.loop-next.reached c.in-Some.inside c.in-Some.next _ c.loop-next.invariant.0 o
    c.in_err-right.ensures.reads)

pub level-loop-next-preserved : goal.level-loop-next-preserved
level-loop-next-preserved t c =
    let o = an_operator (c.args.number - 1) c.loop-next.reached c.loop-next.rest.now
    (view_expr c.loop-next.whole.value) c.in-Some.is
    (c.in_ok-next.ensures.reads (view_expr c.loop-next.whole.value)) in
    let f = fits c.loop-next.rest.now c.in-Some.is c.in_ok-next.ensures.fits in
    let j = f.1 in
    let g = c.in_ok-right.ensures.fits.0 in
    let h = c.loop-next.invariant.1 in (
      binary_made c.args.number (c.args.number - 1) c.args.depth c.loop-next.reached
          c.in-Some.inside c.in_ok-right.deepest c.in-Some.next c.loop-next.invariant.0 o
          c.in_ok-right.ensures.reads c.in_ok-whole-2.ensures,
      omega arith,
      c.in_ok-right.ensures.fits.1,
    )

pub level-returns-clause-reads : goal.level-returns-clause-reads
level-returns-clause-reads t c = onward c.loop-next.invariant.0
    (no_operator (c.args.number - 1) c.loop-next.reached c.loop-next.rest.now
    (view_expr c.loop-next.whole.value) c.in_default.is
    (c.in_ok-next.ensures.reads (view_expr c.loop-next.whole.value)))

pub operand-returns-in_err-line-clause-reads : goal.operand-returns-in_err-line-clause-reads
operand-returns-in_err-line-clause-reads t c =
    let p = err_from_is_err_and c.from_residual.result c.from_residual.ensures.1 in
    rw (p.1, p.2) (c.in_err-line.ensures.reads)

pub operand-returns-in_err-tail-clause-reads : goal.operand-returns-in_err-tail-clause-reads
operand-returns-in_err-tail-clause-reads t c =
    let s = a_declaration c.args.depth c.args.tokens.now c.in-Some.is c.in_ok-line.ensures.reads in
    let p = err_from_is_err_and c.from_residual-in_err-tail.result
    c.from_residual-in_err-tail.ensures.1 in
    rw (p.1, p.2) (tail_fault c.args.depth _ _ _ _ s (c.in_err-tail.ensures.reads _))

pub operand-returns-in_err-expr-clause-reads : goal.operand-returns-in_err-expr-clause-reads
operand-returns-in_err-expr-clause-reads t c =
    let s = no_declaration c.args.depth c.args.tokens.now c.in_default.is
    c.in_ok-line.ensures.reads in
    let p = err_from_is_err_and c.from_residual-in_err-expr.result
    c.from_residual-in_err-expr.ensures.1 in
    rw (p.1, p.2) (value_fault c.args.depth _ s c.in_err-expr.ensures.reads)

pub operand-returns-in_ok-tail-clause-reads : goal.operand-returns-in_ok-tail-clause-reads
operand-returns-in_ok-tail-clause-reads t c =
    let s = a_declaration c.args.depth c.args.tokens.now c.in-Some.is c.in_ok-line.ensures.reads in
    made_declaration c.args.depth _ _ _ s (c.in_ok-tail.ensures.reads _)

pub operand-returns-in_ok-expr-clause-reads : goal.operand-returns-in_ok-expr-clause-reads
operand-returns-in_ok-expr-clause-reads t c =
    let s = no_declaration c.args.depth c.args.tokens.now c.in_default.is
    c.in_ok-line.ensures.reads in
    made_value c.args.depth c.in_ok-expr.inside s c.in_ok-expr.ensures.reads

pub optional_expr-returns-in_err-inner-clause-reads :
    goal.optional_expr-returns-in_err-inner-clause-reads
optional_expr-returns-in_err-inner-clause-reads t c =
    let p = err_from_is_err_and c.from_residual.result c.from_residual.ensures.1 in
    rw (p.1, p.2) (optional_fault c.args.tokens.now (a_mark c.args.mark) c.args.depth _
    c.in_default.ensures.token c.in_err-inner.ensures.reads)

pub optional_expr-returns-in-Some-clause-reads : goal.optional_expr-returns-in-Some-clause-reads
optional_expr-returns-in-Some-clause-reads t c =
    made_none (a_mark c.args.mark) c.args.depth c.in-Some.ensures.token c.requires

pub optional_expr-returns-in_ok-inner-clause-reads :
    goal.optional_expr-returns-in_ok-inner-clause-reads
optional_expr-returns-in_ok-inner-clause-reads t c = made_some (a_mark c.args.mark) c.args.depth
    c.in_default.ensures.token c.in_ok-inner.ensures.reads

pub postfix-returns-in_err-whole-clause-reads : goal.postfix-returns-in_err-whole-clause-reads
postfix-returns-in_err-whole-clause-reads t c =
    let p = err_from_is_err_and c.from_residual.result c.from_residual.ensures.1 in
    rw (p.1, p.2) (c.in_err-whole.ensures.reads)

pub postfix-loop-next-init : goal.postfix-loop-next-init
postfix-loop-next-init t c = (c.in_ok-whole.ensures.reads, c.in_ok-whole.ensures.fewer, c.requires)

pub postfix-returns-in_err-next-clause-reads : goal.postfix-returns-in_err-next-clause-reads
postfix-returns-in_err-next-clause-reads t c =
    let p = err_from_is_err_and c.from_residual-in_err-next.result
    c.from_residual-in_err-next.ensures.1 in
    rw (p.1, p.2) (stops_onward _ c.loop-next.invariant.0
    (c.in_err-next.ensures.reads (view_expr c.loop-next.whole.value)))

pub postfix-returns-in_err-longer-clause-reads : goal.postfix-returns-in_err-longer-clause-reads
postfix-returns-in_err-longer-clause-reads t c =
    let s = a_suffix c.loop-next.reached c.loop-next.rest.now
    (view_expr c.loop-next.whole.value) c.in-Some.is
    (c.in_ok-next.ensures.reads (view_expr c.loop-next.whole.value)) in
    let p = err_from_is_err_and c.from_residual-in_err-longer.result
    c.from_residual-in_err-longer.ensures.1 in
    rw (p.1, p.2) (suffix_fault c.args.depth c.loop-next.reached c.in-Some.inside c.in-Some.next
    _ c.loop-next.invariant.0 s c.in_err-longer.ensures.reads)

pub postfix-loop-next-preserved : goal.postfix-loop-next-preserved
postfix-loop-next-preserved t c =
    let s = a_suffix c.loop-next.reached c.loop-next.rest.now
    (view_expr c.loop-next.whole.value) c.in-Some.is
    (c.in_ok-next.ensures.reads (view_expr c.loop-next.whole.value)) in
    let f = fits c.loop-next.rest.now c.in-Some.is c.in_ok-next.ensures.fits in
    let j = f.1 in
    let g = c.in_ok-longer.ensures.fewer in
    let h = c.loop-next.invariant.1 in
    (onward c.loop-next.invariant.0 (onward s c.in_ok-longer.ensures.reads), omega arith, f.0)

pub postfix-returns-clause-reads : goal.postfix-returns-clause-reads
postfix-returns-clause-reads t c = onward c.loop-next.invariant.0
    (no_suffix c.loop-next.reached c.loop-next.rest.now (view_expr c.loop-next.whole.value)
    c.in_default.is (c.in_ok-next.ensures.reads (view_expr c.loop-next.whole.value)))

pub primary-returns-in_err-start-clause-reads : goal.primary-returns-in_err-start-clause-reads
primary-returns-in_err-start-clause-reads t c =
    let p = err_from_is_err_and c.from_residual.result c.from_residual.ensures.1 in
    rw (p.1, p.2) (c.in_err-start.ensures.reads)

pub primary-returns-in_err-inner-in-Paren-clause-reads :
    goal.primary-returns-in_err-inner-in-Paren-clause-reads
primary-returns-in_err-inner-in-Paren-clause-reads t c =
    let p = err_from_is_err_and c.from_residual-in_err-inner-in-Paren.result
    c.from_residual-in_err-inner-in-Paren.ensures.1 in
    rw (p.1, p.2) (paren_fault c.args.depth c.in_ok-start.line c.in-Paren.inside _
    c.in_ok-start.ensures.reads c.in-Paren.is c.in_err-inner-in-Paren.ensures.reads)

pub primary-returns-in_err-items-in-Array-clause-reads :
    goal.primary-returns-in_err-items-in-Array-clause-reads
primary-returns-in_err-items-in-Array-clause-reads t c =
    let p = err_from_is_err_and c.from_residual-in_err-items-in-Array.result
    c.from_residual-in_err-items-in-Array.ensures.1 in
    rw (p.1, p.2) (array_fault c.args.depth c.in_ok-start.line c.in-Array.inside _
    c.in_ok-start.ensures.reads c.in-Array.is c.in_err-items-in-Array.ensures.reads)

pub primary-returns-in-Atom-clause-reads : goal.primary-returns-in-Atom-clause-reads
primary-returns-in-Atom-clause-reads t c = atom_made c.args.depth c.in_ok-start.line
    c.in-Atom.expr c.in_ok-start.ensures.reads c.in-Atom.is

pub primary-returns-in_ok-paren-in-Paren-clause-reads :
    goal.primary-returns-in_ok-paren-in-Paren-clause-reads
primary-returns-in_ok-paren-in-Paren-clause-reads t c = paren_made c.args.depth
    c.in_ok-start.line c.in-Paren.inside c.in_ok-start.ensures.reads c.in-Paren.is
    c.in_ok-inner-in-Paren.ensures.reads c.in_ok-paren-in-Paren.ensures

pub primary-returns-in_ok-array-in-Array-clause-reads :
    goal.primary-returns-in_ok-array-in-Array-clause-reads
primary-returns-in_ok-array-in-Array-clause-reads t c = array_made c.args.depth
    c.in_ok-start.line c.in-Array.inside c.in_ok-start.ensures.reads c.in-Array.is
    c.in_ok-items-in-Array.ensures.reads c.in_ok-array-in-Array.ensures

pub unary-returns-in_err-next-clause-reads : goal.unary-returns-in_err-next-clause-reads
unary-returns-in_err-next-clause-reads t c =
    let p = err_from_is_err_and c.from_residual.result c.from_residual.ensures.1 in
    rw (p.1, p.2) (c.in_err-next.ensures.reads)

pub unary-returns-in-Some-clause-reads : goal.unary-returns-in-Some-clause-reads
unary-returns-in-Some-clause-reads t c = then_reads _ _ _ _ _ _ _
    (a_lead c.args.depth c.args.tokens.now c.in-Some.is c.in_ok-next.ensures.reads)
    c.led.ensures.reads

pub unary-returns-in_default-clause-reads : goal.unary-returns-in_default-clause-reads
unary-returns-in_default-clause-reads t c = then_reads _ _ _ _ _ _ _
    (no_lead c.args.depth c.args.tokens.now c.in_default.is c.in_ok-next.ensures.reads)
    c.dur.ensures.reads

pub with_suffix-returns-in_err-arguments-in-Call-clause-reads :
    goal.with_suffix-returns-in_err-arguments-in-Call-clause-reads
with_suffix-returns-in_err-arguments-in-Call-clause-reads t c =
    let p = err_from_is_err_and c.from_residual.result c.from_residual.ensures.1 in
    rw (p.1, p.2) (call_fault c.args.tokens.now c.args.depth (view_expr c.args.left.value) _
    c.in-Call.is c.in_err-arguments-in-Call.ensures.reads)

pub with_suffix-returns-in_err-index-in-Index-clause-reads :
    goal.with_suffix-returns-in_err-index-in-Index-clause-reads
with_suffix-returns-in_err-index-in-Index-clause-reads t c =
    let p = err_from_is_err_and c.from_residual-in_err-index-in-Index.result
    c.from_residual-in_err-index-in-Index.ensures.1 in
    rw (p.1, p.2) (index_fault c.args.tokens.now c.args.depth (view_expr c.args.left.value) _
    c.in-Index.is c.in_err-index-in-Index.ensures.reads)

pub with_suffix-returns-in_err-name-in-Member-clause-reads :
    goal.with_suffix-returns-in_err-name-in-Member-clause-reads
with_suffix-returns-in_err-name-in-Member-clause-reads t c =
    let p = err_from_is_err_and c.from_residual-in_err-name-in-Member.result
    c.from_residual-in_err-name-in-Member.ensures.1 in
    rw (p.1, p.2) (member_fault c.args.tokens.now c.args.depth (view_expr c.args.left.value) _
    c.in-Member.is c.in_err-name-in-Member.ensures.token)

pub with_suffix-returns-in_ok-call-in-Call-clause-reads :
    goal.with_suffix-returns-in_ok-call-in-Call-clause-reads
with_suffix-returns-in_ok-call-in-Call-clause-reads t c = call_made c.args.depth
    (view_expr c.args.left.value) c.in-Call.is c.in_ok-arguments-in-Call.ensures.reads
    c.in_ok-call-in-Call.ensures

pub with_suffix-returns-in_ok-index-in-Index-2-clause-reads :
    goal.with_suffix-returns-in_ok-index-in-Index-2-clause-reads
with_suffix-returns-in_ok-index-in-Index-2-clause-reads t c = index_made c.args.depth
    (view_expr c.args.left.value) c.in-Index.is c.in_ok-index-in-Index.ensures.reads
    c.in_ok-index-in-Index-2.ensures

pub with_suffix-returns-in_ok-member-in-Member-clause-reads :
    goal.with_suffix-returns-in_ok-member-in-Member-clause-reads
with_suffix-returns-in_ok-member-in-Member-clause-reads t c = member_made c.args.depth
    (view_expr c.args.left.value) c.in-Member.is c.in_ok-name-in-Member.ensures.token c.requires
    c.in_ok-member-in-Member.ensures

pub with_suffix-returns-in_ok-postfix-in-Postfix-clause-reads :
    goal.with_suffix-returns-in_ok-postfix-in-Postfix-clause-reads
with_suffix-returns-in_ok-postfix-in-Postfix-clause-reads t c = postfix_made c.args.depth
    (view_expr c.args.left.value) c.in-Postfix.is c.in_ok-postfix-in-Postfix.ensures

pub declarator_tail-returns-in_err-inside-clause-reads :
    goal.declarator_tail-returns-in_err-inside-clause-reads
declarator_tail-returns-in_err-inside-clause-reads t c = λ n.
    let p = err_from_is_err_and c.from_residual.result c.from_residual.ensures.1 in
    rw (p.1, p.2) (given_deep c.args.depth (with_arguments n) (plain_tail c.args.depth n) _
    c.in_err-inside.ensures.token)

pub declarator_tail-returns-in_err-arguments-clause-reads :
    goal.declarator_tail-returns-in_err-arguments-clause-reads
declarator_tail-returns-in_err-arguments-clause-reads t c = λ n.
    let (e, i, q) = entered c.args.depth c.args.tokens.now m.LeftParen c.in-Some.is
    c.in_ok-inside.ensures.token in
    let p = err_from_is_err_and c.from_residual-in_err-arguments.result
    c.from_residual-in_err-arguments.ensures.1 in
    rw (p.1, p.2) (given_fault c.args.depth c.in-Some.inside (with_arguments n)
    (plain_tail c.args.depth n) _ q e i c.in_err-arguments.ensures.reads)

pub declarator_tail-returns-in_err-brackets-clause-reads :
    goal.declarator_tail-returns-in_err-brackets-clause-reads
declarator_tail-returns-in_err-brackets-clause-reads t c = λ n.
    let p = err_from_is_err_and c.from_residual-in_err-brackets.result
    c.from_residual-in_err-brackets.ensures.1 in
    rw (p.1, p.2) (brackets_fault c.args.tokens.now c.args.depth n _
    (not_entered c.args.depth c.args.tokens.now m.LeftParen c.in_default.is
    c.in_ok-inside.ensures.token) c.in_err-brackets.ensures.reads)

pub declarator_tail-returns-in_ok-arguments-clause-reads :
    goal.declarator_tail-returns-in_ok-arguments-clause-reads
declarator_tail-returns-in_ok-arguments-clause-reads t c = λ n.
    let (e, i, q) = entered c.args.depth c.args.tokens.now m.LeftParen c.in-Some.is
    c.in_ok-inside.ensures.token in
    rw (view-Arguments n c.in_ok-arguments.arguments)
    (given_made c.args.depth c.in-Some.inside (with_arguments n) (plain_tail c.args.depth n) q e i
    c.in_ok-arguments.ensures.reads)

pub declarator_tail-returns-in_ok-brackets-clause-reads :
    goal.declarator_tail-returns-in_ok-brackets-clause-reads
declarator_tail-returns-in_ok-brackets-clause-reads t c = λ n.
    rw (view-Brackets n c.in_ok-brackets.brackets)
    (brackets_made c.args.depth n
    (not_entered c.args.depth c.args.tokens.now m.LeftParen c.in_default.is
    c.in_ok-inside.ensures.token) c.in_ok-brackets.ensures.reads)

pub object-returns-in_err-inside-clause-reads : goal.object-returns-in_err-inside-clause-reads
object-returns-in_err-inside-clause-reads t c =
    let p = err_from_is_err_and c.from_residual.result c.from_residual.ensures.1 in
    rw (p.1, p.2) (given_deep c.args.depth (object_with c.args.line c.args.base)
    (sized c.args.depth c.args.line c.args.base) _ c.in_err-inside.ensures.token)

pub object-returns-in_err-arguments-clause-reads : goal.object-returns-in_err-arguments-clause-reads
object-returns-in_err-arguments-clause-reads t c =
    let (e, i, q) = entered c.args.depth c.args.tokens.now m.LeftParen c.in-Some.is
    c.in_ok-inside.ensures.token in
    let p = err_from_is_err_and c.from_residual-in_err-arguments.result
    c.from_residual-in_err-arguments.ensures.1 in
    rw (p.1, p.2) (given_fault c.args.depth c.in-Some.inside (object_with c.args.line c.args.base)
    (sized c.args.depth c.args.line c.args.base) _ q e i c.in_err-arguments.ensures.reads)

pub object-returns-in_err-sizes-clause-reads : goal.object-returns-in_err-sizes-clause-reads
object-returns-in_err-sizes-clause-reads t c =
    let p = err_from_is_err_and c.from_residual-in_err-sizes.result
    c.from_residual-in_err-sizes.ensures.1 in
    rw (p.1, p.2) (sizes_fault c.args.tokens.now c.args.depth c.args.line c.args.base _
    (not_entered c.args.depth c.args.tokens.now m.LeftParen c.in_default.is
    c.in_ok-inside.ensures.token) c.in_err-sizes.ensures.reads)

pub object-returns-in_ok-object_with-clause-reads :
    goal.object-returns-in_ok-object_with-clause-reads
object-returns-in_ok-object_with-clause-reads t c =
    let (e, i, q) = entered c.args.depth c.args.tokens.now m.LeftParen c.in-Some.is
    c.in_ok-inside.ensures.token in
    object_made c.args.depth c.in-Some.inside c.args.line c.args.base q e i
    c.in_ok-arguments.ensures.reads c.in_ok-object_with.ensures

pub object-returns-in_ok-object-clause-reads : goal.object-returns-in_ok-object-clause-reads
object-returns-in_ok-object-clause-reads t c = sizes_made c.args.depth c.args.line c.args.base
    (not_entered c.args.depth c.args.tokens.now m.LeftParen c.in_default.is
    c.in_ok-inside.ensures.token) c.in_ok-sizes.ensures.reads c.in_ok-object.ensures
