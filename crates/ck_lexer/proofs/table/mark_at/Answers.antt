use Rattle.std.proofs.Common.{Bor, [], length, nat_lt, arith, List, ℕ, ◌+◌, drop, sym, ap, ◌∙◌}
use Rattle.std.proofs.lemmas.Bool.Decides.{nat_tests}
use Rattle.ck_lexer.specs.Tables.{first_front}
use Rattle.ck_lexer.specs.declared.mark.Mark.{Mark}
use Rattle.ck_lexer.specs.declared.mark.Mark.TheVariants.{Chuck}
use Rattle.ck_lexer.proofs.TableLemmas.{first_front-here, first_front-past, list_all-row}
use Rattle.ck_lexer.proofs.table.mark_at.Goals as goal

row : Bor (List ℕ) × Mark → List ℕ × Mark
row r = (r.0.now, r.1)

pub returns-then-begin_so : goal.returns-then-begin_so
unfolding row
returns-then-begin_so c =
    let rows = c.mark_rows-spelling-items.result.now in
    let i = c.loop-spelling.spelling-index in
    let same = ap (λ t. first_front (drop i t) c.args.bytes.now) c.mark_rows-spelling-items.ensures.rows in
    sym (c.loop-spelling.invariant ∙ sym same ∙ first_front-here row _ rows i c.args.bytes.now c.loop-spelling-test.true (sym c.begin_so.ensures ∙ c.if-begin_so.true))

pub loop-spelling-preserved : goal.loop-spelling-preserved
unfolding row
loop-spelling-preserved c =
    let rows = c.mark_rows-spelling-items.result.now in
    let i = c.loop-spelling.spelling-index in
    let same = λ (k : ℕ). ap (λ t. first_front (drop k t) c.args.bytes.now) c.mark_rows-spelling-items.ensures.rows in
    c.loop-spelling.invariant ∙ sym (same i) ∙ first_front-past row _ rows i c.args.bytes.now c.loop-spelling-test.true (sym c.begin_so.ensures ∙ c.if-begin_so.false) ∙ same (i + 1)

pub begin_so-requires : goal.begin_so-requires
begin_so-requires c =
    let none : Bor (List ℕ) × Mark = (record { ref_ptr = (0, 0); now = [] }, Chuck) in
    let some = list_all-row row none (λ r. nat_lt 0 (length r.0.now)) c.mark_rows-spelling-items.result.now c.loop-spelling.spelling-index c.loop-spelling-test.true c.mark_rows-spelling-items.ensures.not_empty in
    grind (arith, nat_tests)
