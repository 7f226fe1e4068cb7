use Rattle.std.proofs.Common.{Bor, List, ℕ, ◌+◌, drop, sym, ap, ◌∙◌}
use Rattle.ck_lexer.specs.Tables.{look_up}
use Rattle.ck_lexer.specs.declared.word.Word.{Word}
use Rattle.ck_lexer.proofs.TableLemmas.{look_up-here, look_up-past}
use Rattle.ck_lexer.proofs.table.word_of.Goals as goal

row : Bor (List ℕ) × Word → List ℕ × Word
row r = (r.0.now, r.1)

pub returns-then-eq : goal.returns-then-eq
unfolding row
returns-then-eq c =
    let rows = c.word_rows-spelling-items.result.now in
    let i = c.loop-spelling.spelling-index in
    let same = ap (λ t. look_up (drop i t) c.args.name.now) c.word_rows-spelling-items.ensures in
    sym (c.loop-spelling.invariant ∙ sym same ∙ look_up-here row _ rows i c.args.name.now c.loop-spelling-test.true (sym c.eq.ensures ∙ c.if-eq.true))

pub loop-spelling-preserved : goal.loop-spelling-preserved
unfolding row
loop-spelling-preserved c =
    let rows = c.word_rows-spelling-items.result.now in
    let i = c.loop-spelling.spelling-index in
    let same = λ (k : ℕ). ap (λ t. look_up (drop k t) c.args.name.now) c.word_rows-spelling-items.ensures in
    c.loop-spelling.invariant ∙ sym (same i) ∙ look_up-past row _ rows i c.args.name.now c.loop-spelling-test.true (sym c.eq.ensures ∙ c.if-eq.false) ∙ same (i + 1)
