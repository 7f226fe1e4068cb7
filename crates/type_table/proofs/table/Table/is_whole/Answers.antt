use Rattle.std.proofs.Common.{◌≡◌, true, IsTrue, ap, sym, ◌∙◌}
use Rattle.type_rules.specs.Fitting.{below}
use Rattle.type_table.proofs.LineEnds.{whole_line}
use Rattle.type_table.proofs.table.Table.is_whole.Goals as goal

pub returns : goal.returns
returns c =
    let parents = c.args.self.now.parents in
    let l = c.args.line in
    record {
      whole = λ (yes : IsTrue c.is_within.result).
          let ends : below c.parents.result.now l.steps l.class 0 ≡ true = sym c.is_within.ensures ∙ yes in
          whole_line parents l c.requires.short (ap (λ p. below p l.steps l.class 0) (sym c.parents.ensures) ∙ ends);
    }
