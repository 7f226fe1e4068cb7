use Rattle.std.proofs.Common.{drop, refl, sym, ap, ◌∙◌}
use Rattle.type_table.proofs.WholeLine.{whole}
use Rattle.type_table.proofs.line.ancestors_by.Goals as goal

pub returns : goal.returns
returns c = ap (drop 1) (sym c.above_by.ensures.above ∙ whole c.args.parents.now _ c.args.class refl refl)
