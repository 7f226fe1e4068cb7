use Rattle.std.proofs.Common.{rules, ◌∙◌, sym, ap}
use Rattle.ck_syntax.specs.View.{view_tail}
use Rattle.ck_syntax.proofs.Views.{view-Brackets}
use Rattle.type_table.specs.Types.{written_kind}
use Rattle.first_walk.proofs.declarations.written_kind.Goals as goal

pub returns-in-Brackets : goal.returns-in-Brackets
returns-in-Brackets c =
    let n = c.args.declarator.now.name in
    let is = ap (view_tail n) c.in-Brackets.is ∙ view-Brackets n _ in
    c.declared_kind.ensures ∙ search (rules, ap (written_kind c.args.head.now c.args.named) (sym is))
