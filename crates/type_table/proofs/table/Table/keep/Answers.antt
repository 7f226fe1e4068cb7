use Rattle.std.proofs.Common.{ap, sym, subst, ◌∙◌}
use Rattle.type_table.specs.Layouts.{AreFound, layout_of}
use Rattle.type_table.proofs.Found.{more_found}
use Rattle.type_table.proofs.table.Table.keep.Goals as goal

pub returns-in_ok-share : goal.returns-in_ok-share
returns-in_ok-share c =
    let t = c.args.self.now in
    let is = c.in_ok-share.ensures ∙ c.requires.layout ∙ ap (layout_of t) (c.is_whole.ensures.whole c.if-is_whole.true) in
    subst (AreFound t) (sym c.set.ensures) (more_found t c.args.found.now c.args.line.class c.in_ok-share.field-0 c.requires.found is)
