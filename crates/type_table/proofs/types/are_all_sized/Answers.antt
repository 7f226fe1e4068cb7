use Rattle.std.proofs.Common.{◌∙◌, sym}
use Rattle.type_table.proofs.BracketLists.{size_next, empty_stops}
use Rattle.type_table.proofs.types.are_all_sized.Goals as goal

pub returns-in-Empty : goal.returns-in-Empty
returns-in-Empty c = sym (c.loop-bracket.invariant ∙ empty_stops c.args.brackets.now c.loop-bracket.bracket-index c.bracket-item.result c.loop-bracket-test.true c.bracket-item.is c.in-Empty.is)

pub loop-bracket-preserved : goal.loop-bracket-preserved
loop-bracket-preserved c = c.loop-bracket.invariant ∙ size_next c.args.brackets.now c.loop-bracket.bracket-index c.bracket-item.result c.loop-bracket-test.true c.bracket-item.is _ c.in-Size.is
