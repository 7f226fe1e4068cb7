use Rattle.std.proofs.Common.{◌∙◌, sym}
use Rattle.type_table.proofs.BracketLists.{empty_next, size_stops}
use Rattle.type_table.proofs.types.are_all_empty.Goals as goal

pub returns-in-Size : goal.returns-in-Size
returns-in-Size c = sym (c.loop-bracket.invariant ∙ size_stops c.args.brackets.now c.loop-bracket.bracket-index c.bracket-item.result c.loop-bracket-test.true c.bracket-item.is _ c.in-Size.is)

pub loop-bracket-preserved : goal.loop-bracket-preserved
loop-bracket-preserved c = c.loop-bracket.invariant ∙ empty_next c.args.brackets.now c.loop-bracket.bracket-index c.bracket-item.result c.loop-bracket-test.true c.bracket-item.is c.in-Empty.is
