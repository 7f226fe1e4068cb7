use Rattle.std.proofs.Common.{◌∙◌, sym, refl}
use Rattle.ck_parser.proofs.EmptyPairs.{counted, empty_next, size_stops}
use Rattle.ck_syntax.specs.Tree.{no_brackets}
use Rattle.ck_parser.proofs.plain_stmt.empty_pairs.Goals as goal

pub loop-bracket-init : goal.loop-bracket-init
loop-bracket-init c = counted 0 no_brackets c.args.brackets.now refl

pub returns-in-Size : goal.returns-in-Size
returns-in-Size c = sym (c.loop-bracket.invariant ∙ size_stops c.args.brackets.now
    c.loop-bracket.bracket-index c.bracket-item.result c.loop-bracket-test.true c.bracket-item.is _
    c.in-Size.is)

pub loop-bracket-preserved : goal.loop-bracket-preserved
loop-bracket-preserved c = c.loop-bracket.invariant ∙ empty_next c.args.brackets.now
    c.loop-bracket.bracket-index c.bracket-item.result c.loop-bracket-test.true c.bracket-item.is
    c.in-Empty.is
