use Rattle.std.proofs.Common.{◌∙◌}
use Rattle.ck_lexer.proofs.NumberLemmas.{too_great}
use Rattle.ck_lexer.proofs.number.number_in.Goals as goal

pub returns-then-number-gt-MAX_INT : goal.returns-then-number-gt-MAX_INT
returns-then-number-gt-MAX_INT c =
    too_great c.args.base c.args.digits.now c.loop-digit.digit-index c.loop-digit.number _ _ c.requires.at_least c.loop-digit-test.true c.loop-digit.invariant.value c.from.ensures (c.from-in-loop-digit.ensures ∙ c.digit_value.ensures.value) c.if-number-gt-MAX_INT.true
