use Rattle.std.proofs.Common.{◌-◌, length}
use Rattle.ck_lexer.proofs.Readings.{ReadTo}
use Rattle.ck_lexer.proofs.scan.tokens.Given as goal

abbrev pub invariant-loop-at : goal.invariant-loop-at
invariant-loop-at l = ReadTo l.bytes l.tokens.items l.at l.line

abbrev pub decreases-loop-at : goal.decreases-loop-at
decreases-loop-at l = length l.bytes - l.at
