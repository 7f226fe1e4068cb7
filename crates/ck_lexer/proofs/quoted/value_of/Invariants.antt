use Rattle.std.proofs.Common.{◌≡◌, ◌≤◌, ◌-◌, length, drop}
use Rattle.ck_lexer.proofs.TextLemmas.{text_in, after}
use Rattle.ck_lexer.proofs.quoted.value_of.Given as goal

abbrev pub invariant-loop-n : goal.invariant-loop-n
invariant-loop-n l = record { within : l.n ≤ length l.bytes; so_far : text_in l.bytes ≡ after l.value.items l.n (text_in (drop l.n l.bytes)) }

abbrev pub decreases-loop-n : goal.decreases-loop-n
decreases-loop-n l = length l.bytes - l.n
