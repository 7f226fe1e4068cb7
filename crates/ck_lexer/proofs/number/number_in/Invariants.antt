use Rattle.std.proofs.Common.{◌≡◌, ◌≤◌, take}
use Rattle.ck_lexer.specs.Numbers.{number_in, max_int}
use Rattle.ck_lexer.proofs.number.number_in.Given as goal

abbrev pub invariant-loop-digit : goal.invariant-loop-digit
invariant-loop-digit l = record { value : l.number ≡ number_in l.base (take l.digit-index l.digits); within : l.number ≤ max_int }
