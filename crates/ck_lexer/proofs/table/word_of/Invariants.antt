use Rattle.std.proofs.Common.{◌≡◌, drop}
use Rattle.ck_lexer.specs.Tables.{look_up, words}
use Rattle.ck_lexer.proofs.table.word_of.Given as goal

abbrev pub invariant-loop-spelling : goal.invariant-loop-spelling
invariant-loop-spelling l = look_up words l.name ≡ look_up (drop l.spelling-index words) l.name
