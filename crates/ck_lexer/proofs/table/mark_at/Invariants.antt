use Rattle.std.proofs.Common.{◌≡◌, drop}
use Rattle.ck_lexer.specs.Tables.{first_front, marks}
use Rattle.ck_lexer.proofs.table.mark_at.Given as goal

abbrev pub invariant-loop-spelling : goal.invariant-loop-spelling
invariant-loop-spelling l = first_front marks l.bytes ≡ first_front (drop l.spelling-index marks) l.bytes
