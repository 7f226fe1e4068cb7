use Rattle.std.proofs.Common.{refl}
use Rattle.ck_lexer.specs.Tables.{marks}
use Rattle.ck_lexer.proofs.table.mark_rows.Goals as goal

pub returns-clause-rows : goal.returns-clause-rows
unfolding marks
returns-clause-rows c = refl
