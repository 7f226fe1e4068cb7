use Rattle.std.proofs.Common.{refl}
use Rattle.ck_lexer.specs.Tables.{words}
use Rattle.ck_lexer.proofs.table.word_rows.Goals as goal

pub returns : goal.returns
unfolding words
returns c = refl
