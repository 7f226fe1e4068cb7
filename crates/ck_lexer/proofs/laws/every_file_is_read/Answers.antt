use Rattle.ck_lexer.proofs.Total.{read}
use Rattle.ck_lexer.proofs.laws.every_file_is_read.Goals as goal

pub returns : goal.returns
returns c = read
