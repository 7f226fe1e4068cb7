use Rattle.ck_lexer.proofs.Millionths.{prints_as_written}
use Rattle.ck_lexer.proofs.laws.floats_print_as_written.Goals as goal

pub returns : goal.returns
returns c whole decimals digits short small = prints_as_written whole decimals digits small short
