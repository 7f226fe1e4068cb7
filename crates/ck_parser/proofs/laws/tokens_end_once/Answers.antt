use Rattle.ck_parser.proofs.Ends.{ends_of_tokens}
use Rattle.ck_parser.proofs.laws.tokens_end_once.Goals as goal

pub returns : goal.returns
returns c = ends_of_tokens
