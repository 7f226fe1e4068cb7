use Rattle.sample_buf.proofs.Written.{written}
use Rattle.sample_buf.proofs.laws.what_is_written_is_read.Goals as goal

pub returns : goal.returns
returns c = written
