use Rattle.ck_code.proofs.Ends.{slice_ends}
use Rattle.ck_code.proofs.laws.slices_end.Goals as goal

pub returns : goal.returns
returns c = slice_ends
