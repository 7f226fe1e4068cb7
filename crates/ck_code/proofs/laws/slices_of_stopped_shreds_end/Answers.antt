use Rattle.ck_code.proofs.Runs.{slice_is_over}
use Rattle.ck_code.proofs.laws.slices_of_stopped_shreds_end.Goals as goal

pub returns : goal.returns
returns c = slice_is_over
