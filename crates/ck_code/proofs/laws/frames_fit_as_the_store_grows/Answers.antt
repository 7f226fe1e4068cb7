use Rattle.ck_code.proofs.Frames.{frames_kept}
use Rattle.ck_code.proofs.laws.frames_fit_as_the_store_grows.Goals as goal

pub returns : goal.returns
returns c =
    λ code verified main frames before after kept.
    frames_kept code verified.typing main before after kept frames
