use Rattle.std.proofs.Common.{ap}
use Rattle.fixed_point.specs.Decimals.{signed_six_decimals, text_of}
use Rattle.fixed_point.proofs.Texts.{text_of-injective}
use Rattle.fixed_point.proofs.laws.texts_tell_millionths_apart.Goals as goal

pub returns : goal.returns
unfolding text_of
returns c = λ a b raw_a raw_b. (text_of-injective a b raw_a raw_b, ap signed_six_decimals)
