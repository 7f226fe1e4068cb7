use Rattle.ugen_kinds.specs.SoundFile.{no_waves}
use Rattle.ugen_sample.proofs.Mono.{sample_alike, sample_mono, made_mono, replaced_mono}
use Rattle.ugen_sample.proofs.laws.without_sides_both_channels_are_one.Goals as goal

pub returns-clause-same : goal.returns-clause-same
returns-clause-same c waves roots cs units h a = sample_alike waves cs h roots units a

pub returns-clause-stays : goal.returns-clause-stays
returns-clause-stays c roots cs units h a = sample_mono no_waves cs h roots units a

pub returns-clause-made : goal.returns-clause-made
returns-clause-made c = made_mono

pub returns-clause-set : goal.returns-clause-set
returns-clause-set c = replaced_mono
