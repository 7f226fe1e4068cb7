use Rattle.ck_run.proofs.Sounds.{mono_run, mono_both}
use Rattle.ck_run.proofs.laws.without_sides_both_channels_are_one.Goals as goal

pub returns-clause-same : goal.returns-clause-same
returns-clause-same g c = λ runner mains statics n one. mono_run c.without_sides_both_channels_are_one.ensures.same c.without_sides_both_channels_are_one.ensures.stays runner mains statics n one

pub returns-clause-sides : goal.returns-clause-sides
returns-clause-sides g c = λ runner mains statics n one. mono_both c.without_sides_both_channels_are_one.ensures.same c.without_sides_both_channels_are_one.ensures.stays runner mains statics n one
