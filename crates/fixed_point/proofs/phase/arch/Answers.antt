use Rattle.fixed_point.proofs.Arches.{arch_quick, arch_most, base_least}
use Rattle.fixed_point.proofs.phase.arch.Goals as goal

pub quotient-requires-clause-divisor : goal.quotient-requires-clause-divisor
quotient-requires-clause-divisor c = base_least c.args.phase c.requires

pub returns-clause-size : goal.returns-clause-size
returns-clause-size c = arch_quick c.args.phase c.from.result c.quotient.result c.requires c.from.ensures c.quotient.ensures

pub returns-clause-bound : goal.returns-clause-bound
returns-clause-bound c = arch_most c.args.phase c.requires
