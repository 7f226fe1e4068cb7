use Rattle.ugen_sample.proofs.Tables.{unit_reads, unit_at_first}
use Rattle.ugen_sample.proofs.laws.parameters_are_those_of_the_table.Goals as goal

pub returns-clause-read : goal.returns-clause-read
returns-clause-read c = unit_reads

pub returns-clause-first : goal.returns-clause-first
returns-clause-first c = unit_at_first
