use Rattle.std.proofs.Common.{◌≡◌, drop}
use Rattle.type_table.specs.Names.{built_in_names, lookup}
use Rattle.type_table.proofs.built_ins.built_in.Given as goal

abbrev pub invariant-loop-row : goal.invariant-loop-row
invariant-loop-row l = lookup l.name built_in_names ≡ lookup l.name (drop l.row-index built_in_names)
