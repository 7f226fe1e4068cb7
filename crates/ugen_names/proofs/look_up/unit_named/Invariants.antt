use Rattle.std.proofs.Common.{◌≡◌, drop}
use Rattle.std.specs.Prelude.{find}
use Rattle.ugen_names.specs.Table.{rows, is_named}
use Rattle.ugen_names.proofs.look_up.unit_named.Given as goal

abbrev pub invariant-loop-row : goal.invariant-loop-row
invariant-loop-row l = find (is_named l.name) rows ≡ find (is_named l.name) (drop l.row-index rows)
