use Rattle.std.proofs.Common.{◌≡◌, drop}
use Rattle.std.specs.Prelude.{find}
use Rattle.ugen_names.specs.Table.{rows, is_of}
use Rattle.ugen_names.proofs.look_up.unit_name.Given as goal

abbrev pub invariant-loop-row : goal.invariant-loop-row
invariant-loop-row l = find (is_of l.kind) rows ≡ find (is_of l.kind) (drop l.row-index rows)
