use Rattle.std.proofs.Common.{◌≡◌, replicate}
use Rattle.ck_values.specs.Datum.{all_meant, default_of}
use Rattle.value_ops.proofs.rows.defaults.Given as goal

abbrev pub invariant-loop : goal.invariant-loop
invariant-loop l = all_meant l.items.items ≡ replicate l.counter (default_of l.elem)
