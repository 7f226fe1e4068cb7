use Rattle.std.proofs.Common.{◌≡◌, drop, map}
use Rattle.std.specs.Prelude.{find}
use Rattle.ugen_names.specs.Table.{parameter_meant, is_called}
use Rattle.ugen_names.proofs.look_up.named_among.Given as goal

abbrev pub invariant-loop-parameter : goal.invariant-loop-parameter
invariant-loop-parameter l =
    find (is_called l.name) (map parameter_meant l.parameters)
    ≡ find (is_called l.name) (drop l.parameter-index (map parameter_meant l.parameters))
