use Rattle.std.proofs.Common.{◌≡◌, ◌-◌}
use Rattle.type_rules.specs.Fitting.{below}
use Rattle.type_rules.proofs.fitting.is_within.Given as goal

abbrev pub invariant-loop : goal.invariant-loop
invariant-loop l = below l.parents l.steps l.class l.ancestor ≡ below l.parents (l.steps - l.counter) l.at l.ancestor
