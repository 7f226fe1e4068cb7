use Rattle.std.proofs.Common.{◌≡◌, drop}
use Rattle.std.specs.Prelude.{find}
use Rattle.type_rules.specs.Calls.{calls, takes}
use Rattle.type_rules.proofs.calls.call.Given as goal

abbrev pub invariant-loop-row : goal.invariant-loop-row
invariant-loop-row l = find (takes l.holder l.name l.count) calls ≡ find (takes l.holder l.name l.count) (drop l.row-index calls)
