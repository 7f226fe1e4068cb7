use Rattle.std.proofs.Common.{◌≡◌, drop}
use Rattle.std.specs.List.{list_any}
use Rattle.type_rules.specs.Calls.{calls, is_called}
use Rattle.type_rules.proofs.calls.has_call.Given as goal

abbrev pub invariant-loop-row : goal.invariant-loop-row
invariant-loop-row l = list_any (is_called l.holder l.name) calls ≡ list_any (is_called l.holder l.name) (drop l.row-index calls)
