use Rattle.std.proofs.Common.{length, ◌+◌, ◌≤◌}
use Rattle.parse_exprs.specs.Machine.{pairs}
use Rattle.parse_exprs.specs.Reads.{Leads}
use Rattle.parse_exprs.proofs.type_name.bracket_pairs.Given as goal

abbrev pub invariant-loop-open : goal.invariant-loop-open
invariant-loop-open l = (Leads (λ k. pairs l.depth 0 k) (λ k. pairs l.depth l.count k) l.tokens
    l.rest) × (l.count + length l.rest ≤ length l.tokens)

abbrev pub decreases-loop-open : goal.decreases-loop-open
decreases-loop-open l = length l.rest
