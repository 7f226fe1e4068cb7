use Rattle.std.proofs.Common.{◌≡◌, ◌*◌, ◌-◌, ◌≤◌}
use Rattle.fixed_point.proofs.phase.quotient.Given as goal

abbrev pub invariant-down : goal.invariant-down
invariant-down l = record { is : l.product ≡ l.q * l.wide; most : l.q ≤ l.fn.guess }

abbrev pub decreases-down : goal.decreases-down
decreases-down l = l.q

abbrev pub invariant-up : goal.invariant-up
invariant-up l = record { is : l.product ≡ l.q * l.wide; most : l.product ≤ l.n }

abbrev pub decreases-up : goal.decreases-up
decreases-up l = l.n - l.product
