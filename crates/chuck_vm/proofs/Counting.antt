-- Counts of the instructions that were begun.
use Rattle.std.proofs.Common.{◌≡◌, ℕ, ◌+◌, arith}
use Rattle.chuck_vm.specs.Tallies.{as_counted, Counts}

pub none_counted : (count : ℕ) → Counts 0 count count
none_counted count lt = omega (arith, lt)

pub more_counted : (one two count count2 count3 : ℕ) → Counts one count count2 → Counts two count2 count3
    → Counts (one + two) count count3
more_counted one two count count2 count3 first next lt =
    let f = first lt in let n = next (omega (arith, f)) in omega (arith, f, n, lt)

-- from the count of a run on
pub counted_on : (so_far more count count2 : ℕ) → count ≡ as_counted so_far → Counts more count count2
    → count2 ≡ as_counted (so_far + more)
counted_on so_far more count count2 is counts = let n = counts (omega (arith, is)) in omega (arith, is, n)
