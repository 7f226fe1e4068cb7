use Rattle.std.proofs.Common.{◌≡◌, ◌++◌}
use Rattle.load_text.specs.LoadText.{sporks}
use Rattle.load_text.proofs.add_sporks.Given as goal

-- the sporks so far are written
abbrev pub invariant-loop-number : goal.invariant-loop-number
invariant-loop-number l = l.into.items ≡ l.fn.into.items ++ sporks l.number
