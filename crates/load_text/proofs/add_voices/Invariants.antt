use Rattle.std.proofs.Common.{◌≡◌, ◌++◌}
use Rattle.load_text.specs.LoadText.{voices, words_after}
use Rattle.load_text.proofs.add_voices.Given as goal

-- the voices so far are written, and their words are drawn
abbrev pub invariant-loop-number : goal.invariant-loop-number
invariant-loop-number l =
    (l.into.items ≡ l.fn.into.items ++ voices l.seed l.number)
    × (l.words ≡ words_after l.seed l.number)
