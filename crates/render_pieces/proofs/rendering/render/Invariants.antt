use Rattle.std.proofs.Common.{◌≡◌, ◌+◌}
use Rattle.render_pieces.proofs.rendering.render.Given as goal

-- what is made and what is left are all samples
abbrev pub invariant-loop-left : goal.invariant-loop-left
invariant-loop-left l = l.vm.samples + l.left ≡ 100_000

abbrev pub decreases-loop-left : goal.decreases-loop-left
decreases-loop-left l = l.left
