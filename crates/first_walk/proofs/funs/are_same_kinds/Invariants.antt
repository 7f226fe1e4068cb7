use Rattle.std.proofs.Common.{◌≡◌, drop}
use Rattle.first_walk.specs.FirstWalk.{same_kinds}
use Rattle.first_walk.proofs.funs.are_same_kinds.Given as goal

abbrev pub invariant-loop-i : goal.invariant-loop-i
invariant-loop-i l = same_kinds l.a l.b ≡ same_kinds (drop l.i l.a) (drop l.i l.b)
