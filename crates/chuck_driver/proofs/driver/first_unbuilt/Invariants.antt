use Rattle.std.proofs.Common.{◌≡◌, ℕ, List, map}
use Rattle.ck_syntax.specs.View.{view_file}
use Rattle.chuck_driver.specs.Answer.{first_unbuilt}
use Rattle.chuck_driver.proofs.Unbuilt.{from_place}
use Rattle.chuck_driver.proofs.driver.first_unbuilt.Given as goal

abbrev pub invariant-loop-i : goal.invariant-loop-i
invariant-loop-i l = (names : List (List ℕ)) → first_unbuilt names (map view_file l.trees)
    ≡ from_place l.i names l.trees
