-- Where nothing is connected and nothing sounds, a sample leaves all as it is.
use Rattle.std.proofs.Common.{◌≡◌, ℕ, Bool, true, false, List, [], length, arith}
use Rattle.std.specs.Bool.{OnTrue, ◌==◌}
use Rattle.std.proofs.lemmas.Bool.Decides.{nat_tests}
use Rattle.std.proofs.lemmas.Grind.{common_steps}
use Rattle.ugen_kinds.specs.SoundFile.{no_waves}
use Rattle.ugen_sample.specs.Order.{roots}
use Rattle.ugen_sample.specs.Sample.{sampled}
use Rattle.ugen_sample.specs.Still.{IsStill}
use Rattle.ugen_sample.specs.UnitState.{Units, unit_at}
use Rattle.ugen_sample.proofs.Stillness.{silence_stays}
use Rattle.ugen_graph.specs.declared.link.Link.{Link}
use Rattle.ugen_graph.specs.Wiring.{connections_of}

pub none_linked : (links : List Link) (count : ℕ) → count ≡ length links → true ≡ (count == 0)
    → links ≡ []
none_linked links count is none = grind (arith, common_steps, nat_tests)

on_true : (b : Bool) (P Q : Type 0) → (P → Q) → OnTrue b P → OnTrue b Q
on_true true P Q f p = f p
on_true false P Q f p = p

pub silent_is : (nodes : Units) (links : List Link) (b : Bool) → links ≡ []
    → IsStill (unit_at nodes 0) → OnTrue b (IsStill (unit_at nodes 1))
    → OnTrue b (nodes ≡ sampled no_waves roots (connections_of links) nodes)
silent_is nodes links b none s t =
    rw none (on_true b _ _ (silence_stays no_waves nodes s) t)
