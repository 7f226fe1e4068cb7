-- A slice that has gone on, from where it began.
use Rattle.std.proofs.Common.{◌≡◌, ◌+◌, ◌-◌, ℕ, refl, ◌∙◌, arith}
use Rattle.ck_code.specs.declared.code.CodeParts.{CodeParts}
use Rattle.ck_store.specs.Store.{State}
use Rattle.shred_state.specs.Frames.{Standing}
use Rattle.loop_steps.specs.Ints.{HasGoneOn}
use Rattle.loop_steps.specs.Runs.{IsOver, run_of}

-- not yet
pub starts : (code : CodeParts) (s : Standing) (t : State) (place : ℕ) → IsOver (run_of code s t)
    → HasGoneOn code 0 0 s t 0 (place - place) s t
starts code s t place over = record {
  over = over;
  alike = refl;
  counts = omega arith;
  lower = omega arith;
}

-- and then again
pub then_on : (code : CodeParts) (a b r k q m : ℕ) (x y z : Standing) (s t u : State)
    → HasGoneOn code a b x s r k y t → HasGoneOn code r k y t q m z u
    → HasGoneOn code a b x s q m z u
then_on code a b r k q m x y z s t u first later = record {
  over = later.over;
  alike = later.alike ∙ first.alike;
  counts = later.counts ∙ first.counts;
  lower = omega (arith, first.lower, later.lower);
}

pub none_more : (n : ℕ) → 0 + n ≡ n
none_more n = omega arith
