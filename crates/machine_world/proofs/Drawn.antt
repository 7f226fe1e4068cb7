-- A number that is drawn between two stays between them.
use Rattle.std.proofs.Common.{◌≡◌, ℕ, ◌≤◌, ℤ, pos, ◌+ℤ◌, int_lt, Bool, true, false, cond, FitsSigned, arith, refl}
use Rattle.std.specs.Int.{w64, int_min}
use Rattle.std.proofs.lemmas.Int.{ints}
use Rattle.ck_store.specs.Random.{gap}

pub above_fits : (a b : ℤ) (part : ℕ) → FitsSigned w64 a → FitsSigned w64 b → part ≤ gap a b
    → FitsSigned w64 (int_min a b +ℤ pos part)
above_fits a b part fa fb le = by (int_lt b a) refl
  where
    by : (t : Bool) → int_lt b a ≡ t → FitsSigned w64 (cond t b a +ℤ pos part)
    by true is = record { sfits = grind (arith, ints, fa.sfits, fb.sfits, le, is) }
    by false is = record { sfits = grind (arith, ints, fa.sfits, fb.sfits, le, is) }

pub ruleset above = (above_fits)
