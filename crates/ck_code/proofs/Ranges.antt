-- The numbers of an instruction that finds its operands are in range.
use Rattle.std.proofs.Common.{◌≡◌, ℕ, zero, suc, ◌<◌, List, [], ◌∷◌, length, map, Some, refl, arith, slice_get}
use Rattle.std.proofs.lemmas.Option.{slice_get_within}
use Rattle.ck_values.specs.declared.kind.Kind.{Kind}
use Rattle.ck_typed.specs.declared.class.Class.{Class}
use Rattle.ck_typed.specs.WellFormed.{FoundWhere}
use Rattle.ck_code.specs.declared.instr.Instr.{Instr}
use Rattle.ck_code.specs.declared.instr.Instr.TheVariants.{Text, Local, Static, SetLocal, SetStatic, OpLocal, OpStatic, UnitInt, UnitFix, Jump, JumpZero, Each, Call, Spork, New, Ugen, Row, Grid, Lit, LitGrid, Print}
use Rattle.ck_code.specs.declared.code.Step.{Step}
use Rattle.ck_code.specs.declared.code.Fun.{Fun}
use Rattle.ck_code.specs.declared.code.CodeParts.{CodeParts}
use Rattle.ck_code.specs.Verified.{Places, operands_at, Typing, AreAt, Finds, Topped, Fits, IsInRange}
use Rattle.ck_code.proofs.Standing.{found_is, at_within}

-- what was found is there
found_within : {A : Type 0} (xs : List A) (i : ℕ) (P : A → Type 0) → FoundWhere (slice_get xs i) P
    → i < length xs
found_within [] i P h = absurd h
found_within (x ∷ xs) zero P h = omega arith
found_within (x ∷ xs) (suc i) P h = omega (arith, found_within xs i P h)

-- there is a top, of which something follows
of_top : {Q : Type 0} (ops : List Kind) (P : Kind → List Kind → Type 0) → Topped ops P
    → ((k : Kind) (beneath : List Kind) → P k beneath → Q) → Q
of_top [] P h next = absurd h
of_top (k ∷ beneath) P h next = next k beneath h

-- a place that is reached is there
pub finds_within : (classes : List Class) (places : Places) (t : ℕ) (ops : List Kind)
    → Finds classes places t ops → t < length places
finds_within classes places t ops h =
    let there = found_is (operands_at places t) _ h in at_within places t there.0 there.1

module _ (code : CodeParts) (typing : Typing) (fn : Fun) (f : ℕ) (places : Places)
    (as_long : length places ≡ length fn.code) where
  -- a place that is reached is one of the function's
  reached_within : (t : ℕ) (ops : List Kind) → Finds code.classes places t ops
      → t < length fn.code
  reached_within t ops h =
      omega (arith, finds_within code.classes places t ops h, as_long)

  pub fits_range : (p : ℕ) (i : Instr) (ops : List Kind) → Fits code typing fn f places p i ops
      → IsInRange code fn i
  fits_range p (Text k) ops h = h.0
  fits_range p (Local i) ops h = found_within fn.locals i _ h
  fits_range p (SetLocal i) ops h = found_within fn.locals i _ h
  fits_range p (OpLocal i o) ops h = found_within fn.locals i _ h
  fits_range p (Static i) ops h = found_within code.statics i _ h
  fits_range p (SetStatic i) ops h = found_within code.statics i _ h
  fits_range p (OpStatic i o) ops h = found_within code.statics i _ h
  fits_range p (UnitInt n d) ops h = h.0
  fits_range p (UnitFix n d) ops h = h.0
  fits_range p (Jump t) ops h = reached_within t ops h
  fits_range p (JumpZero t) ops h =
      of_top ops _ h (λ k beneath top. reached_within t beneath top.1.0)
  fits_range p (Each t) ops h = omega (arith, h.0, as_long)
  fits_range p (Call g) ops h = found_within code.funs g _ h
  fits_range p (Spork g) ops h = found_within code.funs g _ h
  fits_range p (New c) ops h = h.0
  fits_range p (Ugen kind) ops h = h.0
  fits_range p (Row e) ops h = h.0
  fits_range p (Grid e) ops h = h.0
  fits_range p (Lit e n) ops h = h.0
  fits_range p (LitGrid e n) ops h = h.0
  fits_range p (Print kinds) ops h = (h.0, h.1)
  fits_range p _ ops h = tt

-- where each place is reached, its operands are there
record HasOperands (places : Places) (p : ℕ) : Type 0 where
  pub ops : List Kind
  pub at : AreAt places p ops

shape_at : (shapes : List (List Kind)) (p : ℕ) → p < length (map Some shapes)
    → HasOperands (map Some shapes) p
shape_at [] p lt = absurd (omega arith)
shape_at (ops ∷ shapes) zero lt = record { ops = ops; at = refl }
shape_at (ops ∷ shapes) (suc p) lt =
    let h = shape_at shapes p (omega arith) in record { ops = h.ops; at = h.at }

-- so each of a function's numbers is in range whose places are all reached
pub all_in_range : (code : CodeParts) (typing : Typing) (fn : Fun) (f : ℕ)
    (shapes : List (List Kind)) → length (map Some shapes) ≡ length fn.code
    → ((p : ℕ) (step : Step) (ops : List Kind) → slice_get fn.code p ≡ Some step
    → AreAt (map Some shapes) p ops → Fits code typing fn f (map Some shapes) p step.instr ops)
    → (p : ℕ) (step : Step) → slice_get fn.code p ≡ Some step → IsInRange code fn step.instr
all_in_range code typing fn f shapes as_long each p step at =
    let within : p < length (map Some shapes) =
    omega (arith, slice_get_within fn.code p step at, as_long) in
    let here = shape_at shapes p within in
    fits_range code typing fn f (map Some shapes) as_long p step.instr here.ops
    (each p step here.ops at here.at)
