-- Operands that are taken one after another, or looked at, where a step on them fits.
use Rattle.std.proofs.Common.{◌≡◌, List, [], ◌∷◌, Some, slice_get, unwrap_or, ap, subst}
use Rattle.ck_values.specs.Datum.{Datum}
use Rattle.ck_store.specs.Store.{Try, IsFitting}
use Rattle.machine_world.specs.Shown.{Shown}
use Rattle.machine_world.specs.Steps.{of_top, of_two}
use Rattle.machine_world.proofs.Changed.{with_operands, of_three}

-- the operands before one was taken from the top
pub taken_off : (old new : Shown) (x : Datum) → old ≡ with_operands new (x ∷ new.top.operands)
    → old.top.operands ≡ x ∷ new.top.operands
taken_off old new x is = ap (λ (s : Shown). s.top.operands) is

module _ {A : Type 0} where
  -- from the one on the top
  pub one_taken : (step : Datum → Try A) (old new : Shown) (x : Datum)
      → old ≡ with_operands new (x ∷ new.top.operands) → IsFitting (of_top old.top.operands step)
      → IsFitting (step x)
  one_taken step old new x is fits =
      subst (λ (s : Shown). IsFitting (of_top s.top.operands step)) is fits

  pub first_of_two : (step : Datum → Datum → Try A) (old new : Shown) (y : Datum)
      → old ≡ with_operands new (y ∷ new.top.operands) → IsFitting (of_two old.top.operands step)
      → IsFitting (of_top new.top.operands (λ x. step x y))
  first_of_two step old new y is fits =
      subst (λ (s : Shown). IsFitting (of_two s.top.operands step)) is fits

  pub first_of_three : (step : Datum → Datum → Datum → Try A) (old new : Shown) (z : Datum)
      → old ≡ with_operands new (z ∷ new.top.operands) → IsFitting (of_three old.top.operands step)
      → IsFitting (of_two new.top.operands (λ x y. step x y z))
  first_of_three step old new z is fits =
      subst (λ (s : Shown). IsFitting (of_three s.top.operands step)) is fits

  -- of whatever is there
  pub whatever : (P : Type 0) (step : Datum → Try A) (ops : List Datum)
      → ((x : Datum) → IsFitting (step x) → P) → IsFitting (of_top ops step) → P
  whatever P step [] on fits = absurd fits
  whatever P step (x ∷ ops) on fits = on x fits

  -- of the one that was looked at
  pub looked_at : (step : Datum → Try A) (ops : List Datum) (x : Datum)
      → slice_get ops 0 ≡ Some x → IsFitting (of_top ops step) → IsFitting (step x)
  looked_at step [] x is fits = absurd fits
  looked_at step (y ∷ ops) x is fits =
      subst (λ (d : Datum). IsFitting (step d)) (ap (λ o. unwrap_or o y) is) fits

  pub looked_beneath : (step : Datum → Datum → Try A) (ops : List Datum) (x y : Datum)
      → slice_get ops 1 ≡ Some x → slice_get ops 0 ≡ Some y → IsFitting (of_two ops step)
      → IsFitting (step x y)
  looked_beneath step [] x y is top fits = absurd fits
  looked_beneath step (z ∷ []) x y is top fits = absurd fits
  looked_beneath step (z ∷ w ∷ ops) x y is top fits =
      subst (λ (d : Datum). IsFitting (step d y)) (ap (λ o. unwrap_or o w) is)
      (subst (λ (d : Datum). IsFitting (step w d)) (ap (λ o. unwrap_or o z) top) fits)

  -- and of the one beneath whatever is on the top
  pub beneath_whatever : (P : Type 0) (step : Datum → Datum → Try A) (ops : List Datum) (x : Datum)
      → ((y : Datum) → IsFitting (step x y) → P) → slice_get ops 1 ≡ Some x
      → IsFitting (of_two ops step) → P
  beneath_whatever P step [] x on is fits = absurd fits
  beneath_whatever P step (z ∷ []) x on is fits = absurd fits
  beneath_whatever P step (z ∷ w ∷ ops) x on is fits =
      on z (subst (λ (d : Datum). IsFitting (step d z)) (ap (λ o. unwrap_or o w) is) fits)
