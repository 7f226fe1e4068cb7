-- Changes of one item of a list.
use Rattle.std.proofs.Common.{◌≡◌, ℕ, zero, suc, ◌≤◌, List, [], ◌∷◌, length, slice_get, slice_set, Some, refl, sym, ap, arith}
use Rattle.std.proofs.lemmas.Option.{same_Some}

-- a change past the end changes nothing
pub set_past : {A : Type 0} (xs : List A) (i : ℕ) (x : A) → length xs ≤ i → slice_set xs i x ≡ xs
set_past [] i x le = refl
set_past (y ∷ xs) zero x le = absurd (omega (arith, le))
set_past (y ∷ xs) (suc i) x le = ap (λ l. y ∷ l) (set_past xs i x (omega (arith, le)))

-- nor does a change to what is there
pub set_self : {A : Type 0} (xs : List A) (i : ℕ) (x : A) → slice_get xs i ≡ Some x → slice_set xs i x ≡ xs
set_self [] i x is = refl
set_self (y ∷ xs) zero x is = ap (λ z. z ∷ xs) (sym (same_Some y x is))
set_self (y ∷ xs) (suc i) x is = ap (λ l. y ∷ l) (set_self xs i x is)
