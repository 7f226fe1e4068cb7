-- Layouts that are found.
use Rattle.std.proofs.Common.{◌≡◌, ℕ, zero, suc, List, [], ◌∷◌, Option, Some, None, replicate, slice_set, refl, sym, subst}
use Rattle.type_table.specs.declared.layout.Layout.{Layout}
use Rattle.type_table.specs.Table.{Table, line}
use Rattle.type_table.specs.Layouts.{found_at, layout_of, IsFound, AreFound}

none_at : (n c : ℕ) → found_at (replicate n None) c ≡ None
none_at zero c = refl
none_at (suc n) zero = refl
none_at (suc n) (suc c) = none_at n c

pub none_found : (t : Table) (n : ℕ) → AreFound t (replicate n None)
none_found t n c = subst (IsFound t c) (sym (none_at n c)) tt

pub found_is : (t : Table) (found : List (Option Layout)) (c : ℕ) (l : Layout) → AreFound t found → found_at found c ≡ Some l → l ≡ layout_of t (line t c)
found_is t found c l are is = subst (IsFound t c) is (are c)

-- a change is one of the class, or of none
set_one : (P : ℕ → Option Layout → Type 0) (found : List (Option Layout)) (i c : ℕ) (l : Layout) → P i (Some l) → P c (found_at found c) → P c (found_at (slice_set found i (Some l)) c)
set_one P [] i c l one other = other
set_one P (x ∷ found) zero zero l one other = one
set_one P (x ∷ found) zero (suc c) l one other = other
set_one P (x ∷ found) (suc i) zero l one other = other
set_one P (x ∷ found) (suc i) (suc c) l one other = set_one (λ k o. P (suc k) o) found i c l one other

pub more_found : (t : Table) (found : List (Option Layout)) (i : ℕ) (l : Layout) → AreFound t found → l ≡ layout_of t (line t i) → AreFound t (slice_set found i (Some l))
more_found t found i l are is c = set_one (IsFound t) found i c l is (are c)
