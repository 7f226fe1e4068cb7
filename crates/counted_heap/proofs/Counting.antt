-- Counting places.
use Rattle.std.proofs.lemmas.Bool.Decides.{nat_tests}
use Rattle.std.proofs.Common.{◌≡◌, ◌≢◌, ℕ, zero, suc, ◌+◌, ◌<◌, ◌≤◌, List, [], ◌∷◌, ◌++◌, Some, refl, ap, ◌∙◌, arith, set}
use Rattle.std.specs.Prelude.{slice_get, reverse}
use Rattle.std.proofs.lemmas.List.{reverse-append}
use Rattle.ck_values.specs.declared.reference.Ref.{Ref}
use Rattle.ck_values.specs.declared.value.Value.{Value}
use Rattle.counted_heap.specs.Places.{hit, hits, places}

pub places-append : (r : Ref) (xs ys : List Value) → places r (xs ++ ys) ≡ places r xs + places r ys
places-append r [] ys = omega arith
places-append r (x ∷ xs) ys = omega (arith, places-append r xs ys)

pub places-push : (r : Ref) (xs : List Value) (y : Value)
    → places r (xs ++ y ∷ []) ≡ places r xs + hits r y
places-push r xs y = omega (arith, places-append r xs (y ∷ []))

pub places-set : (r : Ref) (xs : List Value) (i : ℕ) (y x : Value) → slice_get xs i ≡ Some x
    → places r (set xs i y) + hits r x ≡ places r xs + hits r y
places-set r [] i y x e = absurd (cc)
places-set r (z ∷ xs) zero y x e = let same : z ≡ x = cc in rw same (omega arith)
places-set r (z ∷ xs) (suc i) y x e = omega (arith, places-set r xs i y x e)

pub places-get : (r : Ref) (xs : List Value) (i : ℕ) (x : Value) → slice_get xs i ≡ Some x
    → hits r x ≤ places r xs
places-get r [] i x e = absurd (cc)
places-get r (z ∷ xs) zero x e = let same : z ≡ x = cc in rw same (omega arith)
places-get r (z ∷ xs) (suc i) x e = omega (arith, places-get r xs i x e)

-- a reference that isn't null refers to itself
pub hit-same : (r q : Ref) → 0 < q.serial → q.serial ≡ r.serial → q.slot ≡ r.slot → hit r q ≡ 1
unfolding hit
hit-same r q some serial slot = grind (arith, nat_tests)

pub hit-serial : (r q : Ref) → q.serial ≢ r.serial → hit r q ≡ 0
unfolding hit
hit-serial r q other = grind (arith, nat_tests)

pub hit-slot : (r q : Ref) → q.slot ≢ r.slot → hit r q ≡ 0
unfolding hit
hit-slot r q other = grind (arith, nat_tests)

-- a reference refers to an object once at most
pub hit-one : (r q : Ref) → hit r q ≤ 1
unfolding hit
hit-one r q = grind (arith, nat_tests)

pub hit-null : (r q : Ref) → q.serial ≡ 0 → hit r q ≡ 0
unfolding hit
hit-null r q null = grind (arith, nat_tests)

pub places-reverse : (r : Ref) (xs : List Value) → places r (reverse xs) ≡ places r xs
places-reverse r [] = refl
places-reverse r (x ∷ xs) =
    let e : reverse (x ∷ xs) ≡ reverse xs ++ x ∷ [] = reverse-append (x ∷ []) xs in
    ap (places r) e ∙ omega (arith, places-push r (reverse xs) x, places-reverse r xs)
