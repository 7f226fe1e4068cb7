-- Unit generators stay as they are, whatever is made beside them or put in other bodies.
use Rattle.std.proofs.Common.{◌≡◌, ℕ, zero, suc, ◌-◌, nat_lt, Bool, true, false, List, [], ◌∷◌, ◌++◌, Option, Some, None, if◌then◌else◌, slice_get, slice_set, ap, sym, subst, ◌∙◌}
use Rattle.ck_values.specs.declared.reference.Ref.{Ref}
use Rattle.ck_values.specs.declared.value.Value.{Value}
use Rattle.object_heap.specs.declared.body.Body.{Body}
use Rattle.object_heap.specs.declared.body.Body.TheVariants.{Ugen}
use Rattle.object_heap.specs.Objects.{Objects, object, MakesObject, with_values, with_body}
use Rattle.value_ops.specs.Heaps.{KeepsUnits}

pub units_same : (old new : Objects) → new ≡ old → KeepsUnits old new
units_same old new same = record { kept = λ at node is. ap (λ (h : Objects). object h at) same ∙ is }

pub units_then : (old mid new : Objects) → KeepsUnits old mid → KeepsUnits mid new
    → KeepsUnits old new
units_then old mid new one more = record { kept = λ at node is. more.kept at node (one.kept at node is) }

-- other values change no unit generator
stays_unit : (b old : Body) (values : List Value) (node : ℕ) → old ≡ b → old ≡ Ugen node
    → with_values b values ≡ Ugen node
stays_unit b old values node is unit = ap (λ k. with_values k values) (sym is ∙ unit)

get_kept : (bodies : List Body) (i j : ℕ) (b : Body) (values : List Value) (node : ℕ)
    → slice_get bodies i ≡ Some b → slice_get bodies j ≡ Some (Ugen node)
    → slice_get (slice_set bodies i (with_values b values)) j ≡ Some (Ugen node)
get_kept [] i j b values node here there = absurd (cc)
get_kept (x ∷ xs) zero zero b values node here there =
    ap Some (stays_unit b x values node (cc) (cc))
get_kept (x ∷ xs) zero (suc j) b values node here there = there
get_kept (x ∷ xs) (suc i) zero b values node here there = there
get_kept (x ∷ xs) (suc i) (suc j) b values node here there =
    get_kept xs i j b values node here there

-- what is found past the first number is found among the bodies
found_past : (before : Bool) (o : Option Body) (b : Body)
    → ◌≡◌ {A = Option Body} (if before then None else o) (Some b) → o ≡ Some b
found_past true o b is = absurd (cc)
found_past false o b is = is

found_still : (before : Bool) (o p : Option Body) (b : Body)
    → ◌≡◌ {A = Option Body} (if before then None else o) (Some b) → (o ≡ Some b → p ≡ Some b)
    → ◌≡◌ {A = Option Body} (if before then None else p) (Some b)
found_still true o p b is so = absurd (cc)
found_still false o p b is so = so is

-- other values in the place of those of an object
pub units_put : (heap : Objects) (r : Ref) (b : Body) (values : List Value)
    → object heap r ≡ Some b → KeepsUnits heap (with_body heap r (with_values b values))
units_put heap r b values found =
    let i = r.serial - heap.first in
    let here = found_past (nat_lt r.serial heap.first) (slice_get heap.bodies i) b found in
    record {
      kept = λ at node is.
          let j = at.serial - heap.first in
          found_still (nat_lt at.serial heap.first) (slice_get heap.bodies j)
          (slice_get (slice_set heap.bodies i (with_values b values)) j) (Ugen node) is
          (get_kept heap.bodies i j b values node here);
    }

-- the other objects are still there
pub get_before : {A : Type 0} → (xs ys : List A) (i : ℕ) (x : A) → slice_get xs i ≡ Some x
    → slice_get (xs ++ ys) i ≡ Some x
get_before [] ys i x is = absurd (cc)
get_before (z ∷ xs) ys zero x is = is
get_before (z ∷ xs) ys (suc i) x is = get_before xs ys i x is

-- one more object
pub units_more : (heap : Objects) (b : Body)
    → KeepsUnits heap (record heap { bodies = heap.bodies ++ b ∷ [] })
units_more heap b = record {
  kept = λ at node is.
      let j = at.serial - heap.first in
      found_still (nat_lt at.serial heap.first) (slice_get heap.bodies j)
      (slice_get (heap.bodies ++ b ∷ []) j) (Ugen node) is (get_before heap.bodies (b ∷ []) j (Ugen node));
}

pub units_made : (old new : Objects) (at : Ref) (b : Body) → MakesObject old b at new
    → KeepsUnits old new
units_made old new at b made = subst (KeepsUnits old) (sym made.objects) (units_more old b)
