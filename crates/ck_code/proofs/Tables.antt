-- What stays as a store goes on: what is found in lists, and the objects, as one of them is
-- replaced or one more is made.
use Rattle.std.proofs.Common.{◌≡◌, ◌⊎◌, inl, inr, ℕ, zero, suc, ◌<◌, Bool, true, false, nat_lt, List, [], ◌∷◌, ◌++◌, length, Some, refl, sym, ap, ◌∙◌, subst, arith, slice_get, slice_set, option_and_then}
use Rattle.ck_values.specs.declared.kind.Kind.{Kind}
use Rattle.ck_base.specs.declared.limits.TheConstants.{MAX_OBJECTS}
use Rattle.ck_values.specs.declared.trap.Trap.TheVariants.{ObjectLimit}
use Rattle.ugen_sample.specs.UnitState.{Units}
use Rattle.ck_store.specs.Store.{Object, Shape, shape, shape_at, Keeps, Store, shapes_of, Gives, Fails}
use Rattle.ck_store.specs.Steps.{pick}
use Rattle.ck_store.specs.Objects.{Made, added}
use Rattle.ck_typed.specs.declared.class.Class.{Class}
use Rattle.ck_code.specs.declared.code.CodeParts.{CodeParts}
use Rattle.ck_code.specs.Fitting.{Refers, Suits, IsFitObject, AreFitObjects, IsFitStore}
use Rattle.ck_code.proofs.Standing.{where_found, kept_same, kept_trans, suit_kept, object_kept}
use Rattle.ck_code.proofs.Suiting.{Fine}
use Rattle.ck_code.proofs.Placed.{graph_shapes}

-- what is within is found
pub get_within : {A : Type 0} (xs : List A) (i : ℕ) → i < length xs
    → (x : A) × (slice_get xs i ≡ Some x)
get_within [] i lt = absurd (omega arith)
get_within (x ∷ xs) zero lt = (x, refl)
get_within (x ∷ xs) (suc i) lt = get_within xs i (omega arith)

pub get_last : {A : Type 0} (xs : List A) (y : A) → slice_get (xs ++ y ∷ []) (length xs) ≡ Some y
get_last [] y = refl
get_last (x ∷ xs) y = get_last xs y

get_either : {A : Type 0} (xs : List A) (y : A) (i : ℕ) (x : A)
    → slice_get (xs ++ y ∷ []) i ≡ Some x → (x ≡ y) ⊎ (slice_get xs i ≡ Some x)
get_either [] y zero x e = inl (cc)
get_either [] y (suc i) x e = absurd (cc)
get_either (z ∷ xs) y zero x e = inr e
get_either (z ∷ xs) y (suc i) x e = get_either xs y i x e

set_either : {A : Type 0} (xs : List A) (y : A) (n i : ℕ) (x : A)
    → slice_get (slice_set xs n y) i ≡ Some x → (x ≡ y) ⊎ (slice_get xs i ≡ Some x)
set_either [] y n i x e = inr e
set_either (z ∷ xs) y zero zero x e = inl (cc)
set_either (z ∷ xs) y zero (suc i) x e = inr e
set_either (z ∷ xs) y (suc n) zero x e = inr e
set_either (z ∷ xs) y (suc n) (suc i) x e = set_either xs y n i x e

-- one more object
kept_more : (units : Units) (objects : List Object) (o : Object)
    → Keeps (shape_at units objects) (shape_at units (objects ++ o ∷ []))
kept_more units objects o = record { each = λ n x e. go objects n x e }
  where
    go : (objects : List Object) (n : ℕ) (x : Shape) → shape_at units objects n ≡ Some x
        → shape_at units (objects ++ o ∷ []) n ≡ Some x
    go [] n x e = absurd (cc)
    go (y ∷ objects) zero x e = e
    go (y ∷ objects) (suc n) x e = go objects n x e

-- an object replaced by one of its shape
shape_set : (units : Units) (objects : List Object) (k : ℕ) (old new : Object) (n : ℕ) (x : Shape)
    → slice_get objects k ≡ Some old → shape units old ≡ shape units new
    → shape_at units objects n ≡ Some x → shape_at units (slice_set objects k new) n ≡ Some x
shape_set units [] k old new n x at same e = absurd (cc)
shape_set units (y ∷ objects) zero old new zero x at same e =
    let is : y ≡ old = cc in sym (ap (shape units) is ∙ same) ∙ e
shape_set units (y ∷ objects) zero old new (suc n) x at same e = e
shape_set units (y ∷ objects) (suc k) old new zero x at same e = e
shape_set units (y ∷ objects) (suc k) old new (suc n) x at same e =
    shape_set units objects k old new n x at same e

kept_set : (units : Units) (objects : List Object) (k : ℕ) (old new : Object)
    → slice_get objects k ≡ Some old → shape units old ≡ shape units new
    → Keeps (shape_at units objects) (shape_at units (slice_set objects k new))
kept_set units objects k old new at same =
    record { each = λ n x e. shape_set units objects k old new n x at same e }

-- the objects fit again
fit_set : (classes : List Class) (units : Units) (objects : List Object) (k : ℕ)
    (old new : Object) → slice_get objects k ≡ Some old → shape units old ≡ shape units new
    → AreFitObjects classes (shape_at units objects) objects
    → IsFitObject classes (shape_at units objects) new
    → AreFitObjects classes (shape_at units (slice_set objects k new)) (slice_set objects k new)
fit_set classes units objects k old new at same fit fits = record {
  each = λ n o e.
      let kept = kept_set units objects k old new at same in
      object_kept classes (shape_at units objects) (shape_at units (slice_set objects k new)) kept o
      (elim (set_either objects new k n o e) [
        | inl is ↦ subst (IsFitObject classes (shape_at units objects)) (sym is) fits
        | inr was ↦ fit.each n o was
      ]);
}

fit_more : (classes : List Class) (units : Units) (objects : List Object) (new : Object)
    → AreFitObjects classes (shape_at units objects) objects
    → IsFitObject classes (shape_at units objects) new
    → AreFitObjects classes (shape_at units (objects ++ new ∷ [])) (objects ++ new ∷ [])
fit_more classes units objects new fit fits = record {
  each = λ n o e.
      object_kept classes (shape_at units objects) (shape_at units (objects ++ new ∷ []))
      (kept_more units objects new) o
      (elim (get_either objects new n o e) [
        | inl is ↦ subst (IsFitObject classes (shape_at units objects)) (sym is) fits
        | inr was ↦ fit.each n o was
      ]);
}

-- a store after another at the same time: it fits, and it has all the objects
abbrev pub Grown : CodeParts → (before after : Store) → Type 0
Grown code before after =
    IsFitStore code after × (after.now ≡ before.now) × Keeps (shapes_of before) (shapes_of after)

-- what was made, in the store with it: a reference to an object of this shape
abbrev pub IsAdded : CodeParts → Store → Shape → Made → Type 0
IsAdded code store x made =
    Refers (shapes_of made.store) (λ y. y ≡ x) made.reference × Grown code store made.store

-- what was made suits a kind
abbrev pub Makes : CodeParts → Store → Kind → Made → Type 0
Makes code store k made =
    Suits code.classes (shapes_of made.store) k made.reference × Grown code store made.store

module _ (code : CodeParts) where
  abbrev classes : List Class
  classes = code.classes

  pub grown_same : (store : Store) → IsFitStore code store → Grown code store store
  grown_same store fit = (fit, refl, kept_same (shapes_of store))

  pub grown_trans : (a b c : Store) → Grown code a b → Grown code b c → Grown code a c
  grown_trans a b c h g = (g.0, g.1 ∙ h.1, kept_trans (shapes_of a) (shapes_of b) (shapes_of c) h.2 g.2)

  -- an object was replaced by one of its shape
  pub set_grown : (store : Store) (n : ℕ) (old new : Object) → IsFitStore code store
      → slice_get store.objects n ≡ Some old → shape store.units old ≡ shape store.units new
      → IsFitObject classes (shapes_of store) new
      → Grown code store (record store { objects = slice_set store.objects n new })
  set_grown store n old new fit at same fits =
      let after = shape_at store.units (slice_set store.objects n new) in
      let kept = kept_set store.units store.objects n old new at same in (
        record {
          objects = fit_set classes store.units store.objects n old new at same fit.objects fits;
          statics = suit_kept classes (shapes_of store) after kept code.statics store.statics
              fit.statics;
          graph = graph_shapes (shapes_of store) after store.units store.connections kept fit.graph;
          begun = fit.begun;
          within = fit.within;
          sporks = fit.sporks;
          next_shred = fit.next_shred;
        },
        refl,
        kept,
      )

  -- an object was added
  more_grown : (store : Store) (new : Object) → IsFitStore code store
      → IsFitObject classes (shapes_of store) new
      → Grown code store (record store { objects = store.objects ++ new ∷ [] })
  more_grown store new fit fits =
      let after = shape_at store.units (store.objects ++ new ∷ []) in
      let kept = kept_more store.units store.objects new in (
        record {
          objects = fit_more classes store.units store.objects new fit.objects fits;
          statics = suit_kept classes (shapes_of store) after kept code.statics store.statics
              fit.statics;
          graph = graph_shapes (shapes_of store) after store.units store.connections kept fit.graph;
          begun = fit.begun;
          within = fit.within;
          sporks = fit.sporks;
          next_shred = fit.next_shred;
        },
        refl,
        kept,
      )

  picked_fine : (b : Bool) (store : Store) (x : Shape) (made : Made) → IsAdded code store x made
      → Fine (IsAdded code store x) (pick b (Gives made) (Fails ObjectLimit))
  picked_fine true store x made h = h
  picked_fine false store x made h = tt

  -- an object of a shape is added, or there are too many
  pub added_fine : (store : Store) (o : Object) (x : Shape) → IsFitStore code store
      → IsFitObject classes (shapes_of store) o → shape store.units o ≡ Some x
      → Fine (IsAdded code store x) (added o store)
  unfolding added
  added_fine store o x fit fits is =
      picked_fine (nat_lt (length store.objects) MAX_OBJECTS) store x _ (
        where_found (shape_at store.units (store.objects ++ o ∷ []) (length store.objects)) (λ y.
            y ≡ x) x (ap (option_and_then (shape store.units)) (get_last store.objects o) ∙ is) refl,
        more_grown store o fit fits,
      )
