-- Steps on an object, from what it is.
use Rattle.std.proofs.Common.{◌≡◌, ℕ, ◌<◌, List, [], ◌∷◌, length, Some, slice_get, slice_set, ap, subst, ◌∙◌}
use Rattle.ck_values.specs.declared.trap.Trap.{Trap}
use Rattle.ck_values.specs.Datum.{Datum, ARef}
use Rattle.ck_typed.specs.declared.class.Class.{Class}
use Rattle.ck_store.specs.Store.{Object, Store, Try, Gives, Fails, Misfit}
use Rattle.ck_store.specs.Steps.{and_then, found}
use Rattle.ck_store.specs.Objects.{Inside, referred, field_of, with_object, with_field, method_of}
use Rattle.ck_store.specs.Store.{Instance}
use Rattle.machine_world.specs.Steps.{of_top}
use Rattle.ck_store.specs.Store.{IsFitting}
use Rattle.machine_world.specs.Tries.{IsReference}
use Rattle.machine_world.proofs.Numbered.{get_meant, found_within, replaced_within}

pub fits_first : {A B : Type 0} (t : Try A) (go : A → Try B) → IsFitting (and_then t go) → IsFitting t
fits_first (Gives a) go fits = tt
fits_first (Fails trap) go fits = tt
fits_first Misfit go fits = absurd fits

-- what can be referred to is a reference
pub refers : (objects : List Object) (d : Datum) → IsFitting (referred objects d) → IsReference d
unfolding referred
refers objects (ARef n) fits = tt
refers objects d fits = absurd fits

-- a field
pub field_refers : (store : Store) (d : Datum) (i : ℕ) → IsFitting (field_of store d i)
    → IsFitting (referred store.objects d)
unfolding field_of
field_refers store d i fits = fits_first (referred store.objects d) _ fits

pub field_null : (store : Store) (d : Datum) (i : ℕ) (trap : Trap)
    → referred store.objects d ≡ Fails trap → field_of store d i ≡ Fails trap
unfolding field_of
field_null store d i trap is = ap (λ t. and_then t (λ o. found (slice_get o.fields i))) is

pub field_within : (store : Store) (d : Datum) (i : ℕ) (o : Inside)
    → referred store.objects d ≡ Gives o → IsFitting (field_of store d i) → i < length o.fields
unfolding field_of
field_within store d i o is fits =
    found_within o.fields i
    (subst (λ t. IsFitting (and_then t (λ o. found (slice_get o.fields i)))) is fits)

pub field_is : (store : Store) (d : Datum) (i : ℕ) (o : Inside) (v : Datum)
    → referred store.objects d ≡ Gives o → slice_get o.fields i ≡ Some v → field_of store d i ≡ Gives v
unfolding field_of
field_is store d i o v is here =
    ap (λ t. and_then t (λ o. found (slice_get o.fields i))) is ∙ ap found here

-- a field that is set
abbrev set_with : Store → Datum → ℕ → Datum → Inside → Try Store
set_with store d i v o =
    and_then (found (slice_get o.fields i)) (λ old.
    Gives (with_object store d (Instance o.class (slice_set o.fields i v))))

pub set_refers : (store : Store) (d : Datum) (i : ℕ) (v : Datum) → IsFitting (with_field store d i v)
    → IsFitting (referred store.objects d)
unfolding with_field
set_refers store d i v fits = fits_first (referred store.objects d) (set_with store d i v) fits

pub set_null : (store : Store) (d : Datum) (i : ℕ) (v : Datum) (trap : Trap)
    → referred store.objects d ≡ Fails trap → with_field store d i v ≡ Fails trap
unfolding with_field
set_null store d i v trap is = ap (λ t. and_then t (set_with store d i v)) is

pub set_within : (store : Store) (d : Datum) (i : ℕ) (v : Datum) (o : Inside)
    → referred store.objects d ≡ Gives o → IsFitting (with_field store d i v) → i < length o.fields
unfolding with_field
set_within store d i v o is fits =
    replaced_within o.fields i _ (subst (λ t. IsFitting (and_then t (set_with store d i v))) is fits)

pub set_is : (store : Store) (d : Datum) (i : ℕ) (v old : Datum) (o : Inside)
    → referred store.objects d ≡ Gives o → slice_get o.fields i ≡ Some old
    → with_field store d i v
    ≡ Gives (with_object store d (Instance o.class (slice_set o.fields i v)))
unfolding with_field
set_is store d i v old o is here =
    ap (λ t. and_then t (set_with store d i v)) is
    ∙ ap (λ f. and_then (found f) (λ old. Gives (with_object store d (Instance o.class (slice_set o.fields i v))))) here

-- the function in a slot
abbrev slot_with : List Class → ℕ → Inside → Try ℕ
slot_with classes slot o =
    and_then (found (slice_get classes o.class)) (λ class. found (slice_get class.virtuals slot))

pub method_refers : (classes : List Class) (objects : List Object) (d : Datum) (slot : ℕ)
    → IsFitting (method_of classes objects d slot) → IsFitting (referred objects d)
unfolding method_of
method_refers classes objects d slot fits =
    fits_first (referred objects d) (slot_with classes slot) fits

pub method_null : (classes : List Class) (objects : List Object) (d : Datum) (slot : ℕ) (trap : Trap)
    → referred objects d ≡ Fails trap → method_of classes objects d slot ≡ Fails trap
unfolding method_of
method_null classes objects d slot trap is = ap (λ t. and_then t (slot_with classes slot)) is

pub class_within : (classes : List Class) (objects : List Object) (d : Datum) (slot : ℕ) (o : Inside)
    → referred objects d ≡ Gives o → IsFitting (method_of classes objects d slot)
    → o.class < length classes
unfolding method_of
class_within classes objects d slot o is fits =
    replaced_within classes o.class _
    (subst (λ t. IsFitting (and_then t (slot_with classes slot))) is fits)

pub slot_within : (classes : List Class) (objects : List Object) (d : Datum) (slot : ℕ) (o : Inside)
    (class : Class) → referred objects d ≡ Gives o → slice_get classes o.class ≡ Some class
    → IsFitting (method_of classes objects d slot) → slot < length class.virtuals
unfolding method_of
slot_within classes objects d slot o class is here fits =
    found_within class.virtuals slot
    (subst (λ c. IsFitting (and_then (found c) (λ class. found (slice_get class.virtuals slot)))) here
    (subst (λ t. IsFitting (and_then t (slot_with classes slot))) is fits))

pub method_is : (classes : List Class) (objects : List Object) (d : Datum) (slot : ℕ) (o : Inside)
    (class : Class) (f : ℕ) → referred objects d ≡ Gives o → slice_get classes o.class ≡ Some class
    → slice_get class.virtuals slot ≡ Some f → method_of classes objects d slot ≡ Gives f
unfolding method_of
method_is classes objects d slot o class f is here there =
    ap (λ t. and_then t (slot_with classes slot)) is
    ∙ ap (λ c. and_then (found c) (λ class. found (slice_get class.virtuals slot))) here
    ∙ ap found there

-- where it is set to the operand beneath, it is one of an object
pub set_refers_under : (store : Store) (d : Datum) (i : ℕ) (under : List Datum)
    → IsFitting (of_top under (λ v. with_field store d i v)) → IsReference d
set_refers_under store d i [] fits = absurd fits
set_refers_under store d i (v ∷ beneath) fits = refers store.objects d (set_refers store d i v fits)

pub ruleset parts = (field_refers, field_null, field_within, field_is, set_refers, set_null, set_within, method_refers, method_null, class_within, slot_within, method_is, get_meant)
