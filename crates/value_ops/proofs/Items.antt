-- Arrays by what the bodies of a heap stand for.
use Rattle.std.proofs.Common.{◌≡◌, ℕ, ℤ, zero, suc, pos, negsuc, ◌-◌, ◌≤◌, ◌<◌, nat_lt, true, false, Bool, List, length, map, Option, Some, None, IfSome, IfNone, is_some, refl, ap, sym, subst, ◌∙◌, arith, slice_get, slice_set}
use Rattle.std.specs.Option.{option_map}
use Rattle.std.proofs.lemmas.Bool.Decides.{nat_tests}
use Rattle.std.proofs.lemmas.List.{length-map, map-set}
use Rattle.std.proofs.lemmas.Option.{slice_get-map, slice_get_past}
use Rattle.ck_values.specs.declared.kind.Elem.{Elem}
use Rattle.ck_values.specs.declared.reference.Ref.{Ref}
use Rattle.ck_values.specs.declared.trap.Trap.{Trap}
use Rattle.ck_values.specs.declared.trap.Trap.TheVariants.{NullPointer, ArrayOutOfBounds}
use Rattle.ck_values.specs.declared.value.Value.{Value}
use Rattle.ck_values.specs.Datum.{Datum, AnInt, ARef, meant, all_meant}
use Rattle.ck_store.specs.Store.{Object, Gives, Fails, IsFitting}
use Rattle.ck_store.specs.Steps.{and_then}
use Rattle.ck_store.specs.Arrays.{Line, line_of, array_at, there, item_at, item_of, item_count, is_within, has_item}
use Rattle.object_heap.specs.declared.body.Body.{Body}
use Rattle.object_heap.specs.declared.body.Body.TheVariants.{Instance, Array, Ugen}
use Rattle.object_heap.specs.Objects.{Objects, object}
use Rattle.value_ops.specs.Heaps.{shown_body, objects_of, IsArrayOf}

pub length_meant : (values : List Value) → length (all_meant values) ≡ length values
length_meant values = length-map values meant

pub get_meant : (values : List Value) (i : ℕ) (v : Value) → slice_get values i ≡ Some v
    → slice_get (all_meant values) i ≡ Some (meant v)
get_meant values i v is = slice_get-map meant values i ∙ ap (option_map meant) is

pub set_meant : (values : List Value) (i : ℕ) (v : Value)
    → all_meant (slice_set values i v) ≡ slice_set (all_meant values) i (meant v)
set_meant values i v = map-set meant values i v

-- what holds of something that was found holds of it
pub of_found : {A : Type 0} (o : Option A) (a : A) (P : A → Type 0) → o ≡ Some a → IfSome o P → P a
of_found o a P is holds = subst (λ o. IfSome o P) is holds

-- objects by their numbers ------------------------------------------------------------------------

-- the objects from number 1 on
abbrev from_one : List Body → Objects
from_one bodies = record { first = 1; bodies = bodies }

from_one_at : (bodies : List Body) (r : Ref) (n : ℕ) → r.serial ≡ suc n
    → object (from_one bodies) r ≡ slice_get bodies n
from_one_at bodies r n serial =
    let here : slice_get bodies (r.serial - 1) ≡ slice_get bodies n =
    ap (slice_get bodies) (omega (arith, serial)) in
    let later : nat_lt r.serial 1 ≡ false = grind (arith, nat_tests, serial) in
    rw later here

pub object_at : (heap : Objects) (r : Ref) (n : ℕ) → heap.first ≡ 1 → r.serial ≡ suc n
    → object heap r ≡ slice_get heap.bodies n
object_at heap r n first serial =
    ap (λ k. object (record { first = k; bodies = heap.bodies }) r) first
    ∙ from_one_at heap.bodies r n serial

from_one_none : (bodies : List Body) (r : Ref) → r.serial ≡ 0 → object (from_one bodies) r ≡ None
from_one_none bodies r serial =
    let before : nat_lt r.serial 1 ≡ true = grind (arith, nat_tests, serial) in rw before refl

object_none : (heap : Objects) (r : Ref) → heap.first ≡ 1 → r.serial ≡ 0 → object heap r ≡ None
object_none heap r first serial =
    ap (λ k. object (record { first = k; bodies = heap.bodies }) r) first
    ∙ from_one_none heap.bodies r serial

-- where an object's body is
pub record IsAt (bodies : List Body) (r : Ref) (b : Body) : Type 0 where
  pub number : ℕ
  pub serial : r.serial ≡ suc number
  pub here : slice_get bodies number ≡ Some b

is_at_so : (heap : Objects) (r : Ref) (b : Body) (s : ℕ) → r.serial ≡ s → heap.first ≡ 1
    → object heap r ≡ Some b → IsAt heap.bodies r b
is_at_so heap r b zero serial first found =
    let none = object_none heap r first serial in absurd (cc)
is_at_so heap r b (suc n) serial first found =
    record { number = n; serial = serial; here = sym (object_at heap r n first serial) ∙ found }

pub is_at : (heap : Objects) (r : Ref) (b : Body) → heap.first ≡ 1 → object heap r ≡ Some b
    → IsAt heap.bodies r b
is_at heap r b first found = is_at_so heap r b r.serial refl first found

-- arrays ------------------------------------------------------------------------------------------

-- an array as a step sees it
abbrev pub line : Elem → Bool → List Value → Line
line e b items = record { elem = e; of_arrays = b; items = all_meant items }

array_so : (bodies : List Body) (r : Ref) (n : ℕ) → r.serial ≡ suc n
    → array_at (map shown_body bodies) (ARef r.serial)
    ≡ line_of (option_map shown_body (slice_get bodies n))
unfolding array_at
array_so bodies r n serial =
    ap (λ s. array_at (map shown_body bodies) (ARef s)) serial
    ∙ ap line_of (slice_get-map shown_body bodies n)

pub array_is : (heap : Objects) (r : Ref) (items : List Value) → heap.first ≡ 1
    → (a : IsArrayOf heap r items)
    → array_at (objects_of heap) (ARef r.serial) ≡ Gives (line a.elem a.two items)
array_is heap r items first a =
    let at = is_at heap r (Array a.elem a.two items) first a.is in
    array_so heap.bodies r at.number at.serial
    ∙ ap (λ o. line_of (option_map shown_body o)) at.here

-- null is no array
pub null_is : (objects : List Object) (s : ℕ) → s ≡ 0
    → array_at objects (ARef s) ≡ Fails NullPointer
unfolding array_at
null_is objects s is = ap (λ n. array_at objects (ARef n)) is

-- what isn't null, and can be taken as an array, is one
pub record Held (heap : Objects) (r : Ref) : Type 0 where
  pub items : List Value
  pub is : IsArrayOf heap r items

held_so : (heap : Objects) (r : Ref) (o : Option Body) → object heap r ≡ o
    → IsFitting (line_of (option_map shown_body o)) → Held heap r
held_so heap r None is fits = absurd fits
held_so heap r (Some (Instance class fields)) is fits = absurd fits
held_so heap r (Some (Array elem two items)) is fits =
    record { items = items; is = record { elem = elem; two = two; is = is } }
held_so heap r (Some (Ugen node)) is fits = absurd fits

held_as : (heap : Objects) (r : Ref) (s : ℕ) → r.serial ≡ s → heap.first ≡ 1 → (s ≡ 0 → ⊥)
    → IsFitting (array_at (objects_of heap) (ARef r.serial)) → Held heap r
held_as heap r zero serial first some fits = absurd (some refl)
held_as heap r (suc n) serial first some fits =
    held_so heap r (slice_get heap.bodies n) (object_at heap r n first serial)
    (subst IsFitting (array_so heap.bodies r n serial) fits)

pub held : (heap : Objects) (r : Ref) → heap.first ≡ 1 → (r.serial ≡ 0 → ⊥)
    → IsFitting (array_at (objects_of heap) (ARef r.serial)) → Held heap r
held heap r first some fits = held_as heap r r.serial refl first some fits

-- items -------------------------------------------------------------------------------------------

item_so : (heap : Objects) (r : Ref) (items : List Value) (d : Datum) → heap.first ≡ 1
    → IsArrayOf heap r items
    → item_of (objects_of heap) (ARef r.serial) d ≡ item_at (all_meant items) d
unfolding item_of
item_so heap r items d first a =
    ap (λ t. and_then t (λ line. item_at line.items d)) (array_is heap r items first a)

pub item_null : (heap : Objects) (r : Ref) (d : Datum) (trap : Trap)
    → array_at (objects_of heap) (ARef r.serial) ≡ Fails trap
    → item_of (objects_of heap) (ARef r.serial) d ≡ Fails trap
unfolding item_of
item_null heap r d trap is = ap (λ t. and_then t (λ line. item_at line.items d)) is

pub past_so : (i n : ℕ) → Gives (nat_lt i n) ≡ Gives false → n ≤ i
past_so i n out = let so : nat_lt i n ≡ false = cc in grind (arith, nat_tests)

pub at_here : (items : List Value) (z : ℤ) (i : ℕ) (v : Value) → z ≡ pos i
    → slice_get items i ≡ Some v → item_at (all_meant items) (AnInt z) ≡ Gives (meant v)
unfolding item_at
at_here items z i v is here =
    ap (λ z. item_at (all_meant items) (AnInt z)) is ∙ ap there (get_meant items i v here)

-- an index that is none of so many
pub at_out : (items : List Value) (z : ℤ) → is_within (AnInt z) (length items) ≡ Gives false
    → item_at (all_meant items) (AnInt z) ≡ Fails ArrayOutOfBounds
unfolding item_at is_within
at_out items (pos i) out =
    let past : length items ≤ i = past_so i (length items) out in
    ap there (slice_get-map meant items i ∙ ap (option_map meant) (slice_get_past items i past))
at_out items (negsuc i) out = refl

pub item_here : (heap : Objects) (r : Ref) (items : List Value) (z : ℤ) (i : ℕ) (v : Value)
    → heap.first ≡ 1 → IsArrayOf heap r items → z ≡ pos i → slice_get items i ≡ Some v
    → item_of (objects_of heap) (ARef r.serial) (AnInt z) ≡ Gives (meant v)
item_here heap r items z i v first a is here =
    item_so heap r items (AnInt z) first a ∙ at_here items z i v is here

pub item_out : (heap : Objects) (r : Ref) (items : List Value) (z : ℤ)
    → heap.first ≡ 1 → IsArrayOf heap r items → is_within (AnInt z) (length items) ≡ Gives false
    → item_of (objects_of heap) (ARef r.serial) (AnInt z) ≡ Fails ArrayOutOfBounds
item_out heap r items z first a out = item_so heap r items (AnInt z) first a ∙ at_out items z out

-- how many there are ------------------------------------------------------------------------------

pub count_is : (heap : Objects) (r : Ref) (items : List Value) (n : ℕ) → heap.first ≡ 1
    → IsArrayOf heap r items → n ≡ length items
    → item_count (objects_of heap) (ARef r.serial) ≡ Gives (AnInt (pos n))
unfolding item_count
count_is heap r items n first a is =
    ap (λ t. and_then t (λ line. Gives (AnInt (pos (length line.items)))))
    (array_is heap r items first a)
    ∙ ap (λ k. Gives (AnInt (pos k))) (length_meant items ∙ sym is)

pub count_null : (heap : Objects) (r : Ref) (trap : Trap)
    → array_at (objects_of heap) (ARef r.serial) ≡ Fails trap
    → item_count (objects_of heap) (ARef r.serial) ≡ Fails trap
unfolding item_count
count_null heap r trap is =
    ap (λ t. and_then t (λ line. Gives (AnInt (pos (length line.items))))) is

has_so : (heap : Objects) (r : Ref) (items : List Value) (d : Datum) → heap.first ≡ 1
    → IsArrayOf heap r items
    → has_item (objects_of heap) (ARef r.serial) d ≡ is_within d (length items)
unfolding has_item
has_so heap r items d first a =
    ap (λ t. and_then t (λ line. is_within d (length line.items))) (array_is heap r items first a)
    ∙ ap (is_within d) (length_meant items)

pub has_null : (heap : Objects) (r : Ref) (d : Datum) (trap : Trap)
    → array_at (objects_of heap) (ARef r.serial) ≡ Fails trap
    → has_item (objects_of heap) (ARef r.serial) d ≡ Fails trap
unfolding has_item
has_null heap r d trap is =
    ap (λ t. and_then t (λ line. is_within d (length line.items))) is

pub has_at : (heap : Objects) (r : Ref) (items : List Value) (z : ℤ) (i : ℕ)
    → heap.first ≡ 1 → IsArrayOf heap r items → z ≡ pos i → i < length items
    → has_item (objects_of heap) (ARef r.serial) (AnInt z) ≡ Gives true
unfolding is_within
has_at heap r items z i first a is within =
    let so : nat_lt i (length items) ≡ true = grind (arith, nat_tests) in
    has_so heap r items (AnInt z) first a
    ∙ ap (λ z. is_within (AnInt z) (length items)) is ∙ ap Gives so

pub has_out : (heap : Objects) (r : Ref) (items : List Value) (z : ℤ)
    → heap.first ≡ 1 → IsArrayOf heap r items → is_within (AnInt z) (length items) ≡ Gives false
    → has_item (objects_of heap) (ARef r.serial) (AnInt z) ≡ Gives false
has_out heap r items z first a out = has_so heap r items (AnInt z) first a ∙ out

-- whether it names one of the items
pub has_where : (heap : Objects) (r : Ref) (items : List Value) (z : ℤ) (place : Option ℕ)
    → heap.first ≡ 1 → IsArrayOf heap r items
    → IfSome place (λ i. (z ≡ pos i) × (i < length items))
    → IfNone place (is_within (AnInt z) (length items) ≡ Gives false)
    → has_item (objects_of heap) (ARef r.serial) (AnInt z) ≡ Gives (is_some place)
has_where heap r items z None first a some none = has_out heap r items z first a none
has_where heap r items z (Some i) first a some none = has_at heap r items z i first a some.0 some.1

pub ruleset items = (
  item_here,
  item_out,
  item_null,
  count_is,
  count_null,
  has_at,
  has_out,
  has_null,
)
