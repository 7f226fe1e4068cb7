-- Arrays with other items, by what the bodies of a heap stand for.
use Rattle.std.proofs.Common.{◌≡◌, ℕ, ℤ, zero, suc, pos, negsuc, ◌+ℤ◌, ◌+◌, ◌-◌, ◌≤◌, ◌<◌, true, false, List, [], ◌∷◌, ◌++◌, length, map, Option, Some, None, IfSome, IsNone, IsSomeAnd, ◌↔◌, refl, ap, sym, subst, ◌∙◌, arith, slice_get, slice_set, int_le}
use Rattle.std.proofs.lemmas.Bool.Decides.{nat_tests}
use Rattle.std.proofs.lemmas.List.{map-set, map-append, length-append, set_past}
use Rattle.ck_base.specs.declared.limits.TheConstants.{MAX_ITEMS}
use Rattle.ck_values.specs.declared.reference.Ref.{Ref}
use Rattle.ck_values.specs.declared.trap.Trap.{Trap}
use Rattle.ck_values.specs.declared.trap.Trap.TheVariants.{ArrayOutOfBounds, ArrayLimit}
use Rattle.ck_values.specs.declared.value.Value.{Value}
use Rattle.ck_values.specs.Datum.{Datum, AnInt, ARef, meant, all_meant}
use Rattle.ck_store.specs.Store.{Store, Try, Gives, Fails}
use Rattle.ck_store.specs.Steps.{and_then, pick}
use Rattle.ck_store.specs.Operators.{wrapped}
use Rattle.ck_store.specs.Objects.{with_object}
use Rattle.ck_store.specs.Arrays.{Line, array_at, with_items, item_at, item_of, replaced, with_item, is_within, grown, appended, cleared, Filled, next_index, filled}
use Rattle.object_heap.specs.declared.body.Body.{Body}
use Rattle.object_heap.specs.declared.body.Body.TheVariants.{Array}
use Rattle.object_heap.specs.Objects.{Objects, object, IsArray, values_of, with_values, with_body}
use Rattle.value_ops.specs.Ends.{IsGiven, left_over}
use Rattle.value_ops.specs.Heaps.{shown_body, objects_of, with_heap, IsArrayOf, KeepsUnits}
use Rattle.value_ops.proofs.Keeps.{units_same, units_put}
use Rattle.value_ops.proofs.Wants.{is_given}
use Rattle.value_ops.proofs.Items.{length_meant, set_meant, of_found, object_at, IsAt, is_at, line, array_is, past_so, at_here, at_out, item_here, item_out}

-- another body in the place of one ----------------------------------------------------------------

pub placed : (store : Store) (heap : Objects) (r : Ref) (old b : Body) → heap.first ≡ 1
    → IsAt heap.bodies r old
    → with_object (with_heap store heap) (ARef r.serial) (shown_body b)
    ≡ with_heap store (with_body heap r b)
placed store heap r old b first at =
    let number : at.number ≡ r.serial - heap.first = omega (arith, at.serial, first) in
    ap (λ s. with_object (with_heap store heap) (ARef s) (shown_body b)) at.serial
    ∙ ap (λ os. record store { objects = os }) (sym (map-set shown_body heap.bodies at.number b))
    ∙ ap (λ n. record store { objects = map shown_body (slice_set heap.bodies n b) }) number

-- the heap with other items in an array
abbrev pub with_more : (heap : Objects) (r : Ref) (items : List Value) → IsArrayOf heap r items
    → List Value → Objects
with_more heap r items a more = with_body heap r (Array a.elem a.two more)

pub lined : (store : Store) (heap : Objects) (r : Ref) (items more : List Value) → heap.first ≡ 1
    → (a : IsArrayOf heap r items)
    → with_items (with_heap store heap) (ARef r.serial) (line a.elem a.two items) (all_meant more)
    ≡ with_heap store (with_more heap r items a more)
lined store heap r items more first a =
    placed store heap r (Array a.elem a.two items) (Array a.elem a.two more) first
    (is_at heap r (Array a.elem a.two items) first a.is)

set_same : {A : Type 0} → (xs : List A) (i : ℕ) (x : A) → slice_get xs i ≡ Some x
    → slice_set xs i x ≡ xs
set_same [] i x is = refl
set_same (y ∷ xs) zero x is = let so : x ≡ y = cc in ap (λ z. z ∷ xs) so
set_same (y ∷ xs) (suc i) x is = ap (λ zs. y ∷ zs) (set_same xs i x is)

-- with the same items it is as it was
pub same_body : (heap : Objects) (r : Ref) (b : Body) → heap.first ≡ 1 → object heap r ≡ Some b
    → with_body heap r b ≡ heap
same_body heap r b first found =
    let at = is_at heap r b first found in
    let number : r.serial - heap.first ≡ at.number = omega (arith, at.serial, first) in
    ap (λ n. record heap { bodies = slice_set heap.bodies n b }) number
    ∙ ap (λ bs. record heap { bodies = bs }) (set_same heap.bodies at.number b at.here)

-- an item that is set -----------------------------------------------------------------------------

-- what a heap says of a value that was put there
abbrev pub IsSet : Objects → Ref → ℕ → Value → Objects → Type 0
IsSet heap r i v new =
    IfSome (object heap r) (λ body.
    new ≡ with_body heap r (with_values body (slice_set (values_of body) i v)))

new_set : (heap new : Objects) (r : Ref) (items : List Value) (i : ℕ) (v : Value)
    → (a : IsArrayOf heap r items) → IsSet heap r i v new
    → new ≡ with_more heap r items a (slice_set items i v)
new_set heap new r items i v a set =
    of_found (object heap r) (Array a.elem a.two items)
    (λ body. new ≡ with_body heap r (with_values body (slice_set (values_of body) i v))) a.is set

pub old_set : (heap : Objects) (r : Ref) (items : List Value) (i : ℕ) (old : Value)
    → IsArrayOf heap r items
    → IfSome (object heap r) (λ body. slice_get (values_of body) i ≡ Some old)
    → slice_get items i ≡ Some old
old_set heap r items i old a is =
    of_found (object heap r) (Array a.elem a.two items)
    (λ body. slice_get (values_of body) i ≡ Some old) a.is is

-- the store with the items replaced, as the heap has them
set_shown : (store : Store) (heap new : Objects) (r : Ref) (items : List Value) (z : ℤ) (i : ℕ)
    (v : Value) → heap.first ≡ 1 → (a : IsArrayOf heap r items) → z ≡ pos i → IsSet heap r i v new
    → with_items (with_heap store heap) (ARef r.serial) (line a.elem a.two items) (replaced
    (all_meant items) (AnInt z) (meant v))
    ≡ with_heap store new
set_shown store heap new r items z i v first a is set =
    let before = with_heap store heap in
    let array = line a.elem a.two items in
    ap (λ z. with_items before (ARef r.serial) array (replaced (all_meant items) (AnInt z)
    (meant v))) is
    ∙ ap (with_items before (ARef r.serial) array) (sym (set_meant items i v))
    ∙ lined store heap r items (slice_set items i v) first a
    ∙ ap (with_heap store) (sym (new_set heap new r items i v a set))

set_goes : Store → Datum → Datum → Datum → Line → Try Store
set_goes s r i v line =
    and_then (item_at line.items i) (λ old. Gives (with_items s r line (replaced line.items i v)))

set_so : (store : Store) (heap : Objects) (r : Ref) (items : List Value) (i v : Datum)
    → heap.first ≡ 1 → (a : IsArrayOf heap r items)
    → with_item (with_heap store heap) (ARef r.serial) i v
    ≡ set_goes (with_heap store heap) (ARef r.serial) i v (line a.elem a.two items)
unfolding with_item set_goes
set_so store heap r items i v first a =
    ap (λ t. and_then t (set_goes (with_heap store heap) (ARef r.serial) i v))
    (array_is heap r items first a)

pub set_null : (store : Store) (heap : Objects) (r : Ref) (i v : Datum) (trap : Trap)
    → array_at (objects_of heap) (ARef r.serial) ≡ Fails trap
    → with_item (with_heap store heap) (ARef r.serial) i v ≡ Fails trap
unfolding with_item set_goes
set_null store heap r i v trap is =
    ap (λ t. and_then t (set_goes (with_heap store heap) (ARef r.serial) i v)) is

pub set_out : (store : Store) (heap : Objects) (r : Ref) (items : List Value) (z : ℤ) (v : Datum)
    → heap.first ≡ 1 → IsArrayOf heap r items → is_within (AnInt z) (length items) ≡ Gives false
    → with_item (with_heap store heap) (ARef r.serial) (AnInt z) v ≡ Fails ArrayOutOfBounds
unfolding set_goes
set_out store heap r items z v first a out =
    let goes : Datum → Try Store = λ old. Gives (with_items (with_heap store heap) (ARef r.serial)
    (line a.elem a.two items) (replaced (all_meant items) (AnInt z) v)) in
    set_so store heap r items (AnInt z) v first a ∙ ap (λ t. and_then t goes) (at_out items z out)

pub set_here : (store : Store) (heap new : Objects) (r : Ref) (items : List Value) (z : ℤ) (i : ℕ)
    (old v : Value) → heap.first ≡ 1 → IsArrayOf heap r items → z ≡ pos i
    → IfSome (object heap r) (λ body. slice_get (values_of body) i ≡ Some old)
    → IsSet heap r i v new
    → with_item (with_heap store heap) (ARef r.serial) (AnInt z) (meant v) ≡ Gives
    (with_heap store new)
unfolding set_goes
set_here store heap new r items z i old v first a is was set =
    let goes : Datum → Try Store = λ old. Gives (with_items (with_heap store heap) (ARef r.serial)
    (line a.elem a.two items) (replaced (all_meant items) (AnInt z) (meant v))) in
    set_so store heap r items (AnInt z) (meant v) first a
    ∙ ap (λ t. and_then t goes) (at_here items z i old is (old_set heap r items i old a was))
    ∙ ap Gives (set_shown store heap new r items z i v first a is set)

pub got_here : (heap : Objects) (r : Ref) (items : List Value) (z : ℤ) (i : ℕ) (old : Value)
    → heap.first ≡ 1 → IsArrayOf heap r items → z ≡ pos i
    → IfSome (object heap r) (λ body. slice_get (values_of body) i ≡ Some old)
    → item_of (objects_of heap) (ARef r.serial) (AnInt z) ≡ Gives (meant old)
got_here heap r items z i old first a is was =
    item_here heap r items z i old first a is (old_set heap r items i old a was)

pub first_set : (heap new : Objects) (r : Ref) (items : List Value) (i : ℕ) (v : Value)
    → IsArrayOf heap r items → IsSet heap r i v new → new.first ≡ heap.first
first_set heap new r items i v a set = ap (λ h. h.first) (new_set heap new r items i v a set)

-- other items in an array change no unit generator
pub units_array : (heap new : Objects) (r : Ref) (items more : List Value) (a : IsArrayOf heap r items)
    → new ≡ with_more heap r items a more → KeepsUnits heap new
units_array heap new r items more a is =
    subst (KeepsUnits heap) (sym is) (units_put heap r (Array a.elem a.two items) more a.is)

pub units_set : (heap new : Objects) (r : Ref) (items : List Value) (i : ℕ) (v : Value)
    → IsArrayOf heap r items → IsSet heap r i v new → KeepsUnits heap new
units_set heap new r items i v a set =
    units_array heap new r items (slice_set items i v) a (new_set heap new r items i v a set)

pub within_set : (heap : Objects) (r : Ref) (items : List Value) (i : ℕ) → IsArrayOf heap r items
    → i < length items → IsSomeAnd (object heap r) (λ body. i < length (values_of body))
within_set heap r items i a within = rw a.is within

-- an item that is made ----------------------------------------------------------------------------

abbrev pub filled_with : ℤ → Store → Filled
filled_with z store = record { next = AnInt (wrapped (z +ℤ pos 1)); store = store }

fill_so : (store : Store) (heap : Objects) (r : Ref) (items : List Value) (z : ℤ) (v : Datum)
    → heap.first ≡ 1 → (a : IsArrayOf heap r items)
    → filled (with_heap store heap) (ARef r.serial) (AnInt z) v
    ≡ Gives (filled_with z (with_items (with_heap store heap) (ARef r.serial)
    (line a.elem a.two items) (replaced (all_meant items) (AnInt z) v)))
unfolding filled next_index
fill_so store heap r items z v first a =
    let goes : Line → Try Filled = λ line. Gives (filled_with z (with_items (with_heap store heap)
    (ARef r.serial) line (replaced line.items (AnInt z) v))) in
    ap (λ t. and_then t goes) (array_is heap r items first a)

pub fill_null : (store : Store) (heap : Objects) (r : Ref) (z : ℤ) (v : Datum) (trap : Trap)
    → array_at (objects_of heap) (ARef r.serial) ≡ Fails trap
    → filled (with_heap store heap) (ARef r.serial) (AnInt z) v ≡ Fails trap
unfolding filled next_index
fill_null store heap r z v trap is =
    let goes : Line → Try Filled = λ line. Gives (filled_with z (with_items (with_heap store heap)
    (ARef r.serial) line (replaced line.items (AnInt z) v))) in
    ap (λ t. and_then t goes) is

pub fill_here : (store : Store) (heap new : Objects) (r : Ref) (items : List Value) (z : ℤ) (i : ℕ)
    (v : Value) → heap.first ≡ 1 → IsArrayOf heap r items → z ≡ pos i → IsSet heap r i v new
    → filled (with_heap store heap) (ARef r.serial) (AnInt z) (meant v)
    ≡ Gives (filled_with z (with_heap store new))
fill_here store heap new r items z i v first a is set =
    fill_so store heap r items z (meant v) first a
    ∙ ap (λ s. Gives (filled_with z s)) (set_shown store heap new r items z i v first a is set)

unreplaced : (items : List Value) (z : ℤ) (v : Datum)
    → is_within (AnInt z) (length items) ≡ Gives false
    → replaced (all_meant items) (AnInt z) v ≡ all_meant items
unfolding is_within
unreplaced items (pos i) v out =
    let past : length (all_meant items) ≤ i =
    omega (arith, length_meant items, past_so i (length items) out) in
    set_past (all_meant items) i v past
unreplaced items (negsuc i) v out = refl

pub fill_out : (store : Store) (heap : Objects) (r : Ref) (items : List Value) (z : ℤ) (v : Datum)
    → heap.first ≡ 1 → IsArrayOf heap r items → is_within (AnInt z) (length items) ≡ Gives false
    → filled (with_heap store heap) (ARef r.serial) (AnInt z) v
    ≡ Gives (filled_with z (with_heap store heap))
fill_out store heap r items z v first a out =
    let array = line a.elem a.two items in
    fill_so store heap r items z v first a
    ∙ ap (λ ds. Gives (filled_with z (with_items (with_heap store heap) (ARef r.serial) array ds)))
    (unreplaced items z v out)
    ∙ ap (λ s. Gives (filled_with z s)) (lined store heap r items items first a)
    ∙ ap (λ h. Gives (filled_with z (with_heap store h))) (same_body heap r
    (Array a.elem a.two items) first a.is)

pub over_here : (heap : Objects) (r : Ref) (items : List Value) (z : ℤ) (i : ℕ) (old : Value)
    (v : Datum) → heap.first ≡ 1 → IsArrayOf heap r items → z ≡ pos i
    → IfSome (object heap r) (λ body. slice_get (values_of body) i ≡ Some old)
    → meant old ≡ left_over (item_of (objects_of heap) (ARef r.serial) (AnInt z)) v
over_here heap r items z i old v first a is was =
    sym (ap (λ t. left_over t v) (got_here heap r items z i old first a is was))

pub over_out : (heap : Objects) (r : Ref) (items : List Value) (z : ℤ) (v : Datum)
    → heap.first ≡ 1 → IsArrayOf heap r items → is_within (AnInt z) (length items) ≡ Gives false
    → v ≡ left_over (item_of (objects_of heap) (ARef r.serial) (AnInt z)) v
over_out heap r items z v first a out =
    sym (ap (λ t. left_over t v) (item_out heap r items z first a out))

-- one item more -----------------------------------------------------------------------------------

-- what a heap says of a value that was put at the end
abbrev pub IsGrown : Objects → Ref → Value → Objects → Type 0
IsGrown heap r v new =
    IfSome (object heap r) (λ body.
    new ≡ with_body heap r (with_values body (values_of body ++ v ∷ [])))

pub new_grown : (heap new : Objects) (r : Ref) (items : List Value) (v : Value)
    → (a : IsArrayOf heap r items) → IsGrown heap r v new
    → new ≡ with_more heap r items a (items ++ v ∷ [])
new_grown heap new r items v a set =
    of_found (object heap r) (Array a.elem a.two items)
    (λ body. new ≡ with_body heap r (with_values body (values_of body ++ v ∷ []))) a.is set

pub grown_here : (store : Store) (heap new : Objects) (r : Ref) (items : List Value) (v : Value)
    → heap.first ≡ 1 → IsArrayOf heap r items → IsGrown heap r v new
    → grown (with_heap store heap) (ARef r.serial) (meant v) ≡ Gives (with_heap store new)
unfolding grown
grown_here store heap new r items v first a set =
    let before = with_heap store heap in
    let array = line a.elem a.two items in
    ap (λ t. and_then t (λ line. Gives (with_items before (ARef r.serial) line
    (line.items ++ meant v ∷ [])))) (array_is heap r items first a)
    ∙ ap (λ ds. Gives (with_items before (ARef r.serial) array ds)) (sym (map-append meant items
    (v ∷ [])))
    ∙ ap Gives (lined store heap r items (items ++ v ∷ []) first a)
    ∙ ap (λ h. Gives (with_heap store h)) (sym (new_grown heap new r items v a set))

append_so : (store : Store) (heap : Objects) (r : Ref) (items : List Value) (v : Datum)
    → heap.first ≡ 1 → IsArrayOf heap r items
    → appended (with_heap store heap) (ARef r.serial) v
    ≡ pick (int_le MAX_ITEMS (pos (length items))) (Fails ArrayLimit) (grown (with_heap store heap)
    (ARef r.serial) v)
unfolding appended
append_so store heap r items v first a =
    let more = grown (with_heap store heap) (ARef r.serial) v in
    ap (λ t. and_then t (λ line. pick (int_le MAX_ITEMS (pos (length line.items)))
    (Fails ArrayLimit) more)) (array_is heap r items first a)
    ∙ ap (λ n. pick (int_le MAX_ITEMS (pos n)) (Fails ArrayLimit) more) (length_meant items)

pub append_null : (store : Store) (heap : Objects) (r : Ref) (v : Datum) (trap : Trap)
    → array_at (objects_of heap) (ARef r.serial) ≡ Fails trap
    → appended (with_heap store heap) (ARef r.serial) v ≡ Fails trap
unfolding appended
append_null store heap r v trap is =
    let more = grown (with_heap store heap) (ARef r.serial) v in
    ap (λ t. and_then t (λ line. pick (int_le MAX_ITEMS (pos (length line.items)))
    (Fails ArrayLimit) more)) is

pub append_full : (store : Store) (heap : Objects) (r : Ref) (items : List Value) (v : Datum)
    → heap.first ≡ 1 → IsArrayOf heap r items → 1048576 ≤ length items
    → appended (with_heap store heap) (ARef r.serial) v ≡ Fails ArrayLimit
append_full store heap r items v first a full =
    let so : int_le MAX_ITEMS (pos (length items)) ≡ true = grind (arith, nat_tests) in
    append_so store heap r items v first a
    ∙ ap (λ t. pick t (Fails ArrayLimit) (grown (with_heap store heap) (ARef r.serial) v)) so

pub append_here : (store : Store) (heap new : Objects) (r : Ref) (items : List Value) (v : Value)
    → heap.first ≡ 1 → IsArrayOf heap r items → length items < 1048576 → IsGrown heap r v new
    → appended (with_heap store heap) (ARef r.serial) (meant v) ≡ Gives (with_heap store new)
append_here store heap new r items v first a few set =
    let so : int_le MAX_ITEMS (pos (length items)) ≡ false = grind (arith, nat_tests) in
    append_so store heap r items (meant v) first a
    ∙ ap (λ t. pick t (Fails ArrayLimit) (grown (with_heap store heap) (ARef r.serial)
    (meant v))) so
    ∙ grown_here store heap new r items v first a set

-- where it isn't full there is an array with one item more
pub append_given : (store : Store) (heap : Objects) (r : Ref) (items : List Value) (v : Value)
    → heap.first ≡ 1 → IsArrayOf heap r items → length items < 1048576
    → IsGiven (appended (with_heap store heap) (ARef r.serial) (meant v))
append_given store heap r items v first a few =
    let new = with_more heap r items a (items ++ v ∷ []) in
    let set : IsGrown heap r v new = rw a.is refl in
    is_given _ _ (append_here store heap new r items v first a few set)

pub first_grown : (heap new : Objects) (r : Ref) (items : List Value) (v : Value)
    → IsArrayOf heap r items → IsGrown heap r v new → new.first ≡ heap.first
first_grown heap new r items v a set = ap (λ h. h.first) (new_grown heap new r items v a set)

pub units_grown : (heap new : Objects) (r : Ref) (items : List Value) (v : Value)
    → IsArrayOf heap r items → IsGrown heap r v new → KeepsUnits heap new
units_grown heap new r items v a set =
    units_array heap new r items (items ++ v ∷ []) a (new_grown heap new r items v a set)

-- no items any more -------------------------------------------------------------------------------

pub clear_null : (store : Store) (heap : Objects) (r : Ref) (trap : Trap)
    → array_at (objects_of heap) (ARef r.serial) ≡ Fails trap
    → cleared (with_heap store heap) (ARef r.serial) ≡ Fails trap
unfolding cleared
clear_null store heap r trap is =
    ap (λ t. and_then t (λ line. Gives (with_items (with_heap store heap)
    (ARef r.serial) line []))) is

pub clear_here : (store : Store) (heap new : Objects) (r : Ref) (items : List Value)
    → heap.first ≡ 1 → (a : IsArrayOf heap r items) → new ≡ with_more heap r items a []
    → cleared (with_heap store heap) (ARef r.serial) ≡ Gives (with_heap store new)
unfolding cleared
clear_here store heap new r items first a is =
    ap (λ t. and_then t (λ line. Gives (with_items (with_heap store heap) (ARef r.serial) line [])))
    (array_is heap r items first a)
    ∙ ap Gives (lined store heap r items [] first a)
    ∙ ap (λ h. Gives (with_heap store h)) (sym is)

pub array_set : (heap : Objects) (r : Ref) (items : List Value) → IsArrayOf heap r items
    → IsSomeAnd (object heap r) IsArray
array_set heap r items a = rw a.is tt

-- so many of the items were taken away
pub record Clearing (old new : Objects) (r : Ref) (count done : ℕ) : Type 0 where
  pub items : List Value
  pub array : IsArrayOf old r items
  pub rest : List Value
  pub is : new ≡ with_more old r items array rest
  pub left : length rest + done ≡ count

pub clearing_first : (heap : Objects) (r : Ref) (items : List Value) → heap.first ≡ 1
    → IsArrayOf heap r items → Clearing heap heap r (length items) 0
clearing_first heap r items first a = record {
  items = items;
  array = a;
  rest = items;
  is = sym (same_body heap r (Array a.elem a.two items) first a.is);
  left = omega arith;
}

get_set : {A : Type 0} → (xs : List A) (i : ℕ) (x old : A) → slice_get xs i ≡ Some old
    → slice_get (slice_set xs i x) i ≡ Some x
get_set [] i x old is = absurd (cc)
get_set (y ∷ xs) zero x old is = refl
get_set (y ∷ xs) (suc i) x old is = get_set xs i x old is

-- the array is still there
pub set_there : (heap : Objects) (r : Ref) (old b : Body) → heap.first ≡ 1
    → object heap r ≡ Some old
    → object (with_body heap r b) r ≡ Some b
set_there heap r old b first found =
    let at = is_at heap r old first found in
    let number : r.serial - heap.first ≡ at.number = omega (arith, at.serial, first) in
    object_at (with_body heap r b) r at.number first at.serial
    ∙ ap (λ n. slice_get (slice_set heap.bodies n b) at.number) number
    ∙ get_set heap.bodies at.number b old at.here

pub clearing_array : (old new : Objects) (r : Ref) (count done : ℕ) → old.first ≡ 1
    → (k : Clearing old new r count done) → IsArrayOf new r k.rest
clearing_array old new r count done first k =
    let a = k.array in
    let body = Array a.elem a.two k.rest in
    record {
      elem = a.elem;
      two = a.two;
      is = ap (λ h. object h r) k.is ∙ set_there old r (Array a.elem a.two k.items) body first a.is;
    }

pub clearing_still : (old new : Objects) (r : Ref) (count done : ℕ) → old.first ≡ 1
    → Clearing old new r count done → IsSomeAnd (object new r) IsArray
clearing_still old new r count done first k =
    array_set new r k.rest (clearing_array old new r count done first k)

pub clearing_kept : (old new : Objects) (r : Ref) (count done : ℕ)
    → Clearing old new r count done → new.first ≡ old.first
clearing_kept old new r count done k = ap (λ h. h.first) k.is

pub clearing_units : (old new : Objects) (r : Ref) (count done : ℕ)
    → Clearing old new r count done → KeepsUnits old new
clearing_units old new r count done k = units_array old new r k.items k.rest k.array k.is

set_twice : {A : Type 0} → (xs : List A) (i : ℕ) (x y : A)
    → slice_set (slice_set xs i x) i y ≡ slice_set xs i y
set_twice [] i x y = refl
set_twice (z ∷ xs) zero x y = refl
set_twice (z ∷ xs) (suc i) x y = ap (λ zs. z ∷ zs) (set_twice xs i x y)

-- one more was taken away
abbrev pub IsShort : Objects → Ref → Value → Objects → Type 0
IsShort heap r v new =
    IfSome (object heap r) (λ body. (rest : List Value) × (values_of body ≡ rest ++ v ∷ [])
    × (new ≡ with_body heap r (with_values body rest)))

abbrev IsShorter : (heap new : Objects) (r : Ref) → Value → Body → Type 0
IsShorter heap new r v body =
    (rest : List Value) × (values_of body ≡ rest ++ v ∷ [])
    × (new ≡ with_body heap r (with_values body rest))

clearing_more : (old mid new : Objects) (r : Ref) (count done : ℕ) (v : Value) → old.first ≡ 1
    → Clearing old mid r count done → IsShort mid r v new → Clearing old new r count (done + 1)
unfolding clearing_array
clearing_more old mid new r count done v first k short =
    let a = k.array in
    let b = clearing_array old mid r count done first k in
    let s = of_found (object mid r) (Array a.elem a.two k.rest)
    (IsShorter mid new r v) b.is short in
    record {
      items = k.items;
      array = a;
      rest = s.0;
      is = s.2
          ∙ ap (λ h. with_body h r (Array a.elem a.two s.0)) k.is
          ∙ ap (λ bs. record old { bodies = bs }) (set_twice old.bodies (r.serial - old.first)
          (Array a.elem a.two k.rest) (Array a.elem a.two s.0));
      left = let size : length k.rest ≡ length s.0 + 1 = ap length s.1
          ∙ simp length-append (omega arith) in omega (arith, size, k.left);
    }

clearing_none : (old mid : Objects) (r : Ref) (count done : ℕ) → old.first ≡ 1 → done < count
    → Clearing old mid r count done → IfSome (object mid r) (λ body. values_of body ≡ []) → ⊥
unfolding clearing_array
clearing_none old mid r count done first more k none =
    let a = k.array in
    let b = clearing_array old mid r count done first k in
    let s = of_found (object mid r) (Array a.elem a.two k.rest)
    (λ body. values_of body ≡ []) b.is none in
    absurd (omega (arith, ap length s, k.left, more))

pub clearing_step : (old mid new : Objects) (r : Ref) (count done : ℕ) (taken : Option Value)
    → old.first ≡ 1 → done < count → Clearing old mid r count done
    → (IsNone taken ↔ IfSome (object mid r) (λ body. values_of body ≡ []))
    → IfSome taken (λ v. IsShort mid r v new) → Clearing old new r count (done + 1)
clearing_step old mid new r count done None first more k empty last =
    absurd (clearing_none old mid r count done first more k (empty.0 refl))
clearing_step old mid new r count done (Some v) first more k empty last =
    clearing_more old mid new r count done v first k last

nothing_left : (xs : List Value) → length xs ≡ 0 → xs ≡ []
nothing_left [] none = refl
nothing_left (x ∷ xs) none = absurd (omega arith)

pub clearing_done : (store : Store) (old new : Objects) (r : Ref) (count done : ℕ) → old.first ≡ 1
    → count ≤ done → Clearing old new r count done
    → cleared (with_heap store old) (ARef r.serial) ≡ Gives (with_heap store new)
clearing_done store old new r count done first all k =
    let none : k.rest ≡ [] = nothing_left k.rest (omega (arith, k.left, all)) in
    clear_here store old new r k.items first k.array (k.is
    ∙ ap (with_more old r k.items k.array) none)

pub ruleset changes = (
  item_here,
  item_out,
  got_here,
  set_null,
  set_out,
  set_here,
  first_set,
  units_same,
  units_set,
  within_set,
  fill_null,
  fill_here,
  fill_out,
  over_here,
  over_out,
  append_null,
  append_full,
  append_here,
  first_grown,
  units_grown,
  clear_null,
  array_set,
)
