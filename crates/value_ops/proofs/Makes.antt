-- New arrays, by what their bodies stand for.
use Rattle.std.proofs.Common.{◌≡◌, ℕ, ℤ, suc, pos, negsuc, ◌+◌, ◌-◌, ◌*◌, ◌≤◌, ◌<◌, nat_lt, int_lt, int_le, unsigned_abs, min, ◌^◌, true, false, Bool, ◌&&◌, List, [], ◌∷◌, ◌++◌, replicate, length, map, Option, Some, None, IsSomeAnd, refl, ap, subst, sym, ◌∙◌, arith, slice_get}
use Rattle.std.proofs.lemmas.Bool.Decides.{nat_tests}
use Rattle.std.proofs.lemmas.List.{length-map, map-append}
use Rattle.ck_base.specs.declared.limits.TheConstants.{MAX_OBJECTS, MAX_ITEMS}
use Rattle.ck_values.specs.declared.kind.Elem.{Elem}
use Rattle.ck_values.specs.declared.reference.Ref.{Ref}
use Rattle.ck_values.specs.declared.trap.Trap.{Trap as TrapName}
use Rattle.ck_values.specs.declared.trap.Trap.TheVariants.{ObjectLimit, ArrayLimit}
use Rattle.ck_values.specs.declared.value.Value.{Value}
use Rattle.ck_values.specs.Datum.{Datum, AnInt, ARef, meant, all_meant, default_of}
use Rattle.ck_store.specs.Store.{Object, Items, Store, Try, Gives, Fails}
use Rattle.ck_store.specs.Steps.{and_then, pick}
use Rattle.ck_store.specs.Objects.{Made, added}
use Rattle.ck_store.specs.Arrays.{size_of, row_of, row_made, array_made, Sizes, sizes_of, and_more, grown, row_added, rows_added, grid_made}
use Rattle.object_heap.specs.declared.body.Body.{Body}
use Rattle.object_heap.specs.declared.body.Body.TheVariants.{Instance, Array, Ugen}
use Rattle.object_heap.specs.Objects.{Objects, object, next, MakesObject, IsArray}
use Rattle.value_ops.specs.declared.end.OpEnd.{OpEnd}
use Rattle.value_ops.specs.declared.end.OpEnd.TheVariants.{Trap, Memory}
use Rattle.value_ops.specs.Ends.{IsGiven, IsEnd, OnTrap, IsPartEnd}
use Rattle.value_ops.specs.Heaps.{shown_body, objects_of, with_heap, KeepsUnits}
use Rattle.value_ops.proofs.Keeps.{units_same, units_then, units_made, get_before}
use Rattle.value_ops.proofs.Wants.{is_given}
use Rattle.value_ops.proofs.Items.{object_at, is_at, Held}
use Rattle.value_ops.proofs.Changes.{IsGrown, new_grown, set_there, first_grown, units_grown, grown_here}

-- one object more ---------------------------------------------------------------------------------

abbrev pub made_as : Store → Objects → Ref → Made
made_as store heap at = record { reference = ARef at.serial; store = with_heap store heap }

pub added_so : (store : Store) (heap new : Objects) (at : Ref) (b : Body) → heap.first ≡ 1
    → MakesObject heap b at new
    → added (shown_body b) (with_heap store heap) ≡ Gives (made_as store new at)
unfolding added
added_so store heap new at b first m =
    let old = map shown_body heap.bodies in
    let size : length old ≡ length heap.bodies = length-map heap.bodies shown_body in
    let few : heap.first + length heap.bodies ≤ MAX_OBJECTS = m.room in
    let room : nat_lt (length old) MAX_OBJECTS ≡ true =
    grind (arith, nat_tests, size, first, few) in
    let number : suc (length old) ≡ at.serial = omega (arith, size, m.number, first) in
    let longer : old ++ shown_body b ∷ [] ≡ objects_of new =
    sym (map-append shown_body heap.bodies (b ∷ [])) ∙ sym (ap objects_of m.objects) in
    let one : List Object → ℕ → Made = λ os n. record {
      reference = ARef n;
      store = record store { objects = os };
    } in
    ap (λ t. pick t (Gives (one (old ++ shown_body b ∷ []) (suc (length old))))
    (Fails ObjectLimit)) room
    ∙ ap (λ n. Gives (one (old ++ shown_body b ∷ []) n)) number
    ∙ ap (λ os. Gives (one os at.serial)) longer

pub added_not : (store : Store) (heap : Objects) (o : Object) → heap.first ≡ 1
    → MAX_OBJECTS < next heap → added o (with_heap store heap) ≡ Fails ObjectLimit
unfolding added
added_not store heap o first many =
    let old = map shown_body heap.bodies in
    let size : length old ≡ length heap.bodies = length-map heap.bodies shown_body in
    let past : MAX_OBJECTS < heap.first + length heap.bodies = many in
    let full : nat_lt (length old) MAX_OBJECTS ≡ false =
    grind (arith, nat_tests, size, first, past) in
    let one : Made = record {
      reference = ARef (suc (length old));
      store = record store { objects = old ++ o ∷ [] };
    } in
    ap (λ t. pick t (Gives one) (Fails ObjectLimit)) full

-- where fewer objects were made than may be there is one more
pub added_given : (store : Store) (heap : Objects) (o : Object) → heap.first ≡ 1
    → next heap ≤ MAX_OBJECTS → IsGiven (added o (with_heap store heap))
unfolding added
added_given store heap o first few =
    let old = map shown_body heap.bodies in
    let size : length old ≡ length heap.bodies = length-map heap.bodies shown_body in
    let most : heap.first + length heap.bodies ≤ MAX_OBJECTS = few in
    let room : nat_lt (length old) MAX_OBJECTS ≡ true =
    grind (arith, nat_tests, size, first, most) in
    let one : Made = record {
      reference = ARef (suc (length old));
      store = record store { objects = old ++ o ∷ [] };
    } in
    is_given _ one (ap (λ t. pick t (Gives one) (Fails ObjectLimit)) room)

pub array_so : (store : Store) (heap new : Objects) (at : Ref) (e : Elem) (two : Bool)
    (items : List Value) → heap.first ≡ 1 → MakesObject heap (Array e two items) at new
    → array_made e two (all_meant items) (with_heap store heap) ≡ Gives (made_as store new at)
unfolding array_made
array_so store heap new at e two items first m =
    added_so store heap new at (Array e two items) first m

pub array_not : (store : Store) (heap : Objects) (e : Elem) (two : Bool) (items : List Datum)
    → heap.first ≡ 1 → MAX_OBJECTS < next heap
    → array_made e two items (with_heap store heap) ≡ Fails ObjectLimit
unfolding array_made
array_not store heap e two items first many = added_not store heap (Items e two items) first many

pub array_given : (store : Store) (heap : Objects) (e : Elem) (two : Bool) (items : List Datum)
    → heap.first ≡ 1 → next heap ≤ MAX_OBJECTS
    → IsGiven (array_made e two items (with_heap store heap))
unfolding array_made
array_given store heap e two items first few =
    added_given store heap (Items e two items) first few

pub first_made : (heap new : Objects) (at : Ref) (b : Body) → MakesObject heap b at new
    → new.first ≡ heap.first
first_made heap new at b m = ap (λ h. h.first) m.objects

get_last : {A : Type 0} → (xs : List A) (x : A) → slice_get (xs ++ x ∷ []) (length xs) ≡ Some x
get_last [] x = refl
get_last (z ∷ xs) x = get_last xs x

pub still_there : (heap new : Objects) (at r : Ref) (b old : Body) → heap.first ≡ 1
    → MakesObject heap b at new → object heap r ≡ Some old → object new r ≡ Some old
still_there heap new at r b old first m found =
    let here = is_at heap r old first found in
    object_at new r here.number (first_made heap new at b m ∙ first) here.serial
    ∙ ap (λ h. slice_get h.bodies here.number) m.objects
    ∙ get_before heap.bodies (b ∷ []) here.number old here.here

array_of : (heap : Objects) (r : Ref) (o : Option Body) → object heap r ≡ o → IsSomeAnd o IsArray
    → Held heap r
array_of heap r None is fits = absurd fits
array_of heap r (Some (Instance class fields)) is fits = absurd fits
array_of heap r (Some (Array elem two items)) is fits =
    record { items = items; is = record { elem = elem; two = two; is = is } }
array_of heap r (Some (Ugen node)) is fits = absurd fits

pub held_array : (heap : Objects) (r : Ref) → IsSomeAnd (object heap r) IsArray → Held heap r
held_array heap r fits = array_of heap r (object heap r) refl fits

is_array : (heap : Objects) (r : Ref) (e : Elem) (two : Bool) (items : List Value)
    → object heap r ≡ Some (Array e two items) → IsSomeAnd (object heap r) IsArray
is_array heap r e two items is = rw is tt

pub still_array : (heap new : Objects) (at r : Ref) (b : Body) → heap.first ≡ 1
    → MakesObject heap b at new → IsSomeAnd (object heap r) IsArray
    → IsSomeAnd (object new r) IsArray
still_array heap new at r b first m fits =
    let h = held_array heap r fits in
    let a = h.is in
    is_array new r a.elem a.two h.items
    (still_there heap new at r b (Array a.elem a.two h.items) first m a.is)

-- the new one is an array
pub new_array : (heap new : Objects) (at : Ref) (e : Elem) (two : Bool) (items : List Value)
    → heap.first ≡ 1 → MakesObject heap (Array e two items) at new
    → IsSomeAnd (object new at) IsArray
new_array heap new at e two items first m =
    is_array new at e two items
    (object_at new at (length heap.bodies) (first_made heap new at (Array e two items) m ∙ first)
    (omega (arith, m.number, first))
    ∙ ap (λ h. slice_get h.bodies (length heap.bodies)) m.objects
    ∙ get_last heap.bodies (Array e two items))

-- one that grew is one still
pub grown_array : (heap new : Objects) (r : Ref) (v : Value) → heap.first ≡ 1
    → IsSomeAnd (object heap r) IsArray → IsGrown heap r v new → IsSomeAnd (object new r) IsArray
grown_array heap new r v first fits set =
    let h = held_array heap r fits in
    let a = h.is in
    let more = h.items ++ v ∷ [] in
    is_array new r a.elem a.two more
    (ap (λ h. object h r) (new_grown heap new r h.items v a set)
    ∙ set_there heap r (Array a.elem a.two h.items) (Array a.elem a.two more) first a.is)

pub grown_first : (heap new : Objects) (r : Ref) (v : Value) → IsSomeAnd (object heap r) IsArray
    → IsGrown heap r v new → new.first ≡ heap.first
grown_first heap new r v fits set =
    let h = held_array heap r fits in first_grown heap new r h.items v h.is set

pub grown_units : (heap new : Objects) (r : Ref) (v : Value) → IsSomeAnd (object heap r) IsArray
    → IsGrown heap r v new → KeepsUnits heap new
grown_units heap new r v fits set =
    let h = held_array heap r fits in units_grown heap new r h.items v h.is set

-- sizes -------------------------------------------------------------------------------------------

pub size_low : (n : ℤ) → int_lt n (pos 0) ≡ true → size_of (AnInt n) ≡ Fails ArrayLimit
unfolding size_of
size_low (pos n) low = absurd (grind (arith, nat_tests))
size_low (negsuc n) low = refl

pub size_high : (n : ℤ) → int_lt MAX_ITEMS n ≡ true → size_of (AnInt n) ≡ Fails ArrayLimit
unfolding size_of
size_high (pos n) high =
    let so : int_le (pos n) MAX_ITEMS ≡ false = grind (arith, nat_tests) in
    ap (λ t. pick t (Gives n) (Fails ArrayLimit)) so
size_high (negsuc n) high = refl

pub size_so : (n : ℤ) (k : ℕ) → n ≡ pos k → int_lt MAX_ITEMS n ≡ false
    → size_of (AnInt n) ≡ Gives k
unfolding size_of
size_so n k is few =
    let so : int_le (pos k) MAX_ITEMS ≡ true =
    let few : int_lt MAX_ITEMS (pos k) ≡ false = ap (int_lt MAX_ITEMS) (sym is) ∙ few in
    grind (arith, nat_tests) in
    ap (λ n. size_of (AnInt n)) is ∙ ap (λ t. pick t (Gives k) (Fails ArrayLimit)) so

-- one that isn't below 0
pub abs_is : (n : ℤ) → int_lt n (pos 0) ≡ false → n ≡ pos (unsigned_abs n)
abs_is (pos n) least = refl
abs_is (negsuc n) least = absurd (cc)

pub few_is : (n : ℤ) (j : ℕ) → n ≡ pos j → int_lt MAX_ITEMS n ≡ false → j ≤ 1048576
few_is n j is few =
    let so : int_lt MAX_ITEMS (pos j) ≡ false = ap (int_lt MAX_ITEMS) (sym is) ∙ few in
    grind (arith, nat_tests)

pub many_is : (product r : ℕ) → r ≡ min product (2 ^ 64 - 1) → 1048576 < r → 1048576 < product
many_is product r is many = grind arith

pub all_is : (product r : ℕ) → r ≡ min product (2 ^ 64 - 1) → r ≤ 1048576 → product ≤ 1048576
all_is product r is all = grind arith

pub sizes_low : (n m : ℤ) → int_lt n (pos 0) ≡ true
    → sizes_of (AnInt n) (AnInt m) ≡ Fails ArrayLimit
unfolding sizes_of
sizes_low (pos n) m low = absurd (grind (arith, nat_tests))
sizes_low (negsuc n) m low = refl

pub sizes_narrow : (n m : ℤ) → int_lt m (pos 0) ≡ true
    → sizes_of (AnInt n) (AnInt m) ≡ Fails ArrayLimit
unfolding sizes_of
sizes_narrow (pos n) (pos m) low = absurd (grind (arith, nat_tests))
sizes_narrow (pos n) (negsuc m) low = refl
sizes_narrow (negsuc n) m low = refl

abbrev both : (n m : ℕ) → Bool → Bool → Try Sizes
both n m a b = pick (a && b) (Gives (record { rows = n; columns = m })) (Fails ArrayLimit)

pub sizes_long : (n m : ℤ) → int_lt MAX_ITEMS n ≡ true
    → sizes_of (AnInt n) (AnInt m) ≡ Fails ArrayLimit
unfolding sizes_of
sizes_long (pos n) (pos m) high =
    let so : int_le (pos n) MAX_ITEMS ≡ false = grind (arith, nat_tests) in
    ap (λ t. both n m t (int_le (pos (n * m)) MAX_ITEMS)) so
sizes_long (pos n) (negsuc m) high = refl
sizes_long (negsuc n) m high = refl

no_both : (n m : ℕ) (t : Bool) → both n m t false ≡ Fails ArrayLimit
no_both n m true = refl
no_both n m false = refl

pub sizes_many : (n m : ℤ) (j k : ℕ) → n ≡ pos j → m ≡ pos k → 1048576 < j * k
    → sizes_of (AnInt n) (AnInt m) ≡ Fails ArrayLimit
unfolding sizes_of
sizes_many n m j k is also many =
    let so : int_le (pos (j * k)) MAX_ITEMS ≡ false = grind (arith, nat_tests) in
    ap (λ n. sizes_of (AnInt n) (AnInt m)) is ∙ ap (λ m. sizes_of (AnInt (pos j)) (AnInt m)) also
    ∙ ap (both j k (int_le (pos j) MAX_ITEMS)) so ∙ no_both j k (int_le (pos j) MAX_ITEMS)

pub sizes_so : (n m : ℤ) (j k : ℕ) → n ≡ pos j → m ≡ pos k → j ≤ 1048576 → j * k ≤ 1048576
    → sizes_of (AnInt n) (AnInt m) ≡ Gives (record { rows = j; columns = k })
unfolding sizes_of
sizes_so n m j k is also few all =
    let first : int_le (pos j) MAX_ITEMS ≡ true = grind (arith, nat_tests) in
    let so : int_le (pos (j * k)) MAX_ITEMS ≡ true = grind (arith, nat_tests) in
    ap (λ n. sizes_of (AnInt n) (AnInt m)) is ∙ ap (λ m. sizes_of (AnInt (pos j)) (AnInt m)) also
    ∙ ap (λ t. both j k t (int_le (pos (j * k)) MAX_ITEMS)) first ∙ ap (both j k true) so

-- rows --------------------------------------------------------------------------------------------

pub row_so : (store : Store) (e : Elem) (d : Datum) (k : ℕ) (items : List Value)
    → size_of d ≡ Gives k → all_meant items ≡ replicate k (default_of e)
    → row_made e d store ≡ array_made e false (all_meant items) store
unfolding row_made array_made
row_so store e d k items is so =
    ap (λ t. and_then t (λ n. added (row_of e n) store)) is
    ∙ ap (λ ds. added (Items e false ds) store) (sym so)

pub row_trap : (store : Store) (e : Elem) (d : Datum) (trap : TrapName) → size_of d ≡ Fails trap
    → row_made e d store ≡ Fails trap
unfolding row_made
row_trap store e d trap is = ap (λ t. and_then t (λ n. added (row_of e n) store)) is

pub row_full : (store : Store) (heap : Objects) (e : Elem) (d : Datum) (k : ℕ)
    → size_of d ≡ Gives k → heap.first ≡ 1 → MAX_OBJECTS < next heap
    → row_made e d (with_heap store heap) ≡ Fails ObjectLimit
unfolding row_made
row_full store heap e d k is first many =
    ap (λ t. and_then t (λ n. added (row_of e n) (with_heap store heap))) is
    ∙ added_not store heap (row_of e k) first many

pub row_given : (store : Store) (heap : Objects) (e : Elem) (d : Datum) (k : ℕ)
    → size_of d ≡ Gives k → heap.first ≡ 1 → next heap ≤ MAX_OBJECTS
    → IsGiven (row_made e d (with_heap store heap))
unfolding row_made
row_given store heap e d k is first few =
    subst (λ (t : Try ℕ). IsGiven (and_then t (λ n. added (row_of e n) (with_heap store heap))))
    (sym is) (added_given store heap (row_of e k) first few)

-- one row more
added_row_so : (store : Store) (e : Elem) (m : ℕ) (g : Datum) (items : List Value)
    → all_meant items ≡ replicate m (default_of e)
    → row_added e m g store
    ≡ and_then (array_made e false (all_meant items) store)
    (λ made. grown made.store g made.reference)
unfolding row_added array_made
added_row_so store e m g items so =
    ap (λ ds. and_then (added (Items e false ds) store)
    (λ made. grown made.store g made.reference)) (sym so)

pub added_row_trap : (store : Store) (e : Elem) (m : ℕ) (g : Datum) (items : List Value)
    (trap : TrapName)
    → all_meant items ≡ replicate m (default_of e)
    → array_made e false (all_meant items) store ≡ Fails trap
    → row_added e m g store ≡ Fails trap
added_row_trap store e m g items trap so is =
    added_row_so store e m g items so
    ∙ ap (λ t. and_then t (λ made. grown made.store g made.reference)) is

pub added_row : (store : Store) (old mid new : Objects) (at r : Ref) (e : Elem) (m : ℕ)
    (items : List Value) (v : Value) → all_meant items ≡ replicate m (default_of e)
    → array_made e false (all_meant items) (with_heap store old) ≡ Gives (made_as store mid at)
    → mid.first ≡ 1 → IsSomeAnd (object mid r) IsArray → meant v ≡ ARef at.serial
    → IsGrown mid r v new
    → row_added e m (ARef r.serial) (with_heap store old) ≡ Gives (with_heap store new)
added_row store old mid new at r e m items v so made first fits is set =
    let h = held_array mid r fits in
    added_row_so (with_heap store old) e m (ARef r.serial) items so
    ∙ ap (λ t. and_then t (λ made. grown made.store (ARef r.serial) made.reference)) made
    ∙ ap (grown (with_heap store mid) (ARef r.serial)) (sym is)
    ∙ grown_here store mid new r h.items v first h.is set

-- row after row
pub record Adding (old new : Objects) (r : Ref) (rows : ℕ) (e : Elem) (columns done : ℕ)
    : Type 0 where
  pub first : new.first ≡ old.first
  pub units : KeepsUnits old new
  pub array : IsSomeAnd (object new r) IsArray
  pub so : (store : Store) → rows_added rows e columns (ARef r.serial) (with_heap store old)
      ≡ rows_added (rows - done) e columns (ARef r.serial) (with_heap store new)

pub adding_first : (heap : Objects) (r : Ref) (rows : ℕ) (e : Elem) (columns : ℕ)
    → IsSomeAnd (object heap r) IsArray → Adding heap heap r rows e columns 0
adding_first heap r rows e columns fits = record {
  first = refl;
  units = units_same heap heap refl;
  array = fits;
  so = λ store. let none : rows ≡ rows - 0 = omega arith in ap
      (λ n. rows_added n e columns (ARef r.serial) (with_heap store heap)) none;
}

-- the rest of the rows, from the next one on
rest_so : (store : Store) (rest : ℕ) (e : Elem) (columns : ℕ) (g : Datum) (n : ℕ) → n ≡ suc rest
    → rows_added n e columns g store
    ≡ and_more (row_added e columns g store) store (λ later. rows_added rest e columns g later)
unfolding rows_added
rest_so store rest e columns g n is = ap (λ n. rows_added n e columns g store) is

pub adding_step : (old mid new : Objects) (r : Ref) (rows : ℕ) (e : Elem) (columns done : ℕ)
    → done < rows → Adding old mid r rows e columns done → new.first ≡ mid.first
    → KeepsUnits mid new → IsSomeAnd (object new r) IsArray
    → ((store : Store) → row_added e columns (ARef r.serial) (with_heap store mid) ≡ Gives
    (with_heap store new))
    → Adding old new r rows e columns (done + 1)
adding_step old mid new r rows e columns done more k first units fits one = record {
  first = first ∙ k.first;
  units = units_then old mid new k.units units;
  array = fits;
  so = λ store. let count : rows - done ≡ suc (rows - (done + 1)) = omega arith in
      k.so store
      ∙ rest_so (with_heap store mid) (rows - (done + 1)) e columns (ARef r.serial)
      (rows - done) count
      ∙ ap (λ t. and_more t (with_heap store mid)
      (λ later. rows_added (rows - (done + 1)) e columns (ARef r.serial) later)) (one store);
}

pub adding_trap : (store : Store) (old mid : Objects) (r : Ref) (rows : ℕ) (e : Elem)
    (columns done : ℕ) (trap : TrapName) → done < rows → Adding old mid r rows e columns done
    → row_added e columns (ARef r.serial) (with_heap store mid) ≡ Fails trap
    → rows_added rows e columns (ARef r.serial) (with_heap store old)
    ≡ record { store = with_heap store mid; end = Fails trap }
adding_trap store old mid r rows e columns done trap more k is =
    let count : rows - done ≡ suc (rows - (done + 1)) = omega arith in
    k.so store
    ∙ rest_so (with_heap store mid) (rows - (done + 1)) e columns (ARef r.serial)
    (rows - done) count
    ∙ ap (λ t. and_more t (with_heap store mid)
    (λ later. rows_added (rows - (done + 1)) e columns (ARef r.serial) later)) is

pub adding_done : (store : Store) (old new : Objects) (r : Ref) (rows : ℕ) (e : Elem)
    (columns done : ℕ) → rows ≤ done → Adding old new r rows e columns done
    → rows_added rows e columns (ARef r.serial) (with_heap store old)
    ≡ record { store = with_heap store new; end = Gives (ARef r.serial) }
unfolding rows_added
adding_done store old new r rows e columns done all k =
    let none : rows - done ≡ 0 = omega arith in
    k.so store ∙ ap (λ n. rows_added n e columns (ARef r.serial) (with_heap store new)) none

-- arrays of arrays --------------------------------------------------------------------------------

pub grid_sizes : (store : Store) (e : Elem) (x y : Datum) (trap : TrapName)
    → sizes_of x y ≡ Fails trap
    → grid_made e x y store ≡ record { store = store; end = Fails trap }
unfolding grid_made
grid_sizes store e x y trap is =
    ap (λ t. and_more t store (λ sizes. and_more (array_made e true [] store) store
    (λ made. rows_added sizes.rows e sizes.columns made.reference made.store))) is

grid_so : (store : Store) (e : Elem) (x y : Datum) (s : Sizes) → sizes_of x y ≡ Gives s
    → grid_made e x y store
    ≡ and_more (array_made e true [] store) store
    (λ made. rows_added s.rows e s.columns made.reference made.store)
unfolding grid_made
grid_so store e x y s is =
    ap (λ t. and_more t store (λ sizes. and_more (array_made e true [] store) store
    (λ made. rows_added sizes.rows e sizes.columns made.reference made.store))) is

pub grid_array : (store : Store) (e : Elem) (x y : Datum) (s : Sizes) (trap : TrapName)
    → sizes_of x y ≡ Gives s → array_made e true [] store ≡ Fails trap
    → grid_made e x y store ≡ record { store = store; end = Fails trap }
grid_array store e x y s trap is made =
    grid_so store e x y s is
    ∙ ap (λ t. and_more t store (λ made. rows_added s.rows e s.columns made.reference made.store))
    made

pub grid_rows : (store : Store) (e : Elem) (x y : Datum) (s : Sizes) (made : Made)
    → sizes_of x y ≡ Gives s → array_made e true [] store ≡ Gives made
    → grid_made e x y store ≡ rows_added s.rows e s.columns made.reference made.store
grid_rows store e x y s made is so =
    grid_so store e x y s is
    ∙ ap (λ t. and_more t store (λ made. rows_added s.rows e s.columns made.reference made.store))
    so

-- how they end -----------------------------------------------------------------------------------

pub row_end : (store : Store) (e : Elem) (d : Datum) (end : OpEnd) → IsEnd false end (size_of d)
    → IsEnd true end (row_made e d store)
row_end store e d (Trap trap) is = row_trap store e d trap is
row_end store e d (Memory _) is = absurd is

pub added_row_end : (store : Store) (e : Elem) (m : ℕ) (g : Datum) (items : List Value)
    (end : OpEnd) → all_meant items ≡ replicate m (default_of e)
    → IsEnd true end (array_made e false (all_meant items) store)
    → OnTrap end (λ trap. row_added e m g store ≡ Fails trap)
added_row_end store e m g items (Trap trap) so is = added_row_trap store e m g items trap so is
added_row_end store e m g items (Memory _) so is = tt

pub adding_end : (store : Store) (old mid new : Objects) (r : Ref) (rows : ℕ) (e : Elem)
    (columns done : ℕ) (end : OpEnd) → done < rows → Adding old mid r rows e columns done
    → OnTrap end (λ trap. row_added e columns (ARef r.serial) (with_heap store mid) ≡ Fails trap)
    → OnTrap end (λ trap. new ≡ mid)
    → IsPartEnd end (rows_added rows e columns (ARef r.serial) (with_heap store old))
    (with_heap store new)
adding_end store old mid new r rows e columns done (Trap trap) more k is same =
    adding_trap store old mid r rows e columns done trap more k is
    ∙ ap (λ h. record { store = with_heap store h; end = Fails trap }) (sym same)
adding_end store old mid new r rows e columns done (Memory _) more k is same = tt

pub grid_sizes_end : (store : Store) (e : Elem) (x y : Datum) (end : OpEnd)
    → IsEnd false end (sizes_of x y) → IsPartEnd end (grid_made e x y store) store
grid_sizes_end store e x y (Trap trap) is = grid_sizes store e x y trap is
grid_sizes_end store e x y (Memory _) is = tt

-- an array without items yet
unfilled : (store : Store) (e : Elem) (items : List Value) (t : Try Made) → items ≡ []
    → array_made e true (all_meant items) store ≡ t → array_made e true [] store ≡ t
unfilled store e items t none is = sym (ap (λ vs. array_made e true (all_meant vs) store) none) ∙ is

pub grid_array_end : (store : Store) (heap new : Objects) (e : Elem) (x y : Datum) (s : Sizes)
    (items : List Value) (end : OpEnd) → items ≡ [] → sizes_of x y ≡ Gives s → new ≡ heap
    → IsEnd true end (array_made e true (all_meant items) (with_heap store heap))
    → IsPartEnd end (grid_made e x y (with_heap store heap)) (with_heap store new)
grid_array_end store heap new e x y s items (Trap trap) none is same made =
    grid_array (with_heap store heap) e x y s trap is
    (unfilled (with_heap store heap) e items (Fails trap) none made)
    ∙ ap (λ h. record { store = with_heap store h; end = Fails trap }) (sym same)
grid_array_end store heap new e x y s items (Memory _) none is same made = tt

pub grid_then : (store : Store) (heap mid : Objects) (at : Ref) (e : Elem) (x y : Datum) (s : Sizes)
    (items : List Value) → items ≡ [] → sizes_of x y ≡ Gives s
    → array_made e true (all_meant items) (with_heap store heap) ≡ Gives (made_as store mid at)
    → grid_made e x y (with_heap store heap)
    ≡ rows_added s.rows e s.columns (ARef at.serial) (with_heap store mid)
grid_then store heap mid at e x y s items none is made =
    grid_rows (with_heap store heap) e x y s (made_as store mid at) is
    (unfilled (with_heap store heap) e items (Gives (made_as store mid at)) none made)

pub ruleset makes = (
  array_so,
  array_not,
  first_made,
  still_array,
  new_array,
  grown_array,
  grown_first,
  units_same,
  units_then,
  units_made,
  grown_units,
)
