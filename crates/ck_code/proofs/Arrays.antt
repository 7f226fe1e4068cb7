-- Arrays that fit: their items suit a kind, and a store that fits goes on to as arrays are made, as
-- their items are set and as they grow.
use Rattle.std.proofs.Common.{◌≡◌, ℕ, zero, suc, Bool, true, false, ◌&&◌, int_le, ◌*◌, pos, negsuc, List, [], ◌∷◌, ◌++◌, length, replicate, Option, Some, None, refl, sym, subst, slice_get, slice_set, option_and_then}
use Rattle.ck_values.specs.declared.kind.Elem.{Elem}
use Rattle.ck_values.specs.declared.kind.Elem.TheVariants.{Int as IntElem}
use Rattle.ck_values.specs.declared.kind.Kind.{Kind}
use Rattle.ck_values.specs.declared.kind.Kind.TheVariants.{One, Row, Grid}
use Rattle.ck_base.specs.declared.limits.TheConstants.{MAX_ITEMS}
use Rattle.ck_values.specs.declared.trap.Trap.{Trap}
use Rattle.ck_values.specs.declared.trap.Trap.TheVariants.{ArrayLimit}
use Rattle.ck_values.specs.Datum.{Datum, AnInt, ARef, default_of}
use Rattle.ugen_sample.specs.UnitState.{Units, unit_at}
use Rattle.ck_store.specs.Store.{Object, shape, Instance, Items, UnitGenerator, OfItems, Shapes, shape_at, Store, shapes_of, Try, Gives, Fails, Misfit}
use Rattle.ck_store.specs.Steps.{pick}
use Rattle.ck_store.specs.Objects.{with_object, added}
use Rattle.ck_store.specs.Arrays.{Line, line_of, array_at, with_items, there, item_at, item_of, replaced, with_item, item_count, grown, appended, cleared, size_of, row_of, row_made, array_made, sizes_of, Partly, and_more, row_added, rows_added, grid_made, is_within, has_item, next_index, Filled, filled}
use Rattle.ck_typed.specs.declared.class.Class.{Class}
use Rattle.ck_typed.specs.WellFormed.{FoundWhere, HasItems}
use Rattle.ck_code.specs.declared.code.CodeParts.{CodeParts}
use Rattle.ck_code.specs.Fitting.{Refers, IsOfItems, IsOf, Suits, AllSuit, IsFitObject, IsFitStore}
use Rattle.ck_code.proofs.Placed.{of_unit}
use Rattle.ck_code.proofs.Standing.{found_is, refers_more, suits_kept}
use Rattle.ck_code.proofs.Suiting.{Fine, fine_then, fine_map, default_is}
use Rattle.ck_code.proofs.Tables.{Grown, IsAdded, Makes, grown_same, grown_trans, set_grown, added_fine}

-- the kind of an array, and that of its items
abbrev pub array_kind : Elem → (of_arrays : Bool) → Kind
array_kind e false = Row e
array_kind e true = Grid e

abbrev pub item_kind : Elem → (of_arrays : Bool) → Kind
item_kind e false = One e
item_kind e true = Row e

-- of one of two steps
either_fine : {A : Type 0} (P : A → Type 0) (b : Bool) (t : Try A) (trap : Trap) → Fine P t
    → Fine P (pick b t (Fails trap))
either_fine P true t trap h = h
either_fine P false t trap h = tt

-- the array that a value refers to, whose items are of this kind
record IsLine (objects : List Object) (r : Datum) (k : Kind) (line : Line) : Type 0 where
  n : ℕ
  is : r ≡ ARef (suc n)
  at : slice_get objects n ≡ Some (Items line.elem line.of_arrays line.items)
  kind : item_kind line.elem line.of_arrays ≡ k

line_so : (units : Units) (objects : List Object) (n : ℕ) (e : Elem) (b : Bool)
    (o : Option Object) → slice_get objects n ≡ o → FoundWhere (option_and_then (shape units) o) (IsOfItems e b)
    → Fine (IsLine objects (ARef (suc n)) (item_kind e b)) (line_of o)
line_so units objects n e b None at h = absurd h
line_so units objects n e b (Some (Instance c fields)) at h = absurd h
line_so units objects n e b (Some (UnitGenerator place)) at h =
    let unit = found_is (unit_at units place) _ (of_unit (IsOfItems e b) units place h) in
    absurd unit.2
line_so units objects n e b (Some (Items elem of_arrays items)) at h = record {
  n = n;
  is = refl;
  at = at;
  kind = subst (λ e. item_kind elem of_arrays ≡ item_kind e b) h.0
      (subst (λ b. item_kind elem of_arrays ≡ item_kind elem b) h.1 refl);
}

line_fine : (units : Units) (objects : List Object) (r : Datum) (e : Elem) (b : Bool)
    → Refers (shape_at units objects) (IsOfItems e b) r
    → Fine (IsLine objects r (item_kind e b)) (array_at objects r)
unfolding array_at
line_fine units objects (ARef zero) e b h = tt
line_fine units objects (ARef (suc n)) e b h =
    line_so units objects n e b (slice_get objects n) refl h
line_fine units objects _ e b h = absurd h

module _ (classes : List Class) (shapes : Shapes) where
  -- items that suit make an array that fits, and the other way around
  items_suit : (e : Elem) (b : Bool) (items : List Datum)
      → IsFitObject classes shapes (Items e b items)
      → AllSuit classes shapes (item_kind e b) items
  items_suit e false items h = h
  items_suit e true items h = h

  items_fit : (e : Elem) (b : Bool) (items : List Datum)
      → AllSuit classes shapes (item_kind e b) items
      → IsFitObject classes shapes (Items e b items)
  items_fit e false items h = h
  items_fit e true items h = h

  all_set : (k : Kind) (items : List Datum) (i : ℕ) (v : Datum) → AllSuit classes shapes k items
      → Suits classes shapes k v → AllSuit classes shapes k (slice_set items i v)
  all_set k [] i v h is = h
  all_set k (x ∷ items) zero v h is = (is, h.1)
  all_set k (x ∷ items) (suc i) v h is = (h.0, all_set k items i v h.1 is)

  all_more : (k : Kind) (items : List Datum) (v : Datum) → AllSuit classes shapes k items
      → Suits classes shapes k v → AllSuit classes shapes k (items ++ v ∷ [])
  all_more k [] v h is = (is, tt)
  all_more k (x ∷ items) v h is = (h.0, all_more k items v h.1 is)

  all_default : (e : Elem) (n : ℕ) → AllSuit classes shapes (One e) (replicate n (default_of e))
  all_default e zero = tt
  all_default e (suc n) = (default_is classes shapes e, all_default e n)

  replaced_suit : (k : Kind) (items : List Datum) (i v : Datum) → AllSuit classes shapes k items
      → Suits classes shapes k v → AllSuit classes shapes k (replaced items i v)
  replaced_suit k items (AnInt (pos i)) v h is = all_set k items i v h is
  replaced_suit k items _ v h is = h

  there_fine : (k : Kind) (items : List Datum) (i : ℕ) → AllSuit classes shapes k items
      → Fine (Suits classes shapes k) (there (slice_get items i))
  there_fine k [] i h = tt
  there_fine k (x ∷ items) zero h = h.0
  there_fine k (x ∷ items) (suc i) h = there_fine k items i h.1

  item_at_fine : (k : Kind) (items : List Datum) (i : Datum) → AllSuit classes shapes k items
      → IsOf classes shapes IntElem i → Fine (Suits classes shapes k) (item_at items i)
  unfolding item_at
  item_at_fine k items (AnInt (pos i)) h is = there_fine k items i h
  item_at_fine k items (AnInt (negsuc i)) h is = tt
  item_at_fine k items _ h is = absurd is

  within_fine : (i : Datum) (n : ℕ) → IsOf classes shapes IntElem i
      → Fine (λ b. Unit {0}) (is_within i n)
  unfolding is_within
  within_fine (AnInt (pos i)) n is = tt
  within_fine (AnInt (negsuc i)) n is = tt
  within_fine _ n is = absurd is

  next_fine : (i : Datum) → IsOf classes shapes IntElem i
      → Fine (IsOf classes shapes IntElem) (next_index i)
  unfolding next_index
  next_fine (AnInt i) is = tt
  next_fine _ is = absurd is

  -- a size is one, or too large
  size_fine : (v : Datum) → IsOf classes shapes IntElem v → Fine (λ n. Unit {0}) (size_of v)
  unfolding size_of
  size_fine (AnInt (pos n)) is =
      either_fine (λ n. Unit {0}) (int_le (pos n) MAX_ITEMS) (Gives n) ArrayLimit tt
  size_fine (AnInt (negsuc n)) is = tt
  size_fine _ is = absurd is

  sizes_fine : (v w : Datum) → IsOf classes shapes IntElem v → IsOf classes shapes IntElem w
      → Fine (λ sizes. Unit {0}) (sizes_of v w)
  unfolding sizes_of
  sizes_fine (AnInt (pos n)) (AnInt (pos m)) is_v is_w =
      either_fine (λ sizes. Unit {0}) (int_le (pos n) MAX_ITEMS && int_le (pos (n * m)) MAX_ITEMS)
      (Gives (record { rows = n; columns = m })) ArrayLimit tt
  sizes_fine (AnInt (pos n)) (AnInt (negsuc m)) is_v is_w = tt
  sizes_fine (AnInt (negsuc n)) (AnInt m) is_v is_w = tt
  sizes_fine (AnInt n) _ is_v is_w = absurd is_w
  sizes_fine _ w is_v is_w = absurd is_v

  -- what refers to such an array suits its kind
  array_suits : (e : Elem) (b : Bool) (v : Datum) → Refers shapes (λ y. y ≡ OfItems e b) v
      → Suits classes shapes (array_kind e b) v
  array_suits e false v h =
      refers_more classes shapes (λ y. y ≡ OfItems e false) (IsOfItems e false)
      (λ y is. subst (IsOfItems e false) (sym is) (refl, refl)) v h
  array_suits e true v h =
      refers_more classes shapes (λ y. y ≡ OfItems e true) (IsOfItems e true)
      (λ y is. subst (IsOfItems e true) (sym is) (refl, refl)) v h

module _ (classes : List Class) (units : Units) (objects : List Object) where
  abbrev shapes : Shapes
  shapes = shape_at units objects

  -- an array is found
  array_fine : (r : Datum) (j k : Kind) → HasItems j k → Suits classes shapes j r
      → Fine (IsLine objects r k) (array_at objects r)
  array_fine r (Row e) k has h =
      subst (λ k. Fine (IsLine objects r k) (array_at objects r)) (sym has)
      (line_fine units objects r e false h)
  array_fine r (Grid e) k has h =
      subst (λ k. Fine (IsLine objects r k) (array_at objects r)) (sym has)
      (line_fine units objects r e true h)
  array_fine r j k has h = absurd has

  -- how many items there are is an int
  pub item_count_fine : (r : Datum) (j k : Kind) → HasItems j k → Suits classes shapes j r
      → Fine (IsOf classes shapes IntElem) (item_count objects r)
  unfolding item_count
  item_count_fine r j k has h =
      fine_then (IsLine objects r k) (IsOf classes shapes IntElem) (array_at objects r) _
      (array_fine r j k has h) (λ line is. tt)

  -- an array has such an item or not
  pub has_item_fine : (r i : Datum) (j k : Kind) → HasItems j k → Suits classes shapes j r
      → IsOf classes shapes IntElem i → Fine (λ b. Unit {0}) (has_item objects r i)
  unfolding has_item
  has_item_fine r i j k has is_r is_i =
      fine_then (IsLine objects r k) (λ b. Unit {0}) (array_at objects r) _
      (array_fine r j k has is_r) (λ line is. within_fine classes shapes i (length line.items) is_i)

-- an item was stored, in the store with it
abbrev pub IsFilled : CodeParts → Store → Filled → Type 0
IsFilled code store done =
    IsOf code.classes (shapes_of done.store) IntElem done.next × Grown code store done.store

module _ (code : CodeParts) where
  abbrev classes : List Class
  classes = code.classes

  -- items -----------------------------------------------------------------------------------------

  line_items : (store : Store) (r : Datum) (k : Kind) (line : Line) → IsFitStore code store
      → IsLine store.objects r k line → AllSuit classes (shapes_of store) k line.items
  line_items store r k line fit is =
      subst (λ k. AllSuit classes (shapes_of store) k line.items) is.kind
      (items_suit classes (shapes_of store) line.elem line.of_arrays line.items
      (fit.objects.each is.n _ is.at))

  -- an array with other items
  items_grown : (store : Store) (r : Datum) (k : Kind) (line : Line) (items : List Datum)
      → IsFitStore code store → IsLine store.objects r k line
      → AllSuit classes (shapes_of store) k items → Grown code store (with_items store r line items)
  items_grown store r k line items fit is suits =
      let new : Object = Items line.elem line.of_arrays items in
      let fits : IsFitObject classes (shapes_of store) new =
      items_fit classes (shapes_of store) line.elem line.of_arrays items
      (subst (λ k. AllSuit classes (shapes_of store) k items) (sym is.kind) suits) in
      subst (λ x. Grown code store (with_object store x new)) (sym is.is)
      (set_grown code store is.n (Items line.elem line.of_arrays line.items) new fit is.at refl
      fits)

  module _ (store : Store) (r : Datum) (j k : Kind) (fit : IsFitStore code store)
      (has : HasItems j k) (is_r : Suits classes (shapes_of store) j r) where
    -- an item suits its kind
    pub item_of_fine : (i : Datum) → IsOf classes (shapes_of store) IntElem i
        → Fine (Suits classes (shapes_of store) k) (item_of store.objects r i)
    unfolding item_of
    item_of_fine i is_i =
        fine_then (IsLine store.objects r k) (Suits classes (shapes_of store) k)
        (array_at store.objects r) _ (array_fine classes store.units store.objects r j k has is_r) (λ line is.
        item_at_fine classes (shapes_of store) k line.items i (line_items store r k line fit is) is_i)

    -- an item is replaced
    pub with_item_fine : (i v : Datum) → IsOf classes (shapes_of store) IntElem i
        → Suits classes (shapes_of store) k v → Fine (Grown code store) (with_item store r i v)
    unfolding with_item
    with_item_fine i v is_i is_v =
        fine_then (IsLine store.objects r k) (Grown code store)
        (array_at store.objects r) _ (array_fine classes store.units store.objects r j k has is_r) (λ line is.
        let suits = line_items store r k line fit is in
        fine_then (Suits classes (shapes_of store) k) (Grown code store) (item_at line.items i) _
        (item_at_fine classes (shapes_of store) k line.items i suits is_i) (λ old was.
        items_grown store r k line (replaced line.items i v) fit is
        (replaced_suit classes (shapes_of store) k line.items i v suits is_v)))

    -- an array has one item more
    pub grown_fine : (v : Datum) → Suits classes (shapes_of store) k v
        → Fine (Grown code store) (grown store r v)
    unfolding grown
    grown_fine v is_v =
        fine_then (IsLine store.objects r k) (Grown code store)
        (array_at store.objects r) _ (array_fine classes store.units store.objects r j k has is_r) (λ line is.
        items_grown store r k line (line.items ++ v ∷ []) fit is
        (all_more classes (shapes_of store) k line.items v (line_items store r k line fit is) is_v))

    -- or it is full
    pub appended_fine : (v : Datum) → Suits classes (shapes_of store) k v
        → Fine (Grown code store) (appended store r v)
    unfolding appended
    appended_fine v is_v =
        fine_then (IsLine store.objects r k) (Grown code store)
        (array_at store.objects r) _ (array_fine classes store.units store.objects r j k has is_r) (λ line is.
        unless_full (int_le MAX_ITEMS (pos (length line.items))) (grown store r v)
        (grown_fine v is_v))
      where
        unless_full : (b : Bool) (t : Try Store) → Fine (Grown code store) t
            → Fine (Grown code store) (pick b (Fails ArrayLimit) t)
        unless_full true t h = tt
        unless_full false t h = h

    -- an array has no items any more
    pub cleared_fine : Fine (Grown code store) (cleared store r)
    unfolding cleared
    cleared_fine =
        fine_then (IsLine store.objects r k) (Grown code store)
        (array_at store.objects r) _ (array_fine classes store.units store.objects r j k has is_r) (λ line is.
        items_grown store r k line [] fit is tt)

    -- an item was made, and stored
    pub filled_fine : (i v : Datum) → IsOf classes (shapes_of store) IntElem i
        → Suits classes (shapes_of store) k v → Fine (IsFilled code store) (filled store r i v)
    unfolding filled
    filled_fine i v is_i is_v =
        fine_then (IsLine store.objects r k) (IsFilled code store)
        (array_at store.objects r) _ (array_fine classes store.units store.objects r j k has is_r) (λ line is.
        fine_then (IsOf classes (shapes_of store) IntElem) (IsFilled code store) (next_index i) _
        (next_fine classes (shapes_of store) i is_i) (λ next is_next.
        let suits = replaced_suit classes (shapes_of store) k line.items i v
        (line_items store r k line fit is) is_v in
        let after = items_grown store r k line (replaced line.items i v) fit is suits in (
          suits_kept classes (shapes_of store)
              (shapes_of (with_items store r line (replaced line.items i v))) after.2 (One IntElem) next
              is_next,
          after,
        )))

  -- new arrays ------------------------------------------------------------------------------------

  -- an array of items that suit it
  pub array_made_fine : (store : Store) (e : Elem) (b : Bool) (items : List Datum)
      → IsFitStore code store → AllSuit classes (shapes_of store) (item_kind e b) items
      → Fine (Makes code store (array_kind e b)) (array_made e b items store)
  unfolding array_made
  array_made_fine store e b items fit suits =
      fine_map (IsAdded code store (OfItems e b)) (Makes code store (array_kind e b))
      (added (Items e b items) store) (added_fine code store (Items e b items) (OfItems e b) fit
      (items_fit classes (shapes_of store) e b items suits) refl) (λ made h. (
        array_suits classes (shapes_of made.store) e b made.reference h.0,
        h.1,
      ))

  -- an array of first values
  row_of_fine : (store : Store) (e : Elem) (n : ℕ) → IsFitStore code store
      → Fine (Makes code store (Row e)) (added (row_of e n) store)
  unfolding array_made
  row_of_fine store e n fit =
      array_made_fine store e false (replicate n (default_of e)) fit
      (all_default classes (shapes_of store) e n)

  pub row_made_fine : (store : Store) (e : Elem) (v : Datum) → IsFitStore code store
      → IsOf classes (shapes_of store) IntElem v → Fine (Makes code store (Row e)) (row_made e v store)
  unfolding row_made
  row_made_fine store e v fit is =
      fine_then (λ n. Unit {0}) (Makes code store (Row e)) (size_of v) _
      (size_fine classes (shapes_of store) v is) (λ n ok. row_of_fine store e n fit)

  -- arrays of arrays ------------------------------------------------------------------------------

  -- the store has grown, whether all was made or not; what was made suits a kind
  abbrev pub IsPartly : Store → Kind → Partly → Type 0
  IsPartly store k part =
      Grown code store part.store × Fine (Suits classes (shapes_of part.store) k) part.end

  more_fine : {A : Type 0} (store : Store) (P : A → Type 0) (t : Try A) (go : A → Partly) (k : Kind)
      → IsFitStore code store → Fine P t → ((a : A) → P a → IsPartly store k (go a))
      → IsPartly store k (and_more t store go)
  more_fine store P (Gives a) go k fit fine next = next a fine
  more_fine store P (Fails trap) go k fit fine next = (grown_same code store fit, tt)
  more_fine store P Misfit go k fit fine next = absurd fine

  later_fine : (store later : Store) (k : Kind) (part : Partly) → Grown code store later
      → IsPartly later k part → IsPartly store k part
  later_fine store later k part grown h = (grown_trans code store later part.store grown h.0, h.1)

  -- one row more
  row_added_fine : (store : Store) (e : Elem) (m : ℕ) (grid : Datum) → IsFitStore code store
      → Suits classes (shapes_of store) (Grid e) grid
      → Fine (Grown code store) (row_added e m grid store)
  unfolding row_added
  row_added_fine store e m grid fit is =
      fine_then (Makes code store (Row e)) (Grown code store) (added (row_of e m) store) _
      (row_of_fine store e m fit) (λ made h.
      fine_map (Grown code made.store) (Grown code store) (grown made.store grid made.reference)
      (grown_fine made.store grid (Grid e) (Row e) h.1.0 refl
      (suits_kept classes (shapes_of store) (shapes_of made.store) h.1.2 (Grid e) grid is)
      made.reference h.0) (λ later more. grown_trans code store made.store later h.1 more))

  rows_added_fine : (n : ℕ) (store : Store) (e : Elem) (m : ℕ) (grid : Datum)
      → IsFitStore code store → Suits classes (shapes_of store) (Grid e) grid
      → IsPartly store (Grid e) (rows_added n e m grid store)
  unfolding rows_added
  rows_added_fine zero store e m grid fit is = (grown_same code store fit, is)
  rows_added_fine (suc n) store e m grid fit is =
      more_fine store (Grown code store) (row_added e m grid store) _ (Grid e) fit
      (row_added_fine store e m grid fit is) (λ later more.
      later_fine store later (Grid e) (rows_added n e m grid later) more
      (rows_added_fine n later e m grid more.0
      (suits_kept classes (shapes_of store) (shapes_of later) more.2 (Grid e) grid is)))

  pub grid_made_fine : (store : Store) (e : Elem) (v w : Datum) → IsFitStore code store
      → IsOf classes (shapes_of store) IntElem v → IsOf classes (shapes_of store) IntElem w
      → IsPartly store (Grid e) (grid_made e v w store)
  unfolding grid_made
  grid_made_fine store e v w fit is_v is_w =
      more_fine store (λ sizes. Unit {0}) (sizes_of v w) _ (Grid e) fit
      (sizes_fine classes (shapes_of store) v w is_v is_w) (λ sizes ok.
      more_fine store (Makes code store (Grid e)) (array_made e true [] store) _ (Grid e) fit
      (array_made_fine store e true [] fit tt) (λ made h.
      later_fine store made.store (Grid e)
      (rows_added sizes.rows e sizes.columns made.reference made.store) h.1
      (rows_added_fine sizes.rows made.store e sizes.columns made.reference h.1.0 h.0)))
