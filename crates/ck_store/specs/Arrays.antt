-- Arrays: how they are made, their items, and how they grow.
use Rattle.std.specs.Prelude.{ℕ, zero, suc, ◌*◌, pos, negsuc, ◌+ℤ◌, int_le, nat_lt, Bool, true, false, ◌&&◌, List, [], ◌∷◌, ◌++◌, length, replicate, Option, Some, None, slice_get, slice_set}
use Rattle.ck_values.specs.declared.kind.Elem.{Elem}
use Rattle.ck_base.specs.declared.limits.TheConstants.{MAX_ITEMS}
use Rattle.ck_values.specs.declared.trap.Trap.TheVariants.{NullPointer, ArrayOutOfBounds, ArrayLimit}
use Rattle.ck_values.specs.Datum.{Datum, AnInt, ARef, default_of}
use Rattle.ck_store.specs.Store.{Object, Items, Store, Try, Gives, Fails, Misfit}
use Rattle.ck_store.specs.Steps.{and_then, pick}
use Rattle.ck_store.specs.Operators.{wrapped}
use Rattle.ck_store.specs.Objects.{Made, added, with_object}

-- an array: the type of its items, whether they are arrays of it, and they
pub record Line : Type 0 where
  pub elem : Elem
  pub of_arrays : Bool
  pub items : List Datum

abbrev pub line_of : Option Object → Try Line
line_of (Some (Items e b items)) = Gives (record { elem = e; of_arrays = b; items = items })
line_of _ = Misfit

-- the array that a value refers to; null is a trap
unfoldable pub array_at : List Object → Datum → Try Line
array_at objects (ARef zero) = Fails NullPointer
array_at objects (ARef (suc n)) = line_of (slice_get objects n)
array_at objects v = Misfit

-- the store with other items in an array that a value refers to
abbrev pub with_items : Store → (array : Datum) → Line → List Datum → Store
with_items store r line items = with_object store r (Items line.elem line.of_arrays items)

-- items ------------------------------------------------------------------------------------------

-- what was found, or the trap of an index that isn't there
abbrev pub there : {A : Type 0} → Option A → Try A
there None = Fails ArrayOutOfBounds
there (Some a) = Gives a

-- the item with this index
unfoldable pub item_at : List Datum → (index : Datum) → Try Datum
item_at items (AnInt (pos i)) = there (slice_get items i)
item_at items (AnInt (negsuc i)) = Fails ArrayOutOfBounds
item_at items v = Misfit

-- an item of the array that a value refers to
unfoldable pub item_of : List Object → (array index : Datum) → Try Datum
item_of objects r i = and_then (array_at objects r) (λ line. item_at line.items i)

-- the items with one of them replaced, where it is there
abbrev pub replaced : List Datum → (index value : Datum) → List Datum
replaced items (AnInt (pos i)) v = slice_set items i v
replaced items _ v = items

-- the store with one item replaced
unfoldable pub with_item : Store → (array index value : Datum) → Try Store
with_item store r i v =
    and_then (array_at store.objects r) (λ line. and_then (item_at line.items i) (λ old.
    Gives (with_items store r line (replaced line.items i v))))

-- how many items an array has
unfoldable pub item_count : List Object → (array : Datum) → Try Datum
item_count objects r =
    and_then (array_at objects r) (λ line. Gives (AnInt (pos (length line.items))))

-- the store with an array that has one item more, at its end
unfoldable pub grown : Store → (array value : Datum) → Try Store
grown store r v =
    and_then (array_at store.objects r)
    (λ line. Gives (with_items store r line (line.items ++ v ∷ [])))

-- the same; an array that is full is a trap
unfoldable pub appended : Store → (array value : Datum) → Try Store
appended store r v =
    and_then (array_at store.objects r) (λ line.
    pick (int_le MAX_ITEMS (pos (length line.items))) (Fails ArrayLimit) (grown store r v))

-- the store with an array that has no items any more
unfoldable pub cleared : Store → (array : Datum) → Try Store
cleared store r = and_then (array_at store.objects r) (λ line. Gives (with_items store r line []))

-- making ------------------------------------------------------------------------------------------

-- how many items an array shall have
unfoldable pub size_of : Datum → Try ℕ
size_of (AnInt (pos n)) = pick (int_le (pos n) MAX_ITEMS) (Gives n) (Fails ArrayLimit)
size_of (AnInt (negsuc n)) = Fails ArrayLimit
size_of v = Misfit

-- an array of so many first values
abbrev pub row_of : Elem → ℕ → Object
row_of e n = Items e false (replicate n (default_of e))

-- an array is made, of first values
unfoldable pub row_made : Elem → (size : Datum) → Store → Try Made
row_made e size store = and_then (size_of size) (λ n. added (row_of e n) store)

-- an array is made of these items
unfoldable pub array_made : Elem → (of_arrays : Bool) → (items : List Datum) → Store → Try Made
array_made e b items store = added (Items e b items) store

-- the sizes of an array of arrays: neither is below 0, and neither the first one nor their product
-- is too large
pub record Sizes : Type 0 where
  pub rows : ℕ
  pub columns : ℕ

unfoldable pub sizes_of : (rows columns : Datum) → Try Sizes
sizes_of (AnInt (pos n)) (AnInt (pos m)) =
    pick (int_le (pos n) MAX_ITEMS && int_le (pos (n * m)) MAX_ITEMS)
    (Gives (record { rows = n; columns = m })) (Fails ArrayLimit)
sizes_of (AnInt n) (AnInt m) = Fails ArrayLimit
sizes_of v w = Misfit

-- a step that may fail after it has made something: the store that it leaves, and how it ends
pub record Partly : Type 0 where
  pub store : Store
  pub end : Try Datum

abbrev pub and_more : {A : Type 0} → Try A → Store → (A → Partly) → Partly
and_more (Gives a) store go = go a
and_more (Fails trap) store go = record { store = store; end = Fails trap }
and_more Misfit store go = record { store = store; end = Misfit }

-- one row more is made, and put at the end of an array of arrays
unfoldable pub row_added : Elem → (columns : ℕ) → (grid : Datum) → Store → Try Store
row_added e m grid store =
    and_then (added (row_of e m) store) (λ made. grown made.store grid made.reference)

-- so many rows more, one after another
unfoldable pub rows_added : (rows : ℕ) → Elem → (columns : ℕ) → (grid : Datum) → Store → Partly
rows_added zero e m grid store = record { store = store; end = Gives grid }
rows_added (suc n) e m grid store =
    and_more (row_added e m grid store) store (λ later. rows_added n e m grid later)

-- an array of arrays is made, and then its rows
unfoldable pub grid_made : Elem → (rows columns : Datum) → Store → Partly
grid_made e x y store =
    and_more (sizes_of x y) store (λ sizes. and_more (array_made e true [] store) store (λ made.
    rows_added sizes.rows e sizes.columns made.reference made.store))

-- an array whose items are made one after another -------------------------------------------------

-- an index is one of so many
unfoldable pub is_within : (index : Datum) → ℕ → Try Bool
is_within (AnInt (pos i)) n = Gives (nat_lt i n)
is_within (AnInt (negsuc i)) n = Gives false
is_within v n = Misfit

-- an array has an item with this index
unfoldable pub has_item : List Object → (array index : Datum) → Try Bool
has_item objects r i =
    and_then (array_at objects r) (λ line. is_within i (length line.items))

-- the next index
unfoldable pub next_index : Datum → Try Datum
next_index (AnInt i) = Gives (AnInt (wrapped (i +ℤ pos 1)))
next_index v = Misfit

-- an item was made: the next index, and the store with the item where the array has it still
pub record Filled : Type 0 where
  pub next : Datum
  pub store : Store

unfoldable pub filled : Store → (array index value : Datum) → Try Filled
filled store r i v =
    and_then (array_at store.objects r) (λ line. and_then (next_index i) (λ next.
    Gives (record { next = next; store = with_items store r line (replaced line.items i v) })))
