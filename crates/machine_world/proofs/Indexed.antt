-- What operations on arrays ask of their operands.
use Rattle.std.proofs.Common.{◌≡◌, ℕ, zero, suc, pos, negsuc, List, Option, Some, None, refl, ap, slice_get}
use Rattle.ck_values.specs.declared.kind.Elem.{Elem}
use Rattle.ck_values.specs.declared.trap.Trap.TheVariants.{NullPointer}
use Rattle.ck_values.specs.Datum.{Datum, AnInt, ARef}
use Rattle.ck_store.specs.Store.{Object, Instance, Items, UnitGenerator, Store, Try, Gives, Fails, Misfit, IsFitting}
use Rattle.ck_store.specs.Steps.{and_then}
use Rattle.ck_store.specs.Operators.{int_in}
use Rattle.ck_store.specs.Arrays.{Line, line_of, array_at, item_at, item_of, with_item, item_count, appended, cleared, size_of, row_made, sizes_of, Partly, and_more, grid_made, is_within, has_item, next_index, filled}
use Rattle.machine_world.specs.Tries.{IsReference}
use Rattle.machine_world.proofs.Parts.{fits_first}

-- what can be taken as an array is a reference
pub array_refers : (objects : List Object) (d : Datum) → IsFitting (array_at objects d) → IsReference d
unfolding array_at
array_refers objects (ARef n) fits = tt
array_refers objects d fits = absurd fits

-- of an array that is there
of_line : {A : Type 0} (P : Type 0) (o : Option Object) (go : Line → Try A)
    → ((line : Line) → IsFitting (go line) → P) → IsFitting (and_then (line_of o) go) → P
of_line P None go on fits = absurd fits
of_line P (Some (Instance class fields)) go on fits = absurd fits
of_line P (Some (UnitGenerator place)) go on fits = absurd fits
of_line P (Some (Items e b items)) go on fits =
    on (record { elem = e; of_arrays = b; items = items }) fits

of_array : {A : Type 0} (P : Type 0) (objects : List Object) (s : ℕ) (go : Line → Try A)
    → (s ≡ 0 → ⊥) → ((line : Line) → IsFitting (go line) → P)
    → IsFitting (and_then (array_at objects (ARef s)) go) → P
unfolding array_at
of_array P objects zero go some on fits = absurd (some refl)
of_array P objects (suc n) go some on fits = of_line P (slice_get objects n) go on fits

null_fails : {A : Type 0} (objects : List Object) (s : ℕ) (go : Line → Try A) → s ≡ 0
    → and_then (array_at objects (ARef s)) go ≡ Fails NullPointer
unfolding array_at
null_fails objects s go is = ap (λ n. and_then (array_at objects (ARef n)) go) is

-- an index is an int
at_int : (items : List Datum) (i : Datum) → IsFitting (item_at items i) → IsFitting (int_in i)
unfolding item_at
at_int items (AnInt n) fits = tt
at_int items d fits = absurd fits

within_int : (i : Datum) (n : ℕ) → IsFitting (is_within i n) → IsFitting (int_in i)
unfolding is_within
within_int (AnInt i) n fits = tt
within_int d n fits = absurd fits

next_int : (i : Datum) → IsFitting (next_index i) → IsFitting (int_in i)
unfolding next_index
next_int (AnInt i) fits = tt
next_int d fits = absurd fits

-- an item
pub item_array : (objects : List Object) (r i : Datum) → IsFitting (item_of objects r i)
    → IsFitting (array_at objects r)
unfolding item_of
item_array objects r i fits = fits_first (array_at objects r) _ fits

pub item_null : (objects : List Object) (s : ℕ) (i : Datum) → s ≡ 0
    → item_of objects (ARef s) i ≡ Fails NullPointer
unfolding item_of
item_null objects s i is = null_fails objects s _ is

pub item_indexed : (objects : List Object) (s : ℕ) (i : Datum) → (s ≡ 0 → ⊥)
    → IsFitting (item_of objects (ARef s) i) → IsFitting (int_in i)
unfolding item_of
item_indexed objects s i some fits =
    of_array (IsFitting (int_in i)) objects s _ some (λ line fits. at_int line.items i fits) fits

-- an item that is set
pub set_array : (store : Store) (r i v : Datum) → IsFitting (with_item store r i v)
    → IsFitting (array_at store.objects r)
unfolding with_item
set_array store r i v fits = fits_first (array_at store.objects r) _ fits

pub set_nowhere : (store : Store) (s : ℕ) (i v : Datum) → s ≡ 0
    → with_item store (ARef s) i v ≡ Fails NullPointer
unfolding with_item
set_nowhere store s i v is = null_fails store.objects s _ is

pub set_indexed : (store : Store) (s : ℕ) (i v : Datum) → (s ≡ 0 → ⊥)
    → IsFitting (with_item store (ARef s) i v) → IsFitting (int_in i)
unfolding with_item
set_indexed store s i v some fits =
    of_array (IsFitting (int_in i)) store.objects s _ some (λ line fits.
    at_int line.items i (fits_first (item_at line.items i) _ fits)) fits

-- whether there is an item
pub has_array : (objects : List Object) (r i : Datum) → IsFitting (has_item objects r i)
    → IsFitting (array_at objects r)
unfolding has_item
has_array objects r i fits = fits_first (array_at objects r) _ fits

pub has_nothing : (objects : List Object) (s : ℕ) (i : Datum) → s ≡ 0
    → has_item objects (ARef s) i ≡ Fails NullPointer
unfolding has_item
has_nothing objects s i is = null_fails objects s _ is

pub has_indexed : (objects : List Object) (s : ℕ) (i : Datum) → (s ≡ 0 → ⊥)
    → IsFitting (has_item objects (ARef s) i) → IsFitting (int_in i)
unfolding has_item
has_indexed objects s i some fits =
    of_array (IsFitting (int_in i)) objects s _ some (λ line fits. within_int i _ fits) fits

-- an item that was made
pub fill_array : (store : Store) (r i v : Datum) → IsFitting (filled store r i v)
    → IsFitting (array_at store.objects r)
unfolding filled
fill_array store r i v fits = fits_first (array_at store.objects r) _ fits

pub fill_nowhere : (store : Store) (s : ℕ) (i v : Datum) → s ≡ 0
    → filled store (ARef s) i v ≡ Fails NullPointer
unfolding filled
fill_nowhere store s i v is = null_fails store.objects s _ is

pub fill_indexed : (store : Store) (s : ℕ) (i v : Datum) → (s ≡ 0 → ⊥)
    → IsFitting (filled store (ARef s) i v) → IsFitting (int_in i)
unfolding filled
fill_indexed store s i v some fits =
    of_array (IsFitting (int_in i)) store.objects s _ some (λ line fits.
    next_int i (fits_first (next_index i) _ fits)) fits

-- an array that grows, is cleared or is asked for its size
pub append_array : (store : Store) (r v : Datum) → IsFitting (appended store r v)
    → IsFitting (array_at store.objects r)
unfolding appended
append_array store r v fits = fits_first (array_at store.objects r) _ fits

pub clear_array : (store : Store) (r : Datum) → IsFitting (cleared store r)
    → IsFitting (array_at store.objects r)
unfolding cleared
clear_array store r fits = fits_first (array_at store.objects r) _ fits

pub size_array : (objects : List Object) (r : Datum) → IsFitting (item_count objects r)
    → IsFitting (array_at objects r)
unfolding item_count
size_array objects r fits = fits_first (array_at objects r) _ fits

-- sizes are ints
size_int : (n : Datum) → IsFitting (size_of n) → IsFitting (int_in n)
unfolding size_of
size_int (AnInt n) fits = tt
size_int d fits = absurd fits

pub row_int : (e : Elem) (n : Datum) (store : Store) → IsFitting (row_made e n store)
    → IsFitting (int_in n)
unfolding row_made
row_int e n store fits = size_int n (fits_first (size_of n) _ fits)

more_fits : {A : Type 0} (t : Try A) (store : Store) (go : A → Partly)
    → IsFitting (and_more t store go).end → IsFitting t
more_fits (Gives a) store go fits = tt
more_fits (Fails trap) store go fits = tt
more_fits Misfit store go fits = absurd fits

sizes_int : (x y : Datum) → IsFitting (sizes_of x y) → IsFitting (int_in x) × IsFitting (int_in y)
unfolding sizes_of
sizes_int (AnInt n) (AnInt m) fits = (tt, tt)
sizes_int (AnInt (pos n)) d fits = absurd fits
sizes_int (AnInt (negsuc n)) d fits = absurd fits
sizes_int d w fits = absurd fits

pub grid_ints : (e : Elem) (x y : Datum) (store : Store) → IsFitting (grid_made e x y store).end
    → IsFitting (int_in x) × IsFitting (int_in y)
unfolding grid_made
grid_ints e x y store fits = sizes_int x y (more_fits (sizes_of x y) store _ fits)
