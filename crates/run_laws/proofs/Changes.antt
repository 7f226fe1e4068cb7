-- What the steps that make and change objects and unit generators leave: everything but those as it
-- was.
use Rattle.std.proofs.Common.{◌≡◌, ℕ, zero, suc, pos, List, [], ◌∷◌, ◌++◌, Bool, true, Some, refl, sym, ap, ◌∙◌, subst}
use Rattle.std.specs.Prelude.{nat_lt, int_le, length, slice_get}
use Rattle.ck_values.specs.declared.kind.Elem.{Elem}
use Rattle.ck_base.specs.declared.limits.TheConstants.{MAX_OBJECTS, MAX_ITEMS, MAX_CONNECTIONS}
use Rattle.ck_values.specs.declared.trap.Trap.TheVariants.{ObjectLimit, ArrayLimit, Connections}
use Rattle.ugen_names.specs.declared.param.Param.{Param}
use Rattle.ugen_names.specs.declared.table.UgenKind.{UgenKind}
use Rattle.ck_values.specs.Datum.{Datum}
use Rattle.ck_typed.specs.declared.class.Class.{Class}
use Rattle.ugen_kinds.specs.SoundFile.{no_waves}
use Rattle.ugen_sample.specs.Parameters.{unit_parameter}
use Rattle.ugen_sample.specs.UnitState.{first_unit}
use Rattle.ck_store.specs.Store.{Object, UnitGenerator, Store, Try, Gives, Fails, Misfit}
use Rattle.ck_store.specs.Steps.{and_then, found}
use Rattle.ck_store.specs.Objects.{referred, with_field, Made, added, object_made}
use Rattle.ck_store.specs.Arrays.{array_at, item_at, with_item, grown, appended, size_of, row_of, row_made, array_made, sizes_of, Partly, and_more, row_added, rows_added, grid_made, next_index, Filled, filled}
use Rattle.ck_store.specs.Graph.{unit_of, unit_made, connected, disconnected, ReadBack, unit_set, parameter_set}
use Rattle.ck_code.proofs.Natives.{Given, given_then, object_keeps}
use Rattle.ck_code.proofs.Values.{picked}

-- a store with the objects, the unit generators and the connections of another
abbrev changed_as : Store → (changed : Store) → Store
changed_as store changed = record store {
  objects = changed.objects;
  units = changed.units;
  connections = changed.connections;
}

-- only those of the store have changed
abbrev pub Changes : (before after : Store) → Type 0
Changes before after = after ≡ changed_as before after

changes_trans : (a b c : Store) → Changes a b → Changes b c → Changes a c
changes_trans a b c h g = g ∙ ap (λ store. changed_as store c) h

-- only the objects have changed
object_changes : (before after : Store) → after ≡ record before { objects = after.objects }
    → Changes before after
object_changes before after same = subst (Changes before) (sym same) refl

-- what holds of what a step gives, after a step of whose result something holds
given_after : {A B : Type 0} (P : A → Type 0) (Q : B → Type 0) (t : Try A) (go : A → Try B)
    → Given P t → ((a : A) → P a → Given Q (go a)) → Given Q (and_then t go)
given_after P Q (Gives a) go fact rest = rest a fact
given_after P Q (Fails trap) go fact rest = tt
given_after P Q Misfit go fact rest = tt

given_any : {A : Type 0} (t : Try A) → Given (λ a. Unit {0}) t
given_any (Gives a) = tt
given_any (Fails trap) = tt
given_any Misfit = tt

given_more : {A : Type 0} (P Q : A → Type 0) (t : Try A) → ((a : A) → P a → Q a) → Given P t
    → Given Q t
given_more P Q (Gives a) more h = more a h
given_more P Q (Fails trap) more h = tt
given_more P Q Misfit more h = tt

-- objects -----------------------------------------------------------------------------------------

-- a field is set
pub field_changes : (store : Store) (r : Datum) (i : ℕ) (v : Datum)
    → Given (Changes store) (with_field store r i v)
unfolding with_field
field_changes store r i v =
    given_then (Changes store) (referred store.objects r) _ (λ o.
    given_then (Changes store) (found (slice_get o.fields i)) _ (λ old.
    object_changes store _ (object_keeps store r _)))

-- something was made
abbrev pub Makes : Store → Made → Type 0
Makes store made = Changes store made.store

added_changes : (o : Object) (store : Store) → Given (Makes store) (added o store)
unfolding added
added_changes o store =
    picked (Given (Makes store)) (nat_lt (length store.objects) MAX_OBJECTS) _
    (Fails ObjectLimit) refl tt

-- an object is made
pub made_changes : (classes : List Class) (c : ℕ) (store : Store)
    → Given (Makes store) (object_made classes c store)
unfolding object_made
made_changes classes c store =
    given_then (Makes store) (found (slice_get classes c)) _ (λ class. added_changes _ store)

-- arrays ------------------------------------------------------------------------------------------

-- an array is made
pub row_changes : (e : Elem) (size : Datum) (store : Store)
    → Given (Makes store) (row_made e size store)
unfolding row_made
row_changes e size store =
    given_then (Makes store) (size_of size) _ (λ n. added_changes (row_of e n) store)

pub array_changes : (e : Elem) (of_arrays : Bool) (items : List Datum) (store : Store)
    → Given (Makes store) (array_made e of_arrays items store)
unfolding array_made
array_changes e of_arrays items store = added_changes _ store

-- an item is set
pub item_changes : (store : Store) (r i v : Datum) → Given (Changes store) (with_item store r i v)
unfolding with_item
item_changes store r i v =
    given_then (Changes store) (array_at store.objects r) _ (λ line.
    given_then (Changes store) (item_at line.items i) _ (λ old.
    object_changes store _ (object_keeps store r _)))

-- an array grows
grown_changes : (store : Store) (r v : Datum) → Given (Changes store) (grown store r v)
unfolding grown
grown_changes store r v =
    given_then (Changes store) (array_at store.objects r) _ (λ line.
    object_changes store _ (object_keeps store r _))

pub appended_changes : (store : Store) (r v : Datum) → Given (Changes store) (appended store r v)
unfolding appended
appended_changes store r v =
    given_then (Changes store) (array_at store.objects r) _ (λ line.
    picked (Given (Changes store)) (int_le MAX_ITEMS (pos (length line.items))) (Fails ArrayLimit) _
    tt (grown_changes store r v))

-- an item was made
pub filled_changes : (store : Store) (r i v : Datum)
    → Given (λ (done : Filled). Changes store done.store) (filled store r i v)
unfolding filled
filled_changes store r i v =
    let Q : Filled → Type 0 = λ done. Changes store done.store in
    given_then Q (array_at store.objects r) _ (λ line.
    given_then Q (next_index i) _ (λ next. object_changes store _ (object_keeps store r _)))

-- an array of arrays ------------------------------------------------------------------------------

more_changes : {A : Type 0} (P : A → Type 0) (before store : Store) (t : Try A) (go : A → Partly)
    → Changes before store → Given P t → ((a : A) → P a → Changes before (go a).store)
    → Changes before (and_more t store go).store
more_changes P before store (Gives a) go h fact rest = rest a fact
more_changes P before store (Fails trap) go h fact rest = h
more_changes P before store Misfit go h fact rest = h

row_added_changes : (e : Elem) (m : ℕ) (grid : Datum) (store : Store)
    → Given (Changes store) (row_added e m grid store)
unfolding row_added
row_added_changes e m grid store =
    given_after (Makes store) (Changes store) (added (row_of e m) store) _
    (added_changes (row_of e m) store) (λ made h.
    given_more (Changes made.store) (Changes store) (grown made.store grid made.reference)
    (λ later g. changes_trans store made.store later h g)
    (grown_changes made.store grid made.reference))

rows_added_changes : (n : ℕ) (e : Elem) (m : ℕ) (grid : Datum) (store : Store)
    → Changes store (rows_added n e m grid store).store
unfolding rows_added
rows_added_changes zero e m grid store = refl
rows_added_changes (suc n) e m grid store =
    more_changes (Changes store) store store (row_added e m grid store) _ refl
    (row_added_changes e m grid store) (λ later h.
    changes_trans store later _ h (rows_added_changes n e m grid later))

pub grid_changes : (e : Elem) (x y : Datum) (store : Store)
    → Changes store (grid_made e x y store).store
unfolding grid_made
grid_changes e x y store =
    more_changes (λ sizes. Unit {0}) store store (sizes_of x y) _ refl
    (given_any (sizes_of x y)) (λ sizes any.
    more_changes (Makes store) store store (array_made e true [] store) _ refl
    (array_changes e true [] store) (λ made h.
    changes_trans store made.store _ h
    (rows_added_changes sizes.rows e sizes.columns made.reference made.store)))

-- unit generators ---------------------------------------------------------------------------------

-- one is made
pub unit_changes : (kind : UgenKind) (maker : ℕ) (store : Store)
    → Given (Makes store) (unit_made kind maker store)
unfolding unit_made
unit_changes kind maker store =
    let unit = first_unit kind maker (suc (length store.objects)) in
    let more : Store = record store { units = store.units ++ Some unit ∷ [] } in
    given_more (Makes more) (Makes store)
    (added (UnitGenerator (length store.units)) more)
    (λ made h. changes_trans store more made.store refl h)
    (added_changes (UnitGenerator (length store.units)) more)

-- one is connected to another, or no longer
pub connected_changes : (a b : Datum) (store : Store)
    → Given (Changes store) (connected a b store)
unfolding connected
connected_changes a b store =
    given_then (Changes store) (unit_of store a) _ (λ from.
    given_then (Changes store) (unit_of store b) _ (λ to.
    picked (Given (Changes store)) (nat_lt (length store.connections) MAX_CONNECTIONS) _
    (Fails Connections) refl tt))

pub disconnected_changes : (a b : Datum) (store : Store)
    → Given (Changes store) (disconnected a b store)
unfolding disconnected
disconnected_changes a b store =
    given_then (Changes store) (unit_of store a) _ (λ from.
    given_then (Changes store) (unit_of store b) _ (λ to. refl))

-- a parameter is set
pub parameter_changes : (q : Param) (u v : Datum) (store : Store)
    → Given (λ (set : ReadBack). Changes store set.store) (parameter_set q u v store)
unfolding parameter_set
parameter_changes q u v store =
    let Q : ReadBack → Type 0 = λ set. Changes store set.store in
    given_then Q (unit_of store u) _ (λ at.
    given_then Q (unit_set q v at.unit) _ (λ unit.
    given_then Q (found (unit_parameter no_waves q unit)) _ (λ w. refl)))
