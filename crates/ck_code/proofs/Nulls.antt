-- What uses the null of references traps: its look-up is the first thing that the step does.
use Rattle.std.proofs.Common.{◌≡◌, inl, inr, ℕ, zero, suc, pos, true, false, List, [], ◌∷◌, ◌++◌, map, length, Option, Some, None, refl, sym, subst, arith, slice_get}
use Rattle.std.specs.Prelude.{not}
use Rattle.std.specs.Ordering.{int_eq}
use Rattle.ck_values.specs.declared.kind.Elem.TheVariants.{Int, Float, Dur, Text, Shred, Class as ClassElem, Unit as UnitElem}
use Rattle.ck_values.specs.declared.kind.Kind.{Kind}
use Rattle.ck_values.specs.declared.kind.Kind.TheVariants.{Void, Null, One, Row, Grid}
use Rattle.ugen_names.specs.declared.param.Param.{Param}
use Rattle.ugen_names.specs.declared.table.UgenKind.TheVariants as ugen
use Rattle.ck_values.specs.Datum.{Datum, AnInt, AFloat, ADur, ARef}
use Rattle.ck_store.specs.Store.{Object, Store, State, Try, Gives, Fails, Misfit, Shapes, shapes_of}
use Rattle.ck_store.specs.Steps.{and_then}
use Rattle.ck_store.specs.Objects.{referred, field_of, with_field, method_of}
use Rattle.ck_store.specs.Arrays.{array_at, item_of, with_item, item_count, has_item, filled, appended, cleared}
use Rattle.ck_store.specs.Graph.{place_at, Located, unit_of, connected, disconnected, parameter_of, parameter_set, generator_changed}
use Rattle.ck_store.specs.Shreds.{event_of, wait_event}
use Rattle.ck_store.specs.Natives.{leaving, count_on, operand_count, native}
use Rattle.ugen_kinds.specs.declared.generator.Generator.{Generator}
use Rattle.ugen_kinds.specs.Generator.{keyed, staged}
use Rattle.ck_typed.specs.declared.class.Class.{Class}
use Rattle.ck_typed.specs.declared.native.Native.{Native}
use Rattle.ck_typed.specs.declared.native.Native.TheVariants.{ShredId, Signal, Broadcast, Remove, Size, Clear, Length, CharAt, Substring, Abs, Fabs, Random2, Random2f, Srandom, KeyOn, KeyOff, KeyOnWhere, KeyOffWhere, SetAdsr}
use Rattle.ck_typed.specs.Signatures as by
use Rattle.ck_typed.specs.WellFormed.{FoundWhere, IsOn}
use Rattle.ck_code.specs.Machine.{Taken, taken}
use Rattle.ck_code.specs.Verified.{UnlessNull, Receiver, OnTop}
use Rattle.ck_code.specs.Fitting.{Suits, Suit, IsNull}
use Rattle.ck_code.proofs.Suiting.{Fine, fine_then}

-- an operand is null, or this holds of its kind
pub null_or : (classes : List Class) (shapes : Shapes) {P Q : Type 0} (k : Kind) (v : Datum)
    → UnlessNull k P → Suits classes shapes k v → (IsNull v → Q) → (P → Q) → Q
null_or classes shapes Null v h is null other = null is
null_or classes shapes Void v h is null other = other h
null_or classes shapes (One e) v h is null other = other h
null_or classes shapes (Row e) v h is null other = other h
null_or classes shapes (Grid e) v h is null other = other h

-- a step ends by a trap
abbrev pub Traps : {A : Type 0} → Try A → Type 0
Traps t = Fine (λ a. ⊥) t

-- and so do two of which the first one does
traps_first : {A B : Type 0} (t : Try A) (go : A → Try B) → Traps t → Traps (and_then t go)
traps_first (Gives a) go h = absurd h
traps_first (Fails trap) go h = tt
traps_first Misfit go h = absurd h

-- or of which the second one does
traps_second : {A B : Type 0} (P : A → Type 0) (t : Try A) (go : A → Try B) → Fine P t
    → ((a : A) → Traps (go a)) → Traps (and_then t go)
traps_second P t go fine h = fine_then P (λ b. ⊥) t go fine (λ a is. h a)

-- look-ups --------------------------------------------------------------------------------------

object_traps : (objects : List Object) (r : Datum) → IsNull r → Traps (referred objects r)
unfolding referred
object_traps objects (ARef zero) null = tt
object_traps objects (ARef (suc n)) null = absurd null
object_traps objects _ null = absurd null

array_traps : (objects : List Object) (r : Datum) → IsNull r → Traps (array_at objects r)
unfolding array_at
array_traps objects (ARef zero) null = tt
array_traps objects (ARef (suc n)) null = absurd null
array_traps objects _ null = absurd null

unit_traps : (store : Store) (r : Datum) → IsNull r → Traps (unit_of store r)
unfolding unit_of place_at
unit_traps store (ARef zero) null = tt
unit_traps store (ARef (suc n)) null = absurd null
unit_traps store _ null = absurd null

event_traps : (r : Datum) → IsNull r → Traps (event_of r)
unfolding event_of
event_traps (ARef zero) null = tt
event_traps (ARef (suc n)) null = absurd null
event_traps _ null = absurd null

-- what begins with one ----------------------------------------------------------------------------

module _ (store : Store) (r : Datum) (null : IsNull r) where
  pub field_traps : (i : ℕ) → Traps (field_of store r i)
  unfolding field_of
  field_traps i = traps_first (referred store.objects r) _ (object_traps store.objects r null)

  pub with_field_traps : (i : ℕ) (v : Datum) → Traps (with_field store r i v)
  unfolding with_field
  with_field_traps i v = traps_first (referred store.objects r) _ (object_traps store.objects r null)

  pub method_traps : (classes : List Class) (slot : ℕ) → Traps (method_of classes store.objects r slot)
  unfolding method_of
  method_traps classes slot =
      traps_first (referred store.objects r) _ (object_traps store.objects r null)

  pub item_traps : (i : Datum) → Traps (item_of store.objects r i)
  unfolding item_of
  item_traps i = traps_first (array_at store.objects r) _ (array_traps store.objects r null)

  pub with_item_traps : (i v : Datum) → Traps (with_item store r i v)
  unfolding with_item
  with_item_traps i v = traps_first (array_at store.objects r) _ (array_traps store.objects r null)

  pub has_item_traps : (i : Datum) → Traps (has_item store.objects r i)
  unfolding has_item
  has_item_traps i = traps_first (array_at store.objects r) _ (array_traps store.objects r null)

  pub filled_traps : (i v : Datum) → Traps (filled store r i v)
  unfolding filled
  filled_traps i v = traps_first (array_at store.objects r) _ (array_traps store.objects r null)

  pub appended_traps : (v : Datum) → Traps (appended store r v)
  unfolding appended
  appended_traps v = traps_first (array_at store.objects r) _ (array_traps store.objects r null)

  pub size_traps : Traps (item_count store.objects r)
  unfolding item_count
  size_traps = traps_first (array_at store.objects r) _ (array_traps store.objects r null)

  pub cleared_traps : Traps (cleared store r)
  unfolding cleared
  cleared_traps = traps_first (array_at store.objects r) _ (array_traps store.objects r null)

  pub param_traps : (q : Param) → Traps (parameter_of q r store)
  unfolding parameter_of
  param_traps q = traps_first (unit_of store r) _ (unit_traps store r null)

  pub set_param_traps : (q : Param) (v : Datum) → Traps (parameter_set q r v store)
  unfolding parameter_set
  set_param_traps q v = traps_first (unit_of store r) _ (unit_traps store r null)

  -- a connection from it
  pub from_traps : (b : Datum) → Traps (connected r b store)
  unfolding connected
  from_traps b = traps_first (unit_of store r) _ (unit_traps store r null)

  pub cut_from_traps : (b : Datum) → Traps (disconnected r b store)
  unfolding disconnected
  cut_from_traps b = traps_first (unit_of store r) _ (unit_traps store r null)

  -- a connection to it, from a unit generator
  pub to_traps : (P : Located → Type 0) (a : Datum) → Fine P (unit_of store a)
      → Traps (connected a r store)
  unfolding connected
  to_traps P a fine =
      traps_second P (unit_of store a) _ fine (λ from.
      traps_first (unit_of store r) _ (unit_traps store r null))

  pub cut_to_traps : (P : Located → Type 0) (a : Datum) → Fine P (unit_of store a)
      → Traps (disconnected a r store)
  unfolding disconnected
  cut_to_traps P a fine =
      traps_second P (unit_of store a) _ fine (λ from.
      traps_first (unit_of store r) _ (unit_traps store r null))

pub wait_traps : (r : Datum) → IsNull r → Traps (wait_event r)
unfolding wait_event
wait_traps r null = traps_first (event_of r) _ (event_traps r null)

-- built-in calls ----------------------------------------------------------------------------------

module _ (classes : List Class) where
  -- a call on null, with arguments that suit it, traps
  abbrev OnNull : Native → List Kind → Type 0
  OnNull call kinds =
      (r : Datum) (args : List Datum) (s : State) → IsNull r
      → Suit classes (shapes_of s.store) kinds (r ∷ args) → Traps (native call (r ∷ args) s)

  -- no string and no shred is the null of references
  no_text : (shapes : Shapes) (r : Datum) → IsNull r → Suits classes shapes (One Text) r → ⊥
  no_text shapes (ARef n) null h = h
  no_text shapes _ null h = null

  no_shred : (shapes : Shapes) (r : Datum) → IsNull r → Suits classes shapes (One Shred) r → ⊥
  no_shred shapes (ARef n) null h = h
  no_shred shapes _ null h = null

  signal_traps : OnNull Signal (One (ClassElem 1) ∷ [])
  unfolding native
  signal_traps r [] s null h = traps_first (event_of r) _ (event_traps r null)
  signal_traps r (v ∷ others) s null h = absurd h.1

  broadcast_traps : OnNull Broadcast (One (ClassElem 1) ∷ [])
  unfolding native
  broadcast_traps r [] s null h = traps_first (event_of r) _ (event_traps r null)
  broadcast_traps r (v ∷ others) s null h = absurd h.1

  size_call_traps : (j : Kind) → OnNull Size (j ∷ [])
  unfolding native
  size_call_traps j r [] s null h = traps_first (item_count s.store.objects r) _ (size_traps s.store r null)
  size_call_traps j r (v ∷ others) s null h = absurd h.1

  clear_traps : (j : Kind) → OnNull Clear (j ∷ [])
  unfolding native
  clear_traps j r [] s null h = traps_first (cleared s.store r) _ (cleared_traps s.store r null)
  clear_traps j r (v ∷ others) s null h = absurd h.1

  -- what changes what a unit generator keeps
  changed_traps : (change : Generator → Option Generator) (r : Datum) (s : State) → IsNull r
      → Traps (leaving s (generator_changed change r s.store))
  unfolding generator_changed
  changed_traps change r s null =
      traps_first (generator_changed change r s.store) _
      (traps_first (unit_of s.store r) _ (unit_traps s.store r null))

  key_on_traps : (j : Kind) → OnNull KeyOn (j ∷ [])
  unfolding native
  key_on_traps j r [] s null h = changed_traps (keyed true) r s null
  key_on_traps j r (v ∷ others) s null h = absurd h.1

  key_off_traps : (j : Kind) → OnNull KeyOff (j ∷ [])
  unfolding native
  key_off_traps j r [] s null h = changed_traps (keyed false) r s null
  key_off_traps j r (v ∷ others) s null h = absurd h.1

  key_on_where_traps : (j : Kind) → OnNull KeyOnWhere (j ∷ One Int ∷ [])
  unfolding native
  key_on_where_traps j r (AnInt n ∷ []) s null h =
      changed_traps (keyed (not (int_eq n (pos 0)))) r s null
  key_on_where_traps j r (AnInt n ∷ v ∷ others) s null h = absurd h.1.1
  key_on_where_traps j r (_ ∷ others) s null h = absurd h.1.0
  key_on_where_traps j r [] s null h = absurd h.1

  key_off_where_traps : (j : Kind) → OnNull KeyOffWhere (j ∷ One Int ∷ [])
  unfolding native
  key_off_where_traps j r (AnInt n ∷ []) s null h =
      changed_traps (keyed (int_eq n (pos 0))) r s null
  key_off_where_traps j r (AnInt n ∷ v ∷ others) s null h = absurd h.1.1
  key_off_where_traps j r (_ ∷ others) s null h = absurd h.1.0
  key_off_where_traps j r [] s null h = absurd h.1

  set_traps : (j : Kind) → OnNull SetAdsr (j ∷ One Dur ∷ One Dur ∷ One Float ∷ One Dur ∷ [])
  unfolding native
  set_traps j r (ADur a ∷ ADur d ∷ AFloat level ∷ ADur release ∷ []) s null h =
      changed_traps (staged a d level release) r s null
  set_traps j r (ADur a ∷ ADur d ∷ AFloat level ∷ ADur release ∷ v ∷ others) s null h =
      absurd h.1.1.1.1.1
  set_traps j r (ADur a ∷ ADur d ∷ AFloat level ∷ _ ∷ others) s null h = absurd h.1.1.1.1.0
  set_traps j r (ADur a ∷ ADur d ∷ AFloat level ∷ []) s null h = absurd h.1.1.1.1
  set_traps j r (ADur a ∷ ADur d ∷ _ ∷ others) s null h = absurd h.1.1.1.0
  set_traps j r (ADur a ∷ ADur d ∷ []) s null h = absurd h.1.1.1
  set_traps j r (ADur a ∷ _ ∷ others) s null h = absurd h.1.1.0
  set_traps j r (ADur a ∷ []) s null h = absurd h.1.1
  set_traps j r (_ ∷ others) s null h = absurd h.1.0
  set_traps j r [] s null h = absurd h.1

  -- on an array, and on an envelope
  on_array : (call : Native) (on : List Kind) → ((j : Kind) → OnNull call (j ∷ []))
      → IsOn by.array on → OnNull call (on ++ [])
  on_array call on traps is = elim is [
    | inl row ↦ subst (λ kinds. OnNull call (kinds ++ [])) (sym row.1) (traps (Row row.0))
    | inr grid ↦ subst (λ kinds. OnNull call (kinds ++ [])) (sym grid.1) (traps (Grid grid.0))
  ]

  on_envelope : (call : Native) (on params : List Kind) → ((j : Kind) → OnNull call (j ∷ params))
      → IsOn by.envelope on → OnNull call (on ++ params)
  on_envelope call on params traps is = elim is [
    | inl plain ↦
        subst (λ kinds. OnNull call (kinds ++ params)) (sym plain)
        (traps (One (UnitElem ugen.Envelope)))
    | inr adsr ↦
        subst (λ kinds. OnNull call (kinds ++ params)) (sym adsr) (traps (One (UnitElem ugen.Adsr)))
  ]

  -- on a string or a shred, which isn't null
  on_text : (call : Native) (on params : List Kind) → on ≡ One Text ∷ [] → OnNull call (on ++ params)
  on_text call on params is =
      subst (λ kinds. OnNull call (kinds ++ params)) (sym is)
      (λ r args s null h. absurd (no_text (shapes_of s.store) r null h.0))

  on_shred : (call : Native) (on params : List Kind) → on ≡ One Shred ∷ []
      → OnNull call (on ++ params)
  on_shred call on params is =
      subst (λ kinds. OnNull call (kinds ++ params)) (sym is)
      (λ r args s null h. absurd (no_shred (shapes_of s.store) r null h.0))

  -- a built-in call that is made on something traps on null
  pub native_traps : (call : Native) (k : Kind) (ks : List Kind) → IsOn (by.built_in call).on (k ∷ ks)
      → OnNull call ((k ∷ ks) ++ map One (by.built_in call).params)
  native_traps ShredId k ks is = on_shred ShredId (k ∷ ks) [] is
  native_traps Signal k ks is =
      subst (λ kinds. OnNull Signal (kinds ++ [])) (sym is) signal_traps
  native_traps Broadcast k ks is =
      subst (λ kinds. OnNull Broadcast (kinds ++ [])) (sym is) broadcast_traps
  native_traps Size k ks is = on_array Size (k ∷ ks) size_call_traps is
  native_traps Clear k ks is = on_array Clear (k ∷ ks) clear_traps is
  native_traps Length k ks is = on_text Length (k ∷ ks) [] is
  native_traps CharAt k ks is = on_text CharAt (k ∷ ks) (One Int ∷ []) is
  native_traps Substring k ks is = on_text Substring (k ∷ ks) (One Int ∷ One Int ∷ []) is
  native_traps KeyOn k ks is = on_envelope KeyOn (k ∷ ks) [] key_on_traps is
  native_traps KeyOff k ks is = on_envelope KeyOff (k ∷ ks) [] key_off_traps is
  native_traps KeyOnWhere k ks is =
      on_envelope KeyOnWhere (k ∷ ks) (One Int ∷ []) key_on_where_traps is
  native_traps KeyOffWhere k ks is =
      on_envelope KeyOffWhere (k ∷ ks) (One Int ∷ []) key_off_where_traps is
  native_traps SetAdsr k ks is =
      subst (λ kinds. OnNull SetAdsr (kinds ++ One Dur ∷ One Dur ∷ One Float ∷ One Dur ∷ []))
      (sym is) (set_traps (One (UnitElem ugen.Adsr)))
  native_traps Remove k ks is = absurd cc
  native_traps Abs k ks is = absurd cc
  native_traps Fabs k ks is = absurd cc
  native_traps Random2 k ks is = absurd cc
  native_traps Random2f k ks is = absurd cc
  native_traps Srandom k ks is = absurd cc

-- operands that are taken -------------------------------------------------------------------------

-- there is a first one, and this holds of it
abbrev pub Headed : List Datum → (Datum → Type 0) → Type 0
Headed [] P = ⊥
Headed (v ∷ others) P = P v

-- the deepest of those that are taken comes first
pub deepest_first : (n : ℕ) (before ops : List Datum) (P : Datum → Type 0)
    → FoundWhere (slice_get ops n) P
    → Fine (λ (t : Taken). Headed t.arguments P) (taken (suc n) before ops)
deepest_first n before [] P h = absurd h
deepest_first zero before (v ∷ ops) P h = h
deepest_first (suc n) before (v ∷ ops) P h = deepest_first n (v ∷ before) ops P h

-- two things hold of what a step gives
pub fine_both : {A : Type 0} (P Q : A → Type 0) (t : Try A) → Fine P t → Fine Q t
    → Fine (λ a. P a × Q a) t
fine_both P Q (Gives a) h g = (h, g)
fine_both P Q (Fails trap) h g = tt
fine_both P Q Misfit h g = h

module _ (classes : List Class) (shapes : Shapes) where
  -- the operand beneath so many suits its kind
  pub receiver_suits : (n : ℕ) (kinds : List Kind) (ops : List Datum) (P : Kind → Type 0)
      → Suit classes shapes kinds ops → Receiver n kinds P
      → FoundWhere (slice_get ops n) (λ v. (k : Kind) × P k × Suits classes shapes k v)
  receiver_suits n [] ops P held h = absurd h
  receiver_suits n (k ∷ kinds) [] P held h = absurd held
  receiver_suits zero (k ∷ kinds) (v ∷ ops) P held h = (k, h, held.0)
  receiver_suits (suc n) (k ∷ kinds) (v ∷ ops) P held h = receiver_suits n kinds ops P held.1 h

-- the operand there is null, or what is owed unless it is null holds
pub null_kind : (found : Option Kind) {Q : Type 0} → (found ≡ Some Null → Q)
    → (((P : Type 0) → FoundWhere found (λ k. UnlessNull k P) → P) → Q) → Q
null_kind None null sure = sure (λ P h. absurd h)
null_kind (Some Null) null sure = null refl
null_kind (Some Void) null sure = sure (λ P h. h)
null_kind (Some (One e)) null sure = sure (λ P h. h)
null_kind (Some (Row e)) null sure = sure (λ P h. h)
null_kind (Some (Grid e)) null sure = sure (λ P h. h)

-- what follows from what holds beneath
pub on_top_more : (classes : List Class) (wanted kinds : List Kind) (P Q : List Kind → Type 0)
    → ((beneath : List Kind) → P beneath → Q beneath) → OnTop classes wanted kinds P
    → OnTop classes wanted kinds Q
on_top_more classes [] kinds P Q more h = more kinds h
on_top_more classes (k ∷ wanted) [] P Q more h = absurd h
on_top_more classes (k ∷ wanted) (j ∷ kinds) P Q more h =
    (h.0, on_top_more classes wanted kinds P Q more h.1)

-- a call that is made on something takes one operand besides its arguments
on_one : (on : by.On) (k : Kind) (ks : List Kind) → IsOn on (k ∷ ks) → count_on on ≡ 1
on_one by.nothing k ks is = absurd cc
on_one by.shred k ks is = refl
on_one by.event k ks is = refl
on_one by.array k ks is = refl
on_one by.text k ks is = refl
on_one by.envelope k ks is = refl
on_one by.adsr k ks is = refl

pub on_something : (call : Native) (k : Kind) (ks : List Kind) → IsOn (by.built_in call).on (k ∷ ks)
    → suc (length (by.built_in call).params) ≡ operand_count call
on_something call k ks is = omega (arith, on_one (by.built_in call).on k ks is)

-- the operands of a call on null, the receiver first
pub native_on_null : (classes : List Class) (call : Native) (k : Kind) (ks : List Kind)
    → IsOn (by.built_in call).on (k ∷ ks) → (args : List Datum) (s : State)
    → Suit classes (shapes_of s.store) ((k ∷ ks) ++ map One (by.built_in call).params) args
    → Headed args IsNull → Traps (native call args s)
native_on_null classes call k ks is [] s h first = absurd first
native_on_null classes call k ks is (r ∷ args) s h first =
    native_traps classes call k ks is r args s first h
