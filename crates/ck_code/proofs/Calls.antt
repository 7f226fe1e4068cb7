-- What the built-in calls give: operands of the right types are never a misfit, the result is of
-- the type that is said, a store that fits goes on to, and what they record fits.
use Rattle.std.proofs.Common.{◌≡◌, ◌⊎◌, ℕ, zero, suc, ◌+◌, ℤ, pos, negsuc, Bool, true, false, not, List, [], ◌∷◌, ◌++◌, map, length, take, drop, nat_le, Option, Some, None, refl, sym, subst, slice_get, inl, inr}
use Rattle.std.specs.Ordering.{int_eq}
use Rattle.rand_pcg.specs.Lcg.{Lcg}
use Rattle.ugen_kinds.specs.Words.{words_from}
use Rattle.ck_values.specs.declared.kind.Elem.{Elem}
use Rattle.ck_values.specs.declared.kind.Elem.TheVariants.{Int, Float, Dur, Text, Shred as ShredElem, Class as ClassElem, Unit as UnitElem}
use Rattle.ck_values.specs.declared.kind.Kind.{Kind}
use Rattle.ck_values.specs.declared.kind.Kind.TheVariants.{One, Row, Grid}
use Rattle.ck_values.specs.declared.trap.Trap.TheVariants.{ArrayOutOfBounds}
use Rattle.ugen_names.specs.declared.table.UgenKind.{UgenKind}
use Rattle.ugen_names.specs.declared.table.UgenKind.TheVariants as ugen
use Rattle.ck_values.specs.Datum.{Datum, AnInt, AFloat, ADur, AText, AShred}
use Rattle.ck_store.specs.Store.{Store, State, Act, WokeOne, WokeAll, Removed, Try, Gives, Fails, IsFitting, Shapes, shapes_of}
use Rattle.ck_store.specs.Steps.{and_then}
use Rattle.ck_store.specs.Strings.{found_byte, char_at, substring}
use Rattle.ck_store.specs.Arrays.{item_count, cleared}
use Rattle.ck_store.specs.Shreds.{with_act, event_of, shred_of}
use Rattle.ck_store.specs.Graph.{unit_keyed}
use Rattle.ck_store.specs.Random.{int_drawn, float_drawn, seed_of}
use Rattle.ck_store.specs.Natives.{Given, plain, acting, leaving, with_words, native}
use Rattle.ck_store.specs.Operators.{wrapped}
use Rattle.ck_typed.specs.declared.class.Class.{Class}
use Rattle.ck_typed.specs.declared.native.Native.{Native}
use Rattle.ck_typed.specs.declared.native.Native.TheVariants.{ShredId, Signal, Broadcast, Remove, Size, Clear, Length, CharAt, Substring, Abs, Fabs, Random2, Random2f, Srandom, KeyOn, KeyOff, KeyOnWhere, KeyOffWhere, SetAdsr}
use Rattle.ck_typed.specs.Signatures as by
use Rattle.ck_typed.specs.WellFormed.{HasItems, IsOn}
use Rattle.ck_code.specs.declared.code.CodeParts.{CodeParts}
use Rattle.ck_code.specs.Fitting.{IsOf, Suit, IsFitStore, IsEvent, IsFitAct}
use Rattle.ck_code.proofs.Suiting.{Fine, fine_then, fine_map}
use Rattle.ck_code.proofs.Standing.{kept_same}
use Rattle.ck_code.proofs.Tables.{Grown, Makes, grown_same}
use Rattle.ck_code.proofs.Arrays.{item_count_fine, cleared_fine}
use Rattle.ck_code.proofs.Units.{IsKeyed, words_fit, keyed_fine, staged_fine}
use Rattle.ck_code.proofs.Values.{picked, one_fine, event_fine}

module _ (classes : List Class) (shapes : Shapes) where
  -- the value is of this type
  abbrev Is : Elem → Datum → Type 0
  Is e v = IsOf classes shapes e v

  -- a call gives a value of this type, and leaves the state
  abbrev pub IsPlain : Elem → State → Given → Type 0
  IsPlain e s given = Is e given.value × (given.state ≡ s)

  -- so does what is made of a step's result
  plain_fine : {A : Type 0} (e : Elem) (t : Try A) (value : A → Datum) (s : State) → IsFitting t
      → ((a : A) → Is e (value a))
      → Fine (IsPlain e s) (and_then t (λ a. Gives (plain s (value a))))
  plain_fine e t value s is values =
      one_fine (IsPlain e s) t _ is (λ a. (values a, refl))

  -- a byte is there, or the index is out of bounds
  byte_reads : (o : Option ℕ) → IsFitting (found_byte o)
  byte_reads None = tt
  byte_reads (Some byte) = tt

  -- a byte is read
  char_reads : (bytes : List ℕ) (i : ℤ) → IsFitting (char_at bytes i)
  unfolding char_at
  char_reads bytes (pos i) = byte_reads (slice_get bytes i)
  char_reads bytes (negsuc i) = tt

  -- bytes are read, or the numbers are out of bounds
  part_reads : (bytes : List ℕ) (start count : ℤ) → IsFitting (substring bytes start count)
  unfolding substring
  part_reads bytes (pos i) (pos n) =
      picked IsFitting (nat_le (i + n) (length bytes)) (Gives (take n (drop i bytes)))
      (Fails ArrayOutOfBounds) tt tt
  part_reads bytes (pos i) (negsuc n) = tt
  part_reads bytes (negsuc i) count = tt

  -- what a call gives for such operands, and nothing else
  abbrev Calls : Native → List Kind → Type 0
  Calls call kinds =
      (operands : List Datum) (s : State) → Suit classes shapes kinds operands
      → Fine (IsPlain (by.built_in call).gives s) (native call operands s)

  -- that of shreds
  shred_reads : (v : Datum) → Is ShredElem v → IsFitting (shred_of v)
  unfolding shred_of
  shred_reads (AShred zero) is = tt
  shred_reads (AShred (suc n)) is = tt
  shred_reads _ is = absurd is

  shred_id_fine : Calls ShredId (One ShredElem ∷ [])
  unfolding native
  shred_id_fine [] s h = absurd h
  shred_id_fine (v ∷ []) s h =
      plain_fine Int (shred_of v) (λ n. AnInt (wrapped (pos n))) s (shred_reads v h.0) (λ n. tt)
  shred_id_fine (v ∷ w ∷ others) s h = absurd h.1

  -- those of numbers
  abs_fine : Calls Abs (One Int ∷ [])
  unfolding native
  abs_fine (AnInt n ∷ []) s h = (tt, refl)
  abs_fine (AnInt n ∷ v ∷ others) s h = absurd h.1
  abs_fine (_ ∷ others) s h = absurd h.0
  abs_fine [] s h = absurd h

  fabs_fine : Calls Fabs (One Float ∷ [])
  unfolding native
  fabs_fine (AFloat x ∷ []) s h = (tt, refl)
  fabs_fine (AFloat x ∷ v ∷ others) s h = absurd h.1
  fabs_fine (_ ∷ others) s h = absurd h.0
  fabs_fine [] s h = absurd h

  -- those of strings
  length_fine : Calls Length (One Text ∷ [])
  unfolding native
  length_fine (AText bytes ∷ []) s h = (tt, refl)
  length_fine (AText bytes ∷ v ∷ others) s h = absurd h.1
  length_fine (_ ∷ others) s h = absurd h.0
  length_fine [] s h = absurd h

  char_fine : Calls CharAt (One Text ∷ One Int ∷ [])
  unfolding native
  char_fine (AText bytes ∷ AnInt i ∷ []) s h =
      plain_fine Int (char_at bytes i) AnInt s (char_reads bytes i) (λ byte. tt)
  char_fine (AText bytes ∷ AnInt i ∷ v ∷ others) s h = absurd h.1.1
  char_fine (AText bytes ∷ _ ∷ others) s h = absurd h.1.0
  char_fine (AText bytes ∷ []) s h = absurd h.1
  char_fine (_ ∷ others) s h = absurd h.0
  char_fine [] s h = absurd h

  part_fine : Calls Substring (One Text ∷ One Int ∷ One Int ∷ [])
  unfolding native
  part_fine (AText bytes ∷ AnInt start ∷ AnInt count ∷ []) s h =
      plain_fine Text (substring bytes start count) AText s (part_reads bytes start count)
      (λ part. tt)
  part_fine (AText bytes ∷ AnInt start ∷ AnInt count ∷ v ∷ others) s h = absurd h.1.1.1
  part_fine (AText bytes ∷ AnInt start ∷ _ ∷ others) s h = absurd h.1.1.0
  part_fine (AText bytes ∷ AnInt start ∷ []) s h = absurd h.1.1
  part_fine (AText bytes ∷ _ ∷ others) s h = absurd h.1.0
  part_fine (AText bytes ∷ []) s h = absurd h.1
  part_fine (_ ∷ others) s h = absurd h.0
  part_fine [] s h = absurd h

module _ (code : CodeParts) where
  -- a call gives a value of this type, and changes nothing but the store, which goes on to fit; or
  -- it changes nothing, and records an act that fits
  abbrev pub IsGiven : Elem → State → Given → Type 0
  IsGiven e s given =
      (Makes code s.store (One e)
      (record { reference = given.value; store = given.state.store })
      × (given.state ≡ record s { store = given.state.store }))
      ⊎ (IsOf code.classes (shapes_of s.store) e given.value
      × (act : Act) × IsFitAct code (shapes_of s.store) act × (given.state ≡ with_act act s))

  -- what a call gives for such operands
  abbrev Leaves : Native → List Kind → Type 0
  Leaves call kinds =
      (operands : List Datum) (s : State) → IsFitStore code s.store
      → Suit code.classes (shapes_of s.store) kinds operands
      → Fine (IsGiven (by.built_in call).gives s) (native call operands s)

  -- those that leave everything as it was
  plain_leaves : (call : Native) (kinds : List Kind)
      → ((shapes : Shapes) → Calls code.classes shapes call kinds) → Leaves call kinds
  plain_leaves call kinds calls operands s fit h =
      let e = (by.built_in call).gives in
      fine_map (IsPlain code.classes (shapes_of s.store) e s) (IsGiven e s) (native call operands s)
      (calls (shapes_of s.store) operands s h) (λ given is.
      inl (subst (λ s1. Makes code s.store (One e)
      (record { reference = given.value; store = s1.store }) × (s1 ≡ record s { store = s1.store }))
      (sym is.1) ((is.0, grown_same code s.store fit), refl)))

  -- those of events
  wakes_leave : (act : ℕ → Act) (r : Datum) (s : State) (value : Datum)
      → ((n : ℕ) → IsEvent code.classes (shapes_of s.store) n → IsFitAct code (shapes_of s.store) (act n))
      → IsOf code.classes (shapes_of s.store) (ClassElem 1) r
      → IsOf code.classes (shapes_of s.store) Int value
      → Fine (IsGiven Int s) (and_then (event_of r) (λ n. Gives (acting s (act n) value)))
  wakes_leave act r s value fits is is_value =
      fine_then (IsEvent code.classes (shapes_of s.store)) (IsGiven Int s) (event_of r) _
      (event_fine code.classes (shapes_of s.store) r is) (λ n there.
      inr (is_value, act n, fits n there, refl))

  signal_leaves : Leaves Signal (One (ClassElem 1) ∷ [])
  unfolding native
  signal_leaves [] s fit h = absurd h
  signal_leaves (r ∷ []) s fit h =
      wakes_leave WokeOne r s (AnInt (pos 0)) (λ n there. there) h.0 tt
  signal_leaves (r ∷ v ∷ others) s fit h = absurd h.1

  broadcast_leaves : Leaves Broadcast (One (ClassElem 1) ∷ [])
  unfolding native
  broadcast_leaves [] s fit h = absurd h
  broadcast_leaves (r ∷ []) s fit h =
      wakes_leave WokeAll r s (AnInt (pos 0)) (λ n there. there) h.0 tt
  broadcast_leaves (r ∷ v ∷ others) s fit h = absurd h.1

  -- that of the machine
  remove_leaves : Leaves Remove (One Int ∷ [])
  unfolding native
  remove_leaves (AnInt n ∷ []) s fit h = inr (tt, Removed n, tt, refl)
  remove_leaves (AnInt n ∷ v ∷ others) s fit h = absurd h.1
  remove_leaves (_ ∷ others) s fit h = absurd h.0
  remove_leaves [] s fit h = absurd h

  -- those of arrays
  size_leaves : (j k : Kind) → HasItems j k → Leaves Size (j ∷ [])
  unfolding native
  size_leaves j k has [] s fit h = absurd h
  size_leaves j k has (r ∷ []) s fit h =
      fine_then (IsOf code.classes (shapes_of s.store) Int) (IsGiven Int s)
      (item_count s.store.objects r) _ (item_count_fine code.classes s.store.units s.store.objects r j k has h.0)
      (λ n is. inl ((is, grown_same code s.store fit), refl))
  size_leaves j k has (r ∷ v ∷ others) s fit h = absurd h.1

  clear_leaves : (j k : Kind) → HasItems j k → Leaves Clear (j ∷ [])
  unfolding native
  clear_leaves j k has [] s fit h = absurd h
  clear_leaves j k has (r ∷ []) s fit h =
      fine_then (Grown code s.store) (IsGiven Int s) (cleared s.store r) _
      (cleared_fine code s.store r j k fit has h.0) (λ store grown. inl ((tt, grown), refl))
  clear_leaves j k has (r ∷ v ∷ others) s fit h = absurd h.1

  -- on an array
  on_array : (call : Native) (on : List Kind)
      → ((j k : Kind) → HasItems j k → Leaves call (j ∷ [])) → IsOn by.array on
      → Leaves call (on ++ [])
  on_array call on leaves is = elim is [
    | inl row ↦
        subst (λ kinds. Leaves call (kinds ++ [])) (sym row.1) (leaves (Row row.0) (One row.0) refl)
    | inr grid ↦
        subst (λ kinds. Leaves call (kinds ++ [])) (sym grid.1)
        (leaves (Grid grid.0) (Row grid.0) refl)
  ]

  -- those of random words
  words_leave : (e : Elem) (value : Datum) (words : Lcg) (s : State) → IsFitStore code s.store
      → IsOf code.classes (shapes_of s.store) e value → IsGiven e s (plain (with_words words s) value)
  words_leave e value words s fit is =
      inl ((is, (words_fit code words s.store fit, refl, kept_same (shapes_of s.store))), refl)

  random_leaves : Leaves Random2 (One Int ∷ One Int ∷ [])
  unfolding native
  random_leaves (AnInt a ∷ AnInt b ∷ []) s fit h =
      let drawn = int_drawn a b s.store.words in
      words_leave Int (AnInt drawn.number) drawn.words s fit tt
  random_leaves (AnInt a ∷ AnInt b ∷ v ∷ others) s fit h = absurd h.1.1
  random_leaves (AnInt a ∷ _ ∷ others) s fit h = absurd h.1.0
  random_leaves (AnInt a ∷ []) s fit h = absurd h.1
  random_leaves (_ ∷ others) s fit h = absurd h.0
  random_leaves [] s fit h = absurd h

  random_float_leaves : Leaves Random2f (One Float ∷ One Float ∷ [])
  unfolding native
  random_float_leaves (AFloat a ∷ AFloat b ∷ []) s fit h =
      let drawn = float_drawn a b s.store.words in
      words_leave Float (AFloat drawn.number) drawn.words s fit tt
  random_float_leaves (AFloat a ∷ AFloat b ∷ v ∷ others) s fit h = absurd h.1.1
  random_float_leaves (AFloat a ∷ _ ∷ others) s fit h = absurd h.1.0
  random_float_leaves (AFloat a ∷ []) s fit h = absurd h.1
  random_float_leaves (_ ∷ others) s fit h = absurd h.0
  random_float_leaves [] s fit h = absurd h

  seed_leaves : Leaves Srandom (One Int ∷ [])
  unfolding native
  seed_leaves (AnInt n ∷ []) s fit h =
      words_leave Int (AnInt (pos 0)) (words_from (seed_of n)) s fit tt
  seed_leaves (AnInt n ∷ v ∷ others) s fit h = absurd h.1
  seed_leaves (_ ∷ others) s fit h = absurd h.0
  seed_leaves [] s fit h = absurd h

  -- those that change what a unit generator keeps
  store_leaves : (s : State) (t : Try Store) → Fine (Grown code s.store) t
      → Fine (IsGiven Int s) (leaving s t)
  store_leaves s t fine =
      fine_then (Grown code s.store) (IsGiven Int s) t _ fine (λ store grown.
      inl ((tt, grown), refl))

  key_leaves : (u : UgenKind) → IsKeyed u → (is_on : Bool) (r : Datum) (s : State)
      → IsFitStore code s.store → IsOf code.classes (shapes_of s.store) (UnitElem u) r
      → Fine (IsGiven Int s) (leaving s (unit_keyed is_on r s.store))
  key_leaves u has_key is_on r s fit is =
      store_leaves s _ (keyed_fine code s.store fit u r is is_on has_key)

  key_on_leaves : (u : UgenKind) → IsKeyed u → Leaves KeyOn (One (UnitElem u) ∷ [])
  unfolding native
  key_on_leaves u has_key [] s fit h = absurd h
  key_on_leaves u has_key (r ∷ []) s fit h = key_leaves u has_key true r s fit h.0
  key_on_leaves u has_key (r ∷ v ∷ others) s fit h = absurd h.1

  key_off_leaves : (u : UgenKind) → IsKeyed u → Leaves KeyOff (One (UnitElem u) ∷ [])
  unfolding native
  key_off_leaves u has_key [] s fit h = absurd h
  key_off_leaves u has_key (r ∷ []) s fit h = key_leaves u has_key false r s fit h.0
  key_off_leaves u has_key (r ∷ v ∷ others) s fit h = absurd h.1

  key_on_where_leaves : (u : UgenKind) → IsKeyed u
      → Leaves KeyOnWhere (One (UnitElem u) ∷ One Int ∷ [])
  unfolding native
  key_on_where_leaves u has_key (r ∷ AnInt n ∷ []) s fit h =
      key_leaves u has_key (not (int_eq n (pos 0))) r s fit h.0
  key_on_where_leaves u has_key (r ∷ AnInt n ∷ v ∷ others) s fit h = absurd h.1.1
  key_on_where_leaves u has_key (r ∷ _ ∷ others) s fit h = absurd h.1.0
  key_on_where_leaves u has_key (r ∷ []) s fit h = absurd h.1
  key_on_where_leaves u has_key [] s fit h = absurd h

  key_off_where_leaves : (u : UgenKind) → IsKeyed u
      → Leaves KeyOffWhere (One (UnitElem u) ∷ One Int ∷ [])
  unfolding native
  key_off_where_leaves u has_key (r ∷ AnInt n ∷ []) s fit h =
      key_leaves u has_key (int_eq n (pos 0)) r s fit h.0
  key_off_where_leaves u has_key (r ∷ AnInt n ∷ v ∷ others) s fit h = absurd h.1.1
  key_off_where_leaves u has_key (r ∷ _ ∷ others) s fit h = absurd h.1.0
  key_off_where_leaves u has_key (r ∷ []) s fit h = absurd h.1
  key_off_where_leaves u has_key [] s fit h = absurd h

  set_leaves : Leaves SetAdsr
      (One (UnitElem ugen.Adsr) ∷ One Dur ∷ One Dur ∷ One Float ∷ One Dur ∷ [])
  unfolding native
  set_leaves (r ∷ ADur a ∷ ADur d ∷ AFloat level ∷ ADur release ∷ []) s fit h =
      store_leaves s _ (staged_fine code s.store fit ugen.Adsr r h.0 a d level release refl)
  set_leaves (r ∷ ADur a ∷ ADur d ∷ AFloat level ∷ ADur release ∷ v ∷ others) s fit h =
      absurd h.1.1.1.1.1
  set_leaves (r ∷ ADur a ∷ ADur d ∷ AFloat level ∷ _ ∷ others) s fit h = absurd h.1.1.1.1.0
  set_leaves (r ∷ ADur a ∷ ADur d ∷ AFloat level ∷ []) s fit h = absurd h.1.1.1.1
  set_leaves (r ∷ ADur a ∷ ADur d ∷ _ ∷ others) s fit h = absurd h.1.1.1.0
  set_leaves (r ∷ ADur a ∷ ADur d ∷ []) s fit h = absurd h.1.1.1
  set_leaves (r ∷ ADur a ∷ _ ∷ others) s fit h = absurd h.1.1.0
  set_leaves (r ∷ ADur a ∷ []) s fit h = absurd h.1.1
  set_leaves (r ∷ _ ∷ others) s fit h = absurd h.1.0
  set_leaves (r ∷ []) s fit h = absurd h.1
  set_leaves [] s fit h = absurd h

  -- on an envelope, or on an ADSR
  on_envelope : (call : Native) (on params : List Kind)
      → ((u : UgenKind) → IsKeyed u → Leaves call (One (UnitElem u) ∷ params))
      → IsOn by.envelope on → Leaves call (on ++ params)
  on_envelope call on params leaves is = elim is [
    | inl plain ↦
        subst (λ kinds. Leaves call (kinds ++ params)) (sym plain) (leaves ugen.Envelope tt)
    | inr adsr ↦ subst (λ kinds. Leaves call (kinds ++ params)) (sym adsr) (leaves ugen.Adsr tt)
  ]

  -- a built-in call on operands that suit it
  pub native_fine : (call : Native) (on : List Kind) → IsOn (by.built_in call).on on
      → Leaves call (on ++ map One (by.built_in call).params)
  native_fine ShredId on is =
      subst (λ kinds. Leaves ShredId (kinds ++ [])) (sym is)
      (plain_leaves ShredId (One ShredElem ∷ []) (shred_id_fine code.classes))
  native_fine Signal on is =
      subst (λ kinds. Leaves Signal (kinds ++ [])) (sym is) signal_leaves
  native_fine Broadcast on is =
      subst (λ kinds. Leaves Broadcast (kinds ++ [])) (sym is) broadcast_leaves
  native_fine Remove on is =
      subst (λ kinds. Leaves Remove (kinds ++ One Int ∷ [])) (sym is) remove_leaves
  native_fine Size on is = on_array Size on size_leaves is
  native_fine Clear on is = on_array Clear on clear_leaves is
  native_fine Abs on is =
      subst (λ kinds. Leaves Abs (kinds ++ One Int ∷ [])) (sym is)
      (plain_leaves Abs (One Int ∷ []) (abs_fine code.classes))
  native_fine Fabs on is =
      subst (λ kinds. Leaves Fabs (kinds ++ One Float ∷ [])) (sym is)
      (plain_leaves Fabs (One Float ∷ []) (fabs_fine code.classes))
  native_fine Length on is =
      subst (λ kinds. Leaves Length (kinds ++ [])) (sym is)
      (plain_leaves Length (One Text ∷ []) (length_fine code.classes))
  native_fine CharAt on is =
      subst (λ kinds. Leaves CharAt (kinds ++ One Int ∷ [])) (sym is)
      (plain_leaves CharAt (One Text ∷ One Int ∷ []) (char_fine code.classes))
  native_fine Substring on is =
      subst (λ kinds. Leaves Substring (kinds ++ One Int ∷ One Int ∷ [])) (sym is)
      (plain_leaves Substring (One Text ∷ One Int ∷ One Int ∷ []) (part_fine code.classes))
  native_fine Random2 on is =
      subst (λ kinds. Leaves Random2 (kinds ++ One Int ∷ One Int ∷ [])) (sym is) random_leaves
  native_fine Random2f on is =
      subst (λ kinds. Leaves Random2f (kinds ++ One Float ∷ One Float ∷ [])) (sym is)
      random_float_leaves
  native_fine Srandom on is =
      subst (λ kinds. Leaves Srandom (kinds ++ One Int ∷ [])) (sym is) seed_leaves
  native_fine KeyOn on is = on_envelope KeyOn on [] key_on_leaves is
  native_fine KeyOff on is = on_envelope KeyOff on [] key_off_leaves is
  native_fine KeyOnWhere on is =
      on_envelope KeyOnWhere on (One Int ∷ []) key_on_where_leaves is
  native_fine KeyOffWhere on is =
      on_envelope KeyOffWhere on (One Int ∷ []) key_off_where_leaves is
  native_fine SetAdsr on is =
      subst (λ kinds. Leaves SetAdsr (kinds ++ One Dur ∷ One Dur ∷ One Float ∷ One Dur ∷ []))
      (sym is) set_leaves
