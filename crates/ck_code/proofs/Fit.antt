-- What an instruction of a verified code leads to fits again, and so a slice is never stuck.
use Rattle.std.proofs.Common.{◌≡◌, inl, inr, ℕ, zero, suc, ◌+◌, ◌<◌, ◌≤◌, List, [], ◌∷◌, ◌++◌, length, map, reverse, Some, refl, sym, ap, ◌∙◌, subst, arith, slice_get}
use Rattle.std.proofs.lemmas.Int.{ints}
use Rattle.ck_base.specs.declared.limits.TheConstants.{MAX_CALLS}
use Rattle.ck_values.specs.declared.kind.Elem.{Elem}
use Rattle.ck_values.specs.declared.kind.Elem.TheVariants.{Int as IntElem, Float as FloatElem, Dur as DurElem, Time as TimeElem, Text as TextElem, Shred as ShredElem, Class as ClassElem}
use Rattle.ck_values.specs.declared.kind.Kind.{Kind}
use Rattle.ck_values.specs.declared.kind.Kind.TheVariants.{One, Null as NullKind}
use Rattle.ck_values.specs.declared.trap.Place.{Place}
use Rattle.ck_values.specs.Datum.{Datum, AnInt, AFloat, ADur, ATime, AShred, ARef}
use Rattle.ck_store.specs.Store.{Store, State, Printed, At, Shapes, shapes_of}
use Rattle.ck_store.specs.Steps.{pick, int_units, float_units, is_zero, local_of, with_local, static_of, with_static, wait_dur, wait_time, turn_spent}
use Rattle.ck_store.specs.Operators.{unary, binary}
use Rattle.ck_store.specs.Shreds.{with_act, wait_event}
use Rattle.ck_store.specs.Natives.{Given, operand_count, native}
use Rattle.ck_store.specs.Prints.{print_line, with_line}
use Rattle.ck_store.specs.Objects.{field_of, with_field, object_made}
use Rattle.ck_typed.specs.declared.class.Class.{Class}
use Rattle.ck_typed.specs.Standing.{Stands}
use Rattle.ck_typed.specs.declared.native.Native.{Native as BuiltIn}
use Rattle.ck_typed.specs.WellFormed.{FoundWhere, IsOn}
use Rattle.ck_typed.specs.Signatures as by
use Rattle.ck_code.specs.declared.instr.Instr.{Instr}
use Rattle.ck_code.specs.declared.instr.Instr.TheVariants.{Int, Float, Dur, Time, Text, Null, NoShred, Now, Me, Dac, Hole, Local, Static, SetLocal, SetStatic, OpLocal, OpStatic, Field, SetField, OpField, Item, SetItem, OpItem, Dup, Drop, Swap, Op1 as Op1Of, Op2 as Op2Of, UnitInt, UnitFix, Jump, JumpZero, Turn, Call, Virtual, Native, Return, New, Ugen, Row, Grid, Lit, LitGrid, Each, Fill, Append, Spork, SporkVirtual, WaitDur, WaitTime, WaitEvent, Yield, Exit, Print, Connect, Disconnect, Param, SetParam}
use Rattle.ck_code.specs.declared.code.Fun.{Fun}
use Rattle.ck_code.specs.declared.code.CodeParts.{CodeParts}
use Rattle.ck_code.specs.Machine.{Frame, frame, Effect, Next, Stops, Over, Breaks, Bad, Taken, taken, calls_native, text_at, returned, effect, steps_of, step_at, with_step, next_effect, Halt, go_on, exec}
use Rattle.ck_code.specs.Verified.{Places, Typing, OnTop, UnlessOnNull, Finds, HasField, Fits, IsVerified}
use Rattle.ck_code.specs.Fitting.{IsOf, Suits, Suit, IsFitStore, IsCall, AreCalling, AreFit, IsFitState, IsFitEffect, IsFitRequest, IsFitHalt, IsNull, IsWait}
use Rattle.ck_code.proofs.Standing.{at_within, found_is, where_found, same_found, found_more, kept_same, stands_suits}
use Rattle.ck_code.proofs.Suiting.{Fine, fine_then, suit_get, suit_set, local_fine, with_local_fine, arguments_fine}
use Rattle.ck_code.proofs.Tables.{Grown, Makes, get_within}
use Rattle.ck_code.proofs.Values.{picked, zero_fine, unary_fine, two_fine, update_fine, int_units_fine, float_units_fine, text_fine, wait_dur_fine, wait_time_fine, wait_event_fine, native_count}
use Rattle.ck_code.proofs.Calls.{IsGiven, native_fine}
use Rattle.ck_code.proofs.Nulls.{null_or, null_kind, Headed, deepest_first, fine_both, receiver_suits, on_top_more, on_something, native_on_null, field_traps, with_field_traps, wait_traps}
use Rattle.ck_code.proofs.Frames.{Stand as Standing, spent_fine, acted_state, good_try, good_trap, good_top, next_fits, grown_fits, replaced_fits, stops_fit, waits_fit, made_fits}
use Rattle.ck_code.proofs.FitCalls.{call_fits, virtual_fits, spork_fits, spork_virtual_fits}
use Rattle.ck_code.proofs.FitArrays.{item_fits, set_item_fits, op_item_fits, row_fits, grid_fits, lit_fits, lit_grid_fits, each_fits, fill_fits, append_fits}
use Rattle.ck_code.proofs.FitUnits.{dac_fits, hole_fits, ugen_fits, connect_fits, disconnect_fits, param_fits, set_param_fits}
use Rattle.ck_code.proofs.Objects.{field_fine, with_field_fine, object_made_fine}

module _ (code : CodeParts) (verified : IsVerified code) where
  -- a static suits its kind
  static_fine : (store : Store) (i : ℕ) (k : Kind) → IsFitStore code store
      → slice_get code.statics i ≡ Some k → Fine (Suits code.classes (shapes_of store) k)
      (static_of store i)
  unfolding static_of
  static_fine store i k h e =
      suit_get code.classes (shapes_of store) code.statics store.statics i k h.statics e

  -- a store with one static replaced fits
  with_static_fine : (store : Store) (i : ℕ) (k : Kind) (v : Datum) → IsFitStore code store
      → slice_get code.statics i ≡ Some k → Suits code.classes (shapes_of store) k v
      → Fine (Grown code store) (with_static store i v)
  unfolding with_static
  with_static_fine store i k v h e is =
      fine_then (Suits code.classes (shapes_of store) k) (Grown code store) (static_of store i) _
      (static_fine store i k h e)
      (λ old was. (
        record {
          objects = h.objects;
          statics =
              suit_set code.classes (shapes_of store) code.statics store.statics i k v h.statics e is;
          graph = h.graph;
          begun = h.begun;
          within = h.within;
          sporks = h.sporks;
          next_shred = h.next_shred;
        },
        refl,
        kept_same (shapes_of store),
      ))

  -- a field of a class has its kind
  has_field : (c i : ℕ) (class : Class) (k : Kind) → slice_get code.classes c ≡ Some class
      → slice_get class.fields i ≡ Some k → HasField code c i (λ j. j ≡ k)
  has_field c i class k at at_i =
      where_found (slice_get code.classes c) _ class at
      (where_found (slice_get class.fields i) (λ j. j ≡ k) k at_i refl)

module _ (code : CodeParts) (verified : IsVerified code) (main : ℕ) (start : State) where
  abbrev typing : Typing
  typing = verified.typing

  abbrev classes : List Class
  classes = code.classes

  -- an instruction leads to what fits
  abbrev Good : Effect → Type 0
  Good e = IsFitEffect code typing main start e

  -- where a frame on top of others stands
  abbrev Stand : Fun → Places → (f : ℕ) → List Frame → Shapes → Type 0
  Stand = Standing code typing main

  -- the value goes to the frame beneath, or is that of the first function
  returned_fits : (f : ℕ) (result : Kind) (v : Datum) (rest : List Frame) (s : State)
      → slice_get typing.results f ≡ Some result → Suits classes (shapes_of s.store) result v
      → AreCalling code typing main (shapes_of s.store) f rest → length rest ≤ MAX_CALLS
      → IsFitState code start s → Good (returned v rest s)
  returned_fits f result v [] s at suits calling few state = (
    where_found (slice_get typing.results main) (λ result.
        Suits classes (shapes_of s.store) result v) result (ap (slice_get typing.results) (sym calling)
        ∙ at) suits,
    state,
  )
  returned_fits f result v (below ∷ rest) s at suits calling few state =
      let c = calling.0 in (
        (
          record {
            kinds = c.kind ∷ c.kinds;
            asked = c.asked;
            held = (
              stands_suits classes (shapes_of s.store) result c.kind v
                  (same_found (slice_get typing.results f) (λ r.
                  Stands classes r c.kind) result at c.result) suits,
              c.held,
            );
            locals = c.locals;
          },
          calling.1,
          omega (arith, few),
        ),
        state,
      )

  module _ (fn : Fun) (places : Places) (f : ℕ) (rest : List Frame) where
    -- what a built-in call gives
    given_fits : (e : Elem) (p : ℕ) (kinds : List Kind) (l beneath : List Datum) (s : State)
        (given : Given) → Stand fn places f rest (shapes_of s.store)
        → Finds classes places (p + 1) (One e ∷ kinds)
        → Suit classes (shapes_of s.store) kinds beneath → Suit classes (shapes_of s.store) fn.locals l
        → IsFitState code start s → IsGiven code e s given
        → Good (Next (frame f (p + 1) l (given.value ∷ beneath) ∷ rest) given.state)
    given_fits e p kinds l beneath s given stands finds held locals state is = elim is [
      | inl made ↦
          subst (λ s1. Good (Next (frame f (p + 1) l (given.value ∷ beneath) ∷ rest) s1))
          (sym made.1)
          (made_fits fn places f rest (p + 1) (One e) kinds l beneath s
          (record { reference = given.value; store = given.state.store }) stands finds held locals
          state made.0)
      | inr acted ↦
          subst (λ s1. Good (Next (frame f (p + 1) l (given.value ∷ beneath) ∷ rest) s1))
          (sym acted.3)
          (next_fits fn places f rest (p + 1) (One e ∷ kinds) l (given.value ∷ beneath)
          (with_act acted.1 s) stands finds (acted.0, held) locals
          (acted_state s acted.1 state acted.2))
    ]

    -- a built-in call on nothing, or on what isn't null
    sure_native_fits : (call : BuiltIn) (on : List Kind) (place : Place) (p : ℕ) (kinds : List Kind)
        (l ops : List Datum) (s : State) → Stand fn places f rest (shapes_of s.store)
        → Suit classes (shapes_of s.store) kinds ops → Suit classes (shapes_of s.store) fn.locals l
        → IsFitState code start s → IsOn (by.built_in call).on on
        → OnTop classes (reverse (on ++ map One (by.built_in call).params)) kinds (λ beneath.
        Finds classes places (p + 1) (One (by.built_in call).gives ∷ beneath))
        → Good (calls_native place call f p l ops rest s)
    sure_native_fits call on place p kinds l ops s stands held locals state is_on top =
        let params = on ++ map One (by.built_in call).params in
        good_try Good _ (taken (operand_count call) [] ops) place s _
        (arguments_fine classes (shapes_of s.store) params kinds ops (operand_count call) _
        (native_count classes (shapes_of s.store) call on is_on) top held) (λ trap. state)
        (λ t suits.
        good_try Good (IsGiven code (by.built_in call).gives s)
        (native call t.arguments s) place s _
        (native_fine code call on is_on t.arguments s state.store suits.0) (λ trap. state)
        (λ given is. given_fits (by.built_in call).gives p suits.1 l t.beneath s
        given stands suits.2 suits.3 locals state is))

    -- one on null
    null_native_fits : (call : BuiltIn) (k : Kind) (ks : List Kind) (place : Place) (p : ℕ)
        (kinds : List Kind) (l ops : List Datum) (s : State) (P : List Kind → Type 0)
        → Suit classes (shapes_of s.store) kinds ops → IsFitState code start s
        → IsOn (by.built_in call).on (k ∷ ks)
        → OnTop classes (reverse ((k ∷ ks) ++ map One (by.built_in call).params)) kinds P
        → slice_get kinds (length (by.built_in call).params) ≡ Some NullKind
        → Good (calls_native place call f p l ops rest s)
    null_native_fits call k ks place p kinds l ops s P held state is_on top null =
        let count = length (by.built_in call).params in
        let all = native_count classes (shapes_of s.store) call (k ∷ ks) is_on in
        let receiver : FoundWhere (slice_get ops count) IsNull =
        found_more (slice_get ops count) _ IsNull (λ v h.
        subst (λ j. Suits classes (shapes_of s.store) j v) h.1 h.2)
        (receiver_suits classes (shapes_of s.store) count kinds ops (λ j. j ≡ NullKind) held
        (where_found (slice_get kinds count) (λ j. j ≡ NullKind) NullKind null refl)) in
        let one_more : suc count ≡ operand_count call = on_something call k ks is_on in
        let first = subst (λ n. Fine (λ (t : Taken). Headed t.arguments IsNull) (taken n [] ops))
        one_more (deepest_first count [] ops IsNull receiver) in
        good_try Good _ (taken (operand_count call) [] ops) place s _
        (fine_both _ _ (taken (operand_count call) [] ops)
        (arguments_fine classes (shapes_of s.store) ((k ∷ ks) ++ map One (by.built_in call).params)
        kinds ops (operand_count call) _ all top held) first) (λ trap. state)
        (λ t both.
        good_trap Good (native call t.arguments s) place s _
        (native_on_null classes call k ks is_on t.arguments s both.0.0 both.1) (λ trap. state))

    native_fits : (call : BuiltIn) (on : List Kind) (place : Place) (p : ℕ) (kinds : List Kind)
        (l ops : List Datum) (s : State) → Stand fn places f rest (shapes_of s.store)
        → Suit classes (shapes_of s.store) kinds ops → Suit classes (shapes_of s.store) fn.locals l
        → IsFitState code start s → IsOn (by.built_in call).on on
        → OnTop classes (reverse (on ++ map One (by.built_in call).params)) kinds (λ beneath.
        UnlessOnNull on (length (by.built_in call).params) kinds
        (Finds classes places (p + 1) (One (by.built_in call).gives ∷ beneath)))
        → Good (calls_native place call f p l ops rest s)
    native_fits call [] place p kinds l ops s stands held locals state is_on top =
        sure_native_fits call [] place p kinds l ops s stands held locals state is_on top
    native_fits call (k ∷ ks) place p kinds l ops s stands held locals state is_on top =
        let count = length (by.built_in call).params in
        null_kind (slice_get kinds count)
        (λ null. null_native_fits call k ks place p kinds l ops s _ held state is_on top null)
        (λ sure.
        sure_native_fits call (k ∷ ks) place p kinds l ops s stands held locals state is_on
        (on_top_more classes (reverse ((k ∷ ks) ++ map One (by.built_in call).params)) kinds _ _
        (λ beneath h. sure _ h) top))

    -- each instruction
    effect_fits : (shred : ℕ) (i : Instr) (place : Place) (p : ℕ) (kinds : List Kind)
        (l ops : List Datum) (s : State) → Stand fn places f rest (shapes_of s.store)
        → FoundWhere (step_at code f p) (λ step. step.instr ≡ i)
        → Suit classes (shapes_of s.store) kinds ops → Suit classes (shapes_of s.store) fn.locals l
        → IsFitState code start s → Fits code typing fn f places p i kinds
        → Good (effect code shred i place f p l ops rest s)
    effect_fits shred (Int n) place p kinds l ops s stands at held locals state fits =
        next_fits fn places f rest (p + 1) (One IntElem ∷ kinds) l (AnInt n
        ∷ ops) s stands fits (tt, held) locals state
    effect_fits shred (Float x) place p kinds l ops s stands at held locals state fits =
        next_fits fn places f rest (p + 1) (One FloatElem ∷ kinds) l (AFloat x
        ∷ ops) s stands fits (tt, held) locals state
    effect_fits shred (Dur samples) place p kinds l ops s stands at held locals state fits =
        next_fits fn places f rest (p + 1) (One DurElem ∷ kinds) l (ADur samples
        ∷ ops) s stands fits (tt, held) locals state
    effect_fits shred (Time samples) place p kinds l ops s stands at held locals state fits =
        next_fits fn places f rest (p + 1) (One TimeElem ∷ kinds) l (ATime samples
        ∷ ops) s stands fits (tt, held) locals state
    effect_fits shred (Text k) place p kinds l ops s stands at held locals state fits =
        good_try Good (IsOf classes (shapes_of s.store) TextElem) (text_at code.texts k) place s _
        (text_fine classes (shapes_of s.store) code.texts k fits.0) (λ trap. state) (λ v is.
        next_fits fn places f rest (p + 1) (One TextElem ∷ kinds) l (v ∷ ops) s stands fits.1 (
          is,
          held,
        ) locals state)
    effect_fits shred Null place p kinds l ops s stands at held locals state fits =
        next_fits fn places f rest (p + 1) (NullKind ∷ kinds) l (ARef 0 ∷ ops) s stands fits (
          tt,
          held,
        ) locals state
    effect_fits shred NoShred place p kinds l ops s stands at held locals state fits =
        next_fits fn places f rest (p + 1) (One ShredElem ∷ kinds) l (AShred 0
        ∷ ops) s stands fits (tt, held) locals state
    effect_fits shred Now place p kinds l ops s stands at held locals state fits =
        next_fits fn places f rest (p + 1) (One TimeElem ∷ kinds) l (ATime s.store.now
        ∷ ops) s stands fits (tt, held) locals state
    effect_fits shred Me place p kinds l ops s stands at held locals state fits =
        next_fits fn places f rest (p + 1) (One ShredElem ∷ kinds) l (AShred shred
        ∷ ops) s stands fits (tt, held) locals state
    effect_fits shred (Local i) place p kinds l ops s stands at held locals state fits =
        let k = found_is (slice_get fn.locals i) _ fits in
        good_try Good (Suits classes (shapes_of s.store) k.0) (local_of l i) place s _
        (local_fine classes (shapes_of s.store) fn.locals l i k.0 locals k.1) (λ trap. state) (λ v is.
        next_fits fn places f rest (p + 1) (k.0 ∷ kinds) l (v ∷ ops) s stands k.2 (
          is,
          held,
        ) locals state)
    effect_fits shred (Static i) place p kinds l ops s stands at held locals state fits =
        let k = found_is (slice_get code.statics i) _ fits in
        good_try Good (Suits classes (shapes_of s.store) k.0) (static_of s.store i) place s _
        (static_fine code verified s.store i k.0 state.store k.1) (λ trap. state) (λ v is.
        next_fits fn places f rest (p + 1) (k.0 ∷ kinds) l (v ∷ ops) s stands k.2 (
          is,
          held,
        ) locals state)
    effect_fits shred (SetLocal i) place p kinds l ops s stands at held locals state fits =
        let k = found_is (slice_get fn.locals i) _ fits in
        good_top Good classes (shapes_of s.store) _ kinds ops _ k.2 held
        (λ j beneath v under top is suit.
        good_try Good (Suit classes (shapes_of s.store) fn.locals) (with_local l i v) place s _
        (with_local_fine classes (shapes_of s.store) fn.locals l i k.0 v locals k.1
        (stands_suits classes (shapes_of s.store) j k.0 v top.0 is)) (λ trap. state) (λ l1 fit.
        next_fits fn places f rest (p + 1) (j ∷ beneath) l1 (v ∷ under) s stands top.1 (
          is,
          suit,
        ) fit state))
    effect_fits shred (SetStatic i) place p kinds l ops s stands at held locals state fits =
        let k = found_is (slice_get code.statics i) _ fits in
        good_top Good classes (shapes_of s.store) _ kinds ops _ k.2 held
        (λ j beneath v under top is suit.
        good_try Good (Grown code s.store) (with_static s.store i v) place s _
        (with_static_fine code verified s.store i k.0 v state.store k.1
        (stands_suits classes (shapes_of s.store) j k.0 v top.0 is)) (λ trap. state) (λ store grown.
        grown_fits fn places f rest (p + 1) (j ∷ beneath) l (v ∷ under) s store stands top.1 (
          is,
          suit,
        ) locals state grown))
    effect_fits shred (OpLocal i o) place p kinds l ops s stands at held locals state fits =
        let k = found_is (slice_get fn.locals i) _ fits in
        good_top Good classes (shapes_of s.store) _ kinds ops _
        (update_fine classes (shapes_of s.store) o k.0 kinds _ k.2) held
        (λ j beneath v under top is suit.
        good_try Good (Suits classes (shapes_of s.store) k.0) (local_of l i) place s _
        (local_fine classes (shapes_of s.store) fn.locals l i k.0 locals k.1) (λ trap. state)
        (λ old was.
        good_try Good (IsOf classes (shapes_of s.store) top.0) (binary o old v) place s _
        (top.3 old v was is) (λ trap. state) (λ w is_w.
        good_try Good (Suit classes (shapes_of s.store) fn.locals) (with_local l i w) place s _
        (with_local_fine classes (shapes_of s.store) fn.locals l i k.0 w locals k.1
        (stands_suits classes (shapes_of s.store) (One top.0) k.0 w top.2 is_w)) (λ trap. state)
        (λ l1 fit.
        next_fits fn places f rest (p + 1) (One top.0 ∷ beneath) l1 (w ∷ under) s stands top.1 (
          is_w,
          suit,
        ) fit state))))
    effect_fits shred (OpStatic i o) place p kinds l ops s stands at held locals state fits =
        let k = found_is (slice_get code.statics i) _ fits in
        good_top Good classes (shapes_of s.store) _ kinds ops _
        (update_fine classes (shapes_of s.store) o k.0 kinds _ k.2) held
        (λ j beneath v under top is suit.
        good_try Good (Suits classes (shapes_of s.store) k.0) (static_of s.store i) place s _
        (static_fine code verified s.store i k.0 state.store k.1) (λ trap. state) (λ old was.
        good_try Good (IsOf classes (shapes_of s.store) top.0) (binary o old v) place s _
        (top.3 old v was is) (λ trap. state) (λ w is_w.
        good_try Good (Grown code s.store) (with_static s.store i w) place s _
        (with_static_fine code verified s.store i k.0 w state.store k.1
        (stands_suits classes (shapes_of s.store) (One top.0) k.0 w top.2 is_w)) (λ trap. state)
        (λ store grown.
        grown_fits fn places f rest (p + 1) (One top.0 ∷ beneath) l (w ∷ under) s store stands
        top.1 (is_w, suit) locals state grown))))
    effect_fits shred (Field i) place p kinds l ops s stands at held locals state fits =
        good_top Good classes (shapes_of s.store) _ kinds ops _ fits held
        (λ j beneath r under object is suit.
        null_or classes (shapes_of s.store) j r object is (λ null.
        good_trap Good (field_of s.store r i) place s _ (field_traps s.store r null i)
        (λ trap. state)) (λ top.
        let class = found_is (slice_get classes top.0) _ top.2 in
        let field = found_is (slice_get class.0.fields i) _ class.2 in
        good_try Good (Suits classes (shapes_of s.store) field.0) (field_of s.store r i) place s _
        (field_fine code verified s.store r top.0 i field.0 state.store
        (stands_suits classes (shapes_of s.store) j _ r top.1 is)
        (has_field code verified top.0 i class.0 field.0 class.1 field.1)) (λ trap. state)
        (λ v is_v.
        next_fits fn places f rest (p + 1) (field.0 ∷ beneath) l (v ∷ under) s stands field.2 (
          is_v,
          suit,
        ) locals state)))
    effect_fits shred (SetField i) place p kinds l ops s stands at held locals state fits =
        good_top Good classes (shapes_of s.store) _ kinds ops _ fits held
        (λ jr kinds1 r under1 lower is suit.
        good_top Good classes (shapes_of s.store) _ kinds1 under1 _ lower suit
        (λ j beneath v under object is_v suit1.
        null_or classes (shapes_of s.store) jr r object is (λ null.
        good_trap Good (with_field s.store r i v) place s _ (with_field_traps s.store r null i v)
        (λ trap. state)) (λ top.
        let class = found_is (slice_get classes top.0) _ top.2 in
        let field = found_is (slice_get class.0.fields i) _ class.2 in
        good_try Good (Grown code s.store) (with_field s.store r i v) place s _
        (with_field_fine code verified s.store r top.0 i field.0 v state.store
        (stands_suits classes (shapes_of s.store) jr _ r top.1 is)
        (has_field code verified top.0 i class.0 field.0 class.1 field.1)
        (stands_suits classes (shapes_of s.store) j field.0 v field.2.0 is_v)) (λ trap. state)
        (λ store grown.
        grown_fits fn places f rest (p + 1) (j ∷ beneath) l (v ∷ under) s store stands field.2.1 (
          is_v,
          suit1,
        ) locals state grown))))
    effect_fits shred (OpField i o) place p kinds l ops s stands at held locals state fits =
        good_top Good classes (shapes_of s.store) _ kinds ops _ fits held
        (λ jr kinds1 r under1 lower is suit.
        good_top Good classes (shapes_of s.store) _ kinds1 under1 _ lower suit
        (λ j beneath v under object is_v suit1.
        null_or classes (shapes_of s.store) jr r object is (λ null.
        good_trap Good (field_of s.store r i) place s _ (field_traps s.store r null i)
        (λ trap. state)) (λ top.
        let class = found_is (slice_get classes top.0) _ top.2 in
        let field = found_is (slice_get class.0.fields i) _ class.2 in
        let suits_r = stands_suits classes (shapes_of s.store) jr _ r top.1 is in
        let has = has_field code verified top.0 i class.0 field.0 class.1 field.1 in
        let update = update_fine classes (shapes_of s.store) o field.0 (j ∷ beneath) (λ result under1.
        Finds classes places (p + 1) (One result ∷ under1)) field.2 in
        good_try Good (Suits classes (shapes_of s.store) field.0) (field_of s.store r i) place s _
        (field_fine code verified s.store r top.0 i field.0 state.store suits_r has) (λ trap. state)
        (λ old was.
        good_try Good (IsOf classes (shapes_of s.store) update.0) (binary o old v) place s _
        (update.3 old v was is_v) (λ trap. state) (λ w is_w.
        good_try Good (Grown code s.store) (with_field s.store r i w) place s _
        (with_field_fine code verified s.store r top.0 i field.0 w state.store suits_r has
        (stands_suits classes (shapes_of s.store) (One update.0) field.0 w update.2 is_w))
        (λ trap. state) (λ store grown.
        grown_fits fn places f rest (p + 1) (One update.0 ∷ beneath) l (w ∷ under) s store stands
        update.1 (is_w, suit1) locals state grown))))))
    effect_fits shred Item place p kinds l ops s stands at held locals state fits =
        item_fits code typing main start fn places f rest shred place p kinds l ops s
        stands held locals state fits
    effect_fits shred SetItem place p kinds l ops s stands at held locals state fits =
        set_item_fits code typing main start fn places f rest shred place p kinds l ops s
        stands held locals state fits
    effect_fits shred (OpItem o) place p kinds l ops s stands at held locals state fits =
        op_item_fits code typing main start fn places f rest shred place p kinds l ops s
        stands held locals state o fits
    effect_fits shred Dup place p kinds l ops s stands at held locals state fits =
        good_top Good classes (shapes_of s.store) _ kinds ops _ fits held
        (λ j beneath v under top is suit.
        next_fits fn places f rest (p + 1) (j ∷ j ∷ beneath) l (v ∷ v ∷ under) s stands top (
          is,
          (is, suit),
        ) locals state)
    effect_fits shred Drop place p kinds l ops s stands at held locals state fits =
        good_top Good classes (shapes_of s.store) _ kinds ops _ fits held
        (λ j beneath v under top is suit.
        next_fits fn places f rest (p + 1) beneath l under s stands top suit locals state)
    effect_fits shred Swap place p kinds l ops s stands at held locals state fits =
        good_top Good classes (shapes_of s.store) _ kinds ops _ fits held
        (λ j kinds1 y under1 top is_y suit1.
        good_top Good classes (shapes_of s.store) _ kinds1 under1 _ top suit1
        (λ k beneath x under top1 is_x suit.
        next_fits fn places f rest (p + 1) (k ∷ j ∷ beneath) l (x ∷ y ∷ under) s stands top1 (
          is_x,
          (is_y, suit),
        ) locals state))
    effect_fits shred (Op2Of o) place p kinds l ops s stands at held locals state fits =
        good_top Good classes (shapes_of s.store) _ kinds ops _
        (two_fine classes (shapes_of s.store) o kinds _ fits) held (λ k kinds1 y under1 top is_y suit1.
        good_top Good classes (shapes_of s.store) _ kinds1 under1 _ top suit1
        (λ j beneath x under top1 is_x suit.
        good_try Good (IsOf classes (shapes_of s.store) top1.0) (binary o x y) place s _
        (top1.2 x y is_x is_y) (λ trap. state) (λ v is.
        next_fits fn places f rest (p + 1) (One top1.0 ∷ beneath) l (v ∷ under) s stands top1.1 (
          is,
          suit,
        ) locals state)))
    effect_fits shred (Op1Of o) place p kinds l ops s stands at held locals state fits =
        replaced_fits fn places f rest (by.unary o).operand (by.unary o).result (unary o) place p
        kinds l ops s (unary_fine classes (shapes_of s.store) o) stands held locals state fits
    effect_fits shred (UnitInt n d) place p kinds l ops s stands at held locals state fits =
        replaced_fits fn places f rest IntElem DurElem (int_units n d) place p kinds l ops s
        (int_units_fine classes (shapes_of s.store) n d) stands held locals state fits.1
    effect_fits shred (UnitFix n d) place p kinds l ops s stands at held locals state fits =
        replaced_fits fn places f rest FloatElem DurElem (float_units n d) place p kinds l ops s
        (float_units_fine classes (shapes_of s.store) n d) stands held locals state fits.1
    effect_fits shred (Jump t) place p kinds l ops s stands at held locals state fits =
        next_fits fn places f rest t kinds l ops s stands fits held locals state
    effect_fits shred (JumpZero t) place p kinds l ops s stands at held locals state fits =
        good_top Good classes (shapes_of s.store) _ kinds ops _ fits held
        (λ j beneath v under top is suit.
        good_try Good (λ b. Unit {0}) (is_zero v) place s _
        (zero_fine classes (shapes_of s.store) v
        (stands_suits classes (shapes_of s.store) j (One IntElem) v top.0 is)) (λ trap. state)
        (λ zero_is fine.
        next_fits fn places f rest (pick zero_is t (p + 1)) beneath l under s stands
        (picked (λ q. Finds classes places q beneath) zero_is t
        (p + 1) top.1.0 top.1.1) suit locals state))
    effect_fits shred Turn place p kinds l ops s stands at held locals state fits =
        good_try Good (λ s1. IsFitState code start s1
        × (s1.store ≡ s.store)) (turn_spent s) place s _ (spent_fine s.turns s refl state)
        (λ trap. state)
        (λ s1 state1.
        let same : s.store ≡ s1.store = sym state1.1 in
        next_fits fn places f rest (p + 1) kinds l ops s1
        (subst (λ store. Stand fn places f rest (shapes_of store)) same stands) fits
        (subst (λ store. Suit classes (shapes_of store) kinds ops) same held)
        (subst (λ store. Suit classes (shapes_of store) fn.locals l) same locals) state1.0)
    effect_fits shred (Call g) place p kinds l ops s stands at held locals state fits =
        call_fits code verified main start fn places f rest g p place kinds l ops s (slice_get code.funs g) stands refl
        (found_more (step_at code f p) _ _ (λ step is.
        subst IsCall (sym is) tt) at) held locals state fits
    effect_fits shred (Virtual slot n) place p kinds l ops s stands at held locals state fits =
        virtual_fits code verified main start fn places f rest slot n p place kinds l ops s stands
        (found_more (step_at code f p) _ _ (λ step is. subst IsCall (sym is) tt) at)
        held locals state fits
    effect_fits shred (Spork g) place p kinds l ops s stands at held locals state fits =
        spork_fits code verified main start fn places f rest g p place kinds l ops s
        (slice_get code.funs g) stands refl held locals state fits
    effect_fits shred (SporkVirtual slot n) place p kinds l ops s stands at held locals state
        fits =
        spork_virtual_fits code verified main start fn places f rest slot n p place kinds l ops s
        stands held locals state fits
    effect_fits shred (New c) place p kinds l ops s stands at held locals state fits =
        good_try Good (Makes code s.store (One (ClassElem c))) (object_made classes c s.store)
        place s _ (object_made_fine code verified s.store c fits.0 state.store) (λ trap. state)
        (λ made h.
        made_fits fn places f rest (p + 1) (One (ClassElem c)) kinds l ops s made stands fits.1
        held locals state h)
    effect_fits shred (Row e) place p kinds l ops s stands at held locals state fits =
        row_fits code typing main start fn places f rest shred place p kinds l ops s
        stands held locals state e fits
    effect_fits shred (Grid e) place p kinds l ops s stands at held locals state fits =
        grid_fits code typing main start fn places f rest shred place p kinds l ops s
        stands held locals state e fits
    effect_fits shred (Lit e n) place p kinds l ops s stands at held locals state fits =
        lit_fits code typing main start fn places f rest shred place p kinds l ops s
        stands held locals state e n fits
    effect_fits shred (LitGrid e n) place p kinds l ops s stands at held locals state fits =
        lit_grid_fits code typing main start fn places f rest shred place p kinds l ops s
        stands held locals state e n fits
    effect_fits shred (Each t) place p kinds l ops s stands at held locals state fits =
        each_fits code typing main start fn places f rest shred place p kinds l ops s
        stands held locals state t fits
    effect_fits shred Fill place p kinds l ops s stands at held locals state fits =
        fill_fits code typing main start fn places f rest shred place p kinds l ops s
        stands held locals state fits
    effect_fits shred Append place p kinds l ops s stands at held locals state fits =
        append_fits code typing main start fn places f rest shred place p kinds l ops s
        stands held locals state fits
    effect_fits shred Return place p kinds l ops s stands at held locals state fits =
        let k = found_is (slice_get typing.results f) _ fits in
        good_top Good classes (shapes_of s.store) _ kinds ops _ k.2 held
        (λ j beneath v under top is suit.
        returned_fits f k.0 v rest s k.1
        (stands_suits classes (shapes_of s.store) j k.0 v top is) stands.beneath stands.few state)
    effect_fits shred WaitDur place p kinds l ops s stands at held locals state fits =
        waits_fit fn places f rest DurElem wait_dur place p kinds l ops s
        (λ v is. wait_dur_fine classes (shapes_of s.store) v s.store is)
        (found_more (step_at code f p) _ _ (λ step is. subst IsWait (sym is) tt) at) stands held
        locals state fits
    effect_fits shred WaitTime place p kinds l ops s stands at held locals state fits =
        waits_fit fn places f rest TimeElem wait_time place p kinds l ops s
        (λ v is. wait_time_fine classes (shapes_of s.store) v s.store is)
        (found_more (step_at code f p) _ _ (λ step is. subst IsWait (sym is) tt) at) stands held
        locals state fits
    effect_fits shred WaitEvent place p kinds l ops s stands at held locals state fits =
        good_top Good classes (shapes_of s.store) _ kinds ops _ fits held
        (λ j beneath event under of_event is suit.
        null_or classes (shapes_of s.store) j event of_event is (λ null.
        good_trap Good (wait_event event) place s _ (wait_traps event null) (λ trap. state)) (λ top.
        good_try Good (IsFitRequest classes (shapes_of s.store) s.store.now) (wait_event event) place s _
        (wait_event_fine classes (shapes_of s.store) event s.store.now
        (stands_suits classes (shapes_of s.store) j (One (ClassElem 1)) event top.0 is))
        (λ trap. state) (λ q asked.
        stops_fit fn places f rest q place p beneath l under s asked
        (found_more (step_at code f p) _ _ (λ step is. subst IsWait (sym is) tt) at) stands top.1
        suit locals state)))
    effect_fits shred Yield place p kinds l ops s stands at held locals state fits =
        stops_fit fn places f rest (At s.store.now) place p kinds l ops s (grind (arith, ints))
        (found_more (step_at code f p) _ _ (λ step is. subst IsWait (sym is) tt) at) stands fits
        held locals state
    effect_fits shred Exit place p kinds l ops s stands at held locals state fits =
        record {
          frames_fit = tt;
          state = state;
          after = (p, refl, found_more (step_at code f p) _ _ (λ step is. subst IsWait (sym is) tt) at);
          request = tt;
        }
    effect_fits shred (Native call) place p kinds l ops s stands at held locals state fits =
        native_fits call fits.0 place p kinds l ops s stands held locals state
        fits.1 fits.2
    effect_fits shred (Print items) place p kinds l ops s stands at held locals state fits =
        good_try Good _ (taken (length items) [] ops) place s _
        (arguments_fine classes (shapes_of s.store) items kinds ops (length items) _ refl fits.2 held)
        (λ trap. state) (λ t suits.
        next_fits fn places f rest (p + 1) suits.1 l t.beneath
        (with_line (print_line classes items t.arguments) s) stands suits.2 suits.3 locals
        (acted_state s (Printed (print_line classes items t.arguments)) state tt))
    effect_fits shred Dac place p kinds l ops s stands at held locals state fits =
        dac_fits code typing main start fn places f rest shred place p kinds l ops s
        stands held locals state fits
    effect_fits shred Hole place p kinds l ops s stands at held locals state fits =
        hole_fits code typing main start fn places f rest shred place p kinds l ops s
        stands held locals state fits
    effect_fits shred (Ugen kind) place p kinds l ops s stands at held locals state fits =
        ugen_fits code typing main start fn places f rest shred place p kinds l ops s
        stands held locals state kind fits
    effect_fits shred Connect place p kinds l ops s stands at held locals state fits =
        connect_fits code typing main start fn places f rest shred place p kinds l ops s
        stands held locals state fits
    effect_fits shred Disconnect place p kinds l ops s stands at held locals state fits =
        disconnect_fits code typing main start fn places f rest shred place p kinds l ops s
        stands held locals state fits
    effect_fits shred (Param q) place p kinds l ops s stands at held locals state fits =
        param_fits code typing main start fn places f rest shred place p kinds l ops s
        stands held locals state q fits
    effect_fits shred (SetParam q) place p kinds l ops s stands at held locals state fits =
        set_param_fits code typing main start fn places f rest shred place p kinds l ops s
        stands held locals state q fits

  -- the next instruction of frames that fit
  pub next_effect_fits : (shred : ℕ) (frames : List Frame) (s : State)
      → AreFit code typing main (shapes_of s.store) frames → IsFitState code start s
      → Good (next_effect code shred frames s)
  next_effect_fits shred [] s fits state = fits
  next_effect_fits shred (top ∷ rest) s fits state =
      let ready = fits.0 in
      let asked = found_is (slice_get typing.operands top.fun) _ ready.asked in
      let in_fun = found_is (slice_get code.funs top.fun) _ ready.locals in
      let fun = verified.funs top.fun in_fun.0 asked.0 in_fun.1 asked.1 in
      let within : top.place < length in_fun.0.code =
      omega (arith, at_within asked.0 top.place ready.kinds asked.2, fun.as_long) in
      let step = get_within in_fun.0.code top.place within in
      let at : step_at code top.fun top.place ≡ Some step.0 =
      ap (λ o. slice_get (steps_of o) top.place) in_fun.1 ∙ step.1 in
      let stands : Stand in_fun.0 asked.0 top.fun rest (shapes_of s.store) =
      record { fun = in_fun.1; operands = asked.1; beneath = fits.1; few = fits.2 } in
      subst (λ o. Good (with_step o (λ step.
      effect code shred step.instr step.place top.fun top.place top.locals top.operands rest s)))
      (sym at)
      (effect_fits in_fun.0 asked.0 top.fun rest shred step.0.instr step.0.place top.place
      ready.kinds top.locals top.operands s stands
      (where_found (step_at code top.fun top.place) (λ s. s.instr
      ≡ step.0.instr) step.0 at refl) ready.held in_fun.2 state
      (fun.each top.place step.0 ready.kinds step.1 asked.2))

  -- a slice goes on from what fits
  go_on_fits : (e : Effect) (next : List Frame → State → Halt) → Good e
      → ((frames : List Frame) (s : State) → AreFit code typing main (shapes_of s.store) frames
      → IsFitState code start s → IsFitHalt code typing main start (next frames s))
      → IsFitHalt code typing main start (go_on e next)
  go_on_fits (Next frames s) next good after = after frames s good.0 good.1
  go_on_fits (Stops q place frames s) next good after = good
  go_on_fits (Over v s) next good after = good
  go_on_fits (Breaks trap place s) next good after = good
  go_on_fits Bad next good after = good

  -- a slice
  pub exec_fits : (shred k : ℕ) (frames : List Frame) (s : State)
      → AreFit code typing main (shapes_of s.store) frames → IsFitState code start s
      → IsFitHalt code typing main start (exec code shred k frames s)
  exec_fits shred zero frames s fits state = tt
  exec_fits shred (suc k) frames s fits state =
      go_on_fits (next_effect code shred frames s) (exec code shred k)
      (next_effect_fits shred frames s fits state) (exec_fits shred k)
