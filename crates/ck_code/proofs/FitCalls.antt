-- What a call or a spork leads to fits again.
use Rattle.std.proofs.Common.{◌≡◌, ℕ, suc, ◌+◌, ◌<◌, ◌≤◌, Bool, true, false, List, [], ◌∷◌, length, reverse, drop, Option, Some, None, refl, sym, ap, ◌∙◌, subst, arith, nat_eq, nat_lt, slice_get, eq-eqb}
use Rattle.std.proofs.lemmas.Bool.{ltb-true}
use Rattle.std.proofs.lemmas.Int.{ints}
use Rattle.std.proofs.lemmas.List.{length-take}
use Rattle.std.proofs.lemmas.Option.{slice_get_within}
use Rattle.ck_base.specs.declared.limits.TheConstants.{MAX_CALLS, MAX_SPORKS}
use Rattle.ck_values.specs.declared.kind.Elem.TheVariants.{Class as ClassElem, Shred as ShredElem}
use Rattle.ck_values.specs.declared.kind.Kind.{Kind}
use Rattle.ck_values.specs.declared.kind.Kind.TheVariants.{One}
use Rattle.ck_values.specs.declared.trap.Place.{Place}
use Rattle.ck_values.specs.declared.trap.Trap.TheVariants.{SporkLimit}
use Rattle.ck_values.specs.Datum.{Datum, AShred, first_locals}
use Rattle.ck_store.specs.Store.{Store, State, Sporked, Gives, Fails, Shapes, shapes_of}
use Rattle.ck_store.specs.Steps.{pick, turn_spent, room_for_call}
use Rattle.ck_store.specs.Objects.{method_of}
use Rattle.ck_store.specs.Shreds.{Child, sporked}
use Rattle.ck_typed.specs.declared.class.Class.{Class}
use Rattle.ck_typed.specs.Standing.{Stands}
use Rattle.ck_typed.specs.WellFormed.{FoundWhere}
use Rattle.ck_code.specs.declared.code.Fun.{Fun}
use Rattle.ck_code.specs.declared.instr.Instr.TheVariants.{Virtual, SporkVirtual}
use Rattle.ck_code.specs.declared.code.CodeParts.{CodeParts}
use Rattle.ck_code.specs.Machine.{Frame, frame, Effect, Bad, Taken, tried, on_top, taken, with_fun, entered, sent, sporks_child, sporks_found, step_at}
use Rattle.ck_code.specs.Verified.{Places, operands_at, Typing, AllStand, AreAt, Finds, OnTop, params_of, HasSlot, Fits, IsFunVerified, IsVerified}
use Rattle.ck_code.specs.Fitting.{Suits, Suit, IsNull, IsFitStore, IsCall, IsCalling, AreFit, IsFitState, IsFitEffect}
use Rattle.ck_code.proofs.Standing.{found_is, where_found, all_stand_suit, kept_same}
use Rattle.ck_code.proofs.Suiting.{Fine, first_locals_suit, arguments_fine, suit_length}
use Rattle.ck_code.proofs.Tables.{get_within}
use Rattle.ck_code.proofs.Nulls.{Headed, null_or, deepest_first, receiver_suits, method_traps}
use Rattle.ck_code.proofs.Frames.{Stand as Standing, room_fine, spent_fine, grown_state, acted_state, good_try, good_trap, good_top, good_headed, next_fits}
use Rattle.ck_code.proofs.Objects.{IsMethod, slot_is, method_fine}

-- a child where one may be sporked
child_where : (b : Bool) (P : Child → Type 0) (child : Child) → (b ≡ true → P child)
    → Fine P (pick b (Gives child) (Fails SporkLimit))
child_where true P child h = h refl
child_where false P child h = tt

module _ (code : CodeParts) (start : State) where
  -- a store in which one more shred was sporked fits
  numbered_fits : (store : Store) → IsFitStore code store → store.sporks < MAX_SPORKS
      → IsFitStore code (record store {
        sporks = suc store.sporks;
        next_shred = suc store.next_shred;
      })
  numbered_fits store fit lt = record {
    objects = fit.objects;
    statics = fit.statics;
    graph = fit.graph;
    begun = fit.begun;
    within = fit.within;
    sporks = omega (arith, lt);
    next_shred = omega (arith, ints, fit.next_shred);
  }

  -- a child is sporked on arguments that suit its function, or there are too many
  sporked_fine : (g : ℕ) (callee : Fun) (arguments : List Datum) (s : State)
      → slice_get code.funs g ≡ Some callee
      → Suit code.classes (shapes_of s.store) (params_of callee) arguments → IsFitState code start s
      → Fine (λ child. IsFitState code start child.state
      × (shapes_of s.store ≡ shapes_of child.state.store)) (sporked g arguments s)
  unfolding sporked
  sporked_fine g callee arguments s at suits state =
      child_where (nat_lt s.store.sporks MAX_SPORKS) (λ child. IsFitState code start child.state
      × (shapes_of s.store ≡ shapes_of child.state.store)) _ (λ e. (
        acted_state _ (Sporked s.store.next_shred g arguments) (grown_state s _ state (
          numbered_fits s.store state.store (ltb-true s.store.sporks MAX_SPORKS e),
          refl,
          kept_same (shapes_of s.store),
        )) (where_found (slice_get code.funs g) (λ fn.
            Suit code.classes (shapes_of s.store) (params_of fn) arguments) callee at suits),
        refl,
      ))

module _ (code : CodeParts) (verified : IsVerified code) (main : ℕ) (start : State) where
  abbrev typing : Typing
  typing = verified.typing

  abbrev classes : List Class
  classes = code.classes

  -- an instruction leads to what fits
  abbrev Good : Effect → Type 0
  Good e = IsFitEffect code typing main start e

  -- where a frame on top of others stands
  abbrev Stand : Fun → Places → (f : ℕ) → List Frame → Shapes → Type 0
  Stand = Standing code typing main

  -- what is known of a function of a verified code
  record Known (g : ℕ) (fn : Fun) : Type 0 where
    places : Places
    operands : slice_get typing.operands g ≡ Some places
    fun : IsFunVerified code typing g fn places

  -- each function is known
  known : (g : ℕ) (fn : Fun) → slice_get code.funs g ≡ Some fn → Known g fn
  known g fn at =
      let within : g < length typing.operands =
      omega (arith, slice_get_within code.funs g fn at, verified.same_places) in
      let p = get_within typing.operands g within in
      record { places = p.0; operands = p.1; fun = verified.funs g fn p.0 at p.1 }

  module _ (fn : Fun) (places : Places) (f : ℕ) (rest : List Frame) where
    -- the caller waits with what is beneath the value
    caller_waits : (g p : ℕ) (result : Kind) (kinds wanted : List Kind) (l beneath : List Datum)
        (shapes : Shapes) → Stand fn places f rest shapes
        → slice_get typing.results g ≡ Some result
        → FoundWhere (step_at code f p) (λ step. IsCall step.instr)
        → AreAt places (p + 1) wanted → AllStand classes (result ∷ kinds) wanted
        → Suit classes shapes kinds beneath → Suit classes shapes fn.locals l
        → IsCalling code typing shapes g (frame f (p + 1) l beneath)
    caller_waits g p result kinds [] l beneath shapes stands at called has stand held locals =
        absurd stand
    caller_waits g p result kinds (k
        ∷ wanted) l beneath shapes stands at called has stand held locals = record {
          call = p;
          after = refl;
          called = called;
          kind = k;
          kinds = wanted;
          asked = where_found (slice_get typing.operands f) (λ places.
              AreAt places (p + 1) (k ∷ wanted)) places stands.operands has;
          result = where_found (slice_get typing.results g) (λ r. Stands classes r k) result at
              stand.0;
          held = all_stand_suit classes shapes kinds wanted beneath stand.1 held;
          locals = where_found (slice_get code.funs f) (λ fn.
              Suit classes shapes fn.locals l) fn stands.fun locals;
        }

    -- a function begins, and the caller waits
    entered_fits : (g : ℕ) (callee : Fun) (result : Kind) (arguments : List Datum) (place : Place)
        (p : ℕ) (kinds : List Kind) (l beneath : List Datum) (s : State)
        → Stand fn places f rest (shapes_of s.store) → slice_get code.funs g ≡ Some callee
        → slice_get typing.results g ≡ Some result
        → FoundWhere (step_at code f p) (λ step. IsCall step.instr)
        → Suit classes (shapes_of s.store) (params_of callee) arguments
        → Finds classes places (p + 1) (result ∷ kinds)
        → Suit classes (shapes_of s.store) kinds beneath → Suit classes (shapes_of s.store) fn.locals l
        → IsFitState code start s → Good (entered callee g arguments place f p l beneath rest s)
    entered_fits g callee result arguments place p kinds l beneath s stands at at_result called
        suits finds held locals state =
        let know = known g callee at in
        let found = found_is (operands_at places (p + 1)) _ finds in
        good_try Good (λ s1. IsFitState code start s1
        × (s1.store ≡ s.store)) (turn_spent s) place s _ (spent_fine s.turns s refl state)
        (λ trap. state)
        (λ s1 state1.
        good_try Good (λ ok. suc (length rest) ≤ MAX_CALLS) (room_for_call (length rest)) place s1 _
        (room_fine (length rest)) (λ trap. state1.0) (λ ok few. (
          subst (λ store. AreFit code typing main (shapes_of store)
              (frame g 0 (first_locals callee.locals arguments) [] ∷ frame f (p + 1) l beneath
              ∷ rest)) (sym state1.1) (
                record {
                  kinds = [];
                  asked = where_found (slice_get typing.operands g) (λ places.
                      AreAt places 0 []) know.places know.operands know.fun.first;
                  held = tt;
                  locals = where_found (slice_get code.funs g) (λ fn.
                      Suit classes (shapes_of s.store) fn.locals
                      (first_locals callee.locals arguments)) callee at
                      (first_locals_suit classes (shapes_of s.store) callee.params callee.locals
                      arguments
                      know.fun.params know.fun.locals suits);
                },
                (
                  caller_waits g p result kinds found.0 l beneath (shapes_of s.store) stands at_result
                      called
                      found.1 found.2 held locals,
                  stands.beneath,
                ),
                few,
              ),
          state1.0,
        )))

    -- a function's arguments are taken
    taken_fits : (g : ℕ) (callee : Fun) (place : Place) (kinds : List Kind) (ops : List Datum)
        (s : State) (P : List Kind → Type 0) (go : Taken → Effect)
        → slice_get code.funs g ≡ Some callee → Suit classes (shapes_of s.store) kinds ops
        → IsFitState code start s → OnTop classes (reverse (params_of callee)) kinds P
        → ((t : Taken) (under : List Kind)
        → Suit classes (shapes_of s.store) (params_of callee) t.arguments → P under
        → Suit classes (shapes_of s.store) under t.beneath → Good (go t))
        → Good (tried (taken callee.params [] ops) place s go)
    taken_fits g callee place kinds ops s P go at held state top next =
        let count : length (params_of callee) ≡ callee.params =
        omega (
          arith,
          length-take callee.params callee.locals,
          (known g callee at).fun.params,
        ) in
        good_try Good _ (taken callee.params [] ops) place s _
        (arguments_fine classes (shapes_of s.store)
        (params_of callee) kinds ops callee.params _ count top held) (λ trap. state) (λ t suits.
        next t suits.1 suits.0 suits.2 suits.3)

    -- a call
    pub call_fits : (g p : ℕ) (place : Place) (kinds : List Kind) (l ops : List Datum) (s : State)
        (oc : Option Fun) → Stand fn places f rest (shapes_of s.store) → slice_get code.funs g ≡ oc
        → FoundWhere (step_at code f p) (λ step. IsCall step.instr)
        → Suit classes (shapes_of s.store) kinds ops → Suit classes (shapes_of s.store) fn.locals l
        → IsFitState code start s
        → FoundWhere oc (λ callee. FoundWhere (slice_get typing.results g) (λ result.
        OnTop classes (reverse (params_of callee)) kinds (λ beneath.
        Finds classes places (p + 1) (result ∷ beneath))))
        → Good (with_fun oc (λ callee. tried (taken callee.params [] ops) place s (λ t.
        entered callee g t.arguments place f p l t.beneath rest s)))
    call_fits g p place kinds l ops s None stands at called held locals state fits = fits
    call_fits g p place kinds l ops s (Some callee) stands at called held locals state fits =
        let r = found_is (slice_get typing.results g) _ fits in
        taken_fits g callee place kinds ops s _ _ at held state r.2 (λ t under suits finds suit.
        entered_fits g callee r.0 t.arguments place p under l t.beneath s stands at r.1 called suits
        finds suit locals state)

    -- a function that was found for an object
    found_fits : (oc : Option Fun) (callee : Fun) (count : ℕ) (go : Fun → Effect)
        → oc ≡ Some callee → count ≡ callee.params → Good (go callee)
        → Good (with_fun oc (λ fn. pick (nat_eq count fn.params) (go fn) Bad))
    found_fits oc callee count go at same good =
        subst (λ o. Good (with_fun o (λ fn. pick (nat_eq count fn.params) (go fn) Bad))) (sym at)
        (subst (λ b. Good (pick b (go callee) Bad)) (sym (eq-eqb count callee.params same)) good)

    -- the function in a slot is found for the deepest of its arguments
    slot_fits : (slot n : ℕ) (place : Place) (kinds : List Kind) (ops : List Datum) (s : State)
        (c : ℕ) (P : Kind → List Kind → Type 0)
        (go : Fun → (g : ℕ) → (arguments beneath : List Datum) → Effect)
        → Suit classes (shapes_of s.store) kinds ops → IsFitState code start s
        → HasSlot code typing c slot (λ callee result. (n ≡ callee.params)
        × OnTop classes (reverse (One (ClassElem c) ∷ drop 1 (params_of callee))) kinds
        (P result))
        → ((g : ℕ) (method : Fun) (result : Kind) (arguments beneath : List Datum)
        (under : List Kind) → slice_get code.funs g ≡ Some method
        → slice_get typing.results g ≡ Some result
        → Suit classes (shapes_of s.store) (params_of method) arguments → P result under
        → Suit classes (shapes_of s.store) under beneath → Good (go method g arguments beneath))
        → Good (tried (taken n [] ops) place s (λ t. on_top t.arguments (λ r others.
        tried (method_of classes s.store.objects r slot) place s (λ g.
        with_fun (slice_get code.funs g) (λ fn. pick (nat_eq (length (r ∷ others)) fn.params)
        (go fn g (r ∷ others) t.beneath) Bad)))))
    slot_fits slot n place kinds ops s c P go held state slots next =
        let has = slot_is code verified c slot _ slots in
        let others = drop 1 (params_of has.old) in
        good_try Good _ (taken n [] ops) place s _
        (arguments_fine classes (shapes_of s.store) (One (ClassElem c) ∷ others) kinds ops n _
        (has.count ∙ sym has.holds.0) has.holds.1 held) (λ trap. state) (λ t suits.
        good_top Good classes (shapes_of s.store)
        (λ j beneath. (j ≡ One (ClassElem c)) × (beneath ≡ others))
        (One (ClassElem c) ∷ others) t.arguments _ (refl, refl) suits.0
        (λ j beneath r rest_args is suits_r suits_others.
        good_try Good (IsMethod code verified (shapes_of s.store) r has.old has.result)
        (method_of classes s.store.objects r slot) place s _
        (method_fine code verified s.store.units s.store.objects r c slot _ has
        (subst (λ k. Suits classes (shapes_of s.store) k r) is.0 suits_r)) (λ trap. state) (λ h method.
        let args : Suit classes (shapes_of s.store) (params_of method.fn) (r ∷ rest_args) =
        subst (λ ks. Suit classes (shapes_of s.store) ks (r ∷ rest_args)) (sym method.params) (
          method.takes,
          subst (λ ks. Suit classes (shapes_of s.store) ks rest_args) (is.1 ∙ sym method.same)
              suits_others,
        ) in
        let full : length (params_of method.fn) ≡ method.fn.params =
        omega (
          arith,
          length-take method.fn.params method.fn.locals,
          (known h method.fn method.at).fun.params,
        ) in
        found_fits (slice_get code.funs h) method.fn (length (r ∷ rest_args))
        (λ fn. go fn h (r ∷ rest_args) t.beneath) method.at
        (sym (suit_length classes (shapes_of s.store) (params_of method.fn)
        (r ∷ rest_args) args) ∙ full)
        (next h method.fn has.result (r ∷ rest_args) t.beneath suits.1 method.at method.result_is
        args suits.2 suits.3))))

    -- on null there is none
    null_slot_fits : (slot m n : ℕ) (place : Place) (ops : List Datum) (s : State)
        (go : ℕ → Datum → (others beneath : List Datum) → Effect) → n ≡ suc m
        → FoundWhere (slice_get ops m) IsNull → IsFitState code start s
        → Good (tried (taken n [] ops) place s (λ t. on_top t.arguments (λ r others.
        tried (method_of classes s.store.objects r slot) place s (λ g.
        go g r others t.beneath))))
    null_slot_fits slot m n place ops s go count null state =
        let first = subst (λ n. Fine (λ (t : Taken). Headed t.arguments IsNull) (taken n [] ops))
        (sym count) (deepest_first m [] ops IsNull null) in
        good_try Good (λ t. Headed t.arguments IsNull) (taken n [] ops) place s _ first
        (λ trap. state) (λ t first.
        good_headed Good IsNull t.arguments _ first (λ r others is.
        good_trap Good (method_of classes s.store.objects r slot) place s _
        (method_traps s.store r is classes slot) (λ trap. state)))

    -- a call of the function in a slot
    pub virtual_fits : (slot n p : ℕ) (place : Place) (kinds : List Kind) (l ops : List Datum)
        (s : State) → Stand fn places f rest (shapes_of s.store)
        → FoundWhere (step_at code f p) (λ step. IsCall step.instr)
        → Suit classes (shapes_of s.store) kinds ops → Suit classes (shapes_of s.store) fn.locals l
        → IsFitState code start s → Fits code typing fn f places p (Virtual slot n) kinds
        → Good (tried (taken n [] ops) place s (λ t. on_top t.arguments (λ r others.
        tried (method_of classes s.store.objects r slot) place s (λ g.
        sent code g (r ∷ others) place f p l t.beneath rest s))))
    virtual_fits slot n p place kinds l ops s stands called held locals state fits =
        let receiver = found_is (slice_get ops fits.0) _
        (receiver_suits classes (shapes_of s.store) fits.0 kinds ops _ held fits.2) in
        null_or classes (shapes_of s.store) receiver.2.0 receiver.0 receiver.2.1 receiver.2.2 (λ null.
        null_slot_fits slot fits.0 n place ops s (λ g r others beneath.
        sent code g (r ∷ others) place f p l beneath rest s) fits.1
        (where_found (slice_get ops fits.0) IsNull receiver.0 receiver.1 null) state) (λ slots.
        slot_fits slot n place kinds ops s slots.0 _ (λ callee g arguments beneath.
        entered callee g arguments place f p l beneath rest s) held state slots.1
        (λ g callee result arguments beneath under at at_result suits finds suit.
        entered_fits g callee result arguments place p under l beneath s stands at at_result called
        suits finds suit locals state))

    -- a child is sporked
    child_fits : (g : ℕ) (callee : Fun) (arguments : List Datum) (place : Place) (p : ℕ)
        (kinds : List Kind) (l beneath : List Datum) (s : State)
        → Stand fn places f rest (shapes_of s.store) → slice_get code.funs g ≡ Some callee
        → Suit classes (shapes_of s.store) (params_of callee) arguments
        → Finds classes places (p + 1) (One ShredElem ∷ kinds)
        → Suit classes (shapes_of s.store) kinds beneath → Suit classes (shapes_of s.store) fn.locals l
        → IsFitState code start s → Good (sporks_child place g arguments f p l beneath rest s)
    child_fits g callee arguments place p kinds l beneath s stands at suits finds held locals
        state =
        good_try Good (λ s1. IsFitState code start s1
        × (s1.store ≡ s.store)) (turn_spent s) place s _ (spent_fine s.turns s refl state)
        (λ trap. state)
        (λ s1 state1.
        let same : s.store ≡ s1.store = sym state1.1 in
        good_try Good (λ child. IsFitState code start child.state
        × (shapes_of s1.store ≡ shapes_of child.state.store)) (sporked g arguments s1) place s1 _
        (sporked_fine code start g callee arguments s1 at (subst (λ store.
        Suit classes (shapes_of store) (params_of callee) arguments) same suits) state1.0)
        (λ trap. state1.0) (λ child fit.
        let kept : shapes_of s.store ≡ shapes_of child.state.store =
        ap shapes_of same ∙ fit.1 in
        next_fits fn places f rest (p + 1) (One ShredElem ∷ kinds) l
        (AShred child.number ∷ beneath) child.state (subst (Stand fn places f rest) kept stands)
        finds (tt, subst (λ shapes. Suit classes shapes kinds beneath) kept held)
        (subst (λ shapes. Suit classes shapes fn.locals l) kept locals) fit.0))

    -- a spork of a function
    pub spork_fits : (g p : ℕ) (place : Place) (kinds : List Kind) (l ops : List Datum) (s : State)
        (oc : Option Fun) → Stand fn places f rest (shapes_of s.store) → slice_get code.funs g ≡ oc
        → Suit classes (shapes_of s.store) kinds ops → Suit classes (shapes_of s.store) fn.locals l
        → IsFitState code start s
        → FoundWhere oc (λ callee. OnTop classes (reverse (params_of callee)) kinds (λ beneath.
        Finds classes places (p + 1) (One ShredElem ∷ beneath)))
        → Good (with_fun oc (λ callee. tried (taken callee.params [] ops) place s (λ t.
        sporks_child place g t.arguments f p l t.beneath rest s)))
    spork_fits g p place kinds l ops s None stands at held locals state fits = fits
    spork_fits g p place kinds l ops s (Some callee) stands at held locals state fits =
        taken_fits g callee place kinds ops s _ _ at held state fits (λ t under suits finds suit.
        child_fits g callee t.arguments place p under l t.beneath s stands at suits finds suit
        locals state)

    -- a spork of the function in a slot
    pub spork_virtual_fits : (slot n p : ℕ) (place : Place) (kinds : List Kind)
        (l ops : List Datum) (s : State) → Stand fn places f rest (shapes_of s.store)
        → Suit classes (shapes_of s.store) kinds ops → Suit classes (shapes_of s.store) fn.locals l
        → IsFitState code start s → Fits code typing fn f places p (SporkVirtual slot n) kinds
        → Good (tried (taken n [] ops) place s (λ t. on_top t.arguments (λ r others.
        tried (method_of classes s.store.objects r slot) place s (λ g.
        sporks_found code place g (r ∷ others) f p l t.beneath rest s))))
    spork_virtual_fits slot n p place kinds l ops s stands held locals state fits =
        let receiver = found_is (slice_get ops fits.0) _
        (receiver_suits classes (shapes_of s.store) fits.0 kinds ops _ held fits.2) in
        null_or classes (shapes_of s.store) receiver.2.0 receiver.0 receiver.2.1 receiver.2.2 (λ null.
        null_slot_fits slot fits.0 n place ops s (λ g r others beneath.
        sporks_found code place g (r ∷ others) f p l beneath rest s) fits.1
        (where_found (slice_get ops fits.0) IsNull receiver.0 receiver.1 null) state) (λ slots.
        slot_fits slot n place kinds ops s slots.0 _ (λ callee g arguments beneath.
        sporks_child place g arguments f p l beneath rest s) held state slots.1
        (λ g callee result arguments beneath under at at_result suits finds suit.
        child_fits g callee arguments place p under l beneath s stands at suits finds suit
        locals state))
