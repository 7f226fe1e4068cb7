-- The slices of a shred of a verified code, one after another.
use Rattle.std.proofs.Common.{◌≡◌, ℕ, zero, suc, ◌<◌, ◌≤◌, ℤ, Bool, true, false, List, [], ◌∷◌, ◌++◌, length, Some, refl, sym, subst, arith, slice_get, int_lt}
use Rattle.std.proofs.lemmas.Int.{ints}
use Rattle.std.proofs.lemmas.List.Elements.{All-nil}
use Rattle.std.proofs.lemmas.Option.{slice_get_within}
use Rattle.ck_base.specs.declared.limits.TheConstants.{FRESH_TURNS, MAX_FILES}
use Rattle.ck_values.specs.declared.trap.Place.{Place}
use Rattle.ck_values.specs.Datum.{Datum, first_locals}
use Rattle.ck_store.specs.Store.{Object, UnitGenerator, Store, State, Request, At, On, End, Try, Gives, Fails, Misfit, first_objects, first_store, Shapes, shapes_of}
use Rattle.ck_store.specs.Steps.{fresh, pick, spent_from, turn_spent, resumed, where_it_goes_on}
use Rattle.ck_typed.specs.declared.class.Class.{Class}
use Rattle.ck_code.specs.declared.code.Fun.{Fun}
use Rattle.ck_code.specs.declared.code.CodeParts.{CodeParts}
use Rattle.ck_code.specs.Machine.{Frame, frame, Halt, Ended, Waits, Broke, Unfinished, Stuck, exec, with_turn, slice_on, slices, code_run, enough}
use Rattle.ck_code.specs.Verified.{AreAt, params_of, IsVerified}
use Rattle.ck_code.specs.Fitting.{Suit, IsFitObject, IsFitStore, AreFit, IsFitState, IsFitHalt, ComesAfter, WhereItGoesOn, FollowOneAnother}
use Rattle.ck_code.proofs.Standing.{where_found, kept_same}
use Rattle.ck_code.proofs.Suiting.{Fine, first_all, first_locals_suit}
use Rattle.ck_code.proofs.Tables.{get_within}
use Rattle.ck_code.proofs.Frames.{spent_fine, frames_kept, where_goes}
use Rattle.ck_code.proofs.Fit.{exec_fits}
use Rattle.ck_code.proofs.Ends.{slice_ends}

first_fit : (classes : List Class) (shapes : Shapes) (n : ℕ) (o : Object)
    → slice_get first_objects n ≡ Some o → IsFitObject classes shapes o
first_fit classes shapes zero (UnitGenerator place) e = tt
first_fit classes shapes (suc zero) (UnitGenerator place) e = tt
first_fit classes shapes (suc (suc n)) o e = absurd (cc)
first_fit classes shapes n o e = absurd (cc)

-- a run begins with a store that fits
pub first_store_fits : (code : CodeParts) (files : ℕ) → IsVerified code → files ≤ MAX_FILES
    → IsFitStore code (first_store files code.statics)
first_store_fits code files verified few = record {
  objects = record { each = first_fit code.classes (shapes_of (first_store files code.statics)) };
  statics =
      first_all code.classes (shapes_of (first_store files code.statics)) code.statics verified.statics;
  graph = record {
    output = refl;
    hole = refl;
    within = All-nil _;
  };
  begun = omega arith;
  within = omega arith;
  sporks = omega arith;
  next_shred = omega (arith, ints, few);
}

-- a shred begins with frames that fit
pub first_frames_fit : (code : CodeParts) (verified : IsVerified code) (main : ℕ) (fn : Fun)
    (shapes : Shapes) (arguments : List Datum) → slice_get code.funs main ≡ Some fn
    → Suit code.classes shapes (params_of fn) arguments
    → AreFit code verified.typing main shapes (frame main 0 (first_locals fn.locals arguments) []
    ∷ [])
first_frames_fit code verified main fn shapes arguments at suit =
    let within : main < length verified.typing.operands =
    omega (arith, slice_get_within code.funs main fn at, verified.same_places) in
    let places = get_within verified.typing.operands main within in
    let fun = verified.funs main fn places.0 at places.1 in (
      record {
        kinds = [];
        asked = where_found (slice_get verified.typing.operands main) (λ places.
            AreAt places 0 []) places.0 places.1 fun.first;
        held = tt;
        locals = where_found (slice_get code.funs main) (λ callee.
            Suit code.classes shapes callee.locals (first_locals fn.locals arguments)) fn at
            (first_locals_suit code.classes shapes fn.params fn.locals arguments fun.params
            fun.locals suit);
      },
      refl,
      omega arith,
    )

-- no more turns than the fresh ones
resumed_few : (b : Bool) (turns : ℕ) → turns ≤ FRESH_TURNS → pick b fresh turns ≤ FRESH_TURNS
unfolding fresh
resumed_few true turns le = omega arith
resumed_few false turns le = le

-- what holds where a shred doesn't go on, and where it does, holds after its request
pub after_request : {A : Type 0} (P : A → Type 0) (Q : Type 0) (q : Request) (ended next : A)
    → P ended → (Q → P next) → WhereItGoesOn q Q → P (where_it_goes_on q ended next)
after_request P Q (At time) ended next h more goes = more goes
after_request P Q (On event) ended next h more goes = more goes
after_request P Q End ended next h more goes = h

-- two things hold where it goes on
pub where_both : (q : Request) (P Q : Type 0) → WhereItGoesOn q P → WhereItGoesOn q Q
    → WhereItGoesOn q (P × Q)
where_both (At time) P Q h g = (h, g)
where_both (On event) P Q h g = (h, g)
where_both End P Q h g = tt

-- something else holds too where it goes on
pub goes_more : {A : Type 0} (P Q : Type 0) (q : Request) (ended next wanted : A)
    → where_it_goes_on q ended next ≡ wanted → (next ≡ wanted → P → Q) → WhereItGoesOn q P
    → WhereItGoesOn q Q
goes_more P Q (At time) ended next wanted e more h = more e h
goes_more P Q (On event) ended next wanted e more h = more e h
goes_more P Q End ended next wanted e more h = tt

module _ (code : CodeParts) (verified : IsVerified code) (main shred : ℕ) where
  -- a state is where its slice begins
  pub begins_here : (s : State) → IsFitStore code s.store → IsFitState code s s
  begins_here s fit =
      record {
        store = fit;
        time = refl;
        turns = omega arith;
        acts = λ all. all;
        kept = kept_same (shapes_of s.store);
      }

  -- a slice that spends its turn first
  turn_then_fits : (k : ℕ) (place : Place) (frames : List Frame) (s : State) (t : Try State)
      → AreFit code verified.typing main (shapes_of s.store) frames → IsFitState code s s
      → Fine (λ s1. IsFitState code s s1 × (s1.store ≡ s.store)) t
      → IsFitHalt code verified.typing main s (with_turn t place s (exec code shred k frames))
  turn_then_fits k place frames s (Gives s1) fits state fine =
      exec_fits code verified main s shred k frames s1
      (subst (λ store. AreFit code verified.typing main (shapes_of store) frames)
      (sym fine.1) fits) fine.0
  turn_then_fits k place frames s (Fails trap) fits state fine = state
  turn_then_fits k place frames s Misfit fits state fine = fine

  -- a slice on a store beside whose objects the frames fit
  pub slice_fits : (k : ℕ) (place : Place) (last : ℤ) (turns : ℕ) (frames : List Frame)
      (store : Store)
      → AreFit code verified.typing main (shapes_of store) frames → IsFitStore code store
      → IsFitHalt code verified.typing main (resumed last turns store)
      (slice_on code shred k place last turns frames store)
  slice_fits k place last turns frames store fits fit =
      let s = resumed last turns store in
      let state = begins_here s fit in
      turn_then_fits k place frames s (turn_spent s) fits state
      (spent_fine s.turns s refl state)

  -- a slice on a store that comes after the one with which the frames fit
  pub slice_on_fits : (k : ℕ) (place : Place) (before : Store) (turns : ℕ) (frames : List Frame)
      (store : Store)
      → AreFit code verified.typing main (shapes_of before) frames → ComesAfter code before store
      → IsFitHalt code verified.typing main (resumed before.now turns store)
      (slice_on code shred k place before.now turns frames store)
  slice_on_fits k place before turns frames store fits comes =
      let s = resumed before.now turns store in
      slice_fits k place before.now turns frames store
      (frames_kept code verified.typing main (shapes_of before) (shapes_of store) comes.kept frames fits)
      comes.fits

  -- frames that wait fit with their store, and a slice is not stuck
  abbrev pub KeepsFrames : Halt → Type 0
  KeepsFrames (Waits q place frames s) =
      WhereItGoesOn q (AreFit code verified.typing main (shapes_of s.store) frames)
  KeepsFrames (Ended v s) = Unit {0}
  KeepsFrames (Broke trap place s) = Unit {0}
  KeepsFrames Unfinished = Unit {0}
  KeepsFrames Stuck = ⊥

  -- what fits keeps them
  pub keeps_frames : (start : State) (h : Halt) → IsFitHalt code verified.typing main start h
      → KeepsFrames h
  keeps_frames start (Waits q place frames s) fits = fits.frames_fit
  keeps_frames start (Ended v s) fits = tt
  keeps_frames start (Broke trap place s) fits = tt
  keeps_frames start Unfinished fits = tt
  keeps_frames start Stuck fits = fits

  -- slice after slice is not stuck
  slices_fit : (k : ℕ) (h : Halt) (stores : List Store) → KeepsFrames h
      → FollowOneAnother code shred k h stores → slices code shred k h stores ≡ Stuck → ⊥
  slices_fit k (Waits q place frames s) [] fits follow = λ e. cc
  slices_fit k (Waits q place frames s) (store ∷ stores) fits follow =
      after_request (λ h. h ≡ Stuck → ⊥) _ q (Waits q place frames s) _ (λ e. cc) (λ both.
      let halt = slice_on_fits k place s.store s.turns frames store both.0 both.1.0 in
      slices_fit k (slice_on code shred k place s.store.now s.turns frames store) stores
      (keeps_frames (resumed s.store.now s.turns store) _ halt) both.1.1)
      (where_both q _ _ fits follow)
  slices_fit k (Ended v s) stores fits follow = λ e. cc
  slices_fit k (Broke trap place s) stores fits follow = λ e. cc
  slices_fit k Unfinished stores fits follow = λ e. cc
  slices_fit k Stuck stores fits follow = absurd fits

  -- a shred is not stuck, on stores that follow one another
  pub code_run_fits : (k : ℕ) (frames : List Frame) (s : State) (stores : List Store)
      → AreFit code verified.typing main (shapes_of s.store) frames → IsFitStore code s.store
      → FollowOneAnother code shred k (exec code shred k frames s) stores
      → code_run code shred k frames s stores ≡ Stuck → ⊥
  code_run_fits k frames s stores fits fit follow =
      slices_fit k (exec code shred k frames s) stores
      (keeps_frames s _ (exec_fits code verified main s shred k frames s fits
      (begins_here s fit))) follow

  -- slice after slice, frames that wait fit with the store that the last slice left
  pub slices_keep : (k : ℕ) (h : Halt) (stores : List Store) → KeepsFrames h
      → FollowOneAnother code shred k h stores → KeepsFrames (slices code shred k h stores)
  slices_keep k (Waits q place frames s) [] fits follow = fits
  slices_keep k (Waits q place frames s) (store ∷ stores) fits follow =
      after_request KeepsFrames _ q (Waits q place frames s) _ fits (λ both.
      let halt = slice_on_fits k place s.store s.turns frames store both.0 both.1.0 in
      slices_keep k (slice_on code shred k place s.store.now s.turns frames store) stores
      (keeps_frames (resumed s.store.now s.turns store) _ halt) both.1.1)
      (where_both q _ _ fits follow)
  slices_keep k (Ended v s) stores fits follow = fits
  slices_keep k (Broke trap place s) stores fits follow = fits
  slices_keep k Unfinished stores fits follow = fits
  slices_keep k Stuck stores fits follow = fits

  follow_none : (k : ℕ) (h : Halt) → FollowOneAnother code shred k h []
  follow_none k (Waits q place frames s) = tt
  follow_none k (Ended v s) = tt
  follow_none k (Broke trap place s) = tt
  follow_none k Unfinished = tt
  follow_none k Stuck = tt

  -- one more store follows, where it comes after the one that the last slice left
  pub follow_more : (k : ℕ) (h : Halt) (stores : List Store) (q : Request) (place : Place)
      (frames : List Frame) (s : State) (store : Store) → FollowOneAnother code shred k h stores
      → slices code shred k h stores ≡ Waits q place frames s → ComesAfter code s.store store
      → FollowOneAnother code shred k h (stores ++ store ∷ [])
  follow_more k (Waits q0 place0 frames0 s0) [] q place frames s store follow e comes =
      let same : s ≡ s0 = cc in
      where_goes q0 _ (
        subst (λ s. ComesAfter code s.store store) same comes,
        follow_none k (slice_on code shred k place0 s0.store.now s0.turns frames0 store),
      )
  follow_more k (Waits q0 place0 frames0 s0) (x ∷ stores) q place frames s store follow e comes =
      goes_more _ _ q0 (Waits q0 place0 frames0 s0) _ (Waits q place frames s) e (λ e1 follows. (
        follows.0,
        follow_more k
            (slice_on code shred k place0 s0.store.now s0.turns frames0 x) stores q place frames s
            store follows.1 e1 comes,
      )) follow
  follow_more k (Ended v s0) stores q place frames s store follow e comes = absurd (cc)
  follow_more k (Broke trap place0 s0) stores q place frames s store follow e comes = absurd (cc)
  follow_more k Unfinished stores q place frames s store follow e comes = absurd (cc)
  follow_more k Stuck stores q place frames s store follow e comes = absurd (cc)

  -- a slice that spends its turn first ends
  turn_then_ends : (place : Place) (frames : List Frame) (turns : ℕ) (s : State)
      → AreFit code verified.typing main (shapes_of s.store) frames → turns ≤ FRESH_TURNS
      → with_turn (spent_from turns s) place s (exec code shred (enough code) frames) ≡ Unfinished
      → ⊥
  turn_then_ends place frames zero s fits le = λ e. cc
  turn_then_ends place frames (suc turns) s fits le =
      slice_ends code verified main shred frames (record s { turns = turns }) fits (omega (
        arith,
        le,
      ))

  -- a slice on a store beside whose objects the frames fit ends
  pub slice_is_over : (place : Place) (last : ℤ) (turns : ℕ) (frames : List Frame) (store : Store)
      → AreFit code verified.typing main (shapes_of store) frames → turns ≤ FRESH_TURNS
      → slice_on code shred (enough code) place last turns frames store ≡ Unfinished → ⊥
  slice_is_over place last turns frames store fits le =
      let s = resumed last turns store in
      turn_then_ends place frames s.turns s fits (resumed_few (int_lt last store.now) turns le)

  -- so does one on a store that comes after
  slice_on_ends : (place : Place) (before : Store) (turns : ℕ) (frames : List Frame) (store : Store)
      → AreFit code verified.typing main (shapes_of before) frames → ComesAfter code before store
      → turns ≤ FRESH_TURNS
      → slice_on code shred (enough code) place before.now turns frames store ≡ Unfinished → ⊥
  slice_on_ends place before turns frames store fits comes le =
      let s = resumed before.now turns store in
      slice_is_over place before.now turns frames store
      (frames_kept code verified.typing main (shapes_of before) (shapes_of store) comes.kept frames fits) le

  -- no more turns are left after a slice than this
  abbrev HasLeft : ℕ → Halt → Type 0
  HasLeft most (Waits q place frames s) =
      WhereItGoesOn q (AreFit code verified.typing main (shapes_of s.store) frames) × (s.turns ≤ most)
  HasLeft most (Ended v s) = Unit {0}
  HasLeft most (Broke trap place s) = Unit {0}
  HasLeft most Unfinished = Unit {0}
  HasLeft most Stuck = ⊥

  -- what fits has left no more turns than there were
  left_from : (start : State) (most : ℕ) (h : Halt) → start.turns ≤ most
      → IsFitHalt code verified.typing main start h → HasLeft most h
  left_from start most (Waits q place frames s) le fits =
      (fits.frames_fit, omega (arith, fits.state.turns, le))
  left_from start most (Ended v s) le fits = tt
  left_from start most (Broke trap place s) le fits = tt
  left_from start most Unfinished le fits = tt
  left_from start most Stuck le fits = fits

  -- each slice after another ends
  slices_done : (h : Halt) (stores : List Store) → HasLeft FRESH_TURNS h → (h ≡ Unfinished → ⊥)
      → FollowOneAnother code shred (enough code) h stores
      → slices code shred (enough code) h stores ≡ Unfinished → ⊥
  slices_done (Waits q place frames s) [] fits ends follow = λ e. cc
  slices_done (Waits q place frames s) (store ∷ stores) fits ends follow =
      after_request (λ h. h ≡ Unfinished → ⊥) _ q (Waits q place frames s) _ (λ e. cc) (λ both.
      let next = resumed s.store.now s.turns store in
      let halt = slice_on_fits (enough code) place s.store s.turns frames store both.0 both.1.0 in
      slices_done (slice_on code shred (enough code) place s.store.now s.turns frames store) stores
      (left_from next FRESH_TURNS _ (resumed_few
      (int_lt s.store.now store.now) s.turns fits.1) halt)
      (slice_on_ends place s.store s.turns frames store both.0 both.1.0 fits.1) both.1.1)
      (where_both q _ _ fits.0 follow)
  slices_done (Ended v s) stores fits ends follow = λ e. cc
  slices_done (Broke trap place s) stores fits ends follow = λ e. cc
  slices_done Unfinished stores fits ends follow = absurd (ends refl)
  slices_done Stuck stores fits ends follow = λ e. cc

  -- a shred's slices end
  pub code_run_ends : (frames : List Frame) (s : State) (stores : List Store)
      → AreFit code verified.typing main (shapes_of s.store) frames → s.turns < FRESH_TURNS
      → IsFitStore code s.store → FollowOneAnother code shred (enough code)
      (exec code shred (enough code) frames s) stores
      → code_run code shred (enough code) frames s stores ≡ Unfinished → ⊥
  code_run_ends frames s stores fits few fit follow =
      let halt =
      exec_fits code verified main s shred (enough code) frames s fits (begins_here s fit) in
      slices_done (exec code shred (enough code) frames s) stores
      (left_from s FRESH_TURNS _ (omega arith) halt)
      (slice_ends code verified main shred frames s fits few) follow
