-- Shreds that begin.
use Rattle.std.proofs.Common.{◌≡◌, ℕ, ◌<◌, List, [], ◌∷◌, length, Option, Some, None, slice_get, All, arith, refl, sym, ap, ◌∙◌, subst}
use Rattle.std.proofs.lemmas.List.{length-map, length-take-le}
use Rattle.std.proofs.lemmas.List.Elements.{All-nil, All-head, All-tail}
use Rattle.std.proofs.lemmas.Option.{slice_get_within}
use Rattle.ck_values.specs.declared.value.Value.{Value}
use Rattle.ck_values.specs.Datum.{Datum, meant, all_meant, first_locals}
use Rattle.ck_code.specs.declared.code.CodeParts.{CodeParts}
use Rattle.ck_code.specs.declared.code.Fun.{Fun}
use Rattle.ck_code.specs.Fitting.{Suit, IsFitAct, IsFitState, IsFitHalt}
use Rattle.ck_code.specs.Machine.{Frame, frame, Halt, Ended, Waits, Broke, Unfinished, Stuck, stopped_at, slice_on, begun_on, enough}
use Rattle.ck_code.specs.Verified.{params_of, IsVerified}
use Rattle.ck_code.proofs.Runs.{slice_fits}
use Rattle.ck_code.proofs.Standing.{found_is}
use Rattle.ck_code.proofs.Suiting.{suit_length}
use Rattle.ck_code.proofs.Tables.{get_within}
use Rattle.ck_store.specs.Steps.{fresh, resumed}
use Rattle.ck_store.specs.Store.{Store, State, Act, Printed, Sporked, WokeOne, WokeAll, Removed, Shapes, shapes_of}
use Rattle.ck_meaning.specs.Replay.{Stopped, slice_with, first_frames, beginning, by_code}
use Rattle.ck_run.specs.Run.{Shred}
use Rattle.ck_run.specs.Sound.{AllSporks}
use Rattle.ck_typed.specs.WellFormed.{FoundWhere}
use Rattle.run_laws.specs.FitRuns.{IsRunStore, IsFitShred}
use Rattle.shred_state.specs.Frames.{Standing, new_shred}
use Rattle.machine_world.specs.Shown.{shown, frames_of, kinds_of}
use Rattle.machine_world.proofs.Begins.{newly_meant}
use Rattle.chuck_vm.specs.Machine.{shred_of}
use Rattle.chuck_vm.specs.Telling.{CanBegin}

first_is : (P : Fun → Type 0) (o : Option Fun) (f : ℕ) (vs : List Datum) → FoundWhere o P
    → frame f 0 (first_locals (kinds_of o) vs) [] ∷ [] ≡ first_frames o f vs
first_is P None f vs found = absurd found
first_is P (Some fn) f vs found = refl

-- a shred that was made for a function stands where the function begins
pub begun_shred : (code : CodeParts) (shred : Standing) (number parent f : ℕ) (args : List Value)
    → CanBegin code f (all_meant args)
    → shred ≡ new_shred number parent f (kinds_of (slice_get code.funs f)) args
    → shred_of code shred ≡ record {
      number = number;
      parent = parent;
      progress =
          beginning code f (all_meant args);
    }
unfolding fresh
begun_shred code shred number parent f args can is =
    let R : (frames : List Frame) → Standing → Shred Stopped =
    λ frames s. record {
      number = s.number;
      parent = s.parent;
      progress =
          record { frames = frames; turns = s.turns; last = s.last; place = stopped_at code frames };
    } in
    let new = new_shred number parent f (kinds_of (slice_get code.funs f)) args in
    ap (R (frames_of (shown shred))) is
    ∙ ap (λ v. R (frames_of v) new)
    (ap shown is ∙ newly_meant number parent f (kinds_of (slice_get code.funs f)) args)
    ∙ ap (λ frames. R frames new)
    (first_is (λ fn. fn.params ≡ length (all_meant args)) (slice_get code.funs f) f (all_meant args) can)

made_of : (o : Option Fun) (args : List Value) → FoundWhere o (λ fn. fn.params ≡ length (all_meant args))
    → FoundWhere o (λ fn. fn.params ≡ length args)
made_of None args can = can
made_of (Some fn) args can = can ∙ length-map args meant

pub can_make : (code : CodeParts) (f : ℕ) (args : List Value) → CanBegin code f (all_meant args)
    → FoundWhere (slice_get code.funs f) (λ fn. fn.params ≡ length args)
can_make code f args can = made_of (slice_get code.funs f) args can

module _ (code : CodeParts) (verified : IsVerified code) where
  -- a child of which the arguments suit can begin
  suits_can : (shapes : Shapes) (f : ℕ) (arguments : List Datum)
      → FoundWhere (slice_get code.funs f) (λ fn. Suit code.classes shapes (params_of fn) arguments)
      → CanBegin code f arguments
  suits_can shapes f arguments suits =
      let found = found_is (slice_get code.funs f) _ suits in
      let fn = found.0 in
      let within : f < length verified.typing.operands =
      omega (arith, slice_get_within code.funs f fn found.1, verified.same_places) in
      let places = get_within verified.typing.operands f within in
      let few = (verified.funs f fn places.0 found.1 places.1).params in
      subst (λ o. FoundWhere o (λ fn. fn.params ≡ length arguments)) (sym found.1)
      (sym (length-take-le fn.params fn.locals few)
      ∙ suit_length code.classes shapes (params_of fn) arguments found.2)

  acts_can : (shapes : Shapes) (acts : List Act) → All (IsFitAct code shapes) acts
      → AllSporks (CanBegin code) acts
  acts_can shapes [] all = tt
  acts_can shapes (Sporked number f arguments ∷ acts) all = (
    suits_can shapes f arguments (All-head (IsFitAct code shapes) _ acts all),
    acts_can shapes acts (All-tail (IsFitAct code shapes) _ acts all),
  )
  acts_can shapes (Printed line ∷ acts) all =
      acts_can shapes acts (All-tail (IsFitAct code shapes) _ acts all)
  acts_can shapes (WokeOne event ∷ acts) all =
      acts_can shapes acts (All-tail (IsFitAct code shapes) _ acts all)
  acts_can shapes (WokeAll event ∷ acts) all =
      acts_can shapes acts (All-tail (IsFitAct code shapes) _ acts all)
  acts_can shapes (Removed number ∷ acts) all =
      acts_can shapes acts (All-tail (IsFitAct code shapes) _ acts all)

  module _ (b main : ℕ) (p : Stopped) (before : Store) where
    abbrev start : State
    start = resumed p.last p.turns before

    state_can : (s : State) → IsFitState code start s → AllSporks (CanBegin code) s.acts
    state_can s fit = acts_can (shapes_of s.store) s.acts (fit.acts (All-nil (IsFitAct code (shapes_of start.store))))

    halt_can : (h : Halt) → IsFitHalt code verified.typing main start h
        → AllSporks (CanBegin code) (slice_with b p before h).acts
    halt_can (Ended v s) fit = state_can s fit.1
    halt_can (Waits q place frames s) fit = state_can s fit.state
    halt_can (Broke trap place s) fit = state_can s fit
    halt_can Unfinished fit = tt
    halt_can Stuck fit = tt

  -- what a slice sporks can begin
  pub slice_can : (n : ℕ) (p : Stopped) (before : Store) → IsRunStore code before
      → IsFitShred code verified.typing before p
      → AllSporks (CanBegin code) ((by_code code).slice n p before).acts
  slice_can n p before store fits =
      halt_can (begun_on code n (enough code) p.last p.turns p.frames before) fits.main p before
      (slice_on code n (enough code) p.place p.last p.turns p.frames before)
      (slice_fits code verified fits.main n (enough code) p.place p.last p.turns p.frames before fits.frames
      store.fits)
