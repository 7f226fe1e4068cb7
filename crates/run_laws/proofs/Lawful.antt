-- The runs of a verified code are lawful: what fits goes on to fit, slice by slice.
use Rattle.std.proofs.Common.{◌≡◌, ℕ, ◌≤◌, ◌≤ℤ◌, List, [], ◌∷◌, All, length, take, refl, sym, subst, arith, slice_get}
use Rattle.std.proofs.lemmas.Int.{ints}
use Rattle.std.proofs.lemmas.List.Elements.{All-nil, All-head, All-tail, All-weaker}
use Rattle.ck_base.specs.declared.limits.TheConstants.{MAX_FILES, MAX_SAMPLES}
use Rattle.ck_values.specs.Datum.{Datum}
use Rattle.ck_store.specs.Store.{Keeps, Store, State, Act, Printed, Sporked, WokeOne, WokeAll, Removed, Request, At, On, End, first_store, Shapes, shapes_of}
use Rattle.ck_store.specs.Steps.{resumed, ticked}
use Rattle.ck_store.specs.Graph.{sounded}
use Rattle.ck_typed.specs.WellFormed.{FoundWhere}
use Rattle.ck_code.specs.declared.code.Fun.{Fun}
use Rattle.ck_code.specs.declared.code.CodeParts.{CodeParts}
use Rattle.ck_code.specs.Machine.{Halt, Ended, Waits, Broke, Unfinished, Stuck, slice_on, begun_on, enough}
use Rattle.ck_code.specs.Verified.{Typing, params_of, IsVerified}
use Rattle.ck_code.specs.Fitting.{Suit, IsFitStore, AreFit, IsFitAct, IsFitState, IsFitHalt, WhereItGoesOn}
use Rattle.ck_code.proofs.Standing.{found_is, found_more, kept_same}
use Rattle.ck_code.proofs.Frames.{frames_kept}
use Rattle.ck_code.proofs.Runs.{first_store_fits, first_frames_fit, slice_fits}
use Rattle.ck_run.specs.Run.{Stop, Asked, Trapped}
use Rattle.ck_run.specs.Sound.{AllSporks, Goes, IsKept, IsLawful, BeginsFit}
use Rattle.ck_run.proofs.Settling.{StandsAt, run_stands}
use Rattle.ck_meaning.specs.Replay.{Stopped, waiting, slice_left, slice_wrong, slice_with, first_frames, beginning, by_code, run_code}
use Rattle.run_laws.specs.FitRuns.{turns_at, IsRunStore, IsFitShred}
use Rattle.run_laws.proofs.RunStores.{cut_fits, sample_fits, sample_keeps}
use Rattle.run_laws.proofs.Counted.{few_fresh, few_turns, IsCounted, HasFewTurns, slice_counted}

-- what holds where a shred goes on holds where it is asked to
it_goes : (q : Request) (P : Type 0) → Goes (Asked q) → WhereItGoesOn q P → P
it_goes (At time) P goes h = h
it_goes (On event) P goes h = h
it_goes End P goes h = absurd goes

module _ (code : CodeParts) (verified : IsVerified code) where
  abbrev typing : Typing
  typing = verified.typing

  -- a shred of a run, beside a store
  abbrev pub Fits : Store → Stopped → Type 0
  Fits store p = IsFitShred code typing store p

  -- it fits beside each store that comes later with all its objects
  fits_kept : (before after : Store) (p : Stopped) → Keeps (shapes_of before) (shapes_of after)
      → before.now ≤ℤ after.now → Fits before p → Fits after p
  fits_kept before after p kept later fits = record {
    main = fits.main;
    frames = frames_kept code typing fits.main (shapes_of before) (shapes_of after) kept p.frames
        fits.frames;
    turns = fits.turns;
    last = omega (arith, ints, fits.last, later);
  }

  -- a shred begins with arguments that suit its function
  begin_fits : (store : Store) (f : ℕ) (arguments : List Datum) → IsFitStore code store
      → FoundWhere (slice_get code.funs f) (λ fn.
      Suit code.classes (shapes_of store) (params_of fn) arguments)
      → Fits store (beginning code f arguments)
  begin_fits store f arguments fit suits =
      let found = found_is (slice_get code.funs f) _ suits in
      record {
        main = f;
        frames = subst (λ o. AreFit code typing f (shapes_of store) (first_frames o f arguments))
            (sym found.1)
            (first_frames_fit code verified f found.0 (shapes_of store) arguments found.1 found.2);
        turns = few_fresh;
        last = omega (arith, ints, fit.begun);
      }

  -- so do the children that acts spork
  children_fit : (store : Store) (acts : List Act) → IsFitStore code store
      → All (IsFitAct code (shapes_of store)) acts
      → AllSporks (λ f arguments. Fits store (beginning code f arguments)) acts
  children_fit store [] fit all = tt
  children_fit store (Sporked number f arguments ∷ acts) fit all = (
    begin_fits store f arguments fit (All-head (IsFitAct code (shapes_of store)) _ acts all),
    children_fit store acts fit (All-tail (IsFitAct code (shapes_of store)) _ acts all),
  )
  children_fit store (Printed line ∷ acts) fit all =
      children_fit store acts fit (All-tail (IsFitAct code (shapes_of store)) _ acts all)
  children_fit store (WokeOne event ∷ acts) fit all =
      children_fit store acts fit (All-tail (IsFitAct code (shapes_of store)) _ acts all)
  children_fit store (WokeAll event ∷ acts) fit all =
      children_fit store acts fit (All-tail (IsFitAct code (shapes_of store)) _ acts all)
  children_fit store (Removed number ∷ acts) fit all =
      children_fit store acts fit (All-tail (IsFitAct code (shapes_of store)) _ acts all)

  module _ (b : ℕ) (p : Stopped) (before : Store) where
    -- a slice began here
    abbrev start : State
    start = resumed p.last p.turns before

    -- it keeps what is counted, and what fits
    abbrev Counts : Halt → Type 0
    Counts h = IsKept (by_code code) turns_at IsCounted HasFewTurns p before (slice_with b p before h)

    abbrev Kept : Halt → Type 0
    Kept h = IsKept (by_code code) turns_at (IsRunStore code) Fits p before (slice_with b p before h)

    -- what a slice leaves
    left_fits : (stop : Stop) (to : Stopped) (s : State)
        → IsKept (by_code code) turns_at IsCounted HasFewTurns p before (slice_left b to stop s)
        → IsFitState code start s → (Goes stop → HasFewTurns s.store to → Fits s.store to)
        → IsKept (by_code code) turns_at (IsRunStore code) Fits p before (slice_left b to stop s)
    left_fits stop to s counted state goes = record {
      now = counted.now;
      store = record { fits = state.store; first = counted.store.first };
      others = λ q fits. fits_kept before s.store q state.kept
          (omega (arith, ints, counted.now)) fits;
      numbered = counted.numbered;
      sporks = counted.sporks;
      children = children_fit s.store s.acts state.store
          (state.acts (All-nil (IsFitAct code (shapes_of before))));
      goes = λ is. (goes is (counted.goes is).0, (counted.goes is).1);
    }

    -- a slice that went wrong leaves all
    wrong_fits : IsRunStore code before
        → IsKept (by_code code) turns_at (IsRunStore code) Fits p before (slice_wrong b p before)
    wrong_fits fit = record {
      now = refl;
      store = fit;
      others = λ q fits. fits;
      numbered = refl;
      sporks = omega arith;
      children = tt;
      goes = λ goes. absurd goes;
    }

    halt_fits : (main : ℕ) (h : Halt) → IsRunStore code before → Counts h
        → IsFitHalt code typing main start h → Kept h
    halt_fits main (Ended v s) fit counted fits =
        left_fits (Asked End) p s counted fits.1 (λ goes. absurd goes)
    halt_fits main (Waits q place frames s) fit counted fits =
        left_fits (Asked q) (waiting place frames s) s counted fits.state (λ goes few. record {
          main = main;
          frames = it_goes q _ goes fits.frames_fit;
          turns = few;
          last = omega (arith, ints);
        })
    halt_fits main (Broke trap place s) fit counted fits =
        left_fits (Trapped trap place) p s counted fits (λ goes. absurd goes)
    halt_fits main Unfinished fit counted fits = wrong_fits fit
    halt_fits main Stuck fit counted fits = wrong_fits fit

  -- each slice keeps what fits
  slice_kept : (n : ℕ) (p : Stopped) (before : Store) → IsRunStore code before → Fits before p
      → IsKept (by_code code) turns_at (IsRunStore code) Fits p before
      ((by_code code).slice n p before)
  slice_kept n p before fit fits =
      halt_fits (begun_on code n (enough code) p.last p.turns p.frames before) p before fits.main
      (slice_on code n (enough code) p.place p.last p.turns p.frames before) fit
      (slice_counted code n p before
      (record { few = fit.fits.sporks; first = fit.first }) fits.turns)
      (slice_fits code verified fits.main n (enough code) p.place p.last p.turns p.frames before
      fits.frames fit.fits)

  -- the runs of a verified code are lawful
  pub lawful : IsLawful (by_code code) turns_at (IsRunStore code) Fits
  lawful = record {
    slices = slice_kept;
    few_turns = λ p store now fits. few_turns now p fits.turns;
    few_sporks = λ store fit. fit.fits.sporks;
    first = λ store fit. fit.first;
    cut = λ store keep fit.
        record { fits = cut_fits code store keep fit.fits; first = fit.first };
    cut_fits = λ store keep p fits.
        fits_kept store _ p (kept_same (shapes_of store)) (omega (arith, ints)) fits;
    tick = λ store fit lt. record { fits = sample_fits code store lt fit.fits; first = fit.first };
    tick_fits = λ store p fits.
        fits_kept store (ticked (sounded store)) p (sample_keeps store) (omega (arith, ints)) fits;
  }

  -- a main function takes nothing
  main_suits : (shapes : Shapes) (fn : Fun) → fn.params ≡ 0
      → Suit code.classes shapes (params_of fn) []
  main_suits shapes fn none =
      subst (λ n. Suit code.classes shapes (take n fn.locals) []) (sym none) tt

  -- its mains begin with what fits
  pub begins : length code.mains ≤ MAX_FILES
      → BeginsFit (by_code code) (IsRunStore code) Fits code.mains code.statics
  begins few =
      let first = first_store (length code.mains) code.statics in
      let fit : IsFitStore code first = first_store_fits code (length code.mains) verified few in
      record {
        store = record { fits = fit; first = omega arith };
        shreds = All-weaker (λ f. FoundWhere (slice_get code.funs f) (λ fn. fn.params ≡ 0))
            (λ f. Fits first (beginning code f []))
            (λ f main. begin_fits first f [] fit (found_more (slice_get code.funs f) _ _
            (λ fn none. main_suits (shapes_of first) fn none) main)) code.mains verified.mains;
      }

  -- so its run is sound at each sample
  pub stands : length code.mains ≤ MAX_FILES → (n : ℕ) → n ≤ MAX_SAMPLES
      → StandsAt (by_code code) turns_at (IsRunStore code) Fits lawful n (run_code code n)
  stands few n le =
      run_stands (by_code code) turns_at (IsRunStore code) Fits lawful code.mains code.statics
      (begins few) n le
