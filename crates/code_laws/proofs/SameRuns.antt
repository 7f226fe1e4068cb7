-- The run of the code is that of the program, slice by slice.
use Rattle.std.proofs.Common.{◌≡◌, ℕ, zero, suc, ◌+◌, ◌*◌, ◌<◌, ◌≤◌, ◌⊎◌, inl, inr, List, [], ◌∷◌, ◌++◌, length, take, map, filter, find, fold, Option, Some, None, All, true, not, refl, sym, ap, ◌∙◌, subst, arith, nat_eq}
use Rattle.std.proofs.lemmas.Int.{ints}
use Rattle.std.proofs.lemmas.List.Elements.{All-nil, All-head, All-tail}
use Rattle.std.specs.Prelude.{ℤ, pos, negsuc, ◌+ℤ◌, ◌≤ℤ◌, slice_get}
use Rattle.ck_base.specs.declared.limits.TheConstants.{MAX_FILES, MAX_SAMPLES}
use Rattle.ck_values.specs.declared.kind.Kind.{Kind}
use Rattle.ck_values.specs.declared.trap.Place.{Place}
use Rattle.ck_values.specs.Datum.{Datum, first_locals}
use Rattle.ck_store.specs.Store.{Keeps, Store, State, Act, Printed, Sporked, WokeOne, WokeAll, Removed, Request, At, On, End, first_store, Shapes, shapes_of}
use Rattle.ck_store.specs.Steps.{fresh, resumed}
use Rattle.ck_typed.specs.Tree.{Fun as TypedFun, Program}
use Rattle.ck_typed.specs.WellFormed.{FoundWhere, params_of, IsMain, IsWellFormed}
use Rattle.ck_code.specs.declared.code.CodeParts.{CodeParts}
use Rattle.ck_code.specs.declared.code.Fun.{Fun}
use Rattle.ck_code.specs.Fitting.{Suit, IsFitStore, IsFitAct, IsFitHalt}
use Rattle.ck_code.proofs.Standing.{suit_kept}
use Rattle.ck_code.specs.Machine.{Frame, frame, Halt, Waits, exec, slice_on, begun_on, enough}
use Rattle.ck_code.specs.Verified.{IsVerified, params_of as code_params}
use Rattle.ck_code.proofs.Runs.{first_store_fits}
use Rattle.ck_meaning.specs.Outcome.{Outcome, Done, Left, Asks, Trapped, Wrong}
use Rattle.ck_meaning.specs.Meaning.{with_fun, shred_from}
use Rattle.ck_run.specs.Run.{Stop, Asked, Slice, Runner, Shred, Run}
use Rattle.ck_run.specs.Run as run
use Rattle.ck_meaning.specs.Replay.{run as run_program, run_code, Replay, replayed, slice_by, by_source, Stopped, waiting, slice_with, first_frames, beginning, by_code}
use Rattle.ck_scheme.specs.Texts.{texts_of}
use Rattle.ck_scheme.specs.Scheme.{SameFun, IsScheme}
use Rattle.ck_scheme.specs.Follows.{Agrees, first_state, fun_frames, IsNotWrong, IsSettled, HasSameRuns}
use Rattle.run_laws.proofs.Settles.{settles_at}
use Rattle.code_laws.proofs.Verifies.{verified, calls}
use Rattle.run_laws.proofs.RunStores.{cut_fits, sample_fits, sample_keeps}
use Rattle.code_laws.proofs.RunLists.{AllAlike, alike_map, alike_more, alike_weaker, same_count, LiveAlike, both_none, both_some, live_alike, came_alike, ends_alike, kept_alike, Among, itself_ends, found_among}
use Rattle.code_laws.proofs.NextSlice.{first_slice, last_or, begun, Sleeps, sleeps_on, Wakes, wakes, wakes_first}

module _ (program : Program) (fine : IsWellFormed program) (code : CodeParts)
    (scheme : IsScheme program code) where
  abbrev V : IsVerified code
  V = verified program fine code scheme

  -- the code stands where the replay has come to, beside these objects at this time: at the start of
  -- its function, or where it stopped last
  abbrev Stands : (shapes : Shapes) (now : ℤ) (n : ℕ) (fn : TypedFun) → Replay → Stopped
      → (found : List Store) → Type 0
  Stands shapes now n fn r c [] =
      Suit code.classes shapes (params_of fn) r.arguments × (c ≡ beginning code r.fun r.arguments)
  Stands shapes now n fn r c (w ∷ ws) =
      (q : Request) × (s : State)
      × Sleeps program fine code scheme n r.fun fn r.arguments w ws q c.place c.frames s shapes now
      × (c ≡ waiting c.place c.frames s)

  pub record Same (shapes : Shapes) (now : ℤ) (n : ℕ) (r : Replay)
      (c : Stopped) : Type 0 where
    pub fn : TypedFun
    pub at_fun : slice_get program.funs r.fun ≡ Some fn
    pub stands : Stands shapes now n fn r c r.found

  stands_on : (shapes next : Shapes) (now later : ℤ) → Keeps shapes next → now ≤ℤ later
      → (n : ℕ) (fn : TypedFun) (r : Replay) (c : Stopped) (found : List Store)
      → Stands shapes now n fn r c found → Stands next later n fn r c found
  stands_on shapes next now later kept le n fn r c [] h =
      (suit_kept code.classes shapes next kept (params_of fn) r.arguments h.0, h.1)
  stands_on shapes next now later kept le n fn r c (w ∷ ws) h =
      (h.0, h.1, sleeps_on program fine code scheme shapes next now later kept le h.2, h.3)

  -- what others do leaves them the same
  same_on : (shapes next : Shapes) (now later : ℤ) → Keeps shapes next → now ≤ℤ later
      → (n : ℕ) (r : Replay) (c : Stopped) → Same shapes now n r c → Same next later n r c
  same_on shapes next now later kept le n r c h =
      record {
        fn = h.fn;
        at_fun = h.at_fun;
        stands = stands_on shapes next now later kept le n h.fn r c r.found h.stands;
      }

  -- two slices that do the same; where the shred goes on, both have come to the same
  pub record SameSlice (n : ℕ) (before : Store) (a : Slice Replay)
      (b : Slice Stopped) : Type 0 where
    pub stop : a.stop ≡ b.stop
    pub store : a.store ≡ b.store
    pub acts : a.acts ≡ b.acts
    pub acts_fit : All (IsFitAct code (shapes_of a.store)) a.acts
    pub fits : IsFitStore code a.store
    pub time : a.store.now ≡ before.now
    pub kept : Keeps (shapes_of before) (shapes_of a.store)
    pub still : (Same (shapes_of a.store) a.store.now n a.progress b.progress) ⊎ (((q : Request)
        → a.stop ≡ Asked q → q ≡ End))

  -- the slice of a shred by its halt and its outcome, which agree
  module _ (n b f : ℕ) (fn : TypedFun) (vs : List Datum)
      (at_fun : slice_get program.funs f ≡ Some fn) (c : Stopped) (w : Store) (ws : List Store)
      (start : State) where
    abbrev now_found : Replay
    now_found = record { fun = f; arguments = vs; found = w ∷ ws }

    agreed : (e : Outcome Datum) (h : Halt) → Agrees h e → IsNotWrong e
        → IsFitHalt code V.typing f start h
        → All (IsFitAct code (shapes_of start.store)) start.acts
        → ((q : Request) (place : Place) (frames : List Frame) (s : State)
        → h ≡ Waits q place frames s → (q ≡ End → ⊥)
        → Sleeps program fine code scheme n f fn vs w ws q place frames s (shapes_of s.store) s.store.now)
        → SameSlice n start.store (slice_by now_found start.store e) (slice_with b c start.store h)
    agreed (Done v point) h agrees good fits acts again =
        let f2 = subst (IsFitHalt code V.typing f start) agrees fits in
        subst (λ k. SameSlice n start.store (slice_by now_found start.store (Done v point))
        (slice_with b c start.store k)) (sym agrees) (record {
          stop = refl;
          store = refl;
          acts = refl;
          acts_fit = f2.1.acts acts;
          fits = f2.1.store;
          time = f2.1.time;
          kept = f2.1.kept;
          still = inr (λ q same. cc same);
        })
    agreed (Left exit point) h agrees good fits acts again = absurd agrees
    agreed (Asks q place s) h agrees good fits acts again =
        let f2 = subst (IsFitHalt code V.typing f start) agrees.1 fits in
        subst (λ k. SameSlice n start.store (slice_by now_found start.store (Asks q place s))
        (slice_with b c start.store k)) (sym agrees.1) (record {
          stop = refl;
          store = refl;
          acts = refl;
          acts_fit = f2.state.acts acts;
          fits = f2.state.store;
          time = f2.state.time;
          kept = f2.state.kept;
          still = last_or q (λ stays. record {
            fn = fn;
            at_fun = at_fun;
            stands = (q, s, again q place agrees.0 s agrees.1 stays, refl);
          });
        })
    agreed (Trapped t place s) h agrees good fits acts again =
        let f2 = subst (IsFitHalt code V.typing f start) agrees fits in
        subst (λ k. SameSlice n start.store (slice_by now_found start.store (Trapped t place s))
        (slice_with b c start.store k)) (sym agrees) (record {
          stop = refl;
          store = refl;
          acts = refl;
          acts_fit = f2.acts acts;
          fits = f2.store;
          time = f2.time;
          kept = f2.kept;
          still = inr (λ q same. cc same);
        })
    agreed Wrong h agrees good fits acts again = absurd good

  -- a shred of the code begins with the frames of its function
  begin_frames : (f : ℕ) (fn : TypedFun) (vs : List Datum) → slice_get program.funs f ≡ Some fn
      → first_frames (slice_get code.funs f) f vs ≡ fun_frames f fn vs
  begin_frames f fn vs at_f =
      let c = calls program fine code.funs scheme.funs f fn at_f in
      ap (λ o. first_frames o f vs) c.1 ∙ ap (λ l. frame f 0 (first_locals l vs) [] ∷ []) c.3

  replay_at : (o : Option TypedFun) (fn : TypedFun) (go : TypedFun → Outcome Datum) → o ≡ Some fn
      → with_fun o go ≡ go fn
  replay_at o fn go e = ap (λ x. with_fun x go) e

  -- the next slice of the source, and that of the code
  abbrev slice_source : (n f : ℕ) → List Datum → (w : Store) → List Store → (x : Store)
      → Slice Replay
  slice_source n f vs w ws x =
      let r : Replay = record { fun = f; arguments = vs; found = w ∷ ws } in
      slice_by r x (replayed program n r (w ∷ ws))

  abbrev slice_code : ℕ → Stopped → Store → Slice Stopped
  slice_code n c x =
      slice_with (begun_on code n (enough code) c.last c.turns c.frames x) c x
      (slice_on code n (enough code) c.place c.last c.turns c.frames x)

  -- they do the same, where the shred wakes so
  woken_same : (n f : ℕ) (fn : TypedFun) (vs : List Datum) (c : Stopped) (w : Store)
      (ws : List Store) (start : State) (h : Halt) → slice_get program.funs f ≡ Some fn
      → slice_on code n (enough code) c.place c.last c.turns c.frames start.store ≡ h
      → Wakes program fine code scheme n f fn vs w ws start h
      → All (IsFitAct code (shapes_of start.store)) start.acts
      → SameSlice n start.store (slice_source n f vs w ws start.store) (slice_code n c start.store)
  woken_same n f fn vs c w ws start h at_fun is wakes acts =
      let e = shred_from program n fn vs w ws in
      let b = begun_on code n (enough code) c.last c.turns c.frames start.store in
      let r : Replay = record { fun = f; arguments = vs; found = w ∷ ws } in
      let is_e : replayed program n r (w ∷ ws) ≡ e =
      replay_at (slice_get program.funs f) fn _ at_fun in
      subst (λ k. SameSlice n start.store (slice_by r start.store k) (slice_code n c start.store))
      (sym is_e)
      (subst (λ k. SameSlice n start.store (slice_by r start.store e)
      (slice_with b c start.store k)) (sym is)
      (agreed n b f fn vs at_fun c w ws start e h wakes.agrees wakes.not_wrong
      wakes.fits acts wakes.again))

  -- the next slices of one shred do the same
  same_slices : (n : ℕ) (r : Replay) (c : Stopped) (x : Store) (fn : TypedFun) (found : List Store)
      → slice_get program.funs r.fun ≡ Some fn → Stands (shapes_of x) x.now n fn r c found
      → IsFitStore code x
      → SameSlice n x (slice_by (record r { found = found ++ x ∷ [] }) x
      (replayed program n r (found ++ x ∷ []))) (slice_code n c x)
  same_slices n r c x fn [] at_fun stands fit =
      let is : slice_on code n (enough code) c.place c.last c.turns c.frames x
      ≡ begun program fine code scheme n r.fun fn r.arguments x =
      ap (λ (d : Stopped). slice_on code n (enough code) d.place d.last d.turns d.frames x) stands.1
      ∙ first_slice code n (enough code) _ (first_frames (slice_get code.funs r.fun) r.fun r.arguments) x
      ∙ ap (λ frames. exec code n (enough code) frames (first_state x))
      (begin_frames r.fun fn r.arguments at_fun) in
      woken_same n r.fun fn r.arguments c x [] (first_state x) _ at_fun is
      (wakes_first program fine code scheme n r.fun fn r.arguments x at_fun stands.0 fit)
      (All-nil (IsFitAct code (shapes_of x)))
  same_slices n r c x fn (w ∷ ws) at_fun stands fit =
      let q = stands.0 in
      let s = stands.1 in
      let is : slice_on code n (enough code) c.place c.last c.turns c.frames x
      ≡ slice_on code n (enough code) c.place s.store.now s.turns c.frames x =
      ap (λ (d : Stopped).
      slice_on code n (enough code) c.place d.last d.turns c.frames x) stands.3 in
      woken_same n r.fun fn r.arguments c w (ws ++ x
      ∷ []) (resumed s.store.now s.turns x) _ at_fun is
      (wakes program fine code scheme n r.fun fn r.arguments w ws q c.place c.frames s x
      stands.2 fit) (All-nil (IsFitAct code (shapes_of x)))

  same_slice : (n : ℕ) (r : Replay) (c : Stopped) (x : Store) → Same (shapes_of x) x.now n r c
      → IsFitStore code x → SameSlice n x ((by_source program).slice n r x)
      ((by_code code).slice n c x)
  same_slice n r c x same fit = same_slices n r c x same.fn r.found same.at_fun same.stands fit

  abbrev src : Runner Replay
  src = by_source program

  abbrev cod : Runner Stopped
  cod = by_code code

  abbrev Never : ℕ → Type 0
  Never m = ⊥

  -- beside this store
  abbrev SameAt : Store → ℕ → Replay → Stopped → Type 0
  SameAt store = Same (shapes_of store) store.now

  -- the two runs have the same of all that shows, at this time, and their shreds stand alike, but
  -- for some
  pub record SameRun (t : ℤ) (P : ℕ → Type 0) (a : Run Replay) (b : Run Stopped) : Type 0 where
    pub store : a.store ≡ b.store
    pub shreds : AllAlike (SameAt a.store) P a.shreds b.shreds
    pub due : a.due ≡ b.due
    pub waits : a.waits ≡ b.waits
    pub samples : a.samples ≡ b.samples
    pub text : a.text ≡ b.text
    pub wakes : a.wakes ≡ b.wakes
    pub fits : IsFitStore code a.store
    pub time : a.store.now ≡ t

  -- runs in which the same shred ends, with its children, stand alike, but for those that didn't end
  ended_same : (t : ℤ) (P Q : ℕ → Type 0) (n : ℕ) (a : Run Replay) (b : Run Stopped)
      → ((m : ℕ) → P m → (run.has (run.end_with n a.shreds) m ≡ true) ⊎ (Q m)) → SameRun t P a b
      → SameRun t Q (run.ended a n) (run.ended b n)
  ended_same t P Q n a b ends same =
      let ga = run.end_with n a.shreds in
      let gb = run.end_with n b.shreds in
      let eg : ga ≡ gb = ends_alike (SameAt a.store) P n a.shreds b.shreds [] same.shreds in
      record {
        store = ap {A = Store} {B = Store} (λ s.
            record s {
              connections = filter (λ c.
                  not (run.touches s.units ga c)) s.connections;
            }) same.store
            ∙ ap {A = List ℕ} {B = Store} (λ g.
            record b.store {
              connections = filter (λ c.
                  not (run.touches b.store.units g c)) b.store.connections;
            }) eg;
        shreds = subst (λ g. AllAlike (SameAt a.store) Q
            (filter (λ s. not (run.has ga s.number)) a.shreds)
            (filter (λ s. not (run.has g s.number)) b.shreds)) eg
            (kept_alike (SameAt a.store) P Q ga a.shreds b.shreds ends same.shreds);
        due = ap (λ ds. filter (λ d. not (run.has ga d.shred)) ds) same.due
            ∙ ap (λ g. filter (λ d. not (run.has g d.shred)) b.due) eg;
        waits = ap (λ ws. filter (λ w. not (run.has ga w.shred)) ws) same.waits
            ∙ ap (λ g. filter (λ w. not (run.has g w.shred)) b.waits) eg;
        samples = same.samples;
        text = same.text;
        wakes = same.wakes;
        fits = cut_fits code a.store (λ c. not (run.touches a.store.units ga c)) same.fits;
        time = same.time;
      }

  -- a shred of this number whose slice was its last
  abbrev Last : ℕ → Stop → ℕ → Type 0
  Last n stop m = (m ≡ n) × ((q : Request) → stop ≡ Asked q → q ≡ End)

  -- so do those in which the shred ends whose slice was its last
  last_ended_same : (t : ℤ) (n : ℕ) (stop : Stop) (a : Run Replay) (b : Run Stopped)
      → Among n a.shreds → SameRun t (Last n stop) a b
      → SameRun t Never (run.ended a n) (run.ended b n)
  last_ended_same t n stop a b among same =
      ended_same t (Last n stop) Never n a b (λ m p.
      inl (subst (λ k. run.has (run.end_with n a.shreds) k ≡ true) (sym p.0)
      (itself_ends n a.shreds [] among))) same

  due_same : (t time : ℤ) (P : ℕ → Type 0) (n : ℕ) (a : Run Replay) (b : Run Stopped)
      → ((m : ℕ) → P m → ⊥) → SameRun t P a b
      → SameRun t Never (run.with_due a time n) (run.with_due b time n)
  due_same t time P n a b none same = record {
    store = same.store;
    shreds = alike_weaker (SameAt a.store) P Never none a.shreds b.shreds same.shreds;
    due = ap (λ ds. ds ++ record { time = time; shred = n } ∷ []) same.due;
    waits = same.waits;
    samples = same.samples;
    text = same.text;
    wakes = same.wakes;
    fits = same.fits;
    time = same.time;
  }

  wait_same : (t : ℤ) (event : ℕ) (P : ℕ → Type 0) (n : ℕ) (a : Run Replay) (b : Run Stopped)
      → ((m : ℕ) → P m → ⊥) → SameRun t P a b
      → SameRun t Never (run.carried_out a n (Asked (On event)))
      (run.carried_out b n (Asked (On event)))
  wait_same t event P n a b none same = record {
    store = same.store;
    shreds = alike_weaker (SameAt a.store) P Never none a.shreds b.shreds same.shreds;
    due = same.due;
    waits = ap (λ ws. ws ++ record { event = event; shred = n } ∷ []) same.waits;
    samples = same.samples;
    text = same.text;
    wakes = same.wakes;
    fits = same.fits;
    time = same.time;
  }

  carried_same : (t : ℤ) (n : ℕ) (stop : Stop) (a : Run Replay) (b : Run Stopped) → Among n a.shreds
      → SameRun t (Last n stop) a b → SameRun t Never (run.carried_out a n stop)
      (run.carried_out b n stop)
  carried_same t n (Asked (At time)) a b among same =
      due_same t time (Last n (Asked (At time))) n a b (λ m p. cc (p.1 (At time) refl)) same
  carried_same t n (Asked (On event)) a b among same =
      wait_same t event (Last n (Asked (On event))) n a b (λ m p. cc (p.1 (On event) refl)) same
  carried_same t n (Asked End) a b among same = last_ended_same t n (Asked End) a b among same
  carried_same t n (run.Trapped trap place) a b among same =
      last_ended_same t n (run.Trapped trap place) a b among same
  carried_same t n run.WentWrong a b among same = last_ended_same t n run.WentWrong a b among same

  reshred : (t : ℤ) (P Q : ℕ → Type 0) (a : Run Replay) (b : Run Stopped) → SameRun t P a b
      → AllAlike (SameAt a.store) Q a.shreds b.shreds → SameRun t Q a b
  reshred t P Q a b same alike =
      record {
        store = same.store;
        shreds = alike;
        due = same.due;
        waits = same.waits;
        samples = same.samples;
        text = same.text;
        wakes = same.wakes;
        fits = same.fits;
        time =
            same.time;
      }

  where_same : (t : ℤ) (n : ℕ) (stop : Stop) (a : Run Replay) (b : Run Stopped)
      (oa : Option (Shred Replay)) (ob : Option (Shred Stopped))
      → LiveAlike (SameAt a.store) (Last n stop) n a.shreds b.shreds oa ob
      → find (λ s. nat_eq s.number n) a.shreds ≡ oa → SameRun t (Last n stop) a b
      → SameRun t Never (run.carried_out_where a oa stop) (run.carried_out_where b ob stop)
  where_same t n stop a b _ _ (both_none rest) is same =
      reshred t (Last n stop) Never a b same (alike_weaker (SameAt a.store) (λ m. Last n stop m
      × (m ≡ n → ⊥)) Never (λ m p. p.1 p.0.0) a.shreds b.shreds rest)
  where_same t n stop a b _ _ (both_some x y nx ny h) is same =
      subst (λ m. SameRun t Never (run.carried_out a m stop) (run.carried_out b y.number stop))
      (sym nx)
      (subst (λ m. SameRun t Never (run.carried_out a n stop) (run.carried_out b m stop)) (sym ny)
      (carried_same t n stop a b (found_among n a.shreds x is) same))

  -- the runs stand alike, and the objects of the store have these shapes
  abbrev Beside : ℤ → (ℕ → Type 0) → Shapes → Run Replay → Run Stopped → Type 0
  Beside t P shapes a b = SameRun t P a b × (shapes_of a.store ≡ shapes)

  -- a function begins alike on arguments that suit it
  begin_of : (shapes : Shapes) (now : ℤ) (o : Option TypedFun) (oc : Option Fun) (f n : ℕ)
      (arguments : List Datum) → slice_get program.funs f ≡ o
      → SameFun program.classes (texts_of program) o oc
      → FoundWhere oc (λ fn. Suit code.classes shapes (code_params fn) arguments)
      → Same shapes now n (src.begin f arguments) (cod.begin f arguments)
  begin_of shapes now None None f n arguments at_f same suits = absurd suits
  begin_of shapes now None (Some fc) f n arguments at_f same suits = absurd same
  begin_of shapes now (Some fn) None f n arguments at_f same suits = absurd suits
  begin_of shapes now (Some fn) (Some fc) f n arguments at_f same suits = record {
    fn = fn;
    at_fun = at_f;
    stands = (
      subst (λ m. Suit code.classes shapes (take m fn.locals) arguments) same.params
          (subst (λ l. Suit code.classes shapes (take fc.params l) arguments) same.locals suits),
      refl,
    );
  }

  -- a child is one more, where its parent hasn't ended
  child_same : (t : ℤ) (P : ℕ → Type 0) (n number f : ℕ) (arguments : List Datum)
      (shapes : Shapes) (a : Run Replay) (b : Run Stopped) (oa : Option (Shred Replay))
      (ob : Option (Shred Stopped)) → LiveAlike (SameAt a.store) P n a.shreds b.shreds oa ob
      → SameAt a.store number (src.begin f arguments) (cod.begin f arguments)
      → Beside t P shapes a b
      → Beside t P shapes (run.with_child a n number (src.begin f arguments) oa)
      (run.with_child b n number (cod.begin f arguments) ob)
  child_same t P n number f arguments shapes a b _ _ (both_none rest) begins same = same
  child_same t P n number f arguments shapes a b _ _ (both_some x y nx ny h) begins same = (
    record {
      store = same.0.store;
      shreds = alike_more (SameAt a.store) P _ _ refl refl begins a.shreds b.shreds same.0.shreds;
      due = ap (λ ds. ds ++ record { time = a.store.now; shred = number } ∷ []) same.0.due
          ∙ ap (λ (s : Store). b.due ++ record { time = s.now; shred = number } ∷ [])
          same.0.store;
      waits = same.0.waits;
      samples = same.0.samples;
      text = same.0.text;
      wakes = same.0.wakes;
      fits = same.0.fits;
      time = same.0.time;
    },
    same.1,
  )

  -- what waited is due
  woken_alike : (t : ℤ) (P : ℕ → Type 0) (shapes : Shapes) (a : Run Replay)
      (b : Run Stopped) (o : Option run.Wait) → Beside t P shapes a b
      → Beside t P shapes (run.woken a o) (run.woken b o)
  woken_alike t P shapes a b None same = same
  woken_alike t P shapes a b (Some wait) same = (
    record {
      store = same.0.store;
      shreds = same.0.shreds;
      due = ap (λ ds. ds ++ record { time = a.store.now; shred = wait.shred } ∷ []) same.0.due
          ∙ ap (λ (s : Store). b.due ++ record { time = s.now; shred = wait.shred } ∷ [])
          same.0.store;
      waits = ap (filter (λ (other : run.Wait). not (nat_eq other.shred wait.shred))) same.0.waits;
      samples = same.0.samples;
      text = same.0.text;
      wakes = same.0.wakes;
      fits = same.0.fits;
      time = same.0.time;
    },
    same.1,
  )

  all_woken_alike : (t : ℤ) (P : ℕ → Type 0) (shapes : Shapes) (waits : List run.Wait)
      (a : Run Replay) (b : Run Stopped) → Beside t P shapes a b
      → Beside t P shapes (fold (λ now wait. run.woken now (Some wait)) a waits)
      (fold (λ now wait. run.woken now (Some wait)) b waits)
  all_woken_alike t P shapes [] a b same = same
  all_woken_alike t P shapes (wait ∷ waits) a b same =
      all_woken_alike t P shapes waits _ _ (woken_alike t P shapes a b (Some wait) same)

  -- the same shred ends, if there is one
  removed_same : (t : ℤ) (P : ℕ → Type 0) (n : ℕ) (shapes : Shapes) (a : Run Replay)
      (b : Run Stopped) (oa : Option (Shred Replay)) (ob : Option (Shred Stopped))
      → LiveAlike (SameAt a.store) P n a.shreds b.shreds oa ob → Beside t P shapes a b
      → Beside t P shapes (run.ended_where a oa) (run.ended_where b ob)
  removed_same t P n shapes a b _ _ (both_none rest) same = same
  removed_same t P n shapes a b _ _ (both_some x y nx ny h) same = (
    subst (λ m. SameRun t P (run.ended a x.number) (run.ended b m)) (nx ∙ sym ny)
        (ended_same t P P x.number a b (λ m p. inr p) same.0),
    same.1,
  )

  removed_at_same : (t : ℤ) (P : ℕ → Type 0) (number : ℤ) (shapes : Shapes)
      (a : Run Replay) (b : Run Stopped) → Beside t P shapes a b
      → Beside t P shapes (run.ended_where a (run.live_at a number))
      (run.ended_where b (run.live_at b number))
  removed_at_same t P (pos n) shapes a b same =
      removed_same t P n shapes a b (run.live a n) (run.live b n)
      (live_alike (SameAt a.store) P n a.shreds b.shreds same.0.shreds) same
  removed_at_same t P (negsuc n) shapes a b same = same

  -- an act that fits does the same to both
  act_same : (t : ℤ) (P : ℕ → Type 0) (n : ℕ) (shapes : Shapes) (act : Act)
      (a : Run Replay) (b : Run Stopped) → IsFitAct code shapes act → Beside t P shapes a b
      → Beside t P shapes (run.applied src n a act) (run.applied cod n b act)
  act_same t P n shapes (Printed line) a b fits same = (
    record {
      store = same.0.store;
      shreds = same.0.shreds;
      due = same.0.due;
      waits = same.0.waits;
      samples = same.0.samples;
      text = ap (λ text. text ++ run.Line line ∷ []) same.0.text;
      wakes = same.0.wakes;
      fits = same.0.fits;
      time = same.0.time;
    },
    same.1,
  )
  act_same t P n shapes (Sporked number f arguments) a b fits same =
      child_same t P n number f arguments shapes a b (run.live a n) (run.live b n)
      (live_alike (SameAt a.store) P n a.shreds b.shreds same.0.shreds)
      (begin_of (shapes_of a.store) a.store.now (slice_get program.funs f) (slice_get code.funs f) f
      number arguments refl (scheme.funs f)
      (subst (λ some. IsFitAct code some (Sporked number f arguments)) (sym same.1) fits)) same
  act_same t P n shapes (WokeOne event) a b fits same =
      let first = λ (waits : List run.Wait). find (λ (wait : run.Wait). nat_eq wait.event event) waits in
      subst (λ o. Beside t P shapes (run.woken a (first a.waits)) (run.woken b o))
      (ap first same.0.waits) (woken_alike t P shapes a b (first a.waits) same)
  act_same t P n shapes (WokeAll event) a b fits same =
      let all = λ (waits : List run.Wait). filter (λ (wait : run.Wait). nat_eq wait.event event) waits in
      subst (λ waits. Beside t P shapes
      (fold (λ now wait. run.woken now (Some wait)) a (all a.waits))
      (fold (λ now wait. run.woken now (Some wait)) b waits)) (ap all same.0.waits)
      (all_woken_alike t P shapes (all a.waits) a b same)
  act_same t P n shapes (Removed number) a b fits same =
      removed_at_same t P number shapes a b same

  -- so do all acts of a slice, one after another
  acts_same : (t : ℤ) (P : ℕ → Type 0) (n : ℕ) (shapes : Shapes) (acts : List Act)
      (a : Run Replay) (b : Run Stopped) → All (IsFitAct code shapes) acts
      → Beside t P shapes a b
      → Beside t P shapes (fold (run.applied src n) a acts) (fold (run.applied cod n) b acts)
  acts_same t P n shapes [] a b fits same = same
  acts_same t P n shapes (act ∷ acts) a b fits same =
      acts_same t P n shapes acts _ _ (All-tail (IsFitAct code shapes) act acts fits)
      (act_same t P n shapes act a b (All-head (IsFitAct code shapes) act acts fits) same)

  -- what a slice left, before its acts are applied
  abbrev left_of : {A : Type 0} → Run A → ℕ → Slice A → Run A
  left_of a n s = record a {
    store = s.store;
    shreds = map (run.came n s.progress) a.shreds;
    begun = a.begun + s.begun;
  }

  abbrev acted : {A : Type 0} → Runner A → Run A → ℕ → Slice A → Run A
  acted runner a n s = fold (run.applied runner n) (left_of a n s) s.acts

  text_same : {A : Type 0} {B : Type 0} (a : Run A) (b : Run B) (u v : run.Wake) → a.text ≡ b.text
      → u ≡ v → a.text ++ run.trap_piece u u.trap ≡ b.text ++ run.trap_piece v v.trap
  text_same a b u v e is =
      ap (λ x. x ++ run.trap_piece u u.trap) e ∙ ap (λ w. b.text ++ run.trap_piece w w.trap) is

  abbrev wake_of : ℕ → Store → Stop → run.Wake
  wake_of n store stop = record { time = store.now; shred = n; trap = run.trap_of stop }

  wake_same : (n : ℕ) (x : Store) (sa : Slice Replay) (sb : Slice Stopped) → SameSlice n x sa sb
      → wake_of n sa.store sa.stop ≡ wake_of n sb.store sb.stop
  wake_same n x sa sb one =
      ap (λ s. wake_of n s sa.stop) one.store ∙ ap (wake_of n sb.store) one.stop

  -- a slice is noted
  noted_same : (t : ℤ) (P : ℕ → Type 0) (a : Run Replay) (b : Run Stopped) (u v : run.Wake)
      → u ≡ v → SameRun t P a b → SameRun t P (run.noted a u) (run.noted b v)
  noted_same t P a b u v is same = record {
    store = same.store;
    shreds = same.shreds;
    due = same.due;
    waits = same.waits;
    samples = same.samples;
    text = text_same a b u v same.text is;
    wakes = ap (λ ws. ws ++ u ∷ []) same.wakes ∙ ap (λ w. b.wakes ++ w ∷ []) is;
    fits = same.fits;
    time = same.time;
  }

  -- what slices left that do the same stands alike, and their acts leave it so
  acted_same : (t : ℤ) (n : ℕ) (x : Store) (a : Run Replay) (b : Run Stopped) (sa : Slice Replay)
      (sb : Slice Stopped) → a.store ≡ x → SameSlice n x sa sb → SameRun t Never a b
      → SameRun t (Last n sa.stop) (acted src a n sa) (acted cod b n sb)
  acted_same t n x a b sa sb at_x one same =
      let kept : Keeps (shapes_of a.store) (shapes_of sa.store) =
      subst (λ store. Keeps (shapes_of store) (shapes_of sa.store)) (sym at_x) one.kept in
      let is_now : sa.store.now ≡ a.store.now = one.time ∙ ap (λ s. s.now) (sym at_x) in
      let others =
      alike_map (SameAt a.store) (SameAt sa.store) Never (λ m r c h.
      same_on (shapes_of a.store) (shapes_of sa.store) a.store.now sa.store.now kept (omega (
        arith,
        ints,
        is_now,
      )) m r c h) a.shreds b.shreds same.shreds in
      let both : (SameAt sa.store n sa.progress sb.progress) ⊎ (Last n sa.stop n) =
      elim one.still [ inl k ↦ inl k | inr k ↦ inr (refl, k) ] in
      let left : SameRun t (Last n sa.stop) (left_of a n sa) (left_of b n sb) = record {
        store = one.store;
        shreds = came_alike (SameAt sa.store) Never (Last n sa.stop) n sa.progress sb.progress
            (λ m no_more. absurd no_more) both a.shreds b.shreds others;
        due = same.due;
        waits = same.waits;
        samples = same.samples;
        text = same.text;
        wakes = same.wakes;
        fits = one.fits;
        time = one.time ∙ ap (λ s. s.now) (sym at_x) ∙ same.time;
      } in
      subst (λ acts. SameRun t (Last n sa.stop) (acted src a n sa)
      (fold (run.applied cod n) (left_of b n sb) acts)) one.acts
      (acts_same t (Last n sa.stop) n (shapes_of sa.store) sa.acts (left_of a n sa) (left_of b n sb)
      one.acts_fit (left, refl)).0

  -- after a slice of one shred
  slice_same : (t : ℤ) (n : ℕ) (x : Store) (a : Run Replay) (b : Run Stopped) (sa : Slice Replay)
      (sb : Slice Stopped) → a.store ≡ x → SameSlice n x sa sb → SameRun t Never a b
      → SameRun t Never (run.after_slice src a n sa) (run.after_slice cod b n sb)
  slice_same t n x a b sa sb at_x one same =
      let la = run.noted (acted src a n sa) (wake_of n sa.store sa.stop) in
      let lb = run.noted (acted cod b n sb) (wake_of n sb.store sb.stop) in
      let noted : SameRun t (Last n sa.stop) la lb =
      noted_same t (Last n sa.stop) (acted src a n sa) (acted cod b n sb) _ _
      (wake_same n x sa sb one) (acted_same t n x a b sa sb at_x one same) in
      let both_live =
      live_alike (SameAt la.store) (Last n sa.stop) n la.shreds lb.shreds noted.shreds in
      subst (λ p. SameRun t Never (run.after_slice src a n sa)
      (run.carried_out_where lb (run.live lb n) p)) one.stop
      (where_same t n sa.stop la lb (run.live la n) (run.live lb n) both_live refl noted)

  step_same : (t : ℤ) (n : ℕ) (ra : Replay) (cb : Stopped) (a : Run Replay) (b : Run Stopped)
      → SameAt a.store n ra cb → SameRun t Never a b
      → SameRun t Never (run.after_slice src a n (src.slice n ra a.store))
      (run.after_slice cod b n (cod.slice n cb b.store))
  step_same t n ra cb a b alike same =
      subst (λ w. SameRun t Never (run.after_slice src a n (src.slice n ra a.store))
      (run.after_slice cod b n (cod.slice n cb w))) same.store
      (slice_same t n a.store a b (src.slice n ra a.store) (cod.slice n cb a.store) refl
      (same_slice n ra cb a.store alike same.fits) same)

  alike_of : (store : Store) (n : ℕ) (ra : Replay) (cb : Stopped) → (SameAt store n ra cb) ⊎ ⊥
      → SameAt store n ra cb
  alike_of store n ra cb (inl k) = k
  alike_of store n ra cb (inr k) = absurd k

  run_slice_same : (t : ℤ) (n : ℕ) (a : Run Replay) (b : Run Stopped) (xs : List (Shred Replay))
      (ys : List (Shred Stopped)) (oa : Option (Shred Replay)) (ob : Option (Shred Stopped))
      → LiveAlike (SameAt a.store) Never n xs ys oa ob → SameRun t Never a b
      → SameRun t Never (run.run_slice src a oa) (run.run_slice cod b ob)
  run_slice_same t n a b xs ys _ _ (both_none rest) same = same
  run_slice_same t n a b xs ys _ _ (both_some x y nx ny h) same =
      subst (λ m. SameRun t Never (run.after_slice src a x.number
      (src.slice x.number x.progress a.store))
      (run.after_slice cod b m (cod.slice m y.progress b.store))) (nx ∙ sym ny)
      (step_same t x.number x.progress y.progress a b
      (alike_of a.store x.number x.progress y.progress h) same)

  due_step : (t : ℤ) (a : Run Replay) (b : Run Stopped) (go : Run Replay → Run Replay)
      (go2 : Run Stopped → Run Stopped) → ((a2 : Run Replay) (b2 : Run Stopped)
      → SameRun t Never a2 b2 → SameRun t Never (go a2) (go2 b2)) → (o : Option run.Due)
      → SameRun t Never a b → SameRun t Never (run.after_due src a o go) (run.after_due cod b o go2)
  due_step t a b go go2 rest None same = same
  due_step t a b go go2 rest (Some d) same =
      let less : SameRun t Never (record a {
        due = filter (λ other.
            not (nat_eq other.shred d.shred)) a.due;
      }) (record b {
        due =
            filter (λ other. not (nat_eq other.shred d.shred)) b.due;
      }) = record {
        store = same.store;
        shreds = same.shreds;
        due = ap (filter (λ (other : run.Due). not (nat_eq other.shred d.shred))) same.due;
        waits = same.waits;
        samples = same.samples;
        text = same.text;
        wakes = same.wakes;
        fits = same.fits;
        time = same.time;
      } in
      rest _ _ (run_slice_same t d.shred _ _ a.shreds b.shreds (run.live a d.shred)
      (run.live b d.shred)
      (live_alike (SameAt a.store) Never d.shred a.shreds b.shreds same.shreds) less)

  settled_same : (t : ℤ) (bound : ℕ) (a : Run Replay) (b : Run Stopped) → SameRun t Never a b
      → SameRun t Never (run.settled src bound a) (run.settled cod bound b)
  settled_same t zero a b same = same
  settled_same t (suc bound) a b same =
      let is : run.first_due a.store.now a.due ≡ run.first_due b.store.now b.due =
      ap (λ s. run.first_due s.now a.due) same.store
      ∙ ap (run.first_due b.store.now) same.due in
      subst (λ o. SameRun t Never (run.settled src (suc bound) a)
      (run.after_due cod b o (run.settled cod bound))) is
      (due_step t a b (run.settled src bound) (run.settled cod bound) (settled_same t bound)
      (run.first_due a.store.now a.due) same)

  sampled_same : (count : ℕ) (a : Run Replay) (b : Run Stopped) → count < MAX_SAMPLES
      → SameRun (pos count) Never a b → SameRun (pos (suc count)) Never (run.sampled src a)
      (run.sampled cod b)
  sampled_same count a b few same = record {
    store = ap {A = Store} {B = Store} (run.after_sample cod) same.store;
    shreds = alike_map (SameAt a.store) (SameAt (run.after_sample src a.store)) Never (λ n r c h.
        same_on (shapes_of a.store) (shapes_of (run.after_sample src a.store)) a.store.now
        (a.store.now +ℤ pos 1) (sample_keeps a.store) (omega (arith, ints)) n r c h) a.shreds b.shreds
        same.shreds;
    due = same.due;
    waits = same.waits;
    samples = ap (λ l. l ++ run.output_of (run.after_sample src a.store) ∷ []) same.samples
        ∙ ap {A = Store} (λ s. b.samples ++ run.output_of (run.after_sample cod s) ∷ []) same.store;
    text = same.text;
    wakes = same.wakes;
    fits = sample_fits code a.store (omega (arith, ints, same.time, few)) same.fits;
    time = omega (arith, ints, same.time);
  }

  none_taken : (shapes : Shapes) (k : ℕ) (kinds : List Kind) → k ≡ 0
      → Suit code.classes shapes (take k kinds) []
  none_taken shapes k kinds e = subst (λ m. Suit code.classes shapes (take m kinds) []) (sym e) tt

  main_begins : (shapes : Shapes) (now : ℤ) (o : Option TypedFun) (f n : ℕ)
      → slice_get program.funs f ≡ o → FoundWhere o (λ fn. fn.params ≡ 0)
      → Same shapes now n (src.begin f []) (cod.begin f [])
  main_begins shapes now None f n at_f main = absurd main
  main_begins shapes now (Some fn) f n at_f main =
      record { fn = fn; at_fun = at_f; stands = (none_taken shapes fn.params fn.locals main, refl) }

  first_alike : (store : Store) (number : ℕ) (mains : List ℕ) → All (IsMain program) mains
      → AllAlike (SameAt store) Never (run.first_shreds src number mains)
      (run.first_shreds cod number mains)
  first_alike store number [] all_main = tt
  first_alike store number (f ∷ mains) all_main = (
    refl,
    refl,
    inl (main_begins (shapes_of store) store.now (slice_get program.funs f) f number refl
        (All-head (IsMain program) f mains all_main)),
    first_alike store (suc number) mains (All-tail (IsMain program) f mains all_main),
  )

  due_alike : (store : Store) (xs : List (Shred Replay)) (ys : List (Shred Stopped))
      → AllAlike (SameAt store) Never xs ys → map run.first_due_of xs ≡ map run.first_due_of ys
  due_alike store [] [] h = refl
  due_alike store [] (b ∷ ys) h = absurd h
  due_alike store (a ∷ xs) [] h = absurd h
  due_alike store (a ∷ xs) (b ∷ ys) h =
      ap {A = ℕ} {B = List run.Due} (λ m. record { time = pos 0; shred = m }
      ∷ map run.first_due_of xs) h.0 ∙ ap (λ l. run.first_due_of b ∷ l) (due_alike store xs ys h.3)

  first_same : SameRun (pos 0) Never (run.first_run src program.mains program.statics)
      (run.first_run cod program.mains program.statics)
  first_same =
      let alike =
      first_alike
      (first_store (length program.mains) program.statics) 1 program.mains fine.mains in
      record {
        store = refl;
        shreds = alike;
        due = due_alike (first_store (length program.mains) program.statics) _ _ alike;
        waits = refl;
        samples = refl;
        text = refl;
        wakes = refl;
        fits = subst (λ k. IsFitStore code (first_store (length program.mains) k)) scheme.statics
            (first_store_fits code (length program.mains) V
            (subst (λ m. m ≤ MAX_FILES) fine.files fine.enough));
        time = refl;
      }

  runs_same : (count : ℕ) → count ≤ MAX_SAMPLES
      → SameRun (pos count) Never (run.run_of src program.mains program.statics count)
      (run.run_of cod program.mains program.statics count)
  runs_same zero few = first_same
  runs_same (suc count) few =
      let before = runs_same count (omega (arith, few)) in
      let a = run.run_of src program.mains program.statics count in
      let b = run.run_of cod program.mains program.statics count in
      let most : run.most_slices a ≡ run.most_slices b =
      ap (λ l. suc fresh * (l + 4_096))
      (same_count (SameAt a.store) Never a.shreds b.shreds before.shreds) in
      subst (λ m. SameRun (pos (suc count)) Never
      (run.sampled src (run.settled src (run.most_slices a) a))
      (run.sampled cod (run.settled cod m b))) most
      (sampled_same count _ _ (omega (arith, few))
      (settled_same (pos count) (run.most_slices a) a b before))

  run_same : (count : ℕ) → count ≤ MAX_SAMPLES
      → SameRun (pos count) Never (run_program program count) (run_code code count)
  run_same count few =
      subst (λ ms. SameRun (pos count) Never (run_program program count)
      (run.run_of cod ms code.statics count)) (sym scheme.mains)
      (subst (λ k. SameRun (pos count) Never (run_program program count)
      (run.run_of cod program.mains k count)) (sym scheme.statics) (runs_same count few))

  -- what is due of the one run is due of the other, and the slices of the code's run come to an end
  settled_alike : (t : ℤ) (a : Run Replay) (b : Run Stopped) → SameRun t Never a b
      → (let left = run.settled cod (run.most_slices b) b in
      run.first_due left.store.now left.due ≡ None)
      → (let left = run.settled src (run.most_slices a) a in
      run.first_due left.store.now left.due ≡ None)
  settled_alike t a b same none =
      let most : run.most_slices a ≡ run.most_slices b =
      ap (λ l. suc fresh * (l + 4_096))
      (same_count (SameAt a.store) Never a.shreds b.shreds same.shreds) in
      let left = settled_same t (run.most_slices b) a b same in
      subst (λ m. run.first_due (run.settled src m a).store.now (run.settled src m a).due ≡ None)
      (sym most)
      (ap (λ s. run.first_due s.now (run.settled src (run.most_slices b) a).due) left.store
      ∙ ap (run.first_due (run.settled cod (run.most_slices b) b).store.now) left.due ∙ none)

  settled_at : (count : ℕ) → count ≤ MAX_SAMPLES → IsSettled program count
  settled_at count few =
      settled_alike (pos count) (run_program program count) (run_code code count)
      (run_same count few) (settles_at code count)

  pub same_runs : HasSameRuns program code
  same_runs = record {
    settled = settled_at;
    samples = λ count few. (run_same count few).samples;
    text = λ count few. (run_same count few).text;
    wakes = λ count few. (run_same count few).wakes;
    store = λ count few. (run_same count few).store;
  }
