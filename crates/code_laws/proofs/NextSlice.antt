-- A shred in a run: it stopped some slices ago, and the run's store has gone on since.
use Rattle.std.proofs.Common.{◌≡◌, ◌⊎◌, inl, inr, Bool, true, false, ℕ, ◌≤ℤ◌, ℤ, negsuc, int_lt, arith, List, [], ◌∷◌, ◌++◌, Some, refl, ap, ◌∙◌, subst, slice_get}
use Rattle.std.proofs.lemmas.Int.{ints}
use Rattle.ck_values.specs.declared.trap.Place.{Place}
use Rattle.ck_values.specs.Datum.{Datum}
use Rattle.ck_store.specs.Store.{Keeps, Store, State, Request, At, On, End, Shapes, shapes_of}
use Rattle.ck_store.specs.Steps.{fresh, pick, spent_from, resumed, where_it_goes_on}
use Rattle.ck_typed.specs.Tree.{Fun as TypedFun, Program}
use Rattle.ck_typed.specs.WellFormed.{params_of, IsWellFormed}
use Rattle.ck_code.specs.declared.code.CodeParts.{CodeParts}
use Rattle.ck_code.specs.Fitting.{Suit, IsFitStore, IsFitHalt, ComesAfter, WhereItGoesOn, FollowOneAnother}
use Rattle.ck_code.specs.Verified.{IsVerified}
use Rattle.ck_code.specs.Machine.{Frame, Halt, Ended, Waits, Broke, Unfinished, Stuck, exec, with_turn, slice_on, slices, code_run, enough}
use Rattle.ck_code.proofs.Standing.{kept_same, kept_trans}
use Rattle.ck_code.proofs.Fit.{exec_fits}
use Rattle.ck_code.proofs.Runs.{begins_here, KeepsFrames, keeps_frames, slices_keep, slice_on_fits, follow_more}
use Rattle.ck_meaning.specs.Meaning.{shred_from}
use Rattle.ck_run.specs.Run.{Asked}
use Rattle.ck_scheme.specs.Scheme.{IsScheme}
use Rattle.ck_scheme.specs.Follows.{Agrees, first_state, fun_frames, IsNotWrong}
use Rattle.code_laws.proofs.Verifies.{verified}
use Rattle.code_laws.proofs.Means.{frames_fit, means}

-- a request that isn't for the end, after which a shred goes on
goes_on : (q : Request) (ended next : Halt) → (q ≡ End → ⊥) → where_it_goes_on q ended next ≡ next
goes_on (At time) ended next stays = refl
goes_on (On event) ended next stays = refl
goes_on End ended next stays = absurd (stays refl)

module _ (code : CodeParts) (n k : ℕ) where
  slices_none : (h : Halt) → slices code n k h [] ≡ h
  slices_none (Waits q place frames s) = refl
  slices_none (Ended v s) = refl
  slices_none (Broke t place s) = refl
  slices_none Unfinished = refl
  slices_none Stuck = refl

  -- one more slice, where the shred goes on
  abbrev after : Store → Halt → Halt
  after x (Waits q place frames s) =
      where_it_goes_on q (Waits q place frames s)
      (slice_on code n k place s.store.now s.turns frames x)
  after x h = h

  slices_last : (h : Halt) (ws : List Store) (x : Store)
      → slices code n k h (ws ++ x ∷ []) ≡ after x (slices code n k h ws)
  slices_last (Waits q place frames s) [] x =
      ap (where_it_goes_on q (Waits q place frames s))
      (slices_none (slice_on code n k place s.store.now s.turns frames x))
  slices_last (Waits (At time) place frames s) (w ∷ ws) x =
      slices_last (slice_on code n k place s.store.now s.turns frames w) ws x
  slices_last (Waits (On event) place frames s) (w ∷ ws) x =
      slices_last (slice_on code n k place s.store.now s.turns frames w) ws x
  slices_last (Waits End place frames s) (w ∷ ws) x = refl
  slices_last (Ended v s) ws x = ended ws
    where
      ended : (ws : List Store) → slices code n k (Ended v s) (ws ++ x ∷ [])
          ≡ after x (slices code n k (Ended v s) ws)
      ended [] = refl
      ended (w ∷ ws) = refl
  slices_last (Broke t place s) ws x = broke ws
    where
      broke : (ws : List Store) → slices code n k (Broke t place s) (ws ++ x ∷ [])
          ≡ after x (slices code n k (Broke t place s) ws)
      broke [] = refl
      broke (w ∷ ws) = refl
  slices_last Unfinished [] x = refl
  slices_last Unfinished (w ∷ ws) x = refl
  slices_last Stuck [] x = refl
  slices_last Stuck (w ∷ ws) x = refl

fresh_slice : (code : CodeParts) (n k : ℕ) (place : Place) (frames : List Frame) (w : Store)
    (b : Bool) → with_turn (spent_from (pick b fresh fresh) (record {
      store = w;
      acts = [];
      turns = pick b fresh fresh;
    })) place (record {
      store = w;
      acts = [];
      turns =
          pick b fresh fresh;
    }) (exec code n k frames) ≡ exec code n k frames (first_state w)
unfolding fresh
fresh_slice code n k place frames w true = refl
fresh_slice code n k place frames w false = refl

-- a first slice, as one that goes on from before all times
pub first_slice : (code : CodeParts) (n k : ℕ) (place : Place) (frames : List Frame) (w : Store)
    → slice_on code n k place (negsuc 0) fresh frames w ≡ exec code n k frames (first_state w)
first_slice code n k place frames w =
    fresh_slice code n k place frames w (int_lt (negsuc 0) w.now)

-- a slice that stopped so is its shred's last one, or the shred goes on
pub last_or : {A : Type 0} (q : Request) → ((q ≡ End → ⊥) → A)
    → A ⊎ ((q1 : Request) → Asked q ≡ Asked q1 → q1 ≡ End)
last_or (At time) goes = inl (goes (λ is. cc is))
last_or (On event) goes = inl (goes (λ is. cc is))
last_or End goes = inr (λ q1 same. cc same)

-- what holds where a shred goes on holds where its request isn't for its end
where_it_goes : (q : Request) (P : Type 0) → (q ≡ End → ⊥) → WhereItGoesOn q P → P
where_it_goes (At time) P stays h = h
where_it_goes (On event) P stays h = h
where_it_goes End P stays h = absurd (stays refl)

module _ (program : Program) (fine : IsWellFormed program) (code : CodeParts)
    (scheme : IsScheme program code) where
  abbrev V : IsVerified code
  V = verified program fine code scheme

  -- how the first slice goes
  abbrev pub begun : (n f : ℕ) → TypedFun → List Datum → Store → Halt
  begun n f fn vs w = exec code n (enough code) (fun_frames f fn vs) (first_state w)

  -- a shred that stopped with this request, which isn't for its end, whose slices found these stores,
  -- beside a run that has gone on to these objects and this time
  pub record Sleeps (n f : ℕ) (fn : TypedFun) (vs : List Datum) (w : Store) (ws : List Store)
      (q : Request) (place : Place) (frames : List Frame) (s : State) (shapes : Shapes)
      (now : ℤ) : Type 0 where
    pub stays : q ≡ End → ⊥
    pub at_fun : slice_get program.funs f ≡ Some fn
    pub suits : Suit code.classes (shapes_of w) (params_of fn) vs
    pub fits : IsFitStore code w
    pub follow : FollowOneAnother code n (enough code) (begun n f fn vs w) ws
    pub stopped : code_run code n (enough code) (fun_frames f fn vs) (first_state w) ws
        ≡ Waits q place frames s
    pub kept : Keeps (shapes_of s.store) shapes
    pub earlier : s.store.now ≤ℤ now

  -- what others do leaves it asleep
  pub sleeps_on : {n f : ℕ} {fn : TypedFun} {vs : List Datum} {w : Store} {ws : List Store}
      {q : Request} {place : Place} {frames : List Frame} {s : State}
      (shapes next : Shapes) (now later : ℤ) → Keeps shapes next → now ≤ℤ later
      → Sleeps n f fn vs w ws q place frames s shapes now
      → Sleeps n f fn vs w ws q place frames s next later
  sleeps_on {s = s} shapes next now later kept le h = record {
    stays = h.stays;
    at_fun = h.at_fun;
    suits = h.suits;
    fits = h.fits;
    follow = h.follow;
    stopped = h.stopped;
    kept = kept_trans (shapes_of s.store) shapes next h.kept kept;
    earlier = omega (arith, ints, h.earlier, le);
  }

  -- its next slice: it is what the replay on one more store gives, and leaves what fits; and where it
  -- stops, the shred sleeps again
  pub record Wakes (n f : ℕ) (fn : TypedFun) (vs : List Datum) (w : Store) (ws : List Store)
      (start : State) (h : Halt) : Type 0 where
    pub agrees : Agrees h (shred_from program n fn vs w ws)
    pub not_wrong : IsNotWrong (shred_from program n fn vs w ws)
    pub fits : IsFitHalt code V.typing f start h
    pub again : (q : Request) (place : Place) (frames : List Frame) (s : State)
        → h ≡ Waits q place frames s → (q ≡ End → ⊥)
        → Sleeps n f fn vs w ws q place frames s (shapes_of s.store) s.store.now

  -- the slice of a shred that sleeps
  pub wakes : (n f : ℕ) (fn : TypedFun) (vs : List Datum) (w : Store) (ws : List Store)
      (q : Request) (place : Place) (frames : List Frame) (s : State) (present : Store)
      → Sleeps n f fn vs w ws q place frames s (shapes_of present) present.now → IsFitStore code present
      → Wakes n f fn vs w (ws ++ present ∷ []) (resumed s.store.now s.turns present)
      (slice_on code n (enough code) place s.store.now s.turns frames present)
  wakes n f fn vs w ws q place frames s present h fit =
      let comes : ComesAfter code s.store present =
      record { fits = fit; later = h.earlier; kept = h.kept } in
      let follow =
      follow_more code V f n (enough code)
      (begun n f fn vs w) ws q place frames s present h.follow h.stopped comes in
      let same : code_run code n (enough code) (fun_frames f fn vs) (first_state w) (ws ++ present
      ∷ []) ≡ slice_on code n (enough code) place s.store.now s.turns frames present =
      slices_last code n (enough code) (begun n f fn vs w) ws present
      ∙ ap (after code n (enough code) present) h.stopped
      ∙ goes_on q (Waits q place frames s) _ h.stays in
      let first = frames_fit program fine code scheme f fn (shapes_of w) vs h.at_fun h.suits in
      let left =
      slices_keep code V f n (enough code) (begun n f fn vs w) ws
      (keeps_frames code V f n (first_state w) _
      (exec_fits code V f (first_state w) n (enough code) (fun_frames f fn vs)
      (first_state w) first (begins_here code V f n (first_state w) h.fits))) h.follow in
      let stands = where_it_goes q _ h.stays (subst (KeepsFrames code V f n) h.stopped left) in
      record {
        agrees = subst (λ x. Agrees x (shred_from program n fn vs w (ws ++ present ∷ []))) same
            ((means program fine code scheme).agrees n f fn vs w (ws ++ present
            ∷ []) h.at_fun h.suits h.fits follow);
        not_wrong =
            (means program fine code scheme).not_wrong n f fn vs w (ws ++ present
            ∷ []) h.at_fun h.suits h.fits follow;
        fits = slice_on_fits code V f n
            (enough code) place s.store s.turns frames present stands comes;
        again = λ q1 place1 frames1 s1 e stays. record {
          stays = stays;
          at_fun = h.at_fun;
          suits = h.suits;
          fits = h.fits;
          follow = follow;
          stopped = same ∙ e;
          kept = kept_same (shapes_of s1.store);
          earlier = omega (arith, ints);
        };
      }

  follow_none : (n : ℕ) (h : Halt) → FollowOneAnother code n (enough code) h []
  follow_none n (Waits q place frames s) = tt
  follow_none n (Ended v s) = tt
  follow_none n (Broke trap place s) = tt
  follow_none n Unfinished = tt
  follow_none n Stuck = tt

  -- the first slice of a shred
  pub wakes_first : (n f : ℕ) (fn : TypedFun) (vs : List Datum) (w : Store)
      → slice_get program.funs f ≡ Some fn → Suit code.classes (shapes_of w) (params_of fn) vs
      → IsFitStore code w → Wakes n f fn vs w [] (first_state w) (begun n f fn vs w)
  wakes_first n f fn vs w at_fun suits fits =
      let follow = follow_none n (begun n f fn vs w) in
      let same : code_run code n (enough code) (fun_frames f fn vs) (first_state w) []
      ≡ begun n f fn vs w = slices_none code n (enough code) (begun n f fn vs w) in
      let means = means program fine code scheme in
      let first = frames_fit program fine code scheme f fn (shapes_of w) vs at_fun suits in
      record {
        agrees = subst (λ x. Agrees x (shred_from program n fn vs w [])) same
            (means.agrees n f fn vs w [] at_fun suits fits follow);
        not_wrong = means.not_wrong n f fn vs w [] at_fun suits fits follow;
        fits = exec_fits code V f (first_state w) n (enough code) (fun_frames f fn vs)
            (first_state w) first (begins_here code V f n (first_state w) fits);
        again = λ q place frames s e stays. record {
          stays = stays;
          at_fun = at_fun;
          suits = suits;
          fits = fits;
          follow = follow;
          stopped = same ∙ e;
          kept = kept_same (shapes_of s.store);
          earlier = omega (arith, ints);
        };
      }
