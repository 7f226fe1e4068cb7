-- A sound run stays sound, and all that is due runs: the bound of slices is never met.
use Rattle.std.proofs.Common.{◌≡◌, ℕ, zero, suc, ◌+◌, ◌-◌, ◌*◌, ◌<◌, ◌≤◌, ℤ, pos, int_lt, int_le, Bool, true, false, cond, not, ◌&&◌, nat_eq, List, [], ◌∷◌, ◌++◌, All, fold, filter, find, map, length, Option, Some, None, ◌⊎◌, inl, inr, refl, sym, ap, ◌∙◌, subst, arith}
use Rattle.std.proofs.lemmas.Int.{ints}
use Rattle.std.proofs.lemmas.Bool.{ne_eqb, eq-eqb, eqb-true}
use Rattle.std.proofs.lemmas.List.Elements.{All-nil, All-cons, All-head, All-tail, All-weaker}
use Rattle.ck_base.specs.declared.limits.TheConstants.{MAX_SPORKS, MAX_SAMPLES}
use Rattle.ck_values.specs.declared.kind.Kind.{Kind}
use Rattle.ck_store.specs.Steps.{pick, fresh}
use Rattle.ck_store.specs.Store.{Store, first_store, At, On, End}
use Rattle.ck_run.specs.Run.{Stop, Asked, Trapped, WentWrong, Slice, Runner, Shred, Due, Wait, Wake, Run, has, live, with_due, end_with, ended, applied, carried_out_where, trap_of, came, noted, after_slice, run_slice, sooner, first_due, after_sample, sampled, after_due, settled, most_slices, first_shreds, first_due_of, first_run, run_of}
use Rattle.ck_run.specs.Counts.{hit, times, weight}
use Rattle.ck_run.specs.Family.{AreInOrder, AreParented, IsFamily}
use Rattle.ck_run.specs.Sound.{sporks_in, Goes, IsKept, IsLawful, times_due, times_waiting, times_live, IsSound, measure, BeginsFit}
use Rattle.ck_run.proofs.Children.{first_family}
use Rattle.ck_run.proofs.Lists.{hit-same, same, other, turn, times-append, times-filter, times-filter_le, found_has, found_times, none_times}
use Rattle.ck_run.proofs.Blur.{ends_itself, number-came}
use Rattle.ck_run.proofs.Orderly.{live-once}
use Rattle.ck_run.proofs.Acting.{acting_ended, load, FitsWhere, IsActing, acting_acts}

-- what is due first stands among what is due
sooner_among : (d e : Due) (o : Option Due) → Some (sooner d o) ≡ Some e → (d ≡ e) ⊎ (o ≡ Some e)
sooner_among d e None is = inl (cc is)
sooner_among d e (Some f) is = by (int_lt f.time d.time) is
  where
    by : (b : Bool) → Some (pick b f d) ≡ Some e → (d ≡ e) ⊎ (Some f ≡ Some e)
    by true is2 = inr is2
    by false is2 = inl (cc is2)

pub due_among : (now : ℤ) (due : List Due) (d : Due) → first_due now due ≡ Some d
    → 1 ≤ times (λ (d : Due). d.shred) d.shred due
due_among now [] d is = absurd (cc is)
due_among now (e ∷ rest) d is = by (int_le e.time now) is (due_among now rest d)
  where
    by : (b : Bool) → pick b (Some (sooner e (first_due now rest))) (first_due now rest) ≡ Some d
        → (first_due now rest ≡ Some d → 1 ≤ times (λ (d : Due). d.shred) d.shred rest)
        → 1 ≤ hit d.shred e.shred + times (λ (d : Due). d.shred) d.shred rest
    by true found ih = elim (sooner_among e d (first_due now rest) found) [
      | inl at ↦ omega (arith, hit-same d.shred e.shred (ap (λ (d : Due). d.shred) (sym at)))
      | inr at ↦ omega
          (arith, ih at)
    ]
    by false found ih = omega (arith, ih found)

-- whether a stop lets its shred go on
abbrev goes_of : Stop → Bool
goes_of (Asked (At time)) = true
goes_of (Asked (On event)) = true
goes_of (Asked End) = false
goes_of (Trapped trap place) = false
goes_of WentWrong = false

goes_true : (stop : Stop) → goes_of stop ≡ true → Goes stop
goes_true (Asked (At time)) e = tt
goes_true (Asked (On event)) e = tt
goes_true (Asked End) e = absurd (cc e)
goes_true (Trapped trap place) e = absurd (cc e)
goes_true WentWrong e = absurd (cc e)

module _ {P : Type 0} where
  times-came : (n m : ℕ) (p : P) (shreds : List (Shred P)) → times (λ (s : Shred P). s.number) m
      (map (came n p) shreds) ≡ times (λ (s : Shred P). s.number) m shreds
  times-came n m p [] = refl
  times-came n m p (s ∷ rest) = ap (λ k. hit m k + times (λ (s : Shred P). s.number) m (map (came n p) rest))
      (number-came n p s) ∙ ap (λ t. hit m s.number + t) (times-came n m p rest)

  order-came : (n : ℕ) (p : P) (shreds : List (Shred P)) (from below : ℕ) → AreInOrder from below shreds
      → AreInOrder from below (map (came n p) shreds)
  order-came n p [] from below order = tt
  order-came n p (s ∷ rest) from below order =
      subst (λ k. (from ≤ k) × (k < below) × AreInOrder (suc k) below (map (came n p) rest))
      (sym (number-came n p s)) (order.0, order.1, order-came n p rest (suc s.number) below order.2)

  parents-came : (n : ℕ) (p : P) (shreds : List (Shred P)) (before : List ℕ) → AreParented before shreds
      → AreParented before (map (came n p) shreds)
  parents-came n p [] before parents = tt
  parents-came n p (s ∷ rest) before parents =
      by (nat_eq s.number n) (parents-came n p rest (before ++ s.number ∷ []) parents.1)
    where
      by : (b : Bool) → AreParented (before ++ s.number ∷ []) (map (came n p) rest)
          → AreParented before (pick b (record s { progress = p }) s ∷ map (came n p) rest)
      by true ih = (parents.0, ih)
      by false ih = (parents.0, ih)

  -- without the one of this number, all are as they were
  pub none-came : (n : ℕ) (p : P) (shreds : List (Shred P)) → times (λ (s : Shred P). s.number) n shreds ≡ 0
      → map (came n p) shreds ≡ shreds
  none-came n p [] none = refl
  none-came n p (s ∷ rest) none =
      let ne : nat_eq s.number n ≡ false =
      ne_eqb s.number n (λ e. omega (arith, none, hit-same n s.number (sym e))) in
      ap (λ b. pick b (record s { progress = p }) s ∷ map (came n p) rest) ne
      ∙ ap (λ r. s ∷ r) (none-came n p rest (omega (arith, none)))

module _ {P : Type 0} (runner : Runner P) (turns : ℤ → P → ℕ) (FitStore : Store → Type 0) (Fits : Store → P
    → Type 0) (lawful : IsLawful runner turns FitStore Fits) where
  abbrev Sound : Run P → Type 0
  Sound run = IsSound FitStore Fits run

  abbrev full : ℤ → Shred P → ℕ
  full now s = suc (turns now s.progress)

  -- the running shred, by its slice, lowers the weight
  module _ (goes : Bool) (n : ℕ) (now : ℤ) (p q : P) (less : goes ≡ true → suc (turns now q) ≤ turns now p) where
    load-less : (s : Shred P) → s.progress ≡ p → s.number ≡ n → load runner turns FitStore Fits lawful goes n now
        (record s { progress = q }) + 1 ≤ full now s
    load-less s at e =
        ap_le (by goes refl)
      where
        by : (b : Bool) → goes ≡ b → pick (true && not b) 0 (suc (turns now q)) + 1 ≤ suc (turns now p)
        by true is = omega (arith, less is)
        by false is = omega arith

        ap_le : pick (true && not goes) 0 (suc (turns now q)) + 1 ≤ suc (turns now p)
            → pick (nat_eq s.number n && not goes) 0 (suc (turns now q)) + 1 ≤ suc (turns now s.progress)
        ap_le le = omega (
          arith,
          le,
          ap (λ b. pick (b && not goes) 0 (suc (turns now q))) (eq-eqb s.number n e),
          ap (λ r. turns now r) at,
        )

    load-none : (shreds : List (Shred P)) → times (λ (s : Shred P). s.number) n shreds ≡ 0
        → weight (load runner turns FitStore Fits lawful goes n now) shreds ≡ weight (full now) shreds
    load-none [] none = refl
    load-none (s ∷ rest) none =
        let ne : nat_eq s.number n ≡ false =
        ne_eqb s.number n (λ e. omega (arith, none, hit-same n s.number (sym e))) in
        let here : load runner turns FitStore Fits lawful goes n now s ≡ full now s =
        ap (λ b. pick (b && not goes) 0 (suc (turns now s.progress))) ne in
        omega (arith, here, load-none rest (omega (arith, none)))

    load-came : (shreds : List (Shred P)) (s : Shred P) → times (λ (s : Shred P). s.number) n shreds ≤ 1
        → find (λ s. nat_eq s.number n) shreds ≡ Some s → s.progress ≡ p
        → weight (load runner turns FitStore Fits lawful goes n now) (map (came n q) shreds) + 1 ≤ weight
        (full now) shreds
    load-came [] s once found at = absurd (cc found)
    load-came (t ∷ rest) s once found at = by (nat_eq t.number n) refl found (load-came rest s)
      where
        by : (b : Bool) → nat_eq t.number n ≡ b → cond b (Some t) (find (λ s. nat_eq s.number n) rest) ≡ Some s
            → (times (λ (s : Shred P). s.number) n rest ≤ 1 → find (λ s. nat_eq s.number n) rest ≡ Some s
            → s.progress ≡ p → weight (load runner turns FitStore Fits lawful goes n now) (map (came n q) rest)
            + 1 ≤ weight (full now) rest)
            → load runner turns FitStore Fits lawful goes n now (pick b (record t { progress = q }) t) + weight
            (load runner turns FitStore Fits lawful goes n now) (map (came n q) rest) + 1 ≤ full now t + weight
            (full now) rest
        by true e is ih =
            let same_t : t ≡ s = cc is in
            let number = eqb-true t.number n e in
            let none : times (λ (s : Shred P). s.number) n rest ≡ 0 =
            omega (arith, once, hit-same n t.number (sym number)) in
            let rest_is : weight (load runner turns FitStore Fits lawful goes n now) (map (came n q) rest) ≡ weight
            (full now) rest = ap (weight (load runner turns FitStore Fits lawful goes n now))
            (none-came n q rest none) ∙ load-none rest none in
            omega (arith, rest_is, load-less t (ap (λ (s : Shred P). s.progress) same_t ∙ at) number)
        by false e is ih =
            let here : load runner turns FitStore Fits lawful goes n now t ≡ full now t =
            ap (λ b. pick (b && not goes) 0 (suc (turns now t.progress))) e in
            omega (arith, here, ih (omega (arith, once)) is at)

  fits_came : (goes : Bool) (n : ℕ) (q : P) (store : Store) (goes_fits : goes ≡ true → Fits store q)
      (shreds : List (Shred P)) → All (λ (s : Shred P). Fits store s.progress) shreds
      → All (FitsWhere runner turns FitStore Fits lawful goes n store) (map (came n q) shreds)
  fits_came goes n q store goes_fits [] all = All-nil (FitsWhere runner turns FitStore Fits lawful goes n store)
  fits_came goes n q store goes_fits (s ∷ rest) all =
      All-cons (FitsWhere runner turns FitStore Fits lawful goes n store) (came n q s) (map (came n q) rest)
      (by (nat_eq s.number n) refl)
      (fits_came goes n q store goes_fits rest (All-tail (λ (s : Shred P). Fits store s.progress) s rest all))
    where
      by : (b : Bool) → nat_eq s.number n ≡ b → FitsWhere runner turns FitStore Fits lawful goes n store
          (pick b (record s { progress = q }) s)
      by true e where_goes = goes_fits (where_goes (eqb-true s.number n e))
      by false e where_goes = All-head (λ (s : Shred P). Fits store s.progress) s rest all

  -- a run from which a shred that is due was taken
  pub record IsTaken (n : ℕ) (run : Run P) : Type 0 where
    pub sound : Sound run
    pub idle : times_due n run + times_waiting n run ≡ 0

  pub taken_sound : (run : Run P) (d : Due) → Sound run → first_due run.store.now run.due ≡ Some d
      → IsTaken d.shred (record run { due = filter (λ other. not (nat_eq other.shred d.shred)) run.due })
  taken_sound run d sound is =
      let keep : ℕ → Bool = λ j. not (nat_eq j d.shred) in
      let le = λ (m : ℕ). times-filter_le (λ (d : Due). d.shred) m (λ due. keep due.shred) run.due in
      let out : pick (keep d.shred) (times_due d.shred run) 0 ≡ 0 = ap (λ b. pick (not b) (times_due d.shred run) 0)
      (eq-eqb d.shred d.shred refl) in
      record {
        sound = record {
          store = sound.store;
          family = sound.family;
          once = λ m. omega (arith, le m, sound.once m);
          fits = sound.fits;
        };
        idle = omega (
          arith,
          times-filter (λ (d : Due). d.shred) d.shred keep run.due,
          out,
          due_among run.store.now run.due d is,
          sound.once d.shred,
          live-once run.shreds 1 run.store.next_shred
              d.shred sound.family.order,
        );
      }

  -- what is due is live
  pub due_live : (run : Run P) (d : Due) → Sound run → first_due run.store.now run.due ≡ Some d
      → live run d.shred ≡ None → ⊥
  due_live run d sound is none = omega (
    arith,
    due_among run.store.now run.due d is,
    sound.once d.shred,
    none_times (λ (s : Shred P). s.number) d.shred run.shreds none,
  )

  module _ (n : ℕ) (goes : Bool) (k room : ℕ) (start : Store) (run : Run P)
      (acting : IsActing runner turns FitStore Fits lawful goes n k room start run)
      (all : k ≡ start.next_shred) where
    abbrev Light : Run P → Type 0
    Light after = (after.store.now ≡ start.now) × (after.store.sporks ≡ start.sporks)
        × (weight (full start.now) after.shreds ≤ room)

    family_all : IsFamily run.store.next_shred run.shreds
    family_all = subst (λ j. IsFamily j run.shreds) (all ∙ sym acting.next_is) acting.family

    all_full : goes ≡ true → weight (load runner turns FitStore Fits lawful goes n start.now) run.shreds ≡ weight
        (full start.now) run.shreds
    all_full is = ap (λ b. weight (load runner turns FitStore Fits lawful b n start.now) run.shreds) is
        ∙ alike run.shreds
      where
        or_not : (b : Bool) → b && false ≡ false
        or_not true = refl
        or_not false = refl

        alike : (shreds : List (Shred P)) → weight (load runner turns FitStore Fits lawful true n start.now)
            shreds ≡ weight (full start.now) shreds
        alike [] = refl
        alike (s ∷ rest) = let here : load runner turns FitStore Fits lawful true n start.now s ≡ full start.now s =
            ap (λ b. pick b 0 (suc (turns start.now s.progress))) (or_not (nat_eq s.number n)) in omega
            (arith, here, alike rest)

    -- where it goes on
    went : goes ≡ true → (P1 : Run P → Type 0) → P1 run → P1 run
    went is P1 h = h

    pub going_due : goes ≡ true → (time : ℤ) (s : Shred P) → live run n ≡ Some s → s.number ≡ n
        → Sound (with_due run time s.number) × Light (with_due run time s.number)
    going_due is time s found number =
        let due : Due = record { time = time; shred = s.number } in (
          record {
            store = acting.store;
            family = family_all;
            once = λ m. elim (turn m s.number) [
              | same e h ↦
                  let e2 : m ≡ n = e ∙ number in
                  let idle : times_due m run + times_waiting m run ≡ 0 =
                  ap (λ j. times_due j run + times_waiting j run) e2 ∙ acting.idle in
                  let some : 1 ≤ times_live m run = subst (λ j. 1 ≤ times_live j run) (sym e2)
                  (found_times (λ (s : Shred P). s.number) n run.shreds s found).1 in
                  omega (arith, idle, some, h, times-append (λ (d : Due). d.shred) m run.due (due ∷ []))
              | other ne h ↦ omega (
                arith,
                h,
                acting.once m,
                times-append (λ (d : Due). d.shred) m run.due
                    (due ∷ []),
              )
            ];
            fits = All-weaker (FitsWhere runner turns FitStore Fits lawful goes n run.store)
                (λ (s : Shred P). Fits run.store s.progress) (λ s h. h (λ e. is)) run.shreds acting.fits;
          },
          (acting.now_is, acting.sporks_is, omega (arith, all_full is, acting.light)),
        )

    pub going_waits : goes ≡ true → (event : ℕ) (s : Shred P) → live run n ≡ Some s → s.number ≡ n
        → Sound (record run { waits = run.waits ++ record { event = event; shred = s.number } ∷ [] })
        × Light (record run { waits = run.waits ++ record { event = event; shred = s.number } ∷ [] })
    going_waits is event s found number =
        let wait : Wait = record { event = event; shred = s.number } in (
          record {
            store = acting.store;
            family = family_all;
            once = λ m. elim (turn m s.number) [
              | same e h ↦
                  let e2 : m ≡ n = e ∙ number in
                  let idle : times_due m run + times_waiting m run ≡ 0 =
                  ap (λ j. times_due j run + times_waiting j run) e2 ∙ acting.idle in
                  let some : 1 ≤ times_live m run = subst (λ j. 1 ≤ times_live j run) (sym e2)
                  (found_times (λ (s : Shred P). s.number) n run.shreds s found).1 in
                  omega (arith, idle, some, h, times-append (λ (w : Wait). w.shred) m run.waits (wait ∷ []))
              | other ne h ↦ omega (
                arith,
                h,
                acting.once m,
                times-append (λ (w : Wait). w.shred) m run.waits
                    (wait ∷ []),
              )
            ];
            fits = All-weaker (FitsWhere runner turns FitStore Fits lawful goes n run.store)
                (λ (s : Shred P). Fits run.store s.progress) (λ s h. h (λ e. is)) run.shreds acting.fits;
          },
          (acting.now_is, acting.sporks_is, omega (arith, all_full is, acting.light)),
        )

    -- without the shred itself
    apart_full : (shreds : List (Shred P)) → times (λ (s : Shred P). s.number) n shreds ≡ 0
        → weight (load runner turns FitStore Fits lawful goes n start.now) shreds ≡ weight (full start.now) shreds
    apart_full [] none = refl
    apart_full (s ∷ rest) none =
        let ne : nat_eq s.number n ≡ false =
        ne_eqb s.number n (λ e. omega (arith, none, hit-same n s.number (sym e))) in
        let here : load runner turns FitStore Fits lawful goes n start.now s ≡ full start.now s =
        ap (λ b. pick (b && not goes) 0 (suc (turns start.now s.progress))) ne in
        omega (arith, here, apart_full rest (omega (arith, none)))

    apart_fits : (store : Store) (shreds : List (Shred P)) → times (λ (s : Shred P). s.number) n shreds ≡ 0
        → All (FitsWhere runner turns FitStore Fits lawful goes n store) shreds
        → All (λ (s : Shred P). Fits store s.progress) shreds
    apart_fits store [] none all_fit = All-nil (λ (s : Shred P). Fits store s.progress)
    apart_fits store (s ∷ rest) none all_fit =
        All-cons (λ (s : Shred P). Fits store s.progress) s rest
        (All-head (FitsWhere runner turns FitStore Fits lawful goes n store) s rest all_fit
        (λ e. absurd (omega (arith, none, hit-same n s.number (sym e)))))
        (apart_fits store rest (omega (arith, none))
        (All-tail (FitsWhere runner turns FitStore Fits lawful goes n store) s rest all_fit))

    pub dropped : times_live n run ≡ 0 → Sound run × Light run
    dropped none = (
      record {
        store = acting.store;
        family = family_all;
        once = acting.once;
        fits =
            apart_fits run.store run.shreds none acting.fits;
      },
      (acting.now_is, acting.sporks_is, omega (arith, apart_full run.shreds none, acting.light)),
    )

  -- after its acts, the shred's request is carried out
  abbrev Rest : (start : Store) (room : ℕ) → Run P → Type 0
  Rest start room after = Sound after × (after.store.now ≡ start.now) × (after.store.sporks ≡ start.sporks)
      × (weight (full start.now) after.shreds ≤ room)

  rest_of : (start : Store) (room : ℕ) (after : Run P) → Sound after
      × ((after.store.now ≡ start.now) × (after.store.sporks ≡ start.sporks)
      × (weight (full start.now) after.shreds ≤ room)) → Rest start room after
  rest_of start room after h = (h.0, h.1.0, h.1.1, h.1.2)

  module _ (n : ℕ) (room : ℕ) (start : Store) where
    with_ends : (run : Run P) (s : Shred P) (stop : Stop) → IsActing runner turns FitStore Fits lawful false n
        start.next_shred room start run → live run n ≡ Some s → Rest start room (ended run s.number)
    with_ends run s stop acting found =
        let number = (found_times (λ (s : Shred P). s.number) n run.shreds s found).0 in
        let gone = end_with n run.shreds in
        let out : pick (not (has gone n)) (times_live n run) 0 ≡ 0 = ap (λ b. pick (not b) (times_live n run) 0)
        (ends_itself n [] run.shreds s found) in
        let none : times_live n (ended run n) ≡ 0 = times-filter (λ (s : Shred P). s.number) n
        (λ j. not (has gone j)) run.shreds ∙ out in
        subst (λ m. Rest start room (ended run m)) (sym number)
        (rest_of start room (ended run n) (dropped n false start.next_shred room start (ended run n)
        (acting_ended runner turns FitStore Fits lawful false n start run start.next_shred room n acting) refl
        none))

    carried : (run : Run P) (stop : Stop) (o : Option (Shred P)) → IsActing runner turns FitStore Fits lawful
        (goes_of stop) n start.next_shred room start run → live run n ≡ o
        → Rest start room (carried_out_where run o stop)
    carried run stop None acting none =
        rest_of start room run (dropped n (goes_of stop) start.next_shred room start run acting refl
        (none_times (λ (s : Shred P). s.number) n run.shreds none))
    carried run (Asked (At time)) (Some s) acting found =
        rest_of start room (with_due run time s.number)
        (going_due n true start.next_shred room start run acting refl refl time s found
        (found_times (λ (s : Shred P). s.number) n run.shreds s found).0)
    carried run (Asked (On event)) (Some s) acting found =
        rest_of start room (record run { waits = run.waits ++ record { event = event; shred = s.number } ∷ [] })
        (going_waits n true start.next_shred room start run acting refl refl event s found
        (found_times (λ (s : Shred P). s.number) n run.shreds s found).0)
    carried run (Asked End) (Some s) acting found = with_ends run s (Asked End) acting found
    carried run (Trapped trap place) (Some s) acting found = with_ends run s (Trapped trap place) acting found
    carried run WentWrong (Some s) acting found = with_ends run s WentWrong acting found

  order-below : (shreds : List (Shred P)) (from below : ℕ) → AreInOrder from below shreds
      → All (λ (s : Shred P). s.number < below) shreds
  order-below [] from below order = All-nil (λ (s : Shred P). s.number < below)
  order-below (s ∷ rest) from below order = All-cons (λ (s : Shred P). s.number < below) s rest order.1
      (order-below rest (suc s.number) below order.2)

  sporks_left : (a b i m : ℕ) → b + i ≤ m → a * i + a * (m - (b + i)) ≡ a * (m - b)
  sporks_left a b i m le = let e : m - b ≡ i + (m - (b + i)) = omega (arith, le) in omega (arith, ap (λ x. a * x) e)

  -- what a slice of a shred that was due leaves
  pub record Leaves (before after : Run P) : Type 0 where
    pub sound : Sound after
    pub now : after.store.now ≡ before.store.now
    pub fewer : measure turns after < measure turns before

  pub noted_acting : (goes : Bool) (n k room : ℕ) (start : Store) (run : Run P) (wake : Wake)
      → IsActing runner turns FitStore Fits lawful goes n k room start run
      → IsActing runner turns FitStore Fits lawful goes n k room start (noted run wake)
  noted_acting goes n k room start run wake acting = record {
    below = acting.below;
    store = acting.store;
    now_is = acting.now_is;
    next_is = acting.next_is;
    sporks_is = acting.sporks_is;
    since = acting.since;
    family = acting.family;
    once = acting.once;
    idle = acting.idle;
    fits = acting.fits;
    light = acting.light;
  }

  module _ (run : Run P) (s : Shred P) (taken : IsTaken s.number run) (found : live run s.number ≡ Some s)
      (slice : Slice P) (kept : IsKept runner turns FitStore Fits s.progress run.store slice) where
    abbrev left : Run P
    left = record run {
      store = slice.store;
      shreds = map (came s.number slice.progress) run.shreds;
      begun =
          run.begun + slice.begun;
    }

    pub left_acting : IsActing runner turns FitStore Fits lawful (goes_of slice.stop) s.number run.store.next_shred
        (weight (full run.store.now) run.shreds - 1) slice.store left
    left_acting =
        let goes = λ (is : goes_of slice.stop ≡ true). kept.goes (goes_true slice.stop is) in
        let order = taken.sound.family.order in
        let lighter = load-came (goes_of slice.stop) s.number run.store.now s.progress slice.progress
        (λ is. (goes is).1) run.shreds s (live-once run.shreds 1 run.store.next_shred s.number order) found
        refl in
        record {
          below = (found_has (λ (s : Shred P). s.number < run.store.next_shred) (λ t. nat_eq t.number s.number)
              run.shreds s (order-below run.shreds 1 run.store.next_shred order) found).1;
          store = kept.store;
          now_is = refl;
          next_is = refl;
          sporks_is = refl;
          since = λ p fits. fits;
          family = record {
            order = order-came s.number slice.progress run.shreds 1 run.store.next_shred order;
            parents = parents-came s.number slice.progress run.shreds [] taken.sound.family.parents;
          };
          once = λ m. omega (arith, taken.sound.once m, times-came s.number m slice.progress run.shreds);
          idle = taken.idle;
          fits = fits_came (goes_of slice.stop) s.number slice.progress slice.store (λ is. (goes is).0) run.shreds
              (All-weaker (λ (s : Shred P). Fits run.store s.progress)
              (λ (s : Shred P). Fits slice.store s.progress) (λ t fits. kept.others t.progress fits) run.shreds
              taken.sound.fits);
          light = subst (λ now. weight (load runner turns FitStore Fits lawful (goes_of slice.stop) s.number now)
              (map (came s.number slice.progress) run.shreds) ≤ weight (full run.store.now) run.shreds - 1)
              (sym kept.now) (omega (arith, lighter));
        }

    pub slice_leaves : Leaves run (after_slice runner run s.number slice)
    slice_leaves =
        let room = weight (full run.store.now) run.shreds - 1 in
        let more = suc fresh * sporks_in slice.acts in
        let acting = acting_acts runner turns FitStore Fits lawful (goes_of slice.stop) s.number slice.store
        slice.acts left run.store.next_shred slice.store.next_shred room left_acting kept.numbered kept.children in
        let acted = noted (fold (applied runner s.number) left slice.acts)
        (record { time = slice.store.now; shred = s.number; trap = trap_of slice.stop }) in
        let after = after_slice runner run s.number slice in
        let rest = carried s.number (room + more) slice.store acted slice.stop (live acted s.number)
        (noted_acting (goes_of slice.stop) s.number slice.store.next_shred (room + more) slice.store
        (fold (applied runner s.number) left slice.acts) _ acting) refl in
        let few = lawful.few_sporks slice.store kept.store in
        let sum = sporks_left (suc fresh) run.store.sporks (sporks_in slice.acts) MAX_SPORKS
        (omega (arith, few, kept.sporks)) in
        let light : weight (full after.store.now) after.shreds ≤ room + more =
        subst (λ now. weight (full now) after.shreds ≤ room + more) (sym rest.1) rest.3 in
        let sporks : suc fresh * (MAX_SPORKS - after.store.sporks) ≡ suc fresh *
        (MAX_SPORKS - (run.store.sporks + sporks_in slice.acts)) = ap (λ x. suc fresh * (MAX_SPORKS - x))
        (rest.2 ∙ sym kept.sporks) in
        let some : 1 ≤ weight (full run.store.now) run.shreds = weight_some run.shreds s found in
        record { sound = rest.0; now = rest.1 ∙ kept.now; fewer = omega (arith, light, sporks, sum, some) }
      where
        weight_some : (shreds : List (Shred P)) (t : Shred P) → find (λ t. nat_eq t.number s.number) shreds ≡ Some t
            → 1 ≤ weight (full run.store.now) shreds
        weight_some [] t is = absurd (cc is)
        weight_some (u ∷ rest) t is = omega arith

  -- the slice of what is due
  pub due_leaves : (run : Run P) (d : Due) → Sound run → first_due run.store.now run.due ≡ Some d
      → (let taken = record run { due = filter (λ other. not (nat_eq other.shred d.shred)) run.due } in Leaves run
      (run_slice runner taken (live run d.shred)))
  due_leaves run d sound is = by (live run d.shred) refl
    where
      taken : Run P
      taken = record run { due = filter (λ other. not (nat_eq other.shred d.shred)) run.due }

      by : (o : Option (Shred P)) → live run d.shred ≡ o → Leaves run (run_slice runner taken o)
      by None none = absurd (due_live run d sound is none)
      by (Some s) found =
          let number : s.number ≡ d.shred =
          (found_times (λ (s : Shred P). s.number) d.shred run.shreds s found).0 in
          let kept = lawful.slices s.number s.progress run.store sound.store
          (found_has (λ (s : Shred P). Fits run.store s.progress) (λ t. nat_eq t.number d.shred) run.shreds s
          sound.fits found).1 in
          let leaves = slice_leaves taken s (subst (λ n. IsTaken n taken) (sym number) (taken_sound run d sound is))
          (subst (λ n. live run n ≡ Some s) (sym number) found) (runner.slice s.number s.progress run.store)
          kept in
          record { sound = leaves.sound; now = leaves.now; fewer = leaves.fewer }

  -- all that is due runs
  pub record Settles (before after : Run P) : Type 0 where
    pub sound : Sound after
    pub now : after.store.now ≡ before.store.now
    pub none : first_due after.store.now after.due ≡ None

  some_measure : (run : Run P) (d : Due) → Sound run → first_due run.store.now run.due ≡ Some d
      → 1 ≤ measure turns run
  some_measure run d sound is = by (live run d.shred) refl
    where
      some : (shreds : List (Shred P)) (s : Shred P) → find (λ s. nat_eq s.number d.shred) shreds ≡ Some s
          → 1 ≤ weight (full run.store.now) shreds
      some [] s found = absurd (cc found)
      some (t ∷ rest) s found = omega arith

      by : (o : Option (Shred P)) → live run d.shred ≡ o → 1 ≤ measure turns run
      by None none = absurd (due_live run d sound is none)
      by (Some s) found = omega (arith, some run.shreds s found)

  pub settles : (bound : ℕ) (run : Run P) → Sound run → measure turns run ≤ bound
      → Settles run (settled runner bound run)
  settles zero run sound le = by (first_due run.store.now run.due) refl
    where
      by : (o : Option Due) → first_due run.store.now run.due ≡ o → Settles run run
      by None none = record { sound = sound; now = refl; none = none }
      by (Some d) is = absurd (omega (arith, le, some_measure run d sound is))
  settles (suc bound) run sound le = by (first_due run.store.now run.due) refl (settles bound)
    where
      by : (o : Option Due) → first_due run.store.now run.due ≡ o
          → ((run2 : Run P) → Sound run2 → measure turns run2 ≤ bound → Settles run2 (settled runner bound run2))
          → Settles run (after_due runner run o (settled runner bound))
      by None none ih = record { sound = sound; now = refl; none = none }
      by (Some d) is ih =
          let leaves = due_leaves run d sound is in
          let next =
          run_slice runner (record run { due = filter (λ other. not (nat_eq other.shred d.shred)) run.due })
          (live run d.shred) in
          let rest = ih next leaves.sound (omega (arith, le, leaves.fewer)) in
          record { sound = rest.sound; now = rest.now ∙ leaves.now; none = rest.none }

  -- any two bounds that are enough are alike
  pub settled_alike : (bound bound2 : ℕ) (run : Run P) → Sound run → measure turns run ≤ bound
      → measure turns run ≤ bound2 → settled runner bound run ≡ settled runner bound2 run
  settled_alike zero zero run sound le le2 = refl
  settled_alike zero (suc bound2) run sound le le2 = by (first_due run.store.now run.due) refl
    where
      by : (o : Option Due) → first_due run.store.now run.due ≡ o
          → run ≡ after_due runner run o (settled runner bound2)
      by None none = refl
      by (Some d) is = absurd (omega (arith, le, some_measure run d sound is))
  settled_alike (suc bound) zero run sound le le2 = by (first_due run.store.now run.due) refl
    where
      by : (o : Option Due) → first_due run.store.now run.due ≡ o
          → after_due runner run o (settled runner bound) ≡ run
      by None none = refl
      by (Some d) is = absurd (omega (arith, le2, some_measure run d sound is))
  settled_alike (suc bound) (suc bound2) run sound le le2 = by (first_due run.store.now run.due) refl
      (settled_alike bound bound2)
    where
      by : (o : Option Due) → first_due run.store.now run.due ≡ o
          → ((run2 : Run P) → Sound run2 → measure turns run2 ≤ bound → measure turns run2 ≤ bound2
          → settled runner bound run2 ≡ settled runner bound2 run2)
          → after_due runner run o (settled runner bound) ≡ after_due runner run o (settled runner bound2)
      by None none ih = refl
      by (Some d) is ih =
          let leaves = due_leaves run d sound is in
          ih (run_slice runner (record run { due = filter (λ other. not (nat_eq other.shred d.shred)) run.due })
          (live run d.shred)) leaves.sound (omega (arith, le, leaves.fewer)) (omega (arith, le2, leaves.fewer))

  -- at the start of a sample the bound of the definitions is enough
  full_few : (now : ℤ) (store : Store) (shreds : List (Shred P))
      → All (λ (s : Shred P). Fits store s.progress) shreds → weight (full now) shreds ≤ suc fresh * length shreds
  full_few now store [] all = omega arith
  full_few now store (s ∷ rest) all =
      omega (
        arith,
        full_few now store rest (All-tail (λ (s : Shred P). Fits store s.progress) s rest all),
        lawful.few_turns s.progress store now (All-head (λ (s : Shred P). Fits store s.progress) s rest all),
      )

  pub enough_slices : (run : Run P) → Sound run → run.store.sporks ≡ 0 → measure turns run ≤ most_slices run
  enough_slices run sound none =
      let e : suc fresh * (MAX_SPORKS - run.store.sporks) ≡ suc fresh * 4096 =
      ap (λ x. suc fresh * (MAX_SPORKS - x)) none in
      omega (arith, e, full_few run.store.now run.store run.shreds sound.fits)

  -- a run at a sample: sound, at its time, with no sporks yet
  pub record StandsAt (n : ℕ) (run : Run P) : Type 0 where
    pub sound : Sound run
    pub now : run.store.now ≡ pos n
    pub sporks : run.store.sporks ≡ 0

  pub next_stands : (n : ℕ) (run : Run P) → n < MAX_SAMPLES → StandsAt n run
      → StandsAt (suc n) (sampled runner (settled runner (most_slices run) run))
  next_stands n run few stands =
      let s = settles (most_slices run) run stands.sound (enough_slices run stands.sound stands.sporks) in
      let after = settled runner (most_slices run) run in
      record {
        sound = record {
          store = lawful.tick after.store s.sound.store (omega (arith, ints, s.now, stands.now, few));
          family = s.sound.family;
          once = s.sound.once;
          fits = All-weaker (λ (s : Shred P). Fits after.store s.progress)
              (λ (s : Shred P). Fits (after_sample runner after.store) s.progress)
              (λ t fits. lawful.tick_fits after.store t.progress fits) after.shreds s.sound.fits;
        };
        now = omega (arith, ints, s.now, stands.now);
        sporks = refl;
      }

  -- the first run
  module _ (mains : List ℕ) (statics : List Kind) (fits : BeginsFit runner FitStore Fits mains statics) where
    first_once : (rest : List ℕ) (number m : ℕ)
        → times (λ (d : Due). d.shred) m (map first_due_of (first_shreds runner number rest)) ≡ times
        (λ (s : Shred P). s.number) m (first_shreds runner number rest)
    first_once [] number m = refl
    first_once (f ∷ rest) number m = ap (λ t. hit m number + t) (first_once rest (suc number) m)

    first_fit : (rest : List ℕ) (number : ℕ)
        → All (λ f. Fits (first_store (length mains) statics) (runner.begin f [])) rest
        → All (λ (s : Shred P). Fits (first_store (length mains) statics) s.progress)
        (first_shreds runner number rest)
    first_fit [] number all = All-nil (λ (s : Shred P). Fits (first_store (length mains) statics) s.progress)
    first_fit (f ∷ rest) number all =
        All-cons (λ (s : Shred P). Fits (first_store (length mains) statics) s.progress)
        (record { number = number; parent = 0; progress = runner.begin f [] })
        (first_shreds runner (suc number) rest)
        (All-head (λ f. Fits (first_store (length mains) statics) (runner.begin f [])) f rest all)
        (first_fit rest (suc number)
        (All-tail (λ f. Fits (first_store (length mains) statics) (runner.begin f [])) f rest all))

    pub first_stands : StandsAt 0 (first_run runner mains statics)
    first_stands = record {
      sound = record {
        store = fits.store;
        family = subst (λ next. IsFamily next (first_shreds runner 1 mains)) (omega arith)
            (first_family runner mains);
        once = λ m. omega (arith, first_once mains 1 m);
        fits = first_fit mains 1 fits.shreds;
      };
      now = refl;
      sporks = refl;
    }

    -- each run of a lawful runner stands so at its sample
    pub run_stands : (n : ℕ) → n ≤ MAX_SAMPLES → StandsAt n (run_of runner mains statics n)
    run_stands zero le = first_stands
    run_stands (suc n) le = next_stands n (run_of runner mains statics n) (omega (arith, le))
        (run_stands n (omega (arith, le)))

    -- so the bound of slices is never met
    pub bound_never_met : (n : ℕ) → n < MAX_SAMPLES
        → (let run = run_of runner mains statics n in first_due (settled runner (most_slices run) run).store.now
        (settled runner (most_slices run) run).due ≡ None)
    bound_never_met n lt =
        let run = run_of runner mains statics n in
        let stands = run_stands n (omega (arith, lt)) in
        (settles (most_slices run) run stands.sound (enough_slices run stands.sound stands.sporks)).none
