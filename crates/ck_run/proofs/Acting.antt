-- What is true of a run while the acts of a slice are applied.
use Rattle.std.proofs.Common.{◌≡◌, ℕ, suc, ◌+◌, ◌*◌, ◌<◌, ◌≤◌, ℤ, Bool, true, false, not, ◌&&◌, nat_eq, List, [], ◌∷◌, ◌++◌, All, fold, filter, find, Option, Some, None, refl, sym, subst, arith}
use Rattle.std.proofs.lemmas.List.Elements.{All-push}
use Rattle.ck_store.specs.Steps.{pick, fresh}
use Rattle.ugen_sample.specs.Connection.{Connection}
use Rattle.ck_store.specs.Store.{Store, Act, Printed, Sporked, WokeOne, WokeAll, Removed}
use Rattle.ck_run.specs.Run.{Runner, Shred, Due, Wait, Piece, Line, Run, has, live, end_with, touches, ended, with_child, woken, ended_where, live_at, applied}
use Rattle.ck_run.specs.Counts.{times, weight}
use Rattle.ck_run.specs.Family.{IsFamily}
use Rattle.ck_run.specs.Sound.{AreNumbered, sporks_in, AllSporks, IsLawful, IsOrderly, times_due, times_waiting, times_live}
use Rattle.ck_run.proofs.Children.{order-higher}
use Rattle.ck_run.proofs.Orderly.{orderly_child, orderly_ended, orderly_wait, others_wait}
use Rattle.ck_run.proofs.Lists.{hit-same, hit-other, same, other, turn, times-append, times-filter_le, found_among, All-filter, weight-append, weight-filter}

module _ {P : Type 0} (runner : Runner P) (turns : ℤ → P → ℕ) (FitStore : Store → Type 0) (Fits : Store → P
    → Type 0) (lawful : IsLawful runner turns FitStore Fits) where
  -- what a shred weighs while the one of this number runs: that one counts only if it goes on
  abbrev pub load : (goes : Bool) → (n : ℕ) → ℤ → Shred P → ℕ
  load goes n now s = pick (nat_eq s.number n && not goes) 0 (suc (turns now s.progress))

  -- it fits, but the one that runs only if it goes on
  abbrev pub FitsWhere : (goes : Bool) → (n : ℕ) → Store → Shred P → Type 0
  FitsWhere goes n store s = (s.number ≡ n → goes ≡ true) → Fits store s.progress

  -- the acts of shred n are applied, of which the next spork has the number k
  pub record IsActing (goes : Bool) (n k room : ℕ) (start : Store) (run : Run P) : Type 0 where
    pub below : n < k
    pub store : FitStore run.store
    pub now_is : run.store.now ≡ start.now
    pub next_is : run.store.next_shred ≡ start.next_shred
    pub sporks_is : run.store.sporks ≡ start.sporks
    pub since : (p : P) → Fits start p → Fits run.store p
    pub family : IsFamily k run.shreds
    pub once : (m : ℕ) → times_due m run + times_waiting m run ≤ times_live m run
    pub idle : times_due n run + times_waiting n run ≡ 0
    pub fits : All (FitsWhere goes n run.store) run.shreds
    pub light : weight (load goes n start.now) run.shreds ≤ room

  module _ (goes : Bool) (n : ℕ) (start : Store) where
    abbrev Acting : (k room : ℕ) → Run P → Type 0
    Acting k room run = IsActing goes n k room start run

    load_le : (p : P) (number parent : ℕ) → Fits start p
        → load goes n start.now (record { number = number; parent = parent; progress = p }) ≤ suc fresh
    load_le p number parent fits = by (nat_eq number n && not goes) (lawful.few_turns p start start.now fits)
      where
        by : (b : Bool) → turns start.now p ≤ fresh → pick b 0 (suc (turns start.now p)) ≤ suc fresh
        by true le = omega arith
        by false le = omega (arith, le)

    -- it is orderly
    orderly_run : (k room : ℕ) (run : Run P) → Acting k room run → IsOrderly k run
    orderly_run k room run acting = record { family = acting.family; once = acting.once }

    -- a child
    acting_child : (run : Run P) (k room number : ℕ) (p : P) (o : Option (Shred P)) → Acting k room run
        → number ≡ k
        → Fits start p → live run n ≡ o → Acting (suc k) (room + suc fresh) (with_child run n number p o)
    acting_child run k room number p None acting e fits is = record {
      below = omega (arith, acting.below);
      store = acting.store;
      now_is = acting.now_is;
      next_is = acting.next_is;
      sporks_is = acting.sporks_is;
      since = acting.since;
      family = record {
        order = order-higher run.shreds 1 k acting.family.order;
        parents =
            acting.family.parents;
      };
      once = acting.once;
      idle = acting.idle;
      fits = acting.fits;
      light = omega (arith, acting.light);
    }
    acting_child run k room number p (Some s) acting e fits is =
        let child : Shred P = record { number = number; parent = n; progress = p } in
        let due : Due = record { time = run.store.now; shred = number } in
        let orderly = orderly_child k n number run p (Some s) (orderly_run k room run acting)
        (omega (arith, acting.below)) e is in
        record {
          below = omega (arith, acting.below);
          store = acting.store;
          now_is = acting.now_is;
          next_is = acting.next_is;
          sporks_is = acting.sporks_is;
          since = acting.since;
          family = orderly.family;
          once = orderly.once;
          idle = omega (
            arith,
            acting.idle,
            times-append (λ (d : Due). d.shred) n run.due (due ∷ []),
            hit-other n number (λ e2. omega (arith, e, e2, acting.below)),
          );
          fits = All-push (FitsWhere goes n run.store) run.shreds child acting.fits (λ h. acting.since p fits);
          light = omega (
            arith,
            acting.light,
            weight-append (load goes n start.now) run.shreds (child ∷ []),
            load_le p number n fits,
          );
        }

    -- a shred ends, with those who end with it
    pub acting_ended : (run : Run P) (k room m : ℕ) → Acting k room run → Acting k room (ended run m)
    acting_ended run k room m acting =
        let gone = end_with m run.shreds in
        let keep : ℕ → Bool = λ j. not (has gone j) in
        let still = λ (c : Connection). not (touches run.store.units gone c) in
        let orderly = orderly_ended k m run (orderly_run k room run acting) in
        record {
          below = acting.below;
          store = lawful.cut run.store still acting.store;
          now_is = acting.now_is;
          next_is = acting.next_is;
          sporks_is = acting.sporks_is;
          since = λ p fits. lawful.cut_fits run.store still p (acting.since p fits);
          family = orderly.family;
          once = orderly.once;
          idle = omega (
            arith,
            acting.idle,
            times-filter_le (λ (d : Due). d.shred) n (λ due. keep due.shred)
                run.due,
            times-filter_le (λ (w : Wait). w.shred) n (λ wait. keep wait.shred) run.waits,
          );
          fits = All-filter (FitsWhere goes n run.store) (FitsWhere goes n (ended run m).store)
              (λ s. keep s.number)
              (λ s stays fits where_goes. lawful.cut_fits run.store still s.progress (fits where_goes))
              run.shreds
              acting.fits;
          light = omega (
            arith,
            acting.light,
            weight-filter (load goes n start.now) (load goes n start.now)
                (λ s. keep s.number) (λ s is. omega arith) run.shreds,
          );
        }

    -- a waiter is due; it waits
    acting_woken : (run : Run P) (k room : ℕ) (w : Wait) → Acting k room run → 1 ≤ times_waiting w.shred run
        → Acting k room (woken run (Some w))
    acting_woken run k room w acting waits =
        let due : Due = record { time = run.store.now; shred = w.shred } in
        let keep : ℕ → Bool = λ j. not (nat_eq j w.shred) in
        let dues = λ (j : ℕ). times-append (λ (d : Due). d.shred) j run.due (due ∷ []) in
        let orderly = orderly_wait k run w (orderly_run k room run acting) waits in
        let le = λ (j : ℕ). times-filter_le (λ (w : Wait). w.shred) j (λ wait. keep wait.shred) run.waits in
        record {
          below = acting.below;
          store = acting.store;
          now_is = acting.now_is;
          next_is = acting.next_is;
          sporks_is = acting.sporks_is;
          since = acting.since;
          family = acting.family;
          once = orderly.once;
          idle = elim (turn n w.shred) [
            | same e h ↦ let some : 1 ≤ times_waiting n run =
                subst (λ i. 1 ≤ times_waiting i run) (sym e) waits in
                absurd (omega (arith, some, acting.idle))
            | other ne h ↦ omega (arith, acting.idle, dues n, le n, h)
          ];
          fits = acting.fits;
          light = acting.light;
        }

    acting_woke : (run : Run P) (k room event : ℕ) (o : Option Wait) → Acting k room run
        → find (λ wait. nat_eq wait.event event) run.waits ≡ o → Acting k room (woken run o)
    acting_woke run k room event None acting is = acting
    acting_woke run k room event (Some w) acting is =
        acting_woken run k room w acting (found_waits run.waits is)
      where
        found_waits : (waits : List Wait) → find (λ wait. nat_eq wait.event event) waits ≡ Some w
            → 1 ≤ times (λ (w : Wait). w.shred) w.shred waits
        found_waits waits found = found_among (λ (w : Wait). w.shred) (λ wait. nat_eq wait.event event) waits w
            found

    -- all waiters are due
    acting_all : (waits : List Wait) (run : Run P) (k room : ℕ) → Acting k room run
        → ((m : ℕ) → times (λ (w : Wait). w.shred) m waits ≤ times_waiting m run)
        → Acting k room (fold (λ now wait. woken now (Some wait)) run waits)
    acting_all [] run k room acting are = acting
    acting_all (w ∷ waits) run k room acting are =
        acting_all waits (woken run (Some w)) k room
        (acting_woken run k room w acting (omega (arith, are w.shred, hit-same w.shred w.shred refl)))
        (others_wait k w waits run (orderly_run k room run acting) are)

    acting_end : (run : Run P) (k room : ℕ) (o : Option (Shred P)) → Acting k room run
        → Acting k room (ended_where run o)
    acting_end run k room None acting = acting
    acting_end run k room (Some s) acting = acting_ended run k room s.number acting

    acting_told : (run : Run P) (k room : ℕ) (text : List Piece) → Acting k room run
        → Acting k room (record run { text = text })
    acting_told run k room text acting = record {
      below = acting.below;
      store = acting.store;
      now_is = acting.now_is;
      next_is = acting.next_is;
      sporks_is = acting.sporks_is;
      since = acting.since;
      family = acting.family;
      once = acting.once;
      idle = acting.idle;
      fits = acting.fits;
      light = acting.light;
    }

    -- all acts
    pub acting_acts : (acts : List Act) (run : Run P) (k to room : ℕ) → Acting k room run
        → AreNumbered k to acts
        → AllSporks (λ f arguments. Fits start (runner.begin f arguments)) acts
        → Acting to (room + suc fresh * sporks_in acts) (fold (applied runner n) run acts)
    acting_acts [] run k to room acting numbered fits =
        subst (λ r. Acting to r run) (omega arith) (subst (λ j. Acting j room run) numbered acting)
    acting_acts (Printed line ∷ acts) run k to room acting numbered fits =
        acting_acts acts (record run { text = run.text ++ Line line ∷ [] }) k to room
        (acting_told run k room (run.text ++ Line line ∷ []) acting) numbered fits
    acting_acts (Sporked number f arguments ∷ acts) run k to room acting numbered fits =
        let next = acting_child run k room number (runner.begin f arguments) (live run n) acting numbered.0
        fits.0
        refl in
        subst (λ r. Acting to r (fold (applied runner n) run (Sporked number f arguments ∷ acts))) (omega arith)
        (acting_acts acts (with_child run n number (runner.begin f arguments) (live run n)) (suc k) to
        (room + suc fresh) next numbered.1 fits.1)
    acting_acts (WokeOne event ∷ acts) run k to room acting numbered fits =
        acting_acts acts (woken run (find (λ wait. nat_eq wait.event event) run.waits)) k to room
        (acting_woke run k room event (find (λ wait. nat_eq wait.event event) run.waits) acting refl) numbered
        fits
    acting_acts (WokeAll event ∷ acts) run k to room acting numbered fits =
        acting_acts acts
        (fold (λ now wait. woken now (Some wait)) run (filter (λ wait. nat_eq wait.event event) run.waits)) k to
        room
        (acting_all (filter (λ wait. nat_eq wait.event event) run.waits) run k room acting
        (λ m. times-filter_le (λ (w : Wait). w.shred) m (λ wait. nat_eq wait.event event) run.waits)) numbered
        fits
    acting_acts (Removed number ∷ acts) run k to room acting numbered fits =
        acting_acts acts (ended_where run (live_at run number)) k to room
        (acting_end run k room (live_at run number) acting) numbered fits
