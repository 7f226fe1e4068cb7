-- All that is due runs, slice by slice.
use Rattle.std.proofs.Common.{◌≡◌, ℕ, zero, suc, ◌+◌, ◌<◌, ◌≤◌, ℤ, List, [], ◌++◌, Option, option_map, Some, None, refl, sym, ap, ◌∙◌, subst, arith, append_assoc, append-nil}
use Rattle.ck_code.specs.declared.code.CodeParts.{CodeParts}
use Rattle.ck_code.specs.Verified.{IsVerified}
use Rattle.ck_store.specs.Store.{Store, At, On, End}
use Rattle.ck_meaning.specs.Replay.{Stopped, by_code}
use Rattle.ck_run.specs.Run.{Stop, Asked, Trapped, WentWrong, Runner, Shred, Due, Piece, Wake, Run, live, carried_out, carried_out_where, run_slice, first_due, after_due, settled}
use Rattle.ck_run.specs.Report.{text_bytes}
use Rattle.ck_run.specs.Told.{silent, told}
use Rattle.ck_run.specs.Sound.{IsSound, measure}
use Rattle.ck_run.proofs.Frame.{told-settled}
use Rattle.ck_run.proofs.Growing.{as_told, told_more}
use Rattle.ck_run.proofs.Silences.{slice_samples}
use Rattle.ck_run.proofs.Settling.{Leaves, due_leaves, taken_sound}
use Rattle.run_laws.specs.FitRuns.{turns_at, IsRunStore, IsFitShred}
use Rattle.run_laws.proofs.Lawful.{lawful}
use Rattle.shreduler.specs.Queue as queue
use Rattle.chuck_vm.specs.declared.machine.Machine.{Machine}
use Rattle.chuck_vm.specs.declared.wake.Wake.{Wake as MachineWake}
use Rattle.chuck_vm.specs.Machine.{Stands}
use Rattle.chuck_vm.specs.Running.{CanRunSlice}
use Rattle.chuck_vm.specs.Telling.{Becomes, TellsFront}
use Rattle.chuck_vm.specs.Tallies.{Counts}
use Rattle.chuck_vm.specs.Wakes.{wakes_meant}
use Rattle.chuck_vm.proofs.Applying.{text-append}
use Rattle.chuck_vm.proofs.Counting.{none_counted, more_counted}
use Rattle.chuck_vm.proofs.Ends.{dues_but}
use Rattle.chuck_vm.proofs.Stands.{turns_left, measure_is, told_alike, quiet_stands, unquiet_can, first_stands, taken_stands}

-- carrying out a request tells nothing
pub record TellsNone (before after : Run Stopped) : Type 0 where
  pub text_is : after.text ≡ before.text
  pub wakes_are : after.wakes ≡ before.wakes
  pub begun_are : after.begun ≡ before.begun

carried_tells : (run : Run Stopped) (n : ℕ) (stop : Stop) → TellsNone run (carried_out run n stop)
carried_tells run n (Asked (At time)) = record { text_is = refl; wakes_are = refl; begun_are = refl }
carried_tells run n (Asked (On event)) = record { text_is = refl; wakes_are = refl; begun_are = refl }
carried_tells run n (Asked End) = record { text_is = refl; wakes_are = refl; begun_are = refl }
carried_tells run n (Trapped trap place) = record { text_is = refl; wakes_are = refl; begun_are = refl }
carried_tells run n WentWrong = record { text_is = refl; wakes_are = refl; begun_are = refl }

pub where_tells : (run : Run Stopped) (o : Option (Shred Stopped)) (stop : Stop)
    → TellsNone run (carried_out_where run o stop)
where_tells run None stop = record { text_is = refl; wakes_are = refl; begun_are = refl }
where_tells run (Some s) stop = carried_tells run s.number stop

pub as_all_told : (run : Run Stopped) → run.samples ≡ []
    → run ≡ told [] run.text run.wakes run.begun (silent run)
as_all_told run none = as_told run ∙ ap (λ xs. told xs run.text run.wakes run.begun (silent run)) none

-- the next slice of a shred, of what it tells
abbrev pub slice_in : CodeParts → (number : ℕ) → Run Stopped → Run Stopped
slice_in code number run = run_slice (by_code code) (silent run) (live run number)

module _ (code : CodeParts) (names : List (List ℕ)) (verified : IsVerified code) where
  abbrev cod : Runner Stopped
  cod = by_code code

  abbrev Fits : Store → Stopped → Type 0
  Fits store p = IsFitShred code verified.typing store p

  abbrev Sound : Run Stopped → Type 0
  Sound run = IsSound (IsRunStore code) Fits run

  -- some slices have run, and told these
  pub record Settling (start : Run Stopped) (now : Run Stopped) (count count2 : ℕ) (text text2 : List ℕ)
      (wakes wakes2 : List MachineWake) : Type 0 where
    pub sound : Sound now
    pub pieces : List Piece
    pub more : List Wake
    pub begun : ℕ
    pub counts : Counts begun count count2
    pub text_is : text2 ≡ text ++ text_bytes names pieces
    pub wakes_are : wakes_meant wakes2 ≡ wakes_meant wakes ++ more
    pub goes : (bound : ℕ) → measure turns_at start ≤ bound → (bound2 : ℕ) × (measure turns_at now ≤ bound2)
        × (settled cod bound start ≡ told [] pieces more begun (settled cod bound2 now))

  pub none_settled : (start : Run Stopped) (count : ℕ) (text : List ℕ) (wakes : List MachineWake)
      → Sound start → Settling start start count count text text wakes wakes
  none_settled start count text wakes sound = record {
    sound = sound;
    pieces = [];
    more = [];
    begun = 0;
    counts = none_counted count;
    text_is = sym (append-nil text);
    wakes_are = sym (append-nil (wakes_meant wakes));
    goes = λ bound le. (bound, le, ap (λ b. record (settled cod bound start) { begun = b }) (omega arith));
  }

  due_of : (number : ℕ) (o : Option Due) → Some number ≡ option_map (λ (d : Due). d.shred) o → (d : Due)
      × (o ≡ Some d) × (d.shred ≡ number)
  due_of number None is = absurd (cc is)
  due_of number (Some d) is = (d, refl, cc is)

  -- the run from which the shred that is due was taken
  abbrev pub taken : ℕ → Run Stopped → Run Stopped
  taken number now = record now { due = dues_but number now.due }

  abbrev pub ran : ℕ → Run Stopped → Run Stopped
  ran number now = run_slice cod (taken number now) (live (taken number now) number)

  ran_leaves : (number : ℕ) (now : Run Stopped) → Sound now
      → Some number ≡ option_map (λ (d : Due). d.shred) (first_due now.store.now now.due)
      → Leaves cod turns_at (IsRunStore code) Fits (lawful code verified) now (ran number now)
      × ((bound : ℕ) → settled cod (suc bound) now ≡ settled cod bound (ran number now))
  ran_leaves number now sound is =
      let d = due_of number (first_due now.store.now now.due) is in
      let R : ℕ → Type 0 = λ n. Leaves cod turns_at (IsRunStore code) Fits (lawful code verified) now
      (run_slice cod (record now { due = dues_but n now.due }) (live now n)) in (
        subst R d.2 (due_leaves cod turns_at (IsRunStore code) Fits (lawful code verified) now d.0 sound d.1),
        λ bound. ap (λ o. after_due cod now o (settled cod bound)) d.1
            ∙ ap (λ n. settled cod bound (run_slice cod (record now { due = dues_but n now.due }) (live now n)))
            d.2,
      )

  module _ (start now : Run Stopped) (number count count2 : ℕ) (text text2 : List ℕ)
      (wakes wakes2 : List MachineWake) (no_samples : now.samples ≡ []) (is : Some number
      ≡ option_map (λ (d : Due). d.shred) (first_due now.store.now now.due))
      (so_far : Settling start now count count2 text text2 wakes wakes2) where
    after_split : ran number now ≡ told [] (ran number now).text (ran number now).wakes (ran number now).begun
        (silent (ran number now))
    after_split =
        as_all_told (ran number now) (slice_samples cod (taken number now) (live (taken number now) number)
        ∙ no_samples)

    one_more : (bound : ℕ) → measure turns_at start ≤ bound → (bound2 : ℕ)
        × (measure turns_at (silent (ran number now)) ≤ bound2)
        × (settled cod bound start ≡ told [] (so_far.pieces ++ (ran number now).text) (so_far.more
        ++ (ran number now).wakes) (so_far.begun + (ran number now).begun)
        (settled cod bound2 (silent (ran number now))))
    one_more bound le = by (so_far.goes bound le).0 (so_far.goes bound le).1 (so_far.goes bound le).2
      where
        leaves : Leaves cod turns_at (IsRunStore code) Fits (lawful code verified) now (ran number now)
        leaves = (ran_leaves number now so_far.sound is).0

        by : (b : ℕ) → measure turns_at now ≤ b → settled cod bound start
            ≡ told [] so_far.pieces so_far.more so_far.begun (settled cod b now)
            → (bound2 : ℕ) × (measure turns_at (silent (ran number now)) ≤ bound2)
            × (settled cod bound start ≡ told [] (so_far.pieces ++ (ran number now).text) (so_far.more
            ++ (ran number now).wakes) (so_far.begun + (ran number now).begun)
            (settled cod bound2 (silent (ran number now))))
        by zero few e = absurd (omega (arith, few, leaves.fewer))
        by (suc b) few e =
            let after = ran number now in
            let last = settled cod b (silent after) in (
              b,
              omega (arith, few, leaves.fewer),
              e ∙ ap (told [] so_far.pieces so_far.more so_far.begun)
                  ((ran_leaves number now so_far.sound is).1 b ∙ ap (settled cod b) after_split
                  ∙ told-settled cod [] after.text after.wakes after.begun b (silent after))
                  ∙ told_more [] [] so_far.pieces after.text so_far.more after.wakes so_far.begun after.begun
                  last,
            )

    pub one_settled : (machine : Machine) (count3 : ℕ) (text3 : List ℕ) (wakes3 : List MachineWake)
        → Becomes names (ran number now) machine text2 text3 wakes2 wakes3
        → Counts (ran number now).begun count2 count3
        → Settling start (silent (ran number now)) count count3 text text3 wakes wakes3
    one_settled machine count3 text3 wakes3 becomes counts =
        let after = ran number now in
        let leaves = (ran_leaves number now so_far.sound is).0 in
        record {
          sound = record {
            store = leaves.sound.store;
            family = leaves.sound.family;
            once = leaves.sound.once;
            fits = leaves.sound.fits;
          };
          pieces = so_far.pieces ++ after.text;
          more = so_far.more ++ after.wakes;
          begun = so_far.begun + after.begun;
          counts = more_counted so_far.begun after.begun count count2 count3 so_far.counts counts;
          text_is = becomes.text_is ∙ ap (λ t. t ++ text_bytes names after.text) so_far.text_is
              ∙ append_assoc text (text_bytes names so_far.pieces) (text_bytes names after.text)
              ∙ ap (λ t. text ++ t) (sym (text-append names so_far.pieces after.text));
          wakes_are = becomes.wakes_are ∙ ap (λ w. w ++ after.wakes) so_far.wakes_are
              ∙ append_assoc (wakes_meant wakes) so_far.more after.wakes;
          goes = one_more;
        }

    pub fewer_slices : measure turns_at (silent (ran number now)) < measure turns_at now
    fewer_slices = omega (arith, (ran_leaves number now so_far.sound is).0.fewer)

    -- at a failure a front was told
    pub front_settled : (text3 : List ℕ) (wakes3 : List MachineWake)
        → TellsFront names (ran number now) text2 text3 wakes2 wakes3 → (bound : ℕ)
        → measure turns_at start ≤ bound → TellsFront names (settled cod bound start) text text3 wakes wakes3
    front_settled text3 wakes3 front bound le =
        let after = ran number now in
        let more = one_more bound le in
        let last = settled cod more.0 (silent after) in
        let f = front.text_front in
        let g = front.wakes_front in
        let pieces = text_bytes names so_far.pieces in
        record {
          text_front = (
            pieces ++ f.0,
            f.1 ++ text_bytes names last.text,
            ap (λ (r : Run Stopped). text_bytes names r.text) more.2
                ∙ text-append names (so_far.pieces ++ after.text) last.text
                ∙ ap (λ t. t ++ text_bytes names last.text) (text-append names so_far.pieces after.text
                ∙ ap (λ t. pieces ++ t) f.2 ∙ sym (append_assoc pieces f.0 f.1))
                ∙ append_assoc (pieces ++ f.0) f.1 (text_bytes names last.text),
            f.3 ∙ ap (λ t. t ++ f.0) so_far.text_is ∙ append_assoc text pieces f.0,
          );
          wakes_front = (
            so_far.more ++ g.0,
            g.1 ++ last.wakes,
            ap (λ (r : Run Stopped). r.wakes) more.2
                ∙ ap (λ w. w ++ last.wakes) (ap (λ w. so_far.more ++ w) g.2
                ∙ sym (append_assoc so_far.more g.0 g.1)) ∙ append_assoc (so_far.more ++ g.0) g.1 last.wakes,
            g.3 ∙ ap (λ w. w ++ g.0) so_far.wakes_are ∙ append_assoc (wakes_meant wakes) so_far.more g.0,
          );
        }

  pub nothing_due : (bound : ℕ) (now : Run Stopped) → first_due now.store.now now.due ≡ None
      → settled cod bound now ≡ now
  nothing_due zero now none = refl
  nothing_due (suc bound) now none = ap (λ o. after_due cod now o (settled cod bound)) none

  -- so none runs where none is due
  pub none_runs : (machine : Machine) (run : Run Stopped) (bound : ℕ) (text : List ℕ) (wakes : List MachineWake)
      → Stands machine run → first_due run.store.now run.due ≡ None
      → Becomes names (settled cod bound (silent run)) machine text text wakes wakes
  none_runs machine run bound text wakes stands none =
      subst (λ r. Becomes names r machine text text wakes wakes) (sym (nothing_due bound (silent run) none))
      (record {
        stands = quiet_stands machine run stands;
        text_is = sym (append-nil text);
        wakes_are =
            sym (append-nil (wakes_meant wakes));
      })

  pub none_begun : (run : Run Stopped) (bound count : ℕ) → first_due run.store.now run.due ≡ None
      → Counts (settled cod bound (silent run)).begun count count
  none_begun run bound count none =
      subst (λ (r : Run Stopped). Counts r.begun count count) (sym (nothing_due bound (silent run) none))
      (none_counted count)

  none_due : (o : Option Due) → None ≡ option_map (λ (d : Due). d.shred) o → o ≡ None
  none_due None e = refl
  none_due (Some d) e = absurd (cc e)

  -- all have run
  module _ (start now : Run Stopped) (machine : Machine) (count count2 : ℕ) (text text2 : List ℕ)
      (wakes wakes2 : List MachineWake)
      (none : None ≡ option_map (λ (d : Due). d.shred) (first_due now.store.now now.due))
      (stands : Stands machine now)
      (so_far : Settling start (silent now) count count2 text text2 wakes wakes2)
      (bound : ℕ) (le : measure turns_at start ≤ bound) where
    whole : settled cod bound start ≡ told [] so_far.pieces so_far.more so_far.begun (silent now)
    whole =
        let goes = so_far.goes bound le in
        goes.2 ∙ ap (told [] so_far.pieces so_far.more so_far.begun)
        (nothing_due goes.0 (silent now) (none_due (first_due now.store.now now.due) none))

    pub all_settled : Becomes names (settled cod bound start) machine text text2 wakes wakes2
    all_settled = record {
      stands = told_alike machine now (settled cod bound start) (sym (ap silent whole)) stands;
      text_is = so_far.text_is ∙ ap (λ ps. text ++ text_bytes names ps) (sym (append-nil so_far.pieces))
          ∙ ap (λ (r : Run Stopped). text ++ text_bytes names r.text) (sym whole);
      wakes_are = so_far.wakes_are ∙ ap (λ ws. wakes_meant wakes ++ ws) (sym (append-nil so_far.more))
          ∙ ap (λ (r : Run Stopped). wakes_meant wakes ++ r.wakes) (sym whole);
    }

    pub all_counted : Counts (settled cod bound start).begun count count2
    all_counted =
        let begun : (settled cod bound start).begun ≡ so_far.begun + 0 =
        ap (λ (r : Run Stopped). r.begun) whole in
        let none : (settled cod bound start).begun ≡ so_far.begun = omega (arith, begun) in
        subst (λ n. Counts n count count2) (sym none) so_far.counts

  -- where a shred is taken, the run is sound and the shred is idle
  pub taken_can : (number : ℕ) (now : Run Stopped) → Sound now
      → Some number ≡ option_map (λ (d : Due). d.shred) (first_due now.store.now now.due)
      → CanRunSlice code number (taken number now)
  taken_can number now sound is =
      let d = due_of number (first_due now.store.now now.due) is in
      let fits =
      taken_sound cod turns_at (IsRunStore code) Fits (lawful code verified) now d.0 sound d.1 in
      subst (λ n. CanRunSlice code n (taken n now)) d.2
      (record { can = record { verified = verified; sound = fits.sound }; idle = fits.idle })

  -- the machine stands for what came of a run by some slices
  pub record Underway (start : Run Stopped) (machine : Machine) (count count2 : ℕ) (text text2 : List ℕ)
      (wakes wakes2 : List MachineWake) : Type 0 where
    pub now : Run Stopped
    pub stands : Stands machine now
    pub settling : Settling (silent start) (silent now) count count2 text text2 wakes wakes2

  pub none_underway : (start : Run Stopped) (machine : Machine) (count : ℕ) (text : List ℕ)
      (wakes : List MachineWake) → Stands machine start → Sound (silent start)
      → Underway start machine count count text text wakes wakes
  none_underway start machine count text wakes stands sound =
      record { now = start; stands = stands; settling = none_settled (silent start) count text wakes sound }

  -- the machine takes the shred that comes next in a run, and runs its slice
  pub record Turn (start : Run Stopped) (machine : Machine) (left : List queue.Due) (number count count2 : ℕ)
      (text text2 : List ℕ) (wakes wakes2 : List MachineWake) : Type 0 where
    pub run : Run Stopped
    pub stands : Stands (record machine { due = left }) run
    pub can : CanRunSlice machine.code number run
    pub goes : (new : Machine) (count3 : ℕ) (text3 : List ℕ) (wakes3 : List MachineWake)
        → Becomes names (slice_in machine.code number run) new text2 text3 wakes2 wakes3
        → Counts (slice_in machine.code number run).begun count2 count3
        → Underway start new count count3 text text3 wakes wakes3
    pub fewer : (new : Machine) (text3 : List ℕ) (wakes3 : List MachineWake)
        → Becomes names (slice_in machine.code number run) new text2 text3 wakes2 wakes3
        → turns_left new < turns_left machine
    pub front : (text3 : List ℕ) (wakes3 : List MachineWake)
        → TellsFront names (slice_in machine.code number run) text2 text3 wakes2 wakes3 → (bound : ℕ)
        → measure turns_at start ≤ bound
        → TellsFront names (settled cod bound (silent start)) text text3 wakes wakes3

  module _ (start : Run Stopped) (machine : Machine) (count count2 : ℕ) (text text2 : List ℕ)
      (wakes wakes2 : List MachineWake) (same : machine.code ≡ code)
      (so_far : Underway start machine count count2 text text2 wakes wakes2)
      (number : ℕ) (time : ℤ) (left : List queue.Due) (clock : time ≡ machine.world.time)
      (first : Some number ≡ option_map (λ (d : queue.Due). d.shred) (queue.first_due time machine.due))
      (without : left ≡ queue.without number machine.due) where
    abbrev before : Run Stopped
    before = silent so_far.now

    next_is : Some number ≡ option_map (λ (d : Due). d.shred) (first_due before.store.now before.due)
    next_is = first ∙ first_stands machine so_far.now time so_far.stands clock

    next_can : CanRunSlice machine.code number (taken number so_far.now)
    next_can =
        let can = taken_can number before so_far.settling.sound next_is in
        subst (λ code. CanRunSlice code number (taken number so_far.now)) (sym same)
        (record { can = unquiet_can code (taken number so_far.now) can.can; idle = can.idle })

    pub turn : Turn start machine left number count count2 text text2 wakes wakes2
    turn = record {
      run = taken number so_far.now;
      stands = taken_stands machine so_far.now number left so_far.stands without;
      can = next_can;
      goes = λ new count3 text3 wakes3 becomes counts.
          let B : CodeParts → Type 0 =
          λ code. Becomes names (slice_in code number (taken number so_far.now)) new text2 text3 wakes2
          wakes3 in
          let C : CodeParts → Type 0 =
          λ code. Counts (slice_in code number (taken number so_far.now)).begun count2 count3 in
          let here : Becomes names (ran number before) new text2 text3 wakes2 wakes3 = subst B same becomes in
          record {
            now = ran number before;
            stands = here.stands;
            settling = one_settled (silent start) before number count count2 text text2 wakes wakes2 refl next_is
                so_far.settling new count3 text3 wakes3 here (subst C same counts);
          };
      fewer = λ new text3 wakes3 becomes.
          let B : CodeParts → Type 0 =
          λ code. Becomes names (slice_in code number (taken number so_far.now)) new text2 text3 wakes2
          wakes3 in
          let here : Becomes names (ran number before) new text2 text3 wakes2 wakes3 = subst B same becomes in
          omega (
            arith,
            fewer_slices (silent start) before number count count2 text text2 wakes wakes2 refl next_is
                so_far.settling,
            measure_is new (ran number before) here.stands,
            measure_is machine so_far.now so_far.stands,
          );
      front = λ text3 wakes3 front bound le.
          let F : CodeParts → Type 0 =
          λ code. TellsFront names (slice_in code number (taken number so_far.now)) text2 text3 wakes2
          wakes3 in
          front_settled (silent start) before number count count2 text text2 wakes wakes2 refl next_is
          so_far.settling text3 wakes3 (subst F same front) bound le;
    }
