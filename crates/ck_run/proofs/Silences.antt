-- Slices make no samples.
use Rattle.std.proofs.Common.{◌≡◌, ℕ, zero, suc, ◌+◌, ℤ, pos, negsuc, not, nat_eq, List, [], ◌∷◌, filter, find, fold, map, Option, Some, None, refl, ◌∙◌}
use Rattle.ck_store.specs.Store.{Act, Printed, Sporked, WokeOne, WokeAll, Removed, At, On, End}
use Rattle.ck_run.specs.Run.{Stop, Asked, Trapped, WentWrong, Runner, Shred, Due, Wait, Run, live, live_at, with_child, woken, ended_where, applied, carried_out, carried_out_where, came, noted, trap_of, run_slice, first_due, after_due, settled}

module _ {P : Type 0} where
  woken_samples : (run : Run P) (wait : Option Wait) → (woken run wait).samples ≡ run.samples
  woken_samples run None = refl
  woken_samples run (Some wait) = refl

  all_samples : (waits : List Wait) (run : Run P)
      → (fold (λ now wait. woken now (Some wait)) run waits).samples ≡ run.samples
  all_samples [] run = refl
  all_samples (wait ∷ waits) run = all_samples waits (woken run (Some wait))

  child_samples : (run : Run P) (n number : ℕ) (p : P) (o : Option (Shred P))
      → (with_child run n number p o).samples ≡ run.samples
  child_samples run n number p None = refl
  child_samples run n number p (Some shred) = refl

  ended_samples : (run : Run P) (o : Option (Shred P)) → (ended_where run o).samples ≡ run.samples
  ended_samples run None = refl
  ended_samples run (Some shred) = refl

  removed_samples : (run : Run P) (number : ℤ)
      → (ended_where run (live_at run number)).samples ≡ run.samples
  removed_samples run (pos n) = ended_samples run (live run n)
  removed_samples run (negsuc n) = refl

  applied_samples : (runner : Runner P) (n : ℕ) (run : Run P) (act : Act)
      → (applied runner n run act).samples ≡ run.samples
  applied_samples runner n run (Printed line) = refl
  applied_samples runner n run (Sporked number f arguments) =
      child_samples run n number (runner.begin f arguments) (live run n)
  applied_samples runner n run (WokeOne event) =
      woken_samples run (find (λ wait. nat_eq wait.event event) run.waits)
  applied_samples runner n run (WokeAll event) =
      all_samples (filter (λ wait. nat_eq wait.event event) run.waits) run
  applied_samples runner n run (Removed number) = removed_samples run number

  acts_samples : (runner : Runner P) (n : ℕ) (acts : List Act) (run : Run P)
      → (fold (applied runner n) run acts).samples ≡ run.samples
  acts_samples runner n [] run = refl
  acts_samples runner n (act ∷ acts) run =
      acts_samples runner n acts (applied runner n run act) ∙ applied_samples runner n run act

  carried_samples : (run : Run P) (n : ℕ) (stop : Stop) → (carried_out run n stop).samples ≡ run.samples
  carried_samples run n (Asked (At time)) = refl
  carried_samples run n (Asked (On event)) = refl
  carried_samples run n (Asked End) = refl
  carried_samples run n (Trapped trap place) = refl
  carried_samples run n WentWrong = refl

  where_samples : (run : Run P) (o : Option (Shred P)) (stop : Stop)
      → (carried_out_where run o stop).samples ≡ run.samples
  where_samples run None stop = refl
  where_samples run (Some s) stop = carried_samples run s.number stop

  pub slice_samples : (runner : Runner P) (run : Run P) (o : Option (Shred P))
      → (run_slice runner run o).samples ≡ run.samples
  slice_samples runner run None = refl
  slice_samples runner run (Some s) =
      let slice = runner.slice s.number s.progress run.store in
      let left : Run P = record run {
        store = slice.store;
        shreds = map (came s.number slice.progress) run.shreds;
        begun = run.begun + slice.begun;
      } in
      let acted = noted (fold (applied runner s.number) left slice.acts)
      (record { time = slice.store.now; shred = s.number; trap = trap_of slice.stop }) in
      where_samples acted (live acted s.number) slice.stop ∙ acts_samples runner s.number slice.acts left

  pub settled_samples : (runner : Runner P) (bound : ℕ) (run : Run P)
      → (settled runner bound run).samples ≡ run.samples
  settled_samples runner zero run = refl
  settled_samples runner (suc bound) run =
      by (first_due run.store.now run.due) (settled_samples runner bound)
    where
      by : (o : Option Due) → ((run2 : Run P) → (settled runner bound run2).samples ≡ run2.samples)
          → (after_due runner run o (settled runner bound)).samples ≡ run.samples
      by None ih = refl
      by (Some d) ih =
          let left : Run P = record run {
            due = filter (λ due. not (nat_eq due.shred d.shred)) run.due;
          } in
          ih (run_slice runner left (live run d.shred)) ∙ slice_samples runner left (live run d.shred)
