-- The number of the next shred never falls in a run.
use Rattle.std.proofs.Common.{◌≡◌, inl, inr, ℕ, zero, suc, ◌≤◌, List, [], ◌∷◌, fold, filter, find, not, nat_eq, Option, Some, None, refl, ◌∙◌, subst, arith}
use Rattle.ck_store.specs.Store.{Act, Printed, Sporked, WokeOne, WokeAll, Removed, At, On, End}
use Rattle.ck_code.specs.declared.code.CodeParts.{CodeParts}
use Rattle.ck_code.proofs.Rank.{lt_or_le}
use Rattle.ck_run.specs.Run.{Stop, Asked, Trapped, WentWrong, Slice, Runner, Shred, Due, Wait, Run, live, live_at, with_child, woken, ended_where, applied, carried_out_where, after_slice, run_slice, first_due, after_due, settled, most_slices}
use Rattle.ck_meaning.specs.Replay.{Stopped, by_code, run_code}
use Rattle.run_laws.proofs.Counted.{slice_numbers}
use Rattle.run_laws.proofs.Sporks.{numbered_rise}

-- the number that the next shred of a run will have
abbrev next_of : {P : Type 0} → Run P → ℕ
next_of run = run.store.next_shred

-- only slices change it
module _ {P : Type 0} (runner : Runner P) where
  child_next : (run : Run P) (parent number : ℕ) (progress : P) (o : Option (Shred P))
      → next_of (with_child run parent number progress o) ≡ next_of run
  child_next run parent number progress None = refl
  child_next run parent number progress (Some shred) = refl

  woken_next : (run : Run P) (o : Option Wait) → next_of (woken run o) ≡ next_of run
  woken_next run None = refl
  woken_next run (Some wait) = refl

  all_woken_next : (waits : List Wait) (run : Run P)
      → next_of (fold (λ now wait. woken now (Some wait)) run waits) ≡ next_of run
  all_woken_next [] run = refl
  all_woken_next (wait ∷ waits) run = all_woken_next waits (woken run (Some wait))

  ended_next : (run : Run P) (o : Option (Shred P)) → next_of (ended_where run o) ≡ next_of run
  ended_next run None = refl
  ended_next run (Some shred) = refl

  applied_next : (n : ℕ) (run : Run P) (act : Act)
      → next_of (applied runner n run act) ≡ next_of run
  applied_next n run (Printed line) = refl
  applied_next n run (Sporked number f arguments) =
      child_next run n number (runner.begin f arguments) (live run n)
  applied_next n run (WokeOne event) =
      woken_next run (find (λ wait. nat_eq wait.event event) run.waits)
  applied_next n run (WokeAll event) =
      all_woken_next (filter (λ wait. nat_eq wait.event event) run.waits) run
  applied_next n run (Removed number) = ended_next run (live_at run number)

  all_applied_next : (n : ℕ) (acts : List Act) (run : Run P)
      → next_of (fold (applied runner n) run acts) ≡ next_of run
  all_applied_next n [] run = refl
  all_applied_next n (act ∷ acts) run =
      all_applied_next n acts (applied runner n run act) ∙ applied_next n run act

  carried_next : (run : Run P) (o : Option (Shred P)) (stop : Stop)
      → next_of (carried_out_where run o stop) ≡ next_of run
  carried_next run None stop = refl
  carried_next run (Some shred) (Asked (At time)) = refl
  carried_next run (Some shred) (Asked (On event)) = refl
  carried_next run (Some shred) (Asked End) = refl
  carried_next run (Some shred) (Trapped trap place) = refl
  carried_next run (Some shred) WentWrong = refl

  after_next : (run : Run P) (n : ℕ) (slice : Slice P)
      → next_of (after_slice runner run n slice) ≡ slice.store.next_shred
  after_next run n slice = carried_next _ _ slice.stop ∙ all_applied_next n slice.acts _

module _ (code : CodeParts) where
  slice_rises : (run : Run Stopped) (o : Option (Shred Stopped))
      → next_of run ≤ next_of (run_slice (by_code code) run o)
  slice_rises run None = omega arith
  slice_rises run (Some shred) =
      let slice = (by_code code).slice shred.number shred.progress run.store in
      omega (
        arith,
        after_next (by_code code) run shred.number slice,
        numbered_rise slice.acts run.store.next_shred slice.store.next_shred
            (slice_numbers code shred.number shred.progress run.store),
      )

  due_rises : (run : Run Stopped) (o : Option Due) (go : Run Stopped → Run Stopped)
      → ((later : Run Stopped) → next_of later ≤ next_of (go later))
      → next_of run ≤ next_of (after_due (by_code code) run o go)
  due_rises run None go rises = omega arith
  due_rises run (Some d) go rises =
      let left : Run Stopped = record run {
        due = filter (λ other. not (nat_eq other.shred d.shred)) run.due;
      } in
      let later = run_slice (by_code code) left (live run d.shred) in
      omega (arith, slice_rises left (live run d.shred), rises later)

  settled_rises : (bound : ℕ) (run : Run Stopped)
      → next_of run ≤ next_of (settled (by_code code) bound run)
  settled_rises zero run = omega arith
  settled_rises (suc bound) run =
      due_rises run (first_due run.store.now run.due) (settled (by_code code) bound)
      (settled_rises bound)

  same_rises : (sample later : ℕ) → sample ≡ later
      → next_of (run_code code sample) ≤ next_of (run_code code later)
  same_rises sample later same =
      subst (λ n. next_of (run_code code sample) ≤ next_of (run_code code n)) same (omega arith)

  -- a longer run has at least the next number
  pub run_rises : (sample later : ℕ) → sample ≤ later
      → next_of (run_code code sample) ≤ next_of (run_code code later)
  run_rises sample zero le = same_rises sample zero (omega (arith, le))
  run_rises sample (suc later) le = elim (lt_or_le later sample) [
    | inl lt ↦ same_rises sample (suc later) (omega (arith, lt, le))
    | inr before ↦
        let run = run_code code later in
        omega (arith, run_rises sample later before, settled_rises (most_slices run) run)
  ]
