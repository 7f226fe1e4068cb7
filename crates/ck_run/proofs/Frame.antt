-- What a run has told before makes no difference to how it goes on.
use Rattle.std.proofs.Common.{◌≡◌, ℕ, ◌+◌, zero, suc, ℤ, pos, negsuc, nat_eq, List, [], ◌∷◌, ◌++◌, fold, filter, find, map, not, Option, Some, None, refl, ap, ◌∙◌, append_assoc, arith}
use Rattle.ugen_kinds.specs.declared.output.Output.{Output}
use Rattle.ck_store.specs.Store.{Act, Printed, Sporked, WokeOne, WokeAll, Removed, At, On, End}
use Rattle.ck_run.specs.Run.{Stop, Asked, Trapped, WentWrong, Slice, Runner, Shred, Due, Wait, Piece, Line, Wake, Run, live, with_child, woken, ended_where, live_at, applied, carried_out, carried_out_where, trap_of, trap_piece, came, noted, after_slice, run_slice, first_due, output_of, after_sample, sampled, after_due, settled}
use Rattle.ck_run.specs.Told.{told}

module _ {P : Type 0} (runner : Runner P) (xs : List Output) (ts : List Piece) (ws : List Wake) (begun : ℕ) where
  abbrev t : Run P → Run P
  t run = told xs ts ws begun run

  told-text : (run : Run P) (more : List Piece) → record (t run) { text = (t run).text ++ more } ≡ t
      (record run { text = run.text ++ more })
  told-text run more = ap (λ text. record (t run) { text = text }) (append_assoc ts run.text more)

  pub told-child : (run : Run P) (n number : ℕ) (p : P) (s : Option (Shred P)) → with_child (t run) n number p s ≡ t
      (with_child run n number p s)
  told-child run n number p None = refl
  told-child run n number p (Some s) = refl

  pub told-woken : (run : Run P) (wait : Option Wait) → woken (t run) wait ≡ t (woken run wait)
  told-woken run None = refl
  told-woken run (Some wait) = refl

  pub told-all : (waits : List Wait) (run : Run P) → fold (λ now wait. woken now (Some wait)) (t run) waits ≡ t
      (fold (λ now wait. woken now (Some wait)) run waits)
  told-all [] run = refl
  told-all (w ∷ waits) run = told-all waits (woken run (Some w))

  told-ended : (run : Run P) (s : Option (Shred P)) → ended_where (t run) s ≡ t (ended_where run s)
  told-ended run None = refl
  told-ended run (Some s) = refl

  told-removed : (run : Run P) (n : ℤ) → ended_where (t run) (live_at (t run) n) ≡ t
      (ended_where run (live_at run n))
  told-removed run (pos n) = told-ended run (live run n)
  told-removed run (negsuc n) = refl

  pub told-applied : (n : ℕ) (run : Run P) (act : Act) → applied runner n (t run) act ≡ t (applied runner n run act)
  told-applied n run (Printed line) = told-text run (Line line ∷ [])
  told-applied n run (Sporked number f arguments) = told-child run n number (runner.begin f arguments) (live run n)
  told-applied n run (WokeOne event) = told-woken run (find (λ wait. nat_eq wait.event event) run.waits)
  told-applied n run (WokeAll event) = told-all (filter (λ wait. nat_eq wait.event event) run.waits) run
  told-applied n run (Removed number) = told-removed run number

  pub told-acts : (n : ℕ) (acts : List Act) (run : Run P) → fold (applied runner n) (t run) acts ≡ t
      (fold (applied runner n) run acts)
  told-acts n [] run = refl
  told-acts n (act ∷ acts) run = ap (λ r. fold (applied runner n) r acts) (told-applied n run act)
      ∙ told-acts n acts (applied runner n run act)

  pub told-carried : (run : Run P) (n : ℕ) (stop : Stop) → carried_out (t run) n stop ≡ t (carried_out run n stop)
  told-carried run n (Asked (At time)) = refl
  told-carried run n (Asked (On event)) = refl
  told-carried run n (Asked End) = refl
  told-carried run n (Trapped trap place) = refl
  told-carried run n WentWrong = refl

  pub told-where : (run : Run P) (s : Option (Shred P)) (stop : Stop) → carried_out_where (t run) s stop ≡ t
      (carried_out_where run s stop)
  told-where run None stop = refl
  told-where run (Some s) stop = told-carried run s.number stop

  pub told-noted : (run : Run P) (wake : Wake) → noted (t run) wake ≡ t (noted run wake)
  told-noted run wake =
      ap (λ wakes. record (t run) { wakes = wakes; text = (t run).text ++ trap_piece wake wake.trap })
      (append_assoc ws run.wakes (wake ∷ []))
      ∙ ap (λ text. record (t run) { wakes = ws ++ (run.wakes ++ wake ∷ []); text = text })
      (append_assoc ts run.text (trap_piece wake wake.trap))

  pub told-slice : (run : Run P) (n : ℕ) (slice : Slice P) → after_slice runner (t run) n slice ≡ t
      (after_slice runner run n slice)
  told-slice run n slice =
      let left : Run P → Run P = λ r. record r {
        store = slice.store;
        shreds = map (came n slice.progress) r.shreds;
        begun = r.begun + slice.begun;
      } in
      let counted : left (t run) ≡ t (left run) = ap (λ m. record (t (left run)) { begun = m }) (omega arith) in
      let wake : Wake = record { time = slice.store.now; shred = n; trap = trap_of slice.stop } in
      let acted : Run P → Run P = λ r. noted (fold (applied runner n) (left r) slice.acts) wake in
      let same : acted (t run) ≡ t (acted run) = ap (λ r. noted (fold (applied runner n) r slice.acts) wake) counted
      ∙ ap (λ r. noted r wake) (told-acts n slice.acts (left run))
      ∙ told-noted (fold (applied runner n) (left run) slice.acts) wake in
      ap (λ r. carried_out_where r (live r n) slice.stop) same
      ∙ told-where (acted run) (live (acted run) n) slice.stop

  pub told-run_slice : (run : Run P) (s : Option (Shred P))
      → run_slice runner (t run) s ≡ t (run_slice runner run s)
  told-run_slice run None = refl
  told-run_slice run (Some s) = told-slice run s.number (runner.slice s.number s.progress run.store)

  module _ (bound : ℕ) (same : (run : Run P) → settled runner bound (t run) ≡ t (settled runner bound run)) where
    told-due : (run : Run P) (d : Option Due) → after_due runner (t run) d (settled runner bound) ≡ t
        (after_due runner run d (settled runner bound))
    told-due run None = refl
    told-due run (Some d) =
        let left = record run { due = filter (λ other. not (nat_eq other.shred d.shred)) run.due } in
        ap (settled runner bound) (told-run_slice left (live run d.shred))
        ∙ same (run_slice runner left (live run d.shred))

  pub told-settled : (bound : ℕ) (run : Run P) → settled runner bound (t run) ≡ t (settled runner bound run)
  told-settled zero run = refl
  told-settled (suc bound) run = told-due bound (told-settled bound) run (first_due run.store.now run.due)

  pub told-sampled : (run : Run P) → sampled runner (t run) ≡ t (sampled runner run)
  told-sampled run =
      let after = after_sample runner run.store in
      ap (λ samples. record (t run) { samples = samples; store = after })
      (append_assoc xs run.samples (output_of after ∷ []))
