-- What is due and what waits, in the words of a run.
use Rattle.std.proofs.Common.{◌≡◌, ℕ, ◌+◌, ℤ, int_lt, int_le, Bool, true, false, cond, not, nat_eq, nat_lt, List, [], ◌∷◌, ◌++◌, filter, find, map, Option, option_map, unwrap_or, Some, None, IfSome, ◌<ℤ◌, subst, refl, sym, ap, ◌∙◌, arith}
use Rattle.std.proofs.lemmas.Bool.{eq-eqb, ne_eqb}
use Rattle.std.proofs.lemmas.List.Sums.{sum_by-cons}
use Rattle.ck_store.specs.Steps.{pick}
use Rattle.ck_run.specs.Counts.{hit, times}
use Rattle.ck_run.specs.Run.{Due, Wait, sooner, first_due}
use Rattle.ck_run.proofs.Lists.{same, other, turn}
use Rattle.shreduler.specs.Queue as queue
use Rattle.event_queue.specs.Waiters as waiters
use Rattle.ck_values.specs.declared.reference.Ref.{Ref}
use Rattle.std.proofs.lemmas.List.{map-append}
use Rattle.shred_queues.proofs.Tickets.{map-filter}
use Rattle.chuck_vm.specs.Machine.{due_of, wait_of, AreDueAlike, WaitAlike}
use Rattle.chuck_vm.proofs.Dues.{same_due, joined_due, arrived_due}
use Rattle.chuck_vm.proofs.Waits.{same_waits, joined_waits, arrived_waits}

hit_is : (n m : ℕ) → cond (nat_eq m n) 1 0 ≡ hit n m
hit_is n m = elim (turn n m) [
  | same e h ↦ ap (λ b. cond b 1 0) (eq-eqb m n (sym e)) ∙ sym h
  | other ne h ↦ ap (λ b. cond b 1 0) (ne_eqb m n (λ e. ne (sym e))) ∙ sym h
]

pub dues_times : (n : ℕ) (dues : List queue.Due) → queue.times_due n dues
    ≡ times (λ (d : Due). d.shred) n (map due_of dues)
dues_times n [] = refl
dues_times n (d ∷ dues) =
    let one : queue.times_due n (d ∷ dues) ≡ cond (nat_eq d.shred n) 1 0 + queue.times_due n dues =
    sum_by-cons (λ (e : queue.Due). cond (nat_eq e.shred n) 1 0) d dues in
    omega (arith, one, hit_is n d.shred, dues_times n dues)

pub waits_times : (n : ℕ) (waits : List waiters.Wait) → waiters.times_waiting n waits
    ≡ times (λ (w : Wait). w.shred) n (map wait_of waits)
waits_times n [] = refl
waits_times n (w ∷ waits) =
    let one : waiters.times_waiting n (w ∷ waits)
    ≡ cond (nat_eq w.shred n) 1 0 + waiters.times_waiting n waits =
    sum_by-cons (λ (v : waiters.Wait). cond (nat_eq v.shred n) 1 0) w waits in
    omega (arith, one, hit_is n w.shred, waits_times n waits)

pub dues_without : (n : ℕ) (dues : List queue.Due) → map due_of (queue.without n dues)
    ≡ filter (λ d. not (nat_eq d.shred n)) (map due_of dues)
dues_without n [] = refl
dues_without n (d ∷ dues) = by (nat_eq d.shred n) (dues_without n dues)
  where
    by : (b : Bool) → map due_of (queue.without n dues) ≡ filter (λ d. not (nat_eq d.shred n)) (map due_of dues)
        → map due_of (cond (not b) (d ∷ queue.without n dues) (queue.without n dues))
        ≡ cond (not b) (due_of d ∷ filter (λ d. not (nat_eq d.shred n)) (map due_of dues))
        (filter (λ d. not (nat_eq d.shred n)) (map due_of dues))
    by true ih = ih
    by false ih = ap (λ r. due_of d ∷ r) ih

pub waits_without : (n : ℕ) (waits : List waiters.Wait) → map wait_of (waiters.without n waits)
    ≡ filter (λ w. not (nat_eq w.shred n)) (map wait_of waits)
waits_without n [] = refl
waits_without n (w ∷ waits) = by (nat_eq w.shred n) (waits_without n waits)
  where
    by : (b : Bool) → map wait_of (waiters.without n waits)
        ≡ filter (λ w. not (nat_eq w.shred n)) (map wait_of waits)
        → map wait_of (cond (not b) (w ∷ waiters.without n waits) (waiters.without n waits))
        ≡ cond (not b) (wait_of w ∷ filter (λ w. not (nat_eq w.shred n)) (map wait_of waits))
        (filter (λ w. not (nat_eq w.shred n)) (map wait_of waits))
    by true ih = ih
    by false ih = ap (λ r. wait_of w ∷ r) ih

sooner_is : (d : queue.Due) (o : Option queue.Due) → due_of (queue.sooner d o)
    ≡ sooner (due_of d) (option_map due_of o)
sooner_is d None = refl
sooner_is d (Some e) = by (int_lt e.time d.time)
  where
    by : (b : Bool) → due_of (cond b e d) ≡ pick b (due_of e) (due_of d)
    by true = refl
    by false = refl

pub first_is : (now : ℤ) (dues : List queue.Due) → option_map due_of (queue.first_due now dues)
    ≡ first_due now (map due_of dues)
first_is now [] = refl
first_is now (d ∷ dues) = by (int_le d.time now) (first_is now dues)
  where
    by : (b : Bool) → option_map due_of (queue.first_due now dues) ≡ first_due now (map due_of dues)
        → option_map due_of
        (cond b (Some (queue.sooner d (queue.first_due now dues))) (queue.first_due now dues))
        ≡ pick b (Some (sooner (due_of d) (first_due now (map due_of dues)))) (first_due now (map due_of dues))
    by true ih = ap (λ e. Some e) (sooner_is d (queue.first_due now dues) ∙ ap (sooner (due_of d)) ih)
    by false ih = ih

-- so is the number of the one that comes first
pub first_number : (now : ℤ) (dues : List queue.Due)
    → option_map (λ (d : queue.Due). d.shred) (queue.first_due now dues)
    ≡ option_map (λ (d : Due). d.shred) (first_due now (map due_of dues))
first_number now dues = by (queue.first_due now dues)
    ∙ ap (option_map (λ (d : Due). d.shred)) (first_is now dues)
  where
    by : (o : Option queue.Due) → option_map (λ (d : queue.Due). d.shred) o
        ≡ option_map (λ (d : Due). d.shred) (option_map due_of o)
    by None = refl
    by (Some d) = refl

pub longest_is : (event : ℕ) (waits : List waiters.Wait) → option_map wait_of (waiters.longest event waits)
    ≡ find (λ w. nat_eq w.event event) (map wait_of waits)
longest_is event [] = refl
longest_is event (w ∷ waits) = by (nat_eq w.event.serial event) (longest_is event waits)
  where
    by : (b : Bool) → option_map wait_of (waiters.longest event waits)
        ≡ find (λ w. nat_eq w.event event) (map wait_of waits)
        → option_map wait_of (cond b (Some w) (waiters.longest event waits))
        ≡ cond b (Some (wait_of w)) (find (λ w. nat_eq w.event event) (map wait_of waits))
    by true ih = refl
    by false ih = ih

pub longest_number : (event : ℕ) (waits : List waiters.Wait)
    → option_map (λ (w : waiters.Wait). w.shred) (waiters.longest event waits)
    ≡ option_map (λ (w : Wait). w.shred) (find (λ w. nat_eq w.event event) (map wait_of waits))
longest_number event waits = by (waiters.longest event waits)
    ∙ ap (option_map (λ (w : Wait). w.shred)) (longest_is event waits)
  where
    by : (o : Option waiters.Wait) → option_map (λ (w : waiters.Wait). w.shred) o
        ≡ option_map (λ (w : Wait). w.shred) (option_map wait_of o)
    by None = refl
    by (Some w) = refl

-- one more
pub due_pushed : (dues dues2 : List queue.Due) (time now : ℤ) (n : ℕ)
    → dues2 ≡ queue.arrived (record { time = time; shred = n }) dues → time ≡ now
    → AreDueAlike (map due_of dues2) (map due_of dues ++ record { time = now; shred = n } ∷ [])
due_pushed dues dues2 time now n pushed is =
    let d : queue.Due = record { time = time; shred = n } in
    let now_due : Due = record { time = now; shred = n } in
    let parts = filter (λ e. not (int_lt time e.time)) (map due_of dues)
    ++ due_of d ∷ filter (λ e. int_lt time e.time) (map due_of dues) in
    joined_due (map due_of dues2) parts (map due_of dues ++ now_due ∷ [])
    (same_due (map due_of dues2) parts
    (ap (map due_of) pushed
    ∙ map-append due_of (filter (λ e. not (int_lt time e.time)) dues) (d ∷ filter (λ e. int_lt time e.time) dues)
    ∙ ap (λ front. front ++ due_of d ∷ map due_of (filter (λ e. int_lt time e.time) dues))
    (map-filter due_of (λ e. not (int_lt time e.time)) (λ e. not (int_lt time e.time)) (λ e. refl) dues)
    ∙ ap (λ back. filter (λ e. not (int_lt time e.time)) (map due_of dues) ++ due_of d ∷ back)
    (map-filter due_of (λ e. int_lt time e.time) (λ e. int_lt time e.time) (λ e. refl) dues)))
    (subst (λ t. AreDueAlike parts (map due_of dues ++ record { time = t; shred = n } ∷ [])) is
    (arrived_due (due_of d) (map due_of dues)))

pub wait_pushed : (waits waits2 : List waiters.Wait) (event : Ref) (n : ℕ)
    → waits2 ≡ waiters.arrived (record { event = event; shred = n }) waits
    → WaitAlike (map wait_of waits2) (map wait_of waits ++ record { event = event.serial; shred = n } ∷ [])
wait_pushed waits waits2 event n pushed =
    let w : waiters.Wait = record { event = event; shred = n } in
    let e = event.serial in
    let parts = filter (λ v. not (nat_lt e v.event)) (map wait_of waits)
    ++ wait_of w ∷ filter (λ v. nat_lt e v.event) (map wait_of waits) in
    joined_waits (map wait_of waits2) parts (map wait_of waits ++ wait_of w ∷ [])
    (same_waits (map wait_of waits2) parts
    (ap (map wait_of) pushed
    ∙ map-append wait_of (filter (λ v. not (nat_lt e v.event.serial)) waits)
    (w ∷ filter (λ v. nat_lt e v.event.serial) waits)
    ∙ ap (λ front. front ++ wait_of w ∷ map wait_of (filter (λ v. nat_lt e v.event.serial) waits))
    (map-filter wait_of (λ v. not (nat_lt e v.event.serial)) (λ v. not (nat_lt e v.event)) (λ v. refl) waits)
    ∙ ap (λ back. filter (λ v. not (nat_lt e v.event)) (map wait_of waits) ++ wait_of w ∷ back)
    (map-filter wait_of (λ v. nat_lt e v.event.serial) (λ v. nat_lt e v.event) (λ v. refl) waits)))
    (arrived_waits (wait_of w) (map wait_of waits))

-- before the next time nothing is due
none_queued : (dues : List queue.Due) → None ≡ queue.next_time dues → dues ≡ []
none_queued [] e = refl
none_queued (d ∷ dues) e = absurd (cc e)

pub none_before : (o : Option ℤ) (dues : List queue.Due) (last next : ℤ) → o ≡ queue.next_time dues
    → IfSome o (λ time. (now : ℤ) → now <ℤ time → queue.first_due now dues ≡ None) → next ≡ unwrap_or o last
    → (now : ℤ) → now <ℤ next → first_due now (map due_of dues) ≡ None
none_before None dues last next is nothing at now lt =
    ap (λ ds. first_due now (map due_of ds)) (none_queued dues is)
none_before (Some time) dues last next is nothing at now lt =
    sym (first_is now dues) ∙ ap (option_map due_of) (nothing now (subst (λ t. now <ℤ t) at lt))
