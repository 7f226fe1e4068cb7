-- What acts need, and what they keep.
use Rattle.std.proofs.Common.{◌≡◌, ℕ, suc, ◌+◌, ◌<◌, ◌≤◌, ℤ, pos, negsuc, nat_abs, ◌<ℤ◌, ◌≤ℤ◌, Bool, true, false, cond, not, nat_eq, List, [], ◌∷◌, ◌++◌, map, fold, filter, find, length, Option, option_map, is_some, Some, None, Result, Ok, Err, OnOk, OnErr, IfNone, refl, sym, ap, ◌∙◌, subst, arith}
use Rattle.std.proofs.lemmas.Int.{ints}
use Rattle.std.proofs.lemmas.Bool.{eq-eqb, ne_eqb}
use Rattle.ck_meaning.specs.Replay.{Stopped}
use Rattle.ck_run.specs.Run.{Stop, Shred, Wait, Run, live, live_at, with_due, with_child, woken, ended, ended_where, carried_out, carried_out_where}
use Rattle.ck_run.specs.Counts.{hit, times}
use Rattle.ck_run.specs.Sound.{IsOrderly, times_due, times_waiting}
use Rattle.ck_run.proofs.Lists.{hit-same, Turn, same, other, turn, found_times, found_among}
use Rattle.ck_run.proofs.Orderly.{live-once, none-high}
use Rattle.shreduler.specs.Queue as queue
use Rattle.event_queue.specs.Waiters as waiters
use Rattle.machine_world.specs.Worlds.{StandsFor}
use Rattle.chuck_vm.specs.declared.machine.Machine.{Machine}
use Rattle.chuck_vm.specs.Machine.{shreds_of, due_of, wait_of, AreDueAlike, WaitAlike, Stands}
use Rattle.chuck_vm.specs.Telling.{longest}
use Rattle.chuck_vm.proofs.Dues.{pushed_due}
use Rattle.chuck_vm.proofs.Waits.{same_waits, joined_waits, pushed_waits, stay_waits, times_waits, first_waits}
use Rattle.chuck_vm.proofs.Queues.{longest_number}

pub some_of : {A : Type 0} (o : Option A) → is_some o ≡ true → (x : A) × (o ≡ Some x)
some_of None e = absurd (cc e)
some_of (Some x) e = (x, refl)

pub none_of : {A : Type 0} (o : Option A) → is_some o ≡ false → o ≡ None
none_of None e = refl
none_of (Some x) e = absurd (cc e)

-- the next number is not due
pub new_not_due : (next : ℕ) (run : Run Stopped) → IsOrderly next run → times_due next run ≡ 0
new_not_due next run orderly =
    omega (arith, orderly.once next, none-high run.shreds 1 next next orderly.family.order (omega arith))

-- nor is who waits
pub waiter_not_due : (next event shred : ℕ) (run : Run Stopped) (o : Option Wait) → IsOrderly next run
    → longest event run ≡ o → Some shred ≡ option_map (λ (w : Wait). w.shred) o → times_due shred run ≡ 0
waiter_not_due next event shred run None orderly found is = absurd (cc is)
waiter_not_due next event shred run (Some w) orderly found is =
    let e : shred ≡ w.shred = cc is in
    let waits = found_among (λ (w : Wait). w.shred) (λ wait. nat_eq wait.event event) run.waits w found in
    let none : times_due w.shred run ≡ 0 =
    omega (arith, orderly.once w.shred, live-once run.shreds 1 next w.shred orderly.family.order, waits) in
    ap (λ m. times_due m run) e ∙ none

-- a machine to which one more is due stands for the run to which it is
pub due_stands : (machine : Machine) (run : Run Stopped) (time : ℤ) (n : ℕ) (dues : List queue.Due)
    → AreDueAlike (map due_of dues) (map due_of machine.due ++ record { time = time; shred = n } ∷ [])
    → Stands machine run → Stands (record machine { due = dues }) (with_due run time n)
due_stands machine run time n dues pushed stands = record {
  store = stands.store;
  shreds = stands.shreds;
  due = pushed_due (map due_of machine.due) (map due_of dues) run.due (record { time = time; shred = n }) pushed
      stands.due;
  waits = stands.waits;
}

-- and one for which one more waits
pub wait_stands : (machine : Machine) (run : Run Stopped) (event n : ℕ) (waits : List waiters.Wait)
    → WaitAlike (map wait_of waits) (map wait_of machine.waits ++ record { event = event; shred = n } ∷ [])
    → Stands machine run
    → Stands (record machine { waits = waits })
    (record run { waits = run.waits ++ record { event = event; shred = n } ∷ [] })
wait_stands machine run event n waits pushed stands =
    let wait : Wait = record { event = event; shred = n } in
    record {
      store = stands.store;
      shreds = stands.shreds;
      due = stands.due;
      waits = pushed_waits (map wait_of machine.waits) (map wait_of waits) run.waits wait pushed stands.waits;
    }

-- a child that was begun
pub child_stands : (old new : Machine) (run : Run Stopped) (parent number : ℕ) (p : Stopped)
    → new.world ≡ old.world → new.waits ≡ old.waits
    → shreds_of new.code new.shreds
    ≡ shreds_of old.code old.shreds ++ record { number = number; parent = parent; progress = p } ∷ []
    → AreDueAlike (map due_of new.due) (map due_of old.due ++ record { time = run.store.now; shred = number } ∷ [])
    → is_some (live run parent) ≡ true → Stands old run
    → Stands new (with_child run parent number p (live run parent))
child_stands old new run parent number p world waits are pushed some stands =
    let child : Shred Stopped = record { number = number; parent = parent; progress = p } in
    let s = some_of (live run parent) some in
    subst (λ o. Stands new (with_child run parent number p o)) (sym s.1) (record {
      store = subst (λ w. StandsFor w run.store) (sym world) stands.store;
      shreds = are ∙ ap (λ ss. ss ++ child ∷ []) stands.shreds;
      due = pushed_due (map due_of old.due) (map due_of new.due) run.due
          (record { time = run.store.now; shred = number }) pushed stands.due;
      waits = joined_waits (map wait_of new.waits) (map wait_of old.waits) run.waits
          (same_waits (map wait_of new.waits) (map wait_of old.waits) (ap (map wait_of) waits)) stands.waits;
    })

-- a waiter that was found is woken
pub woken_stands : (machine : Machine) (run : Run Stopped) (event shred : ℕ) (waits : List waiters.Wait)
    (dues : List queue.Due) (o : Option Wait) → longest event run ≡ o
    → Some shred ≡ option_map (λ (w : Wait). w.shred) o
    → map wait_of waits ≡ filter (λ other. not (nat_eq other.shred shred)) (map wait_of machine.waits)
    → AreDueAlike (map due_of dues) (map due_of machine.due ++ record { time = run.store.now; shred = shred } ∷ [])
    → Stands machine run
    → Stands (record machine { waits = waits; due = dues }) (woken run (longest event run))
    × (true ≡ is_some (longest event run))
woken_stands machine run event shred waits dues None found is left pushed stands = absurd (cc is)
woken_stands machine run event shred waits dues (Some w) found is left pushed stands =
    let new : Machine = record machine { waits = waits; due = dues } in
    let woke : ℕ → Run Stopped = λ n. record run {
      waits = filter (λ other. not (nat_eq other.shred n)) run.waits;
      due = run.due ++ record { time = run.store.now; shred = n } ∷ [];
    } in
    let e : shred ≡ w.shred = cc is in
    let here : Stands new (woke shred) = record {
      store = stands.store;
      shreds = stands.shreds;
      due = pushed_due (map due_of machine.due) (map due_of dues) run.due
          (record { time = run.store.now; shred = shred }) pushed stands.due;
      waits =
          let stay = filter (λ (other : Wait). not (nat_eq other.shred shred)) in
          joined_waits (map wait_of waits) (stay (map wait_of machine.waits)) (stay run.waits)
          (same_waits (map wait_of waits) (stay (map wait_of machine.waits)) left)
          (stay_waits (λ m. not (nat_eq m shred)) (map wait_of machine.waits) run.waits stands.waits);
    } in (
      subst (λ o. Stands new (woken run o)) (sym found) (subst (λ n. Stands new (woke n)) e here),
      ap is_some (sym found),
    )

-- the waiters of a run are those of the machine, so that in each run the same one waits longest
pub longest_stands : (machine : Machine) (run : Run Stopped) (event : ℕ) → Stands machine run
    → option_map (λ (w : waiters.Wait). w.shred) (waiters.longest event machine.waits)
    ≡ option_map (λ (w : Wait). w.shred) (longest event run)
longest_stands machine run event stands =
    longest_number event machine.waits
    ∙ first_waits event (map wait_of machine.waits) run.waits stands.waits

-- none waits twice in any run, as none does in one
pub waits_apart : (machine : Machine) (one two : Run Stopped) (next : ℕ) → Stands machine one
    → Stands machine two → IsOrderly next one → (m : ℕ) → times_waiting m two ≤ 1
waits_apart machine one two next stands stands2 orderly m =
    omega (
      arith,
      times_waits m (map wait_of machine.waits) one.waits stands.waits,
      times_waits m (map wait_of machine.waits) two.waits stands2.waits,
      orderly.once m,
      live-once one.shreds 1 next m orderly.family.order,
    )

pub no_waiter : (o : Option Wait) → None ≡ option_map (λ (w : Wait). w.shred) o → o ≡ None
no_waiter None e = refl
no_waiter (Some w) e = absurd (cc e)

-- a shred is removed
pub removed_is : (run : Run Stopped) (n : ℕ) (z : ℤ) → z ≡ pos n → is_some (live run n) ≡ true
    → ended run n ≡ ended_where run (live_at run z)
removed_is run n z e some =
    let s = some_of (live run n) some in
    let number = (found_times (λ (s : Shred Stopped). s.number) n run.shreds s.0 s.1).0 in
    ap (ended run) (sym number) ∙ ap (ended_where run) (sym s.1)
    ∙ ap (λ z. ended_where run (live_at run z)) (sym e)

pub removed_below : (run : Run Stopped) (z : ℤ) → z <ℤ pos 0 → run ≡ ended_where run (live_at run z)
removed_below run (pos n) lt = absurd (omega (arith, ints, lt))
removed_below run (negsuc n) lt = refl

-- a request is carried out
pub carried_some : (run : Run Stopped) (n : ℕ) (stop : Stop) → is_some (live run n) ≡ true
    → carried_out run n stop ≡ carried_out_where run (live run n) stop
carried_some run n stop some =
    let s = some_of (live run n) some in
    let number = (found_times (λ (s : Shred Stopped). s.number) n run.shreds s.0 s.1).0 in
    ap (λ k. carried_out run k stop) (sym number) ∙ ap (λ o. carried_out_where run o stop) (sym s.1)

pub idle_both : (a b : ℕ) → a + b ≡ 0 → (a ≡ 0) × (b ≡ 0)
idle_both a b none = (omega (arith, none), omega (arith, none))

-- the waiters of an event: the first one is woken, and then the others
first_waiter : (event : ℕ) (waits : List Wait) (w : Wait) → find (λ wait. nat_eq wait.event event) waits
    ≡ Some w → ((m : ℕ) → times (λ (w : Wait). w.shred) m waits ≤ 1)
    → filter (λ wait. nat_eq wait.event event) waits
    ≡ w ∷ filter (λ wait. nat_eq wait.event event)
    (filter (λ other. not (nat_eq other.shred w.shred)) waits)
first_waiter event [] w is apart = absurd (cc is)
first_waiter event (v ∷ waits) w is apart =
    by (nat_eq v.event event) refl is (first_waiter event waits w) (no_other waits)
  where
    no_other : (rest : List Wait) → times (λ (w : Wait). w.shred) v.shred rest ≡ 0
        → filter (λ other. not (nat_eq other.shred v.shred)) rest ≡ rest
    no_other [] none = refl
    no_other (u ∷ rest) none =
        let ne : nat_eq u.shred v.shred ≡ false =
        ne_eqb u.shred v.shred (λ e. omega (arith, none, hit-same v.shred u.shred (sym e))) in
        ap (λ b. cond (not b) (u ∷ filter (λ other. not (nat_eq other.shred v.shred)) rest)
        (filter (λ other. not (nat_eq other.shred v.shred)) rest)) ne
        ∙ ap (λ r. u ∷ r) (no_other rest (omega (arith, none)))

    rest_apart : (m : ℕ) → times (λ (w : Wait). w.shred) m waits ≤ 1
    rest_apart m = omega (arith, apart m)

    by : (b : Bool) → nat_eq v.event event ≡ b → cond b (Some v) (find (λ wait. nat_eq wait.event event) waits)
        ≡ Some w
        → (find (λ wait. nat_eq wait.event event) waits ≡ Some w
        → ((m : ℕ) → times (λ (w : Wait). w.shred) m waits ≤ 1)
        → filter (λ wait. nat_eq wait.event event) waits
        ≡ w ∷ filter (λ wait. nat_eq wait.event event)
        (filter (λ other. not (nat_eq other.shred w.shred)) waits))
        → (times (λ (w : Wait). w.shred) v.shred waits ≡ 0
        → filter (λ other. not (nat_eq other.shred v.shred)) waits ≡ waits)
        → cond b (v ∷ filter (λ wait. nat_eq wait.event event) waits)
        (filter (λ wait. nat_eq wait.event event) waits)
        ≡ w ∷ filter (λ wait. nat_eq wait.event event)
        (cond (not (nat_eq v.shred w.shred)) (v ∷ filter (λ other. not (nat_eq other.shred w.shred)) waits)
        (filter (λ other. not (nat_eq other.shred w.shred)) waits))
    by true e found ih alone =
        let at : v ≡ w = cc found in
        let none : times (λ (w : Wait). w.shred) v.shred waits ≡ 0 =
        omega (arith, apart v.shred, hit-same v.shred v.shred refl) in
        let same_shred : nat_eq v.shred v.shred ≡ true = eq-eqb v.shred v.shred refl in
        subst (λ u. v ∷ filter (λ wait. nat_eq wait.event event) waits
        ≡ u ∷ filter (λ wait. nat_eq wait.event event)
        (cond (not (nat_eq v.shred u.shred)) (v ∷ filter (λ other. not (nat_eq other.shred u.shred)) waits)
        (filter (λ other. not (nat_eq other.shred u.shred)) waits))) at
        (ap (λ rest. v ∷ filter (λ wait. nat_eq wait.event event) rest) (sym (alone none))
        ∙ ap (λ b. v ∷ filter (λ wait. nat_eq wait.event event)
        (cond (not b) (v ∷ filter (λ other. not (nat_eq other.shred v.shred)) waits)
        (filter (λ other. not (nat_eq other.shred v.shred)) waits))) (sym same_shred))
    by false e found ih alone =
        ih found rest_apart
        ∙ ap (λ rest. w ∷ rest) (skip (nat_eq v.shred w.shred))
      where
        skip : (c : Bool)
            → filter (λ wait. nat_eq wait.event event)
            (filter (λ other. not (nat_eq other.shred w.shred)) waits)
            ≡ filter (λ wait. nat_eq wait.event event)
            (cond (not c) (v ∷ filter (λ other. not (nat_eq other.shred w.shred)) waits)
            (filter (λ other. not (nat_eq other.shred w.shred)) waits))
        skip true = refl
        skip false =
            ap (λ b. cond b
            (v ∷ filter (λ wait. nat_eq wait.event event)
            (filter (λ other. not (nat_eq other.shred w.shred)) waits))
            (filter (λ wait. nat_eq wait.event event)
            (filter (λ other. not (nat_eq other.shred w.shred)) waits))) (sym e)

-- all waiters of an event are woken
abbrev pub all_woken : ℕ → Run Stopped → Run Stopped
all_woken event run =
    fold (λ now wait. woken now (Some wait)) run (filter (λ wait. nat_eq wait.event event) run.waits)

pub woken_next : (event : ℕ) (run : Run Stopped) (o : Option Wait) → ((m : ℕ) → times_waiting m run ≤ 1)
    → longest event run ≡ o → is_some o ≡ true → all_woken event (woken run o) ≡ all_woken event run
woken_next event run None apart found some = absurd (cc some)
woken_next event run (Some w) apart found some =
    ap (fold (λ now wait. woken now (Some wait)) run) (sym (first_waiter event run.waits w found apart))

none_filter : (event : ℕ) (waits : List Wait) → find (λ wait. nat_eq wait.event event) waits ≡ None
    → filter (λ wait. nat_eq wait.event event) waits ≡ []
none_filter event [] e = refl
none_filter event (w ∷ waits) e = by (nat_eq w.event event) e (none_filter event waits)
  where
    by : (b : Bool) → cond b (Some w) (find (λ wait. nat_eq wait.event event) waits) ≡ None
        → (find (λ wait. nat_eq wait.event event) waits ≡ None → filter (λ wait. nat_eq wait.event event) waits
        ≡ []) → cond b (w ∷ filter (λ wait. nat_eq wait.event event) waits)
        (filter (λ wait. nat_eq wait.event event) waits) ≡ []
    by true found ih = absurd (cc found)
    by false found ih = ih found

pub woken_none : (event : ℕ) (run : Run Stopped) → is_some (longest event run) ≡ false
    → woken run (longest event run) ≡ all_woken event run
woken_none event run none =
    ap (woken run) (none_of (longest event run) none)
    ∙ ap (fold (λ now wait. woken now (Some wait)) run)
    (sym (none_filter event run.waits (none_of (longest event run) none)))

-- each wake leaves fewer waiters
fewer_left : (shred : ℕ) (waits : List Wait)
    → length (filter (λ other. not (nat_eq other.shred shred)) waits) + times (λ (w : Wait). w.shred) shred
    waits ≤ length waits
fewer_left shred [] = omega arith
fewer_left shred (w ∷ waits) = by (turn shred w.shred) (fewer_left shred waits)
  where
    by : Turn shred w.shred
        → length (filter (λ other. not (nat_eq other.shred shred)) waits) + times (λ (w : Wait). w.shred) shred
        waits ≤ length waits
        → length (cond (not (nat_eq w.shred shred)) (w ∷ filter (λ other. not (nat_eq other.shred shred)) waits)
        (filter (λ other. not (nat_eq other.shred shred)) waits)) +
        (hit shred w.shred + times (λ (w : Wait). w.shred) shred waits) ≤ suc (length waits)
    by (same at h) ih = let l =
        ap (λ b. length (cond (not b) (w ∷ filter (λ other. not (nat_eq other.shred shred)) waits)
        (filter (λ other. not (nat_eq other.shred shred)) waits))) (eq-eqb w.shred shred (sym at)) in omega
        (arith, l, h, ih)
    by (other ne h) ih = let l =
        ap (λ b. length (cond (not b) (w ∷ filter (λ other. not (nat_eq other.shred shred)) waits)
        (filter (λ other. not (nat_eq other.shred shred)) waits))) (ne_eqb w.shred shred (λ at. ne (sym at))) in
        omega (arith, l, h, ih)

pub woken_fewer : (event : ℕ) (run : Run Stopped) (o : Option Wait) → longest event run ≡ o → is_some o ≡ true
    → length (woken run o).waits < length run.waits
woken_fewer event run None found some = absurd (cc some)
woken_fewer event run (Some w) found some =
    omega (
      arith,
      fewer_left w.shred run.waits,
      found_among (λ (w : Wait). w.shred) (λ wait. nat_eq wait.event event) run.waits w found,
    )

-- a clause on success
pub on_ok : {T X : Type 0} (A B : Type 0) (r : Result T X) → (A → B) → OnOk r A → OnOk r B
on_ok A B (Ok x) f h = f h
on_ok A B (Err x) f h = tt

pub with_ok : {T X : Type 0} (A : Type 0) (r : Result T X) → A → OnOk r A
with_ok A (Ok x) h = h
with_ok A (Err x) h = tt

pub abs_is : (z : ℤ) (n : ℕ) → pos 0 ≤ℤ z → n ≡ nat_abs z → z ≡ pos n
abs_is (pos m) n le e = ap (λ k. pos k) (sym e)
abs_is (negsuc m) n le e = absurd (omega (arith, ints, le))

pub on_err : {T X : Type 0} (A : Type 0) (r : Result T X) → A → OnErr r A
on_err A (Ok x) h = tt
on_err A (Err x) h = h

pub none_by : {A : Type 0} (o : Option A) → ((x : A) → o ≡ Some x → ⊥) → o ≡ None
none_by None h = refl
none_by (Some x) h = absurd (h x refl)

pub if_none : {A : Type 0} (P : Type 0) (o : Option A) → o ≡ None → IfNone o P → P
if_none P None e h = h
if_none P (Some x) e h = absurd (cc e)
