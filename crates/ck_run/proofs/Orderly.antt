-- A run stays orderly as acts are applied.
use Rattle.std.proofs.Common.{◌≡◌, ℕ, suc, ◌+◌, ◌<◌, ◌≤◌, Bool, true, false, not, nat_eq, List, [], ◌∷◌, fold, find, Option, Some, None, refl, sym, ap, subst, arith}
use Rattle.std.proofs.lemmas.Bool.{ne_eqb, eq-eqb}
use Rattle.ck_store.specs.Steps.{pick}
use Rattle.ck_run.specs.Run.{Shred, Due, Wait, Run, has, live, end_with, ended, with_child, woken, ended_where}
use Rattle.ck_run.specs.Counts.{times}
use Rattle.ck_run.specs.Family.{AreInOrder}
use Rattle.ck_run.specs.Sound.{IsOrderly, times_due, times_waiting, times_live}
use Rattle.ck_run.proofs.Children.{order-higher, family-push}
use Rattle.ck_run.proofs.Family.{family_stays}
use Rattle.ck_run.proofs.Lists.{hit-same, hit-other, Turn, same, other, turn, times-append, times-filter, times-filter_le, found_among}

pub pick_parts : (b : Bool) (x y z : ℕ) → x + y ≤ z → pick b x 0 + pick b y 0 ≤ pick b z 0
pick_parts true x y z le = le
pick_parts false x y z le = omega arith

module _ {P : Type 0} where
  -- numbers in order stand once
  none-low : (shreds : List (Shred P)) (from below m : ℕ) → AreInOrder from below shreds → m < from
      → times (λ (s : Shred P). s.number) m shreds ≡ 0
  none-low [] from below m order lt = refl
  none-low (s ∷ rest) from below m order lt =
      omega (
        arith,
        none-low rest (suc s.number) below m order.2 (omega (arith, lt, order.0)),
        hit-other m s.number (λ e. omega (arith, e, lt, order.0)),
      )

  pub live-once : (shreds : List (Shred P)) (from below m : ℕ) → AreInOrder from below shreds
      → times (λ (s : Shred P). s.number) m shreds ≤ 1
  live-once [] from below m order = omega arith
  live-once (s ∷ rest) from below m order =
      elim (turn m s.number) [
        | same e h ↦ omega (arith, h, none-low rest (suc s.number) below m order.2 (omega (arith, e)))
        | other ne h ↦ omega (arith, h, live-once rest (suc s.number) below m order.2)
      ]

  pub none-high : (shreds : List (Shred P)) (from below m : ℕ) → AreInOrder from below shreds → below ≤ m
      → times (λ (s : Shred P). s.number) m shreds ≡ 0
  none-high [] from below m order le = refl
  none-high (s ∷ rest) from below m order le = omega (
    arith,
    none-high rest (suc s.number) below m order.2 le,
    hit-other m s.number (λ e. omega (arith, e, le, order.1)),
  )

  -- a child begins
  pub orderly_child : (next parent number : ℕ) (run : Run P) (p : P) (o : Option (Shred P)) → IsOrderly next run
      → 1 ≤ next
      → number ≡ next → live run parent ≡ o → IsOrderly (suc next) (with_child run parent number p o)
  orderly_child next parent number run p None orderly le e found = record {
    family = record {
      order = order-higher run.shreds 1 next orderly.family.order;
      parents =
          orderly.family.parents;
    };
    once = orderly.once;
  }
  orderly_child next parent number run p (Some s) orderly le e found =
      let child : Shred P = record { number = number; parent = parent; progress = p } in
      let due : Due = record { time = run.store.now; shred = number } in
      record {
        family = family-push next run.shreds child s orderly.family le e found;
        once = λ m. omega (
          arith,
          orderly.once m,
          times-append (λ (d : Due). d.shred) m run.due (due ∷ []),
          times-append (λ (s : Shred P). s.number) m run.shreds (child ∷ []),
        );
      }

  -- a shred ends, with those who end with it
  pub orderly_ended : (next m : ℕ) (run : Run P) → IsOrderly next run → IsOrderly next (ended run m)
  orderly_ended next m run orderly =
      let keep : ℕ → Bool = λ j. not (has (end_with m run.shreds) j) in
      record {
        family = family_stays m next run.shreds orderly.family;
        once = λ j. omega (
          arith,
          times-filter (λ (d : Due). d.shred) j keep run.due,
          times-filter (λ (w : Wait). w.shred) j keep run.waits,
          times-filter (λ (s : Shred P). s.number) j keep run.shreds,
          pick_parts (keep j) (times_due j run) (times_waiting j run) (times_live j run) (orderly.once j),
        );
      }

  pub orderly_end : (next : ℕ) (run : Run P) (o : Option (Shred P)) → IsOrderly next run
      → IsOrderly next (ended_where run o)
  orderly_end next run None orderly = orderly
  orderly_end next run (Some s) orderly = orderly_ended next s.number run orderly

  -- a waiter is due; it waits
  pub orderly_wait : (next : ℕ) (run : Run P) (w : Wait) → IsOrderly next run → 1 ≤ times_waiting w.shred run
      → IsOrderly next (woken run (Some w))
  orderly_wait next run w orderly waits =
      let due : Due = record { time = run.store.now; shred = w.shred } in
      let keep : ℕ → Bool = λ j. not (nat_eq j w.shred) in
      let dues = λ (j : ℕ). times-append (λ (d : Due). d.shred) j run.due (due ∷ []) in
      record {
        family = orderly.family;
        once = λ j. elim (turn j w.shred) [
          | same e h ↦
              let out : pick (keep j) (times_waiting j run) 0 ≡ 0 =
              ap (λ b. pick (not b) (times_waiting j run) 0) (eq-eqb j w.shred e) in
              let some : 1 ≤ times_waiting j run = subst (λ i. 1 ≤ times_waiting i run) (sym e) waits in
              omega (
                arith,
                orderly.once j,
                dues j,
                times-filter (λ (w : Wait). w.shred) j keep run.waits,
                out,
                h,
                some,
              )
          | other ne h ↦
              omega (
                arith,
                orderly.once j,
                dues j,
                times-filter_le (λ (w : Wait). w.shred) j (λ wait. keep wait.shred) run.waits,
                h,
              )
        ];
      }

  -- the waiter of an event, where there is one
  pub orderly_woken : (next event : ℕ) (run : Run P) (o : Option Wait) → IsOrderly next run
      → find (λ wait. nat_eq wait.event event) run.waits ≡ o → IsOrderly next (woken run o)
  orderly_woken next event run None orderly found = orderly
  orderly_woken next event run (Some w) orderly found =
      orderly_wait next run w orderly
      (found_among (λ (w : Wait). w.shred) (λ wait. nat_eq wait.event event) run.waits w found)

  -- where one of these is woken, the others still wait
  pub others_wait : (next : ℕ) (w : Wait) (waits : List Wait) (run : Run P) → IsOrderly next run
      → ((m : ℕ) → times (λ (w : Wait). w.shred) m (w ∷ waits) ≤ times_waiting m run)
      → (m : ℕ) → times (λ (w : Wait). w.shred) m waits ≤ times_waiting m (woken run (Some w))
  others_wait next w waits run orderly are m = by (turn m w.shred)
    where
      keep : ℕ → Bool
      keep j = not (nat_eq j w.shred)

      by : Turn m w.shred → times (λ (w : Wait). w.shred) m waits ≤ times_waiting m (woken run (Some w))
      by (same e h) = omega (
        arith,
        are m,
        h,
        live-once run.shreds 1 next m orderly.family.order,
        orderly.once m,
      )
      by (other ne h) =
          let kept : pick (keep m) (times_waiting m run) 0 ≡ times_waiting m run =
          ap (λ b. pick (not b) (times_waiting m run) 0) (ne_eqb m w.shred ne) in
          omega (arith, are m, h, times-filter (λ (w : Wait). w.shred) m keep run.waits, kept)

  -- these waiters are due
  pub orderly_all : (next : ℕ) (waits : List Wait) (run : Run P) → IsOrderly next run
      → ((m : ℕ) → times (λ (w : Wait). w.shred) m waits ≤ times_waiting m run)
      → IsOrderly next (fold (λ now wait. woken now (Some wait)) run waits)
  orderly_all next [] run orderly are = orderly
  orderly_all next (w ∷ waits) run orderly are =
      orderly_all next waits (woken run (Some w))
      (orderly_wait next run w orderly (omega (arith, are w.shred, hit-same w.shred w.shred refl)))
      (others_wait next w waits run orderly are)
