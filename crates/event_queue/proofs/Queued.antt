-- Lists of what waits, as queues by their events.
use Rattle.std.proofs.Common.{◌≡◌, ℕ, Bool, true, false, cond, not, nat_eq, nat_lt}
use Rattle.std.proofs.Common.{List, [], ◌∷◌, ◌++◌, filter, find, Some, refl, sym, ap, ◌∙◌, arith}
use Rattle.std.specs.Cmp.{unsigned_tied}
use Rattle.std.specs.Option.{option_map}
use Rattle.std.specs.Ordering.{nat_cmp, on, is_lt, is_eq}
use Rattle.std.specs.declared.cmp.Ordering.{Ordering}
use Rattle.std.specs.declared.cmp.Ordering.TheVariants.{Less, Equal, Greater}
use Rattle.std.proofs.lemmas.Bool.{eq-eqb, eqb-true, eqb-false, ne_eqb}
use Rattle.std.proofs.lemmas.List.{map-append}
use Rattle.shred_queues.proofs.Tickets.{map-filter}
use Rattle.keyed_lists.proofs.Changes.{times-cons}
use Rattle.shred_queues.specs.Places as places
use Rattle.shred_queues.specs.Queues as queues
use Rattle.event_queue.specs.declared.event.Event.{Event}
use Rattle.event_queue.specs.Events.{serial_of, wait_of, all_waits}
use Rattle.event_queue.specs.Waiters.{Wait, shred_of, times_waiting, AreApart, without, arrived}
use Rattle.event_queue.specs.Waiters.{longest, waiting}

-- the order of events
abbrev pub by_serial : Event → Event → Ordering
by_serial = on serial_of nat_cmp

-- what waits does so as often as it stands in the queues, and comes and goes as there
pub times_same : (n : ℕ) (es : List (Event × ℕ)) → places.times n es ≡ times_waiting n (all_waits es)
times_same n [] = refl
times_same n (e ∷ es) = omega (
  arith,
  times-cons places.shred_of n e es,
  times-cons shred_of n (wait_of e) (all_waits es),
  times_same n es,
)

pub apart_same : (es : List (Event × ℕ)) → places.AreApart es → AreApart (all_waits es)
apart_same es apart n = omega (arith, apart n, times_same n es)

pub without_same : (n : ℕ) (es : List (Event × ℕ))
    → all_waits (places.without n es) ≡ without n (all_waits es)
without_same n [] = refl
without_same n (e ∷ es) = by (nat_eq e.1 n) (without_same n es)
  where
    by : (b : Bool) → all_waits (places.without n es) ≡ without n (all_waits es)
        → all_waits (cond (not b) (e ∷ places.without n es) (places.without n es))
        ≡ cond (not b) (wait_of e ∷ without n (all_waits es)) (without n (all_waits es))
    by true ih = ih
    by false ih = ap (λ waits. wait_of e ∷ waits) ih

is_before : (x y : ℕ) → is_lt (nat_cmp x y) ≡ nat_lt x y
is_before x y = by (nat_lt x y) (nat_eq x y)
  where
    by : (a b : Bool) → is_lt (cond a Less (cond b Equal Greater)) ≡ a
    by true b = refl
    by false true = refl
    by false false = refl

pub arrived_same : (event : Event) (n : ℕ) (es : List (Event × ℕ))
    → all_waits (queues.arrived by_serial event n es)
    ≡ arrived (record { event = event.object; shred = n }) (all_waits es)
arrived_same event n es =
    let x = event.object.serial in
    map-append wait_of (filter (λ e. not (is_lt (by_serial event e.0))) es)
    ((event, n) ∷ filter (λ e. is_lt (by_serial event e.0)) es)
    ∙ ap (λ front. front ++ all_waits ((event, n) ∷ filter (λ e. is_lt (by_serial event e.0)) es))
    (map-filter wait_of (λ e. not (is_lt (by_serial event e.0))) (λ w. not (nat_lt x w.event.serial))
    (λ e. ap not (is_before x e.0.object.serial)) es)
    ∙ ap (λ back. filter (λ w. not (nat_lt x w.event.serial)) (all_waits es) ++ wait_of (event, n) ∷ back)
    (map-filter wait_of (λ e. is_lt (by_serial event e.0)) (λ w. nat_lt x w.event.serial)
    (λ e. is_before x e.0.object.serial) es)

turned : (x y : ℕ) → nat_eq x y ≡ nat_eq y x
turned x y = by (nat_eq x y) refl
  where
    by : (b : Bool) → nat_eq x y ≡ b → b ≡ nat_eq y x
    by true same = sym (eq-eqb y x (sym (eqb-true x y same)))
    by false other = sym (ne_eqb y x (λ same. eqb-false x y other (sym same)))

-- the first in the queue of an event waits longest
pub longest_same : (event : Event) (es : List (Event × ℕ))
    → option_map wait_of (find (λ e. is_eq (by_serial event e.0)) es)
    ≡ longest event.object.serial (all_waits es)
longest_same event [] = refl
longest_same event (e ∷ es) =
    ap (λ b. option_map wait_of (cond b (Some e) (find (λ e. is_eq (by_serial event e.0)) es)))
    (unsigned_tied event.object.serial e.0.object.serial ∙ turned event.object.serial e.0.object.serial)
    ∙ by (nat_eq e.0.object.serial event.object.serial) (longest_same event es)
  where
    by : (b : Bool)
        → option_map wait_of (find (λ e. is_eq (by_serial event e.0)) es)
        ≡ longest event.object.serial (all_waits es)
        → option_map wait_of (cond b (Some e) (find (λ e. is_eq (by_serial event e.0)) es))
        ≡ cond b (Some (wait_of e)) (longest event.object.serial (all_waits es))
    by true ih = refl
    by false ih = ih

-- and a shred waits on the event of its queue
pub waiting_same : (n : ℕ) (es : List (Event × ℕ))
    → option_map (λ event. event.object) (places.place_of n es)
    ≡ option_map (λ wait. wait.event) (waiting n (all_waits es))
waiting_same n [] = refl
waiting_same n (e ∷ es) = by (nat_eq e.1 n) (waiting_same n es)
  where
    by : (b : Bool)
        → option_map (λ (event : Event). event.object) (places.place_of n es)
        ≡ option_map (λ (wait : Wait). wait.event) (waiting n (all_waits es))
        → option_map (λ (event : Event). event.object)
        (option_map (λ (e : Event × ℕ). e.0) (cond b (Some e) (find (λ e. nat_eq e.1 n) es)))
        ≡ option_map (λ (wait : Wait). wait.event)
        (cond b (Some (wait_of e)) (waiting n (all_waits es)))
    by true ih = refl
    by false ih = ih
