-- Lists of what is due, as queues by their times.
use Rattle.std.proofs.Common.{◌≡◌, ℕ, ℤ, ◌<ℤ◌, int_lt, int_le, Bool, true}
use Rattle.std.proofs.Common.{false, cond, not, nat_eq, List, [], ◌∷◌, ◌++◌, filter, find, slice_get}
use Rattle.std.proofs.Common.{Option, Some, None, IfSome, is_some, refl, ap, ◌∙◌, arith}
use Rattle.std.specs.Bool.{OnTrue, OnFalse}
use Rattle.std.specs.List.{AllByRecursion}
use Rattle.std.specs.Option.{option_map}
use Rattle.std.specs.Ordering.{int_cmp, is_lt, is_gt}
use Rattle.std.specs.declared.cmp.Ordering.TheVariants.{Less, Equal, Greater}
use Rattle.std.proofs.lemmas.Int.{ints}
use Rattle.std.proofs.lemmas.Bool.{eqb-true}
use Rattle.std.proofs.lemmas.List.{map-append}
use Rattle.shred_queues.proofs.Tickets.{map-filter}
use Rattle.keyed_lists.proofs.Changes.{hits, hits-same, times-cons}
use Rattle.shred_queues.specs.Places as places
use Rattle.shred_queues.specs.Queues as queues
use Rattle.shreduler.specs.Queue.{Due, due_of, all_due, shred_of, times_due, without, arrived, sooner}
use Rattle.shreduler.specs.Queue.{first_due, earlier, next_time}

-- what is due is so as often as it stands in the queues, and comes and goes as there
pub times_same : (n : ℕ) (es : List (ℤ × ℕ)) → places.times n es ≡ times_due n (all_due es)
times_same n [] = refl
times_same n (e ∷ es) = omega (
  arith,
  times-cons places.shred_of n e es,
  times-cons shred_of n (due_of e) (all_due es),
  times_same n es,
)

pub without_same : (n : ℕ) (es : List (ℤ × ℕ)) → all_due (places.without n es) ≡ without n (all_due es)
without_same n [] = refl
without_same n (e ∷ es) = by (nat_eq e.1 n) (without_same n es)
  where
    by : (b : Bool) → all_due (places.without n es) ≡ without n (all_due es)
        → all_due (cond (not b) (e ∷ places.without n es) (places.without n es))
        ≡ cond (not b) (due_of e ∷ without n (all_due es)) (without n (all_due es))
    by true ih = ih
    by false ih = ap (λ due. due_of e ∷ due) ih

is_before : (x y : ℤ) → is_lt (int_cmp x y) ≡ int_lt x y
is_before x y = by (int_lt x y) (int_lt y x)
  where
    by : (a b : Bool) → is_lt (cond a Less (cond b Greater Equal)) ≡ a
    by true b = refl
    by false true = refl
    by false false = refl

-- no earlier than another
not_before : (x y : ℤ) → is_gt (int_cmp x y) ≡ false → int_lt y x ≡ false
not_before x y = by (int_lt x y) refl (int_lt y x) refl
  where
    by : (a : Bool) → int_lt x y ≡ a → (b : Bool) → int_lt y x ≡ b
        → is_gt (cond a Less (cond b Greater Equal)) ≡ false → b ≡ false
    by true lt true gt is = absurd (grind (arith, ints, lt, gt))
    by true lt false ge is = refl
    by false ge true gt is = absurd (cc is)
    by false ge false le is = refl

pub arrived_same : (time : ℤ) (n : ℕ) (es : List (ℤ × ℕ)) → all_due (queues.arrived int_cmp time n es)
    ≡ arrived (record { time = time; shred = n }) (all_due es)
arrived_same time n es =
    map-append due_of (filter (λ e. not (is_lt (int_cmp time e.0))) es)
    ((time, n) ∷ filter (λ e. is_lt (int_cmp time e.0)) es)
    ∙ ap (λ front. front ++ all_due ((time, n) ∷ filter (λ e. is_lt (int_cmp time e.0)) es))
    (map-filter due_of (λ e. not (is_lt (int_cmp time e.0))) (λ d. not (int_lt time d.time))
    (λ e. ap not (is_before time e.0)) es)
    ∙ ap (λ back. filter (λ d. not (int_lt time d.time)) (all_due es) ++ due_of (time, n) ∷ back)
    (map-filter due_of (λ e. is_lt (int_cmp time e.0)) (λ d. int_lt time d.time)
    (λ e. is_before time e.0) es)

-- where none is before a time, what is found first isn't
first_not_before : (now time : ℤ) (es : List (ℤ × ℕ))
    → AllByRecursion (λ f. is_gt (int_cmp time f.0) ≡ false) es
    → IfSome (first_due now (all_due es)) (λ d. int_lt d.time time ≡ false)
first_not_before now time [] all = tt
first_not_before now time (e ∷ es) all =
    by (int_le e.0 now) (first_due now (all_due es)) (first_not_before now time es all.1)
  where
    here : int_lt e.0 time ≡ false
    here = not_before time e.0 all.0

    sooner_too : (b : Bool) (d : Due) → int_lt d.time time ≡ false
        → int_lt (cond b d (due_of e)).time time ≡ false
    sooner_too true d later = later
    sooner_too false d later = here

    by : (b : Bool) (o : Option Due) → IfSome o (λ d. int_lt d.time time ≡ false)
        → IfSome (cond b (Some (sooner (due_of e) o)) o) (λ d. int_lt d.time time ≡ false)
    by true None ih = here
    by true (Some d) ih = sooner_too (int_lt d.time e.0) d ih
    by false o ih = ih

none_yet : (now time : ℤ) (es : List (ℤ × ℕ)) → AllByRecursion (λ f. is_gt (int_cmp time f.0) ≡ false) es
    → int_le time now ≡ false → first_due now (all_due es) ≡ None
none_yet now time [] all later = refl
none_yet now time (e ∷ es) all later =
    let after : int_le e.0 now ≡ false =
    by (int_le e.0 now) refl (not_before time e.0 all.0) in
    ap (λ b. cond b (Some (sooner (due_of e) (first_due now (all_due es)))) (first_due now (all_due es))) after
    ∙ none_yet now time es all.1 later
  where
    by : (b : Bool) → int_le e.0 now ≡ b → int_lt e.0 time ≡ false → b ≡ false
    by true le ge = absurd (grind (arith, ints, le, ge, later))
    by false gt ge = refl

-- the first in the queues is the one that is due first, where its time has come
abbrev pub first_by : (now : ℤ) → Option (ℤ × ℕ) → Option Due
first_by now None = None
first_by now (Some e) = cond (int_le e.0 now) (Some (due_of e)) None

pub first_same : (now : ℤ) (es : List (ℤ × ℕ)) → queues.IsRising int_cmp es
    → first_due now (all_due es) ≡ first_by now (slice_get es 0)
first_same now [] rises = refl
first_same now (e ∷ es) rises = by (int_le e.0 now) refl
  where
    kept : (o : Option Due) → IfSome o (λ d. int_lt d.time e.0 ≡ false) → sooner (due_of e) o ≡ due_of e
    kept None later = refl
    kept (Some d) later = ap (λ b. cond b d (due_of e)) later

    by : (b : Bool) → int_le e.0 now ≡ b
        → cond b (Some (sooner (due_of e) (first_due now (all_due es)))) (first_due now (all_due es))
        ≡ cond b (Some (due_of e)) None
    by true come =
        ap (λ d. Some d) (kept (first_due now (all_due es)) (first_not_before now e.0 es rises.0))
    by false later = none_yet now e.0 es rises.0 later

-- its time is the next
next_not_before : (time : ℤ) (es : List (ℤ × ℕ)) → AllByRecursion (λ f. is_gt (int_cmp time f.0) ≡ false) es
    → IfSome (next_time (all_due es)) (λ t. int_lt t time ≡ false)
next_not_before time [] all = tt
next_not_before time (e ∷ es) all = by (next_time (all_due es)) (next_not_before time es all.1)
  where
    least : (b : Bool) (t : ℤ) → int_lt t time ≡ false → int_lt (cond b t e.0) time ≡ false
    least true t later = later
    least false t later = not_before time e.0 all.0

    by : (o : Option ℤ) → IfSome o (λ t. int_lt t time ≡ false) → int_lt (earlier e.0 o) time ≡ false
    by None ih = not_before time e.0 all.0
    by (Some t) ih = least (int_lt t e.0) t ih

pub next_same : (es : List (ℤ × ℕ)) → queues.IsRising int_cmp es
    → next_time (all_due es) ≡ option_map (λ e. e.0) (slice_get es 0)
next_same [] rises = refl
next_same (e ∷ es) rises =
    ap (λ t. Some t) (by (next_time (all_due es)) (next_not_before e.0 es rises.0))
  where
    by : (o : Option ℤ) → IfSome o (λ t. int_lt t e.0 ≡ false) → earlier e.0 o ≡ e.0
    by None ih = refl
    by (Some t) ih = ap (λ b. cond b t e.0) ih

-- before it nothing is due
pub none_before : (now : ℤ) (es : List (ℤ × ℕ)) (e : ℤ × ℕ) → queues.IsRising int_cmp es
    → slice_get es 0 ≡ Some e → now <ℤ e.0 → first_due now (all_due es) ≡ None
none_before now es e rises first earlier =
    let later : int_le e.0 now ≡ false = by (int_le e.0 now) refl in
    first_same now es rises ∙ ap (first_by now) first ∙ ap (λ b. cond b (Some (due_of e)) None) later
  where
    by : (b : Bool) → int_le e.0 now ≡ b → b ≡ false
    by true le = absurd (grind (arith, ints, le, earlier))
    by false gt = refl

-- whether a shred was taken out tells whether it was due
pub was_due : (n : ℕ) (es : List (ℤ × ℕ)) → places.AreApart es
    → OnTrue (is_some (places.place_of n es)) (places.times n es ≡ 1)
    × OnFalse (is_some (places.place_of n es)) (places.times n es ≡ 0)
was_due n [] apart = (tt, refl)
was_due n (e ∷ es) apart =
    by (nat_eq e.1 n) refl
    (was_due n es (λ m. omega (arith, apart m, times-cons places.shred_of m e es)))
  where
    by : (b : Bool) → nat_eq e.1 n ≡ b
        → OnTrue (is_some (places.place_of n es)) (places.times n es ≡ 1)
        × OnFalse (is_some (places.place_of n es)) (places.times n es ≡ 0)
        → OnTrue (is_some (option_map (λ (e : ℤ × ℕ). e.0) (cond b (Some e) (find (λ e. nat_eq e.1 n) es))))
        (places.times n (e ∷ es) ≡ 1)
        × OnFalse (is_some (option_map (λ (e : ℤ × ℕ). e.0) (cond b (Some e) (find (λ e. nat_eq e.1 n) es))))
        (places.times n (e ∷ es) ≡ 0)
    by true here ih = (
      omega (
        arith,
        apart n,
        times-cons places.shred_of n e es,
        hits-same n e.1 (eqb-true e.1 n here),
      ),
      tt,
    )
    by false other ih =
        let no_more : hits n e.1 ≡ 0 = ap (λ b. cond b 1 0) other in
        let same : places.times n (e ∷ es) ≡ places.times n es =
        omega (arith, times-cons places.shred_of n e es, no_more) in
        at (is_some (places.place_of n es)) ih same
      where
        at : (b : Bool) → OnTrue b (places.times n es ≡ 1) × OnFalse b (places.times n es ≡ 0)
            → places.times n (e ∷ es) ≡ places.times n es
            → OnTrue b (places.times n (e ∷ es) ≡ 1) × OnFalse b (places.times n (e ∷ es) ≡ 0)
        at true ih same = (same ∙ ih.0, tt)
        at false ih same = (tt, same ∙ ih.1)

pub first_come : (now : ℤ) (e : ℤ × ℕ) → int_lt now e.0 ≡ false → first_by now (Some e) ≡ Some (due_of e)
first_come now e come = by (int_le e.0 now) refl
  where
    by : (b : Bool) → int_le e.0 now ≡ b → cond b (Some (due_of e)) None ≡ Some (due_of e)
    by true le = refl
    by false gt = absurd (grind (arith, ints, gt, come))

pub first_later : (now : ℤ) (e : ℤ × ℕ) → int_lt now e.0 ≡ true → first_by now (Some e) ≡ None
first_later now e later = by (int_le e.0 now) refl
  where
    by : (b : Bool) → int_le e.0 now ≡ b → cond b (Some (due_of e)) None ≡ None
    by true le = absurd (grind (arith, ints, le, later))
    by false gt = refl
