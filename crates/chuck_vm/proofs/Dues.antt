-- Lists of which the same shreds are due at each time in the same order.
use Rattle.std.proofs.Common.{◌≡◌, ℕ, ◌+◌, ℤ, int_eq, int_lt, int_le, ◌<ℤ◌, ◌≤ℤ◌, Bool, true, false, cond, not, List, [], ◌∷◌, ◌++◌, map, filter, Option, Some, None, refl, sym, ap, ◌∙◌, subst, arith}
use Rattle.std.proofs.lemmas.Bool.Decides.{Decides-int_eq}
use Rattle.std.proofs.lemmas.Int.{ints}
use Rattle.std.proofs.lemmas.List.{map-append}
use Rattle.std.proofs.lemmas.List.Elements.{filter-append}
use Rattle.ck_run.specs.Counts.{hit, times}
use Rattle.ck_run.specs.Run.{Due, sooner, first_due}
use Rattle.ck_run.proofs.Lists.{times-filter_le}
use Rattle.ck_store.specs.Steps.{pick}
use Rattle.chuck_vm.specs.Machine.{shreds_due, AreDueAlike}
use Rattle.chuck_vm.proofs.Alike.{appended, arrived_alike}

-- two times are one or not
data Times (one two : ℤ) : Type 0 where
  at_once : one ≡ two → int_eq one two ≡ true → Times one two
  apart : (one ≡ two → ⊥) → int_eq one two ≡ false → Times one two

times_of : (one two : ℤ) → Times one two
times_of one two = by (int_eq one two) refl
  where
    by : (b : Bool) → int_eq one two ≡ b → Times one two
    by true e = at_once ((Decides-int_eq one two).0 e) e
    by false e = apart (λ is. let bad = (Decides-int_eq one two).1 is in absurd (cc (e, bad))) e

-- what is due first, and what is due after it
due_now : (time : ℤ) (d : Due) (rest : List Due) → d.time ≡ time
    → shreds_due time (d ∷ rest) ≡ d.shred ∷ shreds_due time rest
due_now time d rest is = by (times_of d.time time)
  where
    by : Times d.time time → shreds_due time (d ∷ rest) ≡ d.shred ∷ shreds_due time rest
    by (at_once e same) =
        ap (λ b. map (λ (d : Due). d.shred) (cond b (d ∷ filter (λ due. int_eq due.time time) rest)
        (filter (λ due. int_eq due.time time) rest))) same
    by (apart ne other) = absurd (ne is)

due_then : (time : ℤ) (d : Due) (rest : List Due) → (d.time ≡ time → ⊥)
    → shreds_due time (d ∷ rest) ≡ shreds_due time rest
due_then time d rest ne = by (times_of d.time time)
  where
    by : Times d.time time → shreds_due time (d ∷ rest) ≡ shreds_due time rest
    by (at_once e same) = absurd (ne e)
    by (apart ne other) =
        ap (λ b. map (λ (d : Due). d.shred) (cond b (d ∷ filter (λ due. int_eq due.time time) rest)
        (filter (λ due. int_eq due.time time) rest))) other

-- the same list
pub same_due : (one two : List Due) → one ≡ two → AreDueAlike one two
same_due one two is = λ time. ap (shreds_due time) is

pub swapped_due : (one two : List Due) → AreDueAlike one two → AreDueAlike two one
swapped_due one two alike = λ time. sym (alike time)

pub joined_due : (one two three : List Due) → AreDueAlike one two → AreDueAlike two three → AreDueAlike one three
joined_due one two three alike more = λ time. alike time ∙ more time

-- one more is due
shreds_due-append : (time : ℤ) (one two : List Due)
    → shreds_due time (one ++ two) ≡ shreds_due time one ++ shreds_due time two
shreds_due-append time one two =
    ap (map (λ (d : Due). d.shred)) (filter-append (λ (d : Due). int_eq d.time time) one two)
    ∙ map-append (λ (d : Due). d.shred) (filter (λ (d : Due). int_eq d.time time) one)
    (filter (λ (d : Due). int_eq d.time time) two)

pub one_more_due : (one two : List Due) (d : Due) → AreDueAlike one two
    → AreDueAlike (one ++ d ∷ []) (two ++ d ∷ [])
one_more_due one two d alike = λ time.
    shreds_due-append time one (d ∷ []) ∙ ap (λ l. l ++ shreds_due time (d ∷ [])) (alike time)
    ∙ sym (shreds_due-append time two (d ∷ []))

pub pushed_due : (one longer two : List Due) (d : Due) → AreDueAlike longer (one ++ d ∷ []) → AreDueAlike one two
    → AreDueAlike longer (two ++ d ∷ [])
pushed_due one longer two d pushed alike =
    joined_due longer (one ++ d ∷ []) (two ++ d ∷ []) pushed (one_more_due one two d alike)

-- what is due after all that are due by its time might as well be due after all
self : (time : ℤ) → int_eq time time ≡ true
self time = (Decides-int_eq time time).1 refl

means : (one two : ℤ) → int_eq one two ≡ true → one ≡ two
means one two = (Decides-int_eq one two).0

later : (one two : ℤ) → int_lt one two ≡ true → int_eq one two ≡ false
later one two lt = by (times_of one two)
  where
    by : Times one two → int_eq one two ≡ false
    by (at_once is e) = absurd (grind (arith, ints, lt, is))
    by (apart ne e) = e

pub arrived_due : (d : Due) (dues : List Due)
    → AreDueAlike (filter (λ e. not (int_lt d.time e.time)) dues ++ d ∷ filter (λ e. int_lt d.time e.time) dues)
    (dues ++ d ∷ [])
arrived_due d dues =
    arrived_alike int_eq means self (λ (d : Due). d.time) (λ (d : Due). d.shred) int_lt later d dues

pub appended_due : (one two more : List Due) → AreDueAlike one two → AreDueAlike (one ++ more) (two ++ more)
appended_due one two more alike =
    appended int_eq means self (λ (d : Due). d.time) (λ (d : Due). d.shred) one two more alike

-- only some shreds stay
shreds_due-stay : (stays : ℕ → Bool) (time : ℤ) (dues : List Due)
    → shreds_due time (filter (λ d. stays d.shred) dues) ≡ filter stays (shreds_due time dues)
shreds_due-stay stays time [] = refl
shreds_due-stay stays time (d ∷ rest) =
    by (times_of d.time time) (stays d.shred) refl (shreds_due-stay stays time rest)
  where
    left : List Due
    left = filter (λ d. stays d.shred) rest

    by : Times d.time time → (b : Bool) → stays d.shred ≡ b
        → shreds_due time left ≡ filter stays (shreds_due time rest)
        → shreds_due time (cond b (d ∷ left) left) ≡ filter stays (shreds_due time (d ∷ rest))
    by (at_once is e) true stay ih =
        due_now time d left is ∙ ap (λ l. d.shred ∷ l) ih
        ∙ sym (ap (filter stays) (due_now time d rest is)
        ∙ ap (λ b. cond b (d.shred ∷ filter stays (shreds_due time rest))
        (filter stays (shreds_due time rest))) stay)
    by (at_once is e) false gone ih =
        ih ∙ sym (ap (filter stays) (due_now time d rest is)
        ∙ ap (λ b. cond b (d.shred ∷ filter stays (shreds_due time rest))
        (filter stays (shreds_due time rest))) gone)
    by (apart ne e) true stay ih =
        due_then time d left ne ∙ ih ∙ sym (ap (filter stays) (due_then time d rest ne))
    by (apart ne e) false gone ih = ih ∙ sym (ap (filter stays) (due_then time d rest ne))

pub stay_due : (stays : ℕ → Bool) (one two : List Due) → AreDueAlike one two
    → AreDueAlike (filter (λ d. stays d.shred) one) (filter (λ d. stays d.shred) two)
stay_due stays one two alike = λ time.
    shreds_due-stay stays time one ∙ ap (filter stays) (alike time) ∙ sym (shreds_due-stay stays time two)

-- how often a shred is due at a time, and at some time
times-shreds : (m : ℕ) (dues : List Due) → times (λ (n : ℕ). n) m (map (λ (d : Due). d.shred) dues)
    ≡ times (λ (d : Due). d.shred) m dues
times-shreds m [] = refl
times-shreds m (d ∷ rest) = ap (λ n. hit m d.shred + n) (times-shreds m rest)

never_at : (m : ℕ) (dues : List Due) → times (λ (d : Due). d.shred) m dues ≡ 0 → (time : ℤ)
    → times (λ (n : ℕ). n) m (shreds_due time dues) ≡ 0
never_at m dues none time = omega (
  arith,
  none,
  times-shreds m (filter (λ (d : Due). int_eq d.time time) dues),
  times-filter_le (λ (d : Due). d.shred) m (λ (d : Due). int_eq d.time time) dues,
)

at_no_time : (m : ℕ) (dues : List Due) → ((time : ℤ) → times (λ (n : ℕ). n) m (shreds_due time dues) ≡ 0)
    → times (λ (d : Due). d.shred) m dues ≡ 0
at_no_time m [] none = refl
at_no_time m (d ∷ rest) none =
    let here : times (λ (n : ℕ). n) m (d.shred ∷ shreds_due d.time rest) ≡ 0 =
    ap (times (λ (n : ℕ). n) m) (sym (due_now d.time d rest refl)) ∙ none d.time in
    omega (arith, here, at_no_time m rest later)
  where
    later : (time : ℤ) → times (λ (n : ℕ). n) m (shreds_due time rest) ≡ 0
    later time = by (times_of d.time time)
      where
        by : Times d.time time → times (λ (n : ℕ). n) m (shreds_due time rest) ≡ 0
        by (at_once is e) = omega (
          arith,
          none time,
          ap (times (λ (n : ℕ). n) m) (due_now time d rest is),
        )
        by (apart ne e) = ap (times (λ (n : ℕ). n) m) (sym (due_then time d rest ne)) ∙ none time

-- so a shred is due in neither or in both
pub none_due : (m : ℕ) (one two : List Due) → AreDueAlike one two → times (λ (d : Due). d.shred) m two ≡ 0
    → times (λ (d : Due). d.shred) m one ≡ 0
none_due m one two alike none =
    at_no_time m one (λ time. ap (times (λ (n : ℕ). n) m) (alike time) ∙ never_at m two none time)

-- the first one of least time: before its time nothing is due, and at its time no other is first
record IsFirst (now : ℤ) (dues : List Due) (d : Due) : Type 0 where
  soon : d.time ≤ℤ now
  rest : List ℕ
  first : shreds_due d.time dues ≡ d.shred ∷ rest
  before : (time : ℤ) → time <ℤ d.time → shreds_due time dues ≡ []

none_first : (now : ℤ) (dues : List Due) → first_due now dues ≡ None → (time : ℤ) → time ≤ℤ now
    → shreds_due time dues ≡ []
none_first now [] is time le = refl
none_first now (d ∷ rest) is time le = by (int_le d.time now) refl is (none_first now rest)
  where
    by : (b : Bool) → int_le d.time now ≡ b
        → pick b (Some (sooner d (first_due now rest))) (first_due now rest) ≡ None
        → (first_due now rest ≡ None → (time : ℤ) → time ≤ℤ now → shreds_due time rest ≡ [])
        → shreds_due time (d ∷ rest) ≡ []
    by true e none ih = absurd (cc none)
    by false e none ih =
        due_then time d rest (λ same. grind (arith, ints, e, le, same)) ∙ ih none time le

is_first : (now : ℤ) (dues : List Due) (d : Due) → first_due now dues ≡ Some d → IsFirst now dues d
is_first now [] d is = absurd (cc is)
is_first now (e ∷ rest) d is =
    by (int_le e.time now) refl (first_due now rest) refl is (λ f. is_first now rest f)
  where
    here : e.time ≤ℤ now → ((time : ℤ) → time <ℤ e.time → shreds_due time rest ≡ []) → IsFirst now (e ∷ rest) e
    here le none = record {
      soon = le;
      rest = shreds_due e.time rest;
      first = due_now e.time e rest refl;
      before = λ time lt. due_then time e rest (λ same. omega (arith, ints, lt, same)) ∙ none time lt;
    }

    later : (f : Due) → (f.time <ℤ e.time) → IsFirst now rest f → IsFirst now (e ∷ rest) f
    later f lt of_rest = record {
      soon = of_rest.soon;
      rest = of_rest.rest;
      first = due_then f.time e rest (λ same. omega (arith, ints, lt, same)) ∙ of_rest.first;
      before = λ time less. due_then time e rest (λ same. omega (arith, ints, lt, less, same))
          ∙ of_rest.before time less;
    }

    sooner_of : (f : Due) (b : Bool) → int_lt f.time e.time ≡ b → e.time ≤ℤ now → IsFirst now rest f
        → Some (pick b f e) ≡ Some d → IsFirst now (e ∷ rest) d
    sooner_of f true lt le of_rest found =
        let same : f ≡ d = cc found in
        subst (IsFirst now (e ∷ rest)) same (later f (grind (arith, ints, lt)) of_rest)
    sooner_of f false ge le of_rest found =
        let same : e ≡ d = cc found in
        subst (IsFirst now (e ∷ rest)) same
        (here le (λ time lt. of_rest.before time (grind (arith, ints, ge, lt))))

    by : (b : Bool) → int_le e.time now ≡ b → (o : Option Due) → first_due now rest ≡ o
        → pick b (Some (sooner e o)) o ≡ Some d
        → ((f : Due) → first_due now rest ≡ Some f → IsFirst now rest f) → IsFirst now (e ∷ rest) d
    by true le None none found ih =
        let same : e ≡ d = cc found in
        let come : e.time ≤ℤ now = grind (arith, ints, le) in
        subst (IsFirst now (e ∷ rest)) same
        (here come (λ time lt. none_first now rest none time (omega (arith, ints, come, lt))))
    by true le (Some f) some found ih =
        sooner_of f (int_lt f.time e.time) refl (grind (arith, ints, le)) (ih f some) found
    by false gt None none found ih = absurd (cc found)
    by false gt (Some f) some found ih =
        let same : f ≡ d = cc found in
        let of_rest = ih f some in
        subst (IsFirst now (e ∷ rest)) same (later f (grind (arith, ints, gt, of_rest.soon)) of_rest)

-- the first one is the same
same_head : (one two rest rest2 : List ℕ) (m n : ℕ) → one ≡ two → one ≡ m ∷ rest → two ≡ n ∷ rest2 → m ≡ n
same_head one two rest rest2 m n same first second =
    let both : m ∷ rest ≡ n ∷ rest2 = sym first ∙ same ∙ second in
    cc both

none_other : (one two rest : List ℕ) (m : ℕ) → one ≡ two → one ≡ m ∷ rest → two ≡ [] → ⊥
none_other one two rest m same first none =
    let both : m ∷ rest ≡ [] = sym first ∙ same ∙ none in
    absurd (cc both)

same_entry : (time time2 : ℤ) (m n : ℕ) → time ≡ time2 → m ≡ n
    → (let d : Due = record { time = time; shred = m } in d ≡ record { time = time2; shred = n })
same_entry time time2 m n same shred =
    ap (λ t. record { time = t; shred = m }) same ∙ ap (λ k. record { time = time2; shred = k }) shred

no_first : (now : ℤ) (one two : List Due) (d : Due) → AreDueAlike one two → IsFirst now one d
    → first_due now two ≡ None → ⊥
no_first now one two d alike first none =
    none_other (shreds_due d.time one) (shreds_due d.time two) first.rest d.shred (alike d.time) first.first
    (none_first now two none d.time first.soon)

same_first : (now : ℤ) (one two : List Due) (d e : Due) → AreDueAlike one two → IsFirst now one d
    → IsFirst now two e → d ≡ e
same_first now one two d e alike first second = by (int_lt d.time e.time) refl (int_lt e.time d.time) refl
  where
    by : (b : Bool) → int_lt d.time e.time ≡ b → (c : Bool) → int_lt e.time d.time ≡ c → d ≡ e
    by true lt c gt =
        absurd (none_other (shreds_due d.time one) (shreds_due d.time two) first.rest d.shred (alike d.time)
        first.first (second.before d.time (grind (arith, ints, lt))))
    by false ge true lt =
        absurd (none_other (shreds_due e.time two) (shreds_due e.time one) second.rest e.shred
        (sym (alike e.time)) second.first (first.before e.time (grind (arith, ints, lt))))
    by false ge false le =
        let time : d.time ≡ e.time = grind (arith, ints, ge, le) in
        let there : shreds_due d.time two ≡ e.shred ∷ second.rest =
        ap (λ t. shreds_due t two) time ∙ second.first in
        let shred : d.shred ≡ e.shred =
        same_head (shreds_due d.time one) (shreds_due d.time two) first.rest second.rest d.shred e.shred
        (alike d.time) first.first there in
        same_entry d.time e.time d.shred e.shred time shred

pub first_alike : (now : ℤ) (one two : List Due) → AreDueAlike one two → first_due now one ≡ first_due now two
first_alike now one two alike = by (first_due now one) refl (first_due now two) refl
  where
    by : (o : Option Due) → first_due now one ≡ o → (p : Option Due) → first_due now two ≡ p → o ≡ p
    by None none None also = refl
    by None none (Some e) some =
        absurd (no_first now two one e (swapped_due one two alike) (is_first now two e some) none)
    by (Some d) some None none = absurd (no_first now one two d alike (is_first now one d some) none)
    by (Some d) some (Some e) found =
        ap (λ f. Some f) (same_first now one two d e alike (is_first now one d some) (is_first now two e found))
