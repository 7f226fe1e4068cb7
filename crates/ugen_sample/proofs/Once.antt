-- Each one stands in an order of pull once, so that it reads this sample's output of a source that
-- stands before it, and of any other the one before.
use Rattle.std.proofs.Common.{◌≡◌, ℕ, ℤ, zero, suc, true, false, ◌||◌, nat_eq, List, [], ◌∷◌, ◌++◌, length, map, fold, Option, slice_set, refl, ap, sym, ◌∙◌, inl, inr, arith}
use Rattle.std.proofs.lemmas.Bool.Decides.{nat_tests}
use Rattle.std.proofs.lemmas.Grind.{common_steps}
use Rattle.std.proofs.lemmas.List.Sums.{fold-append}
use Rattle.ugen_kinds.specs.SoundFile.{SoundFile}
use Rattle.ugen_sample.specs.declared.choices.Channel.{Channel}
use Rattle.ugen_sample.specs.Connection.{Connection}
use Rattle.ugen_sample.specs.declared.unit.UnitState.{UnitState}
use Rattle.ugen_sample.specs.UnitState.{Units, unit_at}
use Rattle.ugen_sample.specs.Order.{sources_of, is_among, visit_all, visit, order}
use Rattle.ugen_sample.specs.Sample.{made_from, sounded_where, last_of, output_of, number_on, sources_on, sampled}
use Rattle.ugen_sample.specs.Finishing.{AreDistinct}
use Rattle.ugen_sample.specs.Reading.{read_at, heard_at}
use Rattle.ugen_sample.proofs.Among.{either, neither, both_false, equal, nat_eq-refl, nat_eq-comm, or_left, is_among-append}
use Rattle.ugen_sample.proofs.Visits.{passed, entered}

distinct_push : (ms : List ℕ) (n : ℕ) → AreDistinct ms → is_among n ms ≡ false
    → AreDistinct (ms ++ n ∷ [])
distinct_push [] n d e = (refl, tt)
distinct_push (m ∷ ms) n d e =
    let p = neither (nat_eq m n) (is_among n ms) e in (
      is_among-append m ms (n ∷ [])
          ∙ both_false _ _ d.0 (both_false _ false (nat_eq-comm m n p.0) refl),
      distinct_push ms n d.1 p.1,
    )

-- what a visit under a path leaves
record Apart (path placed after : List ℕ) : Type 0 where
  distinct : AreDistinct after
  away : (p : ℕ) → is_among p path ≡ true → is_among p placed ≡ false → is_among p after ≡ false

all_apart : (path : List ℕ) (v : ℕ → List ℕ → List ℕ)
    → ((m : ℕ) (ps : List ℕ) → AreDistinct ps → Apart path ps (v m ps))
    → (ms ps : List ℕ) → AreDistinct ps → Apart path ps (visit_all v ms ps)
all_apart path v step [] ps d = record { distinct = d; away = λ p h e. e }
all_apart path v step (m ∷ ms) ps d =
    let one = step m ps d in
    let rest = all_apart path v step ms (v m ps) one.distinct in
    record { distinct = rest.distinct; away = λ p h e. rest.away p h (one.away p h e) }

-- what is among some and what isn't are two
two : (n p : ℕ) (ms : List ℕ) → is_among n ms ≡ false → is_among p ms ≡ true → nat_eq n p ≡ false
two n p ms off on =
    elim (either (nat_eq n p)) [
      | inl e ↦
          let t : is_among p ms ≡ false =
          sym (ap (λ (j : ℕ). is_among j ms) (equal n p e)) ∙ off in
          absurd cc
      | inr e ↦ e
    ]

visit_apart : (k : ℕ) (cs : List Connection) (path : List ℕ) (n : ℕ) (ps : List ℕ)
    → AreDistinct ps → Apart path ps (visit k cs path n ps)
visit_apart zero cs path n ps d = record { distinct = d; away = λ p h e. e }
visit_apart (suc k) cs path n ps d =
    elim (either (is_among n path || is_among n ps)) [
      | inl on ↦ rw (passed (suc k) cs path n ps on) (record { distinct = d; away = λ p h e. e })
      | inr off ↦
          let parts = neither (is_among n path) (is_among n ps) off in
          let all = all_apart (n ∷ path) (visit k cs (n ∷ path))
          (λ m qs e. visit_apart k cs (n ∷ path) m qs e) (sources_of cs n) ps d in
          rw (entered k cs path n ps off) (record {
            distinct =
                distinct_push _ n all.distinct (all.away n (or_left _ _ (nat_eq-refl n)) parts.1);
            away = λ p h e.
                let other = two n p path parts.0 h in
                let deeper : is_among p (n ∷ path) ≡ true = rw other h in
                is_among-append p _ (n ∷ [])
                ∙ both_false _ _ (all.away p deeper e) (both_false _ false other refl);
          })
    ]

pub order_distinct : (roots : List ℕ) (cs : List Connection) → AreDistinct (order roots cs)
unfolding order
order_distinct roots cs =
    let k = suc (suc (length cs)) in
    (all_apart [] _ (λ m ps d. visit_apart k cs [] m ps d) roots [] tt).distinct

-- in two parts of distinct numbers none stands in both
not_after : (before rest : List ℕ) (m : ℕ) → AreDistinct (before ++ rest)
    → is_among m before ≡ true → is_among m rest ≡ false
not_after [] rest m d on = absurd cc
not_after (b ∷ bs) rest m d on =
    elim (either (nat_eq b m)) [
      | inl e ↦
          let t : is_among m (bs ++ rest) ≡ false =
          sym (ap (λ (j : ℕ). is_among j (bs ++ rest)) (equal b m e)) ∙ d.0 in
          (neither (is_among m bs) (is_among m rest) (sym (is_among-append m bs rest) ∙ t)).1
      | inr e ↦ not_after bs rest m d.1 (rw e at on)
    ]

after_part : (before rest : List ℕ) → AreDistinct (before ++ rest) → AreDistinct rest
after_part [] rest d = d
after_part (b ∷ bs) rest d = after_part bs rest d.1

not_before : (before rest : List ℕ) (n : ℕ) → AreDistinct (before ++ n ∷ rest)
    → is_among n before ≡ false
not_before before rest n d =
    elim (either (is_among n before)) [
      | inl on ↦
          let off = not_after before (n ∷ rest) n d on in
          let here : is_among n (n ∷ rest) ≡ true = or_left _ _ (nat_eq-refl n) in
          absurd cc
      | inr off ↦ off
    ]

-- another place keeps what it has
at_other : (units : Units) (i k : ℕ) (unit : Option UnitState) → nat_eq i k ≡ false
    → unit_at (slice_set units i unit) k ≡ unit_at units k
at_other units i k unit e = grind (arith, common_steps, nat_tests)

module _ (waves : List SoundFile) (sources : Channel → ℕ → List ℕ) where
  abbrev step : Units → ℕ → Units
  step units n = made_from waves sources units n

  -- what has no turn stays as it is
  pub left_alone : (ns : List ℕ) (units : Units) (m : ℕ) → is_among m ns ≡ false
      → unit_at (fold step units ns) m ≡ unit_at units m
  left_alone [] units m e = refl
  left_alone (n ∷ ns) units m e =
      let p = neither (nat_eq n m) (is_among m ns) e in
      left_alone ns (step units n) m p.1 ∙ at_other units n m _ p.0

  -- the one whose turn it is makes its output from those that it finds
  made_there : (units : Units) (n : ℕ)
      → unit_at (step units n) n
      ≡ sounded_where waves n (unit_at units n)
      (λ channel. map (λ m. number_on channel (last_of units m)) (sources channel n))
  made_there units n = at units n _
    where
      at : (us : Units) (k : ℕ) (heard : Channel → List ℤ)
          → unit_at (slice_set us k (sounded_where waves n (unit_at us k) heard)) k
          ≡ sounded_where waves n (unit_at us k) heard
      at [] k heard = refl
      at (u ∷ us) zero heard = refl
      at (u ∷ us) (suc k) heard = at us k heard

  -- a sample, cut at the turn of one
  cut : (units : Units) (before rest : List ℕ) (m : ℕ)
      → AreDistinct (before ++ rest) → is_among m before ≡ true
      → unit_at (fold step units (before ++ rest)) m ≡ unit_at (fold step units before) m
  cut units before rest m d on =
      ap (λ (us : Units). unit_at us m) (fold-append step units before rest)
      ∙ left_alone rest _ m (not_after before rest m d on)

  reads : (units : Units) (before rest : List ℕ) (m : ℕ) → AreDistinct (before ++ rest)
      → last_of (fold step units before) m
      ≡ read_at before units (fold step units (before ++ rest)) m
  reads units before rest m d =
      elim (either (is_among m before)) [
        | inl on ↦ rw on (ap output_of (sym (cut units before rest m d on)))
        | inr off ↦ rw off (ap output_of (left_alone before units m off))
      ]

  map-same : (f g : ℕ → ℤ) → ((m : ℕ) → f m ≡ g m) → (ms : List ℕ) → map f ms ≡ map g ms
  map-same f g same [] = refl
  map-same f g same (m ∷ ms) = rw (same m, map-same f g same ms) refl

  pub made_at : (units : Units) (before : List ℕ) (n : ℕ) (rest : List ℕ)
      → AreDistinct (before ++ n ∷ rest)
      → unit_at (fold step units (before ++ n ∷ rest)) n
      ≡ sounded_where waves n (unit_at units n)
      (λ channel. map (λ m. number_on channel (read_at before units
      (fold step units (before ++ n ∷ rest)) m)) (sources channel n))
  made_at units before n rest d =
      let then = fold step units before in
      let all = fold step units (before ++ n ∷ rest) in
      let alone = (after_part before (n ∷ rest) d).0 in
      let heard : (λ channel. map (λ m. number_on channel (last_of then m)) (sources channel n))
      ≡ (λ channel. map (λ m. number_on channel (read_at before units all m)) (sources channel n)) =
      λ i channel. map-same _ _ (λ m. ap (number_on channel)
      (reads units before (n ∷ rest) m d)) (sources channel n) i in
      ap (λ (us : Units). unit_at us n) (fold-append step units before (n ∷ rest))
      ∙ left_alone rest (step then n) n alone
      ∙ made_there then n
      ∙ ap (λ (o : Option UnitState). sounded_where waves n o
      (λ channel. map (λ m. number_on channel (last_of then m)) (sources channel n)))
      (left_alone before units n (not_before before rest n d))
      ∙ ap (λ (h : Channel → List ℤ). sounded_where waves n (unit_at units n) h) heard

-- what isn't reached stays as it is
pub unreached : (waves : List SoundFile) (roots : List ℕ) (cs : List Connection) (units : Units)
    (n : ℕ) → is_among n (order roots cs) ≡ false
    → unit_at (sampled waves roots cs units) n ≡ unit_at units n
unfolding sampled
unreached waves roots cs units n e =
    left_alone waves (sources_on cs) (order roots cs) units n e

-- when the turn of n comes, it reads of each source this sample's output where the source stands
-- before it, and else the one before
pub reached : (waves : List SoundFile) (roots : List ℕ) (cs : List Connection) (units : Units)
    (before : List ℕ) (n : ℕ) (rest : List ℕ) → order roots cs ≡ before ++ n ∷ rest
    → unit_at (sampled waves roots cs units) n
    ≡ sounded_where waves n (unit_at units n)
    (heard_at cs before units (sampled waves roots cs units) n)
unfolding sampled
reached waves roots cs units before n rest is =
    let d : AreDistinct (before ++ n ∷ rest) = rw is at (order_distinct roots cs) in
    rw is (made_at waves (sources_on cs) units before n rest d)
