-- What `hold` and `release` do to the counts.
use Rattle.std.proofs.Common.{◌≡◌, inl, inr, ℕ, ◌+◌, ◌<◌, ◌≤◌, Option, Some, refl, sym, ap, ◌∙◌, arith, set, subst}
use Rattle.ck_values.specs.declared.reference.Ref.{Ref}
use Rattle.counted_heap.specs.Places.{hit}
use Rattle.counted_heap.specs.declared.cell.Cell.{Cell}
use Rattle.counted_heap.specs.Cells.{Cells, cell_at, inner, count_at, IsCounted, link_at, IsChained}
use Rattle.counted_heap.specs.Counted.{Counted, outside, SameObjects}
use Rattle.counted_heap.specs.Stands.{StandsOn}
use Rattle.counted_heap.proofs.Standing.{stands_same}
use Rattle.counted_heap.proofs.Reading.{heap_of, outside_is, link-held, link-zero, link-there}
use Rattle.counted_heap.proofs.Counting.{hit-one, hit-serial, hit-slot}
use Rattle.counted_heap.proofs.Writes.{same-ref, Wrote, Wrote-set, Holds, count-held, held_is, count_turn, bodies_stay, inner_stays, live_stays, counted_after, chained_same, chained_more}
use Rattle.std.proofs.lemmas.Bool.{cases_eq}

-- an object that is held from outside is so as often as a reference to it stands in a value
pub among-hit : (h : Counted) (at : Ref) → 0 < outside h at → (r : Ref) → hit r at ≤ outside h r
among-hit h at some r = elim (cases_eq at.serial r.serial) [
  | inl serial ↦ elim (cases_eq at.slot r.slot) [
    | inl slot ↦
        let e = ap (outside h) (same-ref at r serial slot) in
        let one = hit-one r at in
        omega arith
    | inr slot ↦ let none = hit-slot r at slot in omega arith
  ]
  | inr serial ↦ let none = hit-serial r at serial in omega arith
]

module _ (old new : Cells) (next : ℕ) (at : Ref) (c d : Cell) (held : Holds old at c)
    (wrote : Wrote old new at.slot (Some d)) (same : d.serial ≡ c.serial) (body : d.body ≡ c.body)
    (was : IsCounted old next) where
  some : 0 < at.serial
  some = let n = was.numbered at.slot c held.at in omega (arith, n.0, held.serial)

  pub raised : d.count ≡ c.count + 1 → IsCounted new next
      × ((r : Ref) → outside (heap_of new next) r ≡ outside (heap_of old next) r + hit r at)
  raised up =
      let covered : (r : Ref) → inner new r ≤ count_at new r = λ r.
      let i = inner_stays old new at c d held wrote same some body r in
      let w = was.covered r in
      elim (count_turn old new at c d held wrote same some r) [
        | inl t ↦ omega arith
        | inr t ↦ omega arith
      ] in
      let good = counted_after old new at c d held wrote same some next was covered in (
        good,
        λ r.
            let i = inner_stays old new at c d held wrote same some body r in
            let o = outside_is old next was r in
            let n = outside_is new next good r in
            elim (count_turn old new at c d held wrote same some r) [
              | inl t ↦ omega arith
              | inr t ↦ omega arith
            ],
      )

  pub lowered : c.count ≡ d.count + 1 → ((r : Ref) → hit r at ≤ outside (heap_of old next) r)
      → IsCounted new next × ((r : Ref)
      → outside (heap_of new next) r + hit r at ≡ outside (heap_of old next) r)
  lowered down among =
      let covered : (r : Ref) → inner new r ≤ count_at new r = λ r.
      let i = inner_stays old new at c d held wrote same some body r in
      let w = was.covered r in
      let a = among r in
      let o = outside_is old next was r in
      elim (count_turn old new at c d held wrote same some r) [
        | inl t ↦ omega arith
        | inr t ↦ omega arith
      ] in
      let good = counted_after old new at c d held wrote same some next was covered in (
        good,
        λ r.
            let i = inner_stays old new at c d held wrote same some body r in
            let o = outside_is old next was r in
            let n = outside_is new next good r in
            elim (count_turn old new at c d held wrote same some r) [
              | inl t ↦ omega arith
              | inr t ↦ omega arith
            ],
      )

  pub same_objects : SameObjects (heap_of old next) (heap_of new next)
  same_objects = record {
    each = bodies_stay old new at c d held wrote same some body;
    next = refl;
    live = live_stays old new at c d held wrote same some;
  }

  -- the chain stays where the count was and is above 0
  pub chain_stays : (head : Option ℕ) → 0 < c.count → 0 < d.count → IsChained old head
      → IsChained new head
  chain_stays head before after chain =
      chained_same old new head
      (λ j. elim (cases_eq j at.slot) [
        | inl e ↦ ap (link_at new) e ∙ link-held new at.slot d wrote.here after
            ∙ sym (link-held old at.slot c held.at before) ∙ ap (link_at old) (sym e)
        | inr e ↦ link-there old new at.slot _ wrote j e
      ])
      chain

  -- it is longer where the count falls to 0
  pub chain_grows : (head : Option ℕ) → 0 < c.count → d.count ≡ 0 → d.link ≡ head
      → IsChained old head → IsChained new (Some at.slot)
  chain_grows head before after link chain =
      chained_more old new at.slot head
      (link-held old at.slot c held.at before)
      (link-zero new at.slot d wrote.here after ∙ ap Some link)
      (link-there old new at.slot _ wrote)
      chain

pub record Reads (cs : Cells) (now : Counted) (next : ℕ) (at : Ref) (c : Cell) : Type 0 where
  pub view : heap_of cs next ≡ now
  pub cell : cell_at cs at.slot ≡ Some c
  pub held : 0 < count_at now.cells at

module _ (old : Cells) (now : Counted) (next : ℕ) (at : Ref) (c : Cell)
    (reads : Reads old now next at c) where
  reads_held : Holds old at c
  reads_held =
      let e = ap (λ (h : Counted). count_at h.cells at) reads.view in
      let h = held_is old at (omega (arith, reads.held)) in
      let f : Some h.0 ≡ Some c = sym h.1.at ∙ reads.cell in
      let g : h.0 ≡ c = cc in
      let P : Cell → Type 0 = λ x. Holds old at x in
      subst P g h.1

  pub reads_count : count_at now.cells at ≡ c.count
  reads_count = sym (ap (λ (h : Counted). count_at h.cells at) reads.view)
      ∙ count-held old at c reads_held

  pub hold_done : (new : Cells) (head : Option ℕ)
      → new ≡ set old at.slot (Some (record c { count = c.count + 1; link = c.link }))
      → IsCounted old next × IsChained old head
      → (IsCounted new next × IsChained new head)
      × ((r : Ref) → outside (heap_of new next) r ≡ outside now r + hit r at)
      × SameObjects now (heap_of new next) × StandsOn now (heap_of new next) (λ s. s)
  hold_done new head is (was, chain) =
      let n = reads_count in
      let up = raised old new next at c _ reads_held wrote refl refl was refl in
      let same : SameObjects now (heap_of new next) = let P : Counted
      → Type 0 = λ h. SameObjects h (heap_of new next) in
      subst P reads.view (same_objects old new next at c _ reads_held wrote refl refl was) in (
        (
          up.0,
          chain_stays old new next at c _ reads_held wrote refl refl was head
              (omega (arith, reads.held)) (omega arith) chain,
        ),
        (λ r. up.1 r ∙ ap (λ (h : Counted). outside h r + hit r at) reads.view),
        same,
        (λ s stands. stands_same now (heap_of new next) s same stands),
      )
    where
      wrote : Wrote old new at.slot (Some (record c { count = c.count + 1; link = c.link }))
      wrote = rw is (Wrote-set old at.slot c _ reads.cell)

  pub release_done : (new : Cells) (d : Cell) (head after : Option ℕ)
      → new ≡ set old at.slot (Some d) → d.serial ≡ c.serial → d.body ≡ c.body
      → c.count ≡ d.count + 1
      → (0 < d.count → after ≡ head) → (d.count ≡ 0 → (d.link ≡ head) × (after ≡ Some at.slot))
      → 0 < outside now at → IsCounted old next × IsChained old head
      → (IsCounted new next × IsChained new after)
      × ((r : Ref) → outside (heap_of new next) r + hit r at ≡ outside now r)
      × SameObjects now (heap_of new next) × StandsOn now (heap_of new next) (λ s. s)
  release_done new d head after is serial body down stays grows among (was, chain) =
      let e = ap (λ (h : Counted). outside h at) reads.view in
      let low = lowered old new next at c d reads_held wrote serial body was down
      (among-hit (heap_of old next) at (omega arith)) in
      let same : SameObjects now (heap_of new next) = let P : Counted
      → Type 0 = λ h. SameObjects h (heap_of new next) in
      subst P reads.view (same_objects old new next at c d reads_held wrote serial body was) in (
        (low.0, chained),
        (λ r. low.1 r ∙ ap (λ (h : Counted). outside h r) reads.view),
        same,
        (λ s stands. stands_same now (heap_of new next) s same stands),
      )
    where
      wrote : Wrote old new at.slot (Some d)
      wrote = rw is (Wrote-set old at.slot c _ reads.cell)

      chained : IsChained new after
      chained = elim (cases_eq d.count 0) [
        | inl gone ↦ let g = grows gone in
            let P : Option ℕ → Type 0 = λ o. IsChained new o in
            subst P (sym g.1) (chain_grows old new next at c d reads_held wrote serial body was head
            (omega arith) gone g.0 chain)
        | inr left ↦
            let P : Option ℕ → Type 0 = λ o. IsChained new o in
            let pos : 0 < d.count = omega arith in
            subst P (sym (stays pos))
            (chain_stays old new next at c d reads_held wrote serial body was head (omega arith)
            pos chain)
      ]
