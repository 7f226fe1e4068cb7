-- What `make` does to the counts, and what a new heap is.
use Rattle.std.proofs.lemmas.Bool.Decides.{nat_tests}
use Rattle.std.proofs.Common.{◌≡◌, ◌≢◌, ◌⊎◌, inl, inr, ℕ, ◌+◌, ◌<◌, ◌≤◌, [], ◌∷◌, ◌++◌, Option, Some, None, refl, sym, ap, ◌∙◌, arith, subst}
use Rattle.ck_values.specs.declared.reference.Ref.{Ref}
use Rattle.counted_heap.specs.Places.{hit, places}
use Rattle.counted_heap.proofs.Counting.{hit-same, hit-serial, hit-slot}
use Rattle.object_heap.specs.declared.body.Body.{Body}
use Rattle.counted_heap.specs.declared.cell.Cell.{Cell}
use Rattle.object_heap.specs.Objects.{values_of}
use Rattle.counted_heap.specs.Cells.{Cells, cell_at, in_cell, inner, count_in, count_at, body_in, body_at, IsCounted, link_in, link_at, IsChained}
use Rattle.counted_heap.specs.Counted.{Counted, outside, Makes, AreAmong}
use Rattle.counted_heap.specs.Stands.{StandsFor, StandsOn, Points, Leads, Step, More}
use Rattle.ck_base.specs.declared.limits.TheConstants.{MAX_OBJECTS}
use Rattle.counted_heap.proofs.Lawful.{lawful_cells}
use Rattle.counted_heap.proofs.Standing.{within, stands_made}
use Rattle.counted_heap.proofs.Writes.{full, same-ref, Wrote, Holds, count-held, chained_same}
use Rattle.counted_heap.proofs.Reading.{heap_of, outside_is, object_at}
use Rattle.std.proofs.lemmas.Bool.{cases_eq}

-- a new object
module _ (old new : Cells) (next : ℕ) (k : ℕ) (c : Cell) (free : cell_at old k ≡ None)
    (wrote : Wrote old new k (Some c)) (number : c.serial ≡ next) (one : c.count ≡ 1)
    (low : next ≤ MAX_OBJECTS) (was : IsCounted old next) where
  abbrev at : Ref
  at = record { serial = next; slot = k }

  made_at : Holds new at c
  made_at = record { at = wrote.here; serial = number }

  made_turn : (r : Ref)
      → ((hit r at ≡ 1) × (count_at new r ≡ 1) × (count_at old r ≡ 0)) ⊎ ((hit r at ≡ 0)
      × (count_at new r ≡ count_at old r))
  unfolding count_at
  made_turn r = elim (cases_eq k r.slot) [
    | inl slot ↦
        let e : cell_at new r.slot ≡ Some c = ap (cell_at new) (sym slot) ∙ wrote.here in
        let f : cell_at old r.slot ≡ None = ap (cell_at old) (sym slot) ∙ free in
        elim (cases_eq next r.serial) [
          | inl serial ↦ inl (
            hit-same r at was.first serial slot,
            rw e (grind (arith, nat_tests)),
            rw f refl,
          )
          | inr serial ↦ inr (hit-serial r at serial, rw (e, f) (grind (arith, nat_tests)))
        ]
    | inr slot ↦ inr (hit-slot r at slot, ap (count_in r) (wrote.there r.slot (λ e. slot (sym e))))
  ]

  made_inner : (r : Ref) → inner new r ≡ inner old r + places r (values_of c.body)
  made_inner r = let i = wrote.inside r in let e : in_cell r (cell_at old k) ≡ 0 =
      ap (in_cell r) free in omega arith

  made_counted : ((r : Ref) → places r (values_of c.body) ≤ outside (heap_of old next) r)
      → IsCounted new (next + 1)
  made_counted among =
      record {
        first = omega arith;
        room = omega (arith, low);
        covered = λ r.
            let i = made_inner r in
            let a = among r in
            let o = outside_is old next was r in
            elim (made_turn r) [ inl t ↦ omega arith | inr t ↦ omega arith ];
        numbered = λ j e here. elim (cases_eq j k) [
          | inl same ↦
              let f : Some c ≡ Some e = sym wrote.here ∙ ap (cell_at new) (sym same) ∙ here in
              let g = ap (λ (x : Cell). x.serial) (let h : c ≡ e = cc in h) in
              let p = was.first in
              (omega arith, omega arith)
          | inr other ↦ let n = was.numbered j e (sym (wrote.there j other) ∙ here) in
              (n.0, omega arith)
        ];
        apart = λ i j d e here there alike.
            elim (cases_eq i k) [
              | inl p ↦ elim (cases_eq j k) [
                | inl q ↦ p ∙ sym q
                | inr q ↦
                    let n = was.numbered j e (sym (wrote.there j q) ∙ there) in
                    let f : Some c ≡ Some d = sym wrote.here ∙ ap (cell_at new) (sym p) ∙ here in
                    let g = ap (λ (x : Cell). x.serial) (let h : c ≡ d = cc in h) in
                    absurd (omega arith)
              ]
              | inr p ↦ elim (cases_eq j k) [
                | inl q ↦
                    let n = was.numbered i d (sym (wrote.there i p) ∙ here) in
                    let f : Some c ≡ Some e = sym wrote.here ∙ ap (cell_at new) (sym q) ∙ there in
                    let g = ap (λ (x : Cell). x.serial) (let h : c ≡ e = cc in h) in
                    absurd (omega arith)
                | inr q ↦ was.apart i j d e (sym (wrote.there i p) ∙ here) (sym (wrote.there j q)
                    ∙ there) alike
              ]
            ];
      }

  made_chained : (head : Option ℕ) → IsChained old head → IsChained new head
  unfolding link_at
  made_chained head chain =
      chained_same old new head
      (λ j. elim (cases_eq j k) [
        | inl e ↦ ap (λ i. link_in (cell_at new i)) e
            ∙ (let f : link_in (cell_at new k) ≡ None = rw (wrote.here, one) in f)
            ∙ sym (ap (λ i. link_in (cell_at old i)) e ∙ ap link_in free)
        | inr e ↦ ap link_in (wrote.there j e)
      ])
      chain

  made_others : (r : Ref) → r ≢ at → body_at new r ≡ body_at old r
  unfolding body_at
  made_others r other = elim (cases_eq r.slot k) [
    | inl slot ↦ elim (cases_eq r.serial next) [
      | inl serial ↦ absurd (other (same-ref _ _ serial slot))
      | inr serial ↦
          let e : cell_at new r.slot ≡ Some c = ap (cell_at new) slot ∙ wrote.here in
          let f : cell_at old r.slot ≡ None = ap (cell_at old) slot ∙ free in
          rw (e, f) (grind (arith, nat_tests))
    ]
    | inr slot ↦ ap (body_in r) (wrote.there r.slot slot)
  ]

  made_fresh : body_at old at ≡ None
  unfolding body_at
  made_fresh = rw free

  pub make_done : (now : Counted) (head : Option ℕ) → heap_of old next ≡ now
      → AreAmong now (values_of c.body) → IsChained old head
      → (IsCounted new (next + 1) × IsChained new head)
      × Makes now (heap_of new (next + 1)) at c.body
      × StandsOn now (heap_of new (next + 1))
      (λ s. record s { bodies = s.bodies ++ c.body ∷ [] })
  make_done now head view among chain =
      let good = made_counted (λ r. let e = ap (λ (h : Counted). outside h r) view in let a =
      among r in omega arith) in
      let makes = made good in (
        (good, made_chained head chain),
        (let P : Counted → Type 0 = λ h. Makes h (heap_of new (next + 1)) at c.body in
            subst P view makes),
        (let P : Counted → Type 0 =
            λ h. StandsOn h (heap_of new (next + 1))
            (λ s. record s { bodies = s.bodies ++ c.body ∷ [] }) in
            subst P view (λ s stood. stands_made (heap_of old next) (heap_of new (next + 1)) s at
            c.body (lawful_cells new (next + 1) good) makes stood)),
      )
    where
      made : IsCounted new (next + 1) → Makes (heap_of old next) (heap_of new (next + 1)) at c.body
      made good = record {
        room = low;
        number = refl;
        some = was.first;
        fresh = made_fresh;
        here = object_at new at c made_at;
        one = count-held new at c made_at ∙ one;
        there = made_others;
        next = refl;
        live = (let n = wrote.number in let f = ap full free in omega arith);
        moves = λ r.
            let i = made_inner r in
            let o = outside_is old next was r in
            let n = outside_is new (next + 1) good r in
            elim (made_turn r) [ inl t ↦ omega arith | inr t ↦ omega arith ];
      }

-- a new heap
pub empty_counted : (next : ℕ) → 0 < next → next ≤ MAX_OBJECTS → IsCounted [] next
    × IsChained [] None
unfolding inner count_at link_at
empty_counted next some low = (
  record {
    first = some;
    room = omega (arith, low);
    covered = λ r. omega arith;
    numbered =
        λ k c e. absurd (cc);
    apart = λ j k c d e f g. absurd (cc);
  },
  record { path = []; runs = refl; each = λ k. refl },
)

empty_points : (next x y : ℕ) → Points (record { first = next; bodies = [] }) x y → ⊥
empty_points next x y p = let w = within (record { first = next; bodies = [] }) x p.body p.at in
    absurd (omega (arith, w.first, w.last))

empty_stands : (next : ℕ) → StandsFor (heap_of [] next) (record { first = next; bodies = [] })
unfolding body_at
empty_stands next = record {
  made = omega arith;
  content = λ r b e. absurd (cc);
  no_cycle = λ m dead cycle. none m m cycle;
}
  where
    none : (x y : ℕ) → Leads (record { first = next; bodies = [] }) x y → ⊥
    none x y (Step p) = empty_points next x y p
    none x y (More {y = z} l p) = empty_points next z y p

pub new_done : (cs : Cells) (next : ℕ) → cs ≡ [] → 0 < next → next ≤ MAX_OBJECTS
    → (IsCounted cs next × IsChained cs None) × ((r : Ref) → outside (heap_of cs next) r ≡ 0)
    × StandsFor (heap_of cs next) (record { first = next; bodies = [] })
unfolding outside count_at
new_done cs next e some low =
    rw e (empty_counted next some low, (λ r. omega arith), empty_stands next)

-- a new object is held from outside
pub made_held : (old new : Counted) (at : Ref) (b : Body) → Makes old new at b
    → AreAmong old (values_of b) → 0 < outside new at
made_held old new at b makes among =
    let one = hit-same at at makes.some refl refl in
    omega (arith, one, makes.moves at, among at)
