-- The holds from outside are a list of references.
use Rattle.std.proofs.lemmas.Bool.Decides.{nat_tests}
use Rattle.std.proofs.lemmas.Bool.{cases_eq}
use Rattle.std.specs.Prelude.{◌==◌, if◌then◌else◌}
use Rattle.std.proofs.Common.{◌≡◌, inl, inr, ℕ, zero, suc, ◌+◌, ◌<◌, ◌≤◌, List, [], ◌∷◌, Option, Some, None, refl, sym, ap, ◌∙◌, arith}
use Rattle.ck_values.specs.declared.reference.Ref.{Ref}
use Rattle.counted_heap.specs.declared.cell.Cell.{Cell}
use Rattle.counted_heap.specs.Places.{hit}
use Rattle.counted_heap.specs.Cells.{Cells, cell_at, count_in, count_at, IsCounted}
use Rattle.counted_heap.specs.Counted.{outside, times_held, AreHolds}
use Rattle.counted_heap.proofs.Counting.{hit-same, hit-serial, hit-slot}
use Rattle.counted_heap.proofs.Writes.{same-ref}
use Rattle.counted_heap.proofs.Reading.{heap_of, outside-le}

-- a reference so often before others
abbrev more : ℕ → Ref → List Ref → List Ref
more zero q qs = qs
more (suc n) q qs = q ∷ more n q qs

more-same : (r q : Ref) (qs : List Ref) (n : ℕ) → hit r q ≡ 1
    → times_held r (more n q qs) ≡ n + times_held r qs
more-same r q qs zero one = omega arith
more-same r q qs (suc n) one = omega (arith, one, more-same r q qs n one)

more-other : (r q : Ref) (qs : List Ref) (n : ℕ) → hit r q ≡ 0
    → times_held r (more n q qs) ≡ times_held r qs
more-other r q qs zero none = refl
more-other r q qs (suc n) none = omega (arith, none, more-other r q qs n none)

module _ (f : Ref → ℕ) where
  abbrev in_slot : Cell → ℕ → Ref
  in_slot c k = record { serial = c.serial; slot = k }

  -- each object in the cells as often as f says, of which the first is in the slot k
  abbrev held_from : ℕ → Cells → List Ref
  held_from k [] = []
  held_from k (None ∷ cs) = held_from (suc k) cs
  held_from k (Some c ∷ cs) = more (f (in_slot c k)) (in_slot c k) (held_from (suc k) cs)

  -- what f says of r, where the cell has r's object
  abbrev wanted : Ref → Option Cell → ℕ
  wanted r None = 0
  wanted r (Some c) = if c.serial == r.serial then f r else 0

  held-before : (r : Ref) (k : ℕ) (cs : Cells) → r.slot < k → times_held r (held_from k cs) ≡ 0
  held-before r k [] low = refl
  held-before r k (None ∷ cs) low = held-before r (suc k) cs (omega arith)
  held-before r k (Some c ∷ cs) low =
      more-other r (in_slot c k) (held_from (suc k) cs) (f (in_slot c k))
      (hit-slot r (in_slot c k) (λ e. absurd (omega arith)))
      ∙ held-before r (suc k) cs (omega arith)

  held-here : (r : Ref) (k : ℕ) (c : Cell) (cs : Cells) → r.slot ≡ k → 0 < c.serial
      → times_held r (held_from k (Some c ∷ cs)) ≡ wanted r (Some c)
  held-here r k c cs here some =
      let before = held-before r (suc k) cs (omega arith) in
      elim (cases_eq c.serial r.serial) [
        | inl same ↦
            let q : in_slot c k ≡ r = same-ref (in_slot c k) r same (sym here) in
            let one = hit-same r (in_slot c k) some same (sym here) in
            let all = more-same r (in_slot c k) (held_from (suc k) cs) (f (in_slot c k)) one in
            let e = ap f q in
            let w : wanted r (Some c) ≡ f r = grind (arith, nat_tests) in
            omega arith
        | inr other ↦
            let none = hit-serial r (in_slot c k) other in
            let w : wanted r (Some c) ≡ 0 = grind (arith, nat_tests) in
            let all = more-other r (in_slot c k) (held_from (suc k) cs) (f (in_slot c k)) none in
            omega arith
      ]

  held-at : (r : Ref) (k j : ℕ) (cs : Cells)
      → ((i : ℕ) (c : Cell) → cell_at cs i ≡ Some c → 0 < c.serial) → r.slot ≡ k + j
      → times_held r (held_from k cs) ≡ wanted r (cell_at cs j)
  held-at r k j [] some there = refl
  held-at r k zero (None ∷ cs) some there = held-before r (suc k) cs (omega arith)
  held-at r k zero (Some c ∷ cs) some there = held-here r k c cs (omega arith) (some 0 c refl)
  held-at r k (suc j) (None ∷ cs) some there =
      held-at r (suc k) j cs (λ i. some (suc i)) (omega arith)
  held-at r k (suc j) (Some c ∷ cs) some there =
      more-other r (in_slot c k) (held_from (suc k) cs) (f (in_slot c k))
      (hit-slot r (in_slot c k) (λ e. absurd (omega arith)))
      ∙ held-at r (suc k) j cs (λ i. some (suc i)) (omega arith)

  wanted-all : (r : Ref) (cs : Cells) → f r ≤ count_at cs r → f r ≡ wanted r (cell_at cs r.slot)
  unfolding count_at
  wanted-all r cs le = by_cell (cell_at cs r.slot) le
    where
      by_cell : (x : Option Cell) → f r ≤ count_in r x → f r ≡ wanted r x
      by_cell None le = omega arith
      by_cell (Some c) le = elim (cases_eq c.serial r.serial) [
        | inl same ↦ grind (arith, nat_tests)
        | inr other ↦ grind (arith, nat_tests)
      ]

pub holds_listed : (cs : Cells) (next : ℕ) → IsCounted cs next
    → (holds : List Ref) × AreHolds (heap_of cs next) holds
holds_listed cs next was = (
  held_from (outside (heap_of cs next)) 0 cs,
  λ r.
      let some : (i : ℕ) (c : Cell) → cell_at cs i ≡ Some c
      → 0 < c.serial = λ i c e. let n = was.numbered i c e in n.0 in
      wanted-all (outside (heap_of cs next)) r cs (outside-le (heap_of cs next) r)
      ∙ sym (held-at (outside (heap_of cs next)) r 0 r.slot cs some (omega arith)),
)
