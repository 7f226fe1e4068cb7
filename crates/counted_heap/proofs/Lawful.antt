-- The law that callers see.
use Rattle.std.proofs.lemmas.List.Sums.{get_or-le-sum_by}
use Rattle.std.proofs.Common.{IsSome, ◌≡◌, ℕ, ◌≤◌, Option, Some, None, refl, sym, ap, ◌∙◌, arith, subst}
use Rattle.ck_values.specs.declared.reference.Ref.{Ref}
use Rattle.counted_heap.specs.Places.{places}
use Rattle.object_heap.specs.declared.body.Body.{Body}
use Rattle.counted_heap.specs.declared.cell.Cell.{Cell}
use Rattle.object_heap.specs.Objects.{values_of}
use Rattle.counted_heap.specs.Cells.{Cells, cell_at, in_cell, inner, body_at, IsCounted}
use Rattle.counted_heap.specs.Counted.{Counted, IsLawful}
use Rattle.counted_heap.proofs.Writes.{same-ref, within, Holds, held_is}
use Rattle.counted_heap.proofs.Outside.{holds_listed}
use Rattle.counted_heap.proofs.Reading.{heap_of, outside_is, object_is, object_at}

module _ (cs : Cells) (next : ℕ) (was : IsCounted cs next) where
  cell-le-inner : (k : ℕ) (c : Cell) (r : Ref) → cell_at cs k ≡ Some c
      → places r (values_of c.body) ≤ inner cs r
  unfolding inner
  cell-le-inner k c r e =
      let g = get_or-le-sum_by (in_cell r) cs k None (within cs k c e) in
      let f = ap (in_cell r) e in
      omega arith

  live_cell : (r : Ref) → IsSome (body_at cs r) → (c : Cell) × Holds cs r c
  live_cell r live = by_body (body_at cs r) refl live
    where
      by_body : (x : Option Body) → body_at cs r ≡ x → IsSome x → (c : Cell) × Holds cs r c
      by_body None e live = absurd (cc)
      by_body (Some b) e live = let o = object_is cs r b e in (o.0, o.1)

  pub lawful_cells : IsLawful (heap_of cs next)
  lawful_cells = record {
    room = (was.first, was.room);
    numbered = λ r live. let c = live_cell r live in let n = was.numbered r.slot c.0 c.1.at in
        let s = c.1.serial in (omega arith, omega arith);
    one = λ q r p o alike.
        let c = live_cell q p in
        let d = live_cell r o in
        same-ref q r alike (was.apart q.slot r.slot c.0 d.0 c.1.at d.1.at (c.1.serial ∙ alike
        ∙ sym d.1.serial));
    fields = λ r b e q.
        let o = object_is cs r b e in
        let l = cell-le-inner r.slot o.0 q o.1.at in
        let f = ap (λ (x : Body). places q (values_of x)) o.2 in
        let w = was.covered q in
        omega arith;
    split = outside_is cs next was;
    listed = holds_listed cs next was;
    live = λ q some. let c = held_is cs q some in rw (object_at cs q c.0 c.1) refl;
  }

pub lawful : (cs : Cells) (now : Counted) (next : ℕ) → heap_of cs next ≡ now → IsCounted cs next
    → IsLawful now
lawful cs now next view was = let P : Counted
    → Type 0 = λ h. IsLawful h in subst P view (lawful_cells cs next was)
