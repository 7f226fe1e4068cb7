use Rattle.std.proofs.Common.{ap, refl, arith}
use Rattle.counted_heap.specs.Places.{hits}
use Rattle.counted_heap.proofs.Counting.{hit-same, hit-null}
use Rattle.counted_heap.proofs.heap.CountedHeap.let_go.Goals as goal

pub release-requires : goal.release-requires
release-requires c =
    let at = c.in-Ref.at in
    let e = ap (hits at) c.in-Ref.is in
    let one = hit-same at at (omega (arith, c.if-at-ne0.true)) refl refl in
    omega (arith, c.requires at)

pub returns-else-at-ne0-clause-holds : goal.returns-else-at-ne0-clause-holds
returns-else-at-ne0-clause-holds c = λ r.
    let e = ap (hits r) c.in-Ref.is in
    omega (arith, hit-null r c.in-Ref.at c.if-at-ne0.false)
