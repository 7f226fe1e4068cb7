use Rattle.std.proofs.Common.{◌∙◌, sym, ap, refl, arith}
use Rattle.std.specs.Option.{option_copied}
use Rattle.slab.specs.Slab.{Slab}
use Rattle.counted_heap.specs.declared.cell.Cell.{Cell}
use Rattle.counted_heap.proofs.Reading.{outside-le, get_held}
use Rattle.counted_heap.proofs.Holds.{reads_count, release_done}
use Rattle.counted_heap.proofs.heap.CountedHeap.release.Goals as goal

pub unwrap-cell-requires : goal.unwrap-cell-requires
unwrap-cell-requires c =
    get_held _ _ _ c.args.at c.get.result c.self.view_is
    (omega (arith, c.requires, outside-le c.args.self.now c.args.at)) c.get.ensures

pub overflow_sub-count : goal.overflow_sub-count
overflow_sub-count c =
    let held = outside-le c.args.self.now c.args.at in
    let n = reads_count _ _ _ c.args.at _ (record {
      view = c.self.view_is;
      cell = sym c.get.ensures
          ∙ ap option_copied c.unwrap-cell.ensures;
      held = omega (arith, c.requires);
    }) in
    omega (arith, c.requires)

pub invariant_of-self : goal.invariant_of-self
invariant_of-self c =
    let held = outside-le c.args.self.now c.args.at in
    let reads = sym c.get.ensures ∙ ap option_copied c.unwrap-cell.ensures in
    (release_done _ _ _ c.args.at _
    (record { view = c.self.view_is; cell = reads; held = omega (arith, c.requires) }) _ _ _ _
    (ap (λ (s : Slab Cell). s.slots) (c.recount.ensures _ reads)) refl refl c.if-count-eq1.true
    (λ h. absurd (omega arith)) (λ _. (refl, refl)) c.requires c.self.invariant).0

pub returns-then-count-eq1-clause-holds : goal.returns-then-count-eq1-clause-holds
returns-then-count-eq1-clause-holds c =
    let held = outside-le c.args.self.now c.args.at in
    let reads = sym c.get.ensures ∙ ap option_copied c.unwrap-cell.ensures in
    (release_done _ _ _ c.args.at _
    (record { view = c.self.view_is; cell = reads; held = omega (arith, c.requires) }) _ _ _ _
    (ap (λ (s : Slab Cell). s.slots) (c.recount.ensures _ reads)) refl refl c.if-count-eq1.true
    (λ h. absurd (omega arith)) (λ _. (refl, refl)) c.requires c.self.invariant).1

pub returns-then-count-eq1-clause-objects : goal.returns-then-count-eq1-clause-objects
returns-then-count-eq1-clause-objects c =
    let held = outside-le c.args.self.now c.args.at in
    let reads = sym c.get.ensures ∙ ap option_copied c.unwrap-cell.ensures in
    (release_done _ _ _ c.args.at _
    (record { view = c.self.view_is; cell = reads; held = omega (arith, c.requires) }) _ _ _ _
    (ap (λ (s : Slab Cell). s.slots) (c.recount.ensures _ reads)) refl refl c.if-count-eq1.true
    (λ h. absurd (omega arith)) (λ _. (refl, refl)) c.requires c.self.invariant).2

pub returns-then-count-eq1-clause-stands : goal.returns-then-count-eq1-clause-stands
returns-then-count-eq1-clause-stands c =
    let held = outside-le c.args.self.now c.args.at in
    let reads = sym c.get.ensures ∙ ap option_copied c.unwrap-cell.ensures in
    (release_done _ _ _ c.args.at _
    (record { view = c.self.view_is; cell = reads; held = omega (arith, c.requires) }) _ _ _ _
    (ap (λ (s : Slab Cell). s.slots) (c.recount.ensures _ reads)) refl refl c.if-count-eq1.true
    (λ h. absurd (omega arith)) (λ _. (refl, refl)) c.requires c.self.invariant).3

pub invariant_of-self-else-count-eq1 : goal.invariant_of-self-else-count-eq1
invariant_of-self-else-count-eq1 c =
    let held = outside-le c.args.self.now c.args.at in
    let reads = sym c.get.ensures ∙ ap option_copied c.unwrap-cell.ensures in
    let n = reads_count _ _ _ c.args.at _
    (record { view = c.self.view_is; cell = reads; held = omega (arith, c.requires) }) in
    (release_done _ _ _ c.args.at _
    (record { view = c.self.view_is; cell = reads; held = omega (arith, c.requires) }) _ _ _ _
    (ap (λ (s : Slab Cell). s.slots) (c.recount-else-count-eq1.ensures _ reads)) refl refl
    (omega (arith, c.requires)) (λ h. refl)
    (λ h. absurd (omega (arith, c.requires, h, c.if-count-eq1.false))) c.requires
    c.self.invariant).0

pub returns-else-count-eq1-clause-holds : goal.returns-else-count-eq1-clause-holds
returns-else-count-eq1-clause-holds c =
    let held = outside-le c.args.self.now c.args.at in
    let reads = sym c.get.ensures ∙ ap option_copied c.unwrap-cell.ensures in
    let n = reads_count _ _ _ c.args.at _
    (record { view = c.self.view_is; cell = reads; held = omega (arith, c.requires) }) in
    (release_done _ _ _ c.args.at _
    (record { view = c.self.view_is; cell = reads; held = omega (arith, c.requires) }) _ _ _ _
    (ap (λ (s : Slab Cell). s.slots) (c.recount-else-count-eq1.ensures _ reads)) refl refl
    (omega (arith, c.requires)) (λ h. refl)
    (λ h. absurd (omega (arith, c.requires, h, c.if-count-eq1.false))) c.requires
    c.self.invariant).1

pub returns-else-count-eq1-clause-objects : goal.returns-else-count-eq1-clause-objects
returns-else-count-eq1-clause-objects c =
    let held = outside-le c.args.self.now c.args.at in
    let reads = sym c.get.ensures ∙ ap option_copied c.unwrap-cell.ensures in
    let n = reads_count _ _ _ c.args.at _
    (record { view = c.self.view_is; cell = reads; held = omega (arith, c.requires) }) in
    (release_done _ _ _ c.args.at _
    (record { view = c.self.view_is; cell = reads; held = omega (arith, c.requires) }) _ _ _ _
    (ap (λ (s : Slab Cell). s.slots) (c.recount-else-count-eq1.ensures _ reads)) refl refl
    (omega (arith, c.requires)) (λ h. refl)
    (λ h. absurd (omega (arith, c.requires, h, c.if-count-eq1.false))) c.requires
    c.self.invariant).2

pub returns-else-count-eq1-clause-stands : goal.returns-else-count-eq1-clause-stands
returns-else-count-eq1-clause-stands c =
    let held = outside-le c.args.self.now c.args.at in
    let reads = sym c.get.ensures ∙ ap option_copied c.unwrap-cell.ensures in
    let n = reads_count _ _ _ c.args.at _
    (record { view = c.self.view_is; cell = reads; held = omega (arith, c.requires) }) in
    (release_done _ _ _ c.args.at _
    (record { view = c.self.view_is; cell = reads; held = omega (arith, c.requires) }) _ _ _ _
    (ap (λ (s : Slab Cell). s.slots) (c.recount-else-count-eq1.ensures _ reads)) refl refl
    (omega (arith, c.requires)) (λ h. refl)
    (λ h. absurd (omega (arith, c.requires, h, c.if-count-eq1.false))) c.requires
    c.self.invariant).3
