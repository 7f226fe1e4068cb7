use Rattle.std.proofs.Common.{◌∙◌, sym, ap, refl}
use Rattle.std.specs.Option.{option_copied}
use Rattle.slab.specs.Slab.{Slab}
use Rattle.counted_heap.specs.declared.cell.Cell.{Cell}
use Rattle.counted_heap.proofs.Reading.{get_held}
use Rattle.counted_heap.proofs.Holds.{reads_count, hold_done}
use Rattle.counted_heap.proofs.heap.CountedHeap.hold.Goals as goal

pub unwrap-cell-requires : goal.unwrap-cell-requires
unwrap-cell-requires c =
    get_held _ _ _ c.args.at c.get.result c.self.view_is c.requires c.get.ensures

pub returns-then-count-clause-memory : goal.returns-then-count-clause-memory
returns-then-count-clause-memory c =
    let n = reads_count _ _ _ c.args.at _ (record {
      view = c.self.view_is;
      cell = sym c.get.ensures
          ∙ ap option_copied c.unwrap-cell.ensures;
      held = c.requires;
    }) in
    (λ _. n ∙ c.if-count.true, λ _. refl)

pub returns-clause-memory : goal.returns-clause-memory
returns-clause-memory c =
    let n = reads_count _ _ _ c.args.at _ (record {
      view = c.self.view_is;
      cell = sym c.get.ensures
          ∙ ap option_copied c.unwrap-cell.ensures;
      held = c.requires;
    }) in
    (λ e. absurd (cc), λ e. absurd (c.if-count.false (sym n ∙ e)))

pub invariant_of-self : goal.invariant_of-self
invariant_of-self c =
    let reads = sym c.get.ensures ∙ ap option_copied c.unwrap-cell.ensures in
    (hold_done _ _ _ c.args.at _ (record { view = c.self.view_is; cell = reads; held = c.requires })
    _ _ (ap (λ (s : Slab Cell). s.slots) (c.recount.ensures _ reads)) c.self.invariant).0

pub returns-clause-holds : goal.returns-clause-holds
returns-clause-holds c =
    let reads = sym c.get.ensures ∙ ap option_copied c.unwrap-cell.ensures in
    (hold_done _ _ _ c.args.at _ (record { view = c.self.view_is; cell = reads; held = c.requires })
    _ _ (ap (λ (s : Slab Cell). s.slots) (c.recount.ensures _ reads)) c.self.invariant).1

pub returns-clause-objects : goal.returns-clause-objects
returns-clause-objects c =
    let reads = sym c.get.ensures ∙ ap option_copied c.unwrap-cell.ensures in
    (hold_done _ _ _ c.args.at _ (record { view = c.self.view_is; cell = reads; held = c.requires })
    _ _ (ap (λ (s : Slab Cell). s.slots) (c.recount.ensures _ reads)) c.self.invariant).2

pub returns-clause-stands : goal.returns-clause-stands
returns-clause-stands c =
    let reads = sym c.get.ensures ∙ ap option_copied c.unwrap-cell.ensures in
    (hold_done _ _ _ c.args.at _ (record { view = c.self.view_is; cell = reads; held = c.requires })
    _ _ (ap (λ (s : Slab Cell). s.slots) (c.recount.ensures _ reads)) c.self.invariant).3
