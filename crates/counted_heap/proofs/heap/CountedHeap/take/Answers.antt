use Rattle.std.proofs.Common.{◌∙◌, sym}
use Rattle.counted_heap.proofs.Taking.{take_found, none_chained, head_of, is_none, get_head}
use Rattle.counted_heap.proofs.heap.CountedHeap.take.Goals as goal

pub returns-in_err-slot-clause-none : goal.returns-in_err-slot-clause-none
returns-in_err-slot-clause-none c =
    is_none _ _ c.from_residual.ensures
    (none_chained _ _ _ c.self.view_is (head_of _ _ _ c.in_err-slot.was c.self.invariant.1))

pub unwrap-link-requires : goal.unwrap-link-requires
unwrap-link-requires c =
    get_head _ _ _ (head_of _ _ _ c.in_ok-slot.was c.self.invariant.1) c.try_remove.ensures.value

pub invariant_of-self : goal.invariant_of-self
invariant_of-self c =
    (take_found _ _ _ _ _ (sym c.try_remove.ensures.value
    ∙ c.unwrap-link.ensures) c.try_remove.ensures.updates c.self.invariant.0 _ c.self.view_is
    (head_of _ _ _ c.in_ok-slot.was c.self.invariant.1)).0

pub returns-clause-holds : goal.returns-clause-holds
returns-clause-holds c =
    (take_found _ _ _ _ _ (sym c.try_remove.ensures.value
    ∙ c.unwrap-link.ensures) c.try_remove.ensures.updates c.self.invariant.0 _ c.self.view_is
    (head_of _ _ _ c.in_ok-slot.was c.self.invariant.1)).1

pub returns-clause-taken : goal.returns-clause-taken
returns-clause-taken c =
    (take_found _ _ _ _ _ (sym c.try_remove.ensures.value
    ∙ c.unwrap-link.ensures) c.try_remove.ensures.updates c.self.invariant.0 _ c.self.view_is
    (head_of _ _ _ c.in_ok-slot.was c.self.invariant.1)).2

pub returns-clause-stands : goal.returns-clause-stands
returns-clause-stands c =
    (take_found _ _ _ _ _ (sym c.try_remove.ensures.value
    ∙ c.unwrap-link.ensures) c.try_remove.ensures.updates c.self.invariant.0 _ c.self.view_is
    (head_of _ _ _ c.in_ok-slot.was c.self.invariant.1)).3
