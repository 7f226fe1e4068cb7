-- A value that was taken from the top is given to the frame beneath.
use Rattle.std.proofs.Common.{◌≡◌, ◌∷◌, Some, Result, IfOk, slice_get, ap, sym, subst, ◌∙◌}
use Rattle.ck_values.specs.declared.value.Value.{Value}
use Rattle.ck_code.specs.declared.code.Step.{Step}
use Rattle.fixed_point.specs.declared.memory.Memory.{Memory}
use Rattle.shred_state.specs.Frames.{Standing, with_operands}
use Rattle.machine_world.specs.Scenes.{CarriesAlone}
use Rattle.machine_world.specs.declared.course.Then.{Then}

-- what stands on the top is what is taken there
pub is_taken : (old mid : Standing) (v w : Value) → old ≡ with_operands mid (w ∷ mid.top.operands)
    → slice_get old.top.operands 0 ≡ Some v → v ≡ w
is_taken old mid v w taken top =
    let there : slice_get old.top.operands 0 ≡ Some w =
    ap (λ (s : Standing). slice_get s.top.operands 0) taken in
    cc

-- and so what is given is what stood there
pub given_on : (at : Step) (old mid new : Standing) (v w : Value) (result : Result Then Memory)
    → old ≡ with_operands mid (w ∷ mid.top.operands) → v ≡ w
    → IfOk result (λ then. CarriesAlone at then (with_operands mid (v ∷ mid.top.operands)) new)
    → IfOk result (λ then. CarriesAlone at then old new)
given_on at old mid new v w result taken is =
    subst (λ s. IfOk result (λ then. CarriesAlone at then s new))
    (ap (λ v. with_operands mid (v ∷ mid.top.operands)) is ∙ sym taken)
