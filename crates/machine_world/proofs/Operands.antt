-- The operands and locals of a shred, and what they mean.
use Rattle.std.proofs.Common.{◌≡◌, ℕ, List, [], ◌∷◌, drop, Some, slice_get, unwrap_or, ap}
use Rattle.ck_values.specs.declared.value.Value.{Value}
use Rattle.ck_values.specs.Datum.{meant}
use Rattle.shred_state.specs.Frames.{Standing, with_operands as standing_with}
use Rattle.machine_world.specs.Shown.{shown, operands_of}
use Rattle.machine_world.proofs.Changed.{with_operands}
use Rattle.machine_world.proofs.Numbered.{length-meant, get_meant}

-- one that was taken from the top
pub taken_meant : (old new : Standing) (v : Value) → old ≡ standing_with new (v ∷ new.top.operands)
    → shown old ≡ with_operands (shown new) (meant v ∷ operands_of new)
unfolding shown
taken_meant old new v is = ap shown is

-- one that was looked at
pub operand_meant : (shred : Standing) (i : ℕ) (v : Value) → slice_get shred.top.operands i ≡ Some v
    → slice_get (operands_of shred) i ≡ Some (meant v)
unfolding shown
operand_meant shred i v is = get_meant shred.top.operands i v is

-- the one on the top, and those beneath
pub split_top : (operands : List Value) (v : Value) → slice_get operands 0 ≡ Some v
    → operands ≡ v ∷ drop 1 operands
split_top [] v is = absurd (cc)
split_top (w ∷ operands) v is = ap (λ x. x ∷ operands) (ap (λ o. unwrap_or o w) is)

pub ruleset operands = (length-meant, get_meant, split_top)
