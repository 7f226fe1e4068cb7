-- What an update of a local or of a static finds.
use Rattle.std.proofs.Common.{◌≡◌, ◌<◌, ℕ, List, Some, length, slice_get, arith}
use Rattle.ck_values.specs.declared.operator.Op2.{Op2 as Operator}
use Rattle.ck_values.specs.declared.value.Value.{Value}
use Rattle.ck_values.specs.Datum.{Datum, meant}
use Rattle.ck_code.specs.declared.code.CodeParts.{CodeParts}
use Rattle.ck_code.specs.declared.code.Step.{Step}
use Rattle.ck_code.specs.declared.instr.Instr.TheVariants.{OpLocal, OpStatic}
use Rattle.ck_store.specs.Operators.{binary}
use Rattle.ck_store.specs.Steps.{local_of, with_local, static_of, with_static}
use Rattle.ck_store.specs.Store.{Gives, IsFitting}
use Rattle.machine_world.specs.Scenes.{Scene, state_over, CanRun}
use Rattle.machine_world.specs.Shown.{shown, locals_of, operands_of}
use Rattle.machine_world.specs.Steps.{updated}
use Rattle.machine_world.specs.Tries.{CanDo}
use Rattle.machine_world.proofs.Carried.{good_as}
use Rattle.machine_world.proofs.Numbered.{length-meant, local_within, local_meant}
use Rattle.machine_world.proofs.Operands.{operand_meant}
use Rattle.machine_world.proofs.Picked.{looked_at}
use Rattle.machine_world.proofs.Updates.{local_updates, static_updates, old_fits, operator_fits, put_fits}

module _ (code : CodeParts) (step : Step) (now : Scene) (i : ℕ) (o : Operator) (e : Value)
    (top : slice_get now.shred.top.operands 0 ≡ Some e) where
  module _ (is : step.instr ≡ OpLocal i o) where
    abbrev locals : List Datum
    locals = locals_of now.shred

    local_fits : CanRun code step now
        → IsFitting (updated (local_of locals i) o (with_local locals i) (meant e))
    local_fits can =
        let s = shown now.shred in
        looked_at (updated (local_of locals i) o (with_local locals i)) (operands_of now.shred)
        (meant e) (operand_meant now.shred 0 e top)
        (local_updates step.place i o s.top.fun s.top.place locals (operands_of now.shred) s.below
        (state_over can.store now) (good_as code step now (OpLocal i o) is can))

    -- the local is there
    pub local_there : CanRun code step now → i < length now.shred.top.locals
    unfolding shown
    local_there can =
        omega (
          arith,
          length-meant now.shred.top.locals,
          local_within locals i
              (old_fits (local_of locals i) o (with_local locals i) (meant e) (local_fits can)),
        )

    -- and the operator can take it
    pub local_operates : CanRun code step now → (v : Value)
        → slice_get now.shred.top.locals i ≡ Some v → IsFitting (binary o (meant v) (meant e))
    unfolding shown
    local_operates can v here =
        operator_fits (local_of locals i) o (with_local locals i) (meant e) (local_fits can)
        (meant v) (local_meant now.shred.top.locals i v here)

  module _ (is : step.instr ≡ OpStatic i o) where
    static_fits : (can : CanRun code step now)
        → IsFitting (updated (static_of can.store i) o (with_static can.store i) (meant e))
    static_fits can =
        let s = shown now.shred in
        looked_at (updated (static_of can.store i) o (with_static can.store i))
        (operands_of now.shred) (meant e) (operand_meant now.shred 0 e top)
        (static_updates step.place i o s.top.fun s.top.place s.top.locals (operands_of now.shred)
        s.below (state_over can.store now) (good_as code step now (OpStatic i o) is can))

    pub static_there : CanRun code step now → CanDo now.world (λ store. static_of store i)
    static_there can = record {
      store = can.store;
      stands = can.stands;
      so = old_fits (static_of can.store i) o (with_static can.store i) (meant e) (static_fits can);
    }

    module _ (can : CanRun code step now) (v : Value)
        (here : static_of can.store i ≡ Gives (meant v)) where
      pub static_operates : IsFitting (binary o (meant v) (meant e))
      static_operates =
          operator_fits (static_of can.store i) o (with_static can.store i) (meant e)
          (static_fits can) (meant v) here

      pub static_sets : (w : Value) → binary o (meant v) (meant e) ≡ Gives (meant w)
          → CanDo now.world (λ store. with_static store i (meant w))
      static_sets w gives = record {
        store = can.store;
        stands = can.stands;
        so = put_fits (static_of can.store i) o (with_static can.store i) (meant e)
            (static_fits can) (meant v) here (meant w) gives;
      }
