-- What an instruction finds.
use Rattle.std.proofs.Common.{◌≡◌, ℕ}
use Rattle.ck_values.specs.declared.operator.Op2.{Op2 as Operator}
use Rattle.ck_code.specs.declared.code.CodeParts.{CodeParts}
use Rattle.ck_code.specs.declared.code.Step.{Step}
use Rattle.ck_code.specs.declared.instr.Instr.TheVariants.{Field, SetField, Item, SetItem, Append, Op2 as OnTwo}
use Rattle.ck_store.specs.Arrays.{item_of, with_item, appended}
use Rattle.ck_store.specs.Objects.{field_of, with_field}
use Rattle.ck_store.specs.Operators.{binary}
use Rattle.ck_store.specs.Store.{IsFitting}
use Rattle.machine_world.specs.Shown.{operands_of}
use Rattle.machine_world.specs.Steps.{of_top, of_two}
use Rattle.machine_world.proofs.Changed.{of_three}
use Rattle.machine_world.specs.Scenes.{Scene, state_over, CanRun}
use Rattle.machine_world.proofs.Carried.{good_as, one_found, two_found, three_found}

module _ (code : CodeParts) (step : Step) (now : Scene) where
  pub field_fits : (i : ℕ) → step.instr ≡ Field i → (can : CanRun code step now)
      → IsFitting (of_top (operands_of now.shred) (λ r. field_of can.store r i))
  field_fits i is can =
      one_found step.place (state_over can.store now) (operands_of now.shred)
      (λ r. field_of can.store r i) _ (good_as code step now (Field i) is can)

  pub set_field_fits : (i : ℕ) → step.instr ≡ SetField i → (can : CanRun code step now)
      → IsFitting (of_two (operands_of now.shred) (λ v r. with_field can.store r i v))
  set_field_fits i is can =
      two_found step.place (state_over can.store now) (operands_of now.shred)
      (λ v r. with_field can.store r i v) _ (good_as code step now (SetField i) is can)

  pub item_fits : step.instr ≡ Item → (can : CanRun code step now)
      → IsFitting (of_two (operands_of now.shred) (item_of can.store.objects))
  item_fits is can =
      two_found step.place (state_over can.store now) (operands_of now.shred)
      (item_of can.store.objects) _ (good_as code step now Item is can)

  pub set_item_fits : step.instr ≡ SetItem → (can : CanRun code step now)
      → IsFitting (of_three (operands_of now.shred) (λ v r i. with_item can.store r i v))
  set_item_fits is can =
      three_found step.place (state_over can.store now) (operands_of now.shred)
      (λ v r i. with_item can.store r i v) _ (good_as code step now SetItem is can)

  pub append_fits : step.instr ≡ Append → (can : CanRun code step now)
      → IsFitting (of_two (operands_of now.shred) (appended can.store))
  append_fits is can =
      two_found step.place (state_over can.store now) (operands_of now.shred)
      (appended can.store) _ (good_as code step now Append is can)

  pub operate_fits : (o : Operator) → step.instr ≡ OnTwo o → CanRun code step now
      → IsFitting (of_two (operands_of now.shred) (binary o))
  operate_fits o is can =
      two_found step.place (state_over can.store now) (operands_of now.shred) (binary o) _
      (good_as code step now (OnTwo o) is can)
