-- What an instruction finds, where it can be carried out.
use Rattle.std.proofs.Common.{◌≡◌, ℕ, Bool, true, false, List, [], length}
use Rattle.ck_values.specs.declared.kind.Elem.{Elem}
use Rattle.ck_values.specs.declared.kind.Kind.{Kind}
use Rattle.ck_values.specs.declared.operator.Op2.{Op2}
use Rattle.ugen_names.specs.declared.param.Param.{Param}
use Rattle.ck_typed.specs.declared.native.Native.{Native}
use Rattle.ck_code.specs.declared.code.CodeParts.{CodeParts}
use Rattle.ck_code.specs.declared.code.Step.{Step}
use Rattle.ck_code.specs.declared.instr.Instr.TheVariants.{OpField, OpItem, Each, Fill, Connect, Disconnect}
use Rattle.ck_code.specs.declared.instr.Instr.TheVariants.{Param as ReadParam, SetParam, New, Row, Grid, Print}
use Rattle.ck_code.specs.declared.instr.Instr.TheVariants.{Native as BuiltIn}
use Rattle.ck_code.specs.Machine.{taken}
use Rattle.ck_store.specs.Arrays.{item_of, with_item, has_item, filled, row_made, grid_made}
use Rattle.ck_store.specs.Graph.{connected, disconnected, parameter_of, parameter_set}
use Rattle.ck_store.specs.Objects.{field_of, with_field, object_made}
use Rattle.ck_store.specs.Store.{IsFitting}
use Rattle.machine_world.specs.Scenes.{Scene, state_over, CanRun}
use Rattle.machine_world.specs.Shown.{shown, operands_of}
use Rattle.machine_world.specs.Steps.{of_top, of_two, updated}
use Rattle.machine_world.proofs.Changed.{of_three, called}
use Rattle.machine_world.proofs.Carried.{good_as, one_found, two_found, three_found}
use Rattle.machine_world.proofs.Sends.{good_fits}
use Rattle.machine_world.proofs.Updates.{field_updates}
use Rattle.rare_steps.specs.Rare.{literal}
use Rattle.rare_steps.proofs.Arguments.{native_calls, item_updates, grid_finds}

module _ (code : CodeParts) (step : Step) (now : Scene) where
  -- on fields and arrays
  pub op_field_fits : (i : ℕ) (o : Op2) → step.instr ≡ OpField i o → (can : CanRun code step now)
      → IsFitting (of_two (operands_of now.shred) (λ e r.
      updated (field_of can.store r i) o (with_field can.store r i) e))
  op_field_fits i o is can =
      let top = (shown now.shred).top in
      field_updates step.place i o top.fun top.place top.locals top.operands (shown now.shred).below
      (state_over can.store now) (good_as code step now (OpField i o) is can)

  pub op_item_fits : (o : Op2) → step.instr ≡ OpItem o → (can : CanRun code step now)
      → IsFitting (of_three (operands_of now.shred) (λ e r i.
      updated (item_of can.store.objects r i) o (with_item can.store r i) e))
  op_item_fits o is can =
      let top = (shown now.shred).top in
      item_updates step.place o top.fun top.place top.locals top.operands (shown now.shred).below
      (state_over can.store now) (good_as code step now (OpItem o) is can)

  pub each_fits : (to : ℕ) → step.instr ≡ Each to → (can : CanRun code step now)
      → IsFitting (of_two (operands_of now.shred) (has_item can.store.objects))
  each_fits to is can =
      two_found step.place (state_over can.store now) (operands_of now.shred)
      (has_item can.store.objects) _ (good_as code step now (Each to) is can)

  pub fill_fits : step.instr ≡ Fill → (can : CanRun code step now)
      → IsFitting (of_three (operands_of now.shred) (filled can.store))
  fill_fits is can =
      three_found step.place (state_over can.store now) (operands_of now.shred)
      (filled can.store) _ (good_as code step now Fill is can)

  -- on unit generators
  pub connect_fits : step.instr ≡ Connect → (can : CanRun code step now)
      → IsFitting (of_two (operands_of now.shred) (λ from to. connected from to can.store))
  connect_fits is can =
      two_found step.place (state_over can.store now) (operands_of now.shred)
      (λ from to. connected from to can.store) _ (good_as code step now Connect is can)

  pub disconnect_fits : step.instr ≡ Disconnect → (can : CanRun code step now)
      → IsFitting (of_two (operands_of now.shred) (λ from to. disconnected from to can.store))
  disconnect_fits is can =
      two_found step.place (state_over can.store now) (operands_of now.shred)
      (λ from to. disconnected from to can.store) _ (good_as code step now Disconnect is can)

  pub parameter_fits : (p : Param) → step.instr ≡ ReadParam p → (can : CanRun code step now)
      → IsFitting (of_top (operands_of now.shred) (λ unit. parameter_of p unit can.store))
  parameter_fits p is can =
      one_found step.place (state_over can.store now) (operands_of now.shred)
      (λ unit. parameter_of p unit can.store) _ (good_as code step now (ReadParam p) is can)

  pub set_parameter_fits : (p : Param) → step.instr ≡ SetParam p → (can : CanRun code step now)
      → IsFitting (of_two (operands_of now.shred) (λ unit v. parameter_set p unit v can.store))
  set_parameter_fits p is can =
      two_found step.place (state_over can.store now) (operands_of now.shred)
      (λ unit v. parameter_set p unit v can.store) _ (good_as code step now (SetParam p) is can)

  -- objects and arrays that are made
  pub new_fits : (class : ℕ) → step.instr ≡ New class → (can : CanRun code step now)
      → IsFitting (object_made code.classes class can.store)
  new_fits class is can =
      good_fits (object_made code.classes class can.store) step.place (state_over can.store now) _
      (good_as code step now (New class) is can)

  pub row_fits : (elem : Elem) → step.instr ≡ Row elem → (can : CanRun code step now)
      → IsFitting (of_top (operands_of now.shred) (λ n. row_made elem n can.store))
  row_fits elem is can =
      one_found step.place (state_over can.store now) (operands_of now.shred)
      (λ n. row_made elem n can.store) _ (good_as code step now (Row elem) is can)

  pub grid_fits : (elem : Elem) → step.instr ≡ Grid elem → (can : CanRun code step now)
      → IsFitting (of_two (operands_of now.shred) (λ n m. (grid_made elem n m can.store).end))
  grid_fits elem is can =
      let top = (shown now.shred).top in
      grid_finds step.place elem top.fun top.place top.locals top.operands (shown now.shred).below
      (state_over can.store now) (good_as code step now (Grid elem) is can)

  pub literal_fits : (elem : Elem) (two : Bool) (n : ℕ) → step.instr ≡ literal elem two n
      → CanRun code step now → IsFitting (taken n [] (operands_of now.shred))
  literal_fits elem true n is can =
      good_fits (taken n [] (operands_of now.shred)) step.place (state_over can.store now) _
      (good_as code step now (literal elem true n) is can)
  literal_fits elem false n is can =
      good_fits (taken n [] (operands_of now.shred)) step.place (state_over can.store now) _
      (good_as code step now (literal elem false n) is can)

  -- prints and built-in calls
  pub print_fits : (kinds : List Kind) → step.instr ≡ Print kinds → CanRun code step now
      → IsFitting (taken (length kinds) [] (operands_of now.shred))
  print_fits kinds is can =
      good_fits (taken (length kinds) [] (operands_of now.shred)) step.place
      (state_over can.store now) _ (good_as code step now (Print kinds) is can)

  pub native_fits : (call : Native) → step.instr ≡ BuiltIn call → (can : CanRun code step now)
      → IsFitting (called call (operands_of now.shred) (state_over can.store now))
  native_fits call is can =
      let top = (shown now.shred).top in
      native_calls step.place call top.fun top.place top.locals top.operands
      (shown now.shred).below (state_over can.store now) (good_as code step now (BuiltIn call) is can)
