use Rattle.ck_values.specs.Datum.{meant}
use Rattle.ck_typed.specs.declared.native.Native.TheVariants.{Size}
use Rattle.ck_store.specs.Arrays.{item_count}
use Rattle.machine_world.proofs.Indexed.{array_refers, size_array}
use Rattle.machine_world.proofs.Operands.{taken_meant}
use Rattle.machine_world.proofs.Picked.{one_taken}
use Rattle.rare_steps.proofs.Arguments.{size_takes}
use Rattle.rare_steps.proofs.Found.{native_fits}
use Rattle.rare_steps.proofs.arrays.put_size.Goals as goal

pub reference-array-requires : goal.reference-array-requires
reference-array-requires c =
    let can = c.requires.can.can in
    let objects = can.store.objects in
    let r = meant c.pop.result in
    array_refers objects r (size_array objects r
    (one_taken (item_count objects) _ _ r (taken_meant _ _ _ c.pop.ensures)
    (size_takes _ _ (native_fits _ _ _ Size c.requires.is can))))
