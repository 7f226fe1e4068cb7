use Rattle.ck_values.specs.Datum.{meant}
use Rattle.ck_store.specs.Graph.{parameter_of}
use Rattle.machine_world.proofs.Located.{unit_refers, read_first}
use Rattle.machine_world.proofs.Operands.{taken_meant}
use Rattle.machine_world.proofs.Picked.{one_taken}
use Rattle.rare_steps.proofs.Found.{parameter_fits}
use Rattle.rare_steps.proofs.graph.put_parameter.Goals as goal

pub reference-unit-requires : goal.reference-unit-requires
reference-unit-requires c =
    let store = c.requires.can.can.store in
    let u = meant c.pop.result in
    unit_refers store.objects u (read_first c.args.p store u
    (one_taken (λ u. parameter_of c.args.p u store) _ _ u (taken_meant _ _ _ c.pop.ensures)
    (parameter_fits _ _ _ c.args.p c.requires.is c.requires.can.can)))
