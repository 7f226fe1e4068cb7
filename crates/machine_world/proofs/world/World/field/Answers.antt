use Rattle.std.proofs.Common.{◌<◌, length, refl, arith}
use Rattle.std.proofs.lemmas.Option.{slice_get_read}
use Rattle.ck_values.specs.Datum.{ARef}
use Rattle.machine_world.specs.Worlds.{store_of}
use Rattle.machine_world.proofs.Numbered.{length-meant, get_meant}
use Rattle.machine_world.proofs.Parts.{field_within, field_is}
use Rattle.machine_world.proofs.Stands.{of_some, of_each, to_each}
use Rattle.machine_world.proofs.world.World.field.Goals as goal

pub bounds-fields-i : goal.bounds-fields-i
bounds-fields-i c =
    omega (arith, field_within (store_of c.args.self.now) (ARef c.args.at.serial) c.args.i _ (of_each _ _ c.in_ok-fields.ensures.found) (of_some _ _ c.requires), length-meant c.in_ok-fields.fields.now)

pub returns-clause-found : goal.returns-clause-found
returns-clause-found c =
    to_each _ _
    (let fields = c.in_ok-fields.fields.now in
    let store = (store_of c.args.self.now) in
    let found = of_each _ _ c.in_ok-fields.ensures.found in
    let within : c.args.i < length fields =
    omega (arith, field_within store (ARef c.args.at.serial) c.args.i _ found (of_some _ _ c.requires), length-meant fields) in
    let here = slice_get_read fields (length fields) c.args.i c.index-fields-i.result refl within c.index-fields-i.is in
    field_is store (ARef c.args.at.serial) c.args.i _ _ found
    (get_meant fields c.args.i c.index-fields-i.result here))
