use Rattle.std.proofs.Common.{◌<◌, length, get_or, slice_get, refl, ap, subst, ◌∙◌}
use Rattle.std.proofs.lemmas.Option.{slice_get_read}
use Rattle.ck_values.specs.Datum.{ARef}
use Rattle.ck_typed.specs.declared.class.Class.{Class}
use Rattle.machine_world.specs.Worlds.{store_of}
use Rattle.machine_world.proofs.Parts.{class_within, slot_within, method_is}
use Rattle.machine_world.proofs.Stands.{of_some, of_each, to_each}
use Rattle.machine_world.proofs.world.World.method.Goals as goal

pub item-requires : goal.item-requires
item-requires c =
    let classes = c.args.code.now.classes in
    let objects = (store_of c.args.self.now).objects in
    let class = c.index-items-class.result in
    let found = of_each _ _ c.in_ok-class.ensures.found in
    let within = class_within classes objects (ARef c.args.at.serial) c.args.slot _ found (of_some _ _ c.requires) in
    let is = c.index-items-class.is ∙ ap (λ cs. get_or cs c.in_ok-class.class class) c.items.ensures in
    let here = slice_get_read classes (length classes) c.in_ok-class.class class refl within is in
    subst (λ (k : Class). c.args.slot < length k.virtuals) c.index-items-class.is
    (slot_within classes objects (ARef c.args.at.serial) c.args.slot _ class found here (of_some _ _ c.requires))

pub returns-clause-found : goal.returns-clause-found
returns-clause-found c =
    to_each _ _
    (let classes = c.args.code.now.classes in
    let objects = (store_of c.args.self.now).objects in
    let class = c.index-items-class.result in
    let found = of_each _ _ c.in_ok-class.ensures.found in
    let within = class_within classes objects (ARef c.args.at.serial) c.args.slot _ found (of_some _ _ c.requires) in
    let is = c.index-items-class.is ∙ ap (λ cs. get_or cs c.in_ok-class.class class) c.items.ensures in
    let here = slice_get_read classes (length classes) c.in_ok-class.class class refl within is in
    method_is classes objects (ARef c.args.at.serial) c.args.slot _ class _ found here
    (ap (λ (k : Class). slice_get k.virtuals c.args.slot) c.index-items-class.is ∙ c.item.ensures))
