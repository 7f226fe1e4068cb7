use Rattle.ck_values.specs.Datum.{Datum, meant, AnInt, ARef}
use Rattle.machine_world.specs.Worlds.{store_of}
use Rattle.machine_world.proofs.Indexed.{set_array, set_nowhere, set_indexed}
use Rattle.machine_world.proofs.Stores.{of_heap, array_there}
use Rattle.ck_store.specs.Store.{Gives, Fails}
use Rattle.ck_store.specs.Arrays.{with_item}
use Rattle.std.proofs.Common.{rules, ◌≡◌, ap, sym, subst, ◌∙◌, w64, FitsSigned}
use Rattle.std.proofs.lemmas.Int.{to_z-of_z}
use Rattle.value_ops.specs.Heaps.{with_heap}
use Rattle.machine_world.proofs.Stands.{of_some, to_each, does_so}
use Rattle.machine_world.proofs.world.World.set_item.Goals as goal

pub returns-then-at-eq0-clause-trap : goal.returns-then-at-eq0-clause-trap
returns-then-at-eq0-clause-trap c =
    to_each _ _
    (set_nowhere (store_of c.args.self.now) c.args.at.serial (meant c.args.index.now) (meant c.args.v) c.if-at-eq0.true)

pub int-requires : goal.int-requires
int-requires c =
    set_indexed (store_of c.args.self.now) c.args.at.serial (meant c.args.index.now) (meant c.args.v) c.if-at-eq0.false (of_some _ _ c.requires)

pub set_item-requires-clause-array : goal.set_item-requires-clause-array
set_item-requires-clause-array c =
    array_there _ _ c.args.at.serial c.self.view_is
    (set_array (store_of c.args.self.now) (ARef c.args.at.serial) (meant c.args.index.now) (meant c.args.v) (of_some _ _ c.requires))

pub returns-in-Ok-clause-set : goal.returns-in-Ok-clause-set
returns-in-Ok-clause-set c =
    does_so _ _ _ _
    (let fits : FitsSigned w64 c.int.result = search rules in
    let index = ap AnInt (to_z-of_z w64 c.int.result fits) ∙ sym c.int.ensures in
    of_heap
    (λ before after. with_item before (ARef c.args.at.serial) (meant c.args.index.now) (meant c.args.v) ≡ Gives after)
    _ _ c.set_item.new.heap c.self.view_is
    (λ store. subst (λ (i : Datum).
    with_item (with_heap store c.self.inside.heap) (ARef c.args.at.serial) i (meant c.args.v)
    ≡ Gives (with_heap store c.set_item.new.heap)) index (c.in-Ok.ensures.set store)))

pub returns-clause-trap : goal.returns-clause-trap
returns-clause-trap c =
    to_each _ _
    (let fits : FitsSigned w64 c.int.result = search rules in
    let index = ap AnInt (to_z-of_z w64 c.int.result fits) ∙ sym c.int.ensures in
    of_heap
    (λ before after. with_item before (ARef c.args.at.serial) (meant c.args.index.now) (meant c.args.v) ≡ Fails c.in-Err.trap)
    _ _ c.set_item.new.heap c.self.view_is
    (λ store. subst (λ (i : Datum).
    with_item (with_heap store c.self.inside.heap) (ARef c.args.at.serial) i (meant c.args.v) ≡ Fails c.in-Err.trap)
    index (c.in-Err.ensures.trap store).0))
