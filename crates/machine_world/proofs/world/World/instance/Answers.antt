use Rattle.std.proofs.Common.{Some, refl, ap, sym, subst, ◌∙◌}
use Rattle.std.specs.Prelude.{IsSome}
use Rattle.ck_values.specs.Datum.{all_meant}
use Rattle.ck_store.specs.Store.{Gives}
use Rattle.ck_store.specs.Objects.{inside_of}
use Rattle.value_ops.specs.Heaps.{shown_body}
use Rattle.machine_world.specs.Worlds.{store_of}
use Rattle.machine_world.proofs.Held.{shown_objects, taken, held, is_body, is_referred, null_is}
use Rattle.machine_world.proofs.Stands.{of_some, to_each}
use Rattle.machine_world.proofs.world.World.instance.Goals as goal

pub returns-then-at-eq0-clause-null : goal.returns-then-at-eq0-clause-null
returns-then-at-eq0-clause-null c =
    to_each _ _
    (null_is (store_of c.args.self.now).objects c.args.at.serial c.if-at-eq0.true)

pub body-requires : goal.body-requires
body-requires c =
    let heap = c.self.inside.heap in
    let shown = shown_objects _ _ c.self.view_is in
    let it = taken heap (store_of c.args.self.now).objects c.args.at shown c.if-at-eq0.false (of_some _ _ c.requires) in
    subst IsSome (sym (held heap c.args.at c.self.invariant.1 it)) refl

pub unreachable-requires : goal.unreachable-requires
unreachable-requires c =
    let heap = c.self.inside.heap in
    let shown = shown_objects _ _ c.self.view_is in
    let it = taken heap (store_of c.args.self.now).objects c.args.at shown c.if-at-eq0.false (of_some _ _ c.requires) in
    c.in_default.not-Instance it.class it.fields
    (sym (is_body heap c.args.at c.body.result.now c.self.invariant.1 it c.body.ensures))

pub returns-clause-found : goal.returns-clause-found
returns-clause-found c =
    to_each _ _
    (let heap = c.self.inside.heap in
    let objects = (store_of c.args.self.now).objects in
    let shown = shown_objects _ _ c.self.view_is in
    let it = taken heap objects c.args.at shown c.if-at-eq0.false (of_some _ _ c.requires) in
    let same = is_body heap c.args.at c.body.result.now c.self.invariant.1 it c.body.ensures in
    is_referred heap objects c.args.at shown it
    ∙ ap (λ b. inside_of (Some (shown_body b))) (same ∙ c.in-Instance.is)
    ∙ ap (λ fs. Gives (record { class = c.in-Instance.class; fields = all_meant fs })) (sym c.items.ensures))
