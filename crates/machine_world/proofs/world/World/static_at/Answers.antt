use Rattle.std.proofs.Common.{◌≡◌, ◌<◌, ◌∙◌, length, get_or, refl, ap, subst, arith}
use Rattle.std.proofs.lemmas.Option.{slice_get_read}
use Rattle.ck_values.specs.Datum.{meant, all_meant}
use Rattle.ck_store.specs.Steps.{static_of}
use Rattle.ck_store.specs.Store.{Gives}
use Rattle.machine_world.specs.Worlds.{Parts, store_of}
use Rattle.machine_world.proofs.Numbered.{length-meant, static_within, static_meant}
use Rattle.machine_world.proofs.Stands.{of_some, to_each}
use Rattle.machine_world.proofs.world.World.static_at.Goals as goal

pub returns : goal.returns
unfolding store_of
returns c =
    let inside = c.self.inside in
    let statics = inside.statics in
    let v = c.index-items-i.result in
    let size = ap (λ (w : Parts). length (all_meant w.statics)) c.self.view_is in
    let within : c.args.i < length statics =
    omega (arith, length-meant statics, size, static_within (store_of c.args.self.now) c.args.i (of_some _ _ c.requires)) in
    let is = c.index-items-i.is ∙ ap (λ vs. get_or vs c.args.i v) c.items.ensures in
    to_each _ _ (subst (λ (w : Parts). static_of (store_of w) c.args.i ≡ Gives (meant v)) c.self.view_is
    (static_meant inside.time inside.heap.bodies statics inside.graph inside.words inside.sporks inside.next_shred c.args.i v
    (slice_get_read statics (length statics) c.args.i v refl within is)))
