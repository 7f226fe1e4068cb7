use Rattle.std.proofs.Common.{◌≡◌, ap, sym, ◌∙◌, subst}
use Rattle.std.proofs.lemmas.Result.{err_from_is_err_and}
use Rattle.ck_values.specs.Datum.{ARef, meant}
use Rattle.ck_values.specs.declared.side.Side.TheVariants.{Both as OnBoth}
use Rattle.ugen_graph.specs.Links.{leads}
use Rattle.ugen_graph.specs.Wiring.{Network}
use Rattle.ck_store.specs.Store.{Gives, Fails, IsFitting}
use Rattle.ck_store.specs.Graph.{place_at}
use Rattle.value_ops.specs.Heaps.{objects_of}
use Rattle.machine_world.specs.Units.{are_taken}
use Rattle.machine_world.specs.Worlds.{store_of}
use Rattle.machine_world.proofs.Located.{unit_refers, disconnect_first, disconnect_null, disconnect_second, disconnect_null_second}
use Rattle.machine_world.proofs.Graphs.{unit_there, place_there, disconnect_made}
use Rattle.machine_world.proofs.Joined.{joined_same, joined_without}
use Rattle.machine_world.proofs.Stands.{of_some, to_each, does_so}
use Rattle.machine_world.proofs.world.World.disconnect.Goals as goal

pub node_of-requires-clause-unit : goal.node_of-requires-clause-unit
node_of-requires-clause-unit c =
    let from = ARef c.args.from.serial in
    unit_there _ _ c.self.view_is from
    (disconnect_first (store_of c.args.self.now) from (meant c.args.to.now) (of_some _ _ c.requires))

pub returns-in_err-from-clause-null : goal.returns-in_err-from-clause-null
returns-in_err-from-clause-null c =
    let p = err_from_is_err_and c.from_residual.result c.from_residual.ensures.1 in
    let trap = c.in_err-from.field-0.0 in
    let from = ARef c.args.from.serial in
    rw (p.1, p.2)
    (to_each _ _
    (disconnect_null (store_of c.args.self.now) from (meant c.args.to.now) trap
    (place_there _ _ c.self.view_is from (Fails trap) (c.in_err-from.ensures {u = tt}).place)))

pub reference-requires : goal.reference-requires
reference-requires c =
    let store = store_of c.args.self.now in
    let from = ARef c.args.from.serial in
    let to = meant c.args.to.now in
    unit_refers store.objects to
    (disconnect_second store from to c.in_ok-from.from
    (place_there _ _ c.self.view_is from (Gives c.in_ok-from.from) c.in_ok-from.ensures.place) (of_some _ _ c.requires))

pub node_of-requires-2-clause-unit : goal.node_of-requires-2-clause-unit
node_of-requires-2-clause-unit c =
    let store = store_of c.args.self.now in
    let from = ARef c.args.from.serial in
    let to = meant c.args.to.now in
    subst (λ d. IsFitting (place_at (objects_of c.self.inside.heap) d)) (ap meant c.reference.ensures)
    (unit_there _ _ c.self.view_is to
    (disconnect_second store from to c.in_ok-from.from
    (place_there _ _ c.self.view_is from (Gives c.in_ok-from.from) c.in_ok-from.ensures.place)
    (of_some _ _ c.requires)))

pub returns-in_err-to-clause-null : goal.returns-in_err-to-clause-null
returns-in_err-to-clause-null c =
    let p = err_from_is_err_and c.from_residual-in_err-to.result c.from_residual-in_err-to.ensures.1 in
    let trap = c.in_err-to.field-0.0 in
    let from = ARef c.args.from.serial in
    let to = meant c.args.to.now in
    let null = subst (λ d. place_at (objects_of c.self.inside.heap) d ≡ Fails trap) (sym (ap meant c.reference.ensures))
    (c.in_err-to.ensures {u = tt}).place in
    rw (p.1, p.2)
    (to_each _ _
    (disconnect_null_second (store_of c.args.self.now) from to c.in_ok-from.from trap
    (place_there _ _ c.self.view_is from (Gives c.in_ok-from.from) c.in_ok-from.ensures.place) (of_some _ _ c.requires)
    (place_there _ _ c.self.view_is to (Fails trap) null)))

pub returns-clause-disconnected : goal.returns-clause-disconnected
returns-clause-disconnected c =
    does_so _ _ _ _
    (let there = subst (λ d. place_at (objects_of c.self.inside.heap) d ≡ Gives c.in_ok-to.to)
    (sym (ap meant c.reference.ensures)) c.in_ok-to.ensures.place in
    disconnect_made _ _ c.self.view_is c.disconnect.new.self (ARef c.args.from.serial) (meant c.args.to.now)
    c.in_ok-from.from c.in_ok-to.to c.in_ok-from.ensures.place there (of_some _ _ c.requires)
    c.disconnect.ensures.links)

pub invariant_of-self : goal.invariant_of-self
invariant_of-self c = (
  c.self.invariant.0,
  c.self.invariant.1,
  c.self.invariant.2,
  ap (λ (g : Network). are_taken g.units) c.disconnect.ensures.links ∙ c.self.invariant.3,
  joined_same c.self.inside.heap _ c.disconnect.new.self.links
      (ap (λ (g : Network). g.links) c.disconnect.ensures.links)
      (joined_without c.self.inside.heap (leads c.in_ok-from.from c.in_ok-to.to OnBoth)
      c.self.inside.graph.links c.self.invariant.4),
)
