use Rattle.std.proofs.Common.{◌≡◌, Err, ap, sym, subst}
use Rattle.ck_values.specs.Datum.{ARef, meant}
use Rattle.ck_store.specs.Store.{Gives, Fails, IsFitting}
use Rattle.ck_store.specs.Graph.{place_at}
use Rattle.value_ops.specs.Heaps.{objects_of}
use Rattle.machine_world.specs.Worlds.{store_of}
use Rattle.machine_world.proofs.Located.{unit_refers, connect_first, connect_null, connect_second, connect_null_second}
use Rattle.machine_world.proofs.Graphs.{unit_there, place_there, link_of, are_there, connect_made, connect_full, connect_given}
use Rattle.machine_world.proofs.Joined.{joined_more}
use Rattle.machine_world.proofs.Places.{taken_linked}
use Rattle.machine_world.proofs.Stands.{of_some, to_each, does_so}
use Rattle.machine_world.proofs.world.World.connect.Goals.{in-Ok-connect, in-Err-Connections, in-Err-Memory}
use Rattle.machine_world.proofs.world.World.connect.Goals as goal

pub node_of-requires-clause-unit : goal.node_of-requires-clause-unit
node_of-requires-clause-unit c =
    let from = ARef c.args.from.serial in
    unit_there _ _ c.self.view_is from
    (connect_first (store_of c.args.self.now) from (meant c.args.to.now) (of_some _ _ c.requires))

pub returns-in-Err-clause-end : goal.returns-in-Err-clause-end
returns-in-Err-clause-end c =
    to_each _ _
    (let from = ARef c.args.from.serial in
    connect_null (store_of c.args.self.now) from (meant c.args.to.now) c.in-Err.trap
    (place_there _ _ c.self.view_is from (Fails c.in-Err.trap) c.in-Err.ensures.place))

pub reference-to-requires : goal.reference-to-requires
reference-to-requires c =
    let store = store_of c.args.self.now in
    let from = ARef c.args.from.serial in
    let to = meant c.args.to.now in
    unit_refers store.objects to
    (connect_second store from to c.in-Ok.node
    (place_there _ _ c.self.view_is from (Gives c.in-Ok.node) c.in-Ok.ensures.place) (of_some _ _ c.requires))

pub node_of-requires-2-clause-unit : goal.node_of-requires-2-clause-unit
node_of-requires-2-clause-unit c =
    let store = store_of c.args.self.now in
    let from = ARef c.args.from.serial in
    let to = meant c.args.to.now in
    subst (λ d. IsFitting (place_at (objects_of c.self.inside.heap) d)) (ap meant c.reference-to.ensures)
    (unit_there _ _ c.self.view_is to
    (connect_second store from to c.in-Ok.node
    (place_there _ _ c.self.view_is from (Gives c.in-Ok.node) c.in-Ok.ensures.place) (of_some _ _ c.requires)))

pub returns-in-Err-node_of-clause-end : goal.returns-in-Err-node_of-clause-end
returns-in-Err-node_of-clause-end c =
    to_each _ _
    (let store = store_of c.args.self.now in
    let from = ARef c.args.from.serial in
    let to = meant c.args.to.now in
    let trap = c.in-Err-node_of.trap in
    connect_null_second store from to c.in-Ok.node trap
    (place_there _ _ c.self.view_is from (Gives c.in-Ok.node) c.in-Ok.ensures.place) (of_some _ _ c.requires)
    (place_there _ _ c.self.view_is to (Fails trap)
    (subst (λ d. place_at (objects_of c.self.inside.heap) d ≡ Fails trap) (sym (ap meant c.reference-to.ensures))
    c.in-Err-node_of.ensures.place)))

pub connect-requires-clause-from : goal.connect-requires-clause-from
connect-requires-clause-from c =
    let there = subst (λ d. place_at (objects_of c.self.inside.heap) d ≡ Gives c.in-Ok-node_of.node)
    (sym (ap meant c.reference-to.ensures)) c.in-Ok-node_of.ensures.place in
    (are_there _ _ c.self.view_is (ARef c.args.from.serial) (meant c.args.to.now) c.in-Ok.node
    c.in-Ok-node_of.node c.in-Ok.ensures.place there (of_some _ _ c.requires)).from

pub connect-requires-clause-to : goal.connect-requires-clause-to
connect-requires-clause-to c =
    let there = subst (λ d. place_at (objects_of c.self.inside.heap) d ≡ Gives c.in-Ok-node_of.node)
    (sym (ap meant c.reference-to.ensures)) c.in-Ok-node_of.ensures.place in
    (are_there _ _ c.self.view_is (ARef c.args.from.serial) (meant c.args.to.now) c.in-Ok.node
    c.in-Ok-node_of.node c.in-Ok.ensures.place there (of_some _ _ c.requires)).to

pub returns-clause-connected : goal.returns-clause-connected
returns-clause-connected c =
    let there = subst (λ d. place_at (objects_of c.self.inside.heap) d ≡ Gives c.in-Ok-node_of.node)
    (sym (ap meant c.reference-to.ensures)) c.in-Ok-node_of.ensures.place in
    elim c.match-connect.branch [
      | in-Ok-connect w ↦ rw w.result-is
          (does_so _ _ _ _ (connect_made _ _ c.self.view_is (ARef c.args.from.serial) (meant c.args.to.now) c.in-Ok.node
          c.in-Ok-node_of.node c.in-Ok.ensures.place there c.connect.new.self c.args.from c.reference-to.result
          (of_some _ _ c.requires) w.in-Ok-connect.ensures.room w.in-Ok-connect.ensures.connected))
      | in-Err-Connections w ↦ rw w.result-is tt
      | in-Err-Memory w ↦ rw w.result-is tt
    ]

pub returns-clause-end : goal.returns-clause-end
returns-clause-end c =
    let there = subst (λ d. place_at (objects_of c.self.inside.heap) d ≡ Gives c.in-Ok-node_of.node)
    (sym (ap meant c.reference-to.ensures)) c.in-Ok-node_of.ensures.place in
    elim c.match-connect.branch [
      | in-Ok-connect w ↦ rw w.result-is tt
      | in-Err-Connections w ↦ rw w.result-is
          (to_each _ _ (connect_full _ _ c.self.view_is (ARef c.args.from.serial) (meant c.args.to.now) c.in-Ok.node
          c.in-Ok-node_of.node c.in-Ok.ensures.place there (of_some _ _ c.requires)
          (w.in-Err-Connections.ensures.full.0 (ap Err w.in-Err-Connections.field-0-is))))
      | in-Err-Memory w ↦ rw w.result-is
          (to_each _ _ (connect_given _ _ c.self.view_is (ARef c.args.from.serial) (meant c.args.to.now) c.in-Ok.node
          c.in-Ok-node_of.node c.in-Ok.ensures.place there (of_some _ _ c.requires)
          (w.in-Err-Memory.ensures.memory w.in-Err-Memory.field-0-is)))
    ]

pub invariant_of-self : goal.invariant_of-self
invariant_of-self c = (
  c.self.invariant.0,
  c.self.invariant.1,
  c.self.invariant.2,
  taken_linked c.connect.result c.self.inside.graph c.connect.new.self _ c.connect.ensures.connected
      c.connect.ensures.same c.self.invariant.3,
  joined_more c.connect.result c.self.inside.heap c.self.inside.graph c.connect.new.self
      (link_of c.in-Ok.node c.in-Ok-node_of.node c.args.from c.reference-to.result)
      c.connect.ensures.connected c.connect.ensures.same c.in-Ok.ensures.unit
      c.in-Ok-node_of.ensures.unit c.self.invariant.4,
)
