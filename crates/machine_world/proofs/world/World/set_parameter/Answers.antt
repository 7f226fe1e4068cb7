use Rattle.std.proofs.Common.{Err, ap}
use Rattle.ck_values.specs.Datum.{ARef, meant}
use Rattle.ugen_kinds.specs.Generator.{is_past_limit}
use Rattle.ugen_kinds.specs.SoundFile.{no_waves}
use Rattle.ugen_sample.specs.Parameters.{with_unit_parameter}
use Rattle.ck_store.specs.Store.{Fails}
use Rattle.machine_world.specs.Worlds.{store_of}
use Rattle.machine_world.proofs.Located.{set_first, set_null}
use Rattle.machine_world.proofs.Graphs.{unit_there, place_there, can_set, not_past, in_past, is_refused, can_read_back, is_set, set_given}
use Rattle.machine_world.proofs.Places.{taken_put_where, joined_put_where}
use Rattle.machine_world.proofs.Stands.{of_some, to_each, does_so}
use Rattle.machine_world.proofs.world.World.set_parameter.Goals.{in-Ok-set, in-Err-DelayLimit, in-Err-Memory}
use Rattle.machine_world.proofs.world.World.set_parameter.Goals as goal

pub node_of-requires-clause-unit : goal.node_of-requires-clause-unit
node_of-requires-clause-unit c =
    unit_there _ _ c.self.view_is (ARef c.args.at.serial)
    (set_first c.args.p (store_of c.args.self.now) (ARef c.args.at.serial) (meant c.args.v) (of_some _ _ c.requires))

pub returns-in-Err-clause-end : goal.returns-in-Err-clause-end
returns-in-Err-clause-end c =
    to_each _ _
    (set_null c.args.p (store_of c.args.self.now) (ARef c.args.at.serial) (meant c.args.v) c.in-Err.trap
    (place_there _ _ c.self.view_is (ARef c.args.at.serial) (Fails c.in-Err.trap) c.in-Err.ensures.place))

pub set-requires : goal.set-requires
set-requires c =
    can_set _ _ c.self.view_is (ARef c.args.at.serial) c.in-Ok.node c.args.p c.in-Ok.ensures.place
    (meant c.args.v) (of_some _ _ c.requires)

pub param-requires : goal.param-requires
param-requires c =
    can_read_back _ _ c.self.view_is (ARef c.args.at.serial) c.in-Ok.node c.args.p c.in-Ok.ensures.place
    (meant c.args.v) c.set.new.self (of_some _ _ c.requires)
    (not_past _ _ _ (λ u. is_past_limit c.args.p (meant c.args.v) u.generator) c.in-Ok-set.ensures.limit
    (λ e. absurd (cc e))) c.in-Ok-set.ensures.set

pub returns-clause-set : goal.returns-clause-set
returns-clause-set c = elim c.match-set.branch [
  | in-Ok-set w ↦ rw w.result-is
      (does_so _ _ _ _ (is_set _ _ c.self.view_is (ARef c.args.at.serial) c.in-Ok.node c.args.p c.in-Ok.ensures.place
      (meant c.args.v) (meant w.param.result) c.set.new.self (of_some _ _ c.requires)
      (not_past _ _ _ (λ u. is_past_limit c.args.p (meant c.args.v) u.generator) w.in-Ok-set.ensures.limit
      (λ e. absurd (cc e))) w.in-Ok-set.ensures.set w.param.ensures))
  | in-Err-DelayLimit w ↦ rw w.result-is tt
  | in-Err-Memory w ↦ rw w.result-is tt
]

pub returns-clause-end : goal.returns-clause-end
returns-clause-end c = elim c.match-set.branch [
  | in-Ok-set w ↦ rw w.result-is tt
  | in-Err-DelayLimit w ↦ rw w.result-is
      (to_each _ _ (is_refused _ _ c.self.view_is (ARef c.args.at.serial) c.in-Ok.node c.args.p c.in-Ok.ensures.place
      (meant c.args.v) (of_some _ _ c.requires)
      (in_past _ _ _ (λ u. is_past_limit c.args.p (meant c.args.v) u.generator)
      w.in-Err-DelayLimit.ensures.limit (ap Err w.in-Err-DelayLimit.field-0-is))))
  | in-Err-Memory w ↦ rw w.result-is
      (to_each _ _ (set_given _ _ c.self.view_is (ARef c.args.at.serial) c.in-Ok.node c.args.p c.in-Ok.ensures.place
      (meant c.args.v) (of_some _ _ c.requires)
      (not_past _ _ _ (λ u. is_past_limit c.args.p (meant c.args.v) u.generator)
      w.in-Err-Memory.ensures.limit (λ e. absurd (cc e)))))
]

pub invariant_of-self : goal.invariant_of-self
invariant_of-self c = (
  c.self.invariant.0,
  c.self.invariant.1,
  c.self.invariant.2,
  taken_put_where c.self.inside.graph c.set.new.self c.in-Ok.node
      (with_unit_parameter no_waves c.args.p (meant c.args.v)) (λ u w. w) c.set.result
      (can_set _ _ c.self.view_is (ARef c.args.at.serial) c.in-Ok.node c.args.p c.in-Ok.ensures.place
      (meant c.args.v) (of_some _ _ c.requires)) c.set.ensures.set c.set.ensures.same c.self.invariant.3,
  joined_put_where c.self.inside.graph c.set.new.self c.in-Ok.node
      (with_unit_parameter no_waves c.args.p (meant c.args.v)) (λ u w. w) c.set.result
      c.self.inside.heap
      (can_set _ _ c.self.view_is (ARef c.args.at.serial) c.in-Ok.node c.args.p c.in-Ok.ensures.place
      (meant c.args.v) (of_some _ _ c.requires)) c.set.ensures.set c.set.ensures.same c.self.invariant.4,
)
