use Rattle.std.proofs.Common.{◌≡◌, ◌<◌, Some, length, slice_get, slice_set, ap, sym, subst, ◌∙◌, arith}
use Rattle.std.specs.Prelude.{IsSomeAnd, IfSome}
use Rattle.ck_values.specs.Datum.{ARef, meant, all_meant}
use Rattle.ck_store.specs.Objects.{with_field}
use Rattle.object_heap.specs.declared.body.Body.TheVariants.{Instance}
use Rattle.object_heap.specs.Objects.{Objects, values_of, with_values, with_body}
use Rattle.ck_store.specs.Store.{Gives}
use Rattle.machine_world.specs.Worlds.{plain_store, store_of}
use Rattle.machine_world.proofs.Held.{shown_objects, taken, held, is_referred, null_is}
use Rattle.value_ops.specs.Heaps.{KeepsUnits}
use Rattle.value_ops.proofs.Keeps.{units_put}
use Rattle.machine_world.proofs.Joined.{joined_kept}
use Rattle.machine_world.proofs.Numbered.{length-meant}
use Rattle.machine_world.proofs.Parts.{set_refers, set_null, set_within}
use Rattle.machine_world.proofs.Replaced.{replaced_so}
use Rattle.machine_world.proofs.Stands.{of_some, to_each, does_so}
use Rattle.machine_world.proofs.world.World.set_field.Goals as goal

pub returns-then-at-eq0-clause-null : goal.returns-then-at-eq0-clause-null
returns-then-at-eq0-clause-null c =
    to_each _ _
    (set_null (store_of c.args.self.now) (ARef c.args.at.serial) c.args.i (meant c.args.v) _
    (null_is (store_of c.args.self.now).objects c.args.at.serial c.if-at-eq0.true))

pub set-requires : goal.set-requires
set-requires c =
    let heap = c.self.inside.heap in
    let store = (store_of c.args.self.now) in
    let shown = shown_objects _ _ c.self.view_is in
    let it = taken heap store.objects c.args.at shown c.if-at-eq0.false
    (set_refers store (ARef c.args.at.serial) c.args.i (meant c.args.v) (of_some _ _ c.requires)) in
    let within : c.args.i < length it.fields =
    omega (
      arith,
      set_within store (ARef c.args.at.serial) c.args.i (meant c.args.v) _
          (is_referred heap store.objects c.args.at shown it) (of_some _ _ c.requires),
      length-meant it.fields,
    ) in
    subst (λ o. IsSomeAnd o (λ body. c.args.i < length (values_of body)))
    (sym (held heap c.args.at c.self.invariant.1 it)) within

pub invariant_of-self : goal.invariant_of-self
invariant_of-self c =
    let heap = c.self.inside.heap in
    let store = (store_of c.args.self.now) in
    let shown = shown_objects _ _ c.self.view_is in
    let it = taken heap store.objects c.args.at shown c.if-at-eq0.false
    (set_refers store (ARef c.args.at.serial) c.args.i (meant c.args.v) (of_some _ _ c.requires)) in
    let is = held heap c.args.at c.self.invariant.1 it in
    let fields = slice_set it.fields c.args.i c.args.v in
    let new = subst (λ o. IfSome o (λ body. c.set.new.self
    ≡ with_body heap c.args.at (with_values body (slice_set (values_of body) c.args.i c.args.v)))) is
    c.set.ensures.set in
    let units = units_put heap c.args.at (Instance it.class it.fields) fields is in (
      c.self.invariant.0,
      ap (λ (h : Objects). h.first) new ∙ c.self.invariant.1,
      c.self.invariant.2,
      c.self.invariant.3,
      joined_kept heap c.set.new.self c.self.inside.graph.links (subst (KeepsUnits heap) (sym new) units)
          c.self.invariant.4,
    )

pub returns-clause-set : goal.returns-clause-set
unfolding store_of
returns-clause-set c =
    does_so _ _ _ _
    (let heap = c.self.inside.heap in
    let inside = c.self.inside in
    let store = (store_of c.args.self.now) in
    let shown = shown_objects _ _ c.self.view_is in
    let it = taken heap store.objects c.args.at shown c.if-at-eq0.false
    (set_refers store (ARef c.args.at.serial) c.args.i (meant c.args.v) (of_some _ _ c.requires)) in
    let is = held heap c.args.at c.self.invariant.1 it in
    let new = subst (λ o. IfSome o (λ body. c.set.new.self
    ≡ with_body heap c.args.at (with_values body (slice_set (values_of body) c.args.i c.args.v)))) is
    c.set.ensures.set in
    let old = subst (λ o. IfSome o (λ body. slice_get (values_of body) c.args.i ≡ Some c.set.result)) is
    c.set.ensures.old in
    let with_these = λ (h : Objects). Gives (plain_store inside.time h.bodies (all_meant inside.statics) inside.graph
    inside.words inside.sporks inside.next_shred) in
    subst (λ w. with_field (store_of w) (ARef c.args.at.serial) c.args.i (meant c.args.v) ≡ with_these c.set.new.self)
    c.self.view_is
    (replaced_so inside.time heap (all_meant inside.statics) inside.graph inside.words inside.sporks inside.next_shred
    c.args.at it c.args.i c.set.result c.args.v c.self.invariant.1 old
    ∙ ap with_these (sym new)))
