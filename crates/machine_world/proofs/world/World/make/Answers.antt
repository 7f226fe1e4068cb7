use Rattle.std.proofs.Common.{◌≡◌, ◌+◌, ◌<◌, ◌≤◌, length, get_or, refl, ap, sym, subst, ◌∙◌}
use Rattle.std.proofs.lemmas.Option.{slice_get_read}
use Rattle.std.proofs.lemmas.Result.{err_from_is_err_and}
use Rattle.ck_base.specs.declared.limits.TheConstants.{MAX_OBJECTS}
use Rattle.ck_values.specs.declared.reference.Ref.{Ref}
use Rattle.ck_values.specs.Datum.{ARef, all_meant}
use Rattle.ck_store.specs.Store.{Gives, Fails}
use Rattle.ck_store.specs.Objects.{object_made}
use Rattle.object_heap.specs.declared.body.Body.TheVariants.{Instance}
use Rattle.object_heap.specs.Objects.{Objects, MakesObject, next}
use Rattle.ck_values.specs.declared.trap.Trap.TheVariants.{ObjectLimit}
use Rattle.machine_world.specs.Worlds.{plain_store, store_of}
use Rattle.ck_code.proofs.Tables.{get_within}
use Rattle.value_ops.specs.Ends.{IsGiven}
use Rattle.value_ops.proofs.Wants.{not_past}
use Rattle.machine_world.proofs.Made.{made_within, made_so, made_not, made_given, ends_so}
use Rattle.machine_world.proofs.Results.{ok_then, err_both}
use Rattle.machine_world.proofs.Stands.{of_some, to_each, does_so}
use Rattle.machine_world.proofs.world.World.make.Goals as goal

pub bounds-items-class : goal.bounds-items-class
bounds-items-class c =
    subst (λ cs. c.args.class < length cs) (sym c.items.ensures)
    (made_within c.args.code.now.classes c.args.class (store_of c.args.self.now) (of_some _ _ c.requires))

pub returns-then-is_full-clause-end : goal.returns-then-is_full-clause-end
unfolding store_of
returns-then-is_full-clause-end c =
    to_each _ _
    (let classes = c.args.code.now.classes in
    let inside = c.self.inside in
    let class = get_within classes c.args.class
    (made_within classes c.args.class (store_of c.args.self.now) (of_some _ _ c.requires)) in
    let past : MAX_OBJECTS < 1 + length inside.heap.bodies =
    subst (λ n. MAX_OBJECTS < n + length inside.heap.bodies) c.self.invariant.1
    (c.is_full.ensures.0 c.if-is_full.true) in
    subst (λ w. object_made classes c.args.class (store_of w) ≡ Fails ObjectLimit) c.self.view_is
    (made_not classes c.args.class class.0 inside.time inside.heap.bodies (all_meant inside.statics)
    inside.graph inside.words inside.sporks inside.next_shred class.1 past))

pub returns-in_err-fields-clause-end : goal.returns-in_err-fields-clause-end
unfolding store_of
returns-in_err-fields-clause-end c =
    let classes = c.args.code.now.classes in
    let inside = c.self.inside in
    let class = get_within classes c.args.class
    (made_within classes c.args.class (store_of c.args.self.now) (of_some _ _ c.requires)) in
    let few : 1 + length inside.heap.bodies ≤ MAX_OBJECTS =
    subst (λ n. n + length inside.heap.bodies ≤ MAX_OBJECTS) c.self.invariant.1
    (not_past c.is_full.result _ _ c.is_full.ensures c.if-is_full.false) in
    let p = err_from_is_err_and c.from_residual.result c.from_residual.ensures.1 in
    rw (p.1, p.2)
    (to_each _ _
    (subst (λ w. IsGiven (object_made classes c.args.class (store_of w))) c.self.view_is
    (made_given classes c.args.class class.0 inside.time inside.heap.bodies
    (all_meant inside.statics) inside.graph inside.words inside.sporks inside.next_shred class.1
    few)))

pub returns-clause-made : goal.returns-clause-made
unfolding store_of
returns-clause-made c =
    let classes = c.args.code.now.classes in
    let class = c.index-items-class.result in
    let inside = c.self.inside in
    let bodies = inside.heap.bodies in
    let within = made_within classes c.args.class (store_of c.args.self.now) (of_some _ _ c.requires) in
    let is = c.index-items-class.is ∙ ap (λ cs. get_or cs c.args.class class) c.items.ensures in
    let here = slice_get_read classes (length classes) c.args.class class refl within is in
    let statics = all_meant inside.statics in
    let with_these = λ (at : Ref) (h : Objects). Gives (record {
      reference = ARef at.serial;
      store = plain_store inside.time h.bodies statics inside.graph inside.words inside.sporks inside.next_shred;
    }) in
    let heap = c.add_object.new.heap in
    let body = Instance c.args.class c.in_ok-fields.fields in
    let so = λ (at : Ref) (made : MakesObject inside.heap body at heap).
    let number : at.serial ≡ 1 + length bodies =
    made.number ∙ ap (λ n. n + length bodies) c.self.invariant.1 in
    let room : 1 + length bodies ≤ MAX_OBJECTS =
    subst (λ n. n + length bodies ≤ MAX_OBJECTS) c.self.invariant.1 made.room in
    does_so _ _ _ _ (subst (λ w. object_made classes c.args.class (store_of w) ≡ with_these at heap) c.self.view_is
    (made_so classes c.args.class class inside.time bodies statics inside.graph inside.words inside.sporks
    inside.next_shred c.in_ok-fields.fields at.serial here c.in_ok-fields.ensures number room
    ∙ ap (with_these at) (sym made.objects))) in
    ok_then c.add_object.result _ _ so c.add_object.ensures.made

pub returns-clause-end : goal.returns-clause-end
unfolding store_of
returns-clause-end c =
    let classes = c.args.code.now.classes in
    let class = c.index-items-class.result in
    let inside = c.self.inside in
    let within = made_within classes c.args.class (store_of c.args.self.now) (of_some _ _ c.requires) in
    let is = c.index-items-class.is ∙ ap (λ cs. get_or cs c.args.class class) c.items.ensures in
    let here = slice_get_read classes (length classes) c.args.class class refl within is in
    let full = λ (many : MAX_OBJECTS < next inside.heap).
    let past : MAX_OBJECTS < 1 + length inside.heap.bodies =
    subst (λ n. MAX_OBJECTS < n + length inside.heap.bodies) c.self.invariant.1 many in
    subst (λ w. object_made classes c.args.class (store_of w) ≡ Fails ObjectLimit) c.self.view_is
    (made_not classes c.args.class class inside.time inside.heap.bodies (all_meant inside.statics)
    inside.graph inside.words inside.sporks inside.next_shred here past) in
    let room = λ (few : next inside.heap ≤ MAX_OBJECTS).
    let left : 1 + length inside.heap.bodies ≤ MAX_OBJECTS =
    subst (λ n. n + length inside.heap.bodies ≤ MAX_OBJECTS) c.self.invariant.1 few in
    subst (λ w. IsGiven (object_made classes c.args.class (store_of w))) c.self.view_is
    (made_given classes c.args.class class inside.time inside.heap.bodies (all_meant inside.statics)
    inside.graph inside.words inside.sporks inside.next_shred here left) in
    err_both c.add_object.result _ _ _
    (λ e so wants. to_each _ _ (ends_so (MAX_OBJECTS < next inside.heap) (next inside.heap ≤ MAX_OBJECTS)
    (object_made classes c.args.class (store_of c.args.self.now)) e full room so wants))
    c.add_object.ensures.limit c.add_object.ensures.room
