use Rattle.std.proofs.Common.{is_some, refl, sym, subst, ap, ◌∙◌}
use Rattle.ck_run.specs.Family.{IsFamily}
use Rattle.ck_run.specs.Run.{ended}
use Rattle.shreduler.specs.Queue as queue
use Rattle.event_queue.specs.Waiters as waiters
use Rattle.machine_world.specs.Units.{detached}
use Rattle.machine_world.specs.Worlds.{StandsFor}
use Rattle.chuck_vm.specs.declared.machine.Machine.{Machine}
use Rattle.chuck_vm.specs.Machine.{shreds_of, Stands}
use Rattle.chuck_vm.proofs.Ending.{EndsAt, at_first, over_by_none, over_by_itself, on_to_parent, fewer_left}
use Rattle.chuck_vm.proofs.Orders.{none_by, if_none}
use Rattle.chuck_vm.proofs.machine.Machine.end.Goals as goal

pub ending-init : goal.ending-init
ending-init c = record {
  code = refl;
  ran = refl;
  ending = λ next family. at_first c.args.self.now c.args.number next family;
}

pub returns-then-id-number-clause-ended : goal.returns-then-id-number-clause-ended
returns-then-id-number-clause-ended c =
    let next = c.requires.orderly.0 in
    let orderly = c.requires.orderly.1 in
    let old = c.args.self.now in
    let n = c.args.number in
    let family : IsFamily next (shreds_of old.code old.shreds) =
    subst (IsFamily next) (sym orderly.stands.shreds) orderly.so.family in
    let new : Machine = record c.ending.self {
      world = c.detach.new.self;
      shreds = c.take_childless.new.self;
      due = c.remove.new.self;
      waits = c.drop_shred.new.self;
    } in
    over_by_itself old c.ending.self new n next family c.ending.at (c.ending.invariant.ending next family)
    (orderly.run, orderly.stands) c.ending.invariant.code c.in-Some.ended
    (record {
      is_live = sym c.in-Some.ensures.whether;
      ends = c.in-Some.ensures.ends;
      there = c.in-Some.ensures.live;
      childless = c.in-Some.ensures.childless;
      older = c.in-Some.ensures.older;
      code_is = refl;
      shreds_are = c.in-Some.ensures.taken;
      due_is = c.remove.ensures.without ∙ ap (λ n. queue.without n c.ending.self.due) c.id-id.ensures;
      waits_are = c.drop_shred.ensures.without
          ∙ ap (λ n. waiters.without n c.ending.self.waits) c.id-id.ensures;
      world_is = λ store stands.
          subst (λ n. StandsFor c.detach.new.self (detached n store)) c.id-id.ensures
          (c.detach.ensures.store store stands);
    }) (sym c.id-id.ensures ∙ c.if-id-number.true)

pub ending-smaller : goal.ending-smaller
ending-smaller c =
    let next = c.requires.orderly.0 in
    let orderly = c.requires.orderly.1 in
    let old = c.args.self.now in
    let n = c.args.number in
    let family : IsFamily next (shreds_of old.code old.shreds) =
    subst (IsFamily next) (sym orderly.stands.shreds) orderly.so.family in
    let new : Machine = record c.ending.self {
      world = c.detach.new.self;
      shreds = c.take_childless.new.self;
      due = c.remove.new.self;
      waits = c.drop_shred.new.self;
    } in
    fewer_left old c.ending.self new n next family c.ending.at (c.ending.invariant.ending next family)
    (orderly.run, orderly.stands) c.ending.invariant.code c.in-Some.ended
    (record {
      is_live = sym c.in-Some.ensures.whether;
      ends = c.in-Some.ensures.ends;
      there = c.in-Some.ensures.live;
      childless = c.in-Some.ensures.childless;
      older = c.in-Some.ensures.older;
      code_is = refl;
      shreds_are = c.in-Some.ensures.taken;
      due_is = c.remove.ensures.without ∙ ap (λ n. queue.without n c.ending.self.due) c.id-id.ensures;
      waits_are = c.drop_shred.ensures.without
          ∙ ap (λ n. waiters.without n c.ending.self.waits) c.id-id.ensures;
      world_is = λ store stands.
          subst (λ n. StandsFor c.detach.new.self (detached n store)) c.id-id.ensures
          (c.detach.ensures.store store stands);
    })

pub ending-preserved : goal.ending-preserved
ending-preserved c = record {
  code = c.ending.invariant.code;
  ran = c.detach.ensures.ran ∙ c.ending.invariant.ran;
  ending = λ next family.
      let orderly = c.requires.orderly.1 in
      let old = c.args.self.now in
      let n = c.args.number in
      let new : Machine = record c.ending.self {
        world = c.detach.new.self;
        shreds = c.take_childless.new.self;
        due = c.remove.new.self;
        waits = c.drop_shred.new.self;
      } in
      subst (λ at. EndsAt old n next family at new) (sym c.parent-at.ensures)
      (on_to_parent old c.ending.self new n next family c.ending.at (c.ending.invariant.ending next family)
      (orderly.run, orderly.stands) c.ending.invariant.code c.in-Some.ended
      (record {
        is_live = sym c.in-Some.ensures.whether;
        ends = c.in-Some.ensures.ends;
        there = c.in-Some.ensures.live;
        childless = c.in-Some.ensures.childless;
        older = c.in-Some.ensures.older;
        code_is = refl;
        shreds_are = c.in-Some.ensures.taken;
        due_is = c.remove.ensures.without ∙ ap (λ n. queue.without n c.ending.self.due) c.id-id.ensures;
        waits_are = c.drop_shred.ensures.without
            ∙ ap (λ n. waiters.without n c.ending.self.waits) c.id-id.ensures;
        world_is = λ store stands.
            subst (λ n. StandsFor c.detach.new.self (detached n store)) c.id-id.ensures
            (c.detach.ensures.store store stands);
      })
      (λ e. c.if-id-number.false (c.id-id.ensures ∙ e)));
}

pub returns-clause-ended : goal.returns-clause-ended
returns-clause-ended c = λ run stands.
    let next = c.requires.orderly.0 in
    let orderly = c.requires.orderly.1 in
    let old = c.args.self.now in
    let n = c.args.number in
    let family : IsFamily next (shreds_of old.code old.shreds) =
    subst (IsFamily next) (sym orderly.stands.shreds) orderly.so.family in
    let none = none_by c.take_childless.result c.in_default.not-Some in
    subst (λ ss. Stands (record c.ending.self { shreds = ss }) (ended run n))
    (sym (if_none _ c.take_childless.result none c.take_childless.ensures.same))
    (over_by_none old c.ending.self c.ending.self n next family c.ending.at
    (c.ending.invariant.ending next family) (orderly.run, orderly.stands) c.ending.invariant.code
    (sym c.take_childless.ensures.whether ∙ ap is_some none) run stands)
