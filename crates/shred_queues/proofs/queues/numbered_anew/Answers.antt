use Rattle.std.proofs.Common.{◌≡◌, ◌++◌, rules, arith, length, ap, sym, subst, ◌∙◌}
use Rattle.shred_queues.specs.Places.{AreApart}
use Rattle.shred_queues.specs.Queues.{keyed, AreBefore, IsRising}
use Rattle.shred_queues.proofs.Tickets.{rising, arrived_last, nowhere_before, times_keyed, apart_keyed, joined, none_left}
use Rattle.shred_queues.proofs.queues.numbered_anew.Goals as goal

pub loop-place-init : goal.loop-place-init
loop-place-init g c =
    let items = c.into_iter-place-iterator.ensures.into_iter_gives.0 in
    record {
      same =
          ap (λ done. keyed done ++ keyed c.into_iter-place-iterator.result.rest.items) c.new-anew.ensures
          ∙ ap keyed (items ∙ c.in_ok-items.ensures.all);
      before = subst (AreBefore 0) (sym c.new-anew.ensures) tt;
      few = omega (arith, ap length items, c.in_ok-items.items.small);
    }

pub add-requires-clause-before : goal.add-requires-clause-before
add-requires-clause-before g c = c.loop-place.invariant.before

pub add-requires-clause-nowhere : goal.add-requires-clause-nowhere
add-requires-clause-nowhere g c =
    let n = c.in-Some.shred in
    let done = keyed c.loop-place.anew in
    times_keyed n c.loop-place.anew
    ∙ nowhere_before n c.in-Some.place.key done (keyed c.next.new.self.rest.items)
    (subst AreApart
    (sym c.loop-place.invariant.same ∙ ap (λ rest. done ++ keyed rest) c.in-Some.ensures.steps.0)
    (apart_keyed c.args.places.now c.all.ensures.orderly.apart))

pub overflow_add-next : goal.overflow_add-next
overflow_add-next g c =
    omega (arith, c.loop-place.invariant.few, ap length c.in-Some.ensures.steps.0)

pub loop-place-preserved : goal.loop-place-preserved
loop-place-preserved g c =
    let cmp = g.K.Ord.cmp in
    let key = c.in-Some.place.key in
    let n = c.in-Some.shred in
    let done = keyed c.loop-place.anew in
    let rest = keyed c.next.new.self.rest.items in
    let all = sym c.loop-place.invariant.same ∙ ap (λ rest. done ++ keyed rest) c.in-Some.ensures.steps.0 in
    record {
      same =
          ap (λ front. front ++ rest)
          (c.in_ok-add.ensures.arrived ∙ arrived_last cmp g.met.K.Ord.total done rest key n
          (subst (IsRising cmp) all (rising cmp c.args.places.now c.all.ensures.orderly.ordered)))
          ∙ sym (joined done rest (key, n)) ∙ sym all;
      before = c.in_ok-add.ensures.before;
      few = omega (arith, c.loop-place.invariant.few, ap length c.in-Some.ensures.steps.0);
    }

pub returns-clause-same : goal.returns-clause-same
returns-clause-same g c =
    let none : length c.loop-place.place-iterator.rest.items ≡ 0 = search rules in
    none_left (keyed c.loop-place.anew) c.loop-place.place-iterator.rest.items none ∙ c.loop-place.invariant.same

pub returns-clause-before : goal.returns-clause-before
returns-clause-before g c = c.loop-place.invariant.before

pub returns-clause-free : goal.returns-clause-free
returns-clause-free g c = omega (arith, c.loop-place.invariant.few)
