use mir.Syntax.{w64}
use mir.Val.{to_z, of_z}
use Rattle.std.proofs.Common.{◌≡◌, ◌<◌, ℕ, ℤ, ◌+◌, ◌-◌, Some, refl, sym, slice_get, ap, ◌∙◌, subst, arith, rules}
use Rattle.std.proofs.lemmas.Int.{to_z-of_z}
use Rattle.ck_code.specs.Machine.{Next, next_effect, enough, steps_of, step_at}
use Rattle.ck_code.specs.Potential.{potential}
use Rattle.ck_code.specs.Verified.{IsVerified}
use Rattle.std.specs.Bool.{OnFalse}
use Rattle.machine_world.specs.Shown.{shown, frames_of, locals_of}
use Rattle.machine_world.specs.Steps.{IsGood, IsAhead, Matches, state_of, joined}
use Rattle.machine_world.proofs.Changed.{effect_on}
use Rattle.machine_world.specs.Tries.{HasStore}
use Rattle.machine_world.specs.Worlds.{StandsFor, counted}
use Rattle.loop_steps.specs.Ints.{PutsInt, HasGoneOn, holding}
use Rattle.ck_store.specs.Store.{Store, State}
use Rattle.loop_steps.specs.Runs.{IsOver, run_of}
use Rattle.stack_machine.specs.Slices.{EndsAs}
use Rattle.machine_world.specs.declared.course.Then.{Then}
use Rattle.machine_world.specs.declared.course.Then.TheVariants.{GoesOn, Moves, Stopped}
use Rattle.machine_world.proofs.Runnable.{runnable_at}
use Rattle.loop_steps.proofs.Runs.{good, has_step, has_fun, found_in, next_in, counted_twice}
use Rattle.loop_steps.proofs.OnInts.{can_put, good_there, LeadsTo, one_on, counted_on, alike_on, one_lower, effect_there, puts}
use Rattle.stack_machine.proofs.Gone.{starts, then_on, none_more}
use Rattle.stack_machine.proofs.Stops.{follows_as, stays_as, begun_one, stops}
use Rattle.stack_machine.proofs.slices.run.Goals.{After-step_in-at, In-Some, In_ok-step}
use Rattle.stack_machine.proofs.slices.run.Goals as goal

-- the state of the slice where it stands, over a store
abbrev now_over : After-step_in-at → Store → State
now_over c store = state_of c.run.shred store c.run.acts

-- it stands at the place at which the shred goes on
here : (c : After-step_in-at)
    → step_at c.args.code.now (shown c.run.shred).top.fun (shown c.run.shred).top.place
    ≡ Some c.step_in-at.result.now
unfolding shown
here c =
    found_in c.args.code.now c.run.shred _ _ _ c.run.invariant.steps c.run.invariant.here
    c.step_in-at.ensures.at

-- the instruction that was found is the next one
next : (c : After-step_in-at) (store : Store)
    → next_effect c.args.code.now (shown c.run.shred).number (frames_of (shown c.run.shred))
    (now_over c store)
    ≡ effect_on c.parts-parts.result.now c.step_in-at.result.now c.run.shred store c.run.acts
next c store =
    next_in c.parts-parts.result.now c.args.code.now c.run.shred store c.run.acts _
    c.parts-parts.ensures.parts (here c)

-- what came after it is as its effect says, over a store
followed : (c : In_ok-step) (then : Then) → joined c.in_ok-step.field-0 c.step.new.stop ≡ then
    → (store : Store) → StandsFor c.run.world store
    → HasStore c.step.new.world (λ after. Matches then
    (next_effect c.args.code.now (shown c.run.shred).number (frames_of (shown c.run.shred))
    (state_of c.run.shred store c.run.acts)) c.step_in-at.result.now.place c.step.new.shred after
    c.step.new.acts)
followed c then is store stands =
    let one = c.in_ok-step.ensures.carries.follows store stands in
    record {
      store = one.store;
      stands = one.stands;
      so = follows_as (joined c.in_ok-step.field-0 c.step.new.stop) then _ _ _ c.step.new.shred
          one.store c.step.new.acts is (next (goal.at.In_ok-step c).After-step_in-at store) one.so;
    }

-- so it leads to where the shred stands then
abbrev Leads : In_ok-step → Store → Store → Type 0
Leads c store after =
    LeadsTo c.args.code.now c.run.shred (state_of c.run.shred store c.run.acts)
    c.step.new.shred (state_of c.step.new.shred after c.step.new.acts)

leads_on : (c : In_ok-step) → joined c.in_ok-step.field-0 c.step.new.stop ≡ GoesOn
    → (store : Store) → StandsFor c.run.world store → HasStore c.step.new.world (Leads c store)
leads_on c is store stands =
    let one = followed c GoesOn is store stands in
    record {
      store = one.store;
      stands = one.stands;
      so = record { number = c.in_ok-step.ensures.carries.same.number; next = one.so };
    }

leads_off : (c : In_ok-step) → joined c.in_ok-step.field-0 c.step.new.stop ≡ Moves
    → (store : Store) → StandsFor c.run.world store → HasStore c.step.new.world (Leads c store)
leads_off c is store stands =
    let one = followed c Moves is store stands in
    record {
      store = one.store;
      stands = one.stands;
      so = record { number = c.in_ok-step.ensures.carries.same.number; next = one.so };
    }

-- what all that lead on keep of the slice
module _ (c : In_ok-step)
    (leads : (store : Store) → StandsFor c.run.world store → HasStore c.step.new.world (Leads c store))
  where
    over_then : HasStore c.step.new.world (λ s. IsOver (run_of c.args.code.now c.step.new.shred
        (state_of c.step.new.shred s c.step.new.acts)))
    over_then =
        let before = c.run.invariant.over in
        let one = leads before.store before.stands in
        record {
          store = one.store;
          stands = one.stands;
          so = subst IsOver (sym (alike_on c.args.code.now _ _ _ _ before.so one.so)) before.so;
        }

    gone_then : (store : Store) → StandsFor c.args.world.now store
        → IsOver (run_of c.args.code.now c.args.shred.now
        (state_of c.args.shred.now store c.args.acts.now))
        → HasStore c.step.new.world (λ s. HasGoneOn c.args.code.now 0 0 c.args.shred.now
        (state_of c.args.shred.now store c.args.acts.now) c.run.begun (c.run.here + 1 - c.run.from)
        c.step.new.shred (state_of c.step.new.shred s c.step.new.acts))
    gone_then store stands over =
        let before = c.run.invariant.gone store stands over in
        let one = leads before.store before.stands in
        record {
          store = one.store;
          stands = one.stands;
          so = one_on c.args.code.now c.parts-parts.ensures.verified 0 0 _ _ _ _ _ _ _ _ _
              (omega (arith, c.run.invariant.from)) before.so one.so;
        }

    counted_then : (ran place : ℕ) → ran ≡ counted c.run.begun ((c.run.here - c.run.from) + 1)
        → (store : Store) → StandsFor c.args.world.now store
        → IsOver (run_of c.args.code.now c.args.shred.now
        (state_of c.args.shred.now store c.args.acts.now))
        → HasStore c.step.new.world (λ s. HasGoneOn c.args.code.now 0 0 c.args.shred.now
        (state_of c.args.shred.now store c.args.acts.now) ran (place - place)
        c.step.new.shred (state_of c.step.new.shred s c.step.new.acts))
    counted_then ran place is store stands over =
        let before = gone_then store stands over in
        record {
          store = before.store;
          stands = before.stands;
          so = counted_on c.args.code.now c.parts-parts.ensures.verified 0 0 _ _ _ _ ran place _ _
              (omega (arith, is, c.run.invariant.from)) before.so;
        }

    lower_then : potential c.args.code.now (shown c.step.new.shred).turns
        (frames_of (shown c.step.new.shred))
        < potential c.args.code.now (shown c.run.shred).turns (frames_of (shown c.run.shred))
    lower_then =
        let before = c.run.invariant.over in
        let one = leads before.store before.stands in
        one_lower c.args.code.now _ _ _ _ before.so one.so c.parts-parts.ensures.verified

-- an int is put on the top
abbrev kept : ℤ → ℤ
kept n = to_z w64 (of_z w64 n)

int_on : (c : In-Some) (store : Store) → let state = state_of c.run.shred store c.run.acts in
    LeadsTo c.args.code.now c.run.shred state
    (holding c.run.shred (kept c.in-Some.n) (c.run.here + 1)) state
unfolding shown
int_on c store =
    let code = c.args.code.now in
    let at = c.step_in-at.result.now in
    let s = c.run.shred in
    let n = kept c.in-Some.n in
    let state = state_of c.run.shred store c.run.acts in
    let puts_it : PutsInt at.instr (locals_of s) n =
    subst (PutsInt at.instr (locals_of s)) (sym (to_z-of_z w64 c.in-Some.n (search rules))) c.in-Some.ensures.puts in
    record {
      number = refl;
      next = effect_there code s state at
          (found_in code c.run.shred _ _ _ c.run.invariant.steps c.run.invariant.here c.step_in-at.ensures.at)
          ∙ puts code at.instr at.place s state n puts_it
          ∙ ap (λ p. Next (frames_of (shown (holding s n (p + 1)))) state) (sym c.run.invariant.here);
    }

-- and the slice from there on is over too
int_over : (c : In-Some) (store : Store)
    → IsOver (run_of c.args.code.now c.run.shred (state_of c.run.shred store c.run.acts))
    → IsOver (run_of c.args.code.now
    (holding c.run.shred (kept c.in-Some.n) (c.run.here + 1))
    (state_of c.run.shred store c.run.acts))
int_over c store over =
    subst IsOver (sym (alike_on c.args.code.now _ _ _ _ over (int_on c store))) over

pub run-init : goal.run-init
unfolding shown
run-init c = record {
  steps = ap (λ parts. steps_of (slice_get parts.funs (shown c.args.shred.now).top.fun))
      (sym c.parts-parts.ensures.parts)
      ∙ ap (λ f. steps_of (slice_get c.parts-parts.result.now.funs f)) (sym c.fun.ensures)
      ∙ c.steps_at-steps.ensures;
  here = c.place-here.ensures;
  from = omega arith;
  same = record { number = refl; parent = refl; last = refl };
  ran = refl;
  over = c.requires.over;
  gone = λ store stands over. record {
    store = store;
    stands = stands;
    so = starts c.args.code.now c.args.shred.now _ c.place-here.result over;
  };
}

pub int_put-requires : goal.int_put-requires
int_put-requires c =
    let there = (goal.at.int_put-requires c).After-step_in-at in
    let at = c.step_in-at.result.now in
    let over = c.run.invariant.over in
    can_put c.args.code.now at.instr at.place c.run.shred _
    (good_there c.args.code.now c.run.shred _ at (here there) over.so)

pub go_on_with_int-requires-clause-over : goal.go_on_with_int-requires-clause-over
unfolding shown
go_on_with_int-requires-clause-over c =
    let over = c.run.invariant.over in (
      state_of c.run.shred over.store c.run.acts,
      int_over (goal.at.go_on_with_int-requires-clause-over c).In-Some over.store over.so,
    )

pub steps_at-steps-requires-then-branch : goal.steps_at-steps-requires-then-branch
unfolding shown
steps_at-steps-requires-then-branch c =
    let over = c.run.invariant.over in
    rw (c.parts-parts.ensures.parts, c.fun-then-branch.ensures)
    (has_fun c.args.code.now c.go_on_with_int.new.shred _
    (c.in_ok-go_on_with_int.ensures.gone (state_of c.run.shred over.store c.run.acts)
    (int_over (goal.at.steps_at-steps-requires-then-branch c).In-Some over.store over.so)).over)

pub run-smaller-then-branch : goal.run-smaller-then-branch
unfolding shown
run-smaller-then-branch c =
    let over = c.run.invariant.over in
    let int = (goal.at.run-smaller-then-branch c).In-Some in
    let one = one_lower c.args.code.now _ _ _ _ over.so (int_on int over.store)
    c.parts-parts.ensures.verified in
    omega (
      arith,
      one,
      (c.in_ok-go_on_with_int.ensures.gone
          (state_of c.run.shred over.store c.run.acts) (int_over int over.store over.so)).lower,
    )

pub run-preserved-then-branch : goal.run-preserved-then-branch
unfolding shown
run-preserved-then-branch c =
    let int = (goal.at.run-preserved-then-branch c).In-Some in
    let then = c.in_ok-go_on_with_int.ensures in
    let before = c.run.invariant in
    let fun = (shown c.go_on_with_int.new.shred).top.fun in
    let parts = c.parts-parts.result.now in
    record {
      steps = ap (λ parts. steps_of (slice_get parts.funs fun)) (sym c.parts-parts.ensures.parts)
          ∙ ap (λ f. steps_of (slice_get parts.funs f)) (sym c.fun-then-branch.ensures)
          ∙ c.steps_at-steps-then-branch.ensures;
      here = then.here;
      from = then.from;
      same = record {
        number = then.same.number ∙ before.same.number;
        parent = then.same.parent ∙ before.same.parent;
        last = then.same.last ∙ before.same.last;
      };
      ran = before.ran;
      over = record {
        store = before.over.store;
        stands = before.over.stands;
        so = (then.gone (state_of c.run.shred before.over.store c.run.acts)
            (int_over int before.over.store before.over.so)).over;
      };
      gone = λ store stands over.
          let there = before.gone store stands over in
          record {
            store = there.store;
            stands = there.stands;
            so = then_on c.args.code.now _ _ _ _ _ _ _ _ _ _ _ _
                (one_on c.args.code.now c.parts-parts.ensures.verified 0 0 _ _ _ _ _ _ _ _ _
                (omega (arith, before.from)) there.so (int_on int there.store))
                (then.gone (state_of c.run.shred there.store c.run.acts)
                (int_over int there.store there.so.over));
          };
    }

pub run-smaller-else-branch : goal.run-smaller-else-branch
unfolding shown
run-smaller-else-branch c =
    let over = c.run.invariant.over in
    let int = (goal.at.run-smaller-else-branch c).In-Some in
    let one = one_lower c.args.code.now _ _ _ _ over.so (int_on int over.store)
    c.parts-parts.ensures.verified in
    omega (
      arith,
      one,
      (c.in_ok-go_on_with_int.ensures.gone
          (state_of c.run.shred over.store c.run.acts) (int_over int over.store over.so)).lower,
    )

pub run-preserved-else-branch : goal.run-preserved-else-branch
unfolding shown
run-preserved-else-branch c =
    let int = (goal.at.run-preserved-else-branch c).In-Some in
    let then = c.in_ok-go_on_with_int.ensures in
    let before = c.run.invariant in
    let fun : (shown c.go_on_with_int.new.shred).top.fun ≡ (shown c.run.shred).top.fun =
    subst (λ moved. OnFalse moved ((shown c.go_on_with_int.new.shred).top.fun ≡ (shown c.run.shred).top.fun))
    c.if-branch.false then.fun in
    record {
      steps = ap (λ f. steps_of (slice_get c.args.code.now.funs f)) fun ∙ before.steps;
      here = then.here;
      from = then.from;
      same = record {
        number = then.same.number ∙ before.same.number;
        parent = then.same.parent ∙ before.same.parent;
        last = then.same.last ∙ before.same.last;
      };
      ran = before.ran;
      over = record {
        store = before.over.store;
        stands = before.over.stands;
        so = (then.gone (state_of c.run.shred before.over.store c.run.acts)
            (int_over int before.over.store before.over.so)).over;
      };
      gone = λ store stands over.
          let there = before.gone store stands over in
          record {
            store = there.store;
            stands = there.stands;
            so = then_on c.args.code.now _ _ _ _ _ _ _ _ _ _ _ _
                (one_on c.args.code.now c.parts-parts.ensures.verified 0 0 _ _ _ _ _ _ _ _ _
                (omega (arith, before.from)) there.so (int_on int there.store))
                (then.gone (state_of c.run.shred there.store c.run.acts)
                (int_over int there.store there.so.over));
          };
    }

pub steps_at-steps-requires : goal.steps_at-steps-requires
unfolding shown
steps_at-steps-requires c =
    rw (c.parts-parts.ensures.parts, c.fun.ensures)
    (has_fun c.args.code.now c.args.shred.now _ c.requires.over.so)

pub step_in-at-requires : goal.step_in-at-requires
unfolding shown
step_in-at-requires c =
    let code = c.args.code.now in
    rw (← c.run.invariant.steps, c.run.invariant.here)
    (has_step code (shown c.run.shred).number (enough code) c.run.shred _ c.run.invariant.over.so)

pub step-requires-clause-can : goal.step-requires-clause-can
unfolding shown
step-requires-clause-can c =
    let there = (goal.at.step-requires-clause-can c).After-step_in-at in
    let code = c.args.code.now in
    let shred = c.run.shred in
    let over = c.run.invariant.over in
    let parts = c.parts-parts.ensures.parts in
    record {
      store = over.store;
      stands = over.stands;
      good = subst IsGood (next there over.store)
          (good code (shown shred).number (enough code) _ _ over.so);
      runs = runnable_at c.parts-parts.result.now (shown shred).top.fun (shown shred).top.place _
          (subst IsVerified (sym parts) c.parts-parts.ensures.verified)
          (ap (λ code. step_at code (shown shred).top.fun (shown shred).top.place) parts
          ∙ here there);
      room = omega (arith, c.run.invariant.here, c.step_in-at.ensures.within);
    }

pub step-requires-clause-here : goal.step-requires-clause-here
unfolding shown
step-requires-clause-here c = c.run.invariant.here

pub steps_at-steps-requires-in-Elsewhere : goal.steps_at-steps-requires-in-Elsewhere
unfolding shown
steps_at-steps-requires-in-Elsewhere c =
    let there = (goal.at.steps_at-steps-requires-in-Elsewhere c).In_ok-step in
    rw (c.parts-parts.ensures.parts, c.fun-in-Elsewhere.ensures)
    (has_fun c.args.code.now c.step.new.shred _ (over_then there (leads_off there
    (ap (λ course. joined course c.step.new.stop) c.in-Elsewhere.is))).so)

pub run-smaller-in-Ahead : goal.run-smaller-in-Ahead
unfolding shown
run-smaller-in-Ahead c =
    let there = (goal.at.run-smaller-in-Ahead c).In_ok-step in
    lower_then there (leads_on there (ap (λ course. joined course c.step.new.stop) c.in-Ahead.is))

pub run-preserved-in-Ahead : goal.run-preserved-in-Ahead
unfolding shown
run-preserved-in-Ahead c =
    let there = (goal.at.run-preserved-in-Ahead c).In_ok-step in
    let leads = leads_on there (ap (λ course. joined course c.step.new.stop) c.in-Ahead.is) in
    let before = c.run.invariant in
    let same = c.in_ok-step.ensures.carries.same in
    let stays = stays_as _ GoesOn _ _ (ap (λ course. joined course c.step.new.stop) c.in-Ahead.is)
    c.in_ok-step.ensures.carries.stays in
    record {
      steps = ap (λ f. steps_of (slice_get c.args.code.now.funs f)) stays ∙ before.steps;
      here = ap (λ n. n + 1) before.here ∙ sym (subst (λ course. IsAhead course c.run.shred
          c.step.new.shred)
          c.in-Ahead.is c.in_ok-step.ensures.ahead);
      from = omega (arith, before.from);
      same = record {
        number = same.number ∙ before.same.number;
        parent = same.parent ∙ before.same.parent;
        last = same.last ∙ before.same.last;
      };
      ran = c.in_ok-step.ensures.carries.ran ∙ before.ran;
      over = over_then there leads;
      gone = gone_then there leads;
    }

pub run-smaller-in-Apart : goal.run-smaller-in-Apart
unfolding shown
run-smaller-in-Apart c =
    let there = (goal.at.run-smaller-in-Apart c).In_ok-step in
    lower_then there (leads_on there (ap (λ course. joined course c.step.new.stop) c.in-Apart.is))

pub run-preserved-in-Apart : goal.run-preserved-in-Apart
unfolding shown
run-preserved-in-Apart c =
    let there = (goal.at.run-preserved-in-Apart c).In_ok-step in
    let leads = leads_on there (ap (λ course. joined course c.step.new.stop) c.in-Apart.is) in
    let before = c.run.invariant in
    let same = c.in_ok-step.ensures.carries.same in
    let stays = stays_as _ GoesOn _ _ (ap (λ course. joined course c.step.new.stop) c.in-Apart.is)
    c.in_ok-step.ensures.carries.stays in
    record {
      steps = ap (λ f. steps_of (slice_get c.args.code.now.funs f)) stays ∙ before.steps;
      here = c.place-here-in-Apart.ensures;
      from = omega arith;
      same = record {
        number = same.number ∙ before.same.number;
        parent = same.parent ∙ before.same.parent;
        last = same.last ∙ before.same.last;
      };
      ran = c.in_ok-step.ensures.carries.ran ∙ before.ran;
      over = over_then there leads;
      gone = counted_then there leads _ c.place-here-in-Apart.result c.counted_to-begun.ensures;
    }

pub run-smaller : goal.run-smaller
unfolding shown
run-smaller c =
    let there = (goal.at.run-smaller c).In_ok-step in
    lower_then there (leads_off there (ap (λ course. joined course c.step.new.stop) c.in-Elsewhere.is))

pub run-preserved : goal.run-preserved
unfolding shown
run-preserved c =
    let there = (goal.at.run-preserved c).In_ok-step in
    let leads = leads_off there (ap (λ course. joined course c.step.new.stop) c.in-Elsewhere.is) in
    let before = c.run.invariant in
    let same = c.in_ok-step.ensures.carries.same in
    let fun = (shown c.step.new.shred).top.fun in
    let parts = c.parts-parts.result.now in
    record {
      steps = ap (λ parts. steps_of (slice_get parts.funs fun)) (sym c.parts-parts.ensures.parts)
          ∙ ap (λ f. steps_of (slice_get parts.funs f)) (sym c.fun-in-Elsewhere.ensures)
          ∙ c.steps_at-steps-in-Elsewhere.ensures;
      here = c.place-here-in-Elsewhere.ensures;
      from = omega arith;
      same = record {
        number = same.number ∙ before.same.number;
        parent = same.parent ∙ before.same.parent;
        last = same.last ∙ before.same.last;
      };
      ran = c.in_ok-step.ensures.carries.ran ∙ before.ran;
      over = over_then there leads;
      gone = counted_then there leads _ c.place-here-in-Elsewhere.result
          c.counted_to-begun-in-Elsewhere.ensures;
    }

pub returns-in-Over-clause-ends : goal.returns-in-Over-clause-ends
unfolding shown
returns-in-Over-clause-ends c = λ store stands over.
    let code = c.args.code.now in
    let stop = c.step.new.stop in
    let there = (goal.at.returns-in-Over-clause-ends c).In_ok-step in
    let behind =
    stays_as _ (Stopped stop) _ _ (ap (λ course. joined course stop) c.in-Over.is) c.in_ok-step.ensures.carries.stays in
    let before = c.run.invariant.gone store stands over in
    let one = followed there (Stopped stop) (ap (λ course. joined course stop) c.in-Over.is)
    before.store before.stands in
    record {
      store = one.store;
      stands = c.count.ensures.store one.store one.stands;
      so = subst (λ h. EndsAs stop h code c.step.new.shred
          (state_of c.step.new.shred one.store c.step.new.acts)) before.so.alike
          (stops code (shown c.run.shred).number c.run.shred c.step.new.shred one.store
          c.step.new.acts _ (here (goal.at.In_ok-step there).After-step_in-at) stop (enough code) _ _
          before.so.over behind one.so);
    }

pub returns-in-Over-clause-ran : goal.returns-in-Over-clause-ran
unfolding shown
returns-in-Over-clause-ran c = λ store stands over.
    let code = c.args.code.now in
    let stop = c.step.new.stop in
    let there = (goal.at.returns-in-Over-clause-ran c).In_ok-step in
    let before = c.run.invariant.gone store stands over in
    let last = followed there (Stopped stop) (ap (λ course. joined course stop) c.in-Over.is)
    before.store before.stands in
    let one = begun_one code (shown c.run.shred).number stop (enough code) _ _ _ c.step.new.shred
    last.store c.step.new.acts before.so.over last.so in
    let all = c.counted_to.ensures
    ∙ ap (λ more. counted c.run.begun ((c.run.here - c.run.from) + more)) (sym one)
    ∙ before.so.counts in
    let ran = c.in_ok-step.ensures.carries.ran ∙ c.run.invariant.ran in
    ap (λ w. w.ran) c.count.ensures.ran
    ∙ ap (λ ran. counted ran c.counted_to.result) ran
    ∙ ap (counted c.args.world.now.ran) all ∙ counted_twice c.args.world.now.ran _
    ∙ ap (counted c.args.world.now.ran) (none_more _)
