use mir.Syntax.{w64}
use mir.Val.{to_z, of_z}
use Rattle.std.proofs.Common.{◌≡◌, ◌+◌, ◌-◌, ℕ, ℤ, Bool, true, false, ◌∷◌, Some, IsSome, refl, sym, ap, ◌∙◌, subst, arith, rules, slice_get}
use Rattle.std.proofs.lemmas.Int.{to_z-of_z}
use Rattle.std.specs.Bool.{OnFalse}
use Rattle.ck_values.specs.declared.operator.Op2.{Op2 as Operator}
use Rattle.ck_values.specs.declared.value.Value.{Value}
use Rattle.ck_values.specs.declared.value.Value.TheVariants.{Int as AValue}
use Rattle.ck_values.specs.Datum.{AnInt, meant}
use Rattle.ck_store.specs.Operators.{binary}
use Rattle.ck_store.specs.Steps.{is_zero, pick, with_local, int_units}
use Rattle.ck_store.specs.Store.{State, Gives}
use Rattle.ck_code.specs.declared.instr.Instr.TheVariants.{Op2, JumpZero, Return, SetLocal, OpLocal, UnitInt}
use Rattle.ck_code.specs.declared.code.Step.{Step}
use Rattle.ck_code.specs.Machine.{Next, step_at, steps_of, enough}
use Rattle.loop_steps.specs.Ints.{holding, PutsInt, HasUpdated, HasGoneOn, state_with}
use Rattle.loop_steps.specs.Runs.{IsOver, run_of}
use Rattle.shred_state.specs.Frames.{Standing, with_operands, with_locals, at_place}
use Rattle.machine_world.specs.Shown.{shown, frames_of, locals_of}
use Rattle.machine_world.specs.Worlds.{counted}
use Rattle.machine_world.specs.Steps.{IsGood, IsRunnable, effect_in}
use Rattle.loop_steps.proofs.Runs.{good, with_good}
use Rattle.loop_steps.proofs.OnInts.{LeadsTo, one_on, one_lower, counted_on, effect_there, good_there, has_function}
use Rattle.loop_steps.proofs.OnInts.{puts, operates, jumps, returns_to, sets, updates, counts_units, drops}
use Rattle.loop_steps.proofs.OnInts.{can_put, local_fits, sum_fits, units_fit, operands_fit}
use Rattle.loop_steps.proofs.Meant.{set_meant, set_kept, set_there}
use Rattle.machine_world.proofs.Runnable.{runnable_at}
use Rattle.loop_steps.proofs.ints.go_on_with_int.Goals.{After-step_in-at, In-Some, In-Some-operated_at, In-Some-added, In_ok-push-in-Int, After-counted_to-in-Return}
use Rattle.loop_steps.proofs.ints.go_on_with_int.Goals as goal

-- the shred with the int that is held, and the state of its slice
abbrev first_of : After-step_in-at → Standing
first_of c =
    holding c.args.shred.now (to_z w64 (of_z w64 c.args.first)) (c.args.here.now + 1)

abbrev held : After-step_in-at → ℤ
held c = to_z w64 c.line.top-bits

abbrev now_of : After-step_in-at → Standing
now_of c = holding c.line.shred (held c) c.line.here

abbrev state_now : After-step_in-at → State → State
state_now c t = state_with t c.line.shred

-- the instruction that was found is the next one
there : (c : After-step_in-at)
    → step_at c.args.code.now (now_of c).top.fun (now_of c).top.place ≡ Some c.step_in-at.result.now
unfolding shown
there c =
    ap (λ steps. slice_get steps c.line.here) c.line.invariant.steps ∙ c.step_in-at.ensures.at

-- what it leads to
leads : (c : After-step_in-at) (t : State) (new : Standing) → new.number ≡ c.line.shred.number
    → effect_in c.args.code.now c.step_in-at.result.now.instr c.step_in-at.result.now.place (shown (now_of c))
    (state_now c t)
    ≡ Next (frames_of (shown new)) (state_with t new)
    → LeadsTo c.args.code.now (now_of c) (state_now c t) new (state_with t new)
unfolding shown
leads c t new number effect = record {
  number = number;
  next = effect_there c.args.code.now (now_of c) (state_now c t) c.step_in-at.result.now (there c) ∙ effect;
}

-- the line with one instruction more, and with two
abbrev Gone : After-step_in-at → State → (ran line : ℕ) → Standing → State → Type 0
Gone c t ran line new state =
    HasGoneOn c.args.code.now c.args.begun.now (c.args.here.now + 1 - c.args.from.now) (first_of c)
    (state_with t c.args.shred.now) ran line new state

-- where the slice from the first one on is over
abbrev Over : After-step_in-at → State → Type 0
Over c t =
    IsOver (run_of c.args.code.now (first_of c) (state_with t c.args.shred.now))

over_kept : (c : After-step_in-at) (t : State)
    → IsOver (run_of c.args.code.now
    (holding c.args.shred.now c.args.first (c.args.here.now + 1))
    (state_with t c.args.shred.now)) → Over c t
unfolding shown
over_kept c t over =
    subst (λ m. IsOver (run_of c.args.code.now
    (holding c.args.shred.now m (c.args.here.now + 1))
    (state_with t c.args.shred.now)))
    (sym (to_z-of_z w64 c.args.first (search rules))) over

gone_on : (c : After-step_in-at) (t : State) → Over c t → (new : Standing)
    → LeadsTo c.args.code.now (now_of c) (state_now c t) new (state_with t new)
    → Gone c t c.line.begun (c.line.here + 1 - c.line.from) new (state_with t new)
unfolding shown
gone_on c t over new leads =
    one_on c.args.code.now c.parts-parts.ensures.verified _ _ _ _ _ _ _ (now_of c) new (state_now c t) _
    (omega (arith, c.line.invariant.from)) (c.line.invariant.gone t over) leads

-- an int as it is kept
abbrev kept : ℤ → ℤ
kept n = to_z w64 (of_z w64 n)

-- where a jump goes
jumped_on : (c : After-step_in-at) (t : State) (new : Standing) (to : ℕ) (zero : Bool)
    → c.step_in-at.result.now.instr ≡ JumpZero to → is_zero (AnInt (held c)) ≡ Gives zero
    → new ≡ at_place c.line.shred (pick zero to (c.line.here + 1))
    → LeadsTo c.args.code.now (now_of c) (state_now c t) new (state_with t new)
unfolding shown
jumped_on c t new to zero is found goes =
    let code = c.args.code.now in
    let place = c.step_in-at.result.now.place in
    let s = c.line.shred in
    leads c t new (ap (λ (s : Standing). s.number) goes)
    (ap (λ instr. effect_in code instr place (shown (now_of c)) (state_now c t)) is
    ∙ jumps code to place s (state_now c t) (held c) c.line.here zero found
    ∙ ap (λ (s : Standing). Next (frames_of (shown s)) (state_with t s)) (sym goes))

-- where a return goes
returned_on : (c : After-step_in-at) (t : State) (new : Standing) → c.step_in-at.result.now.instr ≡ Return
    → c.line.shred.below ≡ new.top ∷ new.below
    → new ≡ record c.line.shred { top = new.top; below = new.below }
    → LeadsTo c.args.code.now (now_of c) (state_now c t) (holding new (held c) new.top.place)
    (state_with t new)
unfolding shown
returned_on c t new is left kept =
    let code = c.args.code.now in
    let place = c.step_in-at.result.now.place in
    leads c t (holding new (held c) new.top.place) (ap (λ (s : Standing). s.number) kept)
    (ap (λ instr. effect_in code instr place (shown (now_of c)) (state_now c t)) is
    ∙ returns_to code place c.line.shred new (state_now c t) (held c) c.line.here left
    ∙ ap (λ turns. Next (frames_of (shown (holding new (held c) new.top.place))) (record t { turns = turns }))
    (sym (ap (λ (s : Standing). s.turns) kept)))

pub returns-in-JumpZero-clause-gone : goal.returns-in-JumpZero-clause-gone
unfolding shown
returns-in-JumpZero-clause-gone c = λ t over.
    let here = (goal.at.returns-in-JumpZero-clause-gone c).After-step_in-at in
    let s = c.line.shred in
    let goes : c.jump.new.self ≡ at_place s (pick c.is_zero.result c.in-JumpZero.to (c.line.here + 1)) =
    c.jump.ensures ∙ ap (at_place s) c.place_where.ensures in
    subst (λ m. HasGoneOn c.args.code.now c.args.begun.now (c.args.here.now + 1 - c.args.from.now)
    (holding c.args.shred.now m (c.args.here.now + 1))
    (state_with t c.args.shred.now)
    c.counted_to.result (c.place_where.result - c.place_where.result) c.jump.new.self
    (state_with t c.jump.new.self)) (to_z-of_z w64 c.args.first (search rules))
    (counted_on c.args.code.now c.parts-parts.ensures.verified _ _ _ _ _ _ _ _ _ _
    (omega (arith, c.line.invariant.from, c.counted_to.ensures))
    (gone_on here t (over_kept here t over) _ (jumped_on here t _ c.in-JumpZero.to c.is_zero.result c.in-JumpZero.is
    c.is_zero.ensures goes)))

-- the function that runs is still the first one
same_fun : (f g h : ℕ) (moved : Bool) → f ≡ g → OnFalse moved (g ≡ h) → OnFalse moved (f ≡ h)
unfolding shown
same_fun f g h true is before = tt
same_fun f g h false is before = is ∙ before

-- what the operator leaves, once it has taken the operand beneath
operated_on : (c : After-step_in-at) (t : State) (new : Standing) (operator : Operator) (a n m : ℤ)
    → c.step_in-at.result.now.instr ≡ Op2 operator
    → c.line.shred ≡ with_operands new (AValue a ∷ new.top.operands)
    → binary operator (AnInt a) (AnInt (held c)) ≡ Gives (AnInt n) → n ≡ m
    → LeadsTo c.args.code.now (now_of c) (state_now c t) (holding new m (c.line.here + 1))
    (state_with t new)
unfolding shown
operated_on c t new operator a n m is old gives same =
    let code = c.args.code.now in
    let place = c.step_in-at.result.now.place in
    let was = with_operands new (AValue a ∷ new.top.operands) in
    leads c t (holding new m (c.line.here + 1)) (sym (ap (λ (s : Standing). s.number) old))
    (ap (λ instr. effect_in code instr place (shown (now_of c)) (state_now c t)) is
    ∙ ap (λ (s : Standing). effect_in code (Op2 operator) place (shown (holding s (held c) c.line.here))
    (state_with t s)) old
    ∙ operates code operator place new (state_with t was) a (held c) m c.line.here
    (gives ∙ ap (λ n. Gives (AnInt n)) same))

-- the same of the context that has it
taken_on : (c : In-Some) (t : State) → let here = (goal.at.In-Some c).After-step_in-at in
    LeadsTo c.args.code.now (now_of here) (state_now here t)
    (holding c.operated.new.shred (kept c.in-Some.n) (c.line.here + 1))
    (state_with t c.operated.new.shred)
unfolding shown
taken_on c t =
    let taken = c.in-Some.ensures.taken in
    operated_on (goal.at.In-Some c).After-step_in-at t c.operated.new.shred c.in-Op2.operator
    taken.0 _ _ c.in-Op2.is (taken.1) taken.2 (sym (to_z-of_z w64 c.in-Some.n (search rules)))

pub line-smaller-in-Op2-1 : goal.line-smaller-in-Op2-1
unfolding shown
line-smaller-in-Op2-1 c =
    let t = c.line.invariant.over.0 in
    omega (
      arith,
      one_lower c.args.code.now _ _ _ _ (c.line.invariant.gone t c.line.invariant.over.1).over
          (taken_on (goal.at.line-smaller-in-Op2-1 c).In-Some t) c.parts-parts.ensures.verified,
    )

pub line-preserved-in-Op2-1 : goal.line-preserved-in-Op2-1
unfolding shown
line-preserved-in-Op2-1 c =
    let here = (goal.at.line-preserved-in-Op2-1 c).In-Some in
    let before = c.line.invariant in
    let taken = c.in-Some.ensures.taken in
    record {
      steps = ap (λ (s : Standing). steps_of (slice_get c.args.code.now.funs s.top.fun)) (sym (taken.1))
          ∙ before.steps;
      from = omega (arith, before.from);
      over = c.line.invariant.over;
      gone = λ t over. gone_on (goal.at.In-Some here).After-step_in-at t over _ (taken_on here t);
      fun = same_fun _ _ c.args.shred.now.top.fun c.line.moved (ap (λ (s : Standing). s.top.fun) (sym (taken.1)))
          before.fun;
      same = record {
        number = ap (λ (s : Standing). s.number) (sym (taken.1)) ∙ before.same.number;
        parent = ap (λ (s : Standing). s.parent) (sym (taken.1)) ∙ before.same.parent;
        last = ap (λ (s : Standing). s.last) (sym (taken.1)) ∙ before.same.last;
      };
    }

-- the int that is put
put_on : (c : After-step_in-at) (t : State) (n m : ℤ)
    → PutsInt c.step_in-at.result.now.instr (locals_of c.line.shred) n → n ≡ m
    → LeadsTo c.args.code.now (now_of c) (state_now c t) (holding (now_of c) m (c.line.here + 1))
    (state_now c t)
unfolding shown
put_on c t n m is same =
    let at = c.step_in-at.result.now in
    leads c t (holding (now_of c) m (c.line.here + 1)) refl
    (puts c.args.code.now at.instr at.place (now_of c) (state_now c t) m
    (subst (PutsInt at.instr (locals_of c.line.shred)) same is))

-- the instruction behind it
behind_it : (c : After-step_in-at) (at : Step)
    → slice_get c.line.steps.now (c.line.here + 1) ≡ Some at
    → step_at c.args.code.now (now_of c).top.fun (c.line.here + 1) ≡ Some at
unfolding shown
behind_it c at found =
    ap (λ steps. slice_get steps (c.line.here + 1)) c.line.invariant.steps ∙ found

pub operated_at-requires : goal.operated_at-requires
unfolding shown
operated_at-requires c = λ at operator found is.
    let t = c.line.invariant.over.0 in
    let here = (goal.at.operated_at-requires c).After-step_in-at in
    let code = c.args.code.now in
    let next = c.in-Some-int_put.next in
    let same : next ≡ kept next = sym (to_z-of_z w64 next (search rules)) in
    let put = gone_on here t c.line.invariant.over.1 (holding (now_of here) (kept next) (c.line.here + 1))
    (put_on here t next (kept next) c.in-Some-int_put.ensures.puts same) in
    let s = holding (now_of here) (kept next) (c.line.here + 1) in
    operands_fit code operator at.place (now_of here) (state_now here t) (kept next) (c.line.here + 1)
    (subst (λ instr. IsGood (effect_in code instr at.place (shown s) (state_now here t))) is
    (good_there code s (state_now here t) at (behind_it here at found) put.over))

-- the int that is put, and the operator behind it
abbrev both : In-Some-operated_at → After-step_in-at
both c = (goal.at.In-Some-operated_at c).After-step_in-at

abbrev mid_of : In-Some-operated_at → Standing
mid_of c = holding (now_of (both c)) (kept c.in-Some-int_put.next) (c.line.here + 1)

first_on : (c : In-Some-operated_at) (t : State)
    → LeadsTo c.args.code.now (now_of (both c)) (state_now (both c) t) (mid_of c) (state_now (both c) t)
unfolding shown
first_on c t =
    let next = c.in-Some-int_put.next in
    put_on (both c) t next (kept next) c.in-Some-int_put.ensures.puts (sym (to_z-of_z w64 next (search rules)))

second_on : (c : In-Some-operated_at) (t : State)
    → LeadsTo c.args.code.now (mid_of c) (state_now (both c) t)
    (holding c.line.shred (kept c.in-Some-operated_at.n) (c.line.here + 2))
    (state_now (both c) t)
unfolding shown
second_on c t =
    let here = both c in
    let code = c.args.code.now in
    let next = c.in-Some-int_put.next in
    let n = c.in-Some-operated_at.n in
    let done = c.in-Some-operated_at.ensures.gives in
    let behind : c.line.here + 1 + 1 ≡ c.line.here + 2 = omega arith in
    record {
      number = refl;
      next = effect_there code (mid_of c) (state_now here t) done.at (behind_it here done.at done.found)
          ∙ ap (λ instr. effect_in code instr done.at.place (shown (mid_of c)) (state_now here t)) done.is
          ∙ operates code done.operator done.at.place c.line.shred (state_now here t) (held here)
          (kept next) (kept n) (c.line.here + 1)
          (done.gives ∙ ap (λ n. Gives (AnInt n)) (sym (to_z-of_z w64 n (search rules))))
          ∙ ap (λ p. Next (frames_of (shown (holding c.line.shred (kept n) p))) (state_now here t)) behind;
    }

pub line-smaller-in-Some-operated_at : goal.line-smaller-in-Some-operated_at
unfolding shown
line-smaller-in-Some-operated_at c =
    let t = c.line.invariant.over.0 in
    let here = (goal.at.line-smaller-in-Some-operated_at c).In-Some-operated_at in
    let mid = gone_on (both here) t c.line.invariant.over.1 (mid_of here) (first_on here t) in
    omega (
      arith,
      one_lower c.args.code.now _ _ _ _ (c.line.invariant.gone t c.line.invariant.over.1).over (first_on here t)
          c.parts-parts.ensures.verified,
      one_lower c.args.code.now _ _ _ _ mid.over (second_on here t) c.parts-parts.ensures.verified,
    )

pub line-preserved-in-Some-operated_at : goal.line-preserved-in-Some-operated_at
unfolding shown
line-preserved-in-Some-operated_at c =
    let here = (goal.at.line-preserved-in-Some-operated_at c).In-Some-operated_at in
    let before = c.line.invariant in
    record {
      steps = before.steps;
      from = omega (arith, before.from);
      over = c.line.invariant.over;
      gone = λ t over. one_on c.args.code.now c.parts-parts.ensures.verified _ _ _ _ _ _ _ (mid_of here) _
          (state_now (both here) t) _
          (omega (arith, before.from))
          (gone_on (both here) t over (mid_of here) (first_on here t)) (second_on here t);
      fun = before.fun;
      same = before.same;
    }

pub set_local-requires : goal.set_local-requires
unfolding shown
set_local-requires c =
    let t = c.line.invariant.over.0 in
    let here = (goal.at.set_local-requires c).After-step_in-at in
    let code = c.args.code.now in
    let at = c.step_in-at.result.now in
    set_there c.line.shred c.in-SetLocal.i (AnInt (held here))
    (local_fits code c.in-SetLocal.i at.place c.line.shred (state_now here t) (held here) c.line.here
    (subst (λ instr. IsGood (effect_in code instr at.place (shown (now_of here)) (state_now here t))) c.in-SetLocal.is
    (good_there code (now_of here) (state_now here t) at (there here)
    (c.line.invariant.gone t c.line.invariant.over.1).over)))

-- the int that was held is an operand beneath the one that is put
put_over : (c : After-step_in-at) (t : State) (new : Standing) (n m : ℤ)
    → PutsInt c.step_in-at.result.now.instr (locals_of c.line.shred) n → n ≡ m
    → new ≡ with_operands c.line.shred (AValue (held c) ∷ c.line.shred.top.operands)
    → LeadsTo c.args.code.now (now_of c) (state_now c t) (holding new m (c.line.here + 1))
    (state_with t new)
unfolding shown
put_over c t new n m is same over =
    subst (λ (new : Standing). LeadsTo c.args.code.now (now_of c) (state_now c t)
    (holding new m (c.line.here + 1)) (state_with t new)) (sym over) (put_on c t n m is same)

-- the same of the context that has it
over_on : (c : In_ok-push-in-Int) (t : State) → let here = (goal.at.In_ok-push-in-Int c).After-step_in-at in
    LeadsTo c.args.code.now (now_of here) (state_now here t)
    (holding c.push-in_default-operated_at.new.self (kept c.in-Some-int_put.next) (c.line.here + 1))
    (state_with t c.push-in_default-operated_at.new.self)
unfolding shown
over_on c t =
    let next = c.in-Some-int_put.next in
    put_over (goal.at.In_ok-push-in-Int c).After-step_in-at t c.push-in_default-operated_at.new.self next (kept next)
    c.in-Some-int_put.ensures.puts (sym (to_z-of_z w64 next (search rules)))
    ((c.in_ok-push-in-Int.ensures {u = tt}).pushed)

pub line-smaller : goal.line-smaller
unfolding shown
line-smaller c =
    let t = c.line.invariant.over.0 in
    omega (
      arith,
      one_lower c.args.code.now _ _ _ _ (c.line.invariant.gone t c.line.invariant.over.1).over
          (over_on (goal.at.line-smaller c).In_ok-push-in-Int t) c.parts-parts.ensures.verified,
    )

pub line-preserved : goal.line-preserved
unfolding shown
line-preserved c =
    let there = (goal.at.line-preserved c).In_ok-push-in-Int in
    let before = c.line.invariant in
    let pushed = (c.in_ok-push-in-Int.ensures {u = tt}).pushed in
    record {
      steps = ap (λ (s : Standing). steps_of (slice_get c.args.code.now.funs s.top.fun)) pushed
          ∙ before.steps;
      from = omega (arith, before.from);
      over = c.line.invariant.over;
      gone = λ t over. gone_on (goal.at.In_ok-push-in-Int there).After-step_in-at t over _ (over_on there t);
      fun = same_fun _ _ c.args.shred.now.top.fun c.line.moved
          (ap (λ (s : Standing). s.top.fun) pushed) before.fun;
      same = record {
        number = ap (λ (s : Standing). s.number) pushed ∙ before.same.number;
        parent = ap (λ (s : Standing). s.parent) pushed ∙ before.same.parent;
        last = ap (λ (s : Standing). s.last) pushed ∙ before.same.last;
      };
    }

pub operated-requires : goal.operated-requires
unfolding shown
operated-requires c =
    let t = c.line.invariant.over.0 in
    let here = (goal.at.operated-requires c).After-step_in-at in
    let code = c.args.code.now in
    let at = c.step_in-at.result.now in
    operands_fit code c.in-Op2.operator at.place c.line.shred (state_now here t) (held here) c.line.here
    (subst (λ instr. IsGood (effect_in code instr at.place (shown (now_of here)) (state_now here t))) c.in-Op2.is
    (good_there code (now_of here) (state_now here t) at (there here)
    (c.line.invariant.gone t c.line.invariant.over.1).over))

pub int_units-samples-requires-clause-fitting : goal.int_units-samples-requires-clause-fitting
unfolding shown
int_units-samples-requires-clause-fitting c =
    let t = c.line.invariant.over.0 in
    let here = (goal.at.int_units-samples-requires-clause-fitting c).After-step_in-at in
    let code = c.args.code.now in
    let at = c.step_in-at.result.now in
    let n = c.in-UnitInt.numerator in
    let d = c.in-UnitInt.denominator in
    rw (to_z-of_z w64 n (search rules), to_z-of_z w64 d (search rules))
    (units_fit code n d at.place c.line.shred (state_now here t) (held here) c.line.here
    (subst (λ instr. IsGood (effect_in code instr at.place (shown (now_of here)) (state_now here t)))
    c.in-UnitInt.is
    (good_there code (now_of here) (state_now here t) at (there here)
    (c.line.invariant.gone t c.line.invariant.over.1).over)))

pub int_units-samples-requires-clause-divisor : goal.int_units-samples-requires-clause-divisor
unfolding shown
int_units-samples-requires-clause-divisor c =
    let here = (goal.at.int_units-samples-requires-clause-divisor c).After-step_in-at in
    let d = c.in-UnitInt.denominator in
    rw (to_z-of_z w64 d (search rules))
    (subst IsRunnable c.in-UnitInt.is
    (runnable_at c.args.code.now c.line.shred.top.fun c.line.here c.step_in-at.result.now
    c.parts-parts.ensures.verified (there here)))

-- the dur of so many units
units_on : (c : After-step_in-at) (t : State) (new : Standing) (n d : ℤ) (v : Value)
    → c.step_in-at.result.now.instr ≡ UnitInt n d → int_units n d (AnInt (held c)) ≡ Gives (meant v)
    → new ≡ at_place (with_operands c.line.shred (v ∷ c.line.shred.top.operands))
    (c.line.here + 1)
    → LeadsTo c.args.code.now (now_of c) (state_now c t) new (state_with t new)
unfolding shown
units_on c t new n d v is gives made =
    let code = c.args.code.now in
    let place = c.step_in-at.result.now.place in
    leads c t new (ap (λ (s : Standing). s.number) made)
    (ap (λ instr. effect_in code instr place (shown (now_of c)) (state_now c t)) is
    ∙ counts_units code n d place c.line.shred new (state_now c t) (held c) c.line.here v gives made
    ∙ ap (λ turns. Next (frames_of (shown new)) (record t { turns = turns }))
    (sym (ap (λ (s : Standing). s.turns) made)))

pub returns-in-UnitInt-clause-gone : goal.returns-in-UnitInt-clause-gone
unfolding shown
returns-in-UnitInt-clause-gone c = λ t over.
    let here = (goal.at.returns-in-UnitInt-clause-gone c).After-step_in-at in
    let n = c.in-UnitInt.numerator in
    let d = c.in-UnitInt.denominator in
    let v = c.int_units-samples.result in
    let new = c.jump-in-UnitInt.new.self in
    let gives : int_units n d (AnInt (held here)) ≡ Gives (meant v) =
    ap (λ n. int_units n d (AnInt (held here))) (sym (to_z-of_z w64 n (search rules)))
    ∙ ap (λ d. int_units (kept n) d (AnInt (held here))) (sym (to_z-of_z w64 d (search rules)))
    ∙ c.int_units-samples.ensures in
    subst (λ m. HasGoneOn c.args.code.now c.args.begun.now (c.args.here.now + 1 - c.args.from.now)
    (holding c.args.shred.now m (c.args.here.now + 1))
    (state_with t c.args.shred.now)
    c.line.begun (c.line.here + 1 - c.line.from) new
    (state_with t c.jump-in-UnitInt.new.self))
    (to_z-of_z w64 c.args.first (search rules))
    (gone_on here t (over_kept here t over) new (units_on here t new n d v c.in-UnitInt.is gives
    (c.jump-in-UnitInt.ensures
    ∙ ap (λ s. at_place s (c.line.here + 1)) ((c.in_ok-push-in-UnitInt.ensures {u = tt}).pushed))))

-- the local that is set
set_on : (c : After-step_in-at) (t : State) (new : Standing) (i : ℕ)
    → c.step_in-at.result.now.instr ≡ SetLocal i
    → with_local (locals_of c.line.shred) i (AnInt (held c)) ≡ Gives (locals_of new)
    → new ≡ with_locals c.line.shred new.top.locals
    → LeadsTo c.args.code.now (now_of c) (state_now c t) (holding new (held c) (c.line.here + 1))
    (state_with t new)
unfolding shown
set_on c t new i is set kept =
    let code = c.args.code.now in
    let place = c.step_in-at.result.now.place in
    let next = holding new (held c) (c.line.here + 1) in
    leads c t next (ap (λ (s : Standing). s.number) kept)
    (ap (λ instr. effect_in code instr place (shown (now_of c)) (state_now c t)) is
    ∙ sets code i place c.line.shred new (state_now c t) (held c) c.line.here set kept
    ∙ ap (λ turns. Next (frames_of (shown next)) (record t { turns = turns }))
    (sym (ap (λ (s : Standing). s.turns) kept)))

pub line-smaller-in-SetLocal-1 : goal.line-smaller-in-SetLocal-1
unfolding shown
line-smaller-in-SetLocal-1 c =
    let t = c.line.invariant.over.0 in
    let here = (goal.at.line-smaller-in-SetLocal-1 c).After-step_in-at in
    omega (
      arith,
      one_lower c.args.code.now _ _ _ _ (c.line.invariant.gone t c.line.invariant.over.1).over
          (set_on here t c.set_local.new.self c.in-SetLocal.i c.in-SetLocal.is
          (set_meant _ _ c.in-SetLocal.i _ c.set_local.ensures.new _ c.set_local.ensures.old)
          (set_kept _ _ c.in-SetLocal.i _ c.set_local.ensures.new)) c.parts-parts.ensures.verified,
    )

pub line-preserved-in-SetLocal-1 : goal.line-preserved-in-SetLocal-1
unfolding shown
line-preserved-in-SetLocal-1 c =
    let here = (goal.at.line-preserved-in-SetLocal-1 c).After-step_in-at in
    let before = c.line.invariant in
    let kept = set_kept _ _ c.in-SetLocal.i _ c.set_local.ensures.new in
    record {
      steps = ap (λ (s : Standing). steps_of (slice_get c.args.code.now.funs s.top.fun)) kept
          ∙ before.steps;
      from = omega (arith, before.from);
      over = c.line.invariant.over;
      gone = λ t over. gone_on here t over _ (set_on here t c.set_local.new.self c.in-SetLocal.i c.in-SetLocal.is
          (set_meant _ _ c.in-SetLocal.i _ c.set_local.ensures.new _ c.set_local.ensures.old) kept);
      fun = same_fun _ _ c.args.shred.now.top.fun c.line.moved (ap (λ (s : Standing). s.top.fun) kept) before.fun;
      same = record {
        number = ap (λ (s : Standing). s.number) kept ∙ before.same.number;
        parent = ap (λ (s : Standing). s.parent) kept ∙ before.same.parent;
        last = ap (λ (s : Standing). s.last) kept ∙ before.same.last;
      };
    }

-- the local that is updated
updated_on : (c : After-step_in-at) (t : State) (new : Standing) (i : ℕ) (o : Operator) (n m : ℤ)
    → c.step_in-at.result.now.instr ≡ OpLocal i o
    → HasUpdated (locals_of c.line.shred) i o (held c) n (locals_of new)
    → new ≡ with_locals c.line.shred new.top.locals → n ≡ m
    → LeadsTo c.args.code.now (now_of c) (state_now c t) (holding new m (c.line.here + 1))
    (state_with t new)
unfolding shown
updated_on c t new i o n m is has kept same =
    let code = c.args.code.now in
    let place = c.step_in-at.result.now.place in
    let next = holding new m (c.line.here + 1) in
    leads c t next (ap (λ (s : Standing). s.number) kept)
    (ap (λ instr. effect_in code instr place (shown (now_of c)) (state_now c t)) is
    ∙ updates code i o place c.line.shred new (state_now c t) (held c) n c.line.here has kept
    ∙ ap (λ n. Next (frames_of (shown (holding new n (c.line.here + 1)))) (state_now c t)) same
    ∙ ap (λ turns. Next (frames_of (shown next)) (record t { turns = turns }))
    (sym (ap (λ (s : Standing). s.turns) kept)))

pub added-requires : goal.added-requires
unfolding shown
added-requires c =
    let t = c.line.invariant.over.0 in
    let here = (goal.at.added-requires c).After-step_in-at in
    let code = c.args.code.now in
    let at = c.step_in-at.result.now in
    sum_fits code c.in-OpLocal.i c.in-OpLocal.operator at.place c.line.shred (state_now here t)
    (held here) c.line.here
    (subst (λ instr. IsGood (effect_in code instr at.place (shown (now_of here)) (state_now here t))) c.in-OpLocal.is
    (good_there code (now_of here) (state_now here t) at (there here)
    (c.line.invariant.gone t c.line.invariant.over.1).over))

-- the same of the context that has it
sum_on : (c : In-Some-added) (t : State) → let here = (goal.at.In-Some-added c).After-step_in-at in
    LeadsTo c.args.code.now (now_of here) (state_now here t)
    (holding c.added.new.shred (kept c.in-Some-added.n) (c.line.here + 1))
    (state_with t c.added.new.shred)
unfolding shown
sum_on c t =
    let n = c.in-Some-added.n in
    updated_on (goal.at.In-Some-added c).After-step_in-at t c.added.new.shred c.in-OpLocal.i
    c.in-OpLocal.operator n _ c.in-OpLocal.is c.in-Some-added.ensures.sum (c.added.ensures.kept)
    (sym (to_z-of_z w64 n (search rules)))

pub line-smaller-in-OpLocal-1 : goal.line-smaller-in-OpLocal-1
unfolding shown
line-smaller-in-OpLocal-1 c =
    let t = c.line.invariant.over.0 in
    omega (
      arith,
      one_lower c.args.code.now _ _ _ _ (c.line.invariant.gone t c.line.invariant.over.1).over
          (sum_on (goal.at.line-smaller-in-OpLocal-1 c).In-Some-added t) c.parts-parts.ensures.verified,
    )

pub line-preserved-in-OpLocal-1 : goal.line-preserved-in-OpLocal-1
unfolding shown
line-preserved-in-OpLocal-1 c =
    let here = (goal.at.line-preserved-in-OpLocal-1 c).In-Some-added in
    let before = c.line.invariant in
    let kept = c.added.ensures.kept in
    record {
      steps = ap (λ (s : Standing). steps_of (slice_get c.args.code.now.funs s.top.fun)) kept
          ∙ before.steps;
      from = omega (arith, before.from);
      over = c.line.invariant.over;
      gone = λ t over. gone_on (goal.at.In-Some-added here).After-step_in-at t over _ (sum_on here t);
      fun = same_fun _ _ c.args.shred.now.top.fun c.line.moved
          (ap (λ (s : Standing). s.top.fun) kept) before.fun;
      same = record {
        number = ap (λ (s : Standing). s.number) kept ∙ before.same.number;
        parent = ap (λ (s : Standing). s.parent) kept ∙ before.same.parent;
        last = ap (λ (s : Standing). s.last) kept ∙ before.same.last;
      };
    }

-- where a return goes, of the context that has it
return_on : (c : After-counted_to-in-Return) (t : State)
    → let here = (goal.at.After-counted_to-in-Return c).After-step_in-at in
    LeadsTo c.args.code.now (now_of here) (state_now here t)
    (holding c.leave_function.new.shred (held here) c.leave_function.new.shred.top.place)
    (state_with t c.leave_function.new.shred)
unfolding shown
return_on c t =
    returned_on (goal.at.After-counted_to-in-Return c).After-step_in-at t c.leave_function.new.shred
    c.in-Return.is ((c.if-not-leave_function.ensures {u = tt}).left)
    (c.leave_function.ensures.kept)

pub steps_at-steps-requires : goal.steps_at-steps-requires
unfolding shown
steps_at-steps-requires c =
    let t = c.line.invariant.over.0 in
    let there = (goal.at.steps_at-steps-requires c).After-counted_to-in-Return in
    let here = (goal.at.After-counted_to-in-Return there).After-step_in-at in
    let new = c.leave_function.new.shred in
    rw (c.parts-parts.ensures.parts, (c.fun.ensures))
    (has_function c.args.code.now (holding new (held here) new.top.place) _
    (gone_on here t c.line.invariant.over.1 _ (return_on there t)).over)

pub line-smaller-in-Return-1 : goal.line-smaller-in-Return-1
unfolding shown
line-smaller-in-Return-1 c =
    let t = c.line.invariant.over.0 in
    let one = one_lower c.args.code.now _ _ _ _ (c.line.invariant.gone t c.line.invariant.over.1).over
    (return_on (goal.at.line-smaller-in-Return-1 c).After-counted_to-in-Return t) c.parts-parts.ensures.verified in
    rw (c.place.ensures) (omega (arith, one))

pub line-preserved-in-Return-1 : goal.line-preserved-in-Return-1
unfolding shown
line-preserved-in-Return-1 c =
    let there = (goal.at.line-preserved-in-Return-1 c).After-counted_to-in-Return in
    let here = (goal.at.After-counted_to-in-Return there).After-step_in-at in
    let before = c.line.invariant in
    let new = c.leave_function.new.shred in
    let parts = c.parts-parts.result.now in
    let ran = c.counted_to-in-Return.result in
    let kept = c.leave_function.ensures.kept in
    let is : ran ≡ counted c.line.begun (c.line.here + 1 - c.line.from) =
    omega (arith, before.from, c.counted_to-in-Return.ensures) in
    record {
      steps = ap (λ parts. steps_of (slice_get parts.funs new.top.fun)) (sym c.parts-parts.ensures.parts)
          ∙ ap (λ f. steps_of (slice_get parts.funs f)) (sym (c.fun.ensures))
          ∙ c.steps_at-steps.ensures;
      from = omega arith;
      over = c.line.invariant.over;
      gone = λ t over. subst (λ p. Gone here t ran (p - p) (holding new (held here) p) (state_with t new))
          (sym (c.place.ensures))
          (counted_on c.args.code.now c.parts-parts.ensures.verified _ _ _ _ _ _ _ new.top.place _ _ is
          (gone_on here t over _ (return_on there t)));
      fun = tt;
      same = record {
        number = ap (λ (s : Standing). s.number) kept ∙ before.same.number;
        parent = ap (λ (s : Standing). s.parent) kept ∙ before.same.parent;
        last = ap (λ (s : Standing). s.last) kept ∙ before.same.last;
      };
    }

pub returns-in-Drop-clause-gone : goal.returns-in-Drop-clause-gone
unfolding shown
returns-in-Drop-clause-gone c = λ t over.
    let here = (goal.at.returns-in-Drop-clause-gone c).After-step_in-at in
    let code = c.args.code.now in
    let place = c.step_in-at.result.now.place in
    let s = c.line.shred in
    let new = c.jump-in-Drop.new.self in
    subst (λ m. HasGoneOn code c.args.begun.now (c.args.here.now + 1 - c.args.from.now)
    (holding c.args.shred.now m (c.args.here.now + 1))
    (state_with t c.args.shred.now)
    c.line.begun (c.line.here + 1 - c.line.from) new
    (state_with t c.jump-in-Drop.new.self)) (to_z-of_z w64 c.args.first (search rules))
    (gone_on here t (over_kept here t over) new (leads here t new
    (ap (λ (s : Standing). s.number) (c.jump-in-Drop.ensures))
    (ap (λ instr. effect_in code instr place (shown (now_of here)) (state_now here t)) c.in-Drop.is
    ∙ drops code place s (state_now here t) (held here) c.line.here
    ∙ ap (λ (s : Standing). Next (frames_of (shown s)) (state_with t s)) (sym (c.jump-in-Drop.ensures)))))

pub step_in-at-requires : goal.step_in-at-requires
unfolding shown
step_in-at-requires c =
    let code = c.args.code.now in
    let s = holding c.line.shred (to_z w64 c.line.top-bits) c.line.here in
    let t = c.line.invariant.over.0 in
    subst (λ steps. IsSome (slice_get steps c.line.here)) c.line.invariant.steps
    (with_good code s.number (step_at code s.top.fun s.top.place) _
    (good code s.number (enough code) (frames_of (shown s)) _
    (c.line.invariant.gone t c.line.invariant.over.1).over))

pub int_put-requires : goal.int_put-requires
unfolding shown
int_put-requires c =
    let here = (goal.at.int_put-requires c).After-step_in-at in
    let code = c.args.code.now in
    let at = c.step_in-at.result.now in
    let t = c.line.invariant.over.0 in
    can_put code at.instr at.place (now_of here) (state_now here t)
    (good_there code (now_of here) (state_now here t) at (there here)
    (c.line.invariant.gone t c.line.invariant.over.1).over)
