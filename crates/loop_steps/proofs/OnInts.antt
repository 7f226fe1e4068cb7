-- Lines of instructions on ints, with the int on the top held apart.
use Rattle.std.proofs.Common.{◌≡◌, ◌+◌, ◌-◌, ◌<◌, ℕ, ℤ, suc, Bool, List, ◌∷◌, map, Some, IsSome, refl, sym, ap, ◌∙◌, subst, arith, slice_get}
use Rattle.ck_values.specs.declared.operator.Op2.{Op2 as Operator}
use Rattle.ck_values.specs.declared.trap.Place.{Place}
use Rattle.ck_values.specs.declared.value.Value.{Value}
use Rattle.ck_values.specs.declared.value.Value.TheVariants.{Int as AValue}
use Rattle.ck_values.specs.Datum.{Datum, AnInt, meant}
use Rattle.ck_store.specs.Operators.{binary}
use Rattle.ck_store.specs.Steps.{local_of, with_local, pick, is_zero, int_units}
use Rattle.ck_store.specs.Store.{State, Gives, IsFitting}
use Rattle.ck_code.specs.declared.code.CodeParts.{CodeParts}
use Rattle.ck_code.specs.declared.code.Step.{Step}
use Rattle.ck_code.specs.declared.instr.Instr.{Instr}
use Rattle.ck_code.specs.declared.instr.Instr.TheVariants.{Int, Local, SetLocal, OpLocal, UnitInt, Drop, Op2 as OnTwo, JumpZero, Return}
use Rattle.ck_code.specs.Machine.{Effect, Next, tried, pushes, goes_to, returned, exec, begun, enough}
use Rattle.ck_code.specs.Machine.{step_at, with_step, next_effect}
use Rattle.ck_code.specs.Potential.{potential}
use Rattle.ck_code.specs.Verified.{IsVerified}
use Rattle.ck_code.proofs.Ends.{leads_lower}
use Rattle.shred_state.specs.Frames.{Frame as Held, Standing, with_operands, with_locals, at_place}
use Rattle.machine_world.specs.Shown.{shown, shown_frame, frames_of, locals_of, operands_of}
use Rattle.machine_world.specs.Steps.{IsGood, effect_in, of_two, updated}
use Rattle.loop_steps.specs.Ints.{CanPut, PutsInt, HasUpdated, holding, HasGoneOn}
use Rattle.loop_steps.specs.Runs.{IsOver, run_of, begun_by}
use Rattle.machine_world.specs.Worlds.{counted}
use Rattle.loop_steps.proofs.Runs.{good, with_good, some_fun, same_on, begun_on, two_fit}
use Rattle.machine_world.proofs.Sends.{good_fits}
use Rattle.machine_world.proofs.Updates.{local_updates}

-- one instruction leads from there to here
pub record LeadsTo (code : CodeParts) (s : Standing) (t : State) (s1 : Standing) (t1 : State)
    : Type 0 where
  pub number : (shown s1).number ≡ (shown s).number
  pub next : next_effect code (shown s).number (frames_of (shown s)) t
      ≡ Next (frames_of (shown s1)) t1

-- one more in the line, and a line that is counted
one_counted : (ran k m old new : ℕ) → m ≡ k + 1 → old ≡ suc new
    → counted ran (m + new) ≡ counted ran (k + old)
one_counted ran k m old new is one = omega (arith, is, one)

line_counted : (ran k ran1 place new : ℕ) → ran1 ≡ counted ran k
    → counted ran1 ((place - place) + new) ≡ counted ran (k + new)
line_counted ran k ran1 place new is = omega (arith, is)

-- the slice from there on
module _ (code : CodeParts) (s s1 : Standing) (t t1 : State) (over : IsOver (run_of code s t))
    (leads : LeadsTo code s t s1 t1) where
  pub alike_on : run_of code s1 t1 ≡ run_of code s t
  alike_on =
      let frames = frames_of (shown s1) in
      ap (λ n. exec code n (enough code) frames t1) leads.number
      ∙ same_on code (shown s).number (enough code) (frames_of (shown s)) frames t t1 leads.next over

  pub one_fewer : begun_by code s t ≡ suc (begun_by code s1 t1)
  one_fewer =
      let frames = frames_of (shown s1) in
      begun_on code (shown s).number (enough code) (frames_of (shown s)) frames t t1 leads.next over
      ∙ ap (λ n. suc (begun code n (enough code) frames t1)) (sym leads.number)

  pub one_lower : IsVerified code
      → potential code t1.turns (frames_of (shown s1)) < potential code t.turns (frames_of (shown s))
  one_lower verified =
      leads_lower code verified (shown s).number (frames_of (shown s)) (frames_of (shown s1)) t t1
      leads.next

-- a line that has gone on
module _ (code : CodeParts) (verified : IsVerified code) (ran line : ℕ) (first : Standing) (t0 : State)
  where
    -- by an instruction more
    pub one_on : (r k m : ℕ) (s s1 : Standing) (t t1 : State) → m ≡ k + 1
        → HasGoneOn code ran line first t0 r k s t → LeadsTo code s t s1 t1
        → HasGoneOn code ran line first t0 r m s1 t1
    one_on r k m s s1 t t1 is gone leads =
        let alike = alike_on code s s1 t t1 gone.over leads in
        let one = one_fewer code s s1 t t1 gone.over leads in
        record {
          over = subst IsOver (sym alike) gone.over;
          alike = alike ∙ gone.alike;
          counts = one_counted r k m _ _ is one ∙ gone.counts;
          lower = omega (arith, gone.lower, one_lower code s s1 t t1 gone.over leads verified);
        }

    -- where it was counted another one begins at a place
    pub counted_on : (r k r1 place : ℕ) (s : Standing) (t : State) → r1 ≡ counted r k
        → HasGoneOn code ran line first t0 r k s t
        → HasGoneOn code ran line first t0 r1 (place - place) s t
    counted_on r k r1 place s t is gone = record {
      over = gone.over;
      alike = gone.alike;
      counts = line_counted r k r1 place _ is ∙ gone.counts;
      lower = gone.lower;
    }

module _ (code : CodeParts) where
  -- what the instruction at the place does
  pub effect_there : (s : Standing) (t : State) (at : Step)
      → step_at code (shown s).top.fun (shown s).top.place ≡ Some at
      → next_effect code (shown s).number (frames_of (shown s)) t
      ≡ effect_in code at.instr at.place (shown s) t
  effect_there s t at is =
      ap (λ o. with_step o (λ step. effect_in code step.instr step.place (shown s) t)) is

  -- it finds operands that it can take
  pub good_there : (s : Standing) (t : State) (at : Step)
      → step_at code (shown s).top.fun (shown s).top.place ≡ Some at → IsOver (run_of code s t)
      → IsGood (effect_in code at.instr at.place (shown s) t)
  good_there s t at is over =
      subst IsGood (effect_there s t at is)
      (good code (shown s).number (enough code) (frames_of (shown s)) t over)

  pub can_put : (instr : Instr) (place : Place) (s : Standing) (t : State)
      → IsGood (effect_in code instr place (shown s) t) → CanPut instr (locals_of s)
  can_put (Local i) place s t good = good_fits (local_of (locals_of s) i) place t _ good
  can_put _ place s t good = tt

  pub puts : (instr : Instr) (place : Place) (s : Standing) (t : State) (n : ℤ)
      → PutsInt instr (locals_of s) n
      → effect_in code instr place (shown s) t
      ≡ Next (frames_of (shown (holding s n (s.top.place + 1)))) t
  unfolding shown
  puts (Int m) place s t n is =
      ap (λ n. Next (frames_of (shown (holding s n (s.top.place + 1)))) t) is
  puts (Local i) place s t n is =
      let top = (shown s).top in
      ap (λ found. tried found place t (λ v.
      pushes v top.fun top.place top.locals top.operands (shown s).below t)) is
  puts _ place s t n is = absurd is

  pub operates : (o : Operator) (place : Place) (s : Standing) (t : State) (a b n : ℤ) (p : ℕ)
      → binary o (AnInt a) (AnInt b) ≡ Gives (AnInt n)
      → effect_in code (OnTwo o) place
      (shown (holding (with_operands s (AValue a ∷ s.top.operands)) b p)) t
      ≡ Next (frames_of (shown (holding s n (p + 1)))) t
  unfolding shown
  operates o place s t a b n p is =
      let top = (shown s).top in
      ap (λ found. tried found place t (λ v.
      pushes v top.fun p top.locals top.operands (shown s).below t)) is

  pub jumps : (to : ℕ) (place : Place) (s : Standing) (t : State) (n : ℤ) (p : ℕ) (zero : Bool)
      → is_zero (AnInt n) ≡ Gives zero
      → effect_in code (JumpZero to) place (shown (holding s n p)) t
      ≡ Next (frames_of (shown (at_place s (pick zero to (p + 1))))) t
  unfolding shown
  jumps to place s t n p zero is =
      let top = (shown s).top in
      ap (λ found. tried found place t (λ is.
      goes_to (pick is to (p + 1)) top.fun p top.locals top.operands (shown s).below t)) is

  -- the operand beneath is there too
  pub operands_fit : (o : Operator) (place : Place) (s : Standing) (t : State) (n : ℤ) (p : ℕ)
      → IsGood (effect_in code (OnTwo o) place (shown (holding s n p)) t)
      → IsFitting (of_two (AnInt n ∷ operands_of s) (binary o))
  unfolding shown
  operands_fit o place s t n p good = two_fit o place (AnInt n) (operands_of s) _ _ _ _ _ good

  -- the function beneath goes on with what is returned
  pub returns_to : (place : Place) (s s1 : Standing) (t : State) (n : ℤ) (p : ℕ)
      → s.below ≡ s1.top ∷ s1.below
      → effect_in code Return place (shown (holding s n p)) t
      ≡ Next (frames_of (shown (holding s1 n s1.top.place))) t
  unfolding shown
  returns_to place s s1 t n p is =
      ap (λ (rest : List Held). returned (AnInt n) (map shown_frame rest) t) is

  -- the function that runs is there
  pub has_function : (s : Standing) (t : State) → IsOver (run_of code s t)
      → IsSome (slice_get code.funs (shown s).top.fun)
  has_function s t over =
      let top = (shown s).top in
      some_fun (slice_get code.funs top.fun) top.place
      (with_good code (shown s).number (step_at code top.fun top.place) _
      (good code (shown s).number (enough code) (frames_of (shown s)) t over))

  -- a local that is set to the int
  pub local_fits : (i : ℕ) (place : Place) (s : Standing) (t : State) (n : ℤ) (p : ℕ)
      → IsGood (effect_in code (SetLocal i) place (shown (holding s n p)) t)
      → IsFitting (with_local (locals_of s) i (AnInt n))
  unfolding shown
  local_fits i place s t n p good = good_fits (with_local (locals_of s) i (AnInt n)) place t _ good

  pub sets : (i : ℕ) (place : Place) (s s1 : Standing) (t : State) (n : ℤ) (p : ℕ)
      → with_local (locals_of s) i (AnInt n) ≡ Gives (locals_of s1)
      → s1 ≡ with_locals s s1.top.locals
      → effect_in code (SetLocal i) place (shown (holding s n p)) t
      ≡ Next (frames_of (shown (holding s1 n (p + 1)))) t
  unfolding shown
  sets i place s s1 t n p is kept =
      let top = (shown s).top in
      ap (λ found. tried found place t (λ locals.
      pushes (AnInt n) top.fun p locals top.operands (shown s).below t)) is
      ∙ ap (λ (s : Standing). Next (frames_of (shown (holding s n (p + 1)))) t) (sym kept)

  -- a local that is set to what an operator gives for it and the int
  pub sum_fits : (i : ℕ) (o : Operator) (place : Place) (s : Standing) (t : State) (n : ℤ) (p : ℕ)
      → IsGood (effect_in code (OpLocal i o) place (shown (holding s n p)) t)
      → IsFitting (updated (local_of (locals_of s) i) o (with_local (locals_of s) i) (AnInt n))
  unfolding shown
  sum_fits i o place s t n p good =
      let top = (shown s).top in
      local_updates place i o top.fun p top.locals (AnInt n ∷ top.operands) (shown s).below t good

  pub updates : (i : ℕ) (o : Operator) (place : Place) (s s1 : Standing) (t : State) (b n : ℤ) (p : ℕ)
      → HasUpdated (locals_of s) i o b n (locals_of s1) → s1 ≡ with_locals s s1.top.locals
      → effect_in code (OpLocal i o) place (shown (holding s b p)) t
      ≡ Next (frames_of (shown (holding s1 n (p + 1)))) t
  unfolding shown
  updates i o place s s1 t b n p has kept =
      let top = (shown s).top in
      let set : Datum → List Datum → Effect = λ w locals.
      pushes w top.fun p locals top.operands (shown s).below t in
      let put : Datum → Effect = λ w. tried (with_local top.locals i w) place t (set w) in
      ap (λ found. tried found place t (λ v. tried (binary o v (AnInt b)) place t put)) has.was
      ∙ ap (λ found. tried found place t put) has.gives
      ∙ ap (λ found. tried found place t (set (AnInt n))) has.set
      ∙ ap (λ (s : Standing). Next (frames_of (shown (holding s n (p + 1)))) t) (sym kept)

  -- the int is a count of units
  pub units_fit : (numerator denominator : ℤ) (place : Place) (s : Standing) (t : State) (n : ℤ)
      (p : ℕ) → IsGood (effect_in code (UnitInt numerator denominator) place (shown (holding s n p)) t)
      → IsFitting (int_units numerator denominator (AnInt n))
  unfolding shown
  units_fit numerator denominator place s t n p good =
      good_fits (int_units numerator denominator (AnInt n)) place t _ good

  pub counts_units : (numerator denominator : ℤ) (place : Place) (s s1 : Standing) (t : State) (n : ℤ)
      (p : ℕ) (v : Value) → int_units numerator denominator (AnInt n) ≡ Gives (meant v)
      → s1 ≡ at_place (with_operands s (v ∷ s.top.operands)) (p + 1)
      → effect_in code (UnitInt numerator denominator) place (shown (holding s n p)) t
      ≡ Next (frames_of (shown s1)) t
  unfolding shown
  counts_units numerator denominator place s s1 t n p v is made =
      let top = (shown s).top in
      ap (λ found. tried found place t (λ v.
      pushes v top.fun p top.locals top.operands (shown s).below t)) is
      ∙ ap (λ (s : Standing). Next (frames_of (shown s)) t) (sym made)

  -- the int is dropped
  pub drops : (place : Place) (s : Standing) (t : State) (n : ℤ) (p : ℕ)
      → effect_in code Drop place (shown (holding s n p)) t
      ≡ Next (frames_of (shown (at_place s (p + 1)))) t
  unfolding shown
  drops place s t n p = refl
