-- A child that is sporked.
use Rattle.std.proofs.Common.{◌≡◌, ℕ, suc, ◌+◌, ◌<◌, ◌≤◌, nat_lt, true, false, List, [], ◌∷◌, ◌++◌, take, drop}
use Rattle.std.proofs.Common.{reverse, refl, ap, sym, subst, ◌∙◌, Some, slice_get, arith}
use Rattle.std.proofs.lemmas.Bool.Decides.{nat_tests}
use Rattle.std.proofs.lemmas.List.{map-append, drop-map}
use Rattle.ck_base.specs.declared.limits.TheConstants.{MAX_SPORKS}
use Rattle.ck_values.specs.declared.trap.Trap.{Trap}
use Rattle.ck_values.specs.declared.trap.Trap.TheVariants.{Turns, SporkLimit}
use Rattle.ck_values.specs.declared.value.Value.{Value}
use Rattle.ck_values.specs.declared.value.Value.TheVariants.{Shred as Number}
use Rattle.ck_values.specs.Datum.{Datum, AShred, meant, all_meant}
use Rattle.ck_store.specs.Store.{State, Store, Try, Gives, Fails, Act as Recorded, Sporked, IsFitting}
use Rattle.ck_store.specs.Steps.{pick}
use Rattle.ck_store.specs.Shreds.{Child, sporked}
use Rattle.ck_typed.specs.WellFormed.{FoundWhere}
use Rattle.ck_code.proofs.Standing.{found_is}
use Rattle.ck_code.specs.declared.code.CodeParts.{CodeParts}
use Rattle.ck_code.specs.declared.code.Fun.{Fun}
use Rattle.ck_code.specs.declared.code.Step.{Step}
use Rattle.ck_code.specs.declared.instr.Instr.TheVariants.{Spork}
use Rattle.ck_code.specs.Machine.{Effect, Next, Breaks, Taken, taken, tried, with_fun, pushes, frame}
use Rattle.shred_state.specs.Frames.{Standing}
use Rattle.machine_world.specs.declared.acts.Act.{Act}
use Rattle.machine_world.specs.declared.acts.Act.TheVariants.{Spork as Begun}
use Rattle.machine_world.specs.declared.course.Stop.TheVariants.{Trapped}
use Rattle.machine_world.specs.declared.course.Then.TheVariants.{GoesOn, Stopped}
use Rattle.machine_world.specs.Acts.{act_meant, all_acts_meant}
use Rattle.machine_world.specs.Scenes.{Scene, scene, state_over, effect_over, Carries}
use Rattle.machine_world.specs.Shown.{shown, operands_of}
use Rattle.machine_world.specs.Steps.{state_of, next_standing}
use Rattle.machine_world.specs.Worlds.{Parts, StandsFor}
use Rattle.machine_world.proofs.Carried.{carries_trap, breaks_here}
use Rattle.machine_world.proofs.Sends.{sporking}
use Rattle.machine_world.proofs.Stands.{sporks_of, next_of, one_spork, spork_on}
use Rattle.machine_world.proofs.Taken.{taken_gives}
use Rattle.rare_steps.proofs.Gathered.{meant_taken}

-- the child has the next number
abbrev next_child : (g : ℕ) → (arguments : List Datum) → State → Child
next_child g arguments s = record {
  number = s.store.next_shred;
  state = record s {
    store = one_spork s.store;
    acts = s.acts ++ Sporked s.store.next_shred g arguments ∷ [];
  };
}

child_given : (g : ℕ) (arguments : List Datum) (s : State) → s.store.sporks < MAX_SPORKS
    → sporked g arguments s ≡ Gives (next_child g arguments s)
unfolding sporked
child_given g arguments s room =
    let has : nat_lt s.store.sporks MAX_SPORKS ≡ true = grind (arith, nat_tests, room) in
    ap (λ b. pick b (Gives (next_child g arguments s)) (Fails SporkLimit)) has

-- there may be no more at this sample
child_refused : (g : ℕ) (arguments : List Datum) (s : State) → MAX_SPORKS ≤ s.store.sporks
    → sporked g arguments s ≡ Fails SporkLimit
unfolding sporked
child_refused g arguments s full =
    let none : nat_lt s.store.sporks MAX_SPORKS ≡ false = grind (arith, nat_tests, full) in
    ap (λ b. pick b (Gives (next_child g arguments s)) (Fails SporkLimit)) none

-- a spork of the function at the place of an instruction
abbrev pub spork_at : Step → ℕ → Step
spork_at step g = record step { instr = Spork g }

-- no turn may be left
pub no_turn : (code : CodeParts) (step : Step) (g : ℕ) (old new : Standing) (world : Parts)
    (acts : List Act)
    → FoundWhere (slice_get code.funs g) (λ fn. IsFitting (taken fn.params [] (operands_of old)))
    → old.turns ≡ 0 → new ≡ old
    → Carries code (spork_at step g) (Stopped (Trapped Turns step.place)) (scene old world acts)
    (scene new world acts)
unfolding shown
no_turn code step g old new world acts found none is =
    let now = scene old world acts in
    let s = shown old in
    let fn = found_is (slice_get code.funs g) _ found in
    let at : Store → ℕ → State = λ store n.
    record { store = store; acts = all_acts_meant acts; turns = n } in
    let sporks : State → Taken → Effect = λ state t.
    sporking step.place s state fn.0 g t.arguments t.beneath in
    carries_trap code (spork_at step g) Turns now (scene new world acts) (record {
      number = ap (λ (s : Standing). s.number) is;
      parent = ap (λ (s : Standing). s.parent) is;
      last = ap (λ (s : Standing). s.last) is;
    }) (ap (λ (s : Standing). s.turns) is) (ap (λ (s : Standing). s.below) is) refl refl
    (breaks_here code (spork_at step g) Turns now world refl (λ store stands.
    ap (λ o. with_fun o (λ fn. tried (taken fn.params [] s.top.operands) step.place
    (at store s.turns) (λ t. sporking step.place s (at store s.turns) fn g t.arguments t.beneath)))
    fn.1
    ∙ ap (λ t. tried t step.place (at store s.turns) (sporks (at store s.turns)))
    (taken_gives fn.0.params s.top.operands fn.2)
    ∙ ap (λ n. sporks (at store n) (record {
      arguments = reverse (take fn.0.params s.top.operands);
      beneath = drop fn.0.params s.top.operands;
    })) none
    ∙ ap (λ n. Breaks Turns step.place (at store n)) (sym none)))

-- once one is spent, the arguments are still there
pub still_takes : (code : CodeParts) (g : ℕ) (fn : Fun) (old spent : Standing)
    → slice_get code.funs g ≡ Some fn
    → FoundWhere (slice_get code.funs g) (λ fn. IsFitting (taken fn.params [] (operands_of old)))
    → old ≡ record spent { turns = suc spent.turns }
    → IsFitting (taken fn.params [] (operands_of spent))
unfolding shown
still_takes code g fn old spent found takes is =
    subst (λ s. IsFitting (taken fn.params [] (operands_of s))) is
    (subst (λ o. FoundWhere o (λ fn. IsFitting (taken fn.params [] (operands_of old)))) found takes)

-- and they are taken
module _ (code : CodeParts) (step : Step) (g : ℕ) (fn : Fun) (spent : Standing)
    (before after : Parts) (acts : List Act) (found : slice_get code.funs g ≡ Some fn)
    (takes : IsFitting (taken fn.params [] (operands_of spent))) where
  abbrev now : Scene
  now = scene (record spent { turns = suc spent.turns }) before acts

  -- the arguments, the first one first, and the operands beneath
  abbrev pub arguments : List Value
  arguments = reverse (take fn.params spent.top.operands)

  abbrev pub beneath : List Value
  beneath = drop fn.params spent.top.operands

  module _ (store : Store) where
    abbrev later : State
    later = state_of spent store acts

    abbrev then_given : Try Child → Effect
    then_given child =
        let top = (shown spent).top in
        tried child step.place later (λ c.
        pushes (AShred c.number) top.fun top.place top.locals (all_meant beneath)
        (shown spent).below c.state)

    spork_is : effect_over code (spork_at step g) now store
        ≡ then_given (sporked g (all_meant arguments) later)
    unfolding shown
    spork_is =
        let s = shown now.shred in
        let state = state_over store now in
        let ops = s.top.operands in
        let goes : List Datum → List Datum → Effect = λ args rest.
        sporking step.place s state fn g args rest in
        ap (λ o. with_fun o (λ fn. tried (taken fn.params [] ops) step.place state (λ t.
        sporking step.place s state fn g t.arguments t.beneath))) found
        ∙ ap (λ t. tried t step.place state (λ (t : Taken). goes t.arguments t.beneath))
        (taken_gives fn.params ops takes)
        ∙ ap (λ args. goes args (drop fn.params ops)) (sym (meant_taken fn.params spent.top.operands))
        ∙ ap (goes (all_meant arguments)) (drop-map meant fn.params spent.top.operands)

  -- a child is put in their place
  pub child_begins : (id : ℕ) → before.sporks < MAX_SPORKS → id ≡ before.next_shred
      → after
      ≡ record before { sporks = suc before.sporks; next_shred = suc before.next_shred }
      → Carries code (spork_at step g) GoesOn now (scene
      (next_standing spent spent.top.locals (Number id ∷ beneath)) after
      (acts ++ Begun id g arguments ∷ []))
  unfolding shown
  child_begins id room is_id is_after = record {
    follows = λ store stands.
        let top = (shown spent).top in
        let has : store.sporks < MAX_SPORKS =
        subst (λ n. n < MAX_SPORKS) (sym (sporks_of _ store stands)) room in
        let goes : ℕ → List Recorded → Effect = λ n recorded.
        Next (frame top.fun (top.place + 1) top.locals (AShred n ∷ all_meant beneath)
        ∷ (shown spent).below)
        (record (later store) { store = one_spork store; acts = recorded }) in
        record {
          store = one_spork store;
          stands = spork_on before after is_after store stands;
          so = spork_is store
              ∙ ap (then_given store) (child_given g (all_meant arguments) (later store) has)
              ∙ ap (λ n. goes n (all_acts_meant acts ++ Sporked n g (all_meant arguments) ∷ []))
              (next_of _ store stands ∙ sym is_id)
              ∙ ap (goes id) (sym (map-append act_meant acts (Begun id g arguments ∷ [])));
        };
    same = record { number = refl; parent = refl; last = refl };
    stays = refl;
    ran = ap (λ (w : Parts). w.ran) is_after;
  }

  -- or there may be no more
  pub none_begins : (trap : Trap) → MAX_SPORKS ≤ before.sporks → trap ≡ SporkLimit
      → after ≡ before
      → Carries code (spork_at step g) (Stopped (Trapped trap step.place)) now
      (scene spent after acts)
  unfolding shown
  none_begins trap full is is_after = record {
    follows = λ store stands.
        let none : MAX_SPORKS ≤ store.sporks =
        subst (λ n. MAX_SPORKS ≤ n) (sym (sporks_of _ store stands)) full in
        record {
          store = store;
          stands = subst (λ w. StandsFor w store) (sym is_after) stands;
          so = spork_is store
              ∙ ap (then_given store) (child_refused g (all_meant arguments) (later store) none)
              ∙ ap (λ trap. Breaks trap step.place (later store)) (sym is);
        };
    same = record { number = refl; parent = refl; last = refl };
    stays = refl;
    ran = ap (λ (w : Parts). w.ran) is_after;
  }
