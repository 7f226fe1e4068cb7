-- On arguments and stores that fit, the code does what the tree does within the instructions that
-- the machine allows, and neither is ever wrong.
use Rattle.std.proofs.Common.{◌≡◌, ℕ, zero, suc, ◌+◌, ◌<◌, List, [], ◌∷◌, take, Option, Some, None, refl, sym, ap, ◌∙◌, subst, arith}
use Rattle.std.specs.Prelude.{slice_get}
use Rattle.ck_base.specs.declared.limits.TheConstants.{FRESH_TURNS}
use Rattle.ck_values.specs.declared.trap.Place.{Place}
use Rattle.ck_values.specs.Datum.{Datum, first_locals}
use Rattle.ck_store.specs.Store.{Store, State, Request, At, On, End, Try, Gives, Fails, Misfit, Shapes, shapes_of}
use Rattle.ck_store.specs.Steps.{fresh, turn_spent, resumed, where_it_goes_on}
use Rattle.ck_typed.specs.Tree.{Fun as TypedFun, Program}
use Rattle.ck_typed.specs.WellFormed.{params_of, IsWellFormed}
use Rattle.ck_code.specs.declared.code.CodeParts.{CodeParts}
use Rattle.ck_code.specs.declared.code.Fun.{Fun}
use Rattle.ck_code.specs.Fitting.{Suit, IsFitStore, AreFit, FollowOneAnother}
use Rattle.ck_code.specs.Machine.{Frame, frame, Effect, Next, Stops, Over, Breaks, Bad, Halt, Ended, Waits, Broke, Unfinished, Stuck, next_effect, go_on, with_turn, exec, slice_on, slices, code_run, enough}
use Rattle.ck_code.proofs.Runs.{first_frames_fit, code_run_fits, code_run_ends}
use Rattle.ck_meaning.specs.Outcome.{Outcome, Done, Left, Asks, Trapped, Wrong}
use Rattle.ck_meaning.specs.Meaning.{shred_from}
use Rattle.ck_scheme.specs.Texts.{texts_of}
use Rattle.ck_scheme.specs.Scheme.{IsCodeOf, SameFun, IsScheme}
use Rattle.ck_scheme.specs.Follows.{Agrees, first_state, fun_frames, Follows, IsNotWrong, MeansOnFitting}
use Rattle.code_laws.proofs.Verifies.{verified}
use Rattle.code_laws.proofs.Shaped.{all_shaped}
use Rattle.code_laws.proofs.Whole.{follows}

-- a shred goes on alike after a request, where it goes on
goes_alike : (q : Request) (next ended wanted : Halt)
    → (where_it_goes_on q ended next ≡ Unfinished → ⊥)
    → ((next ≡ Unfinished → ⊥) → wanted ≡ next)
    → where_it_goes_on q ended wanted ≡ where_it_goes_on q ended next
goes_alike (At time) next ended wanted over same = same over
goes_alike (On event) next ended wanted over same = same over
goes_alike End next ended wanted over same = refl

module _ (code : CodeParts) (n : ℕ) where
  effect_more : (e : Effect) (k j : ℕ) → ((frames : List Frame) (s : State)
      → (exec code n k frames s ≡ Unfinished → ⊥)
      → exec code n (k + j) frames s ≡ exec code n k frames s)
      → (go_on e (exec code n k) ≡ Unfinished → ⊥)
      → go_on e (exec code n (k + j)) ≡ go_on e (exec code n k)
  effect_more (Next frames s) k j rest over = rest frames s over
  effect_more (Stops q place frames s) k j rest over = refl
  effect_more (Over v s) k j rest over = refl
  effect_more (Breaks t place s) k j rest over = refl
  effect_more Bad k j rest over = refl

  -- more instructions change nothing of a slice that is over
  exec_more : (k j : ℕ) (frames : List Frame) (s : State)
      → (exec code n k frames s ≡ Unfinished → ⊥)
      → exec code n (k + j) frames s ≡ exec code n k frames s
  exec_more zero j frames s over = absurd (over refl)
  exec_more (suc k) j frames s over =
      let further : suc k + j ≡ suc (k + j) = omega arith in
      ap (λ m. exec code n m frames s) further
      ∙ effect_more (next_effect code n frames s) k j (exec_more k j) over

  turn_more : (o : Try State) (place : Place) (s0 : State) (k j : ℕ) (frames : List Frame)
      → (with_turn o place s0 (exec code n k frames) ≡ Unfinished → ⊥)
      → with_turn o place s0 (exec code n (k + j) frames)
      ≡ with_turn o place s0 (exec code n k frames)
  turn_more (Gives s1) place s0 k j frames over = exec_more k j frames s1 over
  turn_more (Fails t) place s0 k j frames over = refl
  turn_more Misfit place s0 k j frames over = refl

  over_first : (k : ℕ) (h : Halt) (stores : List Store)
      → (slices code n k h stores ≡ Unfinished → ⊥) → h ≡ Unfinished → ⊥
  over_first k h stores over e = over (ap (λ x. slices code n k x stores) e)

  -- nor of a shred's slices
  slices_more : (k j : ℕ) (h : Halt) (stores : List Store)
      → (slices code n k h stores ≡ Unfinished → ⊥)
      → slices code n (k + j) h stores ≡ slices code n k h stores
  slices_more k j (Waits q place frames s) [] over = refl
  slices_more k j (Waits q place frames s) (w ∷ ws) over =
      goes_alike q _ (Waits q place frames s) _ over (λ over1.
      let before = slice_on code n k place s.store.now s.turns frames w in
      let same : slice_on code n (k + j) place s.store.now s.turns frames w ≡ before =
      turn_more (turn_spent (resumed s.store.now s.turns w)) place
      (resumed s.store.now s.turns w) k j frames (over_first k before ws over1) in
      ap (λ x. slices code n (k + j) x ws) same ∙ slices_more k j before ws over1)
  slices_more k j (Ended v s) stores over = refl
  slices_more k j (Broke t place s) stores over = refl
  slices_more k j Unfinished stores over = refl
  slices_more k j Stuck stores over = refl

  run_more : (k j : ℕ) (frames : List Frame) (s : State) (stores : List Store)
      → (code_run code n k frames s stores ≡ Unfinished → ⊥)
      → code_run code n (k + j) frames s stores ≡ code_run code n k frames s stores
  run_more k j frames s stores over =
      ap (λ x. slices code n (k + j) x stores)
      (exec_more k j frames s (over_first k (exec code n k frames s) stores over))
      ∙ slices_more k j (exec code n k frames s) stores over

-- where the machine isn't stuck, the tree isn't wrong
never_wrong : (h : Halt) (e : Outcome Datum) → Agrees h e → (h ≡ Stuck → ⊥) → IsNotWrong e
never_wrong h (Done v point) a stuck = tt
never_wrong h (Left exit point) a stuck = tt
never_wrong h (Asks q place s) a stuck = tt
never_wrong h (Trapped t place s) a stuck = tt
never_wrong h Wrong a stuck = stuck a

module _ (program : Program) (fine : IsWellFormed program) where
  module _ (code : CodeParts) (scheme : IsScheme program code) where
    pub program_follows : Follows program code
    program_follows = follows program (all_shaped program fine) code scheme

    code_at : (o : Option Fun) (fn : TypedFun) → SameFun program.classes (texts_of program) (Some fn) o
        → (c : Fun) × (o ≡ Some c) × IsCodeOf program.classes (texts_of program) fn c
    code_at None fn same = absurd same
    code_at (Some c) fn same = (c, refl, same)

    pub frames_fit : (f : ℕ) (fn : TypedFun) (shapes : Shapes) (vs : List Datum)
        → slice_get program.funs f ≡ Some fn → Suit code.classes shapes (params_of fn) vs
        → AreFit code (verified program fine code scheme).typing f shapes
        (fun_frames f fn vs)
    frames_fit f fn shapes vs at_f suits =
        let c = code_at (slice_get code.funs f) fn
        (subst (λ o. SameFun program.classes (texts_of program) o (slice_get code.funs f)) at_f (scheme.funs f)) in
        subst (λ l. AreFit code (verified program fine code scheme).typing f shapes
        (frame f 0 (first_locals l vs) [] ∷ [])) c.2.locals
        (first_frames_fit code (verified program fine code scheme) f c.0 shapes vs c.1
        (subst (λ k. Suit code.classes shapes (take k c.0.locals) vs) (sym c.2.params)
        (subst (λ l. Suit code.classes shapes (take fn.params l) vs) (sym c.2.locals) suits)))

    turns_few : (w : Store) → (first_state w).turns < FRESH_TURNS
    unfolding fresh
    turns_few w = omega arith

    pub agrees_at : (n f : ℕ) (fn : TypedFun) (vs : List Datum) (w : Store) (ws : List Store)
        → slice_get program.funs f ≡ Some fn → Suit code.classes (shapes_of w) (params_of fn) vs
        → IsFitStore code w
        → FollowOneAnother code n (enough code)
        (exec code n (enough code) (fun_frames f fn vs) (first_state w)) ws
        → Agrees (code_run code n (enough code) (fun_frames f fn vs) (first_state w) ws)
        (shred_from program n fn vs w ws)
    agrees_at n f fn vs w ws at_f suits fits follow =
        let a = program_follows.agrees n f fn vs w ws at_f in
        let frames = fun_frames f fn vs in
        let over =
        code_run_ends code (verified program fine code scheme) f n frames
        (first_state w) ws (frames_fit f fn (shapes_of w) vs at_f suits)
        (turns_few w) fits follow in
        let same : code_run code n (enough code + a.0) frames (first_state w) ws
        ≡ code_run code n (enough code) frames (first_state w) ws =
        run_more code n (enough code) a.0 frames (first_state w) ws over in
        subst (λ h. Agrees h (shred_from program n fn vs w ws)) same
        (a.1 (enough code + a.0) (omega arith))

    pub means : MeansOnFitting program code
    means = record {
      agrees = agrees_at;
      not_wrong = λ n f fn vs w ws at_f suits fits follow.
          never_wrong _ (shred_from program n fn vs w ws)
          (agrees_at n f fn vs w ws at_f suits fits follow)
          (code_run_fits code (verified program fine code scheme) f n (enough code)
          (fun_frames f fn vs) (first_state w) ws
          (frames_fit f fn (shapes_of w) vs at_f suits) fits follow);
    }
