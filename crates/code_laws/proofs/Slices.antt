-- A run over all the stores is one slice after another.
use Rattle.std.proofs.Common.{◌≡◌, ℕ, zero, suc, ◌≤◌, List, [], ◌∷◌, sym, subst, arith}
use Rattle.ck_values.specs.declared.trap.Place.{Place}
use Rattle.ck_store.specs.Store.{Store, State, At, On, End, Try, Gives, Fails, Misfit}
use Rattle.ck_store.specs.Steps.{turn_spent, resumed}
use Rattle.ck_code.specs.declared.code.CodeParts.{CodeParts}
use Rattle.ck_code.specs.Machine.{Frame, Effect, Next, Stops, Over, Breaks, Bad, Halt, Unfinished, next_effect, with_turn, go_on, exec, slice_on, slices, code_run}
use Rattle.code_laws.proofs.Lands.{go_over, fused}

abbrev pub IsOver : Halt → Type 0
IsOver Unfinished = ⊥
IsOver _ = Unit {0}

module _ (code : CodeParts) (n m : ℕ) (h : Halt) (over : IsOver h) where
  turn_slices : (i : ℕ) (place : Place) (fs : List Frame) (s : State) (ws : List Store)
      (o : Try State) → ((s1 : State) → fused code n i fs s1 ws ≡ h
      → slices code n m (exec code n m fs s1) ws ≡ h)
      → with_turn o place s (λ s1. fused code n i fs s1 ws) ≡ h
      → slices code n m (with_turn o place s (exec code n m fs)) ws ≡ h
  turn_slices i place fs s ws (Gives s1) rest e = rest s1 e
  turn_slices i place fs s [] (Fails t) rest e = e
  turn_slices i place fs s (w ∷ ws) (Fails t) rest e = e
  turn_slices i place fs s [] Misfit rest e = e
  turn_slices i place fs s (w ∷ ws) Misfit rest e = e

  -- the next slice, where the shred goes on
  resumed_slices : (i : ℕ) (place : Place) (fs : List Frame) (s : State) (w : Store)
      (ws : List Store) → ((s1 : State) → fused code n i fs s1 ws ≡ h
      → slices code n m (exec code n m fs s1) ws ≡ h)
      → with_turn (turn_spent (resumed s.store.now s.turns w)) place
      (resumed s.store.now s.turns w) (λ s1. fused code n i fs s1 ws) ≡ h
      → slices code n m (slice_on code n m place s.store.now s.turns fs w) ws ≡ h
  resumed_slices i place fs s w ws rest e =
      let start = resumed s.store.now s.turns w in
      turn_slices i place fs start ws (turn_spent start) rest e

  effect_slices : (i j : ℕ) → i ≤ m → ((k : ℕ) → i ≤ k → (fs : List Frame) (s : State)
      (ws : List Store) → fused code n i fs s ws ≡ h → slices code n m (exec code n k fs s) ws ≡ h)
      → i ≤ j → (r : Effect) (ws : List Store) → go_over r ws (fused code n i) ≡ h
      → slices code n m (go_on r (exec code n j)) ws ≡ h
  effect_slices i j le rest fits (Next fs s) ws e = rest j fits fs s ws e
  effect_slices i j le rest fits (Stops q place fs s) [] e = e
  effect_slices i j le rest fits (Stops (At time) place fs s) (w ∷ ws) e =
      resumed_slices i place fs s w ws (λ s1 e1. rest m le fs s1 ws e1) e
  effect_slices i j le rest fits (Stops (On event) place fs s) (w ∷ ws) e =
      resumed_slices i place fs s w ws (λ s1 e1. rest m le fs s1 ws e1) e
  effect_slices i j le rest fits (Stops End place fs s) (w ∷ ws) e = e
  effect_slices i j le rest fits (Over v s) [] e = e
  effect_slices i j le rest fits (Over v s) (w ∷ ws) e = e
  effect_slices i j le rest fits (Breaks t place s) [] e = e
  effect_slices i j le rest fits (Breaks t place s) (w ∷ ws) e = e
  effect_slices i j le rest fits Bad [] e = e
  effect_slices i j le rest fits Bad (w ∷ ws) e = e

  all_slices : (i : ℕ) → i ≤ m → (k : ℕ) → i ≤ k → (fs : List Frame) (s : State)
      (ws : List Store) → fused code n i fs s ws ≡ h → slices code n m (exec code n k fs s) ws ≡ h
  all_slices zero le k fits fs s ws e = absurd (subst IsOver (sym e) over)
  all_slices (suc i) le zero fits fs s ws e = absurd (omega arith)
  all_slices (suc i) le (suc j) fits fs s ws e =
      effect_slices i j (omega arith) (all_slices i (omega arith)) (omega arith)
      (next_effect code n fs s) ws e

  -- with instructions enough
  pub fused_slices : (i : ℕ) → i ≤ m → (fs : List Frame) (s : State) (ws : List Store)
      → fused code n i fs s ws ≡ h → code_run code n m fs s ws ≡ h
  fused_slices i le fs s ws e = all_slices i le m le fs s ws e
