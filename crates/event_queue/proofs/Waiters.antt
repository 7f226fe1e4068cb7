-- Lists of waiters: what is pushed, taken out and found.
use Rattle.std.proofs.Common.{◌≡◌, ℕ, Bool, true, false, cond, not, nat_eq}
use Rattle.std.proofs.Common.{List, [], ◌∷◌, Some, None, IfSome, refl, sym, ap, ◌∙◌}
use Rattle.std.proofs.Common.{subst, arith}
use Rattle.std.proofs.lemmas.Bool.{eq-eqb}
use Rattle.keyed_lists.proofs.Changes.{hits-same, times-cons, without_none}
use Rattle.event_queue.specs.Waiters.{Wait, shred_of, AreApart, without}
use Rattle.event_queue.specs.Waiters.{waits_on, longest}

-- the longest waiter of an event stands before all others
first_on : (event : ℕ) (waits : List Wait) (w : Wait) → AreApart waits
    → longest event waits ≡ Some w
    → waits_on event waits ≡ w ∷ waits_on event (without w.shred waits)
first_on event [] w apart is = absurd (cc is)
first_on event (v ∷ waits) w apart is =
    by (nat_eq v.event.serial event) refl is (first_on event waits w further)
  where
    further : AreApart waits
    further n = omega (arith, apart n, times-cons shred_of n v waits)

    alone : without v.shred waits ≡ waits
    alone =
        without_none shred_of v.shred waits
        (omega (
          arith,
          apart v.shred,
          times-cons shred_of v.shred v waits,
          hits-same v.shred v.shred refl,
        ))

    skipped : nat_eq v.event.serial event ≡ false → (more : List Wait) (b : Bool)
        → waits_on event more ≡ waits_on event (cond (not b) (v ∷ more) more)
    skipped other more true = refl
    skipped other more false =
        ap (λ b. cond b (v ∷ waits_on event more) (waits_on event more)) (sym other)

    by : (b : Bool) → nat_eq v.event.serial event ≡ b
        → cond b (Some v) (longest event waits) ≡ Some w
        → (longest event waits ≡ Some w
        → waits_on event waits ≡ w ∷ waits_on event (without w.shred waits))
        → cond b (v ∷ waits_on event waits) (waits_on event waits)
        ≡ w ∷ waits_on event (without w.shred (v ∷ waits))
    by true e found ih =
        let same : v ≡ w = cc found in
        let taken : without v.shred (v ∷ waits) ≡ waits =
        ap (λ b. cond (not b) (v ∷ without v.shred waits) (without v.shred waits))
        (eq-eqb v.shred v.shred refl)
        ∙ alone in
        subst (λ u. v ∷ waits_on event waits ≡ u ∷ waits_on event (without u.shred (v ∷ waits)))
        same
        (ap (λ more. v ∷ waits_on event more) (sym taken))
    by false e found ih =
        ih found
        ∙ ap (λ more. w ∷ more) (skipped e (without w.shred waits) (nat_eq v.shred w.shred))

-- where no waiter is the longest there is none
pub none_on : (event : ℕ) (waits : List Wait) → longest event waits ≡ None
    → waits_on event waits ≡ []
none_on event [] is = refl
none_on event (w ∷ waits) is = by (nat_eq w.event.serial event) is (none_on event waits)
  where
    by : (b : Bool) → cond b (Some w) (longest event waits) ≡ None
        → (longest event waits ≡ None → waits_on event waits ≡ [])
        → cond b (w ∷ waits_on event waits) (waits_on event waits) ≡ []
    by true found ih = absurd (cc found)
    by false found ih = ih found

-- what a signal leaves of the waiters of its event
pub others_on : (event : ℕ) (waits left : List Wait) (w : Wait) → AreApart waits
    → longest event waits ≡ Some w → left ≡ without w.shred waits
    → IfSome (longest event waits) (λ wait. waits_on event waits ≡ wait ∷ waits_on event left)
others_on event waits left w apart is taken =
    subst (λ o. IfSome o (λ wait. waits_on event waits ≡ wait ∷ waits_on event left)) (sym is)
    (first_on event waits w apart is ∙ ap (λ more. w ∷ waits_on event more) (sym taken))
