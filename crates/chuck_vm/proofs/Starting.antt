-- The machine before its first slice.
use Rattle.std.proofs.Common.{◌≡◌, ℕ, zero, suc, ◌<◌, pos, All, slice_get, List, [], ◌∷◌, ◌++◌, map, length, drop, get_or, refl, sym, ap, ◌∙◌, subst, arith, append_assoc, append-nil}
use Rattle.std.proofs.Math.Seq.{drop-cons}
use Rattle.std.proofs.lemmas.List.Elements.{All-head, All-tail}
use Rattle.ck_typed.specs.WellFormed.{FoundWhere}
use Rattle.ck_code.specs.declared.code.CodeParts.{CodeParts}
use Rattle.ck_store.specs.Store.{first_store}
use Rattle.ck_meaning.specs.Replay.{Stopped, beginning, by_code, run_code}
use Rattle.ck_run.specs.Run.{Shred, Due, first_shreds, first_due_of}
use Rattle.ck_run.specs.Counts.{times}
use Rattle.ck_run.proofs.Lists.{hit-other, times-append}
use Rattle.shred_state.specs.Frames.{Standing}
use Rattle.live_shreds.specs.Live.{AreBelow}
use Rattle.shreduler.specs.Queue as queue
use Rattle.machine_world.specs.Worlds.{StandsFor}
use Rattle.chuck_vm.specs.declared.machine.Machine.{Machine}
use Rattle.chuck_vm.specs.Machine.{shred_of, shreds_of, due_of, wait_of, shreds_due, AreDueAlike, Stands}
use Rattle.chuck_vm.specs.Telling.{CanBegin}
use Rattle.chuck_vm.proofs.Dues.{appended_due, none_due}
use Rattle.chuck_vm.proofs.Waits.{same_waits}
use Rattle.chuck_vm.proofs.Lists.{map-push}
use Rattle.chuck_vm.proofs.Queues.{due_pushed}

-- one more below the next number
below_more : (n : ℕ) (shreds : List Standing) (s : Standing) → AreBelow n shreds → s.number < suc n
    → AreBelow (suc n) (shreds ++ s ∷ [])
below_more n [] s below lt = (lt, tt)
below_more n (t ∷ shreds) s below lt = (omega (arith, below.0), below_more n shreds s below.1 lt)

module _ (code : CodeParts) where
  -- so many shreds stand, and those of these mains are left
  pub record Starting (number : ℕ) (left : List ℕ) (shreds : List Standing) (dues : List queue.Due) : Type
      0 where
    pub shreds_are : shreds_of code shreds ++ first_shreds (by_code code) (suc number) left
        ≡ first_shreds (by_code code) 1 code.mains
    pub dues_are : AreDueAlike (map due_of dues ++ map first_due_of (first_shreds (by_code code) (suc number) left))
        (map first_due_of (first_shreds (by_code code) 1 code.mains))
    pub new : (m : ℕ) → number < m → times (λ (d : Due). d.shred) m (map due_of dues) ≡ 0
    pub below : AreBelow (suc number) shreds

  pub none_started : Starting 0 code.mains [] []
  none_started = record { shreds_are = refl; dues_are = λ time. refl; new = λ m lt. refl; below = tt }

  pub one_started : (number main : ℕ) (left : List ℕ) (shreds shreds2 : List Standing)
      (dues dues2 : List queue.Due) (s : Standing) → Starting number (main ∷ left) shreds dues
      → shreds2 ≡ shreds ++ s ∷ []
      → shred_of code s ≡ record { number = suc number; parent = 0; progress = beginning code main [] }
      → dues2 ≡ queue.arrived (record { time = pos 0; shred = suc number }) dues
      → Starting (suc number) left shreds2 dues2
  one_started number main left shreds shreds2 dues dues2 s so_far pushed is due =
      let first : Shred Stopped =
      record { number = suc number; parent = 0; progress = beginning code main [] } in
      let d : Due = record { time = pos 0; shred = suc number } in
      let later = first_shreds (by_code code) (suc (suc number)) left in
      let dues_now : AreDueAlike (map due_of dues2) (map due_of dues ++ d ∷ []) =
      due_pushed dues dues2 (pos 0) (pos 0) (suc number) due refl in
      record {
        shreds_are = ap (λ ss. ss ++ later) (ap (shreds_of code) pushed ∙ map-push (shred_of code) shreds s
            ∙ ap (λ x. shreds_of code shreds ++ x ∷ []) is)
            ∙ append_assoc (shreds_of code shreds) (first ∷ []) later ∙ so_far.shreds_are;
        dues_are = λ time.
            appended_due (map due_of dues2) (map due_of dues ++ d ∷ []) (map first_due_of later) dues_now time
            ∙ ap (shreds_due time) (append_assoc (map due_of dues) (d ∷ []) (map first_due_of later))
            ∙ so_far.dues_are time;
        new = λ m lt. none_due m (map due_of dues2) (map due_of dues ++ d ∷ []) dues_now (omega (
          arith,
          times-append (λ (d : Due). d.shred) m (map due_of dues) (d ∷ []),
          so_far.new m (omega (arith, lt)),
          hit-other m (suc number) (λ e. omega (arith, e, lt)),
        ));
        below = subst (AreBelow (suc (suc number))) (sym pushed)
            (below_more (suc number) shreds s so_far.below
            (let number_is : s.number ≡ suc number = ap (λ (s : Shred Stopped). s.number) is in
            omega (arith, number_is)));
      }

  -- the next main
  pub next_main : (mains : List ℕ) (i : ℕ) (shreds : List Standing) (dues : List queue.Due) → i < length mains
      → Starting i (drop i mains) shreds dues → Starting i (get_or mains i 0 ∷ drop (suc i) mains) shreds dues
  next_main mains i shreds dues lt so_far =
      subst (λ left. Starting i left shreds dues) (drop-cons mains i 0 lt) so_far

-- a main can begin
pub main_can : (code : CodeParts) (mains : List ℕ) (i d : ℕ)
    → All (λ f. FoundWhere (slice_get code.funs f) (λ fn. fn.params ≡ 0)) mains → i < length mains
    → CanBegin code (get_or mains i d) []
main_can code [] i d all lt = absurd (omega (arith, lt))
main_can code (f ∷ mains) zero d all lt =
    All-head (λ f. FoundWhere (slice_get code.funs f) (λ fn. fn.params ≡ 0)) f mains all
main_can code (f ∷ mains) (suc i) d all lt =
    main_can code mains i d
    (All-tail (λ f. FoundWhere (slice_get code.funs f) (λ fn. fn.params ≡ 0)) f mains all) (omega (arith, lt))

-- all stand, and are due
module _ (code : CodeParts) (number : ℕ) (left : List ℕ) (shreds : List Standing) (dues : List queue.Due)
    (none : left ≡ []) (so_far : Starting code number left shreds dues) where
  all : Starting code number [] shreds dues
  all = subst (λ left. Starting code number left shreds dues) none so_far

  pub all_stand : shreds_of code shreds ≡ first_shreds (by_code code) 1 code.mains
  all_stand = sym (append-nil (shreds_of code shreds)) ∙ all.shreds_are

  pub all_due : AreDueAlike (map due_of dues) (map first_due_of (first_shreds (by_code code) 1 code.mains))
  all_due = λ time. ap (shreds_due time) (sym (append-nil (map due_of dues))) ∙ all.dues_are time

-- the machine with them stands for the run that hasn't begun
pub all_started : (machine : Machine)
    → StandsFor machine.world (first_store (length machine.code.mains) machine.code.statics)
    → machine.waits ≡ []
    → shreds_of machine.code machine.shreds ≡ first_shreds (by_code machine.code) 1 machine.code.mains
    → AreDueAlike (map due_of machine.due)
    (map first_due_of (first_shreds (by_code machine.code) 1 machine.code.mains))
    → Stands machine (run_code machine.code 0)
all_started machine world waits shreds due = record {
  store = world;
  shreds = shreds;
  due = due;
  waits = same_waits (map wait_of machine.waits) [] (ap (map wait_of) waits);
}
