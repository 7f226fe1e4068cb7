-- Lists of which the same shreds wait on each event in the same order.
use Rattle.std.proofs.Common.{◌≡◌, ℕ, ◌+◌, Bool, true, false, not, nat_eq, nat_lt, List, [], ◌∷◌, ◌++◌, filter}
use Rattle.std.proofs.Common.{find, length, option_map, slice_get, refl, sym, ap, ◌∙◌, arith}
use Rattle.std.proofs.lemmas.Bool.{eq-eqb, eqb-true, ne_eqb, ltb-true}
use Rattle.ck_run.specs.Counts.{hit, times}
use Rattle.ck_run.specs.Run.{Wait}
use Rattle.chuck_vm.specs.Machine.{shreds_waiting, WaitAlike}
use Rattle.chuck_vm.proofs.Alike.{appended, arrived_alike, stay_alike, total, total_alike, first_at}

-- what is asked of events as keys
means : (a b : ℕ) → nat_eq a b ≡ true → a ≡ b
means a b = eqb-true a b

self : (a : ℕ) → nat_eq a a ≡ true
self a = eq-eqb a a refl

apart : (a b : ℕ) → nat_lt a b ≡ true → nat_eq a b ≡ false
apart a b lt = ne_eqb a b (λ is. let less = ltb-true a b lt in omega (arith, less, is))

pub same_waits : (one two : List Wait) → one ≡ two → WaitAlike one two
same_waits one two is = λ event. ap (shreds_waiting event) is

pub joined_waits : (one two three : List Wait) → WaitAlike one two → WaitAlike two three → WaitAlike one three
joined_waits one two three alike more = λ event. alike event ∙ more event

pub pushed_waits : (one longer two : List Wait) (w : Wait) → WaitAlike longer (one ++ w ∷ []) → WaitAlike one two
    → WaitAlike longer (two ++ w ∷ [])
pushed_waits one longer two w pushed alike =
    joined_waits longer (one ++ w ∷ []) (two ++ w ∷ []) pushed
    (appended nat_eq means self (λ (w : Wait). w.event) (λ (w : Wait). w.shred) one two (w ∷ []) alike)

pub arrived_waits : (w : Wait) (waits : List Wait)
    → WaitAlike (filter (λ v. not (nat_lt w.event v.event)) waits ++ w ∷ filter (λ v. nat_lt w.event v.event) waits)
    (waits ++ w ∷ [])
arrived_waits w waits =
    arrived_alike nat_eq means self (λ (w : Wait). w.event) (λ (w : Wait). w.shred) nat_lt apart w waits

pub stay_waits : (stays : ℕ → Bool) (one two : List Wait) → WaitAlike one two
    → WaitAlike (filter (λ w. stays w.shred) one) (filter (λ w. stays w.shred) two)
stay_waits stays one two alike =
    stay_alike nat_eq means self (λ (w : Wait). w.event) (λ (w : Wait). w.shred) stays one two alike

-- so each waits as often in both, and as many wait
times_total : (m : ℕ) (waits : List Wait)
    → times (λ (w : Wait). w.shred) m waits
    ≡ total nat_eq means self (λ (w : Wait). w.event) (λ (w : Wait). w.shred) (hit m) waits
times_total m [] = refl
times_total m (w ∷ waits) = ap (λ n. hit m w.shred + n) (times_total m waits)

length_total : (waits : List Wait)
    → length waits ≡ total nat_eq means self (λ (w : Wait). w.event) (λ (w : Wait). w.shred) (λ _. 1) waits
length_total [] = refl
length_total (w ∷ waits) = omega (arith, length_total waits)

pub times_waits : (m : ℕ) (one two : List Wait) → WaitAlike one two
    → times (λ (w : Wait). w.shred) m one ≡ times (λ (w : Wait). w.shred) m two
times_waits m one two alike =
    times_total m one
    ∙ total_alike nat_eq means self (λ (w : Wait). w.event) (λ (w : Wait). w.shred) (hit m) one two alike
    ∙ sym (times_total m two)

pub length_waits : (one two : List Wait) → WaitAlike one two → length one ≡ length two
length_waits one two alike =
    length_total one
    ∙ total_alike nat_eq means self (λ (w : Wait). w.event) (λ (w : Wait). w.shred) (λ _. 1) one two alike
    ∙ sym (length_total two)

-- and the same waits longest
pub first_waits : (event : ℕ) (one two : List Wait) → WaitAlike one two
    → option_map (λ (w : Wait). w.shred) (find (λ wait. nat_eq wait.event event) one)
    ≡ option_map (λ (w : Wait). w.shred) (find (λ wait. nat_eq wait.event event) two)
first_waits event one two alike =
    first_at nat_eq means self (λ (w : Wait). w.event) (λ (w : Wait). w.shred) event one
    ∙ ap (λ shreds. slice_get shreds 0) (alike event)
    ∙ sym (first_at nat_eq means self (λ (w : Wait). w.event) (λ (w : Wait). w.shred) event two)
