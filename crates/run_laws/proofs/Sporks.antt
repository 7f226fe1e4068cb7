-- The sporks among acts, as one more act is recorded.
use Rattle.std.proofs.Common.{◌≡◌, ℕ, suc, ◌+◌, ◌≤◌, List, [], ◌∷◌, ◌++◌, refl, sym, ap, arith}
use Rattle.ck_values.specs.Datum.{Datum}
use Rattle.ck_store.specs.Store.{Act, Printed, Sporked, WokeOne, WokeAll, Removed}
use Rattle.ck_code.proofs.Natives.{IsNoSpork}
use Rattle.ck_run.specs.Sound.{AreNumbered, sporks_in, AllSporks}

-- an act that sporks no shred leaves the numbers
pub numbered-other : (acts : List Act) (from to : ℕ) (act : Act) → IsNoSpork act
    → AreNumbered from to acts → AreNumbered from to (acts ++ act ∷ [])
numbered-other [] from to (Sporked number f arguments) none are = absurd none
numbered-other [] from to (Printed line) none are = are
numbered-other [] from to (WokeOne event) none are = are
numbered-other [] from to (WokeAll event) none are = are
numbered-other [] from to (Removed number) none are = are
numbered-other (Sporked number f arguments ∷ acts) from to act none are =
    (are.0, numbered-other acts (suc from) to act none are.1)
numbered-other (Printed line ∷ acts) from to act none are =
    numbered-other acts from to act none are
numbered-other (WokeOne event ∷ acts) from to act none are =
    numbered-other acts from to act none are
numbered-other (WokeAll event ∷ acts) from to act none are =
    numbered-other acts from to act none are
numbered-other (Removed number ∷ acts) from to act none are =
    numbered-other acts from to act none are

-- a spork takes the next number
pub numbered-spork : (acts : List Act) (from to f : ℕ) (arguments : List Datum)
    → AreNumbered from to acts → AreNumbered from (suc to) (acts ++ Sporked to f arguments ∷ [])
numbered-spork [] from to f arguments are = (sym are, ap suc are)
numbered-spork (Sporked number g values ∷ acts) from to f arguments are =
    (are.0, numbered-spork acts (suc from) to f arguments are.1)
numbered-spork (Printed line ∷ acts) from to f arguments are =
    numbered-spork acts from to f arguments are
numbered-spork (WokeOne event ∷ acts) from to f arguments are =
    numbered-spork acts from to f arguments are
numbered-spork (WokeAll event ∷ acts) from to f arguments are =
    numbered-spork acts from to f arguments are
numbered-spork (Removed number ∷ acts) from to f arguments are =
    numbered-spork acts from to f arguments are

-- the numbers rise
pub numbered_rise : (acts : List Act) (from to : ℕ) → AreNumbered from to acts → from ≤ to
numbered_rise [] from to are = omega (arith, are)
numbered_rise (Sporked number f arguments ∷ acts) from to are =
    omega (arith, numbered_rise acts (suc from) to are.1)
numbered_rise (Printed line ∷ acts) from to are = numbered_rise acts from to are
numbered_rise (WokeOne event ∷ acts) from to are = numbered_rise acts from to are
numbered_rise (WokeAll event ∷ acts) from to are = numbered_rise acts from to are
numbered_rise (Removed number ∷ acts) from to are = numbered_rise acts from to are

-- how many sporks there are in more acts
sporks-append : (acts more : List Act)
    → sporks_in (acts ++ more) ≡ sporks_in acts + sporks_in more
sporks-append [] more = omega arith
sporks-append (Sporked number f arguments ∷ acts) more = omega (arith, sporks-append acts more)
sporks-append (Printed line ∷ acts) more = sporks-append acts more
sporks-append (WokeOne event ∷ acts) more = sporks-append acts more
sporks-append (WokeAll event ∷ acts) more = sporks-append acts more
sporks-append (Removed number ∷ acts) more = sporks-append acts more

sporks_none : (act : Act) → IsNoSpork act → sporks_in (act ∷ []) ≡ 0
sporks_none (Sporked number f arguments) none = absurd none
sporks_none (Printed line) none = refl
sporks_none (WokeOne event) none = refl
sporks_none (WokeAll event) none = refl
sporks_none (Removed number) none = refl

pub sporks-other : (acts : List Act) (act : Act) → IsNoSpork act
    → sporks_in (acts ++ act ∷ []) ≡ sporks_in acts
sporks-other acts act none =
    omega (arith, sporks-append acts (act ∷ []), sporks_none act none)

pub sporks-spork : (acts : List Act) (number f : ℕ) (arguments : List Datum)
    → sporks_in (acts ++ Sporked number f arguments ∷ []) ≡ suc (sporks_in acts)
sporks-spork acts number f arguments =
    omega (arith, sporks-append acts (Sporked number f arguments ∷ []))

-- what holds of every child holds of each
pub all_sporks : (Q : ℕ → List Datum → Type 0) → ((f : ℕ) (arguments : List Datum) → Q f arguments)
    → (acts : List Act) → AllSporks Q acts
all_sporks Q each [] = tt
all_sporks Q each (Sporked number f arguments ∷ acts) =
    (each f arguments, all_sporks Q each acts)
all_sporks Q each (Printed line ∷ acts) = all_sporks Q each acts
all_sporks Q each (WokeOne event ∷ acts) = all_sporks Q each acts
all_sporks Q each (WokeAll event ∷ acts) = all_sporks Q each acts
all_sporks Q each (Removed number ∷ acts) = all_sporks Q each acts
