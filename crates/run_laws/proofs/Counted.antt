-- A slice of any code keeps the time, numbers its sporks in order and counts them, and spends turns:
-- so the laws of runs that speak of numbers and turns hold of every code.
use Rattle.std.proofs.Common.{◌≡◌, ℕ, zero, suc, ◌+◌, ◌≤◌, ℤ, int_lt, Bool, true, false, List, [], refl, ap, arith}
use Rattle.std.proofs.lemmas.Int.{ints}
use Rattle.ck_base.specs.declared.limits.TheConstants.{FRESH_TURNS, MAX_SPORKS}
use Rattle.ck_values.specs.declared.trap.Place.{Place}
use Rattle.ck_store.specs.Store.{Store, State, End}
use Rattle.ck_store.specs.Steps.{pick, fresh, spent_from}
use Rattle.ck_code.specs.declared.code.CodeParts.{CodeParts}
use Rattle.ck_code.specs.Machine.{Frame, Halt, Ended, Waits, Broke, Unfinished, Stuck, exec, with_turn, slice_on, begun_on, enough}
use Rattle.ck_run.specs.Run.{Stop, Asked, Trapped}
use Rattle.ck_run.specs.Sound.{AreNumbered, sporks_in, Goes, IsKept, IsLawful}
use Rattle.ck_meaning.specs.Replay.{Stopped, waiting, slice_left, slice_wrong, slice_with, by_code}
use Rattle.run_laws.specs.FitRuns.{turns_at}
use Rattle.run_laws.proofs.Kept.{EndsWith, exec_keeps}
use Rattle.run_laws.proofs.Sporks.{numbered-other, numbered-spork, numbered_rise, sporks-other, sporks-spork, all_sporks}

-- a slice that found this store, and had so many turns, has come so far
pub record IsOn (before : Store) (turns : ℕ) (s : State) : Type 0 where
  pub now : s.store.now ≡ before.now
  pub numbered : AreNumbered before.next_shred s.store.next_shred s.acts
  pub sporks : before.sporks + sporks_in s.acts ≡ s.store.sporks
  pub few_sporks : before.sporks ≤ MAX_SPORKS → s.store.sporks ≤ MAX_SPORKS
  pub turns_left : s.turns ≤ turns

-- it comes on so
exec_on : (code : CodeParts) (shred k : ℕ) (frames : List Frame) (before : Store) (turns : ℕ)
    (s : State) → IsOn before turns s → EndsWith (IsOn before turns) (exec code shred k frames s)
exec_on code shred k frames before turns s on =
    exec_keeps (IsOn before turns)
    (λ s1 t e h. record {
      now = h.now;
      numbered = h.numbered;
      sporks = h.sporks;
      few_sporks = h.few_sporks;
      turns_left = omega (arith, e, h.turns_left);
    })
    (λ s1 values h. record {
      now = h.now;
      numbered = h.numbered;
      sporks = h.sporks;
      few_sporks = h.few_sporks;
      turns_left = h.turns_left;
    })
    (λ s1 objects units connections words h. record {
      now = h.now;
      numbered = h.numbered;
      sporks = h.sporks;
      few_sporks = h.few_sporks;
      turns_left = h.turns_left;
    })
    (λ s1 act none h. record {
      now = h.now;
      numbered =
          numbered-other s1.acts before.next_shred s1.store.next_shred act none h.numbered;
      sporks = omega (arith, h.sporks, sporks-other s1.acts act none);
      few_sporks = h.few_sporks;
      turns_left = h.turns_left;
    })
    (λ s1 f arguments lt h. record {
      now = h.now;
      numbered =
          numbered-spork s1.acts before.next_shred s1.store.next_shred f arguments h.numbered;
      sporks =
          omega (arith, h.sporks, sporks-spork s1.acts s1.store.next_shred f arguments);
      few_sporks = λ few. omega (arith, lt);
      turns_left = h.turns_left;
    }) code shred k frames s on

-- how a slice ended that had so many turns: where its shred waits, it has spent one
abbrev pub HasSpent : Store → ℕ → Halt → Type 0
HasSpent before turns (Ended v s) = IsOn before turns s
HasSpent before turns (Waits q place frames s) = IsOn before turns s × (suc s.turns ≤ turns)
HasSpent before turns (Broke trap place s) = IsOn before turns s
HasSpent before turns Unfinished = Unit {0}
HasSpent before turns Stuck = Unit {0}

on_more : (before : Store) (turns : ℕ) (s : State) → IsOn before turns s
    → IsOn before (suc turns) s
on_more before turns s on = record {
  now = on.now;
  numbered = on.numbered;
  sporks = on.sporks;
  few_sporks = on.few_sporks;
  turns_left = omega (arith, on.turns_left);
}

spent_more : (before : Store) (turns : ℕ) (h : Halt) → EndsWith (IsOn before turns) h
    → HasSpent before (suc turns) h
spent_more before turns (Ended v s) on = on_more before turns s on
spent_more before turns (Waits q place frames s) on =
    (on_more before turns s on, omega (arith, on.turns_left))
spent_more before turns (Broke trap place s) on = on_more before turns s on
spent_more before turns Unfinished on = tt
spent_more before turns Stuck on = tt

-- a slice begins so
begins_on : (before : Store) (turns : ℕ)
    → IsOn before turns (record { store = before; acts = []; turns = turns })
begins_on before turns = record {
  now = refl;
  numbered = refl;
  sporks = omega arith;
  few_sporks = λ few. few;
  turns_left = omega arith;
}

turn_spends : (code : CodeParts) (shred k turns : ℕ) (place : Place) (frames : List Frame)
    (before : Store) → HasSpent before turns (with_turn
    (spent_from turns (record { store = before; acts = []; turns = turns })) place
    (record { store = before; acts = []; turns = turns }) (exec code shred k frames))
turn_spends code shred k zero place frames before = begins_on before zero
turn_spends code shred k (suc turns) place frames before =
    spent_more before turns _ (exec_on code shred k frames before turns _
    (begins_on before turns))

-- each slice ends so
pub slice_spends : (code : CodeParts) (shred k : ℕ) (place : Place) (last : ℤ) (turns : ℕ)
    (frames : List Frame) (before : Store) → HasSpent before
    (pick (int_lt last before.now) fresh turns)
    (slice_on code shred k place last turns frames before)
slice_spends code shred k place last turns frames before =
    turn_spends code shred k (pick (int_lt last before.now) fresh turns) place frames before

-- turns ------------------------------------------------------------------------------------------

pub few_fresh : fresh ≤ FRESH_TURNS
unfolding fresh
few_fresh = omega arith

-- no shred has more turns than the fresh ones
few_picked : (b : Bool) (turns : ℕ) → turns ≤ FRESH_TURNS → pick b fresh turns ≤ fresh
unfolding fresh
few_picked true turns le = omega arith
few_picked false turns le = le

pub few_turns : (now : ℤ) (p : Stopped) → p.turns ≤ FRESH_TURNS → turns_at now p ≤ fresh
few_turns now p le = few_picked (int_lt p.last now) p.turns le

-- at the time of its last slice a shred has the turns that this left
turns_now : (now : ℤ) (p : Stopped) → p.last ≡ now → turns_at now p ≡ p.turns
turns_now now p same =
    let e : int_lt p.last now ≡ false = grind (arith, ints, same) in
    ap (λ b. pick b fresh p.turns) e

-- laws -------------------------------------------------------------------------------------------

-- the sporks at a sample are few, and shreds are numbered from 1 on
pub record IsCounted (store : Store) : Type 0 where
  pub few : store.sporks ≤ MAX_SPORKS
  pub first : 1 ≤ store.next_shred

-- a shred has no more turns than the fresh ones
abbrev pub HasFewTurns : Store → Stopped → Type 0
HasFewTurns store p = p.turns ≤ FRESH_TURNS

module _ (code : CodeParts) where
  -- the sporks of a slice have the next numbers
  halt_numbers : (b turns : ℕ) (p : Stopped) (before : Store) (h : Halt)
      → HasSpent before turns h
      → (let slice = slice_with b p before h in
      AreNumbered before.next_shred slice.store.next_shred slice.acts)
  halt_numbers b turns p before (Ended v s) spent = spent.numbered
  halt_numbers b turns p before (Waits q place frames s) spent = spent.0.numbered
  halt_numbers b turns p before (Broke trap place s) spent = spent.numbered
  halt_numbers b turns p before Unfinished spent = refl
  halt_numbers b turns p before Stuck spent = refl

  pub slice_numbers : (n : ℕ) (p : Stopped) (before : Store)
      → (let slice = (by_code code).slice n p before in
      AreNumbered before.next_shred slice.store.next_shred slice.acts)
  slice_numbers n p before =
      halt_numbers (begun_on code n (enough code) p.last p.turns p.frames before)
      (turns_at before.now p) p before
      (slice_on code n (enough code) p.place p.last p.turns p.frames before)
      (slice_spends code n (enough code) p.place p.last p.turns p.frames before)

  module _ (b : ℕ) (p : Stopped) (before : Store) (counted : IsCounted before)
      (few : HasFewTurns before p) where
    -- what a slice leaves that came so far
    left_kept : (stop : Stop) (to : Stopped) (turns : ℕ) (s : State) → IsOn before turns s
        → (Goes stop → HasFewTurns s.store to
        × (suc (turns_at before.now to) ≤ turns_at before.now p))
        → IsKept (by_code code) turns_at IsCounted HasFewTurns p before (slice_left b to stop s)
    left_kept stop to turns s on goes = record {
      now = on.now;
      store = record {
        few = on.few_sporks counted.few;
        first = omega (
          arith,
          counted.first,
          numbered_rise s.acts before.next_shred s.store.next_shred on.numbered,
        );
      };
      others = λ q le. le;
      numbered = on.numbered;
      sporks = on.sporks;
      children = all_sporks _ (λ f arguments. few_fresh) s.acts;
      goes = goes;
    }

    -- a slice that went wrong leaves all
    wrong_kept : IsKept (by_code code) turns_at IsCounted HasFewTurns p before
        (slice_wrong b p before)
    wrong_kept = record {
      now = refl;
      store = counted;
      others = λ q le. le;
      numbered = refl;
      sporks = omega arith;
      children = tt;
      goes = λ goes. absurd goes;
    }

    halt_kept : (h : Halt) → HasSpent before (turns_at before.now p) h
        → IsKept (by_code code) turns_at IsCounted HasFewTurns p before (slice_with b p before h)
    halt_kept (Ended v s) spent =
        left_kept (Asked End) p (turns_at before.now p) s spent (λ goes. absurd goes)
    halt_kept (Waits q place frames s) spent =
        left_kept (Asked q) (waiting place frames s) (turns_at before.now p) s spent.0
        (λ goes. (
          omega (arith, spent.1, few_turns before.now p few, few_fresh),
          omega (
            arith,
            spent.1,
            turns_now before.now (waiting place frames s) spent.0.now,
          ),
        ))
    halt_kept (Broke trap place s) spent =
        left_kept (Trapped trap place) p (turns_at before.now p) s spent (λ goes. absurd goes)
    halt_kept Unfinished spent = wrong_kept
    halt_kept Stuck spent = wrong_kept

  pub slice_counted : (n : ℕ) (p : Stopped) (before : Store) → IsCounted before
      → HasFewTurns before p → IsKept (by_code code) turns_at IsCounted HasFewTurns p before
      ((by_code code).slice n p before)
  slice_counted n p before counted few =
      halt_kept (begun_on code n (enough code) p.last p.turns p.frames before) p before counted few
      (slice_on code n (enough code) p.place p.last p.turns p.frames before)
      (slice_spends code n (enough code) p.place p.last p.turns p.frames before)

  -- the laws hold of any code, so far
  pub counts : IsLawful (by_code code) turns_at IsCounted HasFewTurns
  counts = record {
    slices = slice_counted;
    few_turns = λ p store now le. few_turns now p le;
    few_sporks = λ store counted. counted.few;
    first = λ store counted. counted.first;
    cut = λ store keep counted. record { few = counted.few; first = counted.first };
    cut_fits = λ store keep p le. le;
    tick = λ store counted lt. record { few = omega arith; first = counted.first };
    tick_fits = λ store p le. le;
  }
