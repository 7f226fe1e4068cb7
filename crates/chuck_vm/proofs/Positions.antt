-- Where a shred stands, among shreds in order of their numbers.
use Rattle.std.proofs.Common.{◌≡◌, ℕ, zero, suc, ◌<◌, ◌≤◌, Bool, true, false, cond, nat_eq, List, [], ◌∷◌, find, length, get_or, slice_get, is_some, Option, option_map, Some, None, refl, ap, ◌∙◌, subst, arith}
use Rattle.std.proofs.lemmas.Bool.{eq-eqb, ne_eqb, eqb-true}
use Rattle.std.proofs.lemmas.Option.{slice_get_within, get_or_from_slice_get}
use Rattle.ck_code.specs.declared.code.CodeParts.{CodeParts}
use Rattle.ck_meaning.specs.Replay.{Stopped}
use Rattle.ck_run.specs.Family.{AreInOrder}
use Rattle.ck_run.specs.Run.{Shred}
use Rattle.shred_state.specs.Frames.{Standing}
use Rattle.live_shreds.specs.Live.{numbered, AreBelow}
use Rattle.chuck_vm.specs.Machine.{shred_of, shreds_of}

module _ (code : CodeParts) where
  abbrev InOrder : (from below : ℕ) → List Standing → Type 0
  InOrder from below shreds = AreInOrder from below (shreds_of code shreds)

  at_least : (shreds : List Standing) (from below i : ℕ) (d : Standing) → InOrder from below shreds
      → i < length shreds → from ≤ (get_or shreds i d).number
  at_least [] from below i d order lt = absurd (omega (arith, lt))
  at_least (s ∷ shreds) from below zero d order lt = order.0
  at_least (s ∷ shreds) from below (suc i) d order lt =
      omega (arith, order.0, at_least shreds (suc s.number) below i d order.2 (omega (arith, lt)))

  pub above : (shreds : List Standing) (from below i : ℕ) (s : Standing) → InOrder from below shreds
      → slice_get shreds i ≡ Some s → from ≤ s.number
  above shreds from below i s order is =
      subst (λ (t : Standing). from ≤ t.number) (get_or_from_slice_get shreds i s s is)
      (at_least shreds from below i s order (slice_get_within shreds i s is))

  -- the one at a place is the one that its number finds
  pub found_at : (shreds : List Standing) (from below i : ℕ) (s : Standing) → InOrder from below shreds
      → slice_get shreds i ≡ Some s
      → find (λ (t : Shred Stopped). nat_eq t.number s.number) (shreds_of code shreds) ≡ Some (shred_of code s)
  found_at [] from below i s order is = absurd (cc is)
  found_at (t ∷ shreds) from below zero s order is =
      let e : t ≡ s = cc is in
      ap (λ b. cond b (Some (shred_of code t))
      (find (λ (t : Shred Stopped). nat_eq t.number s.number) (shreds_of code shreds)))
      (eq-eqb t.number s.number (ap (λ (t : Standing). t.number) e))
      ∙ ap (λ t. Some (shred_of code t)) e
  found_at (t ∷ shreds) from below (suc i) s order is =
      let le = above shreds (suc t.number) below i s order.2 is in
      ap (λ b. cond b (Some (shred_of code t))
      (find (λ (t : Shred Stopped). nat_eq t.number s.number) (shreds_of code shreds)))
      (ne_eqb t.number s.number (λ e. omega (arith, e, le)))
      ∙ found_at shreds (suc t.number) below i s order.2 is

  -- a shred is live where one of the machine has its number
  pub live_is : (n : ℕ) (shreds : List Standing) → find (λ (t : Shred Stopped). nat_eq t.number n)
      (shreds_of code shreds) ≡ option_map (shred_of code) (numbered n shreds)
  live_is n [] = refl
  live_is n (s ∷ shreds) = by (nat_eq s.number n) (live_is n shreds)
    where
      by : (b : Bool) → find (λ (t : Shred Stopped). nat_eq t.number n) (shreds_of code shreds)
          ≡ option_map (shred_of code) (numbered n shreds)
          → cond b (Some (shred_of code s))
          (find (λ (t : Shred Stopped). nat_eq t.number n) (shreds_of code shreds))
          ≡ option_map (shred_of code) (cond b (Some s) (numbered n shreds))
      by true ih = refl
      by false ih = ih

  -- all numbers are below the next one
  pub all_below : (shreds : List Standing) (from below : ℕ) → InOrder from below shreds
      → AreBelow below shreds
  all_below [] from below order = tt
  all_below (s ∷ shreds) from below order = (order.1, all_below shreds (suc s.number) below order.2)

  pub live_below : (n : ℕ) (shreds : List Standing) (from below : ℕ) → InOrder from below shreds
      → is_some (numbered n shreds) ≡ true → n < below
  live_below n [] from below order some = absurd (cc some)
  live_below n (s ∷ shreds) from below order some =
      by (nat_eq s.number n) refl some (live_below n shreds (suc s.number) below order.2)
    where
      by : (b : Bool) → nat_eq s.number n ≡ b → is_some (cond b (Some s) (numbered n shreds)) ≡ true
          → (is_some (numbered n shreds) ≡ true → n < below) → n < below
      by true e some ih = omega (arith, eqb-true s.number n e, order.1)
      by false e some ih = ih some

pub some_map : {A B : Type 0} (f : A → B) (o : Option A) → is_some (option_map f o) ≡ is_some o
some_map f None = refl
some_map f (Some x) = refl
