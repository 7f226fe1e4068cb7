-- Shreds that wait on events.
use Rattle.std.specs.Prelude.{ℕ, nat_eq, nat_lt, not, List, ◌∷◌, ◌++◌, filter, find, Option}
use Rattle.ck_values.specs.declared.reference.Ref.{Ref}
use Rattle.keyed_lists.specs.Keyed

-- a shred that waits on an event
pub record Wait : Type 0 where
  pub event : Ref
  pub shred : ℕ

-- what tells those that wait apart
abbrev pub shred_of : Wait → ℕ
shred_of wait = wait.shred

-- how often a shred waits
abbrev pub times_waiting : ℕ → List Wait → ℕ
times_waiting = Keyed.times shred_of

-- each shred waits on one event at most
abbrev pub AreApart : List Wait → Type 0
AreApart = Keyed.AreApart shred_of

-- all but this shred, in the same order
abbrev pub without : ℕ → List Wait → List Wait
without = Keyed.without shred_of

-- one that comes waits after all that wait on its event, or on events of lower numbers
abbrev pub arrived : Wait → List Wait → List Wait
arrived w waits =
    filter (λ v. not (nat_lt w.event.serial v.event.serial)) waits
    ++ w ∷ filter (λ v. nat_lt w.event.serial v.event.serial) waits

-- what waits on the event of this number, the longest first
abbrev pub waits_on : (event : ℕ) → List Wait → List Wait
waits_on event waits = filter (λ wait. nat_eq wait.event.serial event) waits

-- the longest waiter of the event of this number
abbrev pub longest : (event : ℕ) → List Wait → Option Wait
longest event waits = find (λ wait. nat_eq wait.event.serial event) waits

-- where a shred waits
abbrev pub waiting : (shred : ℕ) → List Wait → Option Wait
waiting shred waits = find (λ wait. nat_eq wait.shred shred) waits
