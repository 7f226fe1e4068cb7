-- Shreds and events: what a shred does about others. It is recorded, and happens when the slice
-- stops.
use Rattle.std.specs.Prelude.{ℕ, zero, suc, List, [], ◌∷◌, ◌++◌, nat_lt}
use Rattle.ck_base.specs.declared.limits.TheConstants.{MAX_SPORKS}
use Rattle.ck_values.specs.declared.trap.Trap.TheVariants.{NullPointer, SporkLimit}
use Rattle.ck_values.specs.Datum.{Datum, AShred, ARef}
use Rattle.ck_store.specs.Store.{State, Act, Sporked, Request, On, Try, Gives, Fails, Misfit}
use Rattle.ck_store.specs.Steps.{and_then, pick}

-- an act is recorded behind those before it
abbrev pub with_act : Act → State → State
with_act act s = record s { acts = s.acts ++ act ∷ [] }

-- the number of the event that a value refers to; null is a trap
unfoldable pub event_of : Datum → Try ℕ
event_of (ARef zero) = Fails NullPointer
event_of (ARef (suc n)) = Gives (suc n)
event_of v = Misfit

-- the number of the shred that a value means; null is a trap
unfoldable pub shred_of : Datum → Try ℕ
shred_of (AShred zero) = Fails NullPointer
shred_of (AShred (suc n)) = Gives (suc n)
shred_of v = Misfit

-- a wait for an event
unfoldable pub wait_event : Datum → Try Request
wait_event event = and_then (event_of event) (λ n. Gives (On n))

-- a child that was sporked: its number, and what it leaves
pub record Child : Type 0 where
  pub number : ℕ
  pub state : State

-- a child is sporked, which will run a function on its arguments: it has the next number, and
-- 4,096 may be sporked at a sample
unfoldable pub sporked : (fun : ℕ) → (arguments : List Datum) → State → Try Child
sporked f arguments s =
    let n = s.store.next_shred in
    let store = record s.store { sporks = suc s.store.sporks; next_shred = suc n } in
    pick (nat_lt s.store.sporks MAX_SPORKS)
    (Gives (record {
      number = n;
      state = with_act (Sporked n f arguments) (record s { store = store });
    }))
    (Fails SporkLimit)
