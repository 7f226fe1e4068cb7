-- How a piece of a program ends.
use Rattle.std.specs.Prelude.{List}
use Rattle.ck_values.specs.declared.trap.Place.{Place}
use Rattle.ck_values.specs.declared.trap.Trap.{Trap}
use Rattle.ck_values.specs.Datum.{Datum}
use Rattle.ck_store.specs.Store.{Store, State, Request, Try, Gives, Fails, Misfit}

-- where a piece begins: the locals, the state, and the stores that later slices find
pub record Point : Type 0 where
  pub locals : List Datum
  pub state : State
  pub stores : List Store

-- the same point with other locals, in another state, on another store
abbrev pub with_locals : Point → List Datum → Point
with_locals point locals = record point { locals = locals }

abbrev pub with_state : Point → State → Point
with_state point s = record point { state = s }

abbrev pub with_store : Point → Store → Point
with_store point store = record point { state = record point.state { store = store } }

-- how a statement is left before its end
pub data Exit : Type 0 where
  Broken : Exit
  Continued : Exit
  Returned : Datum → Exit

-- how a piece ends: done with its value, left, asking at a wait for which no store is left,
-- trapped, or wrong, which never comes in a well-formed program. The first two say where the next
-- piece begins.
pub data Outcome (V : Type 0) : Type 0 where
  Done : V → Point → Outcome V
  Left : Exit → Point → Outcome V
  Asks : Request → Place → State → Outcome V
  Trapped : Trap → Place → State → Outcome V
  Wrong : Outcome V

-- goes on after a part that is done
abbrev pub then_do : {V W : Type 0} → Outcome V → (V → Point → Outcome W) → Outcome W
then_do (Done v point) go = go v point
then_do (Left exit point) go = Left exit point
then_do (Asks q place s) go = Asks q place s
then_do (Trapped trap place s) go = Trapped trap place s
then_do Wrong go = Wrong

-- goes on with what a step gives, or traps at this place in this state
abbrev pub try : {A W : Type 0} → Try A → Place → State → (A → Outcome W) → Outcome W
try (Gives a) place s go = go a
try (Fails trap) place s go = Trapped trap place s
try Misfit place s go = Wrong
