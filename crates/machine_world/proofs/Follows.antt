-- What comes after an instruction that leaves the store as it is.
use Rattle.std.proofs.Common.{List, Result, IfOk}
use Rattle.ck_values.specs.declared.trap.Place.{Place}
use Rattle.ck_code.specs.Machine.{Effect}
use Rattle.ck_store.specs.Store.{Store}
use Rattle.fixed_point.specs.declared.memory.Memory.{Memory}
use Rattle.shred_state.specs.Frames.{Standing}
use Rattle.machine_world.specs.Steps.{Matches, Follows}
use Rattle.machine_world.specs.Worlds.{Parts, StandsFor}
use Rattle.machine_world.specs.declared.acts.Act.{Act}
use Rattle.machine_world.specs.declared.course.Then.{Then}
use Rattle.machine_world.proofs.Results.{ok_then}

pub follows_same : (world : Parts) (store : Store) → StandsFor world store
    → (result : Result Then Memory) (e : Effect) (place : Place) (shred : Standing)
    (acts : List Act) → IfOk result (λ then. Matches then e place shred store acts)
    → IfOk result (λ then. Follows then e place shred world acts)
follows_same world store stands result e place shred acts =
    ok_then result (λ then. Matches then e place shred store acts)
    (λ then. Follows then e place shred world acts)
    (λ then so. record { store = store; stands = stands; so = so })
