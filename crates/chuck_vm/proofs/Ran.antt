-- What running a slice leaves.
use Rattle.std.proofs.Common.{◌≡◌, ℕ, List, Result, Ok, Err, IfOk, Option, Some, None, IfSome}
use Rattle.fixed_point.specs.declared.memory.Memory.{Memory}
use Rattle.machine_world.specs.declared.acts.Act.{Act}
use Rattle.machine_world.specs.declared.course.Stop.{Stop}
use Rattle.live_shreds.specs.Slices as slices
use Rattle.chuck_vm.specs.declared.machine.Machine.{Machine}
use Rattle.chuck_vm.specs.Running.{Ran}

-- but for the shreds and the world all is as it was
pub ran_by : (old new : Machine) (n : ℕ) (acts : List Act) (r : Result (Option Stop) Memory)
    → new.due ≡ old.due → new.waits ≡ old.waits → new.code ≡ old.code
    → IfOk r (λ o. IfSome o (λ stop.
    slices.Ran stop n old.code old.shreds new.shreds old.world new.world acts))
    → IfOk r (λ o. IfSome o (λ stop. Ran stop n old new acts))
ran_by old new n acts (Err failed) due waits code ran = tt
ran_by old new n acts (Ok None) due waits code ran = tt
ran_by old new n acts (Ok (Some stop)) due waits code ran =
    record { slice = ran; due_is = due; waits_are = waits; code_is = code }
