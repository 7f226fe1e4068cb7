-- Slices that ran, and how they stopped, as a run has them.
use Rattle.std.specs.Prelude.{ℕ, List, map, String}
use Rattle.std.specs.Option.{option_map}
use Rattle.std.specs.String.{string_bytes}
use Rattle.std.specs.declared.alloc.Global.{Global}
use Rattle.ck_store.specs.Store.{At, On, End}
use Rattle.ck_run.specs.Run.{TrapAt, Wake, Stop, Asked, Trapped}
use Rattle.machine_world.specs.declared.course.Stop.{Stop as MachineStop}
use Rattle.machine_world.specs.declared.course.Stop.TheVariants as stop
use Rattle.chuck_vm.specs.declared.wake.TrapAt.{TrapAt as MachineTrap}
use Rattle.chuck_vm.specs.declared.wake.Wake.{Wake as MachineWake}

abbrev pub trap_meant : MachineTrap → TrapAt
trap_meant at = record { trap = at.trap; place = at.place }

abbrev pub wake_meant : MachineWake → Wake
wake_meant wake =
    record { time = wake.at; shred = wake.shred; trap = option_map trap_meant wake.trap }

abbrev pub wakes_meant : List MachineWake → List Wake
wakes_meant wakes = map wake_meant wakes

abbrev pub stop_meant : MachineStop → Stop
stop_meant (stop.At time) = Asked (At time)
stop_meant (stop.On event) = Asked (On event.serial)
stop_meant stop.Ended = Asked End
stop_meant (stop.Trapped trap place) = Trapped trap place

-- a name is its bytes
abbrev pub names_of : List (String Global) → List (List ℕ)
names_of = map string_bytes
