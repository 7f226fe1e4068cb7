-- The slice of a shred from where it stands on.
use Rattle.std.specs.Prelude.{ℕ}
use Rattle.ck_store.specs.Store.{State}
use Rattle.ck_code.specs.declared.code.CodeParts.{CodeParts}
use Rattle.ck_code.specs.Machine.{Halt, Ended, Waits, Broke, Unfinished, Stuck, exec, begun, enough}
use Rattle.shred_state.specs.Frames.{Standing}
use Rattle.machine_world.specs.Shown.{shown, frames_of}

-- it stopped by itself, and never went wrong
abbrev pub IsOver : Halt → Type 0
IsOver (Ended v s) = Unit {0}
IsOver (Waits q place frames s) = Unit {0}
IsOver (Broke trap place s) = Unit {0}
IsOver Unfinished = ⊥
IsOver Stuck = ⊥

-- the slice of a shred from its next instruction on
abbrev pub run_of : CodeParts → Standing → State → Halt
run_of code shred s = exec code (shown shred).number (enough code) (frames_of (shown shred)) s

abbrev pub begun_by : CodeParts → Standing → State → ℕ
begun_by code shred s = begun code (shown shred).number (enough code) (frames_of (shown shred)) s
