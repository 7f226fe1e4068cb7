-- A shred by what its values mean.
use Rattle.std.specs.Prelude.{ℕ, ℤ, List, [], ◌∷◌, map}
use Rattle.std.specs.Prelude.{Option, Some, None}
use Rattle.ck_values.specs.declared.kind.Kind.{Kind}
use Rattle.ck_values.specs.Datum.{Datum, all_meant}
use Rattle.ck_code.specs.declared.code.Fun.{Fun}
use Rattle.ck_code.specs.Machine.{Frame, frame}
use Rattle.shred_state.specs.Frames.{Frame as Held, Standing}

-- its number and its parent's, the frame of the function that runs, the frames beneath, the turns
-- that it has left, and the time of its last slice
pub record Shown : Type 0 where
  pub number : ℕ
  pub parent : ℕ
  pub top : Frame
  pub below : List Frame
  pub turns : ℕ
  pub last : ℤ

-- a frame, by what its values mean
abbrev pub shown_frame : Held → Frame
shown_frame f = frame f.fun f.place (all_meant f.locals) (all_meant f.operands)

-- a shred, by what its values mean
unfoldable pub shown : Standing → Shown
shown s = record {
  number = s.number;
  parent = s.parent;
  top = shown_frame s.top;
  below = map shown_frame s.below;
  turns = s.turns;
  last = s.last;
}

-- what its locals and operands mean
abbrev pub locals_of : Standing → List Datum
locals_of s = (shown s).top.locals

abbrev pub operands_of : Standing → List Datum
operands_of s = (shown s).top.operands

-- its frames, the one that runs first
abbrev pub frames_of : Shown → List Frame
frames_of shred = shred.top ∷ shred.below

-- the kinds of a function's locals
abbrev pub kinds_of : Option Fun → List Kind
kinds_of None = []
kinds_of (Some fn) = fn.locals
