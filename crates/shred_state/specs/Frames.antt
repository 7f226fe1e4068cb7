-- Where a shred stands.
use Rattle.std.specs.Prelude.{ℕ, ℤ, negsuc, int_lt, ◌≡◌, ◌<◌, ◌≤◌, ◌⊎◌, if◌then◌else◌}
use Rattle.std.specs.Prelude.{List, [], ◌∷◌, ◌++◌, take, drop, reverse, length}
use Rattle.ck_values.specs.declared.kind.Kind.{Kind}
use Rattle.ck_base.specs.declared.limits.TheConstants.{FRESH_TURNS, MAX_CALLS}
use Rattle.ck_values.specs.declared.value.Value.{Value}
use Rattle.shred_state.specs.declared.shred.EnterEnd.{EnterEnd}
use Rattle.shred_state.specs.declared.shred.EnterEnd.TheVariants.{CallDepth, Memory}
use Rattle.shred_state.specs.Values.{first_locals}

-- a function that runs: its number, the place of its next instruction, its locals, and its
-- operands with the top first
pub record Frame : Type 0 where
  pub fun : ℕ
  pub place : ℕ
  pub locals : List Value
  pub operands : List Value

abbrev pub frame : (f p : ℕ) → (locals operands : List Value) → Frame
frame f p locals operands = record { fun = f; place = p; locals = locals; operands = operands }

-- a shred: its number and its parent's, the frame of the function that runs, the frames beneath,
-- the turns that it has left, and the time of its last slice
pub record Standing : Type 0 where
  pub number : ℕ
  pub parent : ℕ
  pub top : Frame
  pub below : List Frame
  pub turns : ℕ
  pub last : ℤ

-- before its first slice a shred has a last slice's time that is before all times
abbrev pub before_all : ℤ
before_all = negsuc 0

-- a shred before its first slice, which will run a function with these arguments
abbrev pub new_shred : (number parent fun : ℕ) → List Kind → (arguments : List Value) → Standing
new_shred number parent fun kinds arguments = record {
  number = number;
  parent = parent;
  top = frame fun 0 (first_locals kinds (length arguments) arguments) [];
  below = [];
  turns = FRESH_TURNS;
  last = before_all;
}

-- the turns at this time: fresh ones where time has gone on since the last slice
abbrev pub turns_at : (now : ℤ) → Standing → ℕ
turns_at now shred = if int_lt shred.last now then FRESH_TURNS else shred.turns

-- the shred with these operands
abbrev pub with_operands : Standing → List Value → Standing
with_operands shred operands = record shred { top = record shred.top { operands = operands } }

-- the shred with these locals
abbrev pub with_locals : Standing → List Value → Standing
with_locals shred locals = record shred { top = record shred.top { locals = locals } }

-- the shred with these locals and operands
abbrev pub with_values : Standing → (locals operands : List Value) → Standing
with_values shred locals operands =
    record shred { top = frame shred.top.fun shred.top.place locals operands }

-- the shred at this place of the function that runs
abbrev pub at_place : Standing → (place : ℕ) → Standing
at_place shred place = record shred { top = record shred.top { place = place } }

-- the shred has begun a function, whose parameters were its topmost operands
abbrev pub entered : Standing → (fun params : ℕ) → List Kind → Standing
entered shred fun params kinds = record shred {
  top = frame fun 0 (first_locals kinds params (reverse (take params shred.top.operands))) [];
  below = record shred.top { operands = drop params shred.top.operands } ∷ shred.below;
}

-- no function can be entered where so many calls are active: they are as many as may be, or else
-- there is not enough memory
abbrev pub IsRefused : EnterEnd → (active : ℕ) → Type 0
IsRefused CallDepth active = MAX_CALLS ≤ active
IsRefused (Memory _) active = active < MAX_CALLS

-- a frame that holds no value
pub record IsEmpty (top : Frame) : Type 0 where
  pub locals : top.locals ≡ []
  pub operands : top.operands ≡ []

-- one value of a frame was taken: its topmost operand, or where it has none its last local
abbrev pub IsShed : (old : Frame) → (v : Value) → (new : Frame) → Type 0
IsShed old v new =
    ((old.operands ≡ v ∷ new.operands) × (old.locals ≡ new.locals))
    ⊎ ((old.operands ≡ []) × (new.operands ≡ []) × (old.locals ≡ new.locals ++ v ∷ []))
