-- How the frames of a shred share one list of values.
use Rattle.std.specs.Prelude.{ℕ, ℤ, ◌≡◌, ◌≤◌, List, [], ◌∷◌, take, drop, reverse}
use Rattle.ck_base.specs.declared.limits.TheConstants.{FRESH_TURNS}
use Rattle.ck_values.specs.declared.value.Value.{Value}
use Rattle.shred_state.specs.Frames.{Frame, frame, Standing}
use Rattle.shred_state.specs.declared.extent.Extent.{Extent}

-- the locals of a frame whose values are the last ones of these
abbrev pub locals_in : List Value → Extent → List Value
locals_in values e = drop e.base (take e.middle values)

-- its operands, the top first
abbrev pub operands_in : List Value → Extent → List Value
operands_in values e = reverse (drop e.middle values)

abbrev pub top_in : List Value → Extent → Frame
top_in values e = frame e.fun e.place (locals_in values e) (operands_in values e)

-- frames of which each one sees the values up to those of the frame above
abbrev pub frames_in : List Value → List Extent → List Frame
frames_in values [] = []
frames_in values (e ∷ below) = top_in values e ∷ frames_in (take e.base values) below

-- the frames beneath a frame
abbrev pub below_in : List Value → Extent → List Extent → List Frame
below_in values e below = frames_in (take e.base values) below

-- the frames stand one after another, and so many values are all of theirs
abbrev pub AreLaid : ℕ → List Extent → Type 0
AreLaid n [] = n ≡ 0
AreLaid n (e ∷ below) = (e.base ≤ e.middle) × (e.middle ≤ n) × AreLaid e.base below

-- the shred whose values these are
abbrev pub standing : (number parent : ℕ) → List Value → Extent → List Extent → ℕ → ℤ → Standing
standing number parent values e below turns last = record {
  number = number;
  parent = parent;
  top = top_in values e;
  below = below_in values e below;
  turns = turns;
  last = last;
}

-- its frames are laid so in as many values, and it has no more turns than fresh ones
pub record IsSound (count : ℕ) (frames : List Extent) (turns : ℕ) : Type 0 where
  pub laid : AreLaid count frames
  pub few : turns ≤ FRESH_TURNS
