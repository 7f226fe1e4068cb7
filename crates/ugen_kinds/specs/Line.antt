-- Delay: a delay line. All other kinds with a line stand over it.
use Rattle.std.specs.Prelude.{ℕ, suc, ◌+◌, ◌-◌, ℤ, pos, unsigned_abs, int_lt, min, Bool, false, ◌||◌, List, [], ◌∷◌, ◌++◌, length, drop, replicate, slice_index_or, Option, Some, None}
use Rattle.std.specs.Int.{int_max, int_min}
use Rattle.ck_values.specs.Datum.{Datum, ADur}
use Rattle.ck_base.specs.declared.limits.TheConstants.{MAX_DELAY}
use Rattle.ugen_names.specs.declared.param.Param.{Param}
use Rattle.ugen_names.specs.declared.param.Param.TheVariants as param

-- a line: its items from the oldest to the newest, and how far back it is read
pub record Line : Type 0 where
  pub items : List ℤ
  pub delay : ℕ

-- the items of a line of zeros for delays of at most so many samples: one more is read between
-- two items, and one comes in before it is read
abbrev pub silent_items : (max : ℕ) → List ℤ
silent_items max = replicate (max + 2) (pos 0)

-- a line at first, for delays of at most 4,095 samples
unfoldable pub first_line : Line
first_line = record { items = silent_items 4_095; delay = 0 }

-- the newest item comes in, and the oldest goes
abbrev pub pushed : ℤ → Line → Line
pushed x l = record l { items = drop 1 (l.items ++ x ∷ []) }

-- the item so many places from the newest one
abbrev pub from_back : ℕ → List ℤ → ℤ
from_back n items = slice_index_or items (length items - suc n) (pos 0)

-- what comes out of a line
abbrev pub delayed : Line → ℤ
delayed l = from_back l.delay l.items

abbrev pub delay_tick : Line → (input : ℤ) → Line × ℤ
delay_tick l input =
    let line = pushed input l in
    (line, delayed line)

-- how many samples a line can hold back
abbrev pub reach_of : Line → ℕ
reach_of l = length l.items - 2

abbrev pub line_parameter : Param → Line → Option Datum
line_parameter param.Max l = Some (ADur (pos (reach_of l)))
line_parameter param.Delay l = Some (ADur (pos l.delay))
line_parameter _ l = None

-- the number isn't one from low to high
abbrev pub is_outside : (low high : ℤ) → ℤ → Bool
is_outside low high n = int_lt n low || int_lt high n

-- a line can't be set so: it holds back from 1 to 1,048,576 samples, and is read from 0 to as many
-- samples back
abbrev pub is_past_line : Param → Datum → Line → Bool
is_past_line param.Max (ADur n) l = is_outside (pos 1) MAX_DELAY n
is_past_line param.Delay (ADur n) l = is_outside (pos 0) (pos (reach_of l)) n
is_past_line _ _ l = false

-- a new line of zeros, which is read no further back than it reaches
abbrev pub line_anew : (max : ℕ) → Line → Line
line_anew max l = record { items = silent_items max; delay = min l.delay max }

-- a line that is set as it can be
abbrev pub with_line_parameter : Param → Datum → Line → Option Line
with_line_parameter param.Max (ADur n) l = Some (line_anew (unsigned_abs n) l)
with_line_parameter param.Delay (ADur n) l = Some (record l { delay = unsigned_abs n })
with_line_parameter _ _ l = None

-- the nearest raw number from 0 to this one
abbrev pub up_to : (high : ℤ) → ℤ → ℤ
up_to high x = int_max (pos 0) (int_min x high)
