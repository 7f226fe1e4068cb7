-- The cells of a heap, and how often they refer to an object.
use Rattle.std.specs.Prelude.{◌≡◌, ℕ, ◌+◌, ◌<◌, ◌≤◌, ◌==◌, if◌then◌else◌, List, [], ◌∷◌, Option, Some, None, is_some, sum_by, slice_index_or}
use Rattle.ck_base.specs.declared.limits.TheConstants.{MAX_OBJECTS}
use Rattle.ck_values.specs.declared.reference.Ref.{Ref}
use Rattle.object_heap.specs.declared.body.Body.{Body}
use Rattle.object_heap.specs.Objects.{values_of}
use Rattle.counted_heap.specs.declared.cell.Cell.{Cell}
use Rattle.counted_heap.specs.Places.{places}

-- the cells by their slots
abbrev pub Cells : Type 0
Cells = List (Option Cell)

abbrev pub cell_at : Cells → ℕ → Option Cell
cell_at cs k = slice_index_or cs k None

-- how often the object in a cell refers to r
abbrev pub in_cell : Ref → Option Cell → ℕ
in_cell r None = 0
in_cell r (Some c) = places r (values_of c.body)

-- how often the objects refer to r
unfoldable pub inner : Cells → Ref → ℕ
inner cs r = sum_by (in_cell r) cs

-- r's count where the cell has r's object, else 0
abbrev pub count_in : Ref → Option Cell → ℕ
count_in r None = 0
count_in r (Some c) = if c.serial == r.serial then c.count else 0

unfoldable pub count_at : Cells → Ref → ℕ
count_at cs r = count_in r (cell_at cs r.slot)

-- r's object where the cell has it
abbrev pub body_in : Ref → Option Cell → Option Body
body_in r None = None
body_in r (Some c) = if c.serial == r.serial then Some c.body else None

unfoldable pub body_at : Cells → Ref → Option Body
body_at cs r = body_in r (cell_at cs r.slot)

-- what keeps the counts right: each object has a number of its own that was given out, and the
-- objects refer to r no more often than r's count says
pub record IsCounted (cs : Cells) (next : ℕ) : Type 0 where
  pub first : 0 < next
  pub room : next ≤ MAX_OBJECTS + 1
  pub covered : (r : Ref) → inner cs r ≤ count_at cs r
  pub numbered :
      (k : ℕ) (c : Cell) → cell_at cs k ≡ Some c → (0 < c.serial) × (c.serial < next)
  pub apart :
      (j k : ℕ) (c d : Cell) → cell_at cs j ≡ Some c → cell_at cs k ≡ Some d
      → c.serial ≡ d.serial → j ≡ k

-- the link of a cell whose count is 0
abbrev pub link_in : Option Cell → Option (Option ℕ)
link_in None = None
link_in (Some c) = if c.count == 0 then Some c.link else None

unfoldable pub link_at : Cells → ℕ → Option (Option ℕ)
link_at cs k = link_in (cell_at cs k)

-- 1 where a cell's count is 0, else 0
abbrev pub waits : Cells → ℕ → ℕ
waits cs k = if is_some (link_at cs k) then 1 else 0

-- how often a slot stands in a path
abbrev pub times : ℕ → List ℕ → ℕ
times k [] = 0
times k (j ∷ js) = (if j == k then 1 else 0) + times k js

-- from the head, the links lead through these slots, and no further
abbrev pub Runs : Cells → Option ℕ → List ℕ → Type 0
Runs cs head [] = head ≡ None
Runs cs head (k ∷ ks) = (next : Option ℕ) × (head ≡ Some k) × (link_at cs k ≡ Some next)
    × Runs cs next ks

-- the chain goes through each cell whose count is 0, once
pub record IsChained (cs : Cells) (head : Option ℕ) : Type 0 where
  pub path : List ℕ
  pub runs : Runs cs head path
  pub each : (k : ℕ) → times k path ≡ waits cs k
