-- The turns of the nodes in a sample.
use Rattle.std.specs.Prelude.{◌≡◌, ℕ, ◌-◌, nat_eq, ◌<◌, ◌≤◌, false, List, [], ◌∷◌, Option, Some, None}
use Rattle.std.specs.Prelude.{if◌then◌else◌}
use Rattle.std.specs.List.{All, flat_map, range_with_len}
use Rattle.ugen_sample.specs.Connection.{Connection}
use Rattle.ugen_sample.specs.Order.{sources_of}
use Rattle.ugen_sample.specs.Sample.{dac}
use Rattle.ugen_graph.specs.declared.turn.Turn.{Turn}
use Rattle.ugen_graph.specs.declared.turn.Turn.TheVariants.{Alone, Fed, Joined}

-- whose turn it is, one after another
abbrev pub nodes_of : Turn → List ℕ
nodes_of (Alone first end) = range_with_len first (end - first)
nodes_of (Fed n m) = n ∷ []
nodes_of (Joined n) = n ∷ []

-- whether it is the turn of some of so many nodes, and of such sources
abbrev pub IsTurn : ℕ → List Connection → Turn → Type 0
IsTurn size connections (Alone first end) =
    (dac < first) × (first < end) × (end ≤ size)
    × ((n : ℕ) → first ≤ n → n < end → sources_of connections n ≡ [])
IsTurn size connections (Fed n m) =
    (n < size) × (nat_eq n dac ≡ false) × (sources_of connections n ≡ m ∷ []) × (m < size)
IsTurn size connections (Joined n) = n < size

-- two turns as one, where they are of nodes without sources that stand side by side
abbrev pub as_one : Turn → Turn → Option Turn
as_one (Alone first end) (Alone next after) =
    if nat_eq end next then Some (Alone first after) else None
as_one turn next = None

-- the nodes have their turns in this order
pub record AreTurns (size : ℕ) (connections : List Connection) (order : List ℕ)
    (turns : List Turn) : Type 0 where
  pub nodes : flat_map nodes_of turns ≡ order
  pub each : All (IsTurn size connections) turns
