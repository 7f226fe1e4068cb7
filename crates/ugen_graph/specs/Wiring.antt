-- What contracts see of a graph.
use Rattle.std.specs.Prelude.{◌≡◌, ℕ, nat_lt, List, [], ◌∷◌, ◌++◌, map, length, Some, slice_set, if◌then◌else◌}
use Rattle.ugen_sample.specs.declared.choices.Channel.TheVariants.{Left, Right}
use Rattle.ugen_sample.specs.declared.unit.UnitState.{UnitState}
use Rattle.ugen_sample.specs.Connection.{Connection}
use Rattle.ugen_sample.specs.UnitState.{Units}
use Rattle.ugen_sample.specs.Order.{order, roots}
use Rattle.ugen_sample.specs.Sample.{dac, sources_on}
use Rattle.ugen_graph.specs.declared.link.Link.{Link}
use Rattle.ugen_graph.specs.declared.turn.Turn.{Turn}
use Rattle.ugen_graph.specs.Turns.{AreTurns}

-- a connection, by its nodes
abbrev pub connection_of : Link → Connection
connection_of l = record { from = l.from.node; to = l.to.node; side = l.side }

abbrev pub connections_of : List Link → List Connection
connections_of links = map connection_of links

-- the unit generators by node, and the connections in order
pub record Network : Type 0 where
  pub units : Units
  pub links : List Link

-- a unit generator comes to a node: a free one, or the next one
abbrev pub filled : ℕ → UnitState → Units → Units
filled n unit units =
    if nat_lt n (length units) then slice_set units n (Some unit) else units ++ Some unit ∷ []

-- how many nodes there are, and the connections
pub record Wired : Type 0 where
  pub size : ℕ
  pub links : List Link

-- the same with the order of pull, the turns and the sources of `dac` on each side, as they were found last
pub record Laid : Type 0 where
  pub size : ℕ
  pub links : List Link
  pub order : List ℕ
  pub turns : List Turn
  pub left : List ℕ
  pub right : List ℕ

abbrev pub wired_of : Laid → Wired
wired_of w = record { size = w.size; links = w.links }

-- they are found anew
abbrev pub found : Laid → (turns : List Turn) → Laid
found w turns =
    record w {
      order = order roots (connections_of w.links);
      turns = turns;
      left = sources_on (connections_of w.links) Left dac;
      right = sources_on (connections_of w.links) Right dac;
    }

-- the turns are those of the order of pull
abbrev pub ArePulled : ℕ → List Connection → List Turn → Type 0
ArePulled size connections turns = AreTurns size connections (order roots connections) turns

-- they are those of the connections
pub record IsFound (w : Laid) : Type 0 where
  pub order : w.order ≡ order roots (connections_of w.links)
  pub turns : ArePulled w.size (connections_of w.links) w.turns
  pub left : w.left ≡ sources_on (connections_of w.links) Left dac
  pub right : w.right ≡ sources_on (connections_of w.links) Right dac
