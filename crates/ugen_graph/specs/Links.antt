-- The connections, as one is taken out.
use Rattle.std.specs.Prelude.{ℕ, Bool, true, false, ◌&&◌, ◌||◌, nat_eq, Option, Some, None, List, [], ◌∷◌}
use Rattle.ck_values.specs.declared.side.Side.{Side}
use Rattle.ugen_sample.specs.declared.unit.UnitState.{UnitState}
use Rattle.ugen_sample.specs.Connection.{same_side}
use Rattle.ugen_sample.specs.UnitState.{Units, unit_at}
use Rattle.ugen_graph.specs.declared.link.Link.{Link}

-- the earliest connection that passes a test
abbrev pub earliest : (Link → Bool) → List Link → Option Link
earliest test [] = None
earliest test (l ∷ ls) = elim (test l) [ true ↦ Some l | false ↦ earliest test ls ]

-- the connections without that one
abbrev pub without : (Link → Bool) → List Link → List Link
without test [] = []
without test (l ∷ ls) = elim (test l) [ true ↦ ls | false ↦ l ∷ without test ls ]

-- whether a connection leads from one node to this side of another
abbrev pub leads : (from to : ℕ) → Side → Link → Bool
leads from to side l = nat_eq l.from.node from && nat_eq l.to.node to && same_side l.side side

-- whether this shred made a unit generator
abbrev pub is_made_by : (maker : ℕ) → Option UnitState → Bool
is_made_by maker None = false
is_made_by maker (Some unit) = nat_eq unit.maker maker

-- whether a connection touches a unit generator that this shred made
abbrev pub touches : Units → (maker : ℕ) → Link → Bool
touches units maker l =
    is_made_by maker (unit_at units l.from.node) || is_made_by maker (unit_at units l.to.node)

-- whether a connection touches this node
abbrev pub is_at : ℕ → Link → Bool
is_at n l = nat_eq l.from.node n || nat_eq l.to.node n
