use Rattle.std.proofs.Common.{◌≡◌, ◌+◌, ◌-◌, ◌≤◌, take, length, vec_len, vec_capacity, List}
use Rattle.ugen_sample.specs.Connection.{Connection}
use Rattle.ugen_graph.specs.Turns.{AreTurns}
use Rattle.ugen_graph.specs.Wires.{IsWired}
use Rattle.ugen_graph.proofs.turn.find_turns.Given as goal

abbrev pub invariant-loop-n : goal.invariant-loop-n
invariant-loop-n l =
    record {
      found : (cs : List Connection) → IsWired cs l.sources
          → AreTurns (length l.sources) cs (take l.n-index l.order) l.turns.items;
      room : vec_len l.turns + (length l.order - l.n-index) ≤ vec_capacity l.turns;
      capacity : vec_capacity l.turns ≡ vec_capacity l.fn.turns;
    }
