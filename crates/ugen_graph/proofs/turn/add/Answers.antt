use Rattle.std.proofs.Common.{sym, ◌∙◌, ◌++◌, ◌∷◌, [], subst, List, ap}
use Rattle.ugen_graph.specs.declared.turn.Turn.{Turn}
use Rattle.ugen_graph.specs.Turns.{AreTurns, nodes_of}
use Rattle.ugen_graph.proofs.Turns.{turn_added, turn_joined}
use Rattle.ugen_graph.proofs.turn.add.Goals as goal

pub returns-in-Some-with-clause-added : goal.returns-in-Some-with-clause-added
returns-in-Some-with-clause-added c = λ size cs ns are right.
    subst (AreTurns size cs (ns ++ nodes_of c.args.turn)) (sym c.push_reserved-in-Some-with.ensures.items)
    (turn_joined size cs ns c.pop.new.self.items c.in-Some.last c.args.turn c.in-Some-with.both
    (subst (AreTurns size cs ns) c.in-Some.ensures.items are) right (sym c.with.ensures ∙ c.in-Some-with.is))

pub returns-in-None-clause-added : goal.returns-in-None-clause-added
returns-in-None-clause-added c = λ size cs ns are right.
    subst (AreTurns size cs (ns ++ nodes_of c.args.turn)) (sym (c.push_reserved-in-None-2.ensures.items
    ∙ ap (λ (ts : List Turn). ts ++ c.args.turn ∷ [])
    (c.push_reserved-in-None.ensures.items ∙ sym c.in-Some.ensures.items)))
    (turn_added size cs ns c.args.turns.now.items c.args.turn are right)
