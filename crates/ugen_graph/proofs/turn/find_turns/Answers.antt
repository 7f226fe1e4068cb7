use Rattle.std.proofs.Common.{◌≡◌, ◌++◌, ◌<◌, ℕ, List, [], take, length, slice_index_or, ap, sym, subst, ◌∙◌, arith}
use Rattle.std.specs.List.{All}
use Rattle.std.proofs.lemmas.List.{take_more, get_or_default}
use Rattle.ugen_graph.specs.Turns.{AreTurns}
use Rattle.ugen_graph.proofs.turn.find_turns.Goals as goal

pub loop-n-preserved : goal.loop-n-preserved
loop-n-preserved c =
    let order = c.args.order.now in
    let sources = c.args.sources.now in
    let i = c.loop-n.n-index in
    let n : ℕ = slice_index_or order i 0 in
    let within : n < length sources = c.requires.within i 0 c.loop-n-test.true in
    let read : c.nodes.result.now ≡ slice_index_or sources n [] =
    c.nodes.ensures ∙ c.index-sources-n.is ∙ get_or_default sources n c.index-sources-n.result [] within in
    record {
      found = λ cs wired.
          let turn = c.new.ensures.turn (length sources) cs within
          (subst (All (λ m. m < length sources)) (sym read) (c.requires.sources n [] within))
          (sym (read ∙ wired.wired n)) in
          subst (λ (ns : List ℕ). AreTurns (length sources) cs ns c.add.new.turns.items)
          (ap (λ (ns : List ℕ). take i order ++ ns) c.new.ensures.nodes
          ∙ sym (take_more order i 0 c.loop-n-test.true))
          (c.add.ensures.added (length sources) cs (take i order) (c.loop-n.invariant.found cs wired) turn);
      room = omega (arith, c.loop-n.invariant.room, c.add.ensures.count, c.add.ensures.capacity, c.loop-n-test.true);
      capacity = c.add.ensures.capacity ∙ c.loop-n.invariant.capacity;
    }
