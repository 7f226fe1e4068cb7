use Rattle.std.proofs.Common.{◌≡◌, nat_eq, false, refl, arith, ◌∙◌}
use Rattle.std.proofs.lemmas.Bool.Decides.{nat_tests}
use Rattle.ugen_sample.specs.declared.choices.Channel.TheVariants.{Left, Right}
use Rattle.ugen_sample.specs.Sample.{dac, is_left, is_right, sources_on}
use Rattle.ugen_graph.specs.Wiring.{connections_of}
use Rattle.ugen_graph.proofs.Sounds.{turn_sides, turn_whole, turn_other, turn_wired}
use Rattle.ugen_graph.proofs.Within.{hand_all, side_within}
use Rattle.ugen_graph.proofs.sample.sound_joined.Goals as goal

pub sound_dac-requires-clause-left : goal.sound_dac-requires-clause-left
sound_dac-requires-clause-left c =
    side_within is_left (connections_of c.args.wiring.now.links) c.sources-sources.result.now
    c.left-left.result.now _ c.left-left.ensures (c.sources-sources.ensures.wired dac)
    (rw (← c.requires.count) c.sources-sources.ensures.within)

pub sound_dac-requires-clause-right : goal.sound_dac-requires-clause-right
sound_dac-requires-clause-right c =
    side_within is_right (connections_of c.args.wiring.now.links) c.sources-sources.result.now
    c.right-right.result.now _ c.right-right.ensures (c.sources-sources.ensures.wired dac)
    (rw (← c.requires.count) c.sources-sources.ensures.within)

pub returns-then-right-mine : goal.returns-then-right-mine
returns-then-right-mine c =
    let cs = connections_of c.args.wiring.now.links in
    let sources = c.sources-sources.result.now in
    let left = c.left-left.result.now in
    let right = c.right-right.result.now in
    turn_wired cs sources left right c.args.nodes.now c.sound_dac_whole.new.nodes c.args.n
    c.sources-sources.ensures.wired c.left-left.ensures c.right-right.ensures
    (turn_whole sources left right c.nodes-mine.result.now c.index-sources-n.result
    c.args.nodes.now c.sound_dac_whole.new.nodes c.args.n c.if-n-eq0.true
    (rw (c.sources-sources.ensures.count, c.requires.count) c.requires.node)
    (c.nodes-mine.ensures ∙ c.index-sources-n.is)
    (hand_all is_left cs sources left c.left-left.ensures (c.sources-sources.ensures.wired dac))
    (hand_all is_right cs sources right c.right-right.ensures (c.sources-sources.ensures.wired dac))
    c.if-left-mine.true c.if-right-mine.true c.sound_dac_whole.ensures)

pub returns-else-left-mine : goal.returns-else-left-mine
returns-else-left-mine c =
    turn_wired (connections_of c.args.wiring.now.links) c.sources-sources.result.now c.left-left.result.now
    c.right-right.result.now c.args.nodes.now c.sound_dac.new.nodes c.args.n c.sources-sources.ensures.wired
    c.left-left.ensures c.right-right.ensures (turn_sides _ _ _ _ _ _ c.if-n-eq0.true c.sound_dac.ensures)

pub returns-else-n-eq0 : goal.returns-else-n-eq0
returns-else-n-eq0 c =
    let f = c.if-n-eq0.false in
    let other : nat_eq c.args.n 0 ≡ false = grind (arith, nat_tests) in
    let cs = connections_of c.args.wiring.now.links in
    let left = sources_on cs Left dac in
    let right = sources_on cs Right dac in
    turn_wired cs c.sources-sources.result.now left right c.args.nodes.now c.sound_from.new.nodes c.args.n
    c.sources-sources.ensures.wired refl refl
    (turn_other c.sources-sources.result.now left right c.nodes-mine.result.now
    c.index-sources-n.result c.args.nodes.now c.sound_from.new.nodes c.args.n other
    (rw (c.sources-sources.ensures.count, c.requires.count) c.requires.node)
    (c.nodes-mine.ensures ∙ c.index-sources-n.is) c.sound_from.ensures)
