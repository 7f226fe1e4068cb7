use Rattle.std.proofs.Common.{ap, ◌∙◌, ◌≡◌, ◌++◌, ◌∷◌, [], map, drop, reverse, rules}
use Rattle.std.proofs.lemmas.List.{reverse-append, take_rest, drop_min}
use Rattle.shred_state.specs.Frames.{at_place}
use Rattle.shred_state.specs.Values.{first_value}
use Rattle.shred_state.specs.declared.extent.Extent.{Extent}
use Rattle.shred_state.proofs.Laid.{entered_done, depth_is}
use Rattle.shred_state.proofs.shred.Shred.enter.Goals as goal

pub returns-clause-new : goal.returns-clause-new
returns-clause-new c =
    let s = c.self.inside in
    let values = s.values.items in
    let below = s.below.items in
    let firsts = map first_value (drop c.args.params c.args.kinds.now) in
    let caller : Extent = record s.top { place = c.args.back } in
    let pushed : c.push.new.self.items ≡ below ++ caller ∷ [] = search rules in
    let stack : reverse c.push.new.self.items ≡ caller ∷ reverse below =
    ap reverse pushed ∙ reverse-append below (caller ∷ []) in
    let added : c.add_first_values.new.values.items ≡ values ++ firsts =
    search (rules, take_rest, drop_min) in
    rw (stack, added)
    (entered_done s.number s.parent s.turns s.last values _ caller _ c.args.fun c.args.params _ _ _
    c.self.invariant.laid (ap (λ shred. at_place shred c.args.back) c.self.view_is)
    c.requires.operands (search rules) (search rules))

pub returns-clause-free : goal.returns-clause-free
returns-clause-free c =
    let s = c.self.inside in
    let below = ap (λ s. s.below) c.self.view_is in
    rw (depth_is s.values.items s.top s.below.items _ below) (search rules)

pub returns-then-len-ge-MAX_CALLS-clause-refused : goal.returns-then-len-ge-MAX_CALLS-clause-refused
returns-then-len-ge-MAX_CALLS-clause-refused c =
    let s = c.self.inside in
    let below = ap (λ s. s.below) c.self.view_is in
    rw (depth_is s.values.items s.top s.below.items _ below) (search rules)

pub returns-in-Err-clause-refused : goal.returns-in-Err-clause-refused
returns-in-Err-clause-refused c =
    let s = c.self.inside in
    let below = ap (λ s. s.below) c.self.view_is in
    rw (depth_is s.values.items s.top s.below.items _ below) (search rules)

pub returns-in-Err-add_first_values-clause-refused
    : goal.returns-in-Err-add_first_values-clause-refused
returns-in-Err-add_first_values-clause-refused c =
    let s = c.self.inside in
    let below = ap (λ s. s.below) c.self.view_is in
    rw (depth_is s.values.items s.top s.below.items _ below) (search rules)
