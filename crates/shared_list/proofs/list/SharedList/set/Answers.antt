use Rattle.std.proofs.Common.{◌≡◌, ◌++◌, ◌+◌, ◌-◌, ◌<◌, length, slice_set, ap, sym, ◌∙◌, arith}
use Rattle.shared_list.proofs.Changes.{on_ok}
use Rattle.shared_list.proofs.Places.{set_front, set_back}
use Rattle.shared_list.proofs.list.SharedList.set.Goals as goal

pub returns-then-index-len-clause-set : goal.returns-then-index-len-clause-set
returns-then-index-len-clause-set g c =
    let first = c.self.inside.first.items in
    let within : c.args.index < length first = omega (arith, c.if-index-len.true, c.len.ensures, c.self.inside.first.ok.0) in
    sym (set_front first c.self.inside.rest c.args.index c.args.item within)
    ∙ ap (λ xs. slice_set xs c.args.index c.args.item) c.self.view_is

pub returns-clause-set : goal.returns-clause-set
returns-clause-set g c =
    let first = c.self.inside.first.items in
    let j = c.args.index - c.len-2.result in
    let behind : c.args.index ≡ length first + j = omega (arith, c.if-index-len.false, c.len.ensures, c.len-2.ensures, c.self.inside.first.ok.0) in
    on_ok c.set.result
    (λ is. ap (λ xs. first ++ xs) is
    ∙ sym (set_back first c.self.inside.rest c.args.index j c.args.item behind)
    ∙ ap (λ xs. slice_set xs c.args.index c.args.item) c.self.view_is)
    c.set.ensures.set
