use Rattle.std.proofs.Common.{◌≡◌, ◌-◌, ap, ◌∙◌, sym, rules, ◌∷◌, drop, length}
use Rattle.shred_state.proofs.Laid.{top_set}
use Rattle.shred_state.proofs.shred.Shred.set_top.Goals as goal

pub returns-clause-new : goal.returns-clause-new
returns-clause-new c =
    let s = c.self.inside in
    let at : c.len-at.result - 1 ≡ length s.values.items - 1 = search rules in
    let v = c.index_mut.result.now in
    rw c.replace.ensures.after
    (top_set s.number s.parent s.turns s.last s.values.items s.top _ _ v c.args.v _
    c.self.invariant.laid c.self.view_is c.requires at).0

pub returns-clause-old : goal.returns-clause-old
returns-clause-old c =
    let s = c.self.inside in
    let at : c.len-at.result - 1 ≡ length s.values.items - 1 = search rules in
    let was = c.replace.ensures.value ∙ c.index_mut.ensures.value in
    let held = (top_set s.number s.parent s.turns s.last s.values.items s.top _ _ _ c.args.v _
    c.self.invariant.laid c.self.view_is c.requires at).1 in
    held ∙ ap (λ v. v ∷ drop 1 c.args.self.now.top.operands) (sym was)
