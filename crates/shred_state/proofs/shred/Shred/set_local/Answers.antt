use Rattle.std.proofs.Common.{ap, ◌∙◌, sym, Some}
use Rattle.shred_state.proofs.Laid.{set_done, get_done}
use Rattle.shred_state.proofs.shred.Shred.set_local.Goals as goal

pub returns-clause-new : goal.returns-clause-new
returns-clause-new c =
    let s = c.self.inside in
    rw c.replace.ensures.after
    (set_done s.number s.parent s.turns s.last s.values.items s.top _ c.args.i c.args.v _
    c.self.invariant.laid c.self.view_is c.requires)

pub returns-clause-old : goal.returns-clause-old
returns-clause-old c =
    get_done c.self.inside.values.items c.self.inside.top c.args.i _ _ c.self.invariant.laid.1
    (ap (λ s. s.top) c.self.view_is) c.requires
    ∙ ap Some (sym (c.replace.ensures.value ∙ c.index_mut.ensures.value))
