use Rattle.std.proofs.Common.{sym, ap, ◌∙◌, ◌<◌}
use Rattle.live_shreds.specs.Live.{numbered, without}
use Rattle.live_shreds.proofs.Counts.{found_has}
use Rattle.live_shreds.proofs.Entries.{lookup-live, all-older}
use Rattle.live_shreds.proofs.Tied.{left, tied_left, tied_as, with_none}
use Rattle.live_shreds.proofs.shreds.Shreds.remove.Goals as goal

pub invariant_of-self : goal.invariant_of-self
invariant_of-self c =
    let n = c.args.number in
    tied_as c.self.inside.live c.self.inside.children c.self.invariant _ c.remove.ensures.ordered
    (with_none c.remove.result _ (c.in_err-shred.was) c.remove.ensures.unchanged)

pub returns-in_err-shred-clause-live : goal.returns-in_err-shred-clause-live
returns-in_err-shred-clause-live c =
    c.from_residual.ensures ∙ sym c.in_err-shred.was ∙ c.remove.ensures.value
    ∙ lookup-live c.args.number c.self.inside.live.entries c.self.invariant.named
    ∙ ap (numbered c.args.number) c.self.view_is

pub returns-in_err-shred-clause-without : goal.returns-in_err-shred-clause-without
returns-in_err-shred-clause-without c =
    left c.self.inside.live c.self.inside.children c.self.invariant c.args.number _ c.remove.ensures.entries
    ∙ ap (without c.args.number) c.self.view_is

pub invariant_of-self-2 : goal.invariant_of-self-2
invariant_of-self-2 c =
    tied_left c.self.inside.live c.self.inside.children c.self.invariant c.args.number _ _
    c.remove.ensures.ordered c.remove.ensures.entries c.remove-2.ensures.without

pub returns-clause-live : goal.returns-clause-live
returns-clause-live c =
    sym c.in_ok-shred.was ∙ c.remove.ensures.value
    ∙ lookup-live c.args.number c.self.inside.live.entries c.self.invariant.named
    ∙ ap (numbered c.args.number) c.self.view_is

pub returns-clause-older : goal.returns-clause-older
returns-clause-older c =
    found_has (λ s. s.parent < s.number) _ _ _
    (all-older c.self.inside.live.entries c.self.invariant.named)
    (sym (lookup-live c.args.number c.self.inside.live.entries c.self.invariant.named)
    ∙ sym c.remove.ensures.value ∙ c.in_ok-shred.was)

pub returns-clause-without : goal.returns-clause-without
returns-clause-without c =
    left c.self.inside.live c.self.inside.children c.self.invariant c.args.number _ c.remove.ensures.entries
    ∙ ap (without c.args.number) c.self.view_is
