use Rattle.std.proofs.Common.{sym, subst, ap, ◌∙◌, ◌++◌, ◌∷◌, []}
use Rattle.std.specs.BTreeMap.{insert_entry}
use Rattle.std.specs.Ordering.{nat_cmp}
use Rattle.keyed_lists.specs.Keyed
use Rattle.shred_queues.specs.Queues.{arrived}
use Rattle.live_shreds.specs.Live.{AreBelow}
use Rattle.live_shreds.proofs.Tied.{child, no_queue, tied_again, tied_more, joined_values}
use Rattle.live_shreds.proofs.shreds.Shreds.push.Goals as goal

pub push-requires : goal.push-requires
push-requires c = record {
  nowhere =
      no_queue c.self.inside.live c.self.inside.children c.self.invariant c.id-number.result
      (subst (AreBelow c.id-number.result) (sym c.self.view_is)
      (subst (λ n. AreBelow n c.args.self.now) (sym c.id-number.ensures) c.requires.below));
}

pub invariant_of-self-in-Err : goal.invariant_of-self-in-Err
invariant_of-self-in-Err c =
    let n = c.id-number.result in
    tied_again c.self.inside.live c.self.inside.children c.self.invariant n c.parent.result _ _
    (subst (AreBelow n) (sym c.self.view_is)
    (subst (λ n. AreBelow n c.args.self.now) (sym c.id-number.ensures) c.requires.below))
    c.in-Err.ensures.ordered c.in-Err.ensures.err
    (c.remove.ensures.without ∙ ap (Keyed.without child n) c.in_ok-push.ensures.arrived)

pub invariant_of-self-in-Ok : goal.invariant_of-self-in-Ok
invariant_of-self-in-Ok c =
    let s = c.args.shred in
    let es = c.self.inside.live.entries in
    let children = c.self.inside.children in
    tied_more c.self.inside.live children c.self.invariant s
    (subst (AreBelow s.number) (sym c.self.view_is) c.requires.below) _ _ c.requires.older
    c.in-Ok.ensures.ordered
    (c.in-Ok.ensures.entries ∙ ap (λ n. insert_entry nat_cmp es n s) c.id-number.ensures)
    (c.in_ok-push.ensures.arrived
    ∙ ap (λ p. arrived nat_cmp p c.id-number.result children) c.parent.ensures
    ∙ ap (λ n. arrived nat_cmp s.parent n children) c.id-number.ensures)

pub returns-in-Ok-clause-pushed : goal.returns-in-Ok-clause-pushed
returns-in-Ok-clause-pushed c =
    let s = c.args.shred in
    let es = c.self.inside.live.entries in
    joined_values c.self.inside.live c.self.inside.children c.self.invariant s
    (subst (AreBelow s.number) (sym c.self.view_is) c.requires.below) _
    (c.in-Ok.ensures.entries ∙ ap (λ n. insert_entry nat_cmp es n s) c.id-number.ensures)
    ∙ ap (λ ss. ss ++ s ∷ []) c.self.view_is
