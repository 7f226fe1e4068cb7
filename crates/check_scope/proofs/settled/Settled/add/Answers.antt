use Rattle.std.proofs.Common.{sym, ap, ◌∙◌, cond, Some, nat_eq}
use Rattle.std.specs.BTreeMap.{get}
use Rattle.std.specs.Option.{is_some}
use Rattle.std.specs.Ordering.{nat_cmp}
use Rattle.check_scope.proofs.Settling.{at_number, kind_at, found_still, found_new}
use Rattle.check_scope.proofs.settled.Settled.add.Goals as goal

pub invariant_of-self-then-contains_key : goal.invariant_of-self-then-contains_key
invariant_of-self-then-contains_key c =
    let all = c.self.inside.all.items in
    record {
      ordered = c.self.invariant.ordered;
      found = λ i. c.self.invariant.found i
          ∙ sym (found_still i c.args.index c.args.kind all
          (c.if-contains_key.ensures ∙ ap is_some (c.self.invariant.found c.args.index)))
          ∙ ap (kind_at i) (sym c.in_ok-push.ensures.items);
    }

pub invariant_of-self-in_default : goal.invariant_of-self-in_default
invariant_of-self-in_default c =
    let all = c.self.inside.all.items in
    record {
      ordered = c.in_default.ensures.ordered;
      found = λ i. c.in_default.ensures.updates.0 i
          ∙ ap (λ b. cond b (Some c.args.kind) (get nat_cmp c.self.inside.kinds i)) (at_number c.args.index i)
          ∙ ap (cond (nat_eq c.args.index i) (Some c.args.kind)) (c.self.invariant.found i)
          ∙ sym (found_new i c.args.index c.args.kind all
          (c.if-contains_key.ensures ∙ ap is_some (c.self.invariant.found c.args.index)))
          ∙ ap (kind_at i) (sym c.in_ok-push.ensures.items);
    }
