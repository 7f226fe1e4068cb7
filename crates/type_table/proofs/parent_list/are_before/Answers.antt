use Rattle.std.proofs.Common.{◌≤◌, subst}
use Rattle.type_table.proofs.BelowFacts.{not_before}
use Rattle.type_table.proofs.parent_list.are_before.Goals as goal

pub returns-then-parent_by-first : goal.returns-then-parent_by-first
returns-then-parent_by-first c =
    not_before c.args.parents.now c.args.first c.args.first c.loop-class.class c.loop-class-test.true
    (subst (λ p. c.args.first ≤ p) c.parent_by.ensures c.if-parent_by-first.true)
