use Rattle.std.proofs.Common.{◌≤◌, Some, subst}
use Rattle.type_table.specs.Descendants.{AreBelowLists}
use Rattle.type_table.proofs.BelowFacts.{below_found}
use Rattle.type_table.proofs.parent_list.Parents.below.Goals as goal

pub returns-in-Some : goal.returns-in-Some
returns-in-Some c =
    below_found (λ b. b.now) c.args.self.now c.self.inside.first c.args.many c.args.class c.in-Some.lists c.get.result
    (subst (λ parents. AreBelowLists parents c.self.inside.first (Some c.in-Some.lists)) c.self.view_is
    (subst (AreBelowLists c.self.inside.all.items c.self.inside.first) c.in-Some.is c.self.invariant))
    (subst (λ n. c.args.many ≤ n) c.len.ensures c.if-many-len.false)
    c.if-class-self.false c.get.ensures
