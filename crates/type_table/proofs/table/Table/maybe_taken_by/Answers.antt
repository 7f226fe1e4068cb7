use Rattle.std.proofs.Common.{length, subst}
use Rattle.type_table.specs.Descendants.{AreAllBelow}
use Rattle.type_table.specs.MemberIndex.{AreAllWith}
use Rattle.type_table.proofs.TakingFacts.{either_all}
use Rattle.type_table.proofs.table.Table.maybe_taken_by.Goals as goal

pub returns-in-Some : goal.returns-in-Some
returns-in-Some c =
    either_all c.args.self.now c.args.name.now c.args.class c.in-Some.below.now c.owners-owners.result.now c.cheaper.result.now c.cheaper.ensures
    (subst (λ t. AreAllBelow t.parents c.args.class (length t.classes) c.in-Some.below.now) c.self.view_is
    (subst (λ n. AreAllBelow c.self.inside.parents c.args.class n c.in-Some.below.now) c.len.ensures c.in-Some.ensures))
    (subst (λ t. AreAllWith t.classes c.args.name.now c.owners-owners.result.now) c.self.view_is c.owners-owners.ensures)
