use Rattle.std.proofs.Common.{sym, ap, subst}
use Rattle.type_table.specs.NameMarks.{AreKnown}
use Rattle.type_table.specs.Table.{Class}
use Rattle.type_table.proofs.MarkFacts.{new_known}
use Rattle.type_table.proofs.class_list.Classes.add.Goals as goal

pub invariant_of-self-2 : goal.invariant_of-self-2
invariant_of-self-2 c =
    subst (λ all. AreKnown all c.self.inside.owners c.self.inside.members c.self.inside.slots)
    (sym c.in_ok-push.ensures.items)
    (new_known c.self.inside.all.items c.self.inside.owners c.self.inside.members c.self.inside.slots c.named.result
    (ap (λ (k : Class). k.members) c.named.ensures) c.self.invariant)
