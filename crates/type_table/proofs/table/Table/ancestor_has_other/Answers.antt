use Rattle.std.proofs.Common.{length, sym, subst}
use Rattle.std.proofs.lemmas.Bool.{eqb-true}
use Rattle.type_table.specs.Table.{ancestors}
use Rattle.type_table.specs.MemberIndex.{AreAllWith}
use Rattle.type_table.proofs.TakingFacts.{nobody}
use Rattle.type_table.proofs.table.Table.ancestor_has_other.Goals as goal

pub returns-then-is_empty : goal.returns-then-is_empty
returns-then-is_empty c =
    nobody c.args.self.now c.args.name.now c.owners.result.now (eqb-true (length c.owners.result.now) 0 (sym c.if-is_empty.ensures))
    (subst (λ t. AreAllWith t.classes c.args.name.now c.owners.result.now) c.self.view_is c.owners.ensures) c.args.beside_fun (ancestors c.args.self.now c.args.class)
