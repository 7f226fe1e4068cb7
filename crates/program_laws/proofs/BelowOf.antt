-- A class that stands below another by its parents does so in the finished classes.
use Rattle.std.proofs.Common.{ℕ, ◌<◌, List, Option, sym, ap, subst}
use Rattle.type_table.specs.Finished.{finished_class, finished_classes}
use Rattle.type_rules.specs.Fitting.{parent_or}
use Rattle.type_table.specs.Table.{Table, parent}
use Rattle.type_table.proofs.Ranges.{many}
use Rattle.first_walk.proofs.TableFacts.{IsTable}
use Rattle.ck_typed.specs.Standing.{IsBelow, itself, step}
use Rattle.first_walk.proofs.Below.{IsBelowBy}
use Rattle.first_walk.proofs.Below as by
use Rattle.program_laws.proofs.Found.{found_at, each_at}
use Rattle.program_laws.proofs.TableLaws.{ClassLaws}

module _ (v : Table) (owners : List (Option ℕ)) (table : IsTable v owners)
    (laws : ClassLaws v owners) where
  -- a class that is there has a parent that is
  pub parent_in : (c : ℕ) → c < many v → parent v c < many v
  parent_in c lt =
      let found = found_at v.parents c (subst (λ n. c < n) (sym table.parents) lt) in
      subst (λ o. parent_or o < many v) (sym found.1)
      (each_at (λ k. k < many v) v.parents c found.0 table.inner found.1)

  pub below_of : (c d : ℕ) → c < many v → IsBelowBy v.parents c d → IsBelow (finished_classes v) c d
  below_of c d lt by.itself = itself
  below_of c d lt (by.up k is above) =
      step (finished_class v c) (laws.finished c lt)
      (subst (λ j. IsBelow (finished_classes v) j d) (ap parent_or (sym is))
      (below_of k d (each_at (λ k. k < many v) v.parents c k table.inner is) above))
