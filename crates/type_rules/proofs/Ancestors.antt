-- A step from a class to its parent.
use Rattle.std.proofs.Common.{◌≡◌, ℕ, suc, false, ◌||◌, nat_eq, List, sym, ap, ◌∙◌, arith}
use Rattle.std.proofs.lemmas.Bool.Decides.{nat_tests}
use Rattle.std.specs.Prelude.{slice_get}
use Rattle.type_rules.specs.Fitting.{parent_or, below}

pub one_step : (parents : List ℕ) (n m at up d : ℕ) → n ≡ suc m → (at ≡ d → ⊥) → up ≡ parent_or (slice_get parents at) → below parents n at d ≡ below parents m up d
one_step parents n m at up d longer other is =
    let unlike : nat_eq at d ≡ false = grind (arith, nat_tests) in
    ap (λ k. below parents k at d) longer ∙ ap (λ b. b || below parents m (parent_or (slice_get parents at)) d) unlike ∙ ap (λ c. below parents m c d) (sym is)
