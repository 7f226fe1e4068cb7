-- Codes put one after another.
use Rattle.std.proofs.Common.{◌≡◌, List, ◌++◌, sym, ap, ◌∙◌, append_assoc}
use Rattle.ck_code.specs.declared.code.Step.{Step}

-- a code, then a second one
pub one_after : (c0 c1 c2 a b whole : List Step) → c1 ≡ c0 ++ a → c2 ≡ c1 ++ b → whole ≡ a ++ b
    → c2 ≡ c0 ++ whole
one_after c0 c1 c2 a b whole e1 e2 is =
    e2 ∙ ap (λ c. c ++ b) e1 ∙ append_assoc c0 a b ∙ ap (λ c. c0 ++ c) (sym is)
