-- A jump is written after the code that it passes.
use Rattle.std.proofs.Common.{◌≡◌, ℕ, List, [], ◌∷◌, ◌++◌, length, refl, ap, ◌∙◌, arith, append_assoc, length-append}
use Rattle.std.specs.Prelude.{slice_set}
use Rattle.std.proofs.Math.Seq.{set-append_seam}
use Rattle.ck_code.specs.declared.code.Step.{Step}

-- a first code, a jump that was held behind it, and a second code
pub one_jump : (c0 a b c1 c2 c3 c4 : List Step) (x y : Step) (i : ℕ) → c1 ≡ c0 ++ a → i ≡ length c1
    → c2 ≡ c1 ++ x ∷ [] → c3 ≡ c2 ++ b → c4 ≡ slice_set c3 i y → c4 ≡ c0 ++ (a ++ y ∷ b)
one_jump c0 a b c1 c2 c3 c4 x y i e1 stands e2 e3 e4 =
    e4
    ∙ ap (λ l. slice_set l i y) (e3 ∙ ap (λ l. l ++ b) e2 ∙ append_assoc c1 (x ∷ []) b)
    ∙ ap (λ n. slice_set (c1 ++ x ∷ b) n y) stands
    ∙ set-append_seam c1 x b y
    ∙ ap (λ l. l ++ y ∷ b) e1
    ∙ append_assoc c0 a (y ∷ b)

-- the same with a second jump over a third code: the first goes to what stands behind the second
pub two_jumps : (c0 a b d c1 c2 c3 c4 c5 c6 c7 : List Step) (x1 x2 y1 y2 : Step) (i j : ℕ)
    → c1 ≡ c0 ++ a → i ≡ length c1 → c2 ≡ c1 ++ x1 ∷ [] → c3 ≡ c2 ++ b → j ≡ length c3
    → c4 ≡ c3 ++ x2 ∷ [] → c5 ≡ slice_set c4 i y1 → c6 ≡ c5 ++ d → c7 ≡ slice_set c6 j y2
    → c7 ≡ c0 ++ (a ++ y1 ∷ (b ++ y2 ∷ d))
two_jumps c0 a b d c1 c2 c3 c4 c5 c6 c7 x1 x2 y1 y2 i j e1 at1 e2 e3 at2 e4 e5 e6 e7 =
    let first : c5 ≡ c0 ++ (a ++ y1 ∷ (b ++ x2 ∷ [])) =
    one_jump c0 a (b ++ x2 ∷ []) c1 c2 c4 c5 x1 y1 i e1 at1 e2
    (e4 ∙ ap (λ l. l ++ x2 ∷ []) e3 ∙ append_assoc c2 b (x2 ∷ [])) e5 in
    let shape : c5 ≡ (c0 ++ (a ++ y1 ∷ b)) ++ x2 ∷ [] = first ∙ (simp append_assoc) in
    let len1 = ap (length {A = Step}) e1 ∙ length-append c0 a in
    let len2 = ap (length {A = Step}) e2 ∙ length-append c1 (x1 ∷ []) in
    let len3 = ap (length {A = Step}) e3 ∙ length-append c2 b in
    let stands : j ≡ length (c0 ++ (a ++ y1 ∷ b)) =
    omega (arith, at2, len1, len2, len3, length-append c0 (a ++ y1 ∷ b), length-append a (y1 ∷ b)) in
    one_jump c0 (a ++ y1 ∷ b) d (c0 ++ (a ++ y1 ∷ b)) c5 c6 c7 x2 y2 j refl stands shape e6 e7
    ∙ (simp append_assoc)
