-- Two rows of types, compared one by one.
use Rattle.std.proofs.Common.{◌≡◌, ℕ, zero, suc, ◌+◌, ◌<◌, ◌≤◌, Bool, true, false, ◌&&◌, List, [], ◌∷◌, length, drop, get_or, refl, ap, ◌∙◌, arith, add-one}
use Rattle.ck_values.specs.declared.kind.Kind.{Kind}
use Rattle.first_walk.specs.FirstWalk.{same_kind, same_kinds}

pub unlike : (a b : List Kind) → (length a ≡ length b → ⊥) → same_kinds a b ≡ false
unlike [] [] other = absurd (other refl)
unlike [] (y ∷ b) other = refl
unlike (x ∷ a) [] other = refl
unlike (x ∷ a) (y ∷ b) other = ap (λ s. same_kind x y && s) (unlike a b (λ e. other (omega (arith, e)))) ∙ no (same_kind x y)
  where
    no : (s : Bool) → s && false ≡ false
    no true = refl
    no false = refl

cut : (a b : List Kind) (i : ℕ) (d : Kind) → length a ≡ length b → i < length a → same_kinds (drop i a) (drop i b) ≡ same_kind (get_or a i d) (get_or b i d) && same_kinds (drop (i + 1) a) (drop (i + 1) b)
cut [] b i d same lt = absurd (omega (arith, lt))
cut (x ∷ a) [] i d same lt = absurd (omega (arith, same))
cut (x ∷ a) (y ∷ b) zero d same lt = refl
cut (x ∷ a) (y ∷ b) (suc i) d same lt = rw add-one (cut a b i d (omega (arith, same)) (omega (arith, lt)) ∙ rw add-one refl)

pub same_next : (a b : List Kind) (i : ℕ) (d : Kind) → length a ≡ length b → i < length a → same_kind (get_or a i d) (get_or b i d) ≡ true → same_kinds (drop i a) (drop i b) ≡ same_kinds (drop (i + 1) a) (drop (i + 1) b)
same_next a b i d same lt is = cut a b i d same lt ∙ ap (λ s. s && same_kinds (drop (i + 1) a) (drop (i + 1) b)) is

pub other_here : (a b : List Kind) (i : ℕ) (d : Kind) → length a ≡ length b → i < length a → same_kind (get_or a i d) (get_or b i d) ≡ false → same_kinds (drop i a) (drop i b) ≡ false
other_here a b i d same lt is = cut a b i d same lt ∙ ap (λ s. s && same_kinds (drop (i + 1) a) (drop (i + 1) b)) is

pub same_end : (a b : List Kind) (i : ℕ) → length a ≡ length b → length a ≤ i → same_kinds (drop i a) (drop i b) ≡ true
same_end [] [] zero same le = refl
same_end [] [] (suc i) same le = refl
same_end [] (y ∷ b) i same le = absurd (omega (arith, same))
same_end (x ∷ a) [] i same le = absurd (omega (arith, same))
same_end (x ∷ a) (y ∷ b) zero same le = absurd (omega (arith, le))
same_end (x ∷ a) (y ∷ b) (suc i) same le = same_end a b i (omega (arith, same)) (omega (arith, le))
