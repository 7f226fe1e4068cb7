-- The types of a list, given one after another from the first on.
use Rattle.std.proofs.Common.{◌≡◌, ℕ, zero, suc, List, [], ◌∷◌, length, map, get_or, slice_set, refl, ap}
use Rattle.ck_values.specs.declared.kind.Kind.{Kind}
use Rattle.ck_typed.specs.Standing.{given}

-- so many of them are given
abbrev pub given_first : ℕ → List Kind → List Kind
given_first zero ks = ks
given_first (suc n) [] = []
given_first (suc n) (k ∷ ks) = given k ∷ given_first n ks

pub one_more : (ks : List Kind) (n : ℕ) (k : Kind) → k ≡ get_or (given_first n ks) n k →
    slice_set (given_first n ks) n (given k) ≡ given_first (suc n) ks
one_more [] zero k is = refl
one_more [] (suc n) k is = refl
one_more (j ∷ ks) zero k is = ap (λ g. given g ∷ ks) is
one_more (j ∷ ks) (suc n) k is = ap (λ rest. given j ∷ rest) (one_more ks n k is)

pub all_given : (ks : List Kind) → given_first (length ks) ks ≡ map given ks
all_given [] = refl
all_given (k ∷ ks) = ap (λ rest. given k ∷ rest) (all_given ks)

pub given_length : (n : ℕ) (ks : List Kind) → length (given_first n ks) ≡ length ks
given_length zero ks = refl
given_length (suc n) [] = refl
given_length (suc n) (k ∷ ks) = ap suc (given_length n ks)
