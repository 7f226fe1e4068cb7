-- Lines of classes, as parents are added.
use Rattle.std.proofs.Common.{◌≡◌, ℕ, zero, suc, ◌<◌, Bool, true, false, ◌||◌, nat_eq, List, [], ◌∷◌, drop, slice_get, if◌then◌else◌, refl, ap, ◌∙◌}
use Rattle.ck_base.specs.declared.limits.TheConstants.{MAX_ANCESTORS}
use Rattle.type_rules.specs.Fitting.{parent_or, below, is_below}
use Rattle.type_table.specs.Table.{line_within, line_by}
use Rattle.type_table.proofs.Ranges.{Each}

pub parent_in : (m : ℕ) → 0 < m → (p : List ℕ) (c : ℕ) → Each (λ x. x < m) p → parent_or (slice_get p c) < m
parent_in m some [] c all = some
parent_in m some (x ∷ p) zero all = all.0
parent_in m some (x ∷ p) (suc c) all = parent_in m some p c all.1

-- q has the parents of p, and more
module _ (p q : List ℕ) (m : ℕ) (some : 0 < m) (same : (c : ℕ) → c < m → slice_get q c ≡ slice_get p c) (inner : Each (λ x. x < m) p) where
  below_same : (n c d : ℕ) → c < m → below q n c d ≡ below p n c d
  below_same zero c d lt = refl
  below_same (suc n) c d lt = ap (λ o. nat_eq c d || below q n (parent_or o) d) (same c lt) ∙ ap (λ b. nat_eq c d || b) (below_same n (parent_or (slice_get p c)) d (parent_in m some p c inner))

  within_same : (n c : ℕ) → c < m → line_within q n c ≡ line_within p n c
  within_same zero c lt = refl
  within_same (suc n) c lt =
      ap (λ o. c ∷ (if nat_eq c 0 then [] else line_within q n (parent_or o))) (same c lt)
      ∙ ap (λ l. c ∷ (if nat_eq c 0 then [] else l)) (within_same n (parent_or (slice_get p c)) (parent_in m some p c inner))

  pub is_below_same : (c d : ℕ) → c < m → is_below q c d ≡ is_below p c d
  unfolding is_below
  is_below_same c d lt = below_same MAX_ANCESTORS c d lt

  pub line_by_same : (c : ℕ) → c < m → line_by q c ≡ line_by p c
  unfolding line_by
  line_by_same c lt = within_same MAX_ANCESTORS c lt

module _ (p : List ℕ) (m : ℕ) (some : 0 < m) (inner : Each (λ x. x < m) p) where
  within_in : (n c : ℕ) → c < m → Each (λ x. x < m) (line_within p n c)
  within_in zero c lt = (lt, tt)
  within_in (suc n) c lt = (lt, go (nat_eq c 0) (within_in n (parent_or (slice_get p c)) (parent_in m some p c inner)))
    where
      go : (b : Bool) → Each (λ x. x < m) (line_within p n (parent_or (slice_get p c))) → Each (λ x. x < m) (if b then [] else line_within p n (parent_or (slice_get p c)))
      go true rest = tt
      go false rest = rest

  -- all of a line are classes
  pub line_in : (c : ℕ) → c < m → Each (λ x. x < m) (line_by p c)
  unfolding line_by
  line_in c lt = within_in MAX_ANCESTORS c lt

pub each_drop : (m : ℕ) (l : List ℕ) → Each (λ x. x < m) l → Each (λ x. x < m) (drop 1 l)
each_drop m [] all = tt
each_drop m (x ∷ l) all = all.1

-- a child of Object stands below it
object_below : (p : List ℕ) (n : ℕ) → below p n 0 0 ≡ true
object_below p zero = refl
object_below p (suc n) = refl

child_below : (p : List ℕ) (n c : ℕ) → parent_or (slice_get p c) ≡ 0 → below p (suc n) c 0 ≡ true
child_below p n c is = ap (λ d. nat_eq c 0 || below p n d 0) is ∙ ap (λ b. nat_eq c 0 || b) (object_below p n) ∙ or_true (nat_eq c 0)
  where
    or_true : (b : Bool) → b || true ≡ true
    or_true true = refl
    or_true false = refl

pub child_is_below : (p : List ℕ) (c : ℕ) → parent_or (slice_get p c) ≡ 0 → is_below p c 0 ≡ true
unfolding is_below
child_is_below p c is = child_below p 127 c is
