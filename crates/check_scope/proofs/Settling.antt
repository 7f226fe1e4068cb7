-- What is found of the types that were settled, once one more was.
use Rattle.std.proofs.Common.{◌≡◌, ℕ, Bool, true, false, cond, nat_eq, List, [], ◌∷◌, ◌++◌, Option, Some, None, refl, sym, ap, ◌∙◌, true≢false}
use Rattle.std.specs.BTreeMap.{is_at}
use Rattle.std.specs.Cmp.{unsigned_tied}
use Rattle.std.specs.Option.{option_map, is_some}
use Rattle.std.specs.Ordering.{nat_cmp}
use Rattle.std.proofs.lemmas.Bool.{eqb-true}
use Rattle.ck_values.specs.declared.kind.Kind.{Kind}
use Rattle.type_table.specs.Names.{or_else}
use Rattle.check_scope.specs.Scope.{settled_at}

-- the test of a map's numbers is that of lists
pub at_number : (n m : ℕ) → is_at (nat_cmp n) m ≡ nat_eq n m
at_number n m = unsigned_tied n m

abbrev pub kind_at : ℕ → List (ℕ × Kind) → Option Kind
kind_at i settled = option_map (λ one. one.1) (settled_at i settled)

-- one more stands behind all others
pub found_end : (i j : ℕ) (k : Kind) (settled : List (ℕ × Kind))
    → settled_at i (settled ++ (j, k) ∷ []) ≡ or_else (settled_at i settled) (cond (nat_eq j i) (Some (j, k)) None)
found_end i j k [] = refl
found_end i j k (one ∷ settled) = by (nat_eq one.0 i) (found_end i j k settled)
  where
    by : (b : Bool)
        → settled_at i (settled ++ (j, k) ∷ []) ≡ or_else (settled_at i settled) (cond (nat_eq j i) (Some (j, k)) None)
        → cond b (Some one) (settled_at i (settled ++ (j, k) ∷ []))
        ≡ or_else (cond b (Some one) (settled_at i settled)) (cond (nat_eq j i) (Some (j, k)) None)
    by true behind = refl
    by false behind = behind

-- the number was there: the first of it counts
pub found_still : (i j : ℕ) (k : Kind) (settled : List (ℕ × Kind)) → true ≡ is_some (kind_at j settled)
    → kind_at i (settled ++ (j, k) ∷ []) ≡ kind_at i settled
found_still i j k settled there =
    ap (option_map (λ one. one.1)) (found_end i j k settled) ∙ by (nat_eq j i) refl (settled_at i settled) refl
  where
    by : (b : Bool) → nat_eq j i ≡ b → (o : Option (ℕ × Kind)) → settled_at i settled ≡ o
        → option_map (λ (one : ℕ × Kind). one.1) (or_else o (cond b (Some (j, k)) None))
        ≡ option_map (λ (one : ℕ × Kind). one.1) o
    by b same (Some one) is = refl
    by false other None is = refl
    by true same None is = absurd (true≢false (there ∙ ap (λ n. is_some (kind_at n settled)) (eqb-true j i same)
        ∙ ap (λ o. is_some (option_map (λ (one : ℕ × Kind). one.1) o)) is))

-- it wasn't: now it has this kind
pub found_new : (i j : ℕ) (k : Kind) (settled : List (ℕ × Kind)) → false ≡ is_some (kind_at j settled)
    → kind_at i (settled ++ (j, k) ∷ []) ≡ cond (nat_eq j i) (Some k) (kind_at i settled)
found_new i j k settled none =
    ap (option_map (λ one. one.1)) (found_end i j k settled) ∙ by (nat_eq j i) refl (settled_at i settled) refl
  where
    by : (b : Bool) → nat_eq j i ≡ b → (o : Option (ℕ × Kind)) → settled_at i settled ≡ o
        → option_map (λ (one : ℕ × Kind). one.1) (or_else o (cond b (Some (j, k)) None))
        ≡ cond b (Some k) (option_map (λ (one : ℕ × Kind). one.1) o)
    by false other None is = refl
    by false other (Some one) is = refl
    by true same None is = refl
    by true same (Some one) is = absurd (true≢false
        (sym (none ∙ ap (λ n. is_some (kind_at n settled)) (eqb-true j i same)
        ∙ ap (λ o. is_some (option_map (λ (one : ℕ × Kind). one.1) o)) is)))
