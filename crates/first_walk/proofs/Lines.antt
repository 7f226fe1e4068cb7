-- The lines of classes: each leads up to Object, class by class.
use Rattle.std.proofs.Common.{◌≡◌, ℕ, zero, suc, ◌<◌, Bool, true, false, ◌||◌, nat_eq, List, [], ◌∷◌, drop, slice_get, Option, Some, None, if◌then◌else◌, refl, sym, ap, ◌∙◌, subst, arith}
use Rattle.std.proofs.lemmas.Bool.{eqb-true, eqb-false, ne_eqb}
use Rattle.ck_base.specs.declared.limits.TheConstants.{MAX_ANCESTORS}
use Rattle.type_rules.specs.Fitting.{parent_or, below, is_below}
use Rattle.type_table.specs.Table.{Table, line_within, line_by, line, parent, ancestors}
use Rattle.type_table.proofs.LineEnds.{one_more}
use Rattle.first_walk.proofs.Places.{got, each_at}
use Rattle.type_table.proofs.Ranges.{Each, many}
use Rattle.first_walk.proofs.TableFacts.{IsTable}

-- lines by the parents alone ----------------------------------------------------------------------

module _ (parents : List ℕ) where
  abbrev next : ℕ → ℕ
  next c = parent_or (slice_get parents c)

  step_up : (n c : ℕ) → nat_eq c 0 ≡ false → below parents n c 0 ≡ true → line_within parents n c ≡ c ∷ line_within parents n (next c)
  step_up zero c below_it is = absurd (cc)
  step_up (suc n) c below_it is =
      ap (λ b. c ∷ (if b then [] else line_within parents n (next c))) below_it
      ∙ ap (λ l. c ∷ l) (sym (one_more parents n (next c) (sym (ap (λ b. b || below parents n (next c) 0) below_it) ∙ is)))

  line_steps : (c : ℕ) → nat_eq c 0 ≡ false → is_below parents c 0 ≡ true → line_by parents c ≡ c ∷ line_by parents (next c)
  unfolding line_by is_below
  line_steps c below_it is = step_up MAX_ANCESTORS c below_it is

  line_of_object : line_by parents 0 ≡ 0 ∷ []
  unfolding line_by
  line_of_object = refl

-- what holds of Object, and of a class where it holds of its parent, holds of all
module _ (parents : List ℕ) (n : ℕ) (inner : (c : ℕ) → parent_or (slice_get parents c) < n) (P : ℕ → Type 0) (at_object : P 0)
    (up : (c : ℕ) → c < n → (c ≡ 0 → ⊥) → P (parent_or (slice_get parents c)) → P c) where
  within : (steps c : ℕ) → c < n → below parents steps c 0 ≡ true → P c
  within zero c lt is = subst P (sym (eqb-true c 0 is)) at_object
  within (suc steps) c lt is = go (nat_eq c 0) refl is (within steps (next parents c) (inner c))
    where
      go : (b : Bool) → nat_eq c 0 ≡ b → b || below parents steps (next parents c) 0 ≡ true → (below parents steps (next parents c) 0 ≡ true → P (next parents c)) → P c
      go true at so rest = subst P (sym (eqb-true c 0 at)) at_object
      go false at so rest = up c lt (eqb-false c 0 at) (rest so)

  by_lines : (c : ℕ) → c < n → is_below parents c 0 ≡ true → P c
  unfolding is_below
  by_lines c lt is = within MAX_ANCESTORS c lt is

-- the lines of a table ----------------------------------------------------------------------------

-- classes of a table, each above the one before, up to Object
abbrev pub IsLine : Table → List ℕ → Type 0
IsLine t [] = Unit {0}
IsLine t (c ∷ above) = (c < many t) × (ancestors t c ≡ above) × IsLine t above

module _ (t : Table) (owners : List (Option ℕ)) (is : IsTable t owners) where
  pub parent_is : (c : ℕ) → c < many t → slice_get t.parents c ≡ Some (parent t c)
  parent_is c lt = let p = got t.parents c (omega (arith, lt, is.parents)) in p.1 ∙ ap Some (sym (ap parent_or p.1))

  pub parent_in : (c : ℕ) → parent t c < many t
  parent_in c = go (slice_get t.parents c) (λ p at. each_at (λ d. d < many t) t.parents c p is.inner at)
    where
      go : (o : Option ℕ) → ((p : ℕ) → o ≡ Some p → p < many t) → parent_or o < many t
      go None all = omega (arith, is.two)
      go (Some p) all = all p refl

  pub parent_of_object : parent t 0 ≡ 0
  parent_of_object = ap parent_or is.object

  pub line_0 : line t 0 ≡ 0 ∷ []
  line_0 = line_of_object t.parents

  pub line_up : (c : ℕ) → c < many t → (c ≡ 0 → ⊥) → line t c ≡ c ∷ line t (parent t c)
  line_up c lt other = line_steps t.parents c (ne_eqb c 0 other) (is.lines c lt)

  pub ancestors_0 : ancestors t 0 ≡ []
  ancestors_0 = ap (drop 1) line_0

  pub ancestors_up : (c : ℕ) → c < many t → (c ≡ 0 → ⊥) → ancestors t c ≡ line t (parent t c)
  ancestors_up c lt other = ap (drop 1) (line_up c lt other)

  -- what holds of Object, and of a class where it holds of its parent, holds of all
  pub for_all : (P : ℕ → Type 0) → P 0 → ((c : ℕ) → c < many t → (c ≡ 0 → ⊥) → P (parent t c) → P c) → (c : ℕ) → c < many t → P c
  for_all P at_object up c lt = by_lines t.parents (many t) parent_in P at_object up c lt (is.lines c lt)

  pub object_in : 0 < many t
  object_in = omega (arith, is.two)

  pub line_is : (c : ℕ) → c < many t → IsLine t (line t c)
  line_is = for_all (λ c. IsLine t (line t c))
      (subst (IsLine t) (sym line_0) (object_in, ancestors_0, tt))
      (λ c lt other above. subst (IsLine t) (sym (line_up c lt other)) (lt, ancestors_up c lt other, above))

  line_ins : (l : List ℕ) → IsLine t l → Each (λ c. c < many t) l
  line_ins [] in_line = tt
  line_ins (c ∷ above) in_line = (in_line.0, line_ins above in_line.2)

  pub line_in : (c : ℕ) → c < many t → Each (λ d. d < many t) (line t c)
  line_in c lt = line_ins (line t c) (line_is c lt)
