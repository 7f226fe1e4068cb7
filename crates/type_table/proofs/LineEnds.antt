-- A line that ends with Object is the whole line of its class.
use Rattle.std.proofs.Common.{◌≡◌, ℕ, zero, suc, ◌+◌, ◌-◌, ◌≤◌, Bool, true, false, ◌||◌, nat_eq, List, [], ◌∷◌, slice_get, if◌then◌else◌, refl, sym, ap, ◌∙◌, arith}
use Rattle.ck_base.specs.declared.limits.TheConstants.{MAX_ANCESTORS}
use Rattle.type_rules.specs.Fitting.{parent_or, below}
use Rattle.type_table.specs.Table.{line_within, line_by}
use Rattle.type_table.specs.Lines.{classes_by}
use Rattle.type_table.specs.declared.line.Line.{Line}

module _ (parents : List ℕ) where
  abbrev next : ℕ → ℕ
  next c = parent_or (slice_get parents c)

  -- more steps lead to Object too
  still_below : (n c : ℕ) → below parents n c 0 ≡ true → below parents (suc n) c 0 ≡ true
  still_below zero c is = ap (λ b. b || below parents zero (next c) 0) is
  still_below (suc n) c is = go (nat_eq c 0) is (still_below n (next c))
    where
      go : (b : Bool) → b || below parents n (next c) 0 ≡ true → (below parents n (next c) 0 ≡ true → below parents (suc n) (next c) 0 ≡ true)
          → b || below parents (suc n) (next c) 0 ≡ true
      go true at more = refl
      go false at more = more at

  -- a line that reaches Object doesn't grow by more steps
  pub one_more : (n c : ℕ) → below parents n c 0 ≡ true → line_within parents (suc n) c ≡ line_within parents n c
  one_more zero c is = ap (λ b. c ∷ (if b then [] else line_within parents zero (next c))) is
  one_more (suc n) c is = go (nat_eq c 0) is (one_more n (next c))
    where
      go : (b : Bool) → b || below parents n (next c) 0 ≡ true → (below parents n (next c) 0 ≡ true → line_within parents (suc n) (next c) ≡ line_within parents n (next c))
          → c ∷ (if b then [] else line_within parents (suc n) (next c)) ≡ c ∷ (if b then [] else line_within parents n (next c))
      go true at more = refl
      go false at more = ap (λ l. c ∷ l) (more at)

  many_more : (k n m c : ℕ) → m ≡ k + n → below parents n c 0 ≡ true → line_within parents m c ≡ line_within parents n c
  many_more zero n m c long is =
      let same : m ≡ n = omega (arith, long) in
      ap (λ s. line_within parents s c) same
  many_more (suc k) n m c long is =
      let rest : m ≡ k + suc n = omega (arith, long) in
      many_more k (suc n) m c rest (still_below n c is) ∙ one_more n c is

  pub ends_whole : (n c : ℕ) → n ≤ MAX_ANCESTORS → below parents n c 0 ≡ true → line_within parents n c ≡ line_by parents c
  unfolding line_by
  ends_whole n c le is =
      let long : MAX_ANCESTORS ≡ (MAX_ANCESTORS - n) + n = omega (arith, le) in
      sym (many_more (MAX_ANCESTORS - n) n MAX_ANCESTORS c long is)

pub whole_line : (parents : List ℕ) (l : Line) → l.steps ≤ MAX_ANCESTORS → below parents l.steps l.class 0 ≡ true → classes_by parents l ≡ line_by parents l.class
unfolding classes_by
whole_line parents l le is = ends_whole parents l.steps l.class le is
