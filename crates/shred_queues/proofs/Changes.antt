-- Lists of places and shreds: what is put, found and taken out.
use Rattle.std.proofs.Common.{◌≡◌, ℕ, ◌+◌, ◌≤◌, inl, inr, Bool, true, false, cond, not, nat_eq, ◌&&◌}
use Rattle.std.proofs.Common.{List, [], ◌∷◌, filter, find, Option, Some, None, refl, sym, ap, ◌∙◌, arith}
use Rattle.std.specs.BTreeMap.{insert_entry, is_at}
use Rattle.std.specs.Cmp.{IsTotalOrder, tied_itself, unsigned_tied}
use Rattle.std.specs.List.{AllByRecursion}
use Rattle.std.specs.List.Sorted.{IsStrictlySortedBy}
use Rattle.std.specs.Map.{keys_of, lookup, remove_entry}
use Rattle.std.specs.Option.{option_map}
use Rattle.std.specs.Ordering.{is_eq, nat_cmp, match_ordering, ordering_reverse}
use Rattle.std.specs.declared.cmp.Ordering.{Ordering}
use Rattle.std.specs.declared.cmp.Ordering.TheVariants.{Less, Equal, Greater}
use Rattle.std.proofs.lemmas.Bool.{eq-eqb, ne_eqb, eqb-true, cases_eq}
use Rattle.std.proofs.lemmas.Map.Keys.{sorted_head, sorted_tail}
use Rattle.keyed_lists.proofs.Changes.{hits, hits-same, times-cons, without_none}
use Rattle.shred_queues.specs.Places.{shred_of, times, AreApart, without, place_of, IsFree}

-- the first that a test holds of is the first of those that it holds of
pub found_in_part : {A : Type 0} (p q : A → Bool) → ((x : A) → p x ≡ q x) → (items : List A) (part : List A)
    → part ≡ filter p items → find q items ≡ find (λ _. true) part
found_in_part p q same [] part is = ap (find (λ _. true)) (sym is)
found_in_part p q same (x ∷ items) part is =
    by (p x) refl (found_in_part p q same items (filter p items) refl) ∙ ap (find (λ _. true)) (sym is)
  where
    by : (b : Bool) → p x ≡ b → find q items ≡ find (λ _. true) (filter p items)
        → find q (x ∷ items) ≡ find (λ _. true) (cond b (x ∷ filter p items) (filter p items))
    by true e ih = ap (λ b. cond b (Some x) (find q items)) (sym (same x) ∙ e)
    by false e ih = ap (λ b. cond b (Some x) (find q items)) (sym (same x) ∙ e) ∙ ih

module _ {P : Type 0} where
  -- a shred that stands nowhere has no place
  pub place_none : (n : ℕ) (es : List (P × ℕ)) → times n es ≡ 0 → place_of n es ≡ None
  place_none n [] none = refl
  place_none n (e ∷ es) none =
      let counted : times n (e ∷ es) ≡ hits n e.1 + times n es = times-cons shred_of n e es in
      let other : nat_eq e.1 n ≡ false =
      ne_eqb e.1 n (λ same. omega (arith, none, counted, hits-same n e.1 same)) in
      ap (λ b. option_map (λ (e : P × ℕ). e.0) (cond b (Some e) (find (λ e. nat_eq e.1 n) es))) other
      ∙ place_none n es (omega (arith, none, counted))

  -- what stands behind the first
  pub apart_behind : (e : P × ℕ) (es : List (P × ℕ)) → AreApart (e ∷ es) → AreApart es
  apart_behind e es apart n = omega (arith, apart n, times-cons shred_of n e es)

  pub none_behind : (e : P × ℕ) (es : List (P × ℕ)) → AreApart (e ∷ es) → times e.1 es ≡ 0
  none_behind e es apart =
      omega (arith, apart e.1, times-cons shred_of e.1 e es, hits-same e.1 e.1 refl)

  pub place_behind : (m : ℕ) (e : P × ℕ) (es : List (P × ℕ)) → AreApart (e ∷ es)
      → place_of m es ≡ cond (nat_eq e.1 m) None (place_of m (e ∷ es))
  place_behind m e es apart = by (nat_eq e.1 m) refl
    where
      by : (b : Bool) → nat_eq e.1 m ≡ b
          → place_of m es ≡ cond b None
          (option_map (λ (e : P × ℕ). e.0) (cond b (Some e) (find (λ e. nat_eq e.1 m) es)))
      by true same =
          place_none m es (ap (λ n. times n es) (sym (eqb-true e.1 m same)) ∙ none_behind e es apart)
      by false other = refl

  -- one shred more, before all others
  pub times_front : (m n : ℕ) (k : P) (es : List (P × ℕ)) → times n es ≡ 0 → AreApart es
      → times m ((k, n) ∷ es) ≤ 1
  times_front m n k es none apart = elim (cases_eq n m) [
    | inl same ↦
        let none_now : times m es ≡ 0 = ap (λ n. times n es) (sym same) ∙ none in
        omega (arith, times-cons shred_of m (k, n) es, hits-same m n same, none_now)
    | inr other ↦
        let no_more : hits m n ≡ 0 = ap (λ b. cond b 1 0) (ne_eqb n m other) in
        omega (arith, times-cons shred_of m (k, n) es, no_more, apart m)
  ]

  -- one shred less
  pub place_without : (m n : ℕ) (es : List (P × ℕ))
      → place_of m (without n es) ≡ cond (nat_eq n m) None (place_of m es)
  place_without m n [] = by (nat_eq n m)
    where
      by : (b : Bool) → ◌≡◌ {A = Option P} None (cond b None None)
      by true = refl
      by false = refl
  place_without m n (e ∷ es) = by (nat_eq e.1 n) refl (nat_eq n m) refl (place_without m n es)
    where
      by : (b : Bool) → nat_eq e.1 n ≡ b → (d : Bool) → nat_eq n m ≡ d
          → place_of m (without n es) ≡ cond d None (place_of m es)
          → place_of m (cond (not b) (e ∷ without n es) (without n es))
          ≡ cond d None (place_of m (e ∷ es))
      by true gone true same ih = ih
      by true gone false other ih =
          let apart : nat_eq e.1 m ≡ false =
          ap (λ k. nat_eq k m) (eqb-true e.1 n gone) ∙ other in
          ih ∙ sym (ap (λ b. option_map (λ (e : P × ℕ). e.0) (cond b (Some e) (find (λ e. nat_eq e.1 m) es))) apart)
      by false stays true same ih =
          let apart : nat_eq e.1 m ≡ false =
          ap (nat_eq e.1) (sym (eqb-true n m same)) ∙ stays in
          ap (λ b. option_map (λ (e : P × ℕ). e.0) (cond b (Some e) (find (λ e. nat_eq e.1 m) (without n es)))) apart
          ∙ ih
      by false stays false other ih = at (nat_eq e.1 m)
        where
          at : (b : Bool)
              → option_map (λ (e : P × ℕ). e.0) (cond b (Some e) (find (λ e. nat_eq e.1 m) (without n es)))
              ≡ option_map (λ (e : P × ℕ). e.0) (cond b (Some e) (find (λ e. nat_eq e.1 m) es))
          at true = refl
          at false = ih

  times_left : (m n : ℕ) (es : List (P × ℕ)) → times m (without n es) ≤ times m es
  times_left m n [] = omega arith
  times_left m n (e ∷ es) = by (nat_eq e.1 n) (times_left m n es)
    where
      by : (b : Bool) → times m (without n es) ≤ times m es
          → times m (cond (not b) (e ∷ without n es) (without n es)) ≤ times m (e ∷ es)
      by true ih = omega (arith, ih, times-cons shred_of m e es)
      by false ih =
          omega (arith, ih, times-cons shred_of m e es, times-cons shred_of m e (without n es))

  pub apart_left : (n : ℕ) (es : List (P × ℕ)) → AreApart es → AreApart (without n es)
  apart_left n es apart m = omega (arith, apart m, times_left m n es)

  module _ (R : P → P → Ordering) where
    -- one shred more, at a place that is free
    pub place_put : (m n : ℕ) (k : P) (es : List (P × ℕ)) → IsFree R k es → times n es ≡ 0
        → place_of m (insert_entry R es k n) ≡ cond (nat_eq n m) (Some k) (place_of m es)
    place_put m n k [] free none = by (nat_eq n m)
      where
        by : (b : Bool) → option_map (λ (e : P × ℕ). e.0) (cond b (Some (k, n)) None)
            ≡ cond b (Some k) None
        by true = refl
        by false = refl
    place_put m n k (e ∷ es) free none =
        by (R k e.0) free (λ rest. place_put m n k es rest none_further)
      where
        counted : times n (e ∷ es) ≡ hits n e.1 + times n es
        counted = times-cons shred_of n e es

        none_further : times n es ≡ 0
        none_further = omega (arith, none, counted)

        other : nat_eq e.1 n ≡ false
        other = ne_eqb e.1 n (λ same. omega (arith, none, counted, hits-same n e.1 same))

        before : (b : Bool) → option_map (λ (e : P × ℕ). e.0)
            (cond b (Some (k, n)) (find (λ e. nat_eq e.1 m) (e ∷ es))) ≡ cond b (Some k) (place_of m (e ∷ es))
        before true = refl
        before false = refl

        behind : (b c : Bool) → nat_eq e.1 m ≡ b → nat_eq n m ≡ c
            → place_of m (insert_entry R es k n) ≡ cond c (Some k) (place_of m es)
            → option_map (λ (e : P × ℕ). e.0) (cond b (Some e) (find (λ e. nat_eq e.1 m) (insert_entry R es k n)))
            ≡ cond c (Some k) (option_map (λ (e : P × ℕ). e.0) (cond b (Some e) (find (λ e. nat_eq e.1 m) es)))
        behind true true here there ih =
            let same : nat_eq e.1 n ≡ true =
            eq-eqb e.1 n (eqb-true e.1 m here ∙ sym (eqb-true n m there)) in
            absurd (cc (same, other))
        behind true false here there ih = refl
        behind false c here there ih = ih

        by : (o : Ordering) → cond (is_eq o) (Some e.1) (lookup (is_at (R k)) es) ≡ None
            → (lookup (is_at (R k)) es ≡ None
            → place_of m (insert_entry R es k n) ≡ cond (nat_eq n m) (Some k) (place_of m es))
            → place_of m (match_ordering o ((k, n) ∷ e ∷ es) ((e.0, n) ∷ es) (e ∷ insert_entry R es k n))
            ≡ cond (nat_eq n m) (Some k) (place_of m (e ∷ es))
        by Less is ih = before (nat_eq n m)
        by Equal is ih = absurd (cc is)
        by Greater is ih = behind (nat_eq e.1 m) (nat_eq n m) refl refl (ih is)

    times_put : (m n : ℕ) (k : P) (es : List (P × ℕ)) → IsFree R k es
        → times m (insert_entry R es k n) ≡ hits m n + times m es
    times_put m n k [] free = times-cons shred_of m (k, n) []
    times_put m n k (e ∷ es) free = by (R k e.0) free (times_put m n k es)
      where
        by : (o : Ordering) → cond (is_eq o) (Some e.1) (lookup (is_at (R k)) es) ≡ None
            → (lookup (is_at (R k)) es ≡ None → times m (insert_entry R es k n) ≡ hits m n + times m es)
            → times m (match_ordering o ((k, n) ∷ e ∷ es) ((e.0, n) ∷ es) (e ∷ insert_entry R es k n))
            ≡ hits m n + times m (e ∷ es)
        by Less is ih = times-cons shred_of m (k, n) (e ∷ es)
        by Equal is ih = absurd (cc is)
        by Greater is ih =
            omega (
              arith,
              ih is,
              times-cons shred_of m e es,
              times-cons shred_of m e (insert_entry R es k n),
            )

    pub apart_put : (n : ℕ) (k : P) (es : List (P × ℕ)) → IsFree R k es → times n es ≡ 0
        → AreApart es → AreApart (insert_entry R es k n)
    apart_put n k es free none apart m = elim (cases_eq n m) [
      | inl same ↦
          let none_now : times m es ≡ 0 = ap (λ n. times n es) (sym same) ∙ none in
          omega (arith, times_put m n k es free, hits-same m n same, none_now)
      | inr other ↦
          let no_more : hits m n ≡ 0 = ap (λ b. cond b 1 0) (ne_eqb n m other) in
          omega (arith, times_put m n k es free, no_more, apart m)
    ]

    module _ (o : IsTotalOrder R) where
      -- what stands at the place of a shred is that shred
      behind_first : (n : ℕ) (x k : P) (es : List (P × ℕ)) → place_of n es ≡ Some k
          → AllByRecursion (λ y. R x y ≡ Less) (keys_of es) → R x k ≡ Less
      behind_first n x k [] is all = absurd (cc is)
      behind_first n x k (e ∷ es) is all =
          by (nat_eq e.1 n) is (λ found. behind_first n x k es found all.1)
        where
          by : (b : Bool)
              → option_map (λ (e : P × ℕ). e.0) (cond b (Some e) (find (λ e. nat_eq e.1 n) es)) ≡ Some k
              → (place_of n es ≡ Some k → R x k ≡ Less) → R x k ≡ Less
          by true found ih = let same : e.0 ≡ k = cc found in ap (R x) (sym same) ∙ all.0
          by false found ih = ih found

      pub taken_at : (n : ℕ) (k : P) (es : List (P × ℕ)) → place_of n es ≡ Some k
          → IsStrictlySortedBy R (keys_of es) → AreApart es
          → remove_entry (is_at (R k)) es ≡ without n es
      taken_at n k [] is sorted apart = refl
      taken_at n k (e ∷ es) is sorted apart =
          by (nat_eq e.1 n) refl is
          (λ found. taken_at n k es found (sorted_tail R e.0 (keys_of es) sorted) (apart_behind e es apart))
        where
          by : (b : Bool) → nat_eq e.1 n ≡ b
              → option_map (λ (e : P × ℕ). e.0) (cond b (Some e) (find (λ e. nat_eq e.1 n) es)) ≡ Some k
              → (place_of n es ≡ Some k → remove_entry (is_at (R k)) es ≡ without n es)
              → remove_entry (is_at (R k)) (e ∷ es) ≡ cond (not b) (e ∷ without n es) (without n es)
          by true here found ih =
              let same : e.0 ≡ k = cc found in
              let there : is_eq (R k e.0) ≡ true =
              ap (λ p. is_eq (R k p)) same ∙ ap is_eq (tied_itself o k) in
              ap (λ b. cond b es (e ∷ remove_entry (is_at (R k)) es)) there
              ∙ sym (without_none shred_of n es
              (ap (λ n. times n es) (sym (eqb-true e.1 n here)) ∙ none_behind e es apart))
          by false other found ih =
              let later : R e.0 k ≡ Less =
              behind_first n e.0 k es found (sorted_head R e.0 (keys_of es) sorted) in
              let there : is_eq (R k e.0) ≡ false =
              ap is_eq (o.antisymm k e.0 ∙ ap ordering_reverse later) in
              ap (λ b. cond b es (e ∷ remove_entry (is_at (R k)) es)) there
              ∙ ap (λ es. e ∷ es) (ih found)

-- the test of a map's numbers is that of lists
pub at_number : (n m : ℕ) → is_at (nat_cmp n) m ≡ nat_eq n m
at_number n m = unsigned_tied n m

pub and_true : (b : Bool) → (b && not false) ≡ b
and_true true = refl
and_true false = refl

-- what was put and taken out again was never there
pub put_back : {P : Type 0} (n m : ℕ) (k : P) (es : List (P × ℕ)) → place_of n es ≡ None
    → cond (nat_eq n m) None (cond (nat_eq n m) (Some k) (place_of m es)) ≡ place_of m es
put_back n m k es none = by (nat_eq n m) refl
  where
    by : (b : Bool) → nat_eq n m ≡ b → cond b None (cond b (Some k) (place_of m es)) ≡ place_of m es
    by true same = sym (ap (λ n. place_of n es) (sym (eqb-true n m same)) ∙ none)
    by false other = refl

-- nor is anything taken out with a shred that has no place
pub without_nowhere : {P : Type 0} (n : ℕ) (es : List (P × ℕ)) → place_of n es ≡ None
    → without n es ≡ es
without_nowhere n [] none = refl
without_nowhere {P} n (e ∷ es) none = by (nat_eq e.1 n) none (without_nowhere n es)
  where
    by : (b : Bool)
        → option_map (λ (e : P × ℕ). e.0) (cond b (Some e) (find (λ e. nat_eq e.1 n) es)) ≡ None
        → (place_of n es ≡ None → without n es ≡ es)
        → cond (not b) (e ∷ without n es) (without n es) ≡ e ∷ es
    by true found ih = absurd (cc found)
    by false found ih = ap (λ es. e ∷ es) (ih found)
