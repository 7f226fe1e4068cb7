-- Families of shreds: which end together, and that those who stay are a family.
use Rattle.std.proofs.Common.{◌≡◌, ℕ, suc, ◌<◌, ◌≤◌, Bool, true, false, cond, not, ◌||◌, nat_eq, List, [], ◌∷◌, ◌++◌, All, fold, filter, ◌⊎◌, inl, inr, refl, sym, ap, ◌∙◌, subst, arith}
use Rattle.std.proofs.lemmas.Bool.{ne_eqb, eq-eqb, eqb-true, cases_Bool, cases_lt, cases_eq}
use Rattle.std.proofs.lemmas.List.Elements.{All-nil, All-cons, All-head, All-tail}
use Rattle.ck_store.specs.Steps.{pick}
use Rattle.ck_run.specs.Run.{Shred, has, one_more_ends, end_with}
use Rattle.ck_run.specs.Family.{AreInOrder, AreParented, IsFamily, AreThoseThatEnd}

or-false : (b : Bool) → (b || false) ≡ b
or-false true = refl
or-false false = refl

or-swap : (a b c : Bool) → (a || (b || c)) ≡ ((a || b) || c)
or-swap true b c = refl
or-swap false b c = refl

pub has-push : (ms : List ℕ) (m k : ℕ) → has (ms ++ m ∷ []) k ≡ (has ms k || nat_eq m k)
has-push [] m k = or-false (nat_eq m k)
has-push (x ∷ ms) m k =
    ap (λ b. nat_eq x k || b) (has-push ms m k) ∙ or-swap (nat_eq x k) (has ms k) (nat_eq m k)

-- another number makes no difference
pub has-other : (ms : List ℕ) (m k : ℕ) → (m ≡ k → ⊥) → has (ms ++ m ∷ []) k ≡ has ms k
has-other ms m k ne =
    has-push ms m k ∙ ap (λ b. has ms k || b) (ne_eqb m k ne) ∙ or-false (has ms k)

pub or-true : (b : Bool) → (b || true) ≡ true
or-true true = refl
or-true false = refl

pub has-this : (ms : List ℕ) (m : ℕ) → has (ms ++ m ∷ []) m ≡ true
has-this ms m = has-push ms m m ∙ ap (λ b. has ms m || b) (eq-eqb m m refl) ∙ or-true (has ms m)

-- no number from this one on stands in the list
abbrev pub AreBelow : List ℕ → ℕ → Type 0
AreBelow ms from = (m : ℕ) → from ≤ m → has ms m ≡ false

below-push : (ms : List ℕ) (from m : ℕ) → AreBelow ms from → from ≤ m
    → AreBelow (ms ++ m ∷ []) (suc m)
below-push ms from m below le k above =
    has-other ms m k (λ e. omega (arith, e, above)) ∙ below k (omega (arith, le, above))

below-more : (ms : List ℕ) (from to : ℕ) → AreBelow ms from → from ≤ to → AreBelow ms to
below-more ms from to below le k above = below k (omega (arith, le, above))

-- numbers before stand among those who stay or those who are gone, but not in both
pub record Parts (from : ℕ) (before kept gone : List ℕ) : Type 0 where
  pub first : 1 ≤ from
  pub low : AreBelow before from
  pub low_gone : AreBelow gone from
  pub zero_gone : has gone 0 ≡ false
  pub both : (m : ℕ) → has before m ≡ (has kept m || has gone m)
  pub apart : (m : ℕ) → has kept m ≡ true → has gone m ≡ false

pub no_parts : Parts 1 [] [] []
no_parts =
    record {
      first = omega arith;
      low = λ m le. refl;
      low_gone = λ m le. refl;
      zero_gone = refl;
      both = λ m. refl;
      apart = λ m e. refl;
    }

low-kept : {from : ℕ} {before kept gone : List ℕ} → Parts from before kept gone → (m : ℕ) → from ≤ m
    → has kept m ≡ false
low-kept {from} {before} {kept} {gone} parts m le =
    by (has kept m) (sym (parts.both m) ∙ parts.low m le)
  where
    by : (b : Bool) → (b || has gone m) ≡ false → b ≡ false
    by true e = e
    by false e = refl

-- one who goes
pub goes : {from : ℕ} {before kept gone : List ℕ} → Parts from before kept gone → (m : ℕ) → from ≤ m
    → Parts (suc m) (before ++ m ∷ []) kept (gone ++ m ∷ [])
goes {from} {before} {kept} {gone} parts m le = record {
  first = omega arith;
  low = below-push before from m parts.low le;
  low_gone = below-push gone from m parts.low_gone le;
  zero_gone = has-other gone m 0 (λ e. omega (arith, e, le, parts.first)) ∙ parts.zero_gone;
  both = λ k. has-push before m k ∙ ap (λ b. b || nat_eq m k) (parts.both k)
      ∙ sym (or-swap (has kept k) (has gone k) (nat_eq m k))
      ∙ ap (λ b. has kept k || b) (sym (has-push gone m k));
  apart = λ k is. has-other gone m k (λ e. absurd (cc (
    is,
    low-kept parts k (omega (arith, e, le)),
  ))) ∙ parts.apart k is;
}

or-last : (a b c : Bool) → ((a || b) || c) ≡ ((a || c) || b)
or-last true b c = refl
or-last false true true = refl
or-last false true false = refl
or-last false false true = refl
or-last false false false = refl

-- one who stays
pub stays : {from : ℕ} {before kept gone : List ℕ} → Parts from before kept gone → (m : ℕ)
    → from ≤ m → Parts (suc m) (before ++ m ∷ []) (kept ++ m ∷ []) gone
stays {from} {before} {kept} {gone} parts m le = record {
  first = omega arith;
  low = below-push before from m parts.low le;
  low_gone = below-more gone from (suc m) parts.low_gone (omega (arith, le));
  zero_gone = parts.zero_gone;
  both = λ k. has-push before m k ∙ ap (λ b. b || nat_eq m k) (parts.both k)
      ∙ or-last (has kept k) (has gone k) (nat_eq m k)
      ∙ ap (λ b. b || has gone k) (sym (has-push kept m k));
  apart = λ k is. by k (cases_Bool (nat_eq m k)) is;
}
  where
    by : (k : ℕ) → ((nat_eq m k ≡ true) ⊎ (nat_eq m k ≡ false)) → has (kept ++ m ∷ []) k ≡ true
        → has gone k ≡ false
    by k (inl e) is = parts.low_gone k (omega (arith, le, eqb-true m k e))
    by k (inr e) is =
        parts.apart k (sym (or-false (has kept k)) ∙ ap (λ b. has kept k || b) (sym e)
        ∙ sym (has-push kept m k) ∙ is)

one_more : (b : Bool) (gone : List ℕ) (m k : ℕ) → (m ≡ k → ⊥)
    → has (pick b (gone ++ m ∷ []) gone) k ≡ has gone k
one_more true gone m k ne = has-other gone m k ne
one_more false gone m k ne = refl

by_pick : (b : Bool) (gone : List ℕ) (m : ℕ) → has gone m ≡ false
    → has (pick b (gone ++ m ∷ []) gone) m ≡ b
by_pick true gone m not_yet = has-this gone m
by_pick false gone m not_yet = not_yet

pub parent-low : (from : ℕ) (before kept gone : List ℕ) (p : ℕ) → Parts from before kept gone
    → ((p ≡ 0) ⊎ (has before p ≡ true)) → p < from
parent-low from before kept gone p parts (inl e) = omega (arith, e, parts.first)
parent-low from before kept gone p parts (inr is) =
    elim (cases_lt p from) [ inl lt ↦ lt | inr le ↦ absurd (cc (is, parts.low p le)) ]

or-false-parts : (a b : Bool) → (a || b) ≡ false → b ≡ false
or-false-parts true b e = absurd (cc e)
or-false-parts false b e = e

parent_stays : (p : ℕ) (from : ℕ) (before kept gone : List ℕ) → Parts from before kept gone
    → ((p ≡ 0) ⊎ (has before p ≡ true)) → has gone p ≡ false → (p ≡ 0) ⊎ (has kept p ≡ true)
parent_stays p from before kept gone parts (inl e) stayed = inl e
parent_stays p from before kept gone parts (inr is) stayed =
    inr (sym (or-false (has kept p)) ∙ ap (λ b. has kept p || b) (sym stayed) ∙ sym (parts.both p)
    ∙ is)

-- and there are no others
abbrev Alike : (ends others : ℕ → Bool) → List ℕ → Type 0
Alike ends others before = (m : ℕ) → has before m ≡ true → ends m ≡ others m

module _ {P : Type 0} where
  -- the shreds that stay, in one pass: where these have ended before
  abbrev pub staying : (n : ℕ) → (gone : List ℕ) → List (Shred P) → List (Shred P)
  staying n gone [] = []
  staying n gone (shred ∷ rest) =
      pick (nat_eq shred.number n || has gone shred.parent)
      (staying n (gone ++ shred.number ∷ []) rest) (shred ∷ staying n gone rest)

module _ {P : Type 0} (n : ℕ) where
  -- who is gone after these
  abbrev pub gone_after : List ℕ → List (Shred P) → List ℕ
  gone_after gone shreds = fold (one_more_ends n) gone shreds

  -- later shreds change nothing of lower numbers
  pub gone-low : (shreds : List (Shred P)) (gone : List ℕ) (from below k : ℕ)
      → AreInOrder from below shreds → k < from → has (gone_after gone shreds) k ≡ has gone k
  gone-low [] gone from below k order lt = refl
  gone-low (s ∷ rest) gone from below k order lt =
      gone-low rest (one_more_ends n gone s) (suc s.number) below k order.2 (omega (
        arith,
        order.0,
        lt,
      ))
      ∙ one_more (nat_eq s.number n || has gone s.parent) gone s.number k (λ e.
      omega (arith, e, order.0, lt))

  -- a shred that comes next is gone by its own number and its parent's alone
  pub gone-next : (s : Shred P) (rest : List (Shred P)) (gone : List ℕ) (from below : ℕ)
      → AreInOrder from below (s ∷ rest) → AreBelow gone from
      → has (gone_after gone (s ∷ rest)) s.number ≡ (nat_eq s.number n || has gone s.parent)
  gone-next s rest gone from below order low =
      gone-low rest (one_more_ends n gone s) (suc s.number) below s.number order.2 (omega arith)
      ∙ by_pick (nat_eq s.number n || has gone s.parent) gone s.number (low s.number order.0)

  module _ (below : ℕ) where
    -- the parts after one more shred
    next_parts : (b : Bool) (s : Shred P) (from : ℕ) (before kept gone : List ℕ)
        → Parts from before kept gone → from ≤ s.number
        → Parts (suc s.number) (before ++ s.number
        ∷ []) (pick b kept (kept ++ s.number ∷ [])) (pick b (gone ++ s.number ∷ []) gone)
    next_parts true s from before kept gone parts le = goes parts s.number le
    next_parts false s from before kept gone parts le = stays parts s.number le

    -- exactly those end whose parent ends, and the one itself
    those_end : (shreds : List (Shred P)) (from : ℕ) (before kept gone : List ℕ)
        → Parts from before kept gone → AreInOrder from below shreds → AreParented before shreds
        → All (λ (s : Shred P). has (gone_after gone shreds) s.number
        ≡ (nat_eq s.number n || has (gone_after gone shreds) s.parent)) shreds
    those_end [] from before kept gone parts order parents = All-nil _
    those_end (s ∷ rest) from before kept gone parts order parents =
        let b = nat_eq s.number n || has gone s.parent in
        let lt = parent-low from before kept gone s.parent parts parents.0 in
        All-cons (λ (s2 : Shred P). has (gone_after gone (s ∷ rest)) s2.number
        ≡ (nat_eq s2.number n || has (gone_after gone (s ∷ rest)) s2.parent)) s rest
        (gone-next s rest gone from below order parts.low_gone
        ∙ ap (λ c. nat_eq s.number n || c) (sym
        (gone-low (s ∷ rest) gone from below s.parent order lt)))
        (those_end rest (suc s.number) (before ++ s.number
        ∷ []) (pick b kept (kept ++ s.number ∷ [])) (one_more_ends n gone s)
        (next_parts b s from before kept gone parts order.0) order.2 parents.1)

    one_low : (b : Bool) (s : Shred P) (gone : List ℕ) (from : ℕ) → AreBelow gone from
        → from ≤ s.number → AreBelow (pick b (gone ++ s.number ∷ []) gone) (suc s.number)
    one_low true s gone from low le = below-push gone from s.number low le
    one_low false s gone from low le = below-more gone from (suc s.number) low (omega (arith, le))

    -- who stays of these, by the tests
    abbrev kept_of : List ℕ → List (Shred P) → List (Shred P)
    kept_of gone shreds = filter (λ s. not (has gone s.number)) shreds

    stay_by : (b : Bool) (s : Shred P) (rest : List (Shred P)) (gone : List ℕ)
        → ((gone2 : List ℕ) → AreBelow gone2 (suc s.number)
        → kept_of (gone_after gone2 rest) rest ≡ staying n gone2 rest)
        → AreBelow (pick b (gone ++ s.number ∷ []) gone) (suc s.number)
        → cond (not b) (s ∷ kept_of (gone_after (pick b (gone ++ s.number ∷ []) gone) rest) rest)
        (kept_of (gone_after (pick b (gone ++ s.number ∷ []) gone) rest) rest)
        ≡ pick b (staying n (gone ++ s.number ∷ []) rest) (s ∷ staying n gone rest)
    stay_by true s rest gone ih low = ih (gone ++ s.number ∷ []) low
    stay_by false s rest gone ih low = ap (λ kept. s ∷ kept) (ih gone low)

    -- and those who stay are the others
    pub others_stay : (shreds : List (Shred P)) (from : ℕ) (gone : List ℕ) → AreBelow gone from
        → AreInOrder from below shreds
        → filter (λ s. not (has (gone_after gone shreds) s.number)) shreds ≡ staying n gone shreds
    others_stay [] from gone low order = refl
    others_stay (s ∷ rest) from gone low order =
        let b = nat_eq s.number n || has gone s.parent in
        ap (λ c. cond (not c) (s ∷ kept_of (gone_after gone (s ∷ rest)) rest)
        (kept_of (gone_after gone (s ∷ rest)) rest))
        (gone-next s rest gone from below order low)
        ∙ stay_by b s rest gone (λ gone2 low2.
        others_stay rest (suc s.number) gone2 low2 order.2) (one_low b s gone from low order.0)

    pub order-weaker : (shreds : List (Shred P)) (from lower : ℕ) → lower ≤ from
        → AreInOrder from below shreds → AreInOrder lower below shreds
    order-weaker [] from lower le order = tt
    order-weaker (s ∷ rest) from lower le order = (omega (arith, le, order.0), order.1, order.2)

    -- they are in order
    pub stay_in_order : (shreds : List (Shred P)) (from : ℕ) (gone : List ℕ)
        → AreInOrder from below shreds → AreInOrder from below (staying n gone shreds)
    stay_in_order [] from gone order = tt
    stay_in_order (s ∷ rest) from gone order =
        by (nat_eq s.number n || has gone s.parent) (λ gone2.
        stay_in_order rest (suc s.number) gone2 order.2)
      where
        by : (b : Bool) → ((gone2 : List ℕ)
            → AreInOrder (suc s.number) below (staying n gone2 rest))
            → AreInOrder from below (pick b (staying n (gone ++ s.number ∷ []) rest) (s
            ∷ staying n gone rest))
        by true ih =
            order-weaker (staying n (gone ++ s.number ∷ []) rest) (suc s.number) from (omega (
              arith,
              order.0,
            )) (ih (gone ++ s.number ∷ []))
        by false ih = (order.0, order.1, ih gone)

    -- and a family
    pub stay_parented : (shreds : List (Shred P)) (from : ℕ) (before kept gone : List ℕ)
        → Parts from before kept gone → AreInOrder from below shreds → AreParented before shreds
        → AreParented kept (staying n gone shreds)
    stay_parented [] from before kept gone parts order parents = tt
    stay_parented (s ∷ rest) from before kept gone parts order parents =
        by (nat_eq s.number n || has gone s.parent) refl
        (λ kept2 gone2 parts2. stay_parented rest (suc s.number) (before ++ s.number
        ∷ []) kept2 gone2 parts2 order.2 parents.1)
      where
        by : (b : Bool) → (nat_eq s.number n || has gone s.parent) ≡ b
            → ((kept2 gone2 : List ℕ) → Parts (suc s.number) (before ++ s.number ∷ []) kept2 gone2
            → AreParented kept2 (staying n gone2 rest))
            → AreParented kept (pick b (staying n (gone ++ s.number ∷ []) rest) (s
            ∷ staying n gone rest))
        by true e ih = ih kept (gone ++ s.number ∷ []) (goes parts s.number order.0)
        by false e ih = (
          parent_stays s.parent from before kept gone parts parents.0
              (or-false-parts (nat_eq s.number n) (has gone s.parent) e),
          ih (kept ++ s.number ∷ []) gone (stays parts s.number order.0),
        )

    -- a family stays one where one of them ends, with those who end with it
    pub family_stays : (shreds : List (Shred P)) → IsFamily below shreds
        → IsFamily below (filter (λ s. not (has (end_with n shreds) s.number)) shreds)
    family_stays shreds family =
        subst (IsFamily below) (sym (others_stay shreds 1 [] (λ m le. refl) family.order)) (record {
          order = stay_in_order shreds 1 [] family.order;
          parents = stay_parented shreds 1 [] [] [] no_parts family.order family.parents;
        })

    -- the ends of a shred are those of `AreThoseThatEnd`
    pub ends_those : (shreds : List (Shred P)) → IsFamily below shreds
        → AreThoseThatEnd n (has (end_with n shreds)) shreds
    ends_those shreds family = (
      gone-low shreds [] 1 below 0 family.order (omega arith),
      those_end shreds 1 [] [] [] no_parts family.order family.parents,
    )

    all_alike : (ends others : ℕ → Bool) (shreds : List (Shred P)) (before : List ℕ)
        → ends 0 ≡ false → others 0 ≡ false → Alike ends others before → AreParented before shreds
        → All (λ (s : Shred P). ends s.number ≡ (nat_eq s.number n || ends s.parent)) shreds
        → All (λ (s : Shred P). others s.number ≡ (nat_eq s.number n || others s.parent)) shreds
        → All (λ (s : Shred P). ends s.number ≡ others s.number) shreds
    all_alike ends others [] before none none2 alike parents all all2 = All-nil _
    all_alike ends others (s ∷ rest) before none none2 alike parents all all2 =
        let head =
        All-head (λ (s : Shred P). ends s.number
        ≡ (nat_eq s.number n || ends s.parent)) s rest all in
        let head2 =
        All-head (λ (s : Shred P). others s.number
        ≡ (nat_eq s.number n || others s.parent)) s rest all2 in
        let parent : ends s.parent ≡ others s.parent = by_parent s.parent parents.0 in
        let here : ends s.number ≡ others s.number =
        head ∙ ap (λ b. nat_eq s.number n || b) parent ∙ sym head2 in
        All-cons (λ (s : Shred P). ends s.number ≡ others s.number) s rest here
        (all_alike ends others rest (before ++ s.number ∷ []) none none2 (more here) parents.1
        (All-tail (λ (s : Shred P). ends s.number
        ≡ (nat_eq s.number n || ends s.parent)) s rest all)
        (All-tail (λ (s : Shred P). others s.number
        ≡ (nat_eq s.number n || others s.parent)) s rest all2))
      where
        by_parent : (p : ℕ) → ((p ≡ 0) ⊎ (has before p ≡ true)) → ends p ≡ others p
        by_parent p (inl e) = ap ends e ∙ none ∙ sym none2 ∙ ap others (sym e)
        by_parent p (inr is) = alike p is

        more : ends s.number ≡ others s.number → Alike ends others (before ++ s.number ∷ [])
        more here m is =
            elim (cases_eq s.number m) [
              | inl e ↦ ap ends (sym e) ∙ here
                  ∙ ap others e
              | inr ne ↦ alike m (sym (has-other before s.number m ne) ∙ is)
            ]

    pub only_those : (shreds : List (Shred P)) (ends : ℕ → Bool) → IsFamily below shreds
        → AreThoseThatEnd n ends shreds → All (λ (s : Shred P). ends s.number
        ≡ has (end_with n shreds) s.number) shreds
    only_those shreds ends family are =
        let those = ends_those shreds family in
        all_alike ends (has (end_with n shreds)) shreds [] are.0 those.0 (λ m is.
        absurd (cc is)) family.parents are.1 those.1
