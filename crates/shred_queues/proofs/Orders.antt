-- Places in order: what is put first, what is put, and what is left.
use Rattle.std.proofs.Common.{◌≡◌, ℕ, Bool, true, false, cond, not, nat_eq}
use Rattle.std.proofs.Common.{List, [], ◌∷◌, Option, Some, None, IfSome, IfNone, Result, Ok, Err, OnOk, OnErr, slice_get, subst, refl, sym, ap, ◌∙◌, arith}
use Rattle.std.specs.BTreeMap.{insert_entry, is_at}
use Rattle.std.specs.Cmp.{IsTotalOrder}
use Rattle.std.specs.List.{AllByRecursion}
use Rattle.std.specs.List.Sorted.{IsStrictlySortedBy}
use Rattle.std.specs.Map.{keys_of, lookup}
use Rattle.std.specs.Ordering.{is_eq, is_lt, match_ordering, ordering_reverse}
use Rattle.std.specs.declared.cmp.Ordering.{Ordering}
use Rattle.std.specs.declared.cmp.Ordering.TheVariants.{Less, Equal, Greater}
use Rattle.std.proofs.lemmas.Bool.{eq-eqb, ne_eqb}
use Rattle.std.proofs.lemmas.Map.Keys.{sorted_head, sorted_tail}
use Rattle.keyed_lists.proofs.Changes.{without_none}
use Rattle.shred_queues.specs.declared.places.Entry.{Entry}
use Rattle.shred_queues.specs.Places.{shred_of, times, AreApart, without, IsFree, AreOrderly, with_first}
use Rattle.shred_queues.proofs.Changes.{apart_behind, none_behind, apart_left, apart_put, times_front}

pub sorted_cons : {P : Type 0} (R : P → P → Ordering) (k : P) (ks : List P)
    → AllByRecursion (λ y. R k y ≡ Less) ks → IsStrictlySortedBy R ks → IsStrictlySortedBy R (k ∷ ks)
unfolding IsStrictlySortedBy
sorted_cons R k ks all sorted = (all, sorted)

pub sorted_none : {P : Type 0} (R : P → P → Ordering) → IsStrictlySortedBy R []
unfolding IsStrictlySortedBy
sorted_none R = tt

module _ {P : Type 0} (R : P → P → Ordering) where
  -- what all have, those have that are left, and those with one more that has it
  all_left : (T : P → Type 0) (n : ℕ) (es : List (P × ℕ)) → AllByRecursion T (keys_of es)
      → AllByRecursion T (keys_of (without n es))
  all_left T n [] all = all
  all_left T n (e ∷ es) all = by (nat_eq e.1 n) (all_left T n es all.1)
    where
      by : (b : Bool) → AllByRecursion T (keys_of (without n es))
          → AllByRecursion T (keys_of (cond (not b) (e ∷ without n es) (without n es)))
      by true ih = ih
      by false ih = (all.0, ih)

  all_put : (T : P → Type 0) (n : ℕ) (k : P) (es : List (P × ℕ)) → IsFree R k es → T k
      → AllByRecursion T (keys_of es) → AllByRecursion T (keys_of (insert_entry R es k n))
  all_put T n k [] free here all = (here, tt)
  all_put T n k (e ∷ es) free here all =
      by (R k e.0) free (λ rest. all_put T n k es rest here all.1)
    where
      by : (o : Ordering) → cond (is_eq o) (Some e.1) (lookup (is_at (R k)) es) ≡ None
          → (lookup (is_at (R k)) es ≡ None → AllByRecursion T (keys_of (insert_entry R es k n)))
          → AllByRecursion T
          (keys_of (match_ordering o ((k, n) ∷ e ∷ es) ((e.0, n) ∷ es) (e ∷ insert_entry R es k n)))
      by Less is ih = (here, all)
      by Equal is ih = absurd (cc is)
      by Greater is ih = (all.0, ih is)

  -- at a place before all others
  pub put_front : (n : ℕ) (k : P) (es : List (P × ℕ)) → AllByRecursion (λ y. R k y ≡ Less) (keys_of es)
      → insert_entry R es k n ≡ (k, n) ∷ es
  put_front n k [] all = refl
  put_front n k (e ∷ es) all =
      ap (λ o. match_ordering o ((k, n) ∷ e ∷ es) ((e.0, n) ∷ es) (e ∷ insert_entry R es k n)) all.0

  pub free_front : (k : P) (es : List (P × ℕ)) → AllByRecursion (λ y. R k y ≡ Less) (keys_of es)
      → IsFree R k es
  free_front k [] all = refl
  free_front k (e ∷ es) all =
      ap (λ o. cond (is_eq o) (Some e.1) (lookup (is_at (R k)) es)) all.0 ∙ free_front k es all.1

  free_further : (k : P) (e : P × ℕ) (es : List (P × ℕ)) → IsFree R k (e ∷ es) → IsFree R k es
  free_further k e es free = by (R k e.0) free
    where
      by : (o : Ordering) → cond (is_eq o) (Some e.1) (lookup (is_at (R k)) es) ≡ None
          → lookup (is_at (R k)) es ≡ None
      by Less is = is
      by Equal is = absurd (cc is)
      by Greater is = is

  module _ (o : IsTotalOrder R) where
    turned : (x y : P) (r : Ordering) → R x y ≡ r → R y x ≡ ordering_reverse r
    turned x y r is = o.antisymm y x ∙ ap ordering_reverse is

    -- what comes before the first comes before all
    all_before : (k x : P) (ks : List P) → R k x ≡ Less → AllByRecursion (λ y. R x y ≡ Less) ks
        → AllByRecursion (λ y. R k y ≡ Less) ks
    all_before k x [] first all = tt
    all_before k x (y ∷ ks) first all =
        (o.trans k x y first all.0, all_before k x ks first all.1)

    pub before_all : (k : P) (es : List (P × ℕ)) → IsStrictlySortedBy R (keys_of es) → IsFree R k es
        → ((e : P × ℕ) → (rest : List (P × ℕ)) → es ≡ e ∷ rest → is_lt (R e.0 k) ≡ false)
        → AllByRecursion (λ y. R k y ≡ Less) (keys_of es)
    before_all k [] sorted free least = tt
    before_all k (e ∷ es) sorted free least =
        let first : R k e.0 ≡ Less =
        turned e.0 k (R e.0 k) refl ∙ by (R e.0 k) (R k e.0) refl (turned e.0 k (R e.0 k) refl)
        (least e es refl) free in
        (first, all_before k e.0 (keys_of es) first (sorted_head R e.0 (keys_of es) sorted))
      where
        by : (r s : Ordering) → R k e.0 ≡ s → s ≡ ordering_reverse r → is_lt r ≡ false
            → cond (is_eq s) (Some e.1) (lookup (is_at (R k)) es) ≡ None → ordering_reverse r ≡ Less
        by Less s at is after free = absurd (cc after)
        by Equal s at is after free =
            let found = sym (ap (λ s. cond (is_eq s) (Some e.1) (lookup (is_at (R k)) es)) is) ∙ free in
            absurd (cc found)
        by Greater s at is after free = refl

    sorted_put : (n : ℕ) (k : P) (es : List (P × ℕ)) → IsFree R k es
        → IsStrictlySortedBy R (keys_of es) → IsStrictlySortedBy R (keys_of (insert_entry R es k n))
    sorted_put n k [] free sorted = sorted_cons R k [] tt (sorted_none R)
    sorted_put n k (e ∷ es) free sorted =
        by (R k e.0) refl free
        (λ rest. sorted_put n k es rest (sorted_tail R e.0 (keys_of es) sorted))
      where
        head : AllByRecursion (λ y. R e.0 y ≡ Less) (keys_of es)
        head = sorted_head R e.0 (keys_of es) sorted

        by : (r : Ordering) → R k e.0 ≡ r → cond (is_eq r) (Some e.1) (lookup (is_at (R k)) es) ≡ None
            → (lookup (is_at (R k)) es ≡ None → IsStrictlySortedBy R (keys_of (insert_entry R es k n)))
            → IsStrictlySortedBy R
            (keys_of (match_ordering r ((k, n) ∷ e ∷ es) ((e.0, n) ∷ es) (e ∷ insert_entry R es k n)))
        by Less first is ih =
            sorted_cons R k (e.0 ∷ keys_of es) (first, all_before k e.0 (keys_of es) first head) sorted
        by Equal first is ih = absurd (cc is)
        by Greater first is ih =
            sorted_cons R e.0 (keys_of (insert_entry R es k n))
            (all_put (λ y. R e.0 y ≡ Less) n k es is (turned k e.0 Greater first) head) (ih is)

    -- one more in order
    pub orderly_put : (n : ℕ) (k : P) (es : List (P × ℕ)) → IsFree R k es → times n es ≡ 0
        → AreOrderly R es → AreOrderly R (insert_entry R es k n)
    orderly_put n k es free none orderly = record {
      ordered = sorted_put n k es free orderly.ordered;
      apart = apart_put R n k es free none orderly.apart;
    }

    -- one more behind the first
    pub put_later : (n : ℕ) (k : P) (first : Option (Entry P)) (later : List (P × ℕ))
        → ((e : P × ℕ) (rest : List (P × ℕ)) → with_first first later ≡ e ∷ rest → R e.0 k ≡ Less)
        → with_first first (insert_entry R later k n) ≡ insert_entry R (with_first first later) k n
    put_later n k None later least = refl
    put_later n k (Some first) later least =
        let behind : R k first.place ≡ Greater =
        turned first.place k Less (least (first.place, first.shred) later refl) in
        ap (λ o. match_ordering o ((k, n) ∷ (first.place, first.shred) ∷ later)
        ((first.place, n) ∷ later) ((first.place, first.shred) ∷ insert_entry R later k n)) (sym behind)

  pub orderly_front : (n : ℕ) (k : P) (es : List (P × ℕ)) → AllByRecursion (λ y. R k y ≡ Less) (keys_of es)
      → times n es ≡ 0 → AreOrderly R es → AreOrderly R ((k, n) ∷ es)
  orderly_front n k es all none orderly = record {
    ordered = sorted_cons R k (keys_of es) all orderly.ordered;
    apart = λ m. times_front m n k es none orderly.apart;
  }

  -- what is left is in order
  sorted_left : (n : ℕ) (es : List (P × ℕ)) → IsStrictlySortedBy R (keys_of es)
      → IsStrictlySortedBy R (keys_of (without n es))
  sorted_left n [] sorted = sorted
  sorted_left n (e ∷ es) sorted =
      by (nat_eq e.1 n) (sorted_left n es (sorted_tail R e.0 (keys_of es) sorted))
    where
      by : (b : Bool) → IsStrictlySortedBy R (keys_of (without n es))
          → IsStrictlySortedBy R (keys_of (cond (not b) (e ∷ without n es) (without n es)))
      by true ih = ih
      by false ih =
          sorted_cons R e.0 (keys_of (without n es))
          (all_left (λ y. R e.0 y ≡ Less) n es (sorted_head R e.0 (keys_of es) sorted)) ih

  pub orderly_left : (n : ℕ) (es : List (P × ℕ)) → AreOrderly R es → AreOrderly R (without n es)
  orderly_left n es orderly = record {
    ordered = sorted_left n es orderly.ordered;
    apart = apart_left n es orderly.apart;
  }

  pub orderly_behind : (e : P × ℕ) (es : List (P × ℕ)) → AreOrderly R (e ∷ es) → AreOrderly R es
  orderly_behind e es orderly = record {
    ordered = sorted_tail R e.0 (keys_of es) orderly.ordered;
    apart = apart_behind e es orderly.apart;
  }

pub some_same : {A : Type 0} {a b : A} → Some a ≡ Some b → a ≡ b
some_same is = cc is

head_same : {A : Type 0} {a b : A} {more rest : List A} → a ∷ more ≡ b ∷ rest → a ≡ b
head_same is = cc is

-- where a first one stands apart, it is before the others
pub orderly_apart : {P : Type 0} (R : P → P → Ordering) (first : Option (Entry P)) (later : List (P × ℕ)) (e : Entry P)
    → first ≡ Some e → AreOrderly R (with_first first later) → AreOrderly R ((e.place, e.shred) ∷ later)
orderly_apart R first later e is orderly = subst (λ f. AreOrderly R (with_first f later)) is orderly

pub none_apart : {P : Type 0} (first : Option (Entry P)) (later : List (P × ℕ))
    → ((e : Entry P) → first ≡ Some e → ⊥) → later ≡ with_first first later
none_apart None later none = refl
none_apart (Some e) later none = absurd (none e refl)

-- the first one
pub first_is : {P : Type 0} (least : P) (n : ℕ) (es rest : List (P × ℕ)) (e : P × ℕ)
    → es ≡ e ∷ rest → slice_get es 0 ≡ Some (least, n) → e.0 ≡ least
first_is least n [] rest e is first = absurd (cc is)
first_is {P} least n (f ∷ es) rest e is first =
    ap (λ (p : P × ℕ). p.0) (sym (head_same is) ∙ some_same first)

pub none_first : {A : Type 0} (es rest : List A) (e : A) → es ≡ e ∷ rest → slice_get es 0 ≡ None → ⊥
none_first [] rest e is none = absurd (cc is)
none_first (f ∷ es) rest e is none = absurd (cc none)

-- what a call does or leaves
pub either : {A B C P Q : Type 0} (result : Result A B) → OnOk result P → OnErr result Q → (P → C) → (Q → C) → C
either (Ok a) ok err done left = done ok
either (Err b) ok err done left = left err

pub on_ok : {A B P Q : Type 0} (result : Result A B) → OnOk result P → (P → Q) → OnOk result Q
on_ok (Ok a) ok so = so ok
on_ok (Err b) ok so = tt

pub less_is : (r : Ordering) → true ≡ is_lt r → r ≡ Less
less_is Less is = refl
less_is Equal is = absurd (cc is)
less_is Greater is = absurd (cc is)

pub first_free : {P : Type 0} (R : P → P → Ordering) (k : P) (n : ℕ) (later : List (P × ℕ))
    → AreOrderly R ((k, n) ∷ later) → IsFree R k later
first_free R k n later orderly = free_front R k later (sorted_head R k (keys_of later) orderly.ordered)

pub put_again : {P : Type 0} (R : P → P → Ordering) (k : P) (n : ℕ) (later : List (P × ℕ))
    → AreOrderly R ((k, n) ∷ later) → insert_entry R later k n ≡ (k, n) ∷ later
put_again R k n later orderly = put_front R n k later (sorted_head R k (keys_of later) orderly.ordered)

-- what is left without the first, where there is one
pub orderly_popped : {P : Type 0} (R : P → P → Ordering) (first : Option (P × ℕ)) (old new : List (P × ℕ))
    → IfSome first (λ e. old ≡ e ∷ new) → IfNone first (new ≡ []) → AreOrderly R old → AreOrderly R new
orderly_popped R None old new some none orderly =
    subst (AreOrderly R) (sym none) (record { ordered = sorted_none R; apart = λ n. omega arith })
orderly_popped R (Some e) old new some none orderly =
    orderly_behind R e new (subst (AreOrderly R) some orderly)

-- the first one alone goes
pub without_front : {P : Type 0} (n : ℕ) (e : P × ℕ) (es : List (P × ℕ)) → e.1 ≡ n → AreApart (e ∷ es)
    → without n (e ∷ es) ≡ es
without_front n e es same apart =
    ap (λ b. cond (not b) (e ∷ without n es) (without n es)) (eq-eqb e.1 n same)
    ∙ without_none shred_of n es (ap (λ n. times n es) (sym same) ∙ none_behind e es apart)

-- or stays
pub without_later : {P : Type 0} (n : ℕ) (first : Option (Entry P)) (later : List (P × ℕ))
    → ((e : Entry P) → first ≡ Some e → e.shred ≡ n → ⊥)
    → with_first first (without n later) ≡ without n (with_first first later)
without_later n None later other = refl
without_later n (Some first) later other =
    ap (λ b. cond (not b) ((first.place, first.shred) ∷ without n later) (without n later))
    (sym (ne_eqb first.shred n (other first refl)))
