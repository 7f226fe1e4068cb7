-- Queues by places with tickets: what they stand for.
use Rattle.std.proofs.Common.{filter, map, ◌≡◌, ℕ, ◌+◌, ◌<◌, Bool, true, false, cond, not, nat_eq}
use Rattle.std.proofs.Common.{List, [], ◌∷◌, ◌++◌, length, find, Option, Some, None, slice_get, refl, sym, ap, ◌∙◌, arith}
use Rattle.std.specs.BTreeMap.{insert_entry, is_at}
use Rattle.std.specs.Cmp.{IsTotalOrder, ranks, alike_right}
use Rattle.std.specs.List.{AllByRecursion}
use Rattle.std.specs.List.Sorted.{IsStrictlySortedBy}
use Rattle.std.specs.Map.{keys_of, lookup}
use Rattle.std.specs.Option.{option_map}
use Rattle.std.specs.Ordering.{is_eq, is_lt, is_gt, is_le, nat_cmp, ordering_then, ordering_reverse, match_ordering, MatchOrdering}
use Rattle.std.specs.declared.cmp.Ordering.{Ordering}
use Rattle.std.specs.declared.cmp.Ordering.TheVariants.{Less, Equal, Greater}
use Rattle.std.proofs.lemmas.List.Sums.{sum_by-append}
use Rattle.std.proofs.lemmas.Map.Keys.{sorted_head, sorted_tail}
use Rattle.keyed_lists.proofs.Changes.{hits, hits-same, times-cons}
use Rattle.shred_queues.specs.declared.queues.Place.{Place}
use Rattle.shred_queues.specs.Places.{shred_of, times, AreApart, without, place_of, IsFree, is_from}
use Rattle.shred_queues.specs.Queues.{keyed, AreBefore, arrived, IsRising}

greater : (t next : ℕ) → t < next → nat_cmp next t ≡ Greater
greater t next less = by (nat_cmp next t) (ranks next t)
  where
    by : (r : Ordering) → MatchOrdering r (next < t) (next ≡ t) (t < next) → r ≡ Greater
    by Less is = absurd (omega (arith, less, is))
    by Equal is = absurd (omega (arith, less, is))
    by Greater is = refl

none_less : (t : ℕ) → is_le (nat_cmp 0 t) ≡ true
none_less t = by (nat_cmp 0 t) (ranks 0 t)
  where
    by : (r : Ordering) → MatchOrdering r (0 < t) (0 ≡ t) (t < 0) → is_le r ≡ true
    by Less is = refl
    by Equal is = refl
    by Greater is = absurd (omega (arith, is))

then_less : (r s : Ordering) → ordering_then r s ≡ Less → is_gt r ≡ false
then_less Less s is = refl
then_less Equal s is = refl
then_less Greater s is = absurd (cc is)

-- what all of a longer list are
last_of : {A : Type 0} (T : A → Type 0) (es rest : List A) (e : A) → AllByRecursion T (es ++ e ∷ rest) → T e
last_of T [] rest e all = all.0
last_of T (f ∷ es) rest e all = last_of T es rest e all.1

front_of : {A : Type 0} (T : A → Type 0) (es rest : List A) → AllByRecursion T (es ++ rest) → AllByRecursion T es
front_of T [] rest all = tt
front_of T (e ∷ es) rest all = (all.0, front_of T es rest all.1)

module _ {K : Type 0} where
  -- what places stand for
  pub first_keyed : (es : List (Place K × ℕ))
      → slice_get (keyed es) 0 ≡ option_map (λ e. (e.0.key, e.1)) (slice_get es 0)
  first_keyed [] = refl
  first_keyed (e ∷ es) = refl

  pub times_keyed : (n : ℕ) (es : List (Place K × ℕ)) → times n es ≡ times n (keyed es)
  times_keyed n [] = refl
  times_keyed n (e ∷ es) = omega (
    arith,
    times-cons shred_of n e es,
    times-cons shred_of n (e.0.key, e.1) (keyed es),
    times_keyed n es,
  )

  pub apart_keyed : (es : List (Place K × ℕ)) → AreApart es → AreApart (keyed es)
  apart_keyed es apart n = omega (arith, apart n, times_keyed n es)

  pub place_keyed : (n : ℕ) (es : List (Place K × ℕ))
      → place_of n (keyed es) ≡ option_map (λ p. p.key) (place_of n es)
  place_keyed n [] = refl
  place_keyed n (e ∷ es) = by (nat_eq e.1 n) (place_keyed n es)
    where
      by : (b : Bool) → place_of n (keyed es) ≡ option_map (λ (p : Place K). p.key) (place_of n es)
          → option_map (λ (f : K × ℕ). f.0) (cond b (Some (e.0.key, e.1)) (find (λ f. nat_eq f.1 n) (keyed es)))
          ≡ option_map (λ (p : Place K). p.key)
          (option_map (λ (f : Place K × ℕ). f.0) (cond b (Some e) (find (λ f. nat_eq f.1 n) es)))
      by true ih = refl
      by false ih = ih

  pub keyed_left : (n : ℕ) (es : List (Place K × ℕ)) → keyed (without n es) ≡ without n (keyed es)
  keyed_left n [] = refl
  keyed_left n (e ∷ es) = by (nat_eq e.1 n) (keyed_left n es)
    where
      by : (b : Bool) → keyed (without n es) ≡ without n (keyed es)
          → keyed (cond (not b) (e ∷ without n es) (without n es))
          ≡ cond (not b) ((e.0.key, e.1) ∷ without n (keyed es)) (without n (keyed es))
      by true ih = ih
      by false ih = ap (λ fs. (e.0.key, e.1) ∷ fs) ih

  pub before_left : (next n : ℕ) (es : List (Place K × ℕ)) → AreBefore next es → AreBefore next (without n es)
  before_left next n [] all = all
  before_left next n (e ∷ es) all = by (nat_eq e.1 n) (before_left next n es all.1)
    where
      by : (b : Bool) → AreBefore next (without n es)
          → AreBefore next (cond (not b) (e ∷ without n es) (without n es))
      by true ih = ih
      by false ih = (all.0, ih)

  later_next : (next : ℕ) (es : List (Place K × ℕ)) → AreBefore next es → AreBefore (next + 1) es
  later_next next [] all = all
  later_next next (e ∷ es) all = (omega (arith, all.0), later_next next es all.1)

  module _ (cmp : K → K → Ordering) where
    -- the order of places
    abbrev pub by_place : Place K → Place K → Ordering
    by_place a b = ordering_then (cmp a.key b.key) (nat_cmp a.ticket b.ticket)

    all_rising : (x : Place K) (es : List (Place K × ℕ)) → AllByRecursion (λ y. by_place x y ≡ Less) (keys_of es)
        → AllByRecursion (λ f. is_gt (cmp x.key f.0) ≡ false) (keyed es)
    all_rising x [] all = tt
    all_rising x (e ∷ es) all =
        (then_less (cmp x.key e.0.key) (nat_cmp x.ticket e.0.ticket) all.0, all_rising x es all.1)

    pub rising : (es : List (Place K × ℕ)) → IsStrictlySortedBy by_place (keys_of es) → IsRising cmp (keyed es)
    rising [] sorted = tt
    rising (e ∷ es) sorted = (
      all_rising e.0 es (sorted_head by_place e.0 (keys_of es) sorted),
      rising es (sorted_tail by_place e.0 (keys_of es) sorted),
    )

    -- a shred with the next ticket
    abbrev place_after : K → ℕ → Place K
    place_after key next = record { key = key; ticket = next }

    pub free_next : (next : ℕ) (key : K) (es : List (Place K × ℕ)) → AreBefore next es
        → IsFree by_place (record { key = key; ticket = next }) es
    free_next next key [] all = refl
    free_next next key (e ∷ es) all =
        ap (λ b. cond b (Some e.1) (lookup (is_at (by_place (place_after key next))) es))
        (by (cmp key e.0.key))
        ∙ free_next next key es all.1
      where
        by : (r : Ordering) → is_eq (ordering_then r (nat_cmp next e.0.ticket)) ≡ false
        by Less = refl
        by Equal = ap is_eq (greater e.0.ticket next all.0)
        by Greater = refl

    -- before the first of a higher key
    abbrev inserted : K → ℕ → List (K × ℕ) → List (K × ℕ)
    inserted key n [] = (key, n) ∷ []
    inserted key n (e ∷ rest) = cond (is_lt (cmp key e.0)) ((key, n) ∷ e ∷ rest) (e ∷ inserted key n rest)

    put_inserted : (next n : ℕ) (key : K) (es : List (Place K × ℕ)) → AreBefore next es
        → keyed (insert_entry by_place es (record { key = key; ticket = next }) n) ≡ inserted key n (keyed es)
    put_inserted next n key [] all = refl
    put_inserted next n key (e ∷ es) all = by (cmp key e.0.key) (put_inserted next n key es all.1)
      where
        here : Place K
        here = record { key = key; ticket = next }

        by : (r : Ordering)
            → keyed (insert_entry by_place es here n) ≡ inserted key n (keyed es)
            → keyed (match_ordering (ordering_then r (nat_cmp next e.0.ticket))
            ((here, n) ∷ e ∷ es) ((e.0, n) ∷ es) (e ∷ insert_entry by_place es here n))
            ≡ cond (is_lt r) ((key, n) ∷ (e.0.key, e.1) ∷ keyed es) ((e.0.key, e.1) ∷ inserted key n (keyed es))
        by Less ih = refl
        by Equal ih =
            ap (λ r. keyed (match_ordering r
            ((here, n) ∷ e ∷ es) ((e.0, n) ∷ es) (e ∷ insert_entry by_place es here n)))
            (greater e.0.ticket next all.0)
            ∙ ap (λ fs. (e.0.key, e.1) ∷ fs) ih
        by Greater ih = ap (λ fs. (e.0.key, e.1) ∷ fs) ih

    -- that is behind all of lower keys and of the same, before all others
    module _ (o : IsTotalOrder cmp) where
      none_lower : (key : K) (e : K × ℕ) (es : List (K × ℕ)) → cmp key e.0 ≡ Less
          → AllByRecursion (λ f. is_gt (cmp e.0 f.0) ≡ false) es
          → (filter (λ f. not (is_lt (cmp key f.0))) es ≡ []) × (filter (λ f. is_lt (cmp key f.0)) es ≡ es)
      none_lower key e [] less all = (refl, refl)
      none_lower key e (f ∷ es) less all =
          let higher : is_lt (cmp key f.0) ≡ true =
          ap is_lt (by (cmp e.0 f.0) refl all.0) in
          let rest = none_lower key e es less all.1 in (
            ap (λ b. cond (not b) (f ∷ filter (λ f. not (is_lt (cmp key f.0))) es)
                (filter (λ f. not (is_lt (cmp key f.0))) es)) higher ∙ rest.0,
            ap (λ b. cond b (f ∷ filter (λ f. is_lt (cmp key f.0)) es) (filter (λ f. is_lt (cmp key f.0)) es)) higher
                ∙ ap (λ es. f ∷ es) rest.1,
          )
        where
          by : (r : Ordering) → cmp e.0 f.0 ≡ r → is_gt r ≡ false → cmp key f.0 ≡ Less
          by Less is after = o.trans key e.0 f.0 less is
          by Equal is after = sym (alike_right o e.0 f.0 key is) ∙ less
          by Greater is after = absurd (cc after)

      inserted_is : (key : K) (n : ℕ) (es : List (K × ℕ)) → IsRising cmp es
          → inserted key n es ≡ arrived cmp key n es
      inserted_is key n [] rises = refl
      inserted_is key n (e ∷ es) rises =
          by (cmp key e.0) refl (inserted_is key n es rises.1)
        where
          by : (r : Ordering) → cmp key e.0 ≡ r → inserted key n es ≡ arrived cmp key n es
              → cond (is_lt r) ((key, n) ∷ e ∷ es) (e ∷ inserted key n es)
              ≡ cond (not (is_lt r)) (e ∷ filter (λ f. not (is_lt (cmp key f.0))) es)
              (filter (λ f. not (is_lt (cmp key f.0))) es)
              ++ (key, n) ∷ cond (is_lt r) (e ∷ filter (λ f. is_lt (cmp key f.0)) es)
              (filter (λ f. is_lt (cmp key f.0)) es)
          by Less is ih =
              let none = none_lower key e es is rises.0 in
              ap (λ fs. (key, n) ∷ e ∷ fs) (sym none.1)
              ∙ ap (λ front. front ++ (key, n) ∷ e ∷ filter (λ f. is_lt (cmp key f.0)) es) (sym none.0)
          by Equal is ih = ap (λ fs. e ∷ fs) ih
          by Greater is ih = ap (λ fs. e ∷ fs) ih

      pub put_next : (next n : ℕ) (key : K) (es : List (Place K × ℕ)) → AreBefore next es
          → IsStrictlySortedBy by_place (keys_of es)
          → keyed (insert_entry by_place es (record { key = key; ticket = next }) n)
          ≡ arrived cmp key n (keyed es)
      put_next next n key es all sorted =
          put_inserted next n key es all ∙ inserted_is key n (keyed es) (rising es sorted)

    pub before_next : (next n : ℕ) (key : K) (es : List (Place K × ℕ)) → AreBefore next es
        → AreBefore (next + 1) (insert_entry by_place es (record { key = key; ticket = next }) n)
    before_next next n key [] all = (omega arith, tt)
    before_next next n key (e ∷ es) all =
        by (by_place here e.0) (before_next next n key es all.1)
      where
        here : Place K
        here = record { key = key; ticket = next }

        by : (r : Ordering) → AreBefore (next + 1) (insert_entry by_place es here n)
            → AreBefore (next + 1)
            (match_ordering r ((here, n) ∷ e ∷ es) ((e.0, n) ∷ es) (e ∷ insert_entry by_place es here n))
        by Less ih = (omega arith, (omega (arith, all.0), later_next next es all.1))
        by Equal ih = (omega (arith, all.0), later_next next es all.1)
        by Greater ih = (omega (arith, all.0), ih)

    -- what has the greatest key so far comes behind all
    inserted_last : IsTotalOrder cmp → (es rest : List (K × ℕ)) (key : K) (n : ℕ)
        → IsRising cmp (es ++ (key, n) ∷ rest) → inserted key n es ≡ es ++ (key, n) ∷ []
    inserted_last o [] rest key n rises = refl
    inserted_last o (e ∷ es) rest key n rises =
        ap (λ b. cond b ((key, n) ∷ e ∷ es) (e ∷ inserted key n es))
        (ap is_lt (o.antisymm key e.0) ∙ by (cmp e.0 key) (last_of (λ f. is_gt (cmp e.0 f.0) ≡ false) es rest
        (key, n) rises.0))
        ∙ ap (λ fs. e ∷ fs) (inserted_last o es rest key n rises.1)
      where
        by : (r : Ordering) → is_gt r ≡ false → is_lt (ordering_reverse r) ≡ false
        by Less is = refl
        by Equal is = refl
        by Greater is = absurd (cc is)

    rising_front : (es rest : List (K × ℕ)) → IsRising cmp (es ++ rest) → IsRising cmp es
    rising_front [] rest rises = tt
    rising_front (e ∷ es) rest rises =
        (front_of (λ f. is_gt (cmp e.0 f.0) ≡ false) es rest rises.0, rising_front es rest rises.1)

    pub arrived_last : IsTotalOrder cmp → (es rest : List (K × ℕ)) (key : K) (n : ℕ)
        → IsRising cmp (es ++ (key, n) ∷ rest) → arrived cmp key n es ≡ es ++ (key, n) ∷ []
    arrived_last o es rest key n rises =
        sym (inserted_is o key n es (rising_front es ((key, n) ∷ rest) rises))
        ∙ inserted_last o es rest key n rises

    -- the first in the queue of a key
    abbrev pub in_queue : K → Option (Place K × ℕ) → Option (K × ℕ)
    in_queue key None = None
    in_queue key (Some e) = cond (is_eq (cmp key e.0.key)) (Some (e.0.key, e.1)) None

    module _ (o : IsTotalOrder cmp) where
      none_behind : (key : K) (x : Place K) (es : List (Place K × ℕ)) → cmp key x.key ≡ Less
          → AllByRecursion (λ y. by_place x y ≡ Less) (keys_of es)
          → find (λ e. is_eq (cmp key e.0)) (keyed es) ≡ None
      none_behind key x [] less all = refl
      none_behind key x (e ∷ es) less all =
          ap (λ b. cond b (Some (e.0.key, e.1)) (find (λ e. is_eq (cmp key e.0)) (keyed es)))
          (ap is_eq (by (cmp x.key e.0.key) refl (then_less (cmp x.key e.0.key) (nat_cmp x.ticket e.0.ticket) all.0)))
          ∙ none_behind key x es less all.1
        where
          by : (r : Ordering) → cmp x.key e.0.key ≡ r → is_gt r ≡ false → cmp key e.0.key ≡ Less
          by Less is after = o.trans key x.key e.0.key less is
          by Equal is after = sym (alike_right o x.key e.0.key key is) ∙ less
          by Greater is after = absurd (cc after)

      pub found_keyed : (key : K) (es : List (Place K × ℕ)) → IsStrictlySortedBy by_place (keys_of es)
          → find (λ e. is_eq (cmp key e.0)) (keyed es)
          ≡ in_queue key (find (λ e. is_from by_place (record { key = key; ticket = 0 }) e.0) es)
      found_keyed key [] sorted = refl
      found_keyed key (e ∷ es) sorted =
          by (cmp key e.0.key) refl (found_keyed key es (sorted_tail by_place e.0 (keys_of es) sorted))
        where
          rest : Option (Place K × ℕ)
          rest = find (λ e. is_from by_place (record { key = key; ticket = 0 }) e.0) es

          by : (r : Ordering) → cmp key e.0.key ≡ r
              → find (λ e. is_eq (cmp key e.0)) (keyed es) ≡ in_queue key rest
              → cond (is_eq r) (Some (e.0.key, e.1)) (find (λ e. is_eq (cmp key e.0)) (keyed es))
              ≡ in_queue key (cond (is_le (ordering_then r (nat_cmp 0 e.0.ticket))) (Some e) rest)
          by Less is ih =
              none_behind key e.0 es is (sorted_head by_place e.0 (keys_of es) sorted)
              ∙ sym (ap (λ r. cond (is_eq r) (Some (e.0.key, e.1)) None) is)
          by Equal is ih =
              sym (ap (λ b. in_queue key (cond b (Some e) rest)) (none_less e.0.ticket)
              ∙ ap (λ r. cond (is_eq r) (Some (e.0.key, e.1)) None) is)
          by Greater is ih = ih

-- what comes next doesn't stand anywhere before
pub nowhere_before : {P : Type 0} (n : ℕ) (k : P) (es rest : List (P × ℕ)) → AreApart (es ++ (k, n) ∷ rest)
    → times n es ≡ 0
nowhere_before n k es rest apart =
    omega (
      arith,
      apart n,
      sum_by-append (λ (e : _ × ℕ). hits n e.1) es ((k, n) ∷ rest),
      times-cons shred_of n (k, n) rest,
      hits-same n n refl,
    )

-- one further of a list
pub joined : {A : Type 0} (one more : List A) (a : A) → one ++ a ∷ more ≡ (one ++ a ∷ []) ++ more
joined [] more a = refl
joined (b ∷ one) more a = ap (λ all. b ∷ all) (joined one more a)

pub none_left : {K : Type 0} (done : List (K × ℕ)) (rest : List (Place K × ℕ)) → length rest ≡ 0
    → done ≡ done ++ keyed rest
none_left [] [] none = refl
none_left (e ∷ done) [] none = ap (λ all. e ∷ all) (none_left done [] none)
none_left done (e ∷ rest) none = absurd (omega (arith, none))

-- what is left of a list that stands for another
pub map-filter : {A B : Type 0} (f : A → B) (p : A → Bool) (q : B → Bool) → ((a : A) → p a ≡ q (f a))
    → (items : List A) → map f (filter p items) ≡ filter q (map f items)
map-filter f p q same [] = refl
map-filter f p q same (a ∷ items) =
    ap (λ b. map f (cond b (a ∷ filter p items) (filter p items))) (same a)
    ∙ by (q (f a)) (map-filter f p q same items)
  where
    by : (b : Bool) → map f (filter p items) ≡ filter q (map f items)
        → map f (cond b (a ∷ filter p items) (filter p items))
        ≡ cond b (f a ∷ filter q (map f items)) (filter q (map f items))
    by true ih = ap (λ rest. f a ∷ rest) ih
    by false ih = ih
