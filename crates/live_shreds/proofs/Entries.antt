-- The entries of a map of shreds by their numbers.
use Rattle.std.proofs.Common.{◌≡◌, ℕ, suc, ◌<◌, Bool, true, false, cond, not, nat_eq, ◌&&◌, subst}
use Rattle.std.proofs.Common.{List, [], ◌∷◌, ◌++◌, Some, slice_get, slice_set, refl, sym, ap, ◌∙◌, arith}
use Rattle.std.specs.BTreeMap.{insert_entry, is_at}
use Rattle.std.specs.Cmp.{unsigned_tied, ranks}
use Rattle.std.specs.List.{AllByRecursion}
use Rattle.std.specs.List.Sorted.{IsStrictlySortedBy}
use Rattle.std.specs.Map.{keys_of, values_of, lookup, remove_entry, set_value}
use Rattle.std.specs.Ordering.{is_eq, nat_cmp, match_ordering, MatchOrdering}
use Rattle.std.specs.declared.cmp.Ordering.{Ordering}
use Rattle.std.specs.declared.cmp.Ordering.TheVariants.{Less, Equal, Greater}
use Rattle.std.proofs.lemmas.Bool.{eqb-true}
use Rattle.std.proofs.lemmas.Map.Keys.{sorted_head, sorted_tail}
use Rattle.shred_state.specs.Frames.{Standing}
use Rattle.live_shreds.specs.Live.{numbered, without, AreBelow, IsNamed, times_child}
use Rattle.live_shreds.proofs.Counts.{turned, mark, children-cons}

abbrev pub Entries : Type 0
Entries = List (ℕ × Standing)

abbrev pub AreNamed : Entries → Type 0
AreNamed es = AllByRecursion IsNamed es

-- a map finds a shred where its number is
pub lookup-live : (n : ℕ) (es : Entries) → AreNamed es
    → lookup (is_at (nat_cmp n)) es ≡ numbered n (values_of es)
lookup-live n [] named = refl
lookup-live n (e ∷ es) named =
    let same : is_eq (nat_cmp n e.0) ≡ nat_eq e.1.number n =
    unsigned_tied n e.0 ∙ turned n e.0 ∙ ap (λ m. nat_eq m n) (sym named.0.name) in
    ap (λ b. cond b (Some e.1) (lookup (is_at (nat_cmp n)) es)) same
    ∙ ap (λ o. cond (nat_eq e.1.number n) (Some e.1) o) (lookup-live n es named.1)

-- each has a higher number than its parent
pub all-older : (es : Entries) → AreNamed es → AllByRecursion (λ s. s.parent < s.number) (values_of es)
all-older [] named = tt
all-older (e ∷ es) named = (named.0.older, all-older es named.1)

-- behind all others
pub insert-last : (n : ℕ) (s : Standing) (es : Entries) → AreNamed es → AreBelow n (values_of es)
    → insert_entry nat_cmp es n s ≡ es ++ (n, s) ∷ []
insert-last n s [] named below = refl
insert-last n s (e ∷ es) named below =
    let behind : nat_cmp n e.0 ≡ Greater =
    greater e.0 n (omega (arith, below.0, named.0.name)) in
    ap (λ o. match_ordering o ((n, s) ∷ e ∷ es) ((e.0, s) ∷ es) (e ∷ insert_entry nat_cmp es n s)) behind
    ∙ ap (λ es. e ∷ es) (insert-last n s es named.1 below.1)
  where
    greater : (a b : ℕ) → a < b → nat_cmp b a ≡ Greater
    greater a b less = by (nat_cmp b a) (ranks b a)
      where
        by : (r : Ordering) → MatchOrdering r (b < a) (b ≡ a) (a < b) → r ≡ Greater
        by Less is = absurd (omega (arith, less, is))
        by Equal is = absurd (omega (arith, less, is))
        by Greater is = refl

pub named-append : (es : Entries) (e : ℕ × Standing) → AreNamed es → IsNamed e → AreNamed (es ++ e ∷ [])
named-append [] e named one = (one, tt)
named-append (f ∷ es) e named one = (named.0, named-append es e named.1 one)

-- those with higher numbers stay
higher-stay : (n : ℕ) (es : Entries) → AreNamed es → AllByRecursion (λ m. nat_cmp n m ≡ Less) (keys_of es)
    → without n (values_of es) ≡ values_of es
higher-stay n [] named higher = refl
higher-stay n (e ∷ es) named higher =
    let other : nat_eq e.1.number n ≡ false =
    ap (λ m. nat_eq m n) named.0.name ∙ turned e.0 n ∙ sym (unsigned_tied n e.0) ∙ ap is_eq higher.0 in
    ap (λ b. cond (not b) (e.1 ∷ without n (values_of es)) (without n (values_of es))) other
    ∙ ap (λ ss. e.1 ∷ ss) (higher-stay n es named.1 higher.1)

-- one less
pub values-removed : (n : ℕ) (es : Entries) → AreNamed es → IsStrictlySortedBy nat_cmp (keys_of es)
    → values_of (remove_entry (is_at (nat_cmp n)) es) ≡ without n (values_of es)
values-removed n [] named sorted = refl
values-removed n (e ∷ es) named sorted =
    by (nat_eq e.1.number n) refl
    (values-removed n es named.1 (sorted_tail nat_cmp e.0 (keys_of es) sorted))
  where
    same : is_eq (nat_cmp n e.0) ≡ nat_eq e.1.number n
    same = unsigned_tied n e.0 ∙ turned n e.0 ∙ ap (λ m. nat_eq m n) (sym named.0.name)

    by : (b : Bool) → nat_eq e.1.number n ≡ b
        → values_of (remove_entry (is_at (nat_cmp n)) es) ≡ without n (values_of es)
        → values_of (remove_entry (is_at (nat_cmp n)) (e ∷ es))
        ≡ cond (not b) (e.1 ∷ without n (values_of es)) (without n (values_of es))
    by true is ih =
        let at : e.0 ≡ n = sym named.0.name ∙ eqb-true e.1.number n is in
        ap (λ b. values_of (cond b es (e ∷ remove_entry (is_at (nat_cmp n)) es))) (same ∙ is)
        ∙ sym (higher-stay n es named.1 (subst (λ k. AllByRecursion (λ m. nat_cmp k m ≡ Less) (keys_of es)) at
        (sorted_head nat_cmp e.0 (keys_of es) sorted)))
    by false is ih =
        ap (λ b. values_of (cond b es (e ∷ remove_entry (is_at (nat_cmp n)) es))) (same ∙ is)
        ∙ ap (λ ss. e.1 ∷ ss) ih

pub named-removed : (test : ℕ → Bool) (es : Entries) → AreNamed es → AreNamed (remove_entry test es)
named-removed test [] named = tt
named-removed test (e ∷ es) named = by (test e.0) (named-removed test es named.1)
  where
    by : (b : Bool) → AreNamed (remove_entry test es) → AreNamed (cond b es (e ∷ remove_entry test es))
    by true ih = named.1
    by false ih = (named.0, ih)

-- a shred that stands anew, as the child of its parent still
module _ (test : ℕ → Bool) (old new : Standing) (number : new.number ≡ old.number)
    (parent : new.parent ≡ old.parent) where
  pub named-anew : (es : Entries) → lookup test es ≡ Some old → AreNamed es → AreNamed (set_value test es new)
  named-anew [] found named = tt
  named-anew (e ∷ es) found named = by (test e.0) found (λ found. named-anew es found named.1)
    where
      by : (b : Bool) → cond b (Some e.1) (lookup test es) ≡ Some old
          → (lookup test es ≡ Some old → AreNamed (set_value test es new))
          → AreNamed (cond b ((e.0, new) ∷ es) (e ∷ set_value test es new))
      by true found ih =
          let is : e.1 ≡ old = cc found in (
            record {
              name = number ∙ sym (ap (λ (s : Standing). s.number) is) ∙ named.0.name;
              older =
                  omega (
                    arith,
                    number,
                    parent,
                    ap (λ (s : Standing). s.number) is,
                    ap (λ (s : Standing). s.parent) is,
                    named.0.older,
                  );
            },
            named.1,
          )
      by false found ih = (named.0, ih found)

  pub children-anew : (p n : ℕ) (es : Entries) → lookup test es ≡ Some old
      → times_child (λ (s : Standing). s.number) (λ s. s.parent) p n (values_of (set_value test es new))
      ≡ times_child (λ (s : Standing). s.number) (λ s. s.parent) p n (values_of es)
  children-anew p n [] found = refl
  children-anew p n (e ∷ es) found = by (test e.0) found (children-anew p n es)
    where
      number_of : Standing → ℕ
      number_of s = s.number

      parent_of : Standing → ℕ
      parent_of s = s.parent

      by : (b : Bool) → cond b (Some e.1) (lookup test es) ≡ Some old
          → (lookup test es ≡ Some old
          → times_child (λ (s : Standing). s.number) (λ s. s.parent) p n (values_of (set_value test es new))
          ≡ times_child (λ (s : Standing). s.number) (λ s. s.parent) p n (values_of es))
          → times_child (λ (s : Standing). s.number) (λ s. s.parent) p n
          (values_of (cond b ((e.0, new) ∷ es) (e ∷ set_value test es new)))
          ≡ times_child (λ (s : Standing). s.number) (λ s. s.parent) p n (values_of (e ∷ es))
      by true found ih =
          let is : e.1 ≡ old = cc found in
          let marks : mark (λ (s : Standing). s.number) (λ s. s.parent) p n new
          ≡ mark (λ (s : Standing). s.number) (λ s. s.parent) p n e.1 =
          ap (λ k. cond (nat_eq k n && nat_eq new.parent p) 1 0)
          (number ∙ sym (ap (λ (s : Standing). s.number) is))
          ∙ ap (λ k. cond (nat_eq e.1.number n && nat_eq k p) 1 0)
          (parent ∙ sym (ap (λ (s : Standing). s.parent) is)) in
          omega (
            arith,
            marks,
            children-cons (λ (s : Standing). s.number) (λ s. s.parent) p n new (values_of es),
            children-cons (λ (s : Standing). s.number) (λ s. s.parent) p n e.1 (values_of es),
          )
      by false found ih =
          omega (
            arith,
            ih found,
            children-cons (λ (s : Standing). s.number) (λ s. s.parent) p n e.1
                (values_of (set_value test es new)),
            children-cons (λ (s : Standing). s.number) (λ s. s.parent) p n e.1 (values_of es),
          )

-- it stands at its place
pub set-placed : (test : ℕ → Bool) (es : Entries) (old new : Standing) → lookup test es ≡ Some old
    → (place : ℕ) × (slice_get (values_of es) place ≡ Some old)
    × (values_of (set_value test es new) ≡ slice_set (values_of es) place new)
set-placed test [] old new found = absurd (cc found)
set-placed test (e ∷ es) old new found = by (test e.0) found (set-placed test es old new)
  where
    by : (b : Bool) → cond b (Some e.1) (lookup test es) ≡ Some old
        → (lookup test es ≡ Some old → (place : ℕ) × (slice_get (values_of es) place ≡ Some old)
        × (values_of (set_value test es new) ≡ slice_set (values_of es) place new))
        → (place : ℕ) × (slice_get (values_of (e ∷ es)) place ≡ Some old)
        × (values_of (cond b ((e.0, new) ∷ es) (e ∷ set_value test es new))
        ≡ slice_set (values_of (e ∷ es)) place new)
    by true found ih = (0, found, refl)
    by false found ih = let more = ih found in (suc more.0, more.1, ap (λ ss. e.1 ∷ ss) more.2)

-- once it is taken out, all is as if it had not stood anew
pub removed-anew : (test : ℕ → Bool) (es : Entries) (new : Standing)
    → remove_entry test (set_value test es new) ≡ remove_entry test es
removed-anew test [] new = refl
removed-anew test (e ∷ es) new = by (test e.0) refl (removed-anew test es new)
  where
    by : (b : Bool) → test e.0 ≡ b → remove_entry test (set_value test es new) ≡ remove_entry test es
        → remove_entry test (cond b ((e.0, new) ∷ es) (e ∷ set_value test es new))
        ≡ cond b es (e ∷ remove_entry test es)
    by true is ih = ap (λ b. cond b es ((e.0, new) ∷ remove_entry test es)) is
    by false is ih =
        ap (λ b. cond b (set_value test es new) (e ∷ remove_entry test (set_value test es new))) is
        ∙ ap (λ es. e ∷ es) ih
