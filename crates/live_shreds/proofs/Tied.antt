-- Shreds and the queues of their children.
use Rattle.std.proofs.Common.{◌≡◌, ℕ, ◌<◌, ◌≤◌, Bool, true, false, cond, nat_eq, zero, suc, List, [], ◌∷◌, ◌++◌, find, length, slice_index_or, is_some, Option, Some, None, IfSome, IfNone, refl, sym, ap, ◌∙◌, subst, arith}
use Rattle.std.specs.BTreeMap.{BTreeMap, IsOrdered, values, insert_entry, is_at}
use Rattle.std.specs.List.{AllByRecursion, IsAmong}
use Rattle.std.specs.Map.{values_of, remove_entry, set_value, lookup}
use Rattle.std.specs.Ordering.{is_eq, nat_cmp}
use Rattle.std.proofs.lemmas.Bool.{eq-eqb, eqb-true}
use Rattle.std.proofs.lemmas.List.{map-append}
use Rattle.keyed_lists.specs.Keyed
use Rattle.shred_queues.specs.Queues.{arrived}
use Rattle.shred_state.specs.Frames.{Standing}
use Rattle.live_shreds.specs.Live.{numbered, child_of, without, AreBelow, EndsWith, Itself, Child, IsNamed, AreTied, times_child}
use Rattle.live_shreds.proofs.Counts.{found_among, found_passes, mark-other, children-cons, children-append, children-without, children-below, children-none, children-some, child-found, nowhere, children-arrived, asked}
use Rattle.live_shreds.proofs.Entries.{all-older, insert-last, lookup-live, named-append, values-removed, named-removed, named-anew, children-anew}

abbrev pub number_of : Standing → ℕ
number_of s = s.number

abbrev pub parent_of : Standing → ℕ
parent_of s = s.parent

abbrev pub child : ℕ × ℕ → ℕ
child c = c.1

abbrev pub parent : ℕ × ℕ → ℕ
parent c = c.0

-- a child that is first in its queue
pub record ChildAt (shreds : List Standing) (at n : ℕ) : Type 0 where
  pub shred : Standing
  pub among : IsAmong shreds shred
  pub number_is : shred.number ≡ n
  pub parent_is : shred.parent ≡ at
  pub later : at < n

module _ (shreds : BTreeMap ℕ Standing) (children : List (ℕ × ℕ)) (tied : AreTied shreds children) where
  pub first_child : (at : ℕ) (e : ℕ × ℕ) → find (λ c. is_eq (nat_cmp at c.0)) children ≡ Some e
      → ChildAt (values shreds) at e.1
  first_child at e is =
      let found = sym (asked at children) ∙ is in
      let some = children-some child parent at children e found in
      let more : 1 ≤ times_child number_of parent_of at e.1 (values shreds) =
      omega (arith, some, tied.tied at e.1) in
      let it = child-found number_of parent_of (λ s. s.parent < s.number) at e.1 (values shreds)
      (all-older shreds.entries tied.named) more in
      record {
        shred = it.0;
        among = it.1;
        number_is = it.2;
        parent_is = it.3;
        later = omega (arith, it.2, it.3, it.4);
      }

  pub no_child : (at : ℕ) → find (λ c. is_eq (nat_cmp at c.0)) children ≡ None
      → child_of at (values shreds) ≡ None
  no_child at is = by (child_of at (values shreds)) refl
    where
      by : (o : Option Standing) → child_of at (values shreds) ≡ o → child_of at (values shreds) ≡ None
      by None none = none
      by (Some s) found =
          absurd (omega (
            arith,
            children-some number_of parent_of at (values shreds) s found,
            tied.tied at s.number,
            children-none child parent at s.number children (sym (asked at children) ∙ is),
          ))

  -- a shred that joins is nobody's child yet
  pub no_queue : (n : ℕ) → AreBelow n (values shreds) → Keyed.times child n children ≡ 0
  no_queue n below =
      nowhere child parent n children
      (λ p. omega (arith, tied.tied p n, children-below number_of parent_of p n (values shreds) below))

  -- the same shreds
  pub tied_as : (shreds2 : BTreeMap ℕ Standing) → IsOrdered nat_cmp shreds2
      → shreds2.entries ≡ shreds.entries → AreTied shreds2 children
  tied_as shreds2 ordered same = record {
    ordered = ordered;
    named = subst (AllByRecursion IsNamed) (sym same) tied.named;
    tied = λ p m. ap (λ es. times_child number_of parent_of p m (values_of es)) same ∙ tied.tied p m;
  }

  -- and leaves no trace where it could not join
  pub tied_again : (n q : ℕ) (children2 : List (ℕ × ℕ)) (shreds2 : BTreeMap ℕ Standing)
      → AreBelow n (values shreds) → IsOrdered nat_cmp shreds2 → shreds2.entries ≡ shreds.entries
      → children2 ≡ Keyed.without child n (arrived nat_cmp q n children) → AreTied shreds2 children2
  tied_again n q children2 shreds2 below ordered same is = record {
    ordered = ordered;
    named = subst (AllByRecursion IsNamed) (sym same) tied.named;
    tied = λ p m.
        ap (λ es. times_child number_of parent_of p m (values_of es)) same
        ∙ both p m (nat_eq m n) refl
        ∙ sym (children-without child parent p m n (arrived nat_cmp q n children))
        ∙ ap (times_child child parent p m) (sym is);
  }
    where
      both : (p m : ℕ) (b : Bool) → nat_eq m n ≡ b → times_child number_of parent_of p m (values shreds)
          ≡ cond b 0 (times_child child parent p m (arrived nat_cmp q n children))
      both p m true e =
          ap (λ k. times_child number_of parent_of p k (values shreds)) (eqb-true m n e)
          ∙ children-below number_of parent_of p n (values shreds) below
      both p m false e =
          let away = mark-other child parent p m (q, n)
          (λ same. let is = eq-eqb m n (sym same) in absurd (cc (is, e))) in
          omega (arith, tied.tied p m, children-arrived p m q n children, away)

  module _ (s : Standing) (below : AreBelow s.number (values shreds)) where
    pub joined : (es : List (ℕ × Standing)) → es ≡ insert_entry nat_cmp shreds.entries s.number s
        → es ≡ shreds.entries ++ (s.number, s) ∷ []
    joined es is = is ∙ insert-last s.number s shreds.entries tied.named below

    pub joined_values : (es : List (ℕ × Standing)) → es ≡ insert_entry nat_cmp shreds.entries s.number s
        → values_of es ≡ values shreds ++ s ∷ []
    joined_values es is =
        ap values_of (joined es is)
        ∙ map-append (λ (e : ℕ × Standing). e.1) shreds.entries ((s.number, s) ∷ [])

    pub tied_more : (children2 : List (ℕ × ℕ)) (shreds2 : BTreeMap ℕ Standing) → s.parent < s.number
        → IsOrdered nat_cmp shreds2
        → shreds2.entries ≡ insert_entry nat_cmp shreds.entries s.number s
        → children2 ≡ arrived nat_cmp s.parent s.number children → AreTied shreds2 children2
    tied_more children2 shreds2 older ordered is arrives = record {
      ordered = ordered;
      named = subst (AllByRecursion IsNamed) (sym (joined shreds2.entries is))
          (named-append shreds.entries (s.number, s) tied.named (record { name = refl; older = older }));
      tied = λ p m.
          ap (times_child number_of parent_of p m) (joined_values shreds2.entries is)
          ∙ omega (
            arith,
            children-append number_of parent_of p m (values shreds) (s ∷ []),
            children-cons number_of parent_of p m s [],
            tied.tied p m,
            children-arrived p m s.parent s.number children,
            none p m,
          )
          ∙ ap (times_child child parent p m) (sym arrives);
    }
      where
        none : (p m : ℕ) → times_child number_of parent_of p m [] ≡ 0
        none p m = refl

  -- one less
  pub left : (n : ℕ) (es : List (ℕ × Standing)) → es ≡ remove_entry (is_at (nat_cmp n)) shreds.entries
      → values_of es ≡ without n (values shreds)
  left n es is = ap values_of is ∙ values-removed n shreds.entries tied.named tied.ordered

  pub tied_left : (n : ℕ) (children2 : List (ℕ × ℕ)) (shreds2 : BTreeMap ℕ Standing)
      → IsOrdered nat_cmp shreds2 → shreds2.entries ≡ remove_entry (is_at (nat_cmp n)) shreds.entries
      → children2 ≡ Keyed.without child n children → AreTied shreds2 children2
  tied_left n children2 shreds2 ordered is taken = record {
    ordered = ordered;
    named = subst (AllByRecursion IsNamed) (sym is)
        (named-removed (is_at (nat_cmp n)) shreds.entries tied.named);
    tied = λ p m.
        ap (times_child number_of parent_of p m) (left n shreds2.entries is)
        ∙ children-without number_of parent_of p m n (values shreds)
        ∙ ap (cond (nat_eq m n) 0) (tied.tied p m)
        ∙ sym (children-without child parent p m n children)
        ∙ ap (times_child child parent p m) (sym taken);
  }

-- a shred that stands anew, as the child of its parent still
module _ (shreds shreds2 : BTreeMap ℕ Standing) (children : List (ℕ × ℕ)) (tied : AreTied shreds children)
    (n : ℕ) (old new : Standing) (found : lookup (is_at (nat_cmp n)) shreds.entries ≡ Some old)
    (is : shreds2.entries ≡ set_value (is_at (nat_cmp n)) shreds.entries new) where
  pub tied_anew : IsOrdered nat_cmp shreds2 → new.number ≡ old.number → new.parent ≡ old.parent
      → AreTied shreds2 children
  tied_anew ordered number parent = record {
    ordered = ordered;
    named = subst (AllByRecursion IsNamed) (sym is)
        (named-anew (is_at (nat_cmp n)) old new number parent shreds.entries found tied.named);
    tied = λ p m.
        ap (λ es. times_child number_of parent_of p m (values_of es)) is
        ∙ children-anew (is_at (nat_cmp n)) old new number parent p m shreds.entries found ∙ tied.tied p m;
  }

-- the one that a map has at a number has that number
pub found_number : (shreds : BTreeMap ℕ Standing) (n : ℕ) (old : Standing) → AllByRecursion IsNamed shreds.entries
    → lookup (is_at (nat_cmp n)) shreds.entries ≡ Some old → old.number ≡ n
found_number shreds n old named found =
    eqb-true old.number n
    (found_passes (λ (s : Standing). nat_eq s.number n) (values shreds) old
    (sym (lookup-live n shreds.entries named) ∙ found))

-- who is among the shreds is live
among_live : (s : Standing) (shreds : List Standing) (i : ℕ) → i < length shreds → s ≡ slice_index_or shreds i s
    → is_some (numbered s.number shreds) ≡ true
among_live s [] i lt is = absurd (omega (arith, lt))
among_live s (t ∷ shreds) zero lt is =
    ap (λ b. is_some (cond b (Some t) (numbered s.number shreds)))
    (eq-eqb t.number s.number (ap (λ (s : Standing). s.number) (sym is)))
among_live s (t ∷ shreds) (suc i) lt is =
    by (nat_eq t.number s.number) (among_live s shreds i (omega (arith, lt)) is)
  where
    by : (b : Bool) → is_some (numbered s.number shreds) ≡ true
        → is_some (cond b (Some t) (numbered s.number shreds)) ≡ true
    by true ih = refl
    by false ih = ih

-- so is who ends with a live one
pub ending_live : (n m : ℕ) (shreds : List Standing) → EndsWith shreds n m
    → is_some (numbered n shreds) ≡ true → is_some (numbered m shreds) ≡ true
ending_live n m shreds Itself some = some
ending_live n m shreds (Child s among up) some = among_live s shreds among.0 among.1.0 among.1.1

-- the shred that was found has its number, and is there
pub taken_has : (n : ℕ) (shreds : List Standing) (o : Option Standing) (P : ℕ → Type 0)
    → o ≡ numbered n shreds → P n → IfSome o (λ s. P s.number)
taken_has n shreds None P is holds = tt
taken_has n shreds (Some s) P is holds =
    subst P (sym (eqb-true s.number n (found_passes (λ s. nat_eq s.number n) shreds s (sym is)))) holds

pub taken_among : (n : ℕ) (shreds : List Standing) (o : Option Standing) → o ≡ numbered n shreds
    → IfSome o (λ s. IsAmong shreds s)
taken_among n shreds None is = tt
taken_among n shreds (Some s) is = found_among (λ (s : Standing). nat_eq s.number n) shreds s (sym is)

pub none_taken : (A : Type 0) (o : Option Standing) → is_some o ≡ true → IfNone o A
none_taken A None some = absurd (cc some)
none_taken A (Some s) some = tt

pub none_by : {A : Type 0} (o : Option A) → ((x : A) → o ≡ Some x → ⊥) → o ≡ None
none_by None others = refl
none_by (Some x) others = absurd (others x refl)

pub with_none : {A : Type 0} (o : Option A) (P : Type 0) → o ≡ None → IfNone o P → P
with_none None P is holds = holds
with_none (Some x) P is holds = absurd (cc is)
